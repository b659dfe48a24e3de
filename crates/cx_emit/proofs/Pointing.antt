-- Where code stands for the place that a pointer points to the machine follows it.
use Rattle.std.proofs.Common.{◌≡◌, ℕ, ◌-◌, pos, List, ◌∷◌, Some, None, refl, sym, ap, ◌∙◌, arith}
use Rattle.cx_code.specs.declared.image.Image.{Image}
use Rattle.cx_code.specs.declared.operation.Operation.TheVariants as does
use Rattle.cx_code.specs.declared.operation.Scalar.TheVariants as scalars
use Rattle.cx_code.specs.declared.run.Value.{Value}
use Rattle.cx_code.specs.declared.run.Value.TheVariants as values
use Rattle.cx_code.specs.State.{State}
use Rattle.cx_code.specs.Run.{step, acted}
use Rattle.cx_core.specs.Words.{Null, Undefined}
use Rattle.cx_core.specs.Event.{ended}
use Rattle.cx_core.specs.Store as store
use Rattle.cx_core.specs.Store.{number, address, null, violation}
use Rattle.cx_core.specs.Outcome as source
use Rattle.cx_core.specs.Outcome.{on, over, Does, either, gives, throws, ends, spend, place_of}
use Rattle.cx_core.specs.Operators.{indirection_of}
use Rattle.cx_simulation.specs.Machine.{goes, begins_ahead}
use Rattle.cx_simulation.specs.ImageMachine.{progress, image_step}
use Rattle.cx_simulation.specs.Parts.{Follows}
use Rattle.cx_simulation.proofs.Parts.{follows_one, follows_step, told_on}
use Rattle.cx_emit.specs.Values.{IsValue}
use Rattle.cx_emit.specs.Configuration.{running_at, operation_at, Has, Agrees, AreKept, Gives}
use Rattle.cx_emit.specs.Laws.{of_expression, of_operand}
use Rattle.cx_emit.proofs.Places.{all_kept, gives_on, at_place, Valued}
use Rattle.cx_emit.proofs.Valuing.{account, value_then, unit_then}

module _ (image : Image) (function : ℕ) (Fly : source.State → State → source.Exception → State → source.State → Type 0)
    (fly_on : (s t : source.State) (m d : State) → AreKept s m t d → (x : source.Exception) (e : State) (u : source.State) → Fly t d x e u → Fly s m x e u)
    (p q r s to : ℕ) (doubles : Has image function p does.Duplicate q) (converts : Has image function q (does.Convert scalars.Bool) r) (jumps : Has image function r (does.JumpNonzero to) s) (loads : operation_at image function s ≡ Some does.Load) where
  -- the pointer is asked whether it is null, and stays
  module _ (w : Value) (operands : List Value) (n : ℕ) (t : source.State) (m : State) (agrees : Agrees function t m) (told : t.begins ≡ begins_ahead (image_step image) n (running_at m q (w ∷ w ∷ operands))) where
    abbrev Points : source.Outcome store.Value → Type 0
    Points o = Follows (image_step image) n t (running_at m q (w ∷ w ∷ operands)) (account 0 3 3) (Gives function to operands t m) (Fly t m) o

    not_null : (a : store.Address) → w ≡ values.Address a.object a.leaf → Points (on (address a) t)
    not_null a e =
        let asked : image_step image (running_at m q (w ∷ w ∷ operands)) ≡ goes (running_at m r (values.Number (pos 1) ∷ w ∷ operands)) None =
        ap (λ x. image_step image (running_at m q (x ∷ w ∷ operands))) e ∙ at_place image function Fly t m q r (values.Address a.object a.leaf ∷ w ∷ operands) (does.Convert scalars.Bool) agrees converts
        ∙ ap (λ i. goes (running_at m i (values.Number (pos 1) ∷ w ∷ operands)) None) (sym converts.next) in
        follows_step (image_step image) n t (running_at m q (w ∷ w ∷ operands)) (running_at m r (values.Number (pos 1) ∷ w ∷ operands)) (account 0 2 2) (account 0 3 3) (Gives function to operands t m) (Fly t m) (on (address a) t) asked (omega arith) (omega arith) (omega arith)
        (follows_one (image_step image) (n - 1) t (running_at m r (values.Number (pos 1) ∷ w ∷ operands)) (account 0 2 2) (Gives function to operands t m) (Fly t m) (on (address a) t) (omega arith) (omega arith)
        (told_on (image_step image) n (running_at m q (w ∷ w ∷ operands)) (running_at m r (values.Number (pos 1) ∷ w ∷ operands)) None t.begins t.begins asked told refl)
        (record {
          to = running_at m to (w ∷ operands);
          event = None;
          goes_so = at_place image function Fly t m r s (values.Number (pos 1) ∷ w ∷ operands) (does.JumpNonzero to) agrees jumps;
          noted_so = refl;
          begun_so = refl;
          same_budget = refl;
          stands = record { machine = m; value = w; is_there = refl; same_value = e; agrees = agrees; kept = all_kept t m };
        }))

    -- a null pointer is read
    is_null : w ≡ values.Null → Points (over (ended (Undefined Null)) t.trace)
    unfolding step
    is_null e =
        let asked : image_step image (running_at m q (w ∷ w ∷ operands)) ≡ goes (running_at m r (values.Number (pos 0) ∷ w ∷ operands)) None =
        ap (λ x. image_step image (running_at m q (x ∷ w ∷ operands))) e ∙ at_place image function Fly t m q r (values.Null ∷ w ∷ operands) (does.Convert scalars.Bool) agrees converts
        ∙ ap (λ i. goes (running_at m i (values.Number (pos 0) ∷ w ∷ operands)) None) (sym converts.next) in
        let falls : image_step image (running_at m r (values.Number (pos 0) ∷ w ∷ operands)) ≡ goes (running_at m s (w ∷ operands)) None =
        at_place image function Fly t m r s (values.Number (pos 0) ∷ w ∷ operands) (does.JumpNonzero to) agrees jumps ∙ ap (λ i. goes (running_at m i (w ∷ operands)) None) (sym jumps.next) in
        let later = told_on (image_step image) n (running_at m q (w ∷ w ∷ operands)) (running_at m r (values.Number (pos 0) ∷ w ∷ operands)) None t.begins t.begins asked told refl in
        follows_step (image_step image) n t (running_at m q (w ∷ w ∷ operands)) (running_at m r (values.Number (pos 0) ∷ w ∷ operands)) (account 0 2 2) (account 0 3 3) (Gives function to operands t m) (Fly t m) (over (ended (Undefined Null)) t.trace) asked (omega arith) (omega arith) (omega arith)
        (follows_step (image_step image) (n - 1) t (running_at m r (values.Number (pos 0) ∷ w ∷ operands)) (running_at m s (w ∷ operands)) (account 0 1 1) (account 0 2 2) (Gives function to operands t m) (Fly t m) (over (ended (Undefined Null)) t.trace) falls (omega arith) (omega arith) (omega arith)
        (follows_one (image_step image) (n - 1 - 1) t (running_at m s (w ∷ operands)) (account 0 1 1) (Gives function to operands t m) (Fly t m) (over (ended (Undefined Null)) t.trace) (omega arith) (omega arith)
        (told_on (image_step image) (n - 1) (running_at m r (values.Number (pos 0) ∷ w ∷ operands)) (running_at m s (w ∷ operands)) None t.begins t.begins falls later refl)
        (λ other. record {
          event = None;
          halts_so = ap (λ x. image_step image (running_at m s (x ∷ operands))) e
              ∙ ap (λ o. progress image (acted image (running_at m s (values.Null ∷ operands)) o)) (ap (λ f. operation_at image f s) agrees.in_function ∙ loads);
          noted_so = refl;
        })))

    points : (v : store.Value) → IsValue v w → Points (either (place_of v) (λ a. gives (address a)) throws t)
    unfolding either gives ends throws
    points (address a) is = not_null a is
    points null is = is_null is
    points (number k) is = record { comes = λ other. absurd (other refl) }
    points (store.function k) is = absurd is
    points (violation k) is = absurd is

  pub indirection_follows : (part : Does store.Value) (from : ℕ) → Valued image function Fly of_operand part from p → Valued image function Fly of_expression (indirection_of part) from to
  indirection_follows part from follows n operands =
      value_then image function Fly fly_on of_operand (account 28 0 0) of_expression part (λ v. either spend (λ _. either (place_of v) (λ a. gives (address a)) throws) throws) from p (Gives function to operands)
      (record { goes_on = omega arith; left_first = omega arith; left_second = omega arith; in_hand = omega arith }) (gives_on function to operands) follows operands
      (λ v w is k t m agrees told. unit_then image function Fly fly_on (Gives function to operands) (gives_on function to operands) (account 0 3 3) (account 28 0 0) (either (place_of v) (λ a. gives (address a)) throws) p q (w ∷ operands) (w ∷ w ∷ operands)
      (record { goes_on = omega arith; left_first = omega arith; left_second = omega arith; in_hand = omega arith }) k t m agrees told
      (at_place image function Fly t m p q (w ∷ operands) does.Duplicate agrees doubles ∙ ap (λ i. goes (running_at m i (w ∷ w ∷ operands)) None) (sym doubles.next))
      (λ j u agrees kept told. points w operands j u m agrees told v is)) n
