-- Where code stands for an expression that goes on by the truth of an operand the machine follows it, as it follows its operands.
use Rattle.std.proofs.Common.{◌≡◌, ℕ, ◌+◌, pos, List, ◌∷◌, Some, None, Bool, true, false, not, if◌then◌else◌, refl, sym, ap, ◌∙◌, subst, arith}
use Rattle.std.specs.Ordering.{int_eq}
use Rattle.cx_code.specs.declared.image.Image.{Image}
use Rattle.cx_code.specs.declared.operation.Operation.TheVariants as does
use Rattle.cx_code.specs.declared.operation.Scalar.TheVariants as scalars
use Rattle.cx_code.specs.declared.run.Value.{Value}
use Rattle.cx_code.specs.declared.run.Value.TheVariants as values
use Rattle.cx_code.specs.Arithmetic.{value_as}
use Rattle.cx_code.specs.State.{State}
use Rattle.cx_code.specs.Act.{next, on_some, mixed}
use Rattle.cx_core.specs.Number.{truth_number}
use Rattle.cx_core.specs.Store as store
use Rattle.cx_core.specs.Store.{number, address, null, violation}
use Rattle.cx_core.specs.Outcome as source
use Rattle.cx_core.specs.Outcome.{on, Does, either, gives, throws, ends, spend}
use Rattle.cx_core.specs.Check.{truth}
use Rattle.cx_core.specs.Operators.{truth_value, logical_operation, conditional_operation, cast_operation}
use Rattle.cx_simulation.specs.Machine.{goes, begins_ahead}
use Rattle.cx_simulation.specs.ImageMachine.{progress, image_step}
use Rattle.cx_simulation.specs.Parts.{Account, Follows, StepsTo, Steps}
use Rattle.cx_simulation.proofs.Parts.{follows_then, follows_less, follows_one}
use Rattle.cx_simulation.proofs.Changes.{follows_more}
use Rattle.cx_emit.specs.Values.{IsValue}
use Rattle.cx_emit.specs.Configuration.{running_at, operation_at, Has, Agrees, AreKept, IsAt, Gives}
use Rattle.cx_emit.specs.Laws.{of_expression, of_operand}
use Rattle.cx_emit.proofs.Places.{all_kept, kept_on, gives_on, at_place, with_budget, jumps_to, puts, PutsValue, Valued}
use Rattle.cx_emit.proofs.Valuing.{account, value_then, unit_follows, unit_then}

module _ (image : Image) (function : ℕ) (Fly : source.State → State → source.Exception → State → source.State → Type 0)
    (fly_on : (s t : source.State) (m d : State) → AreKept s m t d → (x : source.Exception) (e : State) (u : source.State) → Fly t d x e u → Fly s m x e u) where
  -- ---- a value that is converted to `bool`

  abbrev pub Judges : ℕ → List Value → source.State → State → Bool → State → source.State → Type 0
  Judges to operands s m b d t = IsAt function to (values.Number (truth_number b) ∷ operands) s m d t

  pub judges_on : (to : ℕ) (operands : List Value) (s t : source.State) (m d : State) → AreKept s m t d → (b : Bool) (e : State) (u : source.State) → Judges to operands t d b e u → Judges to operands s m b e u
  judges_on to operands s t m d k b e u g = record { machine = g.machine; is_there = g.is_there; agrees = g.agrees; kept = kept_on s t u m d g.machine k g.kept }

  truth_step : (from to : ℕ) → Has image function from (does.Convert scalars.Bool) to → (operands : List Value) (s : source.State) (m : State) → Agrees function s m → (w : Value) (b : Bool) → value_as scalars.Bool w ≡ Some (truth_number b)
      → StepsTo (image_step image) s (running_at m from (w ∷ operands)) (λ d. Judges to operands s m b d s) s
  truth_step from to h operands s m a w b e =
      record {
        to = running_at m (from + 1) (values.Number (truth_number b) ∷ operands);
        event = None;
        goes_so = at_place image function Fly s m from to (w ∷ operands) (does.Convert scalars.Bool) a h ∙ ap (λ r. progress image (on_some r mixed (λ z. next (running_at m from (w ∷ operands)) (values.Number z ∷ operands)))) e;
        noted_so = refl;
        begun_so = refl;
        same_budget = refl;
        stands = record { machine = m; is_there = ap (λ p. running_at m p (values.Number (truth_number b) ∷ operands)) (sym h.next); agrees = a; kept = all_kept s m };
      }

  pub truth_steps : (from to : ℕ) → Has image function from (does.Convert scalars.Bool) to → (operands : List Value) (s : source.State) (m : State) → Agrees function s m → (v : store.Value) (w : Value) → IsValue v w
      → Steps (image_step image) s (running_at m from (w ∷ operands)) (Judges to operands s m) (Fly s m) (truth v s)
  unfolding gives ends
  truth_steps from to h operands s m a (number x) w is = truth_step from to h operands s m a w (not (int_eq x (pos 0))) (ap (value_as scalars.Bool) is)
  truth_steps from to h operands s m a (address x) w is = truth_step from to h operands s m a w true (ap (value_as scalars.Bool) is)
  truth_steps from to h operands s m a null w is = truth_step from to h operands s m a w false (ap (value_as scalars.Bool) is)
  truth_steps from to h operands s m a (store.function x) w is = absurd is
  truth_steps from to h operands s m a (violation x) w is = absurd is

  pub judges_follows : (part : Does store.Value) (from p q : ℕ) → Valued image function Fly of_operand part from p → Has image function p (does.Convert scalars.Bool) q
      → (n : ℕ) (operands : List Value) (s : source.State) (m : State) → Agrees function s m → s.begins ≡ begins_ahead (image_step image) n (running_at m from operands)
      → Follows (image_step image) n s (running_at m from operands) (account 11 0 0) (Judges q operands s m) (Fly s m) (either part truth throws s)
  judges_follows part from p q follows h n operands =
      value_then image function Fly fly_on of_operand (account 0 1 1) (account 11 0 0) part truth from p (Judges q operands)
      (record { goes_on = omega arith; left_first = omega arith; left_second = omega arith; in_hand = omega arith }) (judges_on q operands) follows operands
      (λ v w is k s m a told. follows_one (image_step image) k s (running_at m p (w ∷ operands)) (account 0 1 1) (Judges q operands s m) (Fly s m) (truth v s) (omega arith) (omega arith) told (truth_steps p q h operands s m a v w is)) n

  -- ---- what goes on by it, at the one place or the other

  JumpsBy : (from one other : ℕ) → Type 0
  JumpsBy from one other =
      (b : Bool) (operands : List Value) (s : source.State) (m : State) → Agrees function s m → image_step image (running_at m from (values.Number (truth_number b) ∷ operands)) ≡ goes (running_at m (if b then one else other) operands) None

  jumps_zero : (from one other : ℕ) → Has image function from (does.JumpZero other) one → JumpsBy from one other
  unfolding JumpsBy
  jumps_zero from one other h true operands s m a = at_place image function Fly s m from one (values.Number (pos 1) ∷ operands) (does.JumpZero other) a h ∙ ap (λ p. goes (running_at m p operands) None) (sym h.next)
  jumps_zero from one other h false operands s m a = at_place image function Fly s m from one (values.Number (pos 0) ∷ operands) (does.JumpZero other) a h

  jumps_nonzero : (from one other : ℕ) → Has image function from (does.JumpNonzero one) other → JumpsBy from one other
  unfolding JumpsBy
  jumps_nonzero from one other h true operands s m a = at_place image function Fly s m from other (values.Number (pos 1) ∷ operands) (does.JumpNonzero one) a h
  jumps_nonzero from one other h false operands s m a = at_place image function Fly s m from other (values.Number (pos 0) ∷ operands) (does.JumpNonzero one) a h ∙ ap (λ p. goes (running_at m p operands) None) (sym h.next)

  -- what is done at each of them may ask for two steps
  abbrev of_branch : Account
  of_branch = account 0 2 2

  by_truth : (part : Does store.Value) (rest : Bool → Does store.Value) (from p q one other to : ℕ) → Valued image function Fly of_operand part from p → Has image function p (does.Convert scalars.Bool) q → JumpsBy q one other
      → ((b : Bool) → Valued image function Fly of_branch (rest b) (if b then one else other) to)
      → Valued image function Fly of_expression (either (either part truth throws) (λ b. either spend (λ _. rest b) throws) throws) from to
  unfolding JumpsBy
  by_truth part rest from p q one other to follows h jumps branches n operands s m a told =
      follows_then (image_step image) n s (running_at m from operands) (account 11 0 0) (account 29 0 0) of_expression (Judges q operands s m) (Gives function to operands s m) (Fly s m) (either part truth throws) (λ b. either spend (λ _. rest b) throws)
      (record { goes_on = omega arith; left_first = omega arith; left_second = omega arith; in_hand = omega arith }) (judges_follows part from p q follows h n operands s m a told) behind
    where
      behind : (b : Bool) (t : source.State) (d : State) (k : ℕ) → Judges q operands s m b d t → t.begins ≡ begins_ahead (image_step image) k d → Follows (image_step image) k t d (account 29 0 0) (Gives function to operands s m) (Fly s m) (either spend (λ _. rest b) throws t)
      behind b t d k g told =
          subst (λ d. Follows (image_step image) k t d (account 29 0 0) (Gives function to operands s m) (Fly s m) (either spend (λ _. rest b) throws t)) (sym g.is_there)
          (follows_less (image_step image) k t (running_at g.machine q (values.Number (truth_number b) ∷ operands)) (account 29 0 0) (account 29 0 0) (Gives function to operands t g.machine) (Gives function to operands s m) (Fly t g.machine) (Fly s m) (either spend (λ _. rest b) throws t)
          (record { goes_on = omega arith; left = omega arith; in_hand = omega arith }) (gives_on function to operands s t m g.machine g.kept) (fly_on s t m g.machine g.kept)
          (unit_then image function Fly fly_on (Gives function to operands) (gives_on function to operands) of_branch (account 29 0 0) (rest b) q (if b then one else other) (values.Number (truth_number b) ∷ operands) operands
          (record { goes_on = omega arith; left_first = omega arith; left_second = omega arith; in_hand = omega arith }) k t g.machine g.agrees (told ∙ ap (begins_ahead (image_step image) k) g.is_there) (jumps b operands t g.machine g.agrees)
          (λ k u agrees kept told. branches b k operands u g.machine agrees told)))

  -- a constant
  pushes : (z : ℕ) (from to : ℕ) → Has image function from (does.Push (pos z)) to → Valued image function Fly of_branch (gives (number (pos z))) from to
  unfolding gives
  pushes z from to h n operands s m a told =
      follows_one (image_step image) n s (running_at m from operands) of_branch (Gives function to operands s m) (Fly s m) (on (number (pos z)) s) (omega arith) (omega arith) told
      (puts image function Fly s m s.budget from to operands operands (number (pos z)) (values.Number (pos z)) a refl h.next (at_place image function Fly s m from to operands (does.Push (pos z)) a h))

  -- a value, and a jump behind it
  and_jumps : (v : store.Value) (w : Value) → IsValue v w → (from to : ℕ) → operation_at image function from ≡ Some (does.Jump to) → (n : ℕ) (operands : List Value) (s : source.State) (m : State) → Agrees function s m → s.begins ≡ begins_ahead (image_step image) n (running_at m from (w ∷ operands))
      → Follows (image_step image) n s (running_at m from (w ∷ operands)) (account 0 1 1) (Gives function to operands s m) (Fly s m) (gives v s)
  unfolding gives
  and_jumps v w is from to h n operands s m a told =
      follows_one (image_step image) n s (running_at m from (w ∷ operands)) (account 0 1 1) (Gives function to operands s m) (Fly s m) (on v s) (omega arith) (omega arith) told
      (record {
        to = running_at m to (w ∷ operands);
        event = None;
        goes_so = jumps_to image function Fly s m from to (w ∷ operands) a h;
        noted_so = refl;
        begun_so = refl;
        same_budget = refl;
        stands = record { machine = m; value = w; is_there = refl; same_value = is; agrees = a; kept = all_kept s m };
      })

  -- the truth of the right operand
  right_follows : (part : Does store.Value) (from p q to : ℕ) → Valued image function Fly of_operand part from p → Has image function p (does.Convert scalars.Bool) q → operation_at image function q ≡ Some (does.Jump to)
      → Valued image function Fly of_branch (either (either part truth throws) (λ y. gives (truth_value y)) throws) from to
  right_follows part from p q to follows h jumps n operands s m a told =
      follows_then (image_step image) n s (running_at m from operands) (account 11 0 0) (account 0 1 1) of_branch (Judges q operands s m) (Gives function to operands s m) (Fly s m) (either part truth throws) (λ y. gives (truth_value y))
      (record { goes_on = omega arith; left_first = omega arith; left_second = omega arith; in_hand = omega arith }) (judges_follows part from p q follows h n operands s m a told)
      (λ b t d k g told. subst (λ d. Follows (image_step image) k t d (account 0 1 1) (Gives function to operands s m) (Fly s m) (gives (truth_value b) t)) (sym g.is_there)
      (follows_less (image_step image) k t (running_at g.machine q (values.Number (truth_number b) ∷ operands)) (account 0 1 1) (account 0 1 1) (Gives function to operands t g.machine) (Gives function to operands s m) (Fly t g.machine) (Fly s m) (gives (truth_value b) t)
      (record { goes_on = omega arith; left = omega arith; in_hand = omega arith }) (gives_on function to operands s t m g.machine g.kept) (fly_on s t m g.machine g.kept)
      (and_jumps (truth_value b) (values.Number (truth_number b)) refl q to jumps k operands t g.machine g.agrees (told ∙ ap (begins_ahead (image_step image) k) g.is_there))))

  -- ---- the expressions

  module _ (left right : Does store.Value) (from p q r s t other to : ℕ) (first : Valued image function Fly of_operand left from p) (converts : Has image function p (does.Convert scalars.Bool) q)
      (second : Valued image function Fly of_operand right r s) (converts_too : Has image function s (does.Convert scalars.Bool) t) (jumps : operation_at image function t ≡ Some (does.Jump to)) where
    pub and_follows : Has image function q (does.JumpZero other) r → Has image function other (does.Push (pos 0)) to → Valued image function Fly of_expression (logical_operation false left right) from to
    and_follows h k =
        by_truth left (λ x. if not x then gives (truth_value false) else either (either right truth throws) (λ y. gives (truth_value y)) throws) from p q r other to first converts (jumps_zero q r other h) branches
      where
        branches : (b : Bool) → Valued image function Fly of_branch (if not b then gives (truth_value false) else either (either right truth throws) (λ y. gives (truth_value y)) throws) (if b then r else other) to
        branches true = right_follows right r s t to second converts_too jumps
        branches false = pushes 0 other to k

    pub or_follows : Has image function q (does.JumpNonzero other) r → Has image function other (does.Push (pos 1)) to → Valued image function Fly of_expression (logical_operation true left right) from to
    or_follows h k =
        by_truth left (λ x. if x then gives (truth_value true) else either (either right truth throws) (λ y. gives (truth_value y)) throws) from p q other r to first converts (jumps_nonzero q other r h) branches
      where
        branches : (b : Bool) → Valued image function Fly of_branch (if b then gives (truth_value true) else either (either right truth throws) (λ y. gives (truth_value y)) throws) (if b then other else r) to
        branches true = pushes 1 other to k
        branches false = right_follows right r s t to second converts_too jumps

  -- an operand, and a jump behind it
  jumped : (part : Does store.Value) (from p to : ℕ) → Valued image function Fly of_operand part from p → operation_at image function p ≡ Some (does.Jump to) → Valued image function Fly of_branch part from to
  jumped part from p to follows h n operands s m a told =
      follows_more (image_step image) n s (running_at m from operands) of_operand (account 0 1 1) of_branch (Gives function p operands s m) (Gives function to operands s m) (Fly s m) (part s)
      (record { goes_on = omega arith; left_first = omega arith; left_second = omega arith; in_hand = omega arith }) (follows n operands s m a told)
      (λ v t d k g told. subst (λ d. Follows (image_step image) k t d (account 0 1 1) (Gives function to operands s m) (Fly s m) (gives v t)) (sym g.is_there)
      (follows_less (image_step image) k t (running_at g.machine p (g.value ∷ operands)) (account 0 1 1) (account 0 1 1) (Gives function to operands t g.machine) (Gives function to operands s m) (Fly t g.machine) (Fly s m) (gives v t)
      (record { goes_on = omega arith; left = omega arith; in_hand = omega arith }) (gives_on function to operands s t m g.machine g.kept) (fly_on s t m g.machine g.kept)
      (and_jumps v g.value g.same_value p to h k operands t g.machine g.agrees (told ∙ ap (begins_ahead (image_step image) k) g.is_there))))

  pub conditional_follows : (condition first second : Does store.Value) (from p q r s other to : ℕ) → Valued image function Fly of_operand condition from p → Has image function p (does.Convert scalars.Bool) q → Has image function q (does.JumpZero other) r
      → Valued image function Fly of_operand first r s → operation_at image function s ≡ Some (does.Jump to) → Valued image function Fly of_operand second other to
      → Valued image function Fly of_expression (conditional_operation condition first second) from to
  conditional_follows condition first second from p q r s other to follows h jumps one jump two = by_truth condition (λ x. if x then first else second) from p q r other to follows h (jumps_zero q r other jumps) branches
    where
      branches : (b : Bool) → Valued image function Fly of_branch (if b then first else second) (if b then r else other) to
      branches true = jumped first r s to one jump
      branches false =
          λ n operands s m a told. follows_less (image_step image) n s (running_at m other operands) of_operand of_branch (Gives function to operands s m) (Gives function to operands s m) (Fly s m) (Fly s m) (second s)
          (record { goes_on = omega arith; left = omega arith; in_hand = omega arith }) (λ v d t g. g) (λ e d t f. f) (two n operands s m a told)

  pub cast_follows : (part : Does store.Value) (from p to : ℕ) → Valued image function Fly of_operand part from p → operation_at image function p ≡ Some (does.Jump to) → Valued image function Fly of_expression (cast_operation part) from to
  unfolding gives
  cast_follows part from p to follows h n operands =
      value_then image function Fly fly_on of_operand (account 31 0 0) of_expression part (λ x. either spend (λ _. gives x) throws) from p (Gives function to operands)
      (record { goes_on = omega arith; left_first = omega arith; left_second = omega arith; in_hand = omega arith }) (gives_on function to operands) follows operands
      (λ v w is k s m a told. unit_follows image function Fly fly_on (gives v) p to (w ∷ operands) operands k s m told (λ budget. jumps_on v w is s m budget a)) n
    where
      jumps_on : (v : store.Value) (w : Value) → IsValue v w → (s : source.State) (m : State) (budget : ℕ) → Agrees function s m → PutsValue image function Fly s m budget p to (w ∷ operands) operands (gives v (record s { budget = budget }))
      jumps_on v w is s m budget a =
          record {
            to = running_at m to (w ∷ operands);
            event = None;
            goes_so = jumps_to image function Fly s m p to (w ∷ operands) a h;
            noted_so = refl;
            begun_so = refl;
            same_budget = refl;
            stands = record { machine = m; value = w; is_there = refl; same_value = is; agrees = with_budget image function Fly s m budget a; kept = record { same_frame = refl; same_store = refl; same_number = refl; same_living = refl; same_temporaries = refl; same_held = refl; same_slots = refl; same_pending = refl; same_below = refl; same_exceptions = refl } };
          }
