-- One instruction of the machine at a place where the machine stands for a state of the meaning.
use Rattle.std.proofs.Common.{◌≡◌, ℕ, ◌+◌, ℤ, List, ◌∷◌, Option, Some, None, refl, sym, ap, ◌∙◌, subst}
use Rattle.std.specs.Prelude.{Result}
use Rattle.cx_code.specs.declared.code.Region.{Region}
use Rattle.cx_code.specs.declared.image.Image.{Image}
use Rattle.cx_code.specs.declared.operation.Operation.{Operation}
use Rattle.cx_code.specs.declared.operation.Operation.TheVariants as does
use Rattle.cx_code.specs.declared.run.Value.{Value}
use Rattle.cx_code.specs.declared.run.Value.TheVariants as values
use Rattle.cx_code.specs.Arithmetic.{Computed, Gives as Computes, Fails}
use Rattle.cx_code.specs.State.{State}
use Rattle.cx_code.specs.Act.{act, next, on_computed}
use Rattle.cx_code.specs.Run.{step, acted}
use Rattle.cx_core.specs.Words.{Kind}
use Rattle.cx_core.specs.Store as store
use Rattle.cx_core.specs.Outcome as source
use Rattle.cx_core.specs.Outcome.{on, over, Does, either, gives, throws, ends}
use Rattle.cx_core.specs.Operators.{number_given}
use Rattle.cx_simulation.specs.Machine.{goes, begins_ahead}
use Rattle.cx_simulation.specs.ImageMachine.{progress, image_step}
use Rattle.cx_simulation.specs.Parts.{Account, Follows, StepsTo, Steps}
use Rattle.cx_emit.specs.Values.{IsValue}
use Rattle.cx_emit.specs.Configuration.{running_at, operation_at, Has, Agrees, AreKept, Gives, Flies}
use Rattle.cx_emit.specs.Stands.{HasSome}
use Rattle.cx_emit.proofs.Numbers.{as_result}

pub all_kept : (s : source.State) (m : State) → AreKept s m s m
all_kept s m = record { same_frame = refl; same_store = refl; same_number = refl; same_living = refl; same_temporaries = refl; same_held = refl; same_slots = refl; same_pending = refl; same_below = refl; same_exceptions = refl }

pub kept_on : (s t u : source.State) (m d e : State) → AreKept s m t d → AreKept t d u e → AreKept s m u e
kept_on s t u m d e a b =
    record {
      same_frame = b.same_frame ∙ a.same_frame;
      same_store = b.same_store ∙ a.same_store;
      same_number = b.same_number ∙ a.same_number;
      same_living = b.same_living ∙ a.same_living;
      same_temporaries = b.same_temporaries ∙ a.same_temporaries;
      same_held = b.same_held ∙ a.same_held;
      same_slots = b.same_slots ∙ a.same_slots;
      same_pending = b.same_pending ∙ a.same_pending;
      same_below = b.same_below ∙ a.same_below;
      same_exceptions = b.same_exceptions ∙ a.same_exceptions;
    }

pub gives_on : (function place : ℕ) (operands : List Value) (s t : source.State) (m d : State) → AreKept s m t d
    → (v : store.Value) (e : State) (u : source.State) → Gives function place operands t d v e u → Gives function place operands s m v e u
gives_on function place operands s t m d k v e u g =
    record { machine = g.machine; value = g.value; is_there = g.is_there; same_value = g.same_value; agrees = g.agrees; kept = kept_on s t u m d g.machine k g.kept }

pub flies_on : (image : Image) (function : ℕ) (outer : List (ℕ × Region)) (s t : source.State) (m d : State) → AreKept s m t d
    → (x : source.Exception) (e : State) (u : source.State) → Flies image function outer t d x e u → Flies image function outer s m x e u
flies_on image function outer s t m d k x e u f =
    record {
      machine = f.machine;
      place = f.place;
      operands = f.operands;
      exception = f.exception;
      after = f.after;
      is_there = f.is_there;
      same_object = f.same_object;
      whole = f.whole;
      still = f.still;
      agrees = f.agrees;
      kept = kept_on s t u m d f.machine k f.kept;
    }

-- the instruction that there is
pub has_some : (image : Image) (function from to : ℕ) (o : Option Operation) → HasSome image function from o to → (operation : Operation) × (o ≡ Some operation) × Has image function from operation to
has_some image function from to None h = absurd h
has_some image function from to (Some operation) h = (operation, refl, h)

module _ (image : Image) (function : ℕ) (Fly : source.State → State → source.Exception → State → source.State → Type 0) where
  pub at_place : (s : source.State) (m : State) (from to : ℕ) (operands : List Value) (operation : Operation) → Agrees function s m → Has image function from operation to
      → image_step image (running_at m from operands) ≡ progress image (act image operation (running_at m from operands))
  unfolding step
  at_place s m from to operands operation a h =
      ap (λ o. progress image (acted image (running_at m from operands) o)) (ap (λ f. operation_at image f from) a.in_function ∙ h.here)

  -- a jump
  pub jumps_to : (s : source.State) (m : State) (from to : ℕ) (operands : List Value) → Agrees function s m → operation_at image function from ≡ Some (does.Jump to) → image_step image (running_at m from operands) ≡ goes (running_at m to operands) None
  unfolding step
  jumps_to s m from to operands a h = ap (λ o. progress image (acted image (running_at m from operands) o)) (ap (λ f. operation_at image f from) a.in_function ∙ h)

  -- a state that stands for another one with any budget
  pub with_budget : (s : source.State) (m : State) (budget : ℕ) → Agrees function s m → Agrees function (record s { budget = budget }) m
  with_budget s m budget a = record { in_function = a.in_function; same_store = a.same_store; same_next = a.same_next; same_input = a.same_input; same_names = a.same_names }

  -- a silent step that puts a value on the operands
  pub puts : (s : source.State) (m : State) (budget from to : ℕ) (before operands : List Value) (v : store.Value) (w : Value) → Agrees function s m → IsValue v w → to ≡ from + 1
      → image_step image (running_at m from before) ≡ goes (running_at m (from + 1) (w ∷ operands)) None
      → StepsTo (image_step image) (record s { budget = budget }) (running_at m from before) (λ d. Gives function to operands s m v d (record s { budget = budget })) (record s { budget = budget })
  puts s m budget from to before operands v w a is e h =
      record {
        to = running_at m (from + 1) (w ∷ operands);
        event = None;
        goes_so = h;
        noted_so = refl;
        begun_so = refl;
        same_budget = refl;
        stands = record {
          machine = m;
          value = w;
          is_there = ap (λ p. running_at m p (w ∷ operands)) (sym e);
          same_value = is;
          agrees = with_budget s m budget a;
          kept = record { same_frame = refl; same_store = refl; same_number = refl; same_living = refl; same_temporaries = refl; same_held = refl; same_slots = refl; same_pending = refl; same_below = refl; same_exceptions = refl };
        };
      }

  -- from the one place to the other the code does what a part means that gives a value
  abbrev pub Valued : Account → Does store.Value → ℕ → ℕ → Type 0
  Valued account part from to =
      (n : ℕ) (operands : List Value) (s : source.State) (m : State) → Agrees function s m → s.begins ≡ begins_ahead (image_step image) n (running_at m from operands)
      → Follows (image_step image) n s (running_at m from operands) account (Gives function to operands s m) (Fly s m) (part s)

  abbrev pub PutsValue : source.State → State → ℕ → ℕ → ℕ → List Value → List Value → source.Outcome store.Value → Type 0
  PutsValue s m budget from to before operands r = Steps (image_step image) (record s { budget = budget }) (running_at m from before) (Gives function to operands s m) (Fly s m) r

  -- what an operator gives, or why it is undefined
  pub computed_steps : (s : source.State) (m : State) (budget from to : ℕ) (before operands : List Value) (c : Computed) (r : Result ℤ Kind) → Agrees function s m → to ≡ from + 1 → as_result c ≡ r
      → image_step image (running_at m from before) ≡ progress image (on_computed c (λ z. next (running_at m from before) (values.Number z ∷ operands)))
      → PutsValue s m budget from to before operands (number_given r (record s { budget = budget }))
  unfolding either gives ends
  computed_steps s m budget from to before operands c r a e same h = subst (λ r. PutsValue s m budget from to before operands (number_given r (record s { budget = budget }))) same (go c h)
    where
      go : (c : Computed) → image_step image (running_at m from before) ≡ progress image (on_computed c (λ z. next (running_at m from before) (values.Number z ∷ operands)))
          → PutsValue s m budget from to before operands (number_given (as_result c) (record s { budget = budget }))
      go (Computes z) h = puts s m budget from to before operands (store.number z) (values.Number z) a refl e h
      go (Fails kind) h = λ other. record { event = None; halts_so = h; noted_so = refl }
