-- What is known of a state where an instruction is about to act, and what it comes to where the frame goes on.
use Rattle.std.proofs.Common.{◌≡◌, ℕ, ◌+◌, ◌-◌, ◌<◌, List, length, Option, Some, subst, sym, ◌∙◌, arith}
use Rattle.std.specs.List.{All}
use Rattle.std.proofs.lemmas.List.Elements.{All-cons}
use Rattle.cx_code.specs.declared.image.Image.{Image}
use Rattle.cx_code.specs.declared.image.Function.{Function}
use Rattle.cx_code.specs.declared.operation.Operation.{Operation}
use Rattle.cx_code.specs.declared.run.Value.{Value}
use Rattle.cx_code.specs.Store.{Store}
use Rattle.cx_code.specs.State.{State, Exception, Violated, Runs}
use Rattle.cx_code.specs.Act.{with_frame, moved, with_slots, with_store}
use Rattle.cx_code.specs.Reached.{Origin, IsReached, onwards, operation_at, HasIndices, taken_count, given_count, Follows}
use Rattle.cx_code.specs.Rules.{IsValid, PassesArguments, HasDropper}
use Rattle.cx_sound.specs.Sound.{Stands, HasPending, IsStack, IsThrown, ArePending, IsSound, GoesBy}
use Rattle.cx_sound.proofs.Places.{function_valid}

-- the instruction is about to act
pub record IsAt (image : Image) (function : Function) (origin : Origin) (operation : Operation) (s : State) : Type 0 where
  pub runs : s.control ≡ Runs
  pub stands : Stands image s.frame function origin (length s.frame.operands)
  pub now : operation_at function.code s.frame.place ≡ Some operation
  pub indices : HasIndices image operation
  pub arguments : PassesArguments image (Some operation)
  pub dropper : HasDropper image (Some operation)
  pub waits : HasPending origin s.frame
  pub below : IsStack image s.frame.function s.below
  pub held : All (IsThrown image s.thrown) s.held
  pub pending : All (IsThrown image s.thrown) s.frame.pending
  pub pending_below : All (ArePending image s.thrown) s.below
  pub violations : All (λ (violated : Violated). violated.assertion < length image.assertions) s.violations

module _ {image : Image} {function : Function} {origin : Origin} {operation : Operation} where
  -- ---- what may change before the frame goes on

  pub at_store : (s : State) (store : Store) → IsAt image function origin operation s → IsAt image function origin operation (with_store s store)
  at_store s store at = record {
    runs = at.runs;
    stands = at.stands;
    now = at.now;
    indices = at.indices;
    arguments = at.arguments;
    dropper = at.dropper;
    waits = at.waits;
    below = at.below;
    held = at.held;
    pending = at.pending;
    pending_below = at.pending_below;
    violations = at.violations;
  }

  pub at_input : (s : State) (input : List ℕ) → IsAt image function origin operation s → IsAt image function origin operation (record s { input = input })
  at_input s input at = record {
    runs = at.runs;
    stands = at.stands;
    now = at.now;
    indices = at.indices;
    arguments = at.arguments;
    dropper = at.dropper;
    waits = at.waits;
    below = at.below;
    held = at.held;
    pending = at.pending;
    pending_below = at.pending_below;
    violations = at.violations;
  }

  pub at_slots : (s : State) (slots : List (Option Value)) → length slots ≡ length s.frame.slots → IsAt image function origin operation s → IsAt image function origin operation (with_slots s slots)
  at_slots s slots same at = record {
    runs = at.runs;
    stands = record { its_function = at.stands.its_function; is_reached = at.stands.is_reached; its_slots = same ∙ at.stands.its_slots };
    now = at.now;
    indices = at.indices;
    arguments = at.arguments;
    dropper = at.dropper;
    waits = at.waits;
    below = at.below;
    held = at.held;
    pending = at.pending;
    pending_below = at.pending_below;
    violations = at.violations;
  }

  pub at_held : (s : State) (held : List Exception) → All (IsThrown image s.thrown) held → IsAt image function origin operation s → IsAt image function origin operation (record s { held = held })
  at_held s held all at = record {
    runs = at.runs;
    stands = at.stands;
    now = at.now;
    indices = at.indices;
    arguments = at.arguments;
    dropper = at.dropper;
    waits = at.waits;
    below = at.below;
    held = all;
    pending = at.pending;
    pending_below = at.pending_below;
    violations = at.violations;
  }

  pub at_violations : (s : State) (violations : List Violated) → All (λ (violated : Violated). violated.assertion < length image.assertions) violations
      → IsAt image function origin operation s → IsAt image function origin operation (record s { violations = violations })
  at_violations s violations all at = record {
    runs = at.runs;
    stands = at.stands;
    now = at.now;
    indices = at.indices;
    arguments = at.arguments;
    dropper = at.dropper;
    waits = at.waits;
    below = at.below;
    held = at.held;
    pending = at.pending;
    pending_below = at.pending_below;
    violations = all;
  }

  -- ---- where the frame goes on

  reached_next : IsValid image → (s : State) (place : ℕ) (operands : List Value) → IsAt image function origin operation s → Follows operation s.frame.place place
      → length operands + taken_count function operation ≡ length s.frame.operands + given_count image operation → IsReached image function origin place (length operands)
  reached_next valid s place operands at follows counts =
      let ruled = function_valid image s.frame.function function valid at.stands.its_function in
      let enough = ruled.has_depths.enough origin s.frame.place (length s.frame.operands) operation at.stands.is_reached at.now in
      let within = ruled.has_order.no_end origin s.frame.place (length s.frame.operands) operation place at.stands.is_reached at.now at.indices follows in
      let same : length s.frame.operands - taken_count function operation + given_count image operation ≡ length operands = omega (arith, enough, counts) in
      subst (λ depth. IsReached image function origin place depth) same (onwards origin s.frame.place (length s.frame.operands) operation place at.stands.is_reached at.now at.indices follows within)

  pub jumps_on : IsValid image → (s : State) (place : ℕ) (operands : List Value) → IsAt image function origin operation s → Follows operation s.frame.place place
      → length operands + taken_count function operation ≡ length s.frame.operands + given_count image operation → IsSound image (with_frame s (moved s.frame place operands))
  jumps_on valid s place operands at follows counts = record {
    last = subst (GoesBy image (with_frame s (moved s.frame place operands))) (sym at.runs) (record {
      function = function;
      origin = origin;
      stands = record { its_function = at.stands.its_function; is_reached = reached_next valid s place operands at follows counts; its_slots = at.stands.its_slots };
      pending = at.waits;
    });
    below = at.below;
    held = at.held;
    pending = All-cons (ArePending image s.thrown) (moved s.frame place operands) s.below at.pending at.pending_below;
    violations = at.violations;
  }

  pub goes_behind : IsValid image → (s : State) (operands : List Value) → IsAt image function origin operation s → Follows operation s.frame.place (s.frame.place + 1)
      → length operands + taken_count function operation ≡ length s.frame.operands + given_count image operation → IsSound image (with_frame s (moved s.frame (s.frame.place + 1) operands))
  goes_behind valid s operands at follows counts = jumps_on valid s (s.frame.place + 1) operands at follows counts
