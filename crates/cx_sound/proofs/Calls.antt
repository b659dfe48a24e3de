-- What calls and returns come to.
use Rattle.std.proofs.Common.{◌≡◌, ℕ, ◌+◌, ◌-◌, ◌≤◌, List, [], ◌∷◌, length, Option, Some, None, Bool, true, false, if◌then◌else◌, IsFalse, IfSome, nat_le, slice_get, take, drop, reverse, subst, refl, sym, ap, ◌∙◌, arith}
use Rattle.std.specs.List.{All}
use Rattle.std.proofs.lemmas.List.{length-drop, length-take-le, length-reverse}
use Rattle.std.proofs.lemmas.List.Elements.{All-nil, All-cons, All-head, All-tail}
use Rattle.cx_code.specs.declared.image.Image.{Image}
use Rattle.cx_code.specs.declared.image.Function.{Function}
use Rattle.cx_code.specs.declared.image.TypeEntry.{TypeEntry}
use Rattle.cx_code.specs.declared.operation.Operation.{Operation}
use Rattle.cx_code.specs.declared.operation.Operation.TheVariants as does
use Rattle.cx_code.specs.declared.run.Value.{Value}
use Rattle.cx_code.specs.declared.run.Value.TheVariants as values
use Rattle.cx_code.specs.declared.run.Event.{Event}
use Rattle.cx_code.specs.Arithmetic.{is_int}
use Rattle.cx_code.specs.State.{State, Frame, frame_of}
use Rattle.cx_code.specs.declared.run.Ending.TheVariants as endings
use Rattle.cx_code.specs.Act.{Ends, on_value, moved, mixed, is_too_deep, entered, called, given, returned, left, return_from}
use Rattle.cx_code.specs.Reached.{Origin, IsReached, onwards, operation_at, taken_count, given_count, result_count, Follows}
use Rattle.cx_code.specs.Rules.{IsValid, IsHook, IsHookAt}
use Rattle.cx_sound.specs.Sound.{IsDropper, Calls, IsStack, IsThrown, ArePending, IsSound, GoesBy}
use Rattle.cx_sound.proofs.Places.{at_index, function_valid, is_within, indices_at}
use Rattle.cx_sound.proofs.Entered.{entered_ready}
use Rattle.cx_sound.proofs.Steps.{EachGoes, each_value, each_some, each_branch}
use Rattle.cx_sound.proofs.At.{IsAt}

-- ---- what is called

pub is_hook : (image : Image) (hook index : ℕ) (callee : Function) → IsHookAt image hook → hook ≡ index + 1 → slice_get image.functions index ≡ Some callee → IsHook callee
is_hook image hook index callee at is its =
    let same : hook - 1 ≡ index = omega (arith, is) in
    let hooked : IfSome (Some callee) IsHook = subst (λ o. IfSome o IsHook) (ap (slice_get image.functions) same ∙ its) (at (omega (arith, is))) in hooked

pub is_dropper : (image : Image) (index : ℕ) (callee : Function) → IsValid image → IsDropper image index → slice_get image.functions index ≡ Some callee → IsHook callee
is_dropper image index callee valid (of, entry, found, is) its =
    is_hook image entry.dropper index callee (at_index (λ (entry : TypeEntry). IsHookAt image entry.dropper) image.types of entry valid.droppers found) is its

no_result : (b : Bool) → IsFalse b → ◌≡◌ {A = ℕ} 0 (if b then 1 else 0)
no_result b is = rw is refl

-- what the function that is called gives is what the instruction gives
call_gives : (image : Image) (operation : Operation) (index : ℕ) (callee : Function) → IsValid image → Calls image operation index
    → slice_get image.functions index ≡ Some callee → given_count image operation ≡ result_count (Some callee)
call_gives image (does.Call function count) index callee valid calls its = ap result_count (ap (slice_get image.functions) calls ∙ its)
call_gives image (does.Violate assertion mode semantic) index callee valid calls its = no_result callee.result (is_hook image image.handler index callee valid.handler calls its).result
call_gives image does.Release index callee valid calls its = no_result callee.result (is_dropper image index callee valid calls its).result
call_gives image operation index callee valid calls its = absurd calls

call_follows : (image : Image) (operation : Operation) (index place : ℕ) → Calls image operation index → Follows operation place (place + 1)
call_follows image (does.Call function count) index place calls = refl
call_follows image (does.Violate assertion mode semantic) index place calls = refl
call_follows image does.Release index place calls = refl
call_follows image operation index place calls = absurd calls

reached_behind : (image : Image) (function : Function) (origin : Origin) (operation : Operation) (index place depth : ℕ) → IsValid image
    → slice_get image.functions index ≡ Some function → IsReached image function origin place (depth + taken_count function operation)
    → operation_at function.code place ≡ Some operation → Follows operation place (place + 1) → IsReached image function origin (place + 1) (depth + given_count image operation)
reached_behind image function origin operation index place depth valid its reached now follows =
    let ruled = function_valid image index function valid its in
    let indices = indices_at image function index place valid its operation (is_within ruled reached) now in
    let within = ruled.has_order.no_end origin place (depth + taken_count function operation) operation (place + 1) reached now indices follows in
    let same : depth + taken_count function operation - taken_count function operation + given_count image operation ≡ depth + given_count image operation = omega arith in
    subst (λ depth. IsReached image function origin (place + 1) depth) same (onwards origin place (depth + taken_count function operation) operation (place + 1) reached now indices follows within)

-- ---- the end of the program

returned_goes : (image : Image) (result : Option Value) → EachGoes (IsSound image) (returned result)
returned_goes image (Some (values.Number n)) = each_branch (IsSound image) (is_int n) (Ends (endings.Returned n) None) mixed (λ int. tt) (λ wide. tt)
returned_goes image (Some (values.Address number leaf)) = tt
returned_goes image (Some values.Null) = tt
returned_goes image None = tt

result_is : (function : Function) (b : Bool) → function.result ≡ b → result_count (Some function) ≡ (if b then 1 else 0)
result_is function b is = rw is refl

-- ---- a call

module _ {image : Image} {function : Function} {origin : Origin} {operation : Operation} (valid : IsValid image) where
  is_entered : (s : State) (index : ℕ) (callee : Function) (arguments operands : List Value) → IsAt image function origin operation s → Calls image operation index
      → length operands + taken_count function operation ≡ length s.frame.operands → slice_get image.functions index ≡ Some callee → length arguments ≡ callee.parameters
      → IsSound image (record s { frame = frame_of index callee arguments; below = moved s.frame s.frame.place operands ∷ s.below })
  is_entered s index callee arguments operands at calls counts its passed = record {
    last = subst (GoesBy image (record s { frame = frame_of index callee arguments; below = moved s.frame s.frame.place operands ∷ s.below })) (sym at.runs)
        (entered_ready image index callee arguments valid its passed);
    below = (
      record {
        taken = record {
          function = function;
          origin = origin;
          operation = operation;
          now = at.now;
          stands = record {
            its_function = at.stands.its_function;
            is_reached = subst (λ depth. IsReached image function origin s.frame.place depth) (sym counts) at.stands.is_reached;
            its_slots = at.stands.its_slots;
          };
        };
        calls = calls;
        pending = at.waits;
      },
      at.below,
    );
    held = at.held;
    pending = All-cons (ArePending image s.thrown) (frame_of index callee arguments) (moved s.frame s.frame.place operands ∷ s.below) (All-nil (IsThrown image s.thrown))
        (All-cons (ArePending image s.thrown) (moved s.frame s.frame.place operands) s.below at.pending at.pending_below);
    violations = at.violations;
  }

  pub entered_goes : (s : State) (index : ℕ) (arguments operands : List Value) (event : Option Event) → IsAt image function origin operation s → Calls image operation index
      → length operands + taken_count function operation ≡ length s.frame.operands
      → ((callee : Function) → slice_get image.functions index ≡ Some callee → length arguments ≡ callee.parameters)
      → EachGoes (IsSound image) (entered image s index arguments operands event)
  entered_goes s index arguments operands event at calls counts passed =
      each_some (IsSound image) (slice_get image.functions index) mixed _ tt λ callee its.
      each_branch (IsSound image) (is_too_deep image s callee) _ _ (λ deep. tt) λ shallow.
      is_entered s index callee arguments operands at calls counts its (passed callee its)

  -- ---- the return

  is_left : (s : State) (caller : Frame) (below : List Frame) (operands : List Value) → IsAt image function origin operation s → IsStack image s.frame.function (caller ∷ below)
      → All (ArePending image s.thrown) (caller ∷ below) → length operands ≡ length caller.operands + result_count (Some function)
      → IsSound image (record s { frame = moved caller (caller.place + 1) operands; below = below })
  is_left s caller below operands at (waiting, stack) pending counts =
      let taken = waiting.taken in
      let gives = call_gives image taken.operation s.frame.function function valid waiting.calls at.stands.its_function in
      let same : length caller.operands + given_count image taken.operation ≡ length operands = omega (arith, gives, counts) in
      record {
        last = subst (GoesBy image (record s { frame = moved caller (caller.place + 1) operands; below = below })) (sym at.runs) (record {
          function = taken.function;
          origin = taken.origin;
          stands = record {
            its_function = taken.stands.its_function;
            is_reached = subst (λ depth. IsReached image taken.function taken.origin (caller.place + 1) depth) same
                (reached_behind image taken.function taken.origin taken.operation caller.function caller.place (length caller.operands) valid taken.stands.its_function taken.stands.is_reached taken.now
                (call_follows image taken.operation s.frame.function caller.place waiting.calls));
            its_slots = taken.stands.its_slots;
          };
          pending = waiting.pending;
        });
        below = stack;
        held = at.held;
        pending = All-cons (ArePending image s.thrown) (moved caller (caller.place + 1) operands) below (All-head (ArePending image s.thrown) caller below pending) (All-tail (ArePending image s.thrown) caller below pending);
        violations = at.violations;
      }

  left_goes : (s : State) (below : List Frame) (result : Option Value) → IsAt image function origin operation s → IsStack image s.frame.function below
      → All (ArePending image s.thrown) below → ((operands : List Value) → length (given result operands) ≡ length operands + result_count (Some function))
      → EachGoes (IsSound image) (left s below result)
  left_goes s [] result at stack pending counts = returned_goes image result
  left_goes s (caller ∷ below) result at stack pending counts = is_left s caller below (given result caller.operands) at stack pending (counts caller.operands)

  pub return_goes : (s : State) → IsAt image function origin operation s → EachGoes (IsSound image) (return_from s (slice_get image.functions s.frame.function))
  return_goes s at = rw at.stands.its_function (
      each_branch (IsSound image) function.result (on_value s.frame.operands (λ value below. left s s.below (Some value))) (left s s.below None)
      (λ gives. each_value (IsSound image) s.frame.operands _ λ value below e. left_goes s s.below (Some value) at at.below at.pending_below (λ operands. omega (arith, result_is function true gives)))
      (λ none. left_goes s s.below None at at.below at.pending_below (λ operands. omega (arith, result_is function false none))))

-- the arguments are the last operands
module _ {image : Image} {function : Function} {origin : Origin} (valid : IsValid image) where
  pub called_goes : (s : State) (index count : ℕ) → IsAt image function origin (does.Call index count) s → EachGoes (IsSound image) (called image s index count)
  called_goes s index count at =
      let ruled = function_valid image s.frame.function function valid at.stands.its_function in
      let enough : count ≤ length s.frame.operands = ruled.has_depths.enough origin s.frame.place (length s.frame.operands) (does.Call index count) at.stands.is_reached at.now in
      each_branch (IsSound image) (nat_le count (length s.frame.operands)) (entered image s index (reverse (take count s.frame.operands)) (drop count s.frame.operands) None) mixed
      (λ there. entered_goes valid s index (reverse (take count s.frame.operands)) (drop count s.frame.operands) None at refl
      (omega (arith, length-drop count s.frame.operands))
      (λ callee its.
      let passes : IfSome (Some callee) (λ (callee : Function). callee.parameters ≡ count) = subst (λ o. IfSome o (λ (callee : Function). callee.parameters ≡ count)) its at.arguments in
      omega (arith, length-reverse (take count s.frame.operands), length-take-le count s.frame.operands enough, passes)))
      (λ lacks. tt)
