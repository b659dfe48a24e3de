-- What throws, releases and violations come to.
use Rattle.std.proofs.Common.{◌≡◌, ℕ, pos, ◌+◌, ◌-◌, ◌<◌, ◌==◌, List, [], ◌∷◌, ◌++◌, length, Some, None, slice_get, subst, refl, sym, ap, arith}
use Rattle.std.specs.List.{All}
use Rattle.std.proofs.lemmas.Bool.{eqb-false}
use Rattle.std.proofs.lemmas.List.Elements.{All-cons, All-head, All-tail, All-push, All-weaker}
use Rattle.cx_code.specs.declared.image.Image.{Image}
use Rattle.cx_code.specs.declared.image.Function.{Function}
use Rattle.cx_code.specs.declared.image.TypeEntry.{TypeEntry}
use Rattle.cx_code.specs.declared.operation.Operation.{Operation}
use Rattle.cx_code.specs.declared.operation.Operation.TheVariants as does
use Rattle.cx_code.specs.declared.run.Value.{Value}
use Rattle.cx_code.specs.declared.run.Value.TheVariants as values
use Rattle.cx_code.specs.declared.run.Event.{Event}
use Rattle.cx_code.specs.declared.run.Event.TheVariants as events
use Rattle.cx_code.specs.declared.violation.DetectionMode.{DetectionMode}
use Rattle.cx_code.specs.declared.violation.Semantic.{Semantic}
use Rattle.cx_code.specs.State.{State, Frame, Exception, Violated, Unwinds}
use Rattle.cx_code.specs.Act.{moved, mixed, next, noted, entered, violated, thrown, thrown_again, is_kept, dropped, released, resumed}
use Rattle.cx_code.specs.Reached.{Origin, IsReached, taken_count}
use Rattle.cx_code.specs.Rules.{IsValid}
use Rattle.cx_sound.specs.Sound.{HasTaken, IsThrown, ArePending, IsSound}
use Rattle.cx_sound.proofs.Steps.{EachGoes, each_object, each_some, each_branch}
use Rattle.cx_sound.proofs.At.{IsAt, at_held, at_violations, goes_behind}
use Rattle.cx_sound.proofs.Calls.{is_hook, is_dropper, entered_goes}

-- ---- more exceptions may have been thrown

one_more : (image : Image) (thrown : ℕ) (exception : Exception) → IsThrown image thrown exception → IsThrown image (thrown + 1) exception
one_more image thrown exception is = record { number = omega (arith, is.number); of = is.of; dropper = is.dropper }

all_one_more : (image : Image) (thrown : ℕ) (exceptions : List Exception) → All (IsThrown image thrown) exceptions → All (IsThrown image (thrown + 1)) exceptions
all_one_more image thrown exceptions all = All-weaker (IsThrown image thrown) (IsThrown image (thrown + 1)) (one_more image thrown) exceptions all

pending_one_more : (image : Image) (thrown : ℕ) (frames : List Frame) → All (ArePending image thrown) frames → All (ArePending image (thrown + 1)) frames
pending_one_more image thrown frames all = All-weaker (ArePending image thrown) (ArePending image (thrown + 1)) (λ frame are. all_one_more image thrown frame.pending are) frames all

module _ {image : Image} {function : Function} {origin : Origin} {operation : Operation} where
  -- it stands where it stood, without its last operands
  pub took : (s : State) (operands : List Value) → IsAt image function origin operation s → length operands + taken_count function operation ≡ length s.frame.operands
      → HasTaken image (moved s.frame s.frame.place operands)
  took s operands at counts = record {
    function = function;
    origin = origin;
    operation = operation;
    now = at.now;
    stands = record {
      its_function = at.stands.its_function;
      is_reached = subst (λ depth. IsReached image function origin s.frame.place depth) (sym counts) at.stands.is_reached;
      its_slots = at.stands.its_slots;
    };
  }

  -- ---- an exception is unwound again

  pub unwinds : (s : State) (pending : List Exception) (exception : Exception) → IsAt image function origin operation s → taken_count function operation ≡ 0
      → All (IsThrown image s.thrown) pending → IsThrown image s.thrown exception
      → IsSound image (record s { frame = record s.frame { pending = pending }; control = Unwinds exception None })
  unwinds s pending exception at takes kept is =
      let counts : length s.frame.operands ≡ length s.frame.operands + taken_count function operation = omega (arith, takes) in
      record {
        last = (
          record {
            function = function;
            origin = origin;
            operation = operation;
            now = at.now;
            stands = record {
              its_function = at.stands.its_function;
              is_reached = subst (λ depth. IsReached image function origin s.frame.place depth) counts at.stands.is_reached;
              its_slots = at.stands.its_slots;
            };
          },
          is,
        );
        below = at.below;
        held = at.held;
        pending = All-cons (ArePending image s.thrown) (record s.frame { pending = pending }) s.below kept at.pending_below;
        violations = at.violations;
      }

  pub thrown_again_goes : (s : State) (held : List Exception) → IsAt image function origin operation s → taken_count function operation ≡ 0
      → All (IsThrown image s.thrown) held → EachGoes (IsSound image) (thrown_again s held)
  thrown_again_goes s [] at takes all = tt
  thrown_again_goes s (exception ∷ held) at takes all = unwinds s s.frame.pending exception at takes at.pending (All-head (IsThrown image s.thrown) exception held all)

  pub resumed_goes : (s : State) (pending : List Exception) → IsAt image function origin operation s → taken_count function operation ≡ 0
      → All (IsThrown image s.thrown) pending → EachGoes (IsSound image) (resumed s pending)
  resumed_goes s [] at takes all = tt
  resumed_goes s (exception ∷ pending) at takes all = unwinds s pending exception at takes (All-tail (IsThrown image s.thrown) exception pending all) (All-head (IsThrown image s.thrown) exception pending all)

-- ---- a throw

module _ {image : Image} {function : Function} {origin : Origin} where
  pub thrown_goes : (s : State) (of : ℕ) → IsAt image function origin (does.Throw of) s → EachGoes (IsSound image) (thrown s of)
  thrown_goes s of at =
      each_object (IsSound image) s.frame.operands _ λ object leaf below e.
      record {
        last = (took s below at (omega (arith, ap length e)), record { number = omega arith; of = at.indices; dropper = at.dropper });
        below = at.below;
        held = all_one_more image s.thrown s.held at.held;
        pending = All-cons (ArePending image (s.thrown + 1)) (moved s.frame s.frame.place below) s.below (all_one_more image s.thrown s.frame.pending at.pending) (pending_one_more image s.thrown s.below at.pending_below);
        violations = at.violations;
      }

-- ---- what calls a hook

module _ {image : Image} {function : Function} {origin : Origin} (valid : IsValid image) where
  dropped_goes : (s : State) (exception : Exception) (entry : TypeEntry) → IsAt image function origin does.Release s → slice_get image.types exception.of ≡ Some entry
      → EachGoes (IsSound image) (dropped image s exception entry)
  dropped_goes s exception entry at found =
      each_branch (IsSound image) (entry.dropper == 0) mixed (entered image s (entry.dropper - 1) (values.Address exception.object exception.leaf ∷ []) s.frame.operands None) (λ none. tt) λ some.
      let is : entry.dropper ≡ entry.dropper - 1 + 1 = omega (arith, eqb-false entry.dropper 0 some) in
      entered_goes valid s (entry.dropper - 1) (values.Address exception.object exception.leaf ∷ []) s.frame.operands None at (exception.of, entry, found, is) (omega arith)
      (λ callee its. sym (is_dropper image (entry.dropper - 1) callee valid (exception.of, entry, found, is) its).parameters)

  pub released_goes : (s : State) (held : List Exception) → IsAt image function origin does.Release s → All (IsThrown image s.thrown) held → EachGoes (IsSound image) (released image s held)
  released_goes s [] at all = tt
  released_goes s (exception ∷ held) at all =
      let after : State = record s { held = held } in
      let there = at_held s held (All-tail (IsThrown image s.thrown) exception held all) at in
      each_branch (IsSound image) (is_kept exception held (s.frame ∷ s.below)) (next after s.frame.operands) _
      (λ kept. goes_behind valid after s.frame.operands there refl (omega arith))
      (λ last. each_some (IsSound image) (slice_get image.types exception.of) mixed (dropped image after exception) tt λ entry found. dropped_goes after exception entry there found)

  pub violated_goes : (s : State) (assertion : ℕ) (mode : DetectionMode) (semantic : Semantic) → IsAt image function origin (does.Violate assertion mode semantic) s
      → EachGoes (IsSound image) (violated image s (record { assertion = assertion; mode = mode; semantic = semantic }))
  violated_goes s assertion mode semantic at =
      let violation : Violated = record { assertion = assertion; mode = mode; semantic = semantic } in
      let after : State = record s { violations = s.violations ++ violation ∷ [] } in
      let event : Event = events.Handler assertion mode semantic in
      let there = at_violations s (s.violations ++ violation ∷ []) (All-push (λ (violated : Violated). violated.assertion < length image.assertions) s.violations violation at.violations at.indices) at in
      each_branch (IsSound image) (image.handler == 0) (noted after s.frame.operands event) (entered image after (image.handler - 1) (values.Number (pos (length s.violations)) ∷ []) s.frame.operands (Some event))
      (λ none. goes_behind valid after s.frame.operands there refl (omega arith))
      (λ some.
      let is : image.handler ≡ image.handler - 1 + 1 = omega (arith, eqb-false image.handler 0 some) in
      entered_goes valid after (image.handler - 1) (values.Number (pos (length s.violations)) ∷ []) s.frame.operands (Some event) there is (omega arith)
      (λ callee its. sym (is_hook image image.handler (image.handler - 1) callee valid.handler is its).parameters))
