-- What the machine's definition says of a step, with what the code has found out put into it.
use Rattle.std.proofs.Common.{◌≡◌, ℕ, ◌+◌, ◌-◌, ◌<◌, ◌≤◌, Bool, true, false, List, [], ◌∷◌, length, drop, Option, Some, None, IsSome, IfSome, slice_get, if◌then◌else◌, ◌==◌, refl, arith}
use Rattle.std.proofs.lemmas.List.{length-drop}
use Rattle.std.proofs.lemmas.Bool.Decides.{nat_tests}
use Rattle.cx_code.specs.declared.code.Region.{Region}
use Rattle.cx_code.specs.declared.image.Image.{Image}
use Rattle.cx_code.specs.declared.image.Function.{Function}
use Rattle.cx_code.specs.declared.image.TypeEntry.{TypeEntry}
use Rattle.cx_code.specs.declared.run.Value.{Value}
use Rattle.cx_code.specs.declared.run.Value.TheVariants as values
use Rattle.cx_code.specs.State.{State, Frame, Exception}
use Rattle.cx_code.specs.Act.{left, entered, released, dropped, on_some, mixed, is_kept}
use Rattle.cx_code.specs.Unwind.{unwound, tried, gone, covers, first_covering, first_left, next_region}

-- a frame is left without a look at it
pub left-frame : (s : State) (frame : Frame) (below : List Frame) (value : Option Value) → left s below value ≡ left (record s { frame = frame }) below value
left-frame s frame [] value = refl
left-frame s frame (caller ∷ below) value = refl

-- ---- regions

record IsWithin (index low high : ℕ) : Type 0 where
  pub above : low ≤ index
  pub below : index < high

covering_at : (region : Region) (regions : List Region) (from place index : ℕ) (b : Bool) → (first_covering regions (from + 1) place ≡ Some index → IsWithin index (from + 1) (from + 1 + length regions))
    → (if b then Some from else first_covering regions (from + 1) place) ≡ Some index → IsWithin index from (from + length (region ∷ regions))
covering_at region regions from place index true later e =
    let same : from ≡ index = cc in
    record { above = omega arith; below = omega arith }
covering_at region regions from place index false later e =
    let w = later e in
    record { above = omega (arith, w.above); below = omega (arith, w.below) }

covering_within : (regions : List Region) (from place index : ℕ) → first_covering regions from place ≡ Some index → IsWithin index from (from + length regions)
covering_within [] from place index e = absurd cc
covering_within (region ∷ regions) from place index e = covering_at region regions from place index (covers place region) (covering_within regions (from + 1) place index) e

covering_from_drop : (regions : List Region) (k place index : ℕ) → first_covering (drop k regions) k place ≡ Some index → index < length regions
covering_from_drop regions k place index e =
    let w = covering_within (drop k regions) k place index e in
    let size = length-drop k regions in
    omega (arith, w.above, w.below)

pub next_within : (regions : List Region) (place : ℕ) (after : Option ℕ) (index : ℕ) → next_region regions place after ≡ Some index → index < length regions
next_within regions place after index e = covering_from_drop regions (first_left after) place index e

pub gone_from : (image : Image) (s : State) (exception : Exception) (after : Option ℕ) (function : Function) → slice_get image.functions s.frame.function ≡ Some function
    → next_region function.regions s.frame.place after ≡ None → unwound image s exception after ≡ gone s exception s.below
unfolding unwound
gone_from image s exception after function at none = rw (at, none) refl

pub tried_from : (image : Image) (s : State) (exception : Exception) (after : Option ℕ) (function : Function) (index : ℕ) (region : Region) → slice_get image.functions s.frame.function ≡ Some function
    → next_region function.regions s.frame.place after ≡ Some index → slice_get function.regions index ≡ Some region → unwound image s exception after ≡ tried s exception index region
unfolding unwound
tried_from image s exception after function index region at next its = rw (at, next, its) refl

-- ---- exceptions

-- the dropper of an exception is called
dropper_called : (image : Image) (s : State) (exception : Exception) (dropper : ℕ) (entry : TypeEntry) → entry.dropper ≡ dropper + 1
    → dropped image s exception entry ≡ entered image s dropper (values.Address exception.object exception.leaf ∷ []) s.frame.operands None
dropper_called image s exception dropper entry e =
    let some : (entry.dropper == 0) ≡ false = grind (arith, nat_tests) in
    let index : entry.dropper - 1 ≡ dropper = omega arith in
    rw (some, index) refl

found_called : (image : Image) (s : State) (exception : Exception) (dropper : ℕ) (found : Option TypeEntry) → IsSome found → IfSome found (λ (entry : TypeEntry). entry.dropper ≡ dropper + 1)
    → on_some found mixed (dropped image s exception) ≡ entered image s dropper (values.Address exception.object exception.leaf ∷ []) s.frame.operands None
found_called image s exception dropper None some e = absurd (cc)
found_called image s exception dropper (Some entry) some e = dropper_called image s exception dropper entry e

pub drops : (image : Image) (s : State) (exception : Exception) (held : List Exception) (dropper : ℕ) → s.held ≡ exception ∷ held → is_kept exception held (s.frame ∷ s.below) ≡ false
    → IsSome (slice_get image.types exception.of) → IfSome (slice_get image.types exception.of) (λ (entry : TypeEntry). entry.dropper ≡ dropper + 1)
    → released image s s.held ≡ entered image (record s { held = held }) dropper (values.Address exception.object exception.leaf ∷ []) s.frame.operands None
drops image s exception held dropper is kept some e = rw (is, kept) (found_called image (record s { held = held }) exception dropper (slice_get image.types exception.of) some e)
