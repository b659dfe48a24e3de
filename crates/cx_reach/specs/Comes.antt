-- This defines which places of a function are reached, from where and with how many operands, also where an instruction takes more operands than there are; it is this project's own.
use Rattle.std.specs.Prelude.{◌≡◌, ◌≢◌, ◌↔◌, ℕ, ◌<◌, ℤ, pos, ◌+ℤ◌, ◌-ℤ◌, List, length, Some, IsTrue, slice_get}
use Rattle.cx_code.specs.declared.code.Region.{Region}
use Rattle.cx_code.specs.declared.image.Image.{Image}
use Rattle.cx_code.specs.declared.image.Function.{Function}
use Rattle.cx_code.specs.declared.operation.Operation.{Operation}
use Rattle.cx_code.specs.Reached.{Origin, Plain, Cleanup, origin_of, operation_at, HasIndices, taken_count, given_count, Follows}
use Rattle.cx_reach.specs.declared.arriving.Arrival.{Arrival}
use Rattle.cx_reach.specs.declared.arriving.Depths.{Depths}
use Rattle.cx_reach.specs.declared.arriving.Depths.TheVariants as depths

-- how many operands there are behind an instruction: fewer than none where it took what wasn't there
abbrev pub left_behind : Image → Function → Operation → ℤ → ℤ
left_behind image function operation depth = (depth -ℤ pos (taken_count function operation)) +ℤ pos (given_count image operation)

-- a place is reached from there and with so many operands
pub data Comes (image : Image) (function : Function) : Origin → ℕ → ℤ → Type 0 where
  start : Comes image function Plain 0 (pos 0)
  target : (index : ℕ) (region : Region) → slice_get function.regions index ≡ Some region
      → Comes image function (origin_of region) region.target (pos region.depth)
  onwards : (origin : Origin) (place : ℕ) (depth : ℤ) (operation : Operation) (next : ℕ)
      → Comes image function origin place depth
      → operation_at function.code place ≡ Some operation → HasIndices image operation
      → Follows operation place next → next < length function.code
      → Comes image function origin next (left_behind image function operation depth)

-- it is reached with so many operands, from wherever
abbrev pub ComesWith : Image → Function → ℕ → ℤ → Type 0
ComesWith image function place depth = (origin : Origin) × Comes image function origin place depth

-- it is reached from there
abbrev pub ComesFrom : Image → Function → Origin → ℕ → Type 0
ComesFrom image function origin place = (depth : ℤ) × Comes image function origin place depth

-- it is reached with two different numbers of operands
abbrev pub SeveralCome : Image → Function → ℕ → Type 0
SeveralCome image function place = (one : ℤ) × (other : ℤ) × (one ≢ other) × ComesWith image function place one × ComesWith image function place other

-- these are all depths that come to the place, as far as can be told of none, one and several
abbrev pub AreDepths : Image → Function → ℕ → Depths → Type 0
AreDepths image function place depths.None = (depth : ℤ) → ComesWith image function place depth → ⊥
AreDepths image function place (depths.One depth) = ComesWith image function place depth × ((other : ℤ) → ComesWith image function place other → other ≡ depth)
AreDepths image function place depths.Several = SeveralCome image function place

-- how a place is reached
pub record IsArrival (image : Image) (function : Function) (place : ℕ) (arrival : Arrival) : Type 0 where
  pub depths : AreDepths image function place arrival.depths
  pub plain : IsTrue arrival.plain ↔ ComesFrom image function Plain place
  pub cleanup : IsTrue arrival.cleanup ↔ ComesFrom image function Cleanup place

-- one for each place of the code
pub record AreArrivals (image : Image) (function : Function) (arrivals : List Arrival) : Type 0 where
  pub each_place : length arrivals ≡ length function.code
  pub exact : (place : ℕ) (arrival : Arrival) → slice_get arrivals place ≡ Some arrival → IsArrival image function place arrival
