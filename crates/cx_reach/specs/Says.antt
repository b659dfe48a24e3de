-- This defines what an arrival says of a place, while the places are still searched; it is this project's own.
use Rattle.std.specs.Prelude.{◌≡◌, ◌⊎◌, ℕ, ◌+◌, ◌*◌, ◌-◌, ◌^◌, ◌<◌, ◌≤◌, ℤ, pos, List, length, sum_by, Option, Some, IsTrue, slice_get, if◌then◌else◌}
use Rattle.std.specs.List.{All, Contains}
use Rattle.cx_code.specs.declared.code.Region.{Region}
use Rattle.cx_code.specs.declared.image.Image.{Image}
use Rattle.cx_code.specs.declared.image.Function.{Function}
use Rattle.cx_code.specs.declared.operation.Operation.{Operation}
use Rattle.cx_code.specs.Reached.{Origin, Plain, Cleanup, origin_of, operation_at, HasIndices, Follows}
use Rattle.cx_reach.specs.declared.arriving.Arrival.{Arrival}
use Rattle.cx_reach.specs.declared.arriving.Depths.{Depths}
use Rattle.cx_reach.specs.declared.arriving.Depths.TheVariants as depths
use Rattle.cx_reach.specs.Comes.{ComesWith, ComesFrom, SeveralCome, left_behind}
use Rattle.cx_reach.specs.Joins.{IsSmall}

abbrev pub SaysDepth : Depths → ℤ → Type 0
SaysDepth depths.None depth = ⊥
SaysDepth (depths.One one) depth = depth ≡ one
SaysDepth depths.Several depth = Unit {0}

abbrev pub SaysOrigin : Arrival → Origin → Type 0
SaysOrigin arrival Plain = IsTrue arrival.plain
SaysOrigin arrival Cleanup = IsTrue arrival.cleanup

-- the place is reached from there, and with so many operands
pub record Says (arrival : Arrival) (origin : Origin) (depth : ℤ) : Type 0 where
  pub from : SaysOrigin arrival origin
  pub many : SaysDepth arrival.depths depth

-- the second says what the first says
abbrev pub IsWithin : Arrival → Arrival → Type 0
IsWithin a b = (origin : Origin) (depth : ℤ) → Says a origin depth → Says b origin depth

-- what an arrival says comes
abbrev pub DepthsCome : Image → Function → ℕ → Depths → Type 0
DepthsCome image function place depths.None = Unit {0}
DepthsCome image function place (depths.One depth) = ComesWith image function place depth
DepthsCome image function place depths.Several = SeveralCome image function place

pub record IsSound (image : Image) (function : Function) (place : ℕ) (arrival : Arrival) : Type 0 where
  pub depths : DepthsCome image function place arrival.depths
  pub plain : IsTrue arrival.plain → ComesFrom image function Plain place
  pub cleanup : IsTrue arrival.cleanup → ComesFrom image function Cleanup place

abbrev pub AreSound : Image → Function → List Arrival → Type 0
AreSound image function arrivals = (place : ℕ) (arrival : Arrival) → slice_get arrivals place ≡ Some arrival → IsSound image function place arrival

-- how often depths can still grow
abbrev pub depths_room : Depths → ℕ
depths_room depths.None = 2
depths_room (depths.One depth) = 1
depths_room depths.Several = 0

-- how often an arrival can still grow
abbrev pub room_of : Arrival → ℕ
room_of arrival = depths_room arrival.depths + ((if arrival.plain then 0 else 1) + (if arrival.cleanup then 0 else 1))

-- how often the arrivals can still grow, and how many places are to be looked at
abbrev pub work : List Arrival → List ℕ → ℕ
work arrivals pending = sum_by room_of arrivals + length pending

-- each depth is between the negative of a bound and the bound
abbrev pub AreSmall : ℕ → List Arrival → Type 0
AreSmall bound arrivals = All (λ (arrival : Arrival). IsSmall bound arrival.depths) arrivals

-- arrivals that only grew, and where the places of those that did are pending
pub record HaveGrown (arrivals grown : List Arrival) (pending later : List ℕ) : Type 0 where
  pub same_length : length grown ≡ length arrivals
  pub more : (place : ℕ) (a b : Arrival) → slice_get arrivals place ≡ Some a → slice_get grown place ≡ Some b → IsWithin a b
  pub kept : (place : ℕ) → Contains pending place → Contains later place
  pub marked : (place : ℕ) → (slice_get grown place ≡ slice_get arrivals place) ⊎ Contains later place
  pub inside : All (λ place. place < length arrivals) pending → All (λ place. place < length arrivals) later
  pub room : work grown later ≤ work arrivals pending

-- an arrival was joined to that of a place, where the code has the place
pub record HasJoined (place : Option ℕ) (arrival : Arrival) (arrivals grown : List Arrival) (pending later : List ℕ) : Type 0 where
  pub grew : HaveGrown arrivals grown pending later
  pub said : (at : ℕ) (now : Arrival) → place ≡ Some at → slice_get grown at ≡ Some now → IsWithin arrival now
  pub sound : (image : Image) (function : Function) → ((at : ℕ) → place ≡ Some at → at < length arrivals → IsSound image function at arrival)
      → AreSound image function arrivals → AreSound image function grown
  pub small : (bound : ℕ) → IsSmall bound arrival.depths → AreSmall bound arrivals → AreSmall bound grown

-- the targets of the first regions were joined
pub record HasTold (regions : List Region) (count : ℕ) (arrivals grown : List Arrival) (pending later : List ℕ) : Type 0 where
  pub grew : HaveGrown arrivals grown pending later
  pub said : (index : ℕ) (region : Region) (now : Arrival) → index < count → slice_get regions index ≡ Some region → slice_get grown region.target ≡ Some now
      → Says now (origin_of region) (pos region.depth)
  pub sound : (image : Image) (function : Function) → function.regions ≡ regions → AreSound image function arrivals → AreSound image function grown
  pub small : AreSmall (2 ^ 32) arrivals → AreSmall (2 ^ 32) grown

-- what the instruction at a place hands on was joined to the arrivals of the next places
pub record HasLooked (image : Image) (function : Function) (place : ℕ) (arrivals grown : List Arrival) (pending later : List ℕ) : Type 0 where
  pub grew : HaveGrown arrivals grown pending later
  pub handed : (arrival now : Arrival) (operation : Operation) (next : ℕ) → slice_get arrivals place ≡ Some arrival
      → operation_at function.code place ≡ Some operation → HasIndices image operation → Follows operation place next → slice_get grown next ≡ Some now
      → (origin : Origin) (depth : ℤ) → Says arrival origin depth → Says now origin (left_behind image function operation depth)
  pub sound : AreSound image function arrivals → AreSound image function grown
  pub small : (bound : ℕ) → AreSmall bound arrivals → AreSmall (bound + 2 ^ 32) grown

-- what a place hands on is said of the next places
abbrev pub IsClosedAt : Image → Function → List Arrival → ℕ → Type 0
IsClosedAt image function arrivals place = (arrival now : Arrival) (operation : Operation) (next : ℕ) → slice_get arrivals place ≡ Some arrival
    → operation_at function.code place ≡ Some operation → HasIndices image operation → Follows operation place next → slice_get arrivals next ≡ Some now
    → (origin : Origin) (depth : ℤ) → Says arrival origin depth → Says now origin (left_behind image function operation depth)

-- the start and the targets of some regions are said
pub record HasBegun (regions : List Region) (arrivals : List Arrival) : Type 0 where
  pub start : (now : Arrival) → slice_get arrivals 0 ≡ Some now → Says now Plain (pos 0)
  pub targets : (index : ℕ) (region : Region) (now : Arrival) → slice_get regions index ≡ Some region → slice_get arrivals region.target ≡ Some now
      → Says now (origin_of region) (pos region.depth)

-- the depths so far: each turn moves one by less than 2 to the 32
abbrev pub bound_of : List Arrival → List ℕ → ℕ
bound_of arrivals pending = 2 ^ 32 * (1 + 4 * length arrivals - work arrivals pending)

-- how far the search has come
pub record IsSearched (image : Image) (function : Function) (arrivals : List Arrival) (pending : List ℕ) : Type 0 where
  pub each_place : length arrivals ≡ length function.code
  pub begun : HasBegun function.regions arrivals
  pub sound : AreSound image function arrivals
  pub closed : (place : ℕ) → Contains pending place ⊎ IsClosedAt image function arrivals place
  pub inside : All (λ place. place < length arrivals) pending
  pub room : work arrivals pending ≤ 4 * length arrivals
  pub small : AreSmall (bound_of arrivals pending) arrivals
