-- This defines how many operands there are for regions to keep, and spans of a code with the least of them; it is this project's own.
use Rattle.std.specs.Prelude.{◌≡◌, ◌⊎◌, ℕ, ◌+◌, ◌<◌, ◌≤◌, ◌^◌, ℤ, pos, ◌≤ℤ◌, ◌<ℤ◌, List, length, Option, Some, None, slice_get, slice_index}
use Rattle.cx_code.specs.declared.code.Region.{Region}
use Rattle.cx_code.specs.declared.image.Image.{Image}
use Rattle.cx_code.specs.declared.image.Function.{Function}
use Rattle.cx_code.specs.declared.operation.Operation.{Operation}
use Rattle.cx_code.specs.Reached.{operation_at, taken_count}
use Rattle.cx_code.specs.Rules.{Overlaps, Encloses, IsNested}
use Rattle.cx_reach.specs.declared.arriving.Arrival.{Arrival}
use Rattle.cx_reach.specs.declared.arriving.Depths.{Depths}
use Rattle.cx_reach.specs.declared.arriving.Depths.TheVariants as depths
use Rattle.cx_reach.specs.Comes.{ComesWith}
use Rattle.cx_unwind.specs.Crossing.{IsFirstCrossing}

-- so many operands are there at a place after its instruction has taken its own, however it is reached
abbrev pub AreThere : Image → Function → ℕ → ℕ → Type 0
AreThere image function place count = (depth : ℤ) (operation : Operation) → ComesWith image function place depth → operation_at function.code place ≡ Some operation
    → pos (count + taken_count function operation) ≤ℤ depth

-- the same at each place from one to another
abbrev pub AreThereFrom : Image → Function → ℕ → ℕ → ℕ → Type 0
AreThereFrom image function from to count = (place : ℕ) → from ≤ place → place < to → AreThere image function place count

-- at one of them fewer are there
abbrev pub IsMissingFrom : Image → Function → ℕ → ℕ → ℕ → Type 0
IsMissingFrom image function from to count = (place : ℕ) × (depth : ℤ) × (operation : Operation) × (from ≤ place) × (place < to) × ComesWith image function place depth
    × (operation_at function.code place ≡ Some operation) × (depth <ℤ pos (count + taken_count function operation))

-- so many are there at each place, and more are not
abbrev pub IsLeast : Image → Function → ℕ → ℕ → ℕ → Type 0
IsLeast image function from to least = (count : ℕ) → count < 2 ^ 32 → (count ≤ least → AreThereFrom image function from to count) × (least < count → IsMissingFrom image function from to count)

-- a place's span ends behind the place, or with a region that begins there
abbrev pub IsEndAt : List Region → ℕ → ℕ → ℕ → Type 0
IsEndAt regions count place end =
    (end ≡ place + 1) ⊎ ((index : ℕ) × (region : Region) × (index < count) × (slice_get regions index ≡ Some region) × (region.start ≡ place) × (region.end ≡ end))

-- each place has a span that begins there, with the least that is there; the first regions are such spans
pub record AreSpans (image : Image) (function : Function) (count : ℕ) (ends least : List ℕ) : Type 0 where
  pub each_end : length ends ≡ length function.code
  pub each_least : length least ≡ length function.code
  pub ahead : (place : ℕ) → place < length function.code → place < slice_index ends place
  pub is_least : (place : ℕ) → place < length function.code → IsLeast image function place (slice_index ends place) (slice_index least place)
  pub is_end : (place : ℕ) → place < length function.code → IsEndAt function.regions count place (slice_index ends place)

-- a region encloses each of the first regions that it overlaps
abbrev pub EnclosesFirst : List Region → ℕ → Region → Type 0
EnclosesFirst regions count region = (index : ℕ) (other : Region) → index < count → slice_get regions index ≡ Some other → Overlaps other region → Encloses region other

-- the first region that crosses an earlier one, if there is one
abbrev pub IsCrossed : List Region → Option ℕ → Type 0
IsCrossed regions None = IsNested regions
IsCrossed regions (Some index) = IsFirstCrossing regions index

-- the region of an index encloses each earlier one that it overlaps
abbrev pub EnclosesEarlier : List Region → ℕ → Type 0
EnclosesEarlier regions index = (region : Region) → slice_get regions index ≡ Some region → EnclosesFirst regions index region

-- it covers no place, or places behind the code, or its target
abbrev pub IsMisplaced : Function → Region → Type 0
IsMisplaced function region = (region.end ≤ region.start) ⊎ ((length function.code < region.end) ⊎ ((region.start ≤ region.target) × (region.target < region.end)))

-- ---- at one place

-- the operands that are there behind those that are taken; any number where the place isn't reached
abbrev pub IsSpare : Function → Option Operation → Depths → ℕ → Type 0
IsSpare function (Some operation) (depths.One depth) spare = pos (spare + taken_count function operation) ≡ depth
IsSpare function found known spare = spare + 1 ≡ 2 ^ 32

-- what comes is at least what is taken, and at most 4,096
abbrev pub IsEnough : Function → Option Operation → Depths → Type 0
IsEnough function found known = (operation : Operation) (depth : ℤ) → found ≡ Some operation → known ≡ depths.One depth → (pos (taken_count function operation) ≤ℤ depth) × (depth ≤ℤ pos 4096)

abbrev pub IsEnoughEach : Function → List Arrival → Type 0
IsEnoughEach function arrivals = (place : ℕ) (arrival : Arrival) → slice_get arrivals place ≡ Some arrival → IsEnough function (operation_at function.code place) arrival.depths

-- the spans of the first places alone
pub record AreSingle (function : Function) (arrivals : List Arrival) (ends least : List ℕ) : Type 0 where
  pub same : length ends ≡ length least
  pub next : (place : ℕ) → place < length ends → slice_index ends place ≡ place + 1
  pub spare : (place : ℕ) (arrival : Arrival) → place < length ends → slice_get arrivals place ≡ Some arrival → IsSpare function (operation_at function.code place) arrival.depths (slice_index least place)
