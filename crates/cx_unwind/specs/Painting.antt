-- This defines what a table keeps of its regions: for each place the first region that covers it, by the places where that changes, and for each region the next one that covers its places; it is this project's own.
use Rattle.std.specs.Prelude.{◌≡◌, ◌⊎◌, ℕ, zero, suc, ◌+◌, ◌==◌, ◌<◌, ◌≤◌, List, length, drop, Option, Some, None, IsSome, Bool, true, false, if◌then◌else◌, slice_get}
use Rattle.cx_code.specs.declared.code.Region.{Region}
use Rattle.cx_code.specs.Unwind.{covers, first_covering}
use Rattle.cx_code.specs.Rules.{Overlaps, Encloses}

-- what a change says, or what held before it
abbrev pub changed_to : Option (Option ℕ) → Option ℕ → Option ℕ
changed_to None before = before
changed_to (Some now) before = now

-- the value that the last change at the place or before it says
unfoldable pub value_at : (ℕ → Option (Option ℕ)) → ℕ → Option ℕ
value_at changes zero = changed_to (changes zero) None
value_at changes (suc place) = changed_to (changes (suc place)) (value_at changes place)

-- the changes after a region was painted over the others
abbrev pub painted : (ℕ → Option (Option ℕ)) → Region → ℕ → ℕ → Option (Option ℕ)
painted changes region index place =
    if place == region.start then Some (Some index) else
    if place == region.end then Some (changed_to (changes region.end) (value_at changes region.start)) else changes place

abbrev pub covers_at : Option Region → ℕ → Bool
covers_at None place = false
covers_at (Some region) place = covers place region

-- the regions from an index on are painted, the last one first
pub record IsPainted (regions : List Region) (from : ℕ) (changes : ℕ → Option (Option ℕ)) (parents : List (Option ℕ)) : Type 0 where
  pub size : length parents ≡ length regions
  pub value : (place : ℕ) → value_at changes place ≡ first_covering (drop from regions) from place
  pub parent : (index : ℕ) (region : Region) (place : ℕ) → from ≤ index → slice_get regions index ≡ Some region → covers place region ≡ true
      → slice_get parents index ≡ Some (first_covering (drop (index + 1) regions) (index + 1) place)

-- the place begins or ends a region
pub record IsBoundary (regions : List Region) (from : ℕ) (place : ℕ) : Type 0 where
  pub index : ℕ
  pub since : from ≤ index
  pub region : Region
  pub at : slice_get regions index ≡ Some region
  pub some : region.start < region.end
  pub is : (place ≡ region.start) ⊎ (place ≡ region.end)

-- each boundary is a change, and each change is at a boundary; so what crosses would show
pub record IsLaidOut (regions : List Region) (from : ℕ) (changes : ℕ → Option (Option ℕ)) : Type 0 where
  pub has_start : (index : ℕ) (region : Region) → from ≤ index → slice_get regions index ≡ Some region → region.start < region.end → IsSome (changes region.start)
  pub has_end : (index : ℕ) (region : Region) → from ≤ index → slice_get regions index ≡ Some region → region.start < region.end → IsSome (changes region.end)
  pub only : (place : ℕ) → IsSome (changes place) → IsBoundary regions from place
  pub nested : (earlier later : ℕ) (a b : Region) → from ≤ earlier → earlier < later → slice_get regions earlier ≡ Some a → slice_get regions later ≡ Some b
      → Overlaps a b → Encloses b a
