-- This defines when a region crosses an earlier one, which no unwind table may have; it is this project's own.
use Rattle.std.specs.Prelude.{◌≡◌, ℕ, ◌<◌, List, Option, Some, slice_get}
use Rattle.cx_code.specs.declared.code.Region.{Region}
use Rattle.cx_code.specs.Rules.{Overlaps, Encloses}

-- the region overlaps an earlier one, and doesn't enclose it
pub record IsCrossing (regions : List Region) (later : ℕ) : Type 0 where
  pub earlier : ℕ
  pub before : earlier < later
  pub a : Region
  pub b : Region
  pub at_earlier : slice_get regions earlier ≡ Some a
  pub at_later : slice_get regions later ≡ Some b
  pub overlaps : Overlaps a b
  pub not_around : ¬ Encloses b a

pub record IsFirstCrossing (regions : List Region) (index : ℕ) : Type 0 where
  pub crosses : IsCrossing regions index
  pub first : (other : ℕ) → other < index → ¬ IsCrossing regions other
