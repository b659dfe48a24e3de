-- What the private functions that count open tokens answer. No public contract speaks of these.
use Rattle.std.specs.Prelude.{◌≤◌, ℕ, List, [], ◌∷◌, Bool, true, false, if◌then◌else◌, map}
use Rattle.cx_includes.specs.declared.assembled.Assembled.{Assembled}
use Rattle.cx_includes.specs.Assembled.{bytes_of_placed}
use Rattle.cx_includes.specs.declared.shape.Shape.{Shape}
use Rattle.cx_includes.specs.declared.shape.Shape.TheVariants.{Else}
use Rattle.cx_includes.specs.declared.counts.Counting.{Counting}
use Rattle.cx_includes.specs.OpenTokens.{Counts, shape_of}

abbrev pub counts_of : Counting → Counts
counts_of counting = record { innermost = counting.innermost; outer = counting.outer; opened = counting.opened; closed = counting.closed }

-- an `else` comes first
abbrev pub is_else_next : List Shape → Bool
is_else_next [] = false
is_else_next (Else ∷ next) = true
is_else_next (shape ∷ next) = false

-- the innermost construct has ended, unless it goes on
abbrev pub ended_unless : Bool → Counts → Counts
ended_unless goes_on counts = if goes_on then counts else record counts { innermost = 0 }

-- no count is above the number of tokens that were counted
pub record CountsUpTo (counting : Counting) (tokens : ℕ) : Type 0 where
  pub total : counting.total ≤ tokens
  pub opened : counting.opened ≤ tokens
  pub closed : counting.closed ≤ tokens

abbrev pub shapes_of : Assembled → List Shape
shapes_of unit = map (λ placed. shape_of (bytes_of_placed unit placed)) unit.placed
