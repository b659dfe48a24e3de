-- This says that what comes to a place is what the rules of a valid image say, where no instruction takes what isn't there; it is this project's own.
use Rattle.std.specs.Prelude.{◌≡◌, ◌⊎◌, ◌↔◌, ℕ, ◌≤◌, ℤ, pos, ◌≤ℤ◌, Some}
use Rattle.cx_code.specs.declared.image.Image.{Image}
use Rattle.cx_code.specs.declared.image.Function.{Function}
use Rattle.cx_code.specs.declared.operation.Operation.{Operation}
use Rattle.cx_code.specs.Reached.{Origin, operation_at, taken_count, IsReached}
use Rattle.cx_reach.specs.Comes.{Comes}

-- what comes to each instruction is at least what it takes
abbrev pub EnoughComes : Image → Function → Type 0
EnoughComes image function = (origin : Origin) (place : ℕ) (depth : ℤ) (operation : Operation) → Comes image function origin place depth
    → operation_at function.code place ≡ Some operation → pos (taken_count function operation) ≤ℤ depth

-- the same of the places and depths of the rules
abbrev pub EnoughIsThere : Image → Function → Type 0
EnoughIsThere image function = (origin : Origin) (place depth : ℕ) (operation : Operation) → IsReached image function origin place depth
    → operation_at function.code place ≡ Some operation → taken_count function operation ≤ depth

abbrev pub Agrees : Type 0
Agrees = (image : Image) (function : Function) → EnoughComes image function ⊎ EnoughIsThere image function
    → (origin : Origin) (place : ℕ) (depth : ℤ) → Comes image function origin place depth ↔ ((operands : ℕ) × (depth ≡ pos operands) × IsReached image function origin place operands)
