-- This defines what an instruction does to the number of operands, and where the code may go on behind it; it is this project's own.
use Rattle.std.specs.Prelude.{◌≡◌, ◌⊎◌, ◌↔◌, ℕ, Option, Some, None}
use Rattle.cx_code.specs.declared.image.Image.{Image}
use Rattle.cx_code.specs.declared.image.Function.{Function}
use Rattle.cx_code.specs.declared.operation.Operation.{Operation}
use Rattle.cx_code.specs.Reached.{operation_at, HasIndices, taken_count, given_count, Follows}
use Rattle.cx_reach.specs.declared.effect.Effect.{Effect}
use Rattle.cx_reach.specs.declared.effect.Nexts.{Nexts}

abbrev pub LeadsTo : Nexts → ℕ → Type 0
LeadsTo nexts next = (nexts.behind ≡ Some next) ⊎ (nexts.target ≡ Some next)

pub record IsEffect (image : Image) (function : Function) (operation : Operation) (place : ℕ) (effect : Effect) : Type 0 where
  pub taken : effect.taken ≡ taken_count function operation
  pub given : effect.given ≡ given_count image operation
  pub nexts : (next : ℕ) → Follows operation place next ↔ LeadsTo effect.nexts next

-- the effect of the instruction at a place, if its numbers are in range
abbrev pub IsEffectAt : Image → Function → ℕ → Option Effect → Type 0
IsEffectAt image function place None = (operation : Operation) → operation_at function.code place ≡ Some operation → HasIndices image operation → ⊥
IsEffectAt image function place (Some effect) = (operation : Operation) × (operation_at function.code place ≡ Some operation) × HasIndices image operation × IsEffect image function operation place effect
