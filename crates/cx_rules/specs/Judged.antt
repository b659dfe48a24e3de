-- This defines when an instruction breaks a rule, by what is known of how its place is reached; it is this project's own.
use Rattle.std.specs.Prelude.{◌≡◌, ◌⊎◌, ℕ, ◌≤◌, pos, ◌<ℤ◌, length, IsTrue, IsFalse, ⊤}
use Rattle.cx_code.specs.declared.image.Function.{Function}
use Rattle.cx_code.specs.declared.operation.Operation.{Operation}
use Rattle.cx_code.specs.declared.operation.Operation.TheVariants as does
use Rattle.cx_code.specs.Reached.{taken_count, Follows}
use Rattle.cx_reach.specs.declared.arriving.Arrival.{Arrival}
use Rattle.cx_reach.specs.declared.arriving.Depths.{Depths}
use Rattle.cx_reach.specs.declared.arriving.Depths.TheVariants as depths

-- fewer operands come than it takes, or more than 4,096, or not always as many
abbrev pub AreBadDepths : Function → Operation → Depths → Type 0
AreBadDepths function operation depths.None = ⊥
AreBadDepths function operation (depths.One depth) = (depth <ℤ pos (taken_count function operation)) ⊎ (pos 4096 <ℤ depth)
AreBadDepths function operation depths.Several = ⊤

-- a place behind the code can come next
abbrev pub LeadsOff : Function → ℕ → Operation → Type 0
LeadsOff function place operation = (next : ℕ) × Follows operation place next × (length function.code ≤ next)

-- both sorts of origin, `resume` where no Cleanup leads, or `return` where one does
abbrev pub IsBadArrival : Operation → Arrival → Type 0
IsBadArrival operation arrival =
    (IsTrue arrival.plain × IsTrue arrival.cleanup)
    ⊎ (((operation ≡ does.Resume) × IsFalse arrival.cleanup)
    ⊎ ((operation ≡ does.Return) × IsTrue arrival.cleanup))
