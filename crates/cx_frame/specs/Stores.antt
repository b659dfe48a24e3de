-- This defines what is known of the objects of a run, and how far an instruction changes that; it is this project's own.
use Rattle.std.specs.Prelude.{ℕ, ◌+◌, ◌≤◌, length, IfSome}
use Rattle.cx_code.specs.Store.{Store, Leaves}

-- no object has more leaves than one may be made with
abbrev pub IsSmall : Store → Type 0
IsSmall store = (number : ℕ) → IfSome (store.leaves number) (λ (leaves : Leaves). length leaves ≤ 256)

-- an instruction makes at most one object, which is no larger
pub record Grows (old new : Store) : Type 0 where
  pub small : IsSmall old → IsSmall new
  pub next : new.next ≤ old.next + 1
