-- This defines what a memory holds and what its calls do with it: a finite map from the numbers of the live objects to their leaves; it is this project's own.
use Rattle.std.specs.Prelude.{ℕ, ◌+◌, ◌==◌, if◌then◌else◌, List, Option, Some, None, length, nat_lt, slice_get, slice_set, replicate}
use Rattle.cx_code.specs.declared.run.Value.{Value}
use Rattle.cx_code.specs.declared.memory.Loaded.{Loaded}
use Rattle.cx_code.specs.declared.memory.Loaded.TheVariants as gives

-- the leaves of an object; one that is None is unset
abbrev pub Leaves : Type 0
Leaves = List (Option Value)

-- the live objects, and the number of the next one
pub record Store : Type 0 where
  pub leaves : ℕ → Option Leaves
  pub next : ℕ

-- the same, but for one number
abbrev pub changed : (ℕ → Option Leaves) → ℕ → Option Leaves → ℕ → Option Leaves
changed leaves number now other = if other == number then now else leaves other

abbrev pub nothing_made : Store
nothing_made = record { leaves = λ number. None; next = 1 }

-- an object with these leaves is made
abbrev pub made_of : Store → Leaves → Store
made_of store leaves = record { leaves = changed store.leaves store.next (Some leaves); next = store.next + 1 }

-- an object of so many unset leaves is made
abbrev pub made : Store → ℕ → Store
made store count = made_of store (replicate count None)

-- an object's end
abbrev pub ended : Store → ℕ → Store
ended store number = record store { leaves = changed store.leaves number None }

-- a leaf of a live object
abbrev pub leaf_in : Option Leaves → ℕ → Option (Option Value)
leaf_in None leaf = None
leaf_in (Some leaves) leaf = slice_get leaves leaf

abbrev pub leaf_at : Store → ℕ → ℕ → Option (Option Value)
leaf_at store number leaf = leaf_in (store.leaves number) leaf

abbrev pub loaded_leaf : Option (Option Value) → Loaded
loaded_leaf None = gives.Dead
loaded_leaf (Some None) = gives.Unset
loaded_leaf (Some (Some value)) = gives.Value value

abbrev pub loaded : Store → ℕ → ℕ → Loaded
loaded store number leaf = loaded_leaf (leaf_at store number leaf)

abbrev pub put_leaf : Option Leaves → ℕ → Option Value → Option Leaves
put_leaf None leaf value = None
put_leaf (Some leaves) leaf value = if nat_lt leaf (length leaves) then Some (slice_set leaves leaf value) else None

-- a leaf is set, or unset
abbrev pub written_leaf : Store → ℕ → Option Leaves → Option Store
written_leaf store number None = None
written_leaf store number (Some leaves) = Some (record store { leaves = changed store.leaves number (Some leaves) })

abbrev pub stored_leaf : Store → ℕ → ℕ → Option Value → Option Store
stored_leaf store number leaf value = written_leaf store number (put_leaf (store.leaves number) leaf value)

-- the store with a value written, if there is such a leaf
abbrev pub stored : Store → ℕ → ℕ → Value → Option Store
stored store number leaf value = stored_leaf store number leaf (Some value)

abbrev pub copied_leaf : Store → Option (Option Value) → ℕ → ℕ → Option Store
copied_leaf store None number leaf = None
copied_leaf store (Some value) number leaf = stored_leaf store number leaf value

-- the store with one leaf copied to another as it is, if there are both
abbrev pub copied : Store → ℕ × ℕ → ℕ × ℕ → Option Store
copied store from to = copied_leaf store (leaf_at store from.0 from.1) to.0 to.1
