-- Where an object stands in the store.
use Rattle.std.specs.Prelude.{ℕ, suc, List, [], ◌∷◌, Option, Some, None, Result, Ok, Err, nat_eq, if◌then◌else◌}
use Rattle.std.specs.Option.{option_map}
use Rattle.cx_core.specs.Words.{Kind}
use Rattle.cx_core.specs.Store.{Leaf}
use Rattle.cx_plain_state.specs.declared.state.Object.{Object}
use Rattle.cx_plain_state.specs.declared.value.Value.{Value}
use Rattle.cx_plain_state.specs.Seen.{leaf_of}

-- the place of the first object with a number
abbrev pub index_of : List Object → ℕ → Option ℕ
index_of [] n = None
index_of (object ∷ objects) n = if nat_eq object.number n then Some 0 else option_map (λ i. suc i) (index_of objects n)

abbrev pub leaf_read : Result (Option Value) Kind → Result Leaf Kind
leaf_read (Ok leaf) = Ok (leaf_of leaf)
leaf_read (Err kind) = Err kind
