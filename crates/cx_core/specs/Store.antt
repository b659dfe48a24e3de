-- Objects, their leaves and their lifetimes: [intro.object] and [basic.life] of the C++ draft, with this project's own object numbers, leaves and unset leaves.
use Rattle.std.specs.Prelude.{ℕ, ◌+◌, ℤ, List, [], ◌∷◌, Option, Some, None, Result, Ok, Err, slice_get, slice_set, nat_eq, nat_lt, length, if◌then◌else◌}
use Rattle.cx_core.specs.Words.{Kind, Dead, Unset, Violation}

-- an object's number and the place of a leaf in it
pub record Address : Type 0 where
  pub object : ℕ
  pub leaf : ℕ

-- what an expression gives, or a leaf holds. A violation is what the parameter of its handler refers to; no leaf holds one
pub data Value : Type 0 where
  number : ℤ → Value
  address : Address → Value
  null : Value
  -- a function of the program, which a pointer to it holds
  function : (index : ℕ) → Value
  violation : Violation → Value

-- a leaf without a value is unset
abbrev pub Leaf : Type 0
Leaf = Option Value

pub record Object : Type 0 where
  pub number : ℕ
  pub leaves : List Leaf

-- the objects that live
abbrev pub Store : Type 0
Store = List Object

abbrev pub leaves_of : Store → ℕ → Option (List Leaf)
leaves_of [] n = None
leaves_of (object ∷ store) n = if nat_eq object.number n then Some object.leaves else leaves_of store n

abbrev pub without : Store → ℕ → Store
without [] n = []
without (object ∷ store) n = if nat_eq object.number n then store else (object ∷ without store n)

abbrev pub with_leaves : Store → ℕ → List Leaf → Store
with_leaves [] n leaves = []
with_leaves (object ∷ store) n leaves =
    if nat_eq object.number n then (record object { leaves = leaves } ∷ store) else (object ∷ with_leaves store n leaves)

abbrev pub place_in : Address → ℕ → Address
place_in a n = record a { leaf = a.leaf + n }

abbrev pub leaf_in : Option (List Leaf) → ℕ → Result Leaf Kind
leaf_in None i = Err Dead
leaf_in (Some leaves) i = leaf_or_dead (slice_get leaves i)
  where
    leaf_or_dead : Option Leaf → Result Leaf Kind
    leaf_or_dead None = Err Dead
    leaf_or_dead (Some leaf) = Ok leaf

-- the leaf at an address, set or unset
abbrev pub leaf_at : Store → Address → Result Leaf Kind
leaf_at store a = leaf_in (leaves_of store a.object) a.leaf

abbrev pub value_of : Result Leaf Kind → Result Value Kind
value_of (Err kind) = Err kind
value_of (Ok None) = Err Unset
value_of (Ok (Some v)) = Ok v

abbrev pub with_leaf : Option (List Leaf) → Store → Address → Leaf → Result Store Kind
with_leaf None store a leaf = Err Dead
with_leaf (Some leaves) store a leaf =
    if nat_lt a.leaf (length leaves) then Ok (with_leaves store a.object (slice_set leaves a.leaf leaf)) else Err Dead

-- the store after a leaf is written
abbrev pub written : Store → Address → Leaf → Result Store Kind
written store a leaf = with_leaf (leaves_of store a.object) store a leaf
