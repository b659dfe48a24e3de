-- How values and objects of the machine stand for those of the meaning. This is this project's own.
use Rattle.std.specs.Prelude.{◌≡◌, ◌⊎◌, ℕ, ◌^◌, pos, ◌-ℤ◌, ◌≤ℤ◌, List, [], ◌∷◌, Option, Some, None}
use Rattle.cx_code.specs.declared.run.Value.{Value}
use Rattle.cx_code.specs.declared.run.Value.TheVariants as values
use Rattle.cx_code.specs.Store as machine
use Rattle.cx_core.specs.Store.{Address, number, address, null, function, violation, Leaf, Object, Store, leaves_of}
use Rattle.cx_core.specs.Store as source

-- without a handler of its own a program handles no violation; the machine has no value that is a function
abbrev pub IsValue : source.Value → Value → Type 0
IsValue (number n) v = v ≡ values.Number n
IsValue (address a) v = v ≡ values.Address a.object a.leaf
IsValue null v = v ≡ values.Null
IsValue (function f) v = ⊥
IsValue (violation told) v = ⊥

-- a leaf keeps a value; the number of a global that is 2^63 or more stands there less 2^64, as an image spells it, until
-- the leaf is written
abbrev pub Keeps : source.Value → Value → Type 0
Keeps (number n) v = (v ≡ values.Number n) ⊎ ((pos (2 ^ 63) ≤ℤ n) × (v ≡ values.Number (n -ℤ pos (2 ^ 64))))
Keeps (address a) v = v ≡ values.Address a.object a.leaf
Keeps null v = v ≡ values.Null
Keeps (function f) v = ⊥
Keeps (violation told) v = ⊥

abbrev pub IsLeaf : Leaf → Option Value → Type 0
IsLeaf None None = Unit {0}
IsLeaf None (Some v) = ⊥
IsLeaf (Some told) None = ⊥
IsLeaf (Some told) (Some v) = Keeps told v

abbrev pub AreLeaves : List Leaf → List (Option Value) → Type 0
AreLeaves [] [] = Unit {0}
AreLeaves [] (leaf ∷ leaves) = ⊥
AreLeaves (told ∷ more) [] = ⊥
AreLeaves (told ∷ more) (leaf ∷ leaves) = IsLeaf told leaf × AreLeaves more leaves

abbrev pub IsObject : Option (List Leaf) → Option (List (Option Value)) → Type 0
IsObject None None = Unit {0}
IsObject None (Some leaves) = ⊥
IsObject (Some told) None = ⊥
IsObject (Some told) (Some leaves) = AreLeaves told leaves

-- the same objects live, under the same numbers
abbrev pub IsStore : Store → machine.Store → Type 0
IsStore store memory = (n : ℕ) → IsObject (leaves_of store n) (memory.leaves n)
