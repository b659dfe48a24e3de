-- The grammar of lists of marks, their trees, and the place of a syntax fault; the first two after [gram], the place is this project's own.
use Rattle.std.specs.Prelude.{◌≡◌, ℕ, ◌<◌, ◌≤◌, ◌++◌, length, take}
use Rattle.cx_syntax.specs.Shaped.{ShapedUnit}
use Rattle.cx_syntax.specs.Spell.{Marks, numbered, spell}
use Rattle.cx_syntax.specs.Tree.{UnitTree}

-- a shaped tree spells the list
abbrev pub Grammatical : Marks → Type 0
Grammatical ts = (u : UnitTree) × ShapedUnit u × (spell u ≡ numbered 0 ts)

-- the list begins some grammatical list
abbrev pub Begins : Marks → Type 0
Begins ts = (z : Marks) × Grammatical (ts ++ z)

-- the only tree of the list
abbrev pub IsTree : Marks → UnitTree → Type 0
IsTree ts u = ShapedUnit u × (spell u ≡ numbered 0 ts) × ((v : UnitTree) → ShapedUnit v → spell v ≡ numbered 0 ts → v ≡ u)

-- the length of the longest prefix that begins a grammatical list, of a list that isn't one
abbrev pub IsPlace : Marks → ℕ → Type 0
IsPlace ts p = (Grammatical ts → ⊥) × (p ≤ length ts) × Begins (take p ts) × ((n : ℕ) → p < n → n ≤ length ts → Begins (take n ts) → ⊥)
