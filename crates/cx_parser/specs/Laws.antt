-- Laws of the grammar, its trees and the places of its faults; this project's own.
use Rattle.std.specs.Prelude.{◌≡◌, ℕ, ◌++◌}
use Rattle.cx_syntax.specs.Place.{Begins, Grammatical, IsPlace}
use Rattle.cx_syntax.specs.Shaped.{ShapedUnit}
use Rattle.cx_syntax.specs.Spell.{Marks, numbered, spell}
use Rattle.cx_syntax.specs.Tree.{UnitTree}

-- two shaped trees that spell one list are one
abbrev pub AtMostOneTree : Type 0
AtMostOneTree = (ts : Marks) (u v : UnitTree) → ShapedUnit u → ShapedUnit v → spell u ≡ numbered 0 ts → spell v ≡ numbered 0 ts → u ≡ v

abbrev pub PrefixesBegin : Type 0
PrefixesBegin = (u w : Marks) → Grammatical (u ++ w) → Begins u

abbrev pub TreeOrPlace : Type 0
TreeOrPlace = (ts : Marks) (p : ℕ) → Grammatical ts → IsPlace ts p → ⊥

abbrev pub AtMostOnePlace : Type 0
AtMostOnePlace = (ts : Marks) (p q : ℕ) → IsPlace ts p → IsPlace ts q → p ≡ q
