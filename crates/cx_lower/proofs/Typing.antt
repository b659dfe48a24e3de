-- What typed statements tell of the slots of their variables.
use Rattle.std.proofs.Common.{◌≡◌, ℕ, suc, ◌+◌, ◌≤◌, List, [], ◌∷◌, ◌++◌, length, Option, Some, None, refl, arith, length-append}
use Rattle.cx_core.specs.declared.number.IntegerType.{IntegerType}
use Rattle.cx_core.specs.declared.unit.Assertion.{Assertion}
use Rattle.cx_core.specs.Operators.{integer_of}
use Rattle.cx_core.specs.Tree.{scalar, Operand, value, Stmt, Stmts, variable_declaration, block, if_else, while_loop, done, next, Check}
use Rattle.cx_typed.specs.Typed.{Slots, Gives, IsTyped, IsTypedDeclaration, with_slot, seen_behind, IsTypedWith}
use Rattle.cx_lower.specs.Code.{live_behind, stmt_most, stmts_most}

-- a variable is of an integer type, and has the next slot
pub declared : (slots : Slots) (slot : ℕ) (t : Option IntegerType) (a : Operand) → IsTypedDeclaration slots slot t a → (type : IntegerType) × (t ≡ Some type) × (slot ≡ length slots) × Gives (slots ++ type ∷ []) a type
declared slots slot None a typed = absurd typed
declared slots slot (Some type) a typed = (type, refl, typed.0, typed.1)

seen_with : (slots : Slots) (t : Option IntegerType) (type : IntegerType) → t ≡ Some type → length (with_slot slots t) ≡ suc (length slots)
seen_with slots t type is = rw is (omega (arith, length-append slots (type ∷ [])))

-- as many variables are visible behind a statement as the code counts
pub seen_length : (assertions : List Assertion) (slots : Slots) (live : ℕ) (s : Stmt Check) → live ≡ length slots → IsTyped assertions slots s → live_behind live s ≡ length (seen_behind slots s)
unfolding IsTypedWith
seen_length assertions slots live (variable_declaration slot (scalar s) (value a)) is typed =
    let d = declared slots slot (integer_of s) a typed in
    omega (arith, is, seen_with slots (integer_of s) d.0 d.1)
seen_length assertions slots live (variable_declaration slot type i) is typed = absurd typed
seen_length assertions slots live s is typed = is

pub live_more : {A : Type 0} (base count : ℕ) (s : Stmt A) → base + live_behind count s ≡ live_behind (base + count) s
live_more base count (variable_declaration slot type i) = omega arith
live_more base count s = refl

-- no fewer variables are visible inside a statement than before it
mutual
  unfolding stmt_most

  pub live_within : {A : Type 0} (live : ℕ) (s : Stmt A) → live ≤ stmt_most live s
  live_within live (variable_declaration slot type i) = omega arith
  live_within live (block b) = live_within_all live b
  live_within live (if_else c a b) = omega (arith, live_within live a)
  live_within live (while_loop c body) = live_within live body
  live_within live s = omega arith

  pub live_within_all : {A : Type 0} (live : ℕ) (b : Stmts A) → live ≤ stmts_most live b
  live_within_all live done = omega arith
  live_within_all live (next s rest) = omega (arith, live_within live s)
