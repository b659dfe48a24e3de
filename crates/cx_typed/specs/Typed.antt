-- Which statements of the typed program are built so far, and of which types their expressions are: numbers of `bool`, `char` and `int` are computed after [expr.unary.op], [expr.mul] to [expr.or], [conv.integral] and [conv.bool] of the C++ draft; that a variable's slot is the number of variables that are visible before it is this project's own.
use Rattle.std.specs.Prelude.{◌≡◌, ◌⊎◌, ℕ, ◌<◌, ◌≤◌, pos, true, false, List, [], ◌∷◌, ◌++◌, Option, Some, None, length, slice_get}
use Rattle.cx_core.specs.declared.number.IntegerType.{IntegerType}
use Rattle.cx_core.specs.declared.number.IntegerType.TheVariants as types
use Rattle.cx_core.specs.declared.number.BinaryOperator.{BinaryOperator}
use Rattle.cx_core.specs.declared.number.BinaryOperator.TheVariants as operators
use Rattle.cx_core.specs.declared.number.UnaryOperator.{UnaryOperator}
use Rattle.cx_core.specs.declared.number.UnaryOperator.TheVariants as unary_operators
use Rattle.cx_core.specs.Number.{in_range}
use Rattle.cx_core.specs.Operators.{integer_of}
use Rattle.cx_core.specs.declared.unit.Assertion.{Assertion}
use Rattle.cx_core.specs.View.{assertion_of}
use Rattle.cx_core.specs.Tree as tree
use Rattle.cx_core.specs.Tree.{ObjectType, scalar, number, Expr, literal, variable, unary, binary, assign, putchar, Operand, operand, value, Check, Stmt, Stmts, empty, expression, variable_declaration, block, if_else, while_loop, contract_assert, return_value, done, next}
use Rattle.cx_emit.specs.Statements.{declares}

-- the greatest number of `int`
abbrev pub greatest_int : ℕ
greatest_int = 2147483647

-- the types of the variables that are visible, by their slots
abbrev pub Slots : Type 0
Slots = List IntegerType

-- ---- operators

-- `!` computes in `bool` and is of that type, the others in `int` [expr.unary.op]
abbrev pub unary_type : UnaryOperator → IntegerType
unary_type unary_operators.Minus = types.Int
unary_type unary_operators.Not = types.Bool
unary_type unary_operators.Complement = types.Int

-- a comparison is of type `bool` [expr.rel], [expr.eq], the others of type `int`
abbrev pub binary_type : BinaryOperator → IntegerType
binary_type operators.Less = types.Bool
binary_type operators.Greater = types.Bool
binary_type operators.LessEqual = types.Bool
binary_type operators.GreaterEqual = types.Bool
binary_type operators.Equal = types.Bool
binary_type operators.NotEqual = types.Bool
binary_type operator = types.Int

-- ---- expressions

-- a variable that is read as an object of the type
abbrev pub IsRead : Slots → ObjectType → Expr → IntegerType → Type 0
IsRead slots (scalar s) (variable slot) type = (integer_of s ≡ Some type) × (slice_get slots slot ≡ Some type)
IsRead slots object e type = ⊥

-- where a value of a type is converted to another
abbrev pub IsConverted : Option IntegerType → (from to : IntegerType) → Type 0
IsConverted None from to = to ≡ from
IsConverted (Some type) from to = to ≡ type

unfoldable mutual
  -- the expression gives a number of the type
  pub HasType : Slots → Expr → IntegerType → Type 0
  HasType slots (literal (number (pos n))) type = (n ≤ greatest_int) × (in_range type (pos n) ≡ true)
  HasType slots (unary operator computed a) type = (computed ≡ unary_type operator) × (type ≡ computed) × Gives slots a computed
  HasType slots (binary operator computed a b) type = (computed ≡ types.Int) × (type ≡ binary_type operator) × Gives slots a computed × Gives slots b computed
  HasType slots other type = ⊥

  -- so does the operand, which is read and converted
  pub Gives : Slots → Operand → IntegerType → Type 0
  Gives slots (operand None to e) type = (from : IntegerType) × HasType slots e from × IsConverted to from type
  Gives slots (operand (Some object) to e) type = (from : IntegerType) × IsRead slots object e from × IsConverted to from type

-- a value whose truth is asked
abbrev pub IsCondition : Slots → Operand → Type 0
IsCondition slots a = (type : IntegerType) × Gives slots a type

-- ---- statements

abbrev pub with_slot : Slots → Option IntegerType → Slots
with_slot slots None = slots
with_slot slots (Some type) = slots ++ type ∷ []

-- what the statements behind it see
abbrev pub seen_behind : {A : Type 0} → Slots → Stmt A → Slots
seen_behind slots (variable_declaration slot (scalar s) init) = with_slot slots (integer_of s)
seen_behind slots other = slots

-- an assertion of the unit's table
abbrev pub IsListed : List Assertion → tree.Assertion → Type 0
IsListed assertions a = (i : ℕ) × (e : Assertion) × (slice_get assertions i ≡ Some e) × (a ≡ assertion_of e)

-- an assertion of the unit that is evaluated once or not at all
abbrev pub IsListedCheck : List Assertion → Check → Type 0
IsListedCheck assertions c = ((c.times ≡ 0) ⊎ (c.times ≡ 1)) × IsListed assertions c.assertion

-- an index in the unit's table
abbrev pub IsIndex : List Assertion → ℕ → Type 0
IsIndex assertions i = i < length assertions

-- a variable is assigned to, or a byte is written; the value is discarded
abbrev pub IsTypedDiscarded : Slots → Operand → Type 0
IsTypedDiscarded slots (operand None None (assign (variable slot) a)) = (type : IntegerType) × (slice_get slots slot ≡ Some type) × Gives slots a type
IsTypedDiscarded slots (operand None None (putchar a)) = Gives slots a types.Int
IsTypedDiscarded slots other = ⊥

-- a variable is visible in its own initialiser [basic.scope.pdecl]
abbrev pub IsTypedDeclaration : Slots → ℕ → Option IntegerType → Operand → Type 0
IsTypedDeclaration slots slot None a = ⊥
IsTypedDeclaration slots slot (Some type) a = (slot ≡ length slots) × Gives (slots ++ type ∷ []) a type

-- what stands for an assertion is one of these
module _ {A : Type 0} (IsOne : A → Type 0) where
  unfoldable mutual
    pub IsTypedWith : Slots → Stmt A → Type 0
    IsTypedWith slots empty = Unit {0}
    IsTypedWith slots (expression a) = IsTypedDiscarded slots a
    IsTypedWith slots (variable_declaration slot (scalar s) (value a)) = IsTypedDeclaration slots slot (integer_of s) a
    IsTypedWith slots (block b) = AreTypedWith slots b
    IsTypedWith slots (if_else c a b) = IsCondition slots c × (declares a ≡ false) × IsTypedWith slots a × (declares b ≡ false) × IsTypedWith slots b
    IsTypedWith slots (while_loop c body) = IsCondition slots c × (declares body ≡ false) × IsTypedWith slots body
    IsTypedWith slots (contract_assert c predicate) = IsOne c × IsCondition slots predicate
    IsTypedWith slots (return_value a) = Gives slots a types.Int
    IsTypedWith slots other = ⊥

    -- the statements of a block, or of a body
    pub AreTypedWith : Slots → Stmts A → Type 0
    AreTypedWith slots done = Unit {0}
    AreTypedWith slots (next s rest) = IsTypedWith slots s × AreTypedWith (seen_behind slots s) rest

-- statements of a program, where checks of these assertions are evaluated once or not at all
abbrev pub IsTyped : List Assertion → Slots → Stmt Check → Type 0
IsTyped assertions = IsTypedWith (IsListedCheck assertions)

abbrev pub AreTyped : List Assertion → Slots → Stmts Check → Type 0
AreTyped assertions = AreTypedWith (IsListedCheck assertions)

-- statements of a unit with these assertions
abbrev pub AreTypedIn : List Assertion → Slots → Stmts ℕ → Type 0
AreTypedIn assertions = AreTypedWith (IsIndex assertions)
