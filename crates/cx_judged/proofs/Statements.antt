-- Each typed statement that weighs little is one that a unit can hold.
use Rattle.std.proofs.Common.{◌≡◌, ℕ, ◌<◌, ◌≤◌, ◌^◌, List, [], ◌∷◌, ◌++◌, length, false, Option, Some, None, Box, Vec, Global, ℤ, pos, refl, ◌∙◌, ap, arith}
use denote.RawPtr.{null_ptr}
use Rattle.cx_types.specs.declared.value_type.Base.TheVariants as bases
use Rattle.cx_types.specs.declared.value_type.Scalar.{Scalar}
use Rattle.cx_types.specs.declared.value_type.ValueType.{ValueType}
use Rattle.cx_core.specs.declared.number.IntegerType.{IntegerType}
use Rattle.cx_core.specs.declared.number.IntegerType.TheVariants as types
use Rattle.cx_core.specs.declared.number.UnaryOperator.{UnaryOperator}
use Rattle.cx_core.specs.declared.number.BinaryOperator.{BinaryOperator}
use Rattle.cx_core.specs.declared.expression.Constant.TheVariants as constants
use Rattle.cx_core.specs.declared.expression.Expression.{Expression, roll-Expression}
use Rattle.cx_core.specs.declared.expression.Initializer.{Initializer, roll-Initializer}
use Rattle.cx_core.specs.declared.expression.Operand.{Operand, roll-Operand}
use Rattle.cx_core.specs.declared.expression.Argument.TheFolds.{fold-roll-Expression, fold-roll-Initializer, fold-roll-Operand}
use Rattle.cx_core.specs.declared.expression.Argument.TheOpen.{Expression-F, Initializer-F}
use Rattle.cx_core.specs.declared.statement.Statement.{Statement, roll-Statement}
use Rattle.cx_core.specs.declared.statement.Statement.TheFolds.{fold-roll-Statement}
use Rattle.cx_core.specs.declared.statement.Statement.TheOpen.{Statement-F}
use Rattle.cx_core.specs.Operators.{integer_of}
use Rattle.cx_core.specs.Tree as tree
use Rattle.cx_core.specs.Tree.{Args, Expr, Handlers, Init, ObjectType, Stmt, Stmts}
use Rattle.cx_core.specs.View.{argument_layer, expr_of, expression_layer, handler_layer, init_of, initializer_layer, object_type_or_none, operand_layer, operand_of, statement_layer, stmt_of, stmts_of}
use Rattle.cx_typed.specs.Typed.{AreTypedWith, Gives, HasType, IsRead, IsTypedDeclaration, IsTypedDiscarded, IsTypedWith, Slots, seen_behind}
use Rattle.cx_typed.specs.Weight.{stmt_weight, stmts_weight}

-- ---- parts

abbrev pub allocator : Global
allocator = record { memory = record { seal = tt } }

abbrev boxed : {A : Type 0} → A → Box A Global
boxed a = record { ptr = null_ptr; alloc = allocator; value = a }

abbrev pub listed : {A : Type 0} → (all : List A) → length all < 2 ^ 63 → Vec A Global
listed all few = record { ptr = null_ptr; len = length all; cap = length all; alloc = allocator; items = all; ok = (refl, omega arith); small = few }

abbrev of_scalar : Scalar → ValueType
of_scalar s = record { base = bases.Scalar s; constant = false; pointers = 0; pointer_consts = 0; reference = false }

-- ---- expressions

abbrev IsExpression : Expr → Type 0
IsExpression e = (made : Expression) × (expr_of made ≡ e)

abbrev IsOperand : tree.Operand → Type 0
IsOperand a = (made : Operand) × (operand_of made ≡ a)

literal_is : (n : ℤ) → IsExpression (tree.literal (tree.number n))
literal_is n =
    let layer = Expression-F.Literal (constants.Number n) in
    (roll-Expression layer, fold-roll-Expression (Args → Args) Expr Init tree.Operand argument_layer expression_layer initializer_layer operand_layer layer)

variable_is : (slot : ℕ) → IsExpression (tree.variable slot)
variable_is slot =
    let layer = Expression-F.Variable slot in
    (roll-Expression layer, fold-roll-Expression (Args → Args) Expr Init tree.Operand argument_layer expression_layer initializer_layer operand_layer layer)

unary_is : (operator : UnaryOperator) (type : IntegerType) (a : tree.Operand) → IsOperand a → IsExpression (tree.unary operator type a)
unary_is operator type a it =
    let layer = Expression-F.Unary operator type (boxed it.0) in
    (roll-Expression layer, fold-roll-Expression (Args → Args) Expr Init tree.Operand argument_layer expression_layer initializer_layer operand_layer layer ∙ ap (tree.unary operator type) it.1)

binary_is : (operator : BinaryOperator) (type : IntegerType) (a b : tree.Operand) → IsOperand a → IsOperand b → IsExpression (tree.binary operator type a b)
binary_is operator type a b it other =
    let layer = Expression-F.Binary operator type (boxed it.0) (boxed other.0) in
    (roll-Expression layer, fold-roll-Expression (Args → Args) Expr Init tree.Operand argument_layer expression_layer initializer_layer operand_layer layer ∙ (λ i. tree.binary operator type (it.1 i) (other.1 i)))

assign_is : (e : Expr) (a : tree.Operand) → IsExpression e → IsOperand a → IsExpression (tree.assign e a)
assign_is e a it other =
    let layer = Expression-F.Assign (boxed it.0) (boxed other.0) in
    (roll-Expression layer, fold-roll-Expression (Args → Args) Expr Init tree.Operand argument_layer expression_layer initializer_layer operand_layer layer ∙ (λ i. tree.assign (it.1 i) (other.1 i)))

putchar_is : (a : tree.Operand) → IsOperand a → IsExpression (tree.putchar a)
putchar_is a it =
    let layer = Expression-F.Putchar (boxed it.0) in
    (roll-Expression layer, fold-roll-Expression (Args → Args) Expr Init tree.Operand argument_layer expression_layer initializer_layer operand_layer layer ∙ ap tree.putchar it.1)

operand_is : (read : Option ValueType) (to : Option IntegerType) (e : Expr) → IsExpression e → IsOperand (tree.operand (object_type_or_none read) to e)
operand_is read to e it = (
  roll-Operand (record { read = read; to = to; of = it.0 }),
  fold-roll-Operand (Args → Args) Expr Init tree.Operand argument_layer expression_layer initializer_layer operand_layer (record { read = read; to = to; of = it.0 })
      ∙ ap (tree.operand (object_type_or_none read) to) it.1,
)

read_is : (slots : Slots) (object : ObjectType) (e : Expr) (type : IntegerType) (to : Option IntegerType) → IsRead slots object e type → IsOperand (tree.operand (Some object) to e)
read_is slots (tree.scalar s) (tree.variable slot) type to is = operand_is (Some (of_scalar s)) to (tree.variable slot) (variable_is slot)
read_is slots object e type to is = absurd is

module _ (slots : Slots) where
  mutual
    unfolding HasType

    typed_is : (e : Expr) (type : IntegerType) → HasType slots e type → IsExpression e
    typed_is (tree.literal (tree.number (pos n))) type is = literal_is (pos n)
    typed_is (tree.unary operator computed a) type is = unary_is operator computed a (gives_is a computed is.2)
    typed_is (tree.binary operator computed a b) type is = binary_is operator computed a b (gives_is a computed is.2) (gives_is b computed is.3)
    typed_is other type is = absurd is

    gives_is : (a : tree.Operand) (type : IntegerType) → Gives slots a type → IsOperand a
    gives_is (tree.operand None to e) type is = operand_is None to e (typed_is e is.0 is.1)
    gives_is (tree.operand (Some object) to e) type is = read_is slots object e is.0 to is.1

  discarded_is : (a : tree.Operand) → IsTypedDiscarded slots a → IsOperand a
  discarded_is (tree.operand None None (tree.assign (tree.variable slot) a)) is = operand_is None None (tree.assign (tree.variable slot) a) (assign_is (tree.variable slot) a (variable_is slot) (gives_is a is.0 is.2))
  discarded_is (tree.operand None None (tree.putchar a)) is = operand_is None None (tree.putchar a) (putchar_is a (gives_is a types.Int is))
  discarded_is other is = absurd is

declared_is : (slots : Slots) (slot : ℕ) (type : Option IntegerType) (a : tree.Operand) → IsTypedDeclaration slots slot type a → IsOperand a
declared_is slots slot None a is = absurd is
declared_is slots slot (Some type) a is = gives_is (slots ++ type ∷ []) a type is.1

value_is : (a : tree.Operand) → IsOperand a → (made : Initializer) × (init_of made ≡ tree.value a)
value_is a it = (
  roll-Initializer (Initializer-F.Value it.0),
  fold-roll-Initializer (Args → Args) Expr Init tree.Operand argument_layer expression_layer initializer_layer operand_layer (Initializer-F.Value it.0) ∙ ap tree.value it.1,
)

-- ---- statements

abbrev IsStatement : Stmt ℕ → Type 0
IsStatement s = (made : Statement) × (stmt_of made ≡ s)

-- no list has more statements than they weigh
pub record AreStatements (b : Stmts ℕ) : Type 0 where
  pub made : List Statement
  pub are : stmts_of made ≡ b
  pub few : length made ≤ stmts_weight b

empty_is : IsStatement tree.empty
empty_is = (roll-Statement Statement-F.Empty, fold-roll-Statement (Stmt ℕ) (Handlers ℕ → Handlers ℕ) statement_layer handler_layer Statement-F.Empty)

expression_is : (a : tree.Operand) → IsOperand a → IsStatement (tree.expression a)
expression_is a it =
    let layer = Statement-F.Expression it.0 in
    (roll-Statement layer, fold-roll-Statement (Stmt ℕ) (Handlers ℕ → Handlers ℕ) statement_layer handler_layer layer ∙ ap tree.expression it.1)

declaration_is : (slot : ℕ) (s : Scalar) (a : tree.Operand) → IsOperand a → IsStatement (tree.variable_declaration slot (tree.scalar s) (tree.value a))
declaration_is slot s a it =
    let value = value_is a it in
    let layer = Statement-F.Variable slot (of_scalar s) value.0 in
    (roll-Statement layer, fold-roll-Statement (Stmt ℕ) (Handlers ℕ → Handlers ℕ) statement_layer handler_layer layer ∙ ap (tree.variable_declaration slot (tree.scalar s)) value.1)

block_is : (b : Stmts ℕ) → stmts_weight b < 2 ^ 63 → AreStatements b → IsStatement (tree.block b)
block_is b light it =
    let few = it.few in
    let layer = Statement-F.Block (listed it.made (omega arith)) in
    (roll-Statement layer, fold-roll-Statement (Stmt ℕ) (Handlers ℕ → Handlers ℕ) statement_layer handler_layer layer ∙ ap tree.block it.are)

if_is : (c : tree.Operand) (a b : Stmt ℕ) → IsOperand c → IsStatement a → IsStatement b → IsStatement (tree.if_else c a b)
if_is c a b condition first second =
    let layer = Statement-F.If condition.0 (boxed first.0) (boxed second.0) in
    (roll-Statement layer, fold-roll-Statement (Stmt ℕ) (Handlers ℕ → Handlers ℕ) statement_layer handler_layer layer ∙ (λ i. tree.if_else (condition.1 i) (first.1 i) (second.1 i)))

while_is : (c : tree.Operand) (body : Stmt ℕ) → IsOperand c → IsStatement body → IsStatement (tree.while_loop c body)
while_is c body condition it =
    let layer = Statement-F.While condition.0 (boxed it.0) in
    (roll-Statement layer, fold-roll-Statement (Stmt ℕ) (Handlers ℕ → Handlers ℕ) statement_layer handler_layer layer ∙ (λ i. tree.while_loop (condition.1 i) (it.1 i)))

assert_is : (c : ℕ) (a : tree.Operand) → IsOperand a → IsStatement (tree.contract_assert c a)
assert_is c a it =
    let layer = Statement-F.ContractAssert c it.0 in
    (roll-Statement layer, fold-roll-Statement (Stmt ℕ) (Handlers ℕ → Handlers ℕ) statement_layer handler_layer layer ∙ ap (tree.contract_assert c) it.1)

return_is : (a : tree.Operand) → IsOperand a → IsStatement (tree.return_value a)
return_is a it =
    let layer = Statement-F.ReturnValue it.0 in
    (roll-Statement layer, fold-roll-Statement (Stmt ℕ) (Handlers ℕ → Handlers ℕ) statement_layer handler_layer layer ∙ ap tree.return_value it.1)

weighs_some : (s : Stmt ℕ) → 0 < stmt_weight s
unfolding stmt_weight
weighs_some (tree.expression a) = omega arith
weighs_some (tree.variable_declaration slot type i) = omega arith
weighs_some (tree.block b) = omega arith
weighs_some (tree.if_else c a b) = omega arith
weighs_some (tree.while_loop c body) = omega arith
weighs_some (tree.contract_assert c predicate) = omega arith
weighs_some (tree.return_value a) = omega arith
weighs_some other = omega arith

next_are : (s : Stmt ℕ) (rest : Stmts ℕ) → IsStatement s → AreStatements rest → AreStatements (tree.next s rest)
unfolding stmt_weight
next_are s rest first more = record {
  made = first.0 ∷ more.made;
  are = λ i. tree.next (first.1 i) (more.are i);
  few = let few = more.few in omega (arith, weighs_some s);
}

module _ (IsOne : ℕ → Type 0) where
  mutual
    unfolding IsTypedWith stmt_weight

    statement_is : (slots : Slots) (s : Stmt ℕ) → IsTypedWith IsOne slots s → stmt_weight s < 2 ^ 63 → IsStatement s
    statement_is slots tree.empty is light = empty_is
    statement_is slots (tree.expression a) is light = expression_is a (discarded_is slots a is)
    statement_is slots (tree.variable_declaration slot (tree.scalar s) (tree.value a)) is light = declaration_is slot s a (declared_is slots slot (integer_of s) a is)
    statement_is slots (tree.block b) is light = block_is b (omega arith) (statements_are slots b is (omega arith))
    statement_is slots (tree.if_else c a b) is light = if_is c a b (gives_is slots c is.0.0 is.0.1) (statement_is slots a is.2 (omega arith)) (statement_is slots b is.4 (omega arith))
    statement_is slots (tree.while_loop c body) is light = while_is c body (gives_is slots c is.0.0 is.0.1) (statement_is slots body is.2 (omega arith))
    statement_is slots (tree.contract_assert c a) is light = assert_is c a (gives_is slots a is.1.0 is.1.1)
    statement_is slots (tree.return_value a) is light = return_is a (gives_is slots a types.Int is)
    statement_is slots other is light = absurd is

    pub statements_are : (slots : Slots) (b : Stmts ℕ) → AreTypedWith IsOne slots b → stmts_weight b < 2 ^ 63 → AreStatements b
    statements_are slots tree.done is light = record { made = []; are = refl; few = omega arith }
    statements_are slots (tree.next s rest) is light = next_are s rest (statement_is slots s is.0 (omega arith)) (statements_are (seen_behind slots s) rest is.1 (omega arith))
