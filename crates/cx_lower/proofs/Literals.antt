-- The literals of typed statements are numbers of `int`, which an instruction holds.
use Rattle.std.proofs.Common.{ℕ, pos, [], ◌∷◌, ◌++◌, Option, Some, None, arith}
use Rattle.cx_core.specs.declared.number.IntegerType.{IntegerType}
use Rattle.cx_core.specs.declared.number.IntegerType.TheVariants as types
use Rattle.cx_core.specs.Operators.{integer_of}
use Rattle.cx_core.specs.Tree.{ObjectType, scalar, number, Expr, literal, variable, unary, binary, assign, putchar, Operand, operand, value, Stmt, Stmts, empty, expression, variable_declaration, block, if_else, while_loop, contract_assert, return_value, done, next}
use Rattle.cx_typed.specs.Typed.{Slots, IsRead, HasType, Gives, IsTypedDiscarded, IsTypedDeclaration, seen_behind, IsTypedWith, AreTypedWith}
use Rattle.cx_lower.specs.Literals.{ExprFits, OperandFits, DiscardedFits, StmtFits, StmtsFit}

read_fits : (slots : Slots) (object : ObjectType) (e : Expr) (type : IntegerType) → IsRead slots object e type → ExprFits e
unfolding ExprFits
read_fits slots (scalar s) (variable slot) type is = tt {0}
read_fits slots object e type is = absurd is

mutual
  unfolding HasType ExprFits

  expr_fits : (e : Expr) (slots : Slots) (type : IntegerType) → HasType slots e type → ExprFits e
  expr_fits (literal (number (pos n))) slots type typed = omega (arith, typed.0)
  expr_fits (unary operator computed a) slots type typed = operand_fits a slots computed typed.2
  expr_fits (binary operator computed a b) slots type typed = (operand_fits a slots computed typed.2, operand_fits b slots computed typed.3)
  expr_fits e slots type typed = tt {0}

  operand_fits : (a : Operand) (slots : Slots) (type : IntegerType) → Gives slots a type → OperandFits a
  operand_fits (operand None to e) slots type typed = expr_fits e slots typed.0 typed.1
  operand_fits (operand (Some object) to e) slots type typed = read_fits slots object e typed.0 typed.1

discarded_fits : (slots : Slots) (e : Operand) → IsTypedDiscarded slots e → DiscardedFits e
unfolding ExprFits
discarded_fits slots (operand None None (assign (variable slot) a)) typed = (tt {0}, operand_fits a slots typed.0 typed.2)
discarded_fits slots (operand None None (putchar a)) typed = operand_fits a slots types.Int typed
discarded_fits slots e typed = absurd typed

declared_fits : (slots : Slots) (slot : ℕ) (type : Option IntegerType) (a : Operand) → IsTypedDeclaration slots slot type a → OperandFits a
declared_fits slots slot None a typed = absurd typed
declared_fits slots slot (Some type) a typed = operand_fits a (slots ++ type ∷ []) type typed.1

module _ {A : Type 0} (IsOne : A → Type 0) where
  mutual
    unfolding IsTypedWith StmtFits

    stmt_fits : (s : Stmt A) (slots : Slots) → IsTypedWith IsOne slots s → StmtFits s
    stmt_fits empty slots typed = tt {0}
    stmt_fits (expression e) slots typed = discarded_fits slots e typed
    stmt_fits (variable_declaration slot (scalar s) (value a)) slots typed = declared_fits slots slot (integer_of s) a typed
    stmt_fits (block b) slots typed = stmts_fit b slots typed
    stmt_fits (if_else c a b) slots typed = (operand_fits c slots typed.0.0 typed.0.1, stmt_fits a slots typed.2, stmt_fits b slots typed.4)
    stmt_fits (while_loop c body) slots typed = (operand_fits c slots typed.0.0 typed.0.1, stmt_fits body slots typed.2)
    stmt_fits (contract_assert c predicate) slots typed = operand_fits predicate slots typed.1.0 typed.1.1
    stmt_fits (return_value a) slots typed = operand_fits a slots types.Int typed
    stmt_fits s slots typed = absurd typed

    pub stmts_fit : (b : Stmts A) (slots : Slots) → AreTypedWith IsOne slots b → StmtsFit b
    stmts_fit done slots typed = tt {0}
    stmts_fit (next s rest) slots typed = (stmt_fits s slots typed.0, stmts_fit rest (seen_behind slots s) typed.1)
