-- How much a statement weighs: the expressions and statements in it, each of which has a token of its own in the source. This is this project's own.
use Rattle.std.specs.Prelude.{ℕ, ◌+◌, suc}
use Rattle.cx_core.specs.Tree.{Expr, unary, binary, assign, putchar, Operand, operand, Init, value, Stmt, Stmts, expression, variable_declaration, block, if_else, while_loop, contract_assert, return_value, done, next}

unfoldable mutual
  pub expr_weight : Expr → ℕ
  expr_weight (unary operator type a) = suc (operand_weight a)
  expr_weight (binary operator type a b) = suc (operand_weight a + operand_weight b)
  expr_weight (assign a b) = suc (expr_weight a + operand_weight b)
  expr_weight (putchar a) = suc (operand_weight a)
  expr_weight other = 1

  pub operand_weight : Operand → ℕ
  operand_weight (operand read to e) = expr_weight e

abbrev pub init_weight : Init → ℕ
init_weight (value a) = operand_weight a
init_weight other = 1

unfoldable mutual
  pub stmt_weight : {A : Type 0} → Stmt A → ℕ
  stmt_weight (expression a) = suc (operand_weight a)
  stmt_weight (variable_declaration slot type i) = suc (init_weight i)
  stmt_weight (block b) = suc (stmts_weight b)
  stmt_weight (if_else c a b) = suc (operand_weight c + (stmt_weight a + stmt_weight b))
  stmt_weight (while_loop c body) = suc (operand_weight c + stmt_weight body)
  stmt_weight (contract_assert c predicate) = suc (operand_weight predicate)
  stmt_weight (return_value a) = suc (operand_weight a)
  stmt_weight other = 1

  pub stmts_weight : {A : Type 0} → Stmts A → ℕ
  stmts_weight done = 0
  stmts_weight (next s rest) = stmt_weight s + stmts_weight rest
