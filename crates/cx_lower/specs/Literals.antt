-- Which literals an instruction holds, in the trees that have code. This is this project's own.
use Rattle.std.specs.Prelude.{◌<◌, ◌^◌, pos, None}
use Rattle.cx_core.specs.Tree.{number, Expr, literal, unary, binary, assign, putchar, Operand, operand, value, Stmt, Stmts, expression, variable_declaration, block, if_else, while_loop, contract_assert, return_value, done, next}

unfoldable mutual
  pub ExprFits : Expr → Type 0
  ExprFits (literal (number (pos n))) = n < 2 ^ 32
  ExprFits (unary operator type a) = OperandFits a
  ExprFits (binary operator type a b) = OperandFits a × OperandFits b
  ExprFits other = Unit {0}

  pub OperandFits : Operand → Type 0
  OperandFits (operand read to e) = ExprFits e

abbrev pub DiscardedFits : Operand → Type 0
DiscardedFits (operand None None (assign a b)) = ExprFits a × OperandFits b
DiscardedFits (operand None None (putchar a)) = OperandFits a
DiscardedFits other = Unit {0}

unfoldable mutual
  pub StmtFits : {A : Type 0} → Stmt A → Type 0
  StmtFits (expression a) = DiscardedFits a
  StmtFits (variable_declaration slot type (value a)) = OperandFits a
  StmtFits (block b) = StmtsFit b
  StmtFits (if_else c a b) = OperandFits c × StmtFits a × StmtFits b
  StmtFits (while_loop c body) = OperandFits c × StmtFits body
  StmtFits (contract_assert c predicate) = OperandFits predicate
  StmtFits (return_value a) = OperandFits a
  StmtFits other = Unit {0}

  pub StmtsFit : {A : Type 0} → Stmts A → Type 0
  StmtsFit done = Unit {0}
  StmtsFit (next s rest) = StmtFits s × StmtsFit rest
