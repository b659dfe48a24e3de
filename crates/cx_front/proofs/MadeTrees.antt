-- What a statement or expression that is made of its parts stands for.
use Rattle.std.proofs.Common.{◌≡◌, ℕ, Box, Global, ap, sym, ◌∙◌}
use Rattle.cx_core.specs.declared.expression.Expression.{Expression}
use Rattle.cx_core.specs.declared.expression.Expression.TheVariants as rust
use Rattle.cx_core.specs.declared.expression.Operand.{Operand}
use Rattle.cx_core.specs.declared.expression.Argument.TheFolds.{fold-roll-Expression}
use Rattle.cx_core.specs.declared.expression.Argument.TheOpen.{Expression-F}
use Rattle.cx_core.specs.declared.statement.Statement.{Statement}
use Rattle.cx_core.specs.declared.statement.Statement.TheVariants as made
use Rattle.cx_core.specs.declared.statement.Statement.TheFolds.{fold-roll-Statement}
use Rattle.cx_core.specs.declared.statement.Statement.TheOpen.{Statement-F}
use Rattle.cx_core.specs.Tree as core
use Rattle.cx_core.specs.Tree.{Args, Expr, Init, Stmt, Handlers}
use Rattle.cx_core.specs.View.{argument_layer, expression_layer, initializer_layer, operand_layer, statement_layer, handler_layer, expr_of, operand_of, stmt_of}

pub made-expression : (a : Operand) → stmt_of (made.Expression a) ≡ core.expression (operand_of a)
made-expression a = ap stmt_of (sym (made.rolls-Expression a)) ∙ fold-roll-Statement (Stmt ℕ) (Handlers ℕ → Handlers ℕ) statement_layer handler_layer (Statement-F.Expression a)

pub made-if : (c : Operand) (a b : Box Statement Global) → stmt_of (made.If c a b) ≡ core.if_else (operand_of c) (stmt_of a.value) (stmt_of b.value)
made-if c a b = ap stmt_of (sym (made.rolls-If c a b)) ∙ fold-roll-Statement (Stmt ℕ) (Handlers ℕ → Handlers ℕ) statement_layer handler_layer (Statement-F.If c a b)

pub made-while : (c : Operand) (body : Box Statement Global) → stmt_of (made.While c body) ≡ core.while_loop (operand_of c) (stmt_of body.value)
made-while c body = ap stmt_of (sym (made.rolls-While c body)) ∙ fold-roll-Statement (Stmt ℕ) (Handlers ℕ → Handlers ℕ) statement_layer handler_layer (Statement-F.While c body)

pub made-variable : (slot : ℕ) → expr_of (rust.Variable slot) ≡ core.variable slot
made-variable slot = ap expr_of (sym (rust.rolls-Variable slot)) ∙ fold-roll-Expression (Args → Args) Expr Init core.Operand argument_layer expression_layer initializer_layer operand_layer (Expression-F.Variable slot)

pub made-assign : (place : Box Expression Global) (value : Box Operand Global) → expr_of (rust.Assign place value) ≡ core.assign (expr_of place.value) (operand_of value.value)
made-assign place value = ap expr_of (sym (rust.rolls-Assign place value)) ∙ fold-roll-Expression (Args → Args) Expr Init core.Operand argument_layer expression_layer initializer_layer operand_layer (Expression-F.Assign place value)
