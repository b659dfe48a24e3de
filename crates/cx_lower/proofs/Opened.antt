-- What a tree of one layer stands for.
use Rattle.std.proofs.Common.{◌≡◌, ap, sym, ◌∙◌}
use Rattle.std.specs.Prelude.{ℕ, Box, Vec}
use Rattle.std.specs.declared.alloc.Global.{Global}
use Rattle.cx_types.specs.declared.value_type.ValueType.{ValueType}
use Rattle.cx_core.specs.declared.expression.Expression.{Expression}
use Rattle.cx_core.specs.declared.expression.Expression.TheVariants as rust
use Rattle.cx_core.specs.declared.expression.Operand.{Operand, out-Operand}
use Rattle.cx_core.specs.declared.expression.Initializer.{Initializer}
use Rattle.cx_core.specs.declared.expression.Initializer.TheVariants as initializers
use Rattle.cx_core.specs.declared.expression.Argument.TheFolds.{fold-roll-Expression, fold_out-Operand, fold-roll-Initializer}
use Rattle.cx_core.specs.declared.expression.Argument.TheOpen.{Expression-F, Initializer-F}
use Rattle.cx_core.specs.declared.statement.Statement.{Statement}
use Rattle.cx_core.specs.declared.statement.Statement.TheVariants as statements
use Rattle.cx_core.specs.declared.statement.Statement.TheFolds.{fold-roll-Statement}
use Rattle.cx_core.specs.declared.statement.Statement.TheOpen.{Statement-F}
use Rattle.cx_core.specs.declared.number.IntegerType.{IntegerType}
use Rattle.cx_core.specs.declared.number.BinaryOperator.{BinaryOperator}
use Rattle.cx_core.specs.declared.number.UnaryOperator.{UnaryOperator}
use Rattle.cx_core.specs.Tree as tree
use Rattle.cx_core.specs.Tree.{Args, Expr, Init, Stmt, Handlers, operand}
use Rattle.cx_core.specs.View.{expr_of, operand_of, init_of, stmt_of, stmts_of, object_type, object_type_or_none, argument_layer, expression_layer, initializer_layer, operand_layer, statement_layer, handler_layer}

pub opened-operand : (a : Operand) → operand_of a ≡ tree.operand (object_type_or_none (out-Operand a).read) (out-Operand a).to (expr_of (out-Operand a).of)
opened-operand a = fold_out-Operand (Args → Args) Expr Init tree.Operand argument_layer expression_layer initializer_layer operand_layer a

pub opened-unary : (operator : UnaryOperator) (of : IntegerType) (a : Box Operand Global) → expr_of (rust.Unary operator of a) ≡ tree.unary operator of (operand_of a.value)
opened-unary operator of a =
    ap expr_of (sym (rust.rolls-Unary operator of a))
    ∙ fold-roll-Expression (Args → Args) Expr Init tree.Operand argument_layer expression_layer initializer_layer operand_layer (Expression-F.Unary operator of a)

pub opened-binary : (operator : BinaryOperator) (of : IntegerType) (a : Box Operand Global) (b : Box Operand Global) → expr_of (rust.Binary operator of a b) ≡ tree.binary operator of (operand_of a.value) (operand_of b.value)
opened-binary operator of a b =
    ap expr_of (sym (rust.rolls-Binary operator of a b))
    ∙ fold-roll-Expression (Args → Args) Expr Init tree.Operand argument_layer expression_layer initializer_layer operand_layer (Expression-F.Binary operator of a b)

pub opened-assign : (a : Box Expression Global) (b : Box Operand Global) → expr_of (rust.Assign a b) ≡ tree.assign (expr_of a.value) (operand_of b.value)
opened-assign a b =
    ap expr_of (sym (rust.rolls-Assign a b))
    ∙ fold-roll-Expression (Args → Args) Expr Init tree.Operand argument_layer expression_layer initializer_layer operand_layer (Expression-F.Assign a b)

pub opened-putchar : (a : Box Operand Global) → expr_of (rust.Putchar a) ≡ tree.putchar (operand_of a.value)
opened-putchar a =
    ap expr_of (sym (rust.rolls-Putchar a))
    ∙ fold-roll-Expression (Args → Args) Expr Init tree.Operand argument_layer expression_layer initializer_layer operand_layer (Expression-F.Putchar a)

pub opened-value : (a : Operand) → init_of (initializers.Value a) ≡ tree.value (operand_of a)
opened-value a =
    ap init_of (sym (initializers.rolls-Value a))
    ∙ fold-roll-Initializer (Args → Args) Expr Init tree.Operand argument_layer expression_layer initializer_layer operand_layer (Initializer-F.Value a)

pub opened-expression : (a : Operand) → stmt_of (statements.Expression a) ≡ tree.expression (operand_of a)
opened-expression a =
    ap stmt_of (sym (statements.rolls-Expression a))
    ∙ fold-roll-Statement (Stmt ℕ) (Handlers ℕ → Handlers ℕ) statement_layer handler_layer (Statement-F.Expression a)

pub opened-variable : (slot : ℕ) (of : ValueType) (i : Initializer) → stmt_of (statements.Variable slot of i) ≡ tree.variable_declaration slot (object_type of) (init_of i)
opened-variable slot of i =
    ap stmt_of (sym (statements.rolls-Variable slot of i))
    ∙ fold-roll-Statement (Stmt ℕ) (Handlers ℕ → Handlers ℕ) statement_layer handler_layer (Statement-F.Variable slot of i)

pub opened-block : (b : Vec Statement Global) → stmt_of (statements.Block b) ≡ tree.block (stmts_of b.items)
opened-block b =
    ap stmt_of (sym (statements.rolls-Block b))
    ∙ fold-roll-Statement (Stmt ℕ) (Handlers ℕ → Handlers ℕ) statement_layer handler_layer (Statement-F.Block b)

pub opened-if : (c : Operand) (a : Box Statement Global) (b : Box Statement Global) → stmt_of (statements.If c a b) ≡ tree.if_else (operand_of c) (stmt_of a.value) (stmt_of b.value)
opened-if c a b =
    ap stmt_of (sym (statements.rolls-If c a b))
    ∙ fold-roll-Statement (Stmt ℕ) (Handlers ℕ → Handlers ℕ) statement_layer handler_layer (Statement-F.If c a b)

pub opened-while : (c : Operand) (body : Box Statement Global) → stmt_of (statements.While c body) ≡ tree.while_loop (operand_of c) (stmt_of body.value)
opened-while c body =
    ap stmt_of (sym (statements.rolls-While c body))
    ∙ fold-roll-Statement (Stmt ℕ) (Handlers ℕ → Handlers ℕ) statement_layer handler_layer (Statement-F.While c body)

pub opened-return : (a : Operand) → stmt_of (statements.ReturnValue a) ≡ tree.return_value (operand_of a)
opened-return a =
    ap stmt_of (sym (statements.rolls-ReturnValue a))
    ∙ fold-roll-Statement (Stmt ℕ) (Handlers ℕ → Handlers ℕ) statement_layer handler_layer (Statement-F.ReturnValue a)

pub opened-assert : (a : ℕ) (predicate : Operand) → stmt_of (statements.ContractAssert a predicate) ≡ tree.contract_assert a (operand_of predicate)
opened-assert a predicate =
    ap stmt_of (sym (statements.rolls-ContractAssert a predicate))
    ∙ fold-roll-Statement (Stmt ℕ) (Handlers ℕ → Handlers ℕ) statement_layer handler_layer (Statement-F.ContractAssert a predicate)
