-- What a tree of one layer stands for.
use Rattle.std.proofs.Common.{◌≡◌, ap, sym, ◌∙◌}
use Rattle.std.specs.Prelude.{ℕ, List}
use Rattle.cx_core.specs.declared.expression.Expression.{Expression}
use Rattle.cx_core.specs.declared.expression.Expression.TheVariants as rust
use Rattle.cx_core.specs.declared.expression.Argument.TheFolds.{fold-roll-Expression}
use Rattle.cx_core.specs.declared.expression.Argument.TheOpen.{Expression-F}
use Rattle.cx_core.specs.declared.expression.Constant.{Constant}
use Rattle.cx_core.specs.Tree as tree
use Rattle.cx_core.specs.Tree.{Args, Expr, Init}
use Rattle.cx_core.specs.View.{expr_of, constant, argument_layer, expression_layer, initializer_layer, operand_layer}

pub opened-literal : (c : Constant) → expr_of (rust.Literal c) ≡ tree.literal (constant c)
opened-literal c =
    ap expr_of (sym (rust.rolls-Literal c))
    ∙ fold-roll-Expression (Args → Args) Expr Init tree.Operand argument_layer expression_layer initializer_layer operand_layer (Expression-F.Literal c)

pub opened-variable : (slot : ℕ) → expr_of (rust.Variable slot) ≡ tree.variable slot
opened-variable slot =
    ap expr_of (sym (rust.rolls-Variable slot))
    ∙ fold-roll-Expression (Args → Args) Expr Init tree.Operand argument_layer expression_layer initializer_layer operand_layer (Expression-F.Variable slot)

pub opened-global : (i : ℕ) → expr_of (rust.Global i) ≡ tree.global i
opened-global i =
    ap expr_of (sym (rust.rolls-Global i))
    ∙ fold-roll-Expression (Args → Args) Expr Init tree.Operand argument_layer expression_layer initializer_layer operand_layer (Expression-F.Global i)

pub opened-function_name : (f : ℕ) → expr_of (rust.FunctionName f) ≡ tree.function_name f
opened-function_name f =
    ap expr_of (sym (rust.rolls-FunctionName f))
    ∙ fold-roll-Expression (Args → Args) Expr Init tree.Operand argument_layer expression_layer initializer_layer operand_layer (Expression-F.FunctionName f)

pub opened-this : expr_of rust.This ≡ tree.this
opened-this =
    ap expr_of (sym rust.rolls-This)
    ∙ fold-roll-Expression (Args → Args) Expr Init tree.Operand argument_layer expression_layer initializer_layer operand_layer Expression-F.This

pub opened-result_name : expr_of rust.ResultName ≡ tree.result_name
opened-result_name =
    ap expr_of (sym rust.rolls-ResultName)
    ∙ fold-roll-Expression (Args → Args) Expr Init tree.Operand argument_layer expression_layer initializer_layer operand_layer Expression-F.ResultName

pub opened-exception_object : expr_of rust.ExceptionObject ≡ tree.exception_object
opened-exception_object =
    ap expr_of (sym rust.rolls-ExceptionObject)
    ∙ fold-roll-Expression (Args → Args) Expr Init tree.Operand argument_layer expression_layer initializer_layer operand_layer Expression-F.ExceptionObject

pub opened-getchar : expr_of rust.Getchar ≡ tree.getchar
opened-getchar =
    ap expr_of (sym rust.rolls-Getchar)
    ∙ fold-roll-Expression (Args → Args) Expr Init tree.Operand argument_layer expression_layer initializer_layer operand_layer Expression-F.Getchar

pub opened-puts : (text : List ℕ) → expr_of (rust.Puts text) ≡ tree.puts text
opened-puts text =
    ap expr_of (sym (rust.rolls-Puts text))
    ∙ fold-roll-Expression (Args → Args) Expr Init tree.Operand argument_layer expression_layer initializer_layer operand_layer (Expression-F.Puts text)
