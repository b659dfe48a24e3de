use Rattle.std.proofs.Common.{ℕ, Option, Some, None, sym, ap, ◌∙◌}
use Rattle.std.specs.Prelude.{option_map}
use Rattle.cx_core.specs.declared.expression.Expression.{Expression}
use Rattle.cx_core.specs.Tree as core
use Rattle.cx_core.specs.View.{expr_of, operand_of}
use Rattle.cx_front.specs.declared.names.Slot.{Slot}
use Rattle.cx_front.specs.declared.typed.TypedExpression.{TypedExpression}
use Rattle.cx_front.specs.Core.{typed_of}
use Rattle.cx_front.specs.Front.{assigned, both}
use Rattle.cx_front.proofs.MadeTrees.{made-assign, made-expression, made-variable}
use Rattle.cx_front.proofs.discarded.assigned.Goals as goal

pub returns-in_ok-value-in-Some-value : goal.returns-in_ok-value-in-Some-value
returns-in_ok-value-in-Some-value c =
    let place = c.in_ok-place-in-Some-value.place in
    let value = c.in_ok-value-in-Some-value.value in
    let target = c.in-Some.target in
    ap (λ (s : core.Stmt ℕ). Some s) (made-expression c.unread.result)
    ∙ ap (λ (o : core.Operand). Some (core.expression o)) (c.unread.ensures ∙ ap (core.operand None None) (made-assign place value))
    ∙ ap (λ (e : Expression). Some (core.expression (core.operand None None (core.assign (expr_of e) (operand_of value.value))))) c.in_ok-place-in-Some-value.ensures.ok
    ∙ ap (λ (e : core.Expr). Some (core.expression (core.operand None None (core.assign e (operand_of value.value))))) (made-variable target.slot)
    ∙ ap (λ (o : core.Operand). Some (core.expression (core.operand None None (core.assign (core.variable target.slot) o)))) (ap operand_of c.in_ok-value-in-Some-value.ensures.ok ∙ c.as_type.ensures)
    ∙ ap (λ (v : Option TypedExpression). both assigned (Some target) (option_map typed_of v)) (sym c.in-Some-value.is)
    ∙ ap (λ (t : Option Slot). both assigned t (option_map typed_of c.args.value)) (sym c.in-Some.is)
