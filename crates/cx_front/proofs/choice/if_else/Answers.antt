use Rattle.std.proofs.Common.{ℕ, Option, Some, sym, ap, ◌∙◌}
use Rattle.std.specs.Prelude.{option_map}
use Rattle.cx_core.specs.declared.statement.Statement.{Statement}
use Rattle.cx_core.specs.Tree as core
use Rattle.cx_core.specs.View.{stmt_of}
use Rattle.cx_front.specs.declared.typed.TypedExpression.{TypedExpression}
use Rattle.cx_front.specs.Core.{typed_of}
use Rattle.cx_front.specs.Front.{as_condition, if_of}
use Rattle.cx_front.proofs.MadeTrees.{made-if}
use Rattle.cx_front.proofs.choice.if_else.Goals as goal

pub returns-in_ok-other-in-Some : goal.returns-in_ok-other-in-Some
returns-in_ok-other-in-Some c =
    let body = c.in_ok-body-in-Some.body in
    let other = c.in_ok-other-in-Some.other in
    let condition = as_condition (typed_of c.in-Some.condition) in
    ap (λ (s : core.Stmt ℕ). Some s) (made-if c.as_condition.result body other)
    ∙ ap (λ (o : core.Operand). Some (core.if_else o (stmt_of body.value) (stmt_of other.value))) c.as_condition.ensures
    ∙ ap (λ (s : Statement). Some (core.if_else condition (stmt_of s) (stmt_of other.value))) c.in_ok-body-in-Some.ensures.ok
    ∙ ap (λ (s : Statement). Some (core.if_else condition (stmt_of c.args.body) (stmt_of s))) c.in_ok-other-in-Some.ensures.ok
    ∙ ap (λ (o : Option TypedExpression). if_of (option_map typed_of o) (Some (stmt_of c.args.body)) (Some (stmt_of c.args.other))) (sym c.in-Some.is)
