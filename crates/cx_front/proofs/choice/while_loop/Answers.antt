use Rattle.std.proofs.Common.{ℕ, Option, Some, sym, ap, ◌∙◌}
use Rattle.std.specs.Prelude.{option_map}
use Rattle.cx_core.specs.declared.statement.Statement.{Statement}
use Rattle.cx_core.specs.Tree as core
use Rattle.cx_core.specs.View.{stmt_of}
use Rattle.cx_front.specs.declared.typed.TypedExpression.{TypedExpression}
use Rattle.cx_front.specs.Core.{typed_of}
use Rattle.cx_front.specs.Front.{as_condition, both, while_of}
use Rattle.cx_front.proofs.MadeTrees.{made-while}
use Rattle.cx_front.proofs.choice.while_loop.Goals as goal

pub returns-in_ok-body-in-Some : goal.returns-in_ok-body-in-Some
returns-in_ok-body-in-Some c =
    let body = c.in_ok-body-in-Some.body in
    ap (λ (s : core.Stmt ℕ). Some s) (made-while c.as_condition.result body)
    ∙ ap (λ (o : core.Operand). Some (core.while_loop o (stmt_of body.value))) c.as_condition.ensures
    ∙ ap (λ (s : Statement). Some (core.while_loop (as_condition (typed_of c.in-Some.condition)) (stmt_of s))) c.in_ok-body-in-Some.ensures.ok
    ∙ ap (λ (o : Option TypedExpression). both while_of (option_map typed_of o) (Some (stmt_of c.args.body))) (sym c.in-Some.is)
