use Rattle.std.proofs.Common.{◌≡◌, Bool, true, Option, sym, ap, ◌∙◌}
use Rattle.std.specs.Prelude.{option_map}
use Rattle.cx_syntax.specs.View.{expr_of}
use Rattle.cx_core.specs.declared.statement.Statement.{Statement}
use Rattle.cx_core.specs.View.{stmt_of}
use Rattle.cx_front.specs.Front.{assigned, both, expr_in, is_assign, only_if, target_in}
use Rattle.cx_front.proofs.Arms.{if_ok}
use Rattle.cx_front.proofs.discarded.assignment_in.Goals as goal

pub returns-then-is_assign : goal.returns-then-is_assign
returns-then-is_assign c =
    let names = c.args.names.now in
    let wanted = both assigned (target_in names (expr_of c.args.left.now)) (expr_in c.args.list.now names (expr_of c.args.right.now)) in
    let is : is_assign c.args.punct ≡ true = sym c.is_assign.ensures ∙ c.if-is_assign.true in
    if_ok (λ (told : Option Statement). option_map stmt_of told ≡ wanted)
    (λ (told : Option Statement). option_map stmt_of told ≡ only_if (is_assign c.args.punct) wanted)
    c.assigned_in.result (λ told h. h ∙ sym (ap (λ (b : Bool). only_if b wanted) is)) c.assigned_in.ensures
