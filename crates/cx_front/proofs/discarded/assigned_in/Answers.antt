use Rattle.std.proofs.Common.{◌≡◌, Option, ap, ◌∙◌}
use Rattle.std.specs.Prelude.{option_map}
use Rattle.cx_syntax.specs.View.{expr_of}
use Rattle.cx_core.specs.declared.statement.Statement.{Statement}
use Rattle.cx_core.specs.View.{stmt_of}
use Rattle.cx_front.specs.declared.names.Slot.{Slot}
use Rattle.cx_front.specs.Core.{typed_of}
use Rattle.cx_front.specs.Front.{assigned, both, expr_in, target_in}
use Rattle.cx_front.proofs.Arms.{if_ok}
use Rattle.cx_front.proofs.discarded.assigned_in.Goals as goal

pub returns : goal.returns
returns c =
    let names = c.args.names.now in
    let target = target_in names (expr_of c.args.left.now) in
    let value = expr_in c.args.list.now names (expr_of c.args.right.now) in
    if_ok (λ (told : Option Statement). option_map stmt_of told ≡ both assigned c.in_ok-target.target (option_map typed_of c.in_ok-value.value))
    (λ (told : Option Statement). option_map stmt_of told ≡ both assigned target value)
    c.assigned.result
    (λ told h. h ∙ ap (λ (s : Option Slot). both assigned s (option_map typed_of c.in_ok-value.value)) c.in_ok-target.ensures ∙ ap (both assigned target) c.in_ok-value.ensures)
    c.assigned.ensures
