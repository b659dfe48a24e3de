use Rattle.std.proofs.Common.{◌≡◌, Option, sym, ap, ◌∙◌}
use Rattle.std.specs.Prelude.{option_map}
use Rattle.cx_syntax.specs.View.{init_of, local_of, type_of}
use Rattle.cx_core.specs.declared.statement.Statement.{Statement}
use Rattle.cx_core.specs.View.{stmt_of}
use Rattle.cx_front.specs.Front.{declared_in, found, initialised_in}
use Rattle.cx_front.proofs.Arms.{if_ok}
use Rattle.cx_front.proofs.Statements.{declared_stands}
use Rattle.cx_front.proofs.declaration.declared_in.Goals as goal

pub returns-in-Some-clause-told : goal.returns-in-Some-clause-told
returns-in-Some-clause-told c =
    let list = c.args.list.now in
    let names = c.args.names.now.items in
    let l = c.args.local.now in
    let stands : declared_in list c.args.base names (local_of l) ≡ initialised_in list names l.name (init_of l.init) c.in-Some.of =
    declared_stands list c.args.base names (type_of l.of) l.name l.name_at (init_of l.init) c.in_ok-before.before c.in-Some.of (sym (c.in_ok-before.ensures ∙ ap (found l.name) c.as_slice.ensures.value)) (sym c.may_declare.ensures ∙ c.if-may_declare.true) (sym c.type_in.ensures ∙ c.in-Some.is) in
    if_ok (λ (told : Option Statement). option_map stmt_of told ≡ initialised_in list names l.name (init_of l.init) c.in-Some.of)
    (λ (told : Option Statement). option_map stmt_of told ≡ declared_in list c.args.base names (local_of l))
    c.initialised_in.result (λ told h. h ∙ sym stands) c.initialised_in.ensures.told
