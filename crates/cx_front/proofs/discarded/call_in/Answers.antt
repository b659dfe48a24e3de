use Rattle.std.proofs.Common.{◌≡◌, Bool, true, Option, sym, ap, ◌∙◌}
use Rattle.std.specs.Prelude.{option_map}
use Rattle.cx_syntax.specs.View.{args_of, expr_of}
use Rattle.cx_core.specs.declared.statement.Statement.{Statement}
use Rattle.cx_core.specs.View.{stmt_of}
use Rattle.cx_front.specs.Front.{argument_in, is_putchar, only_if, written}
use Rattle.cx_front.proofs.Arms.{if_ok}
use Rattle.cx_front.proofs.discarded.call_in.Goals as goal

pub returns-then-is_putchar : goal.returns-then-is_putchar
returns-then-is_putchar c =
    let list = c.args.list.now in
    let wanted = option_map written (argument_in list c.args.names.now (args_of c.args.arguments.now)) in
    let is : is_putchar list (expr_of c.args.callee.now) ≡ true = sym c.is_putchar.ensures ∙ c.if-is_putchar.true in
    if_ok (λ (told : Option Statement). option_map stmt_of told ≡ wanted)
    (λ (told : Option Statement). option_map stmt_of told ≡ only_if (is_putchar list (expr_of c.args.callee.now)) wanted)
    c.written_in.result (λ told h. h ∙ sym (ap (λ (b : Bool). only_if b wanted) is)) c.written_in.ensures
