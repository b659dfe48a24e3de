use Rattle.std.proofs.Common.{◌≡◌, Option, ap, ◌∙◌}
use Rattle.std.specs.Prelude.{option_map}
use Rattle.cx_syntax.specs.View.{args_of}
use Rattle.cx_core.specs.declared.statement.Statement.{Statement}
use Rattle.cx_core.specs.View.{stmt_of}
use Rattle.cx_front.specs.Core.{typed_of}
use Rattle.cx_front.specs.Front.{argument_in, written}
use Rattle.cx_front.proofs.Arms.{if_ok}
use Rattle.cx_front.proofs.discarded.written_in.Goals as goal

pub returns : goal.returns
returns c =
    if_ok (λ (told : Option Statement). option_map stmt_of told ≡ option_map written (option_map typed_of c.in_ok-value.value))
    (λ (told : Option Statement). option_map stmt_of told ≡ option_map written (argument_in c.args.list.now c.args.names.now (args_of c.args.arguments.now)))
    c.written.result
    (λ told h. h ∙ ap (option_map written) c.in_ok-value.ensures)
    c.written.ensures
