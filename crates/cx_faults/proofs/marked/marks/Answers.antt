use Rattle.std.proofs.Common.{ap, ◌∙◌}
use Rattle.cx_marks.specs.Marks.{marks}
use Rattle.cx_faults.proofs.Placeless.{the_marks}
use Rattle.cx_faults.proofs.marked.marks.Goals as goal

pub returns-in-Ok : goal.returns-in-Ok
returns-in-Ok c = the_marks c.args.list.now c.in_ok-tokens.tokens.items c.in-Ok.told.items c.in_ok-tokens.ensures (c.in-Ok.ensures ∙ ap marks c.as_slice.ensures.value)
