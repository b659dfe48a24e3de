use Rattle.std.proofs.Common.{Err, ap, ◌∙◌}
use Rattle.cx_machine.proofs.loading.table_of.Goals as goal

pub unreachable-requires : goal.unreachable-requires
unreachable-requires c =
    let later = c.in-Err-Crossing.field-0-0 in
    let crosses = (c.build.ensures.crossing later (c.in-Err-Crossing.is ∙ ap Err c.in-Err-Crossing.field-0-is)).crosses in
    crosses.not_around (c.requires.nested crosses.earlier later crosses.a crosses.b crosses.before crosses.at_earlier crosses.at_later crosses.overlaps)
