use Rattle.std.proofs.Common.{reverse}
use Rattle.cx_values.specs.View.{values_of}
use Rattle.cx_tree.proofs.Stands.{ended_early}
use Rattle.cx_tree.proofs.tree.read.Goals as goal

pub returns-in-Ok-Ended : goal.returns-in-Ok-Ended
returns-in-Ok-Ended c = ended_early c.args.marks.now c.args.at (reverse c.settle.new.symbols.items) (values_of c.settle.new.values.items) c.in-Ok-Ended.field-0 c.in-Ok-Ended.field-0-is c.in-Ok-Ended.ensures c.requires.inside
