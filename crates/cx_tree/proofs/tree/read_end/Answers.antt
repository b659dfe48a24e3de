use Rattle.std.proofs.Common.{reverse}
use Rattle.cx_syntax.specs.View.{unit_of}
use Rattle.cx_values.specs.View.{values_of}
use Rattle.cx_tree.proofs.Stands.{the_unit}
use Rattle.cx_tree.proofs.tree.read_end.Goals as goal

pub returns-in-Ok-Ended : goal.returns-in-Ok-Ended
returns-in-Ok-Ended c = the_unit c.args.marks.now (reverse c.settle.new.symbols.items) (values_of c.settle.new.values.items) (values_of c.pop_unit.new.stack.items) (unit_of c.pop_unit.result) c.in-Ok-Ended.field-0 c.in-Ok-Ended.field-0-is c.in-Ok-Ended.ensures c.pop_unit.ensures
