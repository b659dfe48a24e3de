use Rattle.std.proofs.Common.{reverse}
use Rattle.cx_values.specs.View.{values_of}
use Rattle.cx_tree.specs.Stacks.{Stands}
use Rattle.cx_tree.proofs.tree.parse.Given as goal

abbrev pub invariant-loop-at : goal.invariant-loop-at
invariant-loop-at l = Stands l.marks l.at (reverse l.symbols.items) (values_of l.values.items)
