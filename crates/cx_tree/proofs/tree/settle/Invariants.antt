use Rattle.std.proofs.Common.{◌≡◌, reverse, slice_get}
use Rattle.cx_table.specs.Steps.{wait}
use Rattle.cx_values.specs.View.{values_of}
use Rattle.cx_tree.specs.Stacks.{Stands}
use Rattle.cx_tree.proofs.tree.settle.Given as goal

abbrev pub invariant-steps : goal.invariant-steps
invariant-steps l = Stands l.marks l.at (reverse l.symbols.items) (values_of l.values.items) × (l.look ≡ slice_get l.marks l.at)

abbrev pub decreases-steps : goal.decreases-steps
decreases-steps l = wait (reverse l.symbols.items)
