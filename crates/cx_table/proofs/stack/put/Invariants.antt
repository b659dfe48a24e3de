use Rattle.std.proofs.Common.{◌≡◌, ◌++◌, reverse, ◌≤◌, length, drop}
use Rattle.cx_table.proofs.stack.put.Given as goal

abbrev pub invariant-loop-i : goal.invariant-loop-i
invariant-loop-i l = (l.i ≤ length l.body) × (reverse l.stack.items ≡ drop l.i l.body ++ reverse l.initial.stack.items)

abbrev pub decreases-loop-i : goal.decreases-loop-i
decreases-loop-i l = l.i
