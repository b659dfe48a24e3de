use Rattle.std.proofs.Common.{◌≡◌, ◌-◌, ◌++◌, map, take, length, replicate, Some, None}
use Rattle.cx_frame.proofs.operands.slots_with.Given as goal

abbrev pub invariant-loop-value : goal.invariant-loop-value
invariant-loop-value l = l.made.items ≡ map Some (take l.value-index l.arguments)

abbrev pub invariant-loop-empty : goal.invariant-loop-empty
invariant-loop-empty l = l.made.items ≡ map Some l.arguments ++ replicate (l._empty - length l.arguments) None
