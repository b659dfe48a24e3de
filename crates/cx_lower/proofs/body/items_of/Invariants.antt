use Rattle.std.proofs.Common.{◌≡◌, take}
use Rattle.cx_lower.proofs.body.items_of.Given as goal

abbrev pub invariant-loop-instruction : goal.invariant-loop-instruction
invariant-loop-instruction l = l.items ≡ take l.instruction-index l.instructions
