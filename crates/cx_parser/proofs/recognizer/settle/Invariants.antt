use Rattle.std.proofs.Common.{reverse}
use Rattle.cx_table.specs.Steps.{wait}
use Rattle.cx_parser.specs.Reads.{Silent}
use Rattle.cx_parser.proofs.recognizer.settle.Given as goal

abbrev pub invariant-steps : goal.invariant-steps
invariant-steps l = Silent (reverse l.initial.stack.items) (reverse l.stack.items) l.look

abbrev pub decreases-steps : goal.decreases-steps
decreases-steps l = wait (reverse l.stack.items)
