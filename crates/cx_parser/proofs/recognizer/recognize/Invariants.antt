use Rattle.std.proofs.Common.{reverse}
use Rattle.cx_parser.specs.Reads.{Stands}
use Rattle.cx_parser.proofs.recognizer.recognize.Given as goal

abbrev pub invariant-loop-at : goal.invariant-loop-at
invariant-loop-at l = Stands l.marks l.at (reverse l.stack.items)
