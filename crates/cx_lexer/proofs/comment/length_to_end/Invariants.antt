use Rattle.std.proofs.Common.{◌-◌, length}
use Rattle.cx_lexer.proofs.Ends.{EndsBehind}
use Rattle.cx_lexer.proofs.comment.length_to_end.Given as goal

abbrev pub invariant-loop-at : goal.invariant-loop-at
invariant-loop-at l = EndsBehind l.rest l.at

abbrev pub decreases-loop-at : goal.decreases-loop-at
decreases-loop-at l = length l.rest - l.at
