use Rattle.std.proofs.Common.{append_assoc}
use Rattle.cx_lower.proofs.expression.put_truth.Goals as goal

pub returns : goal.returns
returns c = λ fits. rw (← c.convert.ensures, ← append_assoc, ← c.in_ok-put_operand.ensures fits) c.push.ensures
