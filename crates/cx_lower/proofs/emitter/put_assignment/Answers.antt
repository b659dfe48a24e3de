use Rattle.std.proofs.Common.{rules, append_assoc}
use Rattle.std.proofs.lemmas.Result.{IfOk-equal}
use Rattle.cx_lower.proofs.emitter.put_assignment.Goals as goal

pub returns : goal.returns
returns c = λ place operand. let e = c.in_ok-put_operand.ensures operand in let f = c.in_ok-put_expression.ensures place in search (rules, IfOk-equal, append_assoc)
