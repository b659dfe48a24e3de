use Rattle.std.proofs.Common.{rules, append_assoc}
use Rattle.std.proofs.lemmas.Result.{IfOk-equal}
use Rattle.cx_lower.proofs.emitter.Emitter.put_variable.Goals as goal

pub returns : goal.returns
returns c = let e = c.in_ok-put_operand.ensures c.requires in search (rules, IfOk-equal, append_assoc)
