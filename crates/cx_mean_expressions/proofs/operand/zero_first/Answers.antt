use Rattle.std.proofs.lemmas.Result.{err_from_is_err_and}
use Rattle.cx_plain_state.proofs.Parts.{ran}
use Rattle.cx_mean_expressions.proofs.operand.zero_first.Goals as goal

pub returns-in_err-zero_object : goal.returns-in_err-zero_object
returns-in_err-zero_object c = let p = err_from_is_err_and c.from_residual.result c.from_residual.ensures.1 in rw (p.1, p.2) (search (ran, c.in_err-zero_object.ensures) depth 12)
