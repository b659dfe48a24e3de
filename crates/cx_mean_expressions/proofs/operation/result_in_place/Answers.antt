use Rattle.std.proofs.lemmas.Result.{err_from_is_err_and}
use Rattle.cx_plain_state.proofs.Parts.{ran}
use Rattle.cx_mean_expressions.proofs.operation.result_in_place.Goals as goal

pub returns-in_err-a : goal.returns-in_err-a
returns-in_err-a c = let p = err_from_is_err_and c.from_residual.result c.from_residual.ensures.1 in rw (p.1, p.2) (search (ran, c.in_err-a.ensures) depth 12)

pub returns-in_err-write : goal.returns-in_err-write
returns-in_err-write c = let p = err_from_is_err_and c.from_residual-in_err-write.result c.from_residual-in_err-write.ensures.1 in rw (p.1, p.2) (search (ran, c.in_ok-a.ensures, c.in_err-write.ensures) depth 12)
