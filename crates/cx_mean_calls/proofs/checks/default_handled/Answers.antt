use Rattle.std.proofs.lemmas.Result.{err_from_is_err_and}
use Rattle.cx_plain_state.proofs.Parts.{ran}
use Rattle.cx_mean_calls.proofs.checks.default_handled.Goals as goal

pub returns-in_err-spend : goal.returns-in_err-spend
returns-in_err-spend c = let p = err_from_is_err_and c.from_residual.result c.from_residual.ensures.1 in rw (p.1, p.2) (search (ran, c.in_err-spend.ensures) depth 12)
