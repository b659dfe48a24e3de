use Rattle.std.proofs.lemmas.Result.{err_from_is_err_and}
use Rattle.cx_plain_state.proofs.Parts.{ran}
use Rattle.cx_plain_state.proofs.state.State.query.Goals as goal

pub returns-in_err-spend_all : goal.returns-in_err-spend_all
returns-in_err-spend_all c = let p = err_from_is_err_and c.from_residual-in_err-spend_all.result c.from_residual-in_err-spend_all.ensures.1 in rw (p.1, p.2, ← c.query_units.ensures) (search (ran, c.in_ok-report.ensures, c.in_err-spend_all.ensures) depth 12)
