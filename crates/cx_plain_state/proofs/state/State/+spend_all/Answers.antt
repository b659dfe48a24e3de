use Rattle.std.proofs.lemmas.Result.{err_from_is_err_and}
use Rattle.cx_plain_state.proofs.Parts.{ran}
use Rattle.cx_plain_state.proofs.Lines.{spends_more}
use Rattle.cx_plain_state.proofs.state.State.+spend_all.Goals as goal

pub returns-in_err-spend : goal.returns-in_err-spend
returns-in_err-spend t c = let p = err_from_is_err_and c.from_residual.result c.from_residual.ensures.1 in rw (p.1, p.2, spends_more c.args.units c.if-units-eq0.false) (search (ran, c.in_err-spend.ensures) depth 12)

pub returns : goal.returns
returns t c = rw (spends_more c.args.units c.if-units-eq0.false) (search (ran, c.in_ok-spend.ensures) depth 12)
