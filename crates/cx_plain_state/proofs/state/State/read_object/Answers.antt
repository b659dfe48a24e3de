use Rattle.std.proofs.lemmas.Result.{err_from_is_err_and}
use Rattle.cx_plain_state.proofs.Parts.{ran}
use Rattle.cx_plain_state.proofs.state.State.read_object.Goals as goal

pub returns-in_err-x : goal.returns-in_err-x
returns-in_err-x c = let p = err_from_is_err_and c.from_residual-in_err-x.result c.from_residual-in_err-x.ensures.1 in rw (p.1, p.2) (search (ran, c.in_ok-a.ensures, c.in_err-x.ensures) depth 12)
