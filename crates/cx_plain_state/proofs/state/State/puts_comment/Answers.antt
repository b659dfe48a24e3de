use Rattle.std.proofs.lemmas.Result.{err_from_is_err_and}
use Rattle.cx_plain_state.proofs.Parts.{ran}
use Rattle.cx_plain_state.proofs.state.State.puts_comment.Goals as goal

pub returns-in_err-spend_all : goal.returns-in_err-spend_all
returns-in_err-spend_all c = let p = err_from_is_err_and c.from_residual-in_err-spend_all.result c.from_residual-in_err-spend_all.ensures.1 in rw (p.1, p.2) (search (ran, c.in_ok-report.ensures, c.in_err-spend_all.ensures) depth 12)

pub returns : goal.returns
returns c =
    let told = rw c.bytes.ensures at c.puts.ensures in
    search (ran, c.in_ok-report.ensures, c.in_ok-spend_all.ensures, told) depth 12
