use Rattle.std.proofs.lemmas.Result.{err_from_is_err_and}
use Rattle.cx_plain_state.specs.Library.{write_line}
use Rattle.cx_plain_state.proofs.Parts.{ran}
use Rattle.cx_plain_state.proofs.state.State.puts.Goals as goal

pub returns-in_err-spend : goal.returns-in_err-spend
unfolding write_line
returns-in_err-spend c = let p = err_from_is_err_and c.from_residual.result c.from_residual.ensures.1 in rw (p.1, p.2) (search (ran, c.in_err-spend.ensures) depth 12)

pub returns-in_err-write_line : goal.returns-in_err-write_line
unfolding write_line
returns-in_err-write_line c = let p = err_from_is_err_and c.from_residual-in_err-write_line.result c.from_residual-in_err-write_line.ensures.1 in rw (p.1, p.2) (search (ran, c.in_ok-spend.ensures, c.in_err-write_line.ensures) depth 12)
