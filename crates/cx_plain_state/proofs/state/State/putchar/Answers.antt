use Rattle.std.proofs.Common.{rules}
use Rattle.std.specs.Prelude.{FitsSigned}
use Rattle.std.specs.Int.{w128}
use Rattle.std.proofs.lemmas.Int.{to_z-of_z}
use Rattle.std.proofs.lemmas.Result.{err_from_is_err_and}
use Rattle.cx_plain_state.proofs.Parts.{ran}
use Rattle.cx_plain_state.proofs.state.State.putchar.Goals as goal

pub returns-in_err-spend : goal.returns-in_err-spend
returns-in_err-spend c =
    let p = err_from_is_err_and c.from_residual-in_err-spend.result c.from_residual-in_err-spend.ensures.1 in
    rw (p.1, p.2) (search (ran, c.in_ok-n.ensures, c.in_err-spend.ensures) depth 12)

pub returns-in_err-write_number : goal.returns-in_err-write_number
returns-in_err-write_number c =
    let p = err_from_is_err_and c.from_residual-in_err-write_number.result c.from_residual-in_err-write_number.ensures.1 in
    let fits : FitsSigned w128 c.in_ok-n.n = search rules in
    let written = rw (to_z-of_z w128 c.in_ok-n.n fits) at c.in_err-write_number.ensures in
    rw (p.1, p.2) (search (ran, c.in_ok-n.ensures, c.in_ok-spend.ensures, written) depth 12)
