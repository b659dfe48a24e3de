use Rattle.std.proofs.lemmas.Result.{err_from_is_err_and}
use Rattle.cx_plain_state.proofs.Parts.{ran}
use Rattle.cx_mean_parts.specs.Seen.{program_of}
use Rattle.cx_mean_calls.proofs.calls.active.Goals as goal

pub returns-in_err-reported : goal.returns-in_err-reported
returns-in_err-reported c =
    let p = err_from_is_err_and c.from_residual-in_err-reported.result c.from_residual-in_err-reported.ensures.1 in
    let told = c.in_err-reported.ensures (program_of c.args.machine.now.program.now) in
    rw (p.1, p.2) (search (ran, c.in_ok-spend.ensures, c.in_ok-f.ensures, told) depth 12)

pub returns : goal.returns
returns c =
    let told = c.in_ok-reported.ensures (program_of c.args.machine.now.program.now) in
    search (ran, c.in_ok-spend.ensures, c.in_ok-f.ensures, told, c.enter.ensures) depth 12
