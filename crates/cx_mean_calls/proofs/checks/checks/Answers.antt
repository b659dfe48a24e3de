use Rattle.std.proofs.Common.{ap}
use Rattle.std.proofs.lemmas.Result.{err_from_is_err_and}
use Rattle.cx_plain_state.proofs.Parts.{ran-want}
use Rattle.cx_mean_parts.specs.Seen.{table_of}
use Rattle.cx_mean_parts.specs.Tasks.{row_of}
use Rattle.cx_mean_calls.proofs.Rows.{row_counted}
use Rattle.cx_mean_calls.proofs.checks.checks.Goals as goal

pub returns-in_err-due : goal.returns-in_err-due
returns-in_err-due c = let p = err_from_is_err_and c.from_residual.result c.from_residual.ensures.1 in rw (p.1, p.2, c.in_err-due.ensures.want) ran-want

pub returns : goal.returns
returns c =
    let n = table_of c.args.machine.now.program.now in
    let counted = rw c.deref.ensures.value at c.in-Some.ensures in
    rw (row_counted (row_of n c.args.row) c.in_ok-due.ensures.due counted, ← c.in_ok-due.ensures.due) c.doing.ensures
