use Rattle.std.proofs.Common.{refl}
use Rattle.cx_plain_state.specs.Seen.{state_of}
use Rattle.cx_mean_parts.specs.Seen.{table_of, program_of}
use Rattle.cx_mean_calls.proofs.acting.enter_call.Goals as goal

pub returns-clause-entered : goal.returns-clause-entered
unfolding state_of
returns-clause-entered c =
    let p = program_of c.args.machine.now.program.now in
    let n = table_of c.args.machine.now.program.now in
    let variables = rw c.deref.ensures.value at (c.in_ok-variables.ensures.variables p) in
    rw (c.replace-outer.ensures.after, c.unit_of-unit.ensures p n, variables) refl
