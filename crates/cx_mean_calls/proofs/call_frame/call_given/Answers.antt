use Rattle.cx_core.specs.Outcome.{either}
use Rattle.cx_mean_parts.specs.Seen.{table_of, program_of}
use Rattle.cx_mean_calls.proofs.call_frame.call_given.Goals as goal

pub returns-in-ValueGiven-Completion : goal.returns-in-ValueGiven-Completion
unfolding either
returns-in-ValueGiven-Completion c =
    rw (c.in-ValueGiven-Completion.is-0, c.in-ValueGiven-Completion.is-1)
    (c.valued.ensures (table_of c.args.machine.now.program.now) _ _ (c.value_given.ensures (program_of c.args.machine.now.program.now)))

pub returns-in-Destroyed-default : goal.returns-in-Destroyed-default
unfolding either
returns-in-Destroyed-default c = rw c.in-Destroyed-default.is-0 (c.valued-in-Destroyed-default.ensures (table_of c.args.machine.now.program.now) _ _ c.destruction.ensures)
