use Rattle.cx_core.specs.Outcome.{either}
use Rattle.cx_mean_parts.specs.Seen.{table_of}
use Rattle.cx_mean_calls.proofs.checks.handling_violation.Goals as goal

pub returns-in-None : goal.returns-in-None
unfolding either
returns-in-None c = rw c.in-None.is (c.silent.ensures (table_of c.args.machine.now.program.now) _ _ c.default_handled.ensures)
