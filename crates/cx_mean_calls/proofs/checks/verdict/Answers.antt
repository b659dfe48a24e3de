use Rattle.cx_core.specs.Outcome.{either}
use Rattle.cx_mean_parts.specs.Seen.{table_of}
use Rattle.cx_mean_calls.proofs.checks.verdict.Goals as goal

pub returns-then-holds : goal.returns-then-holds
unfolding either
returns-then-holds c = rw c.if-holds.true (c.silent.ensures (table_of c.args.machine.now.program.now) _ _ c.append.ensures)
