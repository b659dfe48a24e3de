use Rattle.cx_core.specs.Outcome.{either}
use Rattle.cx_mean_parts.specs.Seen.{table_of}
use Rattle.cx_mean.proofs.run.step.Goals as goal

pub returns-in-Task : goal.returns-in-Task
unfolding either
returns-in-Task c = rw c.in-Task.is (c.settle.ensures (table_of c.args.machine.now.program.now) _ _ c.task_step-next.ensures)
