use Rattle.cx_mean_parts.specs.Seen.{program_of}
use Rattle.cx_mean_calls.proofs.checks.check_task.Goals as goal

pub returns-in-HandlingViolation : goal.returns-in-HandlingViolation
unfolding program_of
returns-in-HandlingViolation c = rw c.in-HandlingViolation.is c.handling_violation.ensures
