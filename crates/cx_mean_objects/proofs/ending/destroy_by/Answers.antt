use Rattle.cx_core.specs.Outcome.{either, current_frame}
use Rattle.cx_mean_objects.proofs.ending.destroy_by.Goals as goal

pub returns : goal.returns
unfolding either current_frame
returns c = rw (c.call_here-task.ensures, c.in_ok-arguments.ensures.items) at c.under.ensures
