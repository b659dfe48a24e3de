use Rattle.cx_core.specs.Outcome.{either, current_frame}
use Rattle.cx_mean_calls.proofs.calls.construct_at.Goals as goal

pub returns : goal.returns
unfolding either current_frame
returns c =
    let task = rw c.in_ok-insert.ensures.items at c.call_here-task.ensures in
    rw task at c.under.ensures
