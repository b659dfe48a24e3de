use Rattle.cx_core.specs.Outcome.{either, current_frame}
use Rattle.cx_mean_expressions.proofs.argument_frame.make_call.Goals as goal

pub returns-in-ByName : goal.returns-in-ByName
unfolding either current_frame
returns-in-ByName c =
    let next = rw c.call_here-task.ensures at c.under_all.ensures in
    rw c.in-ByName.is next

pub returns-in_ok-function-in-ByPointer : goal.returns-in_ok-function-in-ByPointer
unfolding either current_frame
returns-in_ok-function-in-ByPointer c =
    let next = rw c.call_here-task-in-ByPointer.ensures at c.under_all-in-ByPointer.ensures in
    rw (c.in-ByPointer.is, c.in_ok-function-in-ByPointer.ensures.comes) next
