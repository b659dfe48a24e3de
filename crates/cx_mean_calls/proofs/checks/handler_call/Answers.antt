use Rattle.cx_core.specs.Outcome.{either, current_frame}
use Rattle.cx_plain_state.specs.Seen.{state_of}
use Rattle.cx_mean_calls.proofs.checks.handler_call.Goals as goal

pub returns : goal.returns
unfolding either current_frame state_of
returns c = rw c.in_ok-arguments.ensures.items at c.under.ensures
