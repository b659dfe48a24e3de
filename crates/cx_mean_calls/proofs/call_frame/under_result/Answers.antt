use Rattle.cx_core.specs.Outcome.{either, current_frame, set_frame}
use Rattle.cx_mean_calls.proofs.call_frame.under_result.Goals as goal

pub returns : goal.returns
unfolding either current_frame set_frame
returns c = rw (← c.in_ok-within.ensures.entered, ← c.in_ok-within.ensures.frame) c.under_two.ensures
