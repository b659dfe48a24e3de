use Rattle.cx_core.specs.Outcome.{either, current_frame, set_frame}
use Rattle.cx_mean_calls.proofs.calls.caller_after.Goals as goal

pub returns : goal.returns
unfolding either current_frame set_frame
returns c = rw (c.in-Some.is, ← c.in_ok-within-in-Some.ensures.entered, ← c.in_ok-within-in-Some.ensures.frame, ← c.caller_postconditions.ensures) c.under.ensures
