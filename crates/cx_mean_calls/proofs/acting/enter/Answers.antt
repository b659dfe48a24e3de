use Rattle.cx_core.specs.Outcome.{either, current_frame, set_frame}
use Rattle.cx_mean_calls.proofs.acting.enter.Goals as goal

pub returns : goal.returns
unfolding either current_frame set_frame
returns c =
    let acts = rw c.in_ok-frames.ensures.items at c.acting.ensures in
    rw (← c.in_ok-within.ensures.entered, ← c.in_ok-within.ensures.frame) acts
