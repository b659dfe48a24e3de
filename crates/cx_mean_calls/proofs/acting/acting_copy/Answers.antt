use Rattle.cx_core.specs.Outcome.{either, current_living, set_living}
use Rattle.cx_mean_calls.proofs.acting.acting_copy.Goals as goal

pub returns : goal.returns
unfolding either current_living set_living
returns c = λ f call. rw (← c.enter_construction-constructing.ensures.entered, ← c.enter_construction-constructing.ensures.frame) c.copy_under.ensures
