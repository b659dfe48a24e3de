use Rattle.cx_core.specs.Outcome.{either, current_living, set_living}
use Rattle.cx_mean_calls.proofs.calls.call_into.Goals as goal

pub returns : goal.returns
unfolding either current_living set_living
returns c = rw (← c.enter_scope-scope.ensures.entered, ← c.enter_scope-scope.ensures.frame) c.under_two.ensures
