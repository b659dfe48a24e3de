use Rattle.cx_core.specs.Outcome.{either, current_living, set_living}
use Rattle.cx_mean_calls.proofs.calls.body.Goals as goal

pub returns : goal.returns
unfolding either current_living set_living
returns c = rw (← c.enter_scope-scope.ensures.entered, ← c.enter_scope-scope.ensures.frame, ← c.in_ok-statements.ensures.task) c.under_two.ensures
