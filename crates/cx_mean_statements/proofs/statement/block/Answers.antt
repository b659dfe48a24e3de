use Rattle.cx_core.specs.Outcome.{either, current_living, set_living}
use Rattle.cx_mean_statements.proofs.statement.block.Goals as goal

pub returns : goal.returns
unfolding either current_living set_living
returns c = rw (← c.enter_scope-scope.ensures.frame, ← c.enter_scope-scope.ensures.entered) c.statement_under.ensures
