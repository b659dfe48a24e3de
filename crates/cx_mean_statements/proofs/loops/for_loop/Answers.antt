use Rattle.cx_core.specs.Outcome.{either, current_living, set_living}
use Rattle.cx_mean_statements.proofs.loops.for_loop.Goals as goal

pub returns : goal.returns
unfolding either current_living set_living
returns c = let h = rw (c.in_ok-begin.ensures.task, c.in_ok-after.ensures.frame, c.in_ok-turns.ensures.task, c.deref.ensures) at c.under_two.ensures in
    rw (← c.enter_scope-scope.ensures.frame, ← c.enter_scope-scope.ensures.entered) h
