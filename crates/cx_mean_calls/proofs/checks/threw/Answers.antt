use Rattle.cx_core.specs.Outcome.{either, current_held, set_held}
use Rattle.cx_mean_calls.proofs.checks.threw.Goals as goal

pub returns-in_ok-holding-in-Observe : goal.returns-in_ok-holding-in-Observe
unfolding either current_held set_held
returns-in_ok-holding-in-Observe c = rw (c.in-Observe.is, ← c.in_ok-holding-in-Observe.ensures.entered, ← c.in_ok-holding-in-Observe.ensures.frame) c.under.ensures

pub returns-in_ok-holding-in-Enforce : goal.returns-in_ok-holding-in-Enforce
unfolding either current_held set_held
returns-in_ok-holding-in-Enforce c = rw (c.in-Enforce.is, ← c.in_ok-holding-in-Enforce.ensures.entered, ← c.in_ok-holding-in-Enforce.ensures.frame) c.under_two.ensures
