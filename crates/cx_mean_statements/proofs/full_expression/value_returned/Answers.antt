use Rattle.cx_core.specs.Outcome.{either, current_temporaries, set_temporaries}
use Rattle.cx_mean_statements.proofs.full_expression.value_returned.Goals as goal

pub returns : goal.returns
unfolding either current_temporaries set_temporaries
returns c = rw (← c.enter_full_expression-full.ensures.frame, ← c.enter_full_expression-full.ensures.entered) c.under_three.ensures
