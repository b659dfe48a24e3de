use Rattle.std.proofs.lemmas.Result.{err_from_is_err_and}
use Rattle.cx_core.specs.Outcome.{either, current_temporaries, set_temporaries}
use Rattle.cx_plain_state.proofs.Parts.{ran, ran-then}
use Rattle.cx_mean_statements.proofs.full_expression.reference_declared.Goals as goal

pub returns : goal.returns
unfolding either current_temporaries set_temporaries
returns c = rw (c.in_ok-bind.ensures.comes, ← c.enter_full_expression-full.ensures.frame, ← c.enter_full_expression-full.ensures.entered) c.under_three.ensures

pub returns-in_err-bind : goal.returns-in_err-bind
returns-in_err-bind c = let p = err_from_is_err_and c.from_residual.result c.from_residual.ensures.1 in rw (p.1, p.2) (search (ran, c.in_err-bind.ensures) depth 12)
