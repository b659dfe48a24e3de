use Rattle.cx_core.specs.Outcome.{either, current_living, set_living}
use Rattle.cx_mean_calls.proofs.acting.acting_constructor.Goals as goal

pub returns : goal.returns
unfolding either current_living set_living
returns c =
    rw (← c.enter_construction-constructing.ensures.entered, ← c.enter_construction-constructing.ensures.frame, ← c.in_ok-edged.ensures, ← c.in_ok-outer.ensures, ← c.in_ok-all.ensures, ← c.site-call.ensures)
    c.under_all.ensures
