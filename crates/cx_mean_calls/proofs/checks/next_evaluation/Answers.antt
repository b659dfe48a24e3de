use Rattle.cx_plain_state.proofs.Parts.{ran-then}
use Rattle.cx_mean_calls.proofs.checks.next_evaluation.Goals as goal

pub returns : goal.returns
returns c = ran-then _ _ _ c.in_ok-e.ensures (rw (← c.in-Some.ensures) c.begin_evaluation.ensures)
