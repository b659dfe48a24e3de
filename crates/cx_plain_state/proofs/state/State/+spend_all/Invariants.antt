use Rattle.cx_plain_state.proofs.state.State.+spend_all.Given as goal

abbrev pub decreases-spend_all : goal.decreases-spend_all
decreases-spend_all l = l.units
