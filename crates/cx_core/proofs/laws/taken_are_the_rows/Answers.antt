use Rattle.cx_core.proofs.RowsTaken as law
use Rattle.cx_core.proofs.laws.taken_are_the_rows.Goals as goal

pub returns : goal.returns
returns c = law.taken_are_the_rows
