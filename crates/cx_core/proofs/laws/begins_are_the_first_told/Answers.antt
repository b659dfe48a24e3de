use Rattle.cx_core.proofs.BeginsTold as law
use Rattle.cx_core.proofs.laws.begins_are_the_first_told.Goals as goal

pub returns : goal.returns
returns c = law.begins_are_the_first_told
