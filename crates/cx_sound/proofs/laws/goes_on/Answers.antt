use Rattle.cx_sound.proofs.GoesOn as law
use Rattle.cx_sound.proofs.laws.goes_on.Goals as goal

pub returns : goal.returns
returns c = law.goes_on
