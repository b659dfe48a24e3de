use Rattle.cx_sound.proofs.Entered as law
use Rattle.cx_sound.proofs.laws.starts.Goals as goal

pub returns : goal.returns
returns c = law.starts
