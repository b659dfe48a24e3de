use Rattle.cx_sound.proofs.Unwinds as law
use Rattle.cx_sound.proofs.laws.has_regions.Goals as goal

pub returns : goal.returns
returns c = law.each_move_has_its_regions
