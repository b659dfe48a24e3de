use Rattle.cx_sound.proofs.Takes as law
use Rattle.cx_sound.proofs.laws.has_what_it_takes.Goals as goal

pub returns : goal.returns
returns c = law.each_instruction_has_what_it_takes
