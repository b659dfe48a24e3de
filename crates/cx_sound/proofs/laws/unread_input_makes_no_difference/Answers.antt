use Rattle.cx_sound.proofs.Unread as law
use Rattle.cx_sound.proofs.laws.unread_input_makes_no_difference.Goals as goal

pub returns : goal.returns
returns c = law.unread_input_makes_no_difference
