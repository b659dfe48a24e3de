use Rattle.cx_image.proofs.Standing as law
use Rattle.cx_image.proofs.laws.items_stand.Goals as goal

pub returns : goal.returns
returns c = law.items_stand
