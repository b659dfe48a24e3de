use Rattle.cx_judged.proofs.Units as law
use Rattle.cx_judged.proofs.laws.built_is_not_outside.Goals as goal

pub returns : goal.returns
returns c = law.built_is_not_outside
