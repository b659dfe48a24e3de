use Rattle.cx_core.proofs.Apart as law
use Rattle.cx_core.proofs.laws.linking_keeps_apart.Goals as goal

pub returns : goal.returns
returns c = law.linking_keeps_apart
