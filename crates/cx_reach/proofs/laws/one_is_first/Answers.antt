use Rattle.cx_reach.proofs.Ordered as law
use Rattle.cx_reach.proofs.laws.one_is_first.Goals as goal

pub returns : goal.returns
returns c = law.one_is_first
