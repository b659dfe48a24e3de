use Rattle.cx_reach.proofs.Agreeing as law
use Rattle.cx_reach.proofs.laws.agrees.Goals as goal

pub returns : goal.returns
returns c = law.agrees
