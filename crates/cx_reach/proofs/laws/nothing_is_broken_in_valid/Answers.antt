use Rattle.cx_reach.proofs.Unbroken as law
use Rattle.cx_reach.proofs.laws.nothing_is_broken_in_valid.Goals as goal

pub returns : goal.returns
returns c = law.unbroken
