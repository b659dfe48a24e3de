use Rattle.cx_reach.proofs.Kept as law
use Rattle.cx_reach.proofs.laws.valid_where_nothing_is_broken.Goals as goal

pub returns : goal.returns
returns c = law.valid_where_nothing_is_broken
