use Rattle.cx_plain.proofs.Runs as law
use Rattle.cx_plain.proofs.laws.end_is_the_meaning.Goals as goal

pub returns : goal.returns
returns c = law.end_is_the_meaning
