use Rattle.cx_plain.proofs.Runs as law
use Rattle.cx_plain.proofs.laws.exception_is_the_meaning.Goals as goal

pub returns : goal.returns
returns c = law.exception_is_the_meaning
