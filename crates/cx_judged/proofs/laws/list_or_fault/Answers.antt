use Rattle.cx_judged.proofs.Lists as law
use Rattle.cx_judged.proofs.laws.list_or_fault.Goals as goal

pub returns : goal.returns
returns c = law.list_or_fault
