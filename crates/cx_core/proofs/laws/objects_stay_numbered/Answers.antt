use Rattle.cx_core.proofs.Numbered as law
use Rattle.cx_core.proofs.laws.objects_stay_numbered.Goals as goal

pub returns : goal.returns
returns c = law.objects_stay_numbered
