use Rattle.cx_judged.proofs.Grammars as law
use Rattle.cx_judged.proofs.laws.faultless_has_tree.Goals as goal

pub returns : goal.returns
returns c = law.faultless_has_tree
