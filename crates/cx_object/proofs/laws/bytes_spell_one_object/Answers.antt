use Rattle.cx_object.proofs.ObjectLaws.{one_object}
use Rattle.cx_object.proofs.laws.bytes_spell_one_object.Goals as goal

pub returns : goal.returns
returns c = one_object
