use Rattle.cx_object.proofs.ObjectLaws.{object_again}
use Rattle.cx_object.proofs.laws.what_is_spelled_is_read.Goals as goal

pub returns : goal.returns
returns c = object_again
