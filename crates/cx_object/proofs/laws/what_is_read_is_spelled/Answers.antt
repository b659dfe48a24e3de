use Rattle.cx_object.proofs.ObjectLaws.{object_takes}
use Rattle.cx_object.proofs.laws.what_is_read_is_spelled.Goals as goal

pub returns : goal.returns
returns c = λ bytes object fits e. let r = object_takes bytes object fits e in (r.storable, r.words, r.same)
