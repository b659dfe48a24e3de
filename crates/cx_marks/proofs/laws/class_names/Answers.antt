use Rattle.cx_marks.proofs.OneNumber.{class_name_is}
use Rattle.cx_marks.proofs.laws.class_names.Goals as goal

pub returns : goal.returns
returns c = class_name_is
