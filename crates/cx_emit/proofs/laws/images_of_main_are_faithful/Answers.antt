use Rattle.cx_emit.proofs.Starting.{images_of_main}
use Rattle.cx_emit.proofs.laws.images_of_main_are_faithful.Goals as goal

pub returns : goal.returns
returns c = images_of_main
