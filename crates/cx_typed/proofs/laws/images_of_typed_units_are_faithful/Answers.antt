use Rattle.cx_typed.proofs.Images.{images_of_typed_units}
use Rattle.cx_typed.proofs.laws.images_of_typed_units_are_faithful.Goals as goal

pub returns : goal.returns
returns c = images_of_typed_units c.images_of_main_are_faithful.ensures
