use Rattle.cx_front.proofs.BuiltUnits.{units_are_built}
use Rattle.cx_front.proofs.laws.units_are_built.Goals as goal

pub returns : goal.returns
returns c = units_are_built
