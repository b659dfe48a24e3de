use Rattle.cx_typed.proofs.Units.{have_program}
use Rattle.cx_typed.proofs.laws.units_of_main_have_its_program.Goals as goal

pub returns : goal.returns
returns c = have_program
