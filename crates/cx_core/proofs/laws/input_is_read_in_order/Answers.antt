use Rattle.cx_core.proofs.InputRead as law
use Rattle.cx_core.proofs.laws.input_is_read_in_order.Goals as goal

pub returns : goal.returns
returns c = law.input_is_read_in_order
