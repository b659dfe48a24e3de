use Rattle.cx_soundness.proofs.RenamedBodies.{definitions_stay_typed}
use Rattle.cx_soundness.proofs.laws.definitions_stay_typed.Goals as goal

pub returns : goal.returns
returns c = definitions_stay_typed
