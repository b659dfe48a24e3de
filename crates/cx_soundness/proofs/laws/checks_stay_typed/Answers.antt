use Rattle.cx_soundness.proofs.RenamedBodies.{checks_stay_typed}
use Rattle.cx_soundness.proofs.laws.checks_stay_typed.Goals as goal

pub returns : goal.returns
returns c = checks_stay_typed
