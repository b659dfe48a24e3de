use Rattle.cx_simulation.proofs.Permitted.{followed}
use Rattle.cx_simulation.proofs.laws.followed_runs_are_permitted.Goals as goal

pub returns : goal.returns
returns c = followed
