use Rattle.cx_simulation.proofs.MainFollowed.{main_followed}
use Rattle.cx_simulation.proofs.laws.followed_calls_of_main_are_permitted.Goals as goal

pub returns : goal.returns
returns c = main_followed
