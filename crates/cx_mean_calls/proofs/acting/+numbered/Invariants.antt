use Rattle.std.proofs.Common.{length}
use Rattle.cx_mean_calls.proofs.acting.+numbered.Given as goal

abbrev pub decreases-numbered : goal.decreases-numbered
decreases-numbered l = length l.arguments.now
