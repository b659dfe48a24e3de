use Rattle.std.proofs.Common.{length}
use Rattle.cx_mean_calls.proofs.row.+place_due.Given as goal

abbrev pub decreases-place_due : goal.decreases-place_due
decreases-place_due l = length l.due.now
