use Rattle.std.proofs.Common.{length}
use Rattle.cx_mean_calls.proofs.row.+due_in_all.Given as goal

abbrev pub decreases-due_in_all : goal.decreases-due_in_all
decreases-due_in_all l = length l.due.now
