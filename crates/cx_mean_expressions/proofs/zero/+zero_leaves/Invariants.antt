use Rattle.std.proofs.Common.{length}
use Rattle.cx_mean_expressions.proofs.zero.+zero_leaves.Given as goal

abbrev pub decreases-zero_leaves : goal.decreases-zero_leaves
decreases-zero_leaves l = length l.leaves.now
