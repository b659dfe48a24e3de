use Rattle.std.proofs.Common.{length}
use Rattle.cx_mean.proofs.begin.+add_globals.Given as goal

abbrev pub decreases-add_globals : goal.decreases-add_globals
decreases-add_globals l = length l.globals.now
