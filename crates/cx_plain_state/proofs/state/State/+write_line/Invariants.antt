use Rattle.std.proofs.Common.{length}
use Rattle.cx_plain_state.proofs.state.State.+write_line.Given as goal

abbrev pub decreases-write_line : goal.decreases-write_line
decreases-write_line l = length l.text.now
