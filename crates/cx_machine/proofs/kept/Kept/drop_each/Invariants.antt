use Rattle.std.proofs.Common.{◌≡◌, length}
use Rattle.cx_machine.specs.Kept.{counts_in, less}
use Rattle.cx_machine.proofs.kept.Kept.drop_each.Given as goal

abbrev pub invariant-exceptions : goal.invariant-exceptions
invariant-exceptions l = less (counts_in l.self) l.pending ≡ less (counts_in l.fn.self) l.fn.pending

abbrev pub decreases-exceptions : goal.decreases-exceptions
decreases-exceptions l = length l.pending
