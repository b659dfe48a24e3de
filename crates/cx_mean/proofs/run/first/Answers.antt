use Rattle.std.proofs.Common.{refl}
use Rattle.cx_mean_parts.specs.Seen.{program_of}
use Rattle.cx_mean.proofs.run.first.Goals as goal

pub returns : goal.returns
unfolding program_of
returns c = rw c.new-arguments.ensures.items refl
