use Rattle.std.proofs.Common.{refl}
use Rattle.cx_core.specs.Outcome.{gives}
use Rattle.cx_mean_parts.proofs.machine.Machine.under_two.Goals as goal

pub returns : goal.returns
unfolding gives
returns c = record { comes = rw c.in_ok-vec.ensures.items refl }
