use Rattle.std.proofs.Common.{refl}
use Rattle.std.proofs.lemmas.List.{length-map}
use Rattle.cx_mean_parts.specs.Seen.{program_of}
use Rattle.cx_mean.proofs.begin.begin.Goals as goal

pub returns : goal.returns
unfolding program_of
returns c = rw (c.in_ok-add_globals.ensures, c.new-state.ensures, c.deref.ensures.value, length-map) refl
