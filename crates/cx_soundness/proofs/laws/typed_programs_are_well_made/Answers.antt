use Rattle.cx_soundness.proofs.Whole.{well_made}
use Rattle.cx_soundness.proofs.laws.typed_programs_are_well_made.Goals as goal

pub returns : goal.returns
returns c = well_made
