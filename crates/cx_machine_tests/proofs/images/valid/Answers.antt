use Rattle.std.proofs.Common.{subst, sym}
use Rattle.cx_code.specs.Rules.{IsValid}
use Rattle.cx_machine_tests.proofs.Valid.{valid_when}
use Rattle.cx_machine_tests.proofs.images.valid.Goals as goal

pub verify-requires : goal.verify-requires
verify-requires c = let e = c.in_ok-image.ensures {u = tt} in (subst IsValid (sym e) (valid_when _ c.requires)).storable
