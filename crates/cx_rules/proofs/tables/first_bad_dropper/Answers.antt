use Rattle.std.proofs.Common.{subst, sym}
use Rattle.cx_rules.specs.Tables.{IsLowest, IsUnfit, IsLost, BreaksDropper}
use Rattle.cx_rules.proofs.Lowest.{lowest_of_either}
use Rattle.cx_rules.proofs.Tabled.{unfit_or_lost}
use Rattle.cx_rules.proofs.tables.first_bad_dropper.Goals as goal

pub returns : goal.returns
returns c =
    subst (IsLowest (BreaksDropper c.args.image.now)) (sym c.lesser.ensures)
    (lowest_of_either (IsUnfit c.args.image.now) (IsLost c.args.image.now) (BreaksDropper c.args.image.now) (unfit_or_lost c.args.image.now) c.first_unfit.result c.first_lost.result c.first_unfit.ensures c.first_lost.ensures)
