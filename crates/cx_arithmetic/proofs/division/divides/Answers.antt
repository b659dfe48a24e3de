use Rattle.std.proofs.Common.{FitsSigned}
use Rattle.std.specs.Prelude.{int_div}
use Rattle.std.specs.Int.{w128}
use Rattle.std.proofs.lemmas.Int.{to_z-of_z}
use Rattle.cx_arithmetic.proofs.Ranges.{near, quotient_fits, not_zero}
use Rattle.cx_arithmetic.proofs.division.divides.Goals as goal

pub returns-then-y-ne0 : goal.returns-then-y-ne0
returns-then-y-ne0 c =
    let x_fits : FitsSigned w128 c.args.x = c.ranges.x in
    let y_fits : FitsSigned w128 c.args.y = c.ranges.y in
    let fits : FitsSigned w128 (int_div c.args.x c.args.y) = quotient_fits c.args.x c.args.y (near c.args.scalar c.args.x c.requires) in
    rw (not_zero c.args.y c.if-y-ne0.true) (simp to_z-of_z at c.is_within.ensures)
