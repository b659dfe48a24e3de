use Rattle.std.proofs.Common.{◌≡◌, ◌&&◌, true, sym, ◌∙◌, FitsSigned, ◌*ℤ◌}
use Rattle.std.specs.Int.{w128}
use Rattle.std.proofs.lemmas.Int.{to_z-of_z}
use Rattle.cx_code.specs.Arithmetic.{is_within}
use Rattle.cx_arithmetic.proofs.Ranges.{both_small, product_fits}
use Rattle.cx_arithmetic.proofs.sums.product.Goals as goal

pub returns-in_default : goal.returns-in_default
returns-in_default c =
    let x_fits : FitsSigned w128 c.args.x = c.ranges.x in
    let y_fits : FitsSigned w128 c.args.y = c.ranges.y in
    let within : (is_within c.args.scalar c.args.x && is_within c.args.scalar c.args.y) ≡ true =
    simp to_z-of_z at (sym c.are_within.ensures ∙ c.if-not-are_within.false) in
    let small = both_small c.args.scalar c.args.x c.args.y c.in_default.not-UnsignedLongLong within in
    let fits : FitsSigned w128 (c.args.x *ℤ c.args.y) = product_fits c.args.x c.args.y small.0 small.1 in
    rw within (simp to_z-of_z at c.fitted.ensures)
