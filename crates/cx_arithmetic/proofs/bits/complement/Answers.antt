use Rattle.std.proofs.Common.{◌≡◌, true, sym, ap, ◌∙◌, FitsSigned}
use Rattle.std.specs.Int.{w128}
use Rattle.std.proofs.lemmas.Int.{to_z-of_z}
use Rattle.cx_code.specs.Arithmetic.{is_within, fitted}
use Rattle.cx_arithmetic.proofs.Ranges.{near, int_bit_not-is}
use Rattle.cx_arithmetic.proofs.bits.complement.Goals as goal

pub returns : goal.returns
returns c =
    let x_fits : FitsSigned w128 c.args.x = c.ranges.x in
    let within : is_within c.args.scalar c.args.x ≡ true =
    simp to_z-of_z at (sym c.is_within.ensures ∙ c.if-not-is_within.false) in
    let is_near = near c.args.scalar c.args.x within in
    rw within (c.fitted.ensures ∙ ap (fitted c.args.scalar) (int_bit_not-is c.args.x is_near))
