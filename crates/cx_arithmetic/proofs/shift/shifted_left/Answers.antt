use Rattle.std.proofs.Common.{◌≡◌, ◌∙◌, true, sym, ap, ℕ, pos, ◌*ℤ◌, ◌^◌, FitsSigned}
use Rattle.std.specs.Prelude.{unsigned_abs}
use Rattle.std.specs.Int.{w128, int_shl}
use Rattle.std.proofs.lemmas.Int.{to_z-of_z}
use Rattle.cx_code.specs.Arithmetic.{is_within, number_as, Gives}
use Rattle.cx_arithmetic.proofs.Ranges.{near, int_shl-is}
use Rattle.cx_arithmetic.proofs.shift.shifted_left.Goals as goal

pub returns-in-Some : goal.returns-in-Some
returns-in-Some c =
    let x_fits : FitsSigned w128 c.args.x = c.ranges.x in
    let amount_fits : FitsSigned w128 c.args.amount = c.ranges.amount in
    let result_fits : FitsSigned w128 c.convert_number.result = record { sfits = c.convert_number.type_inv } in
    let within : is_within c.args.scalar c.args.x ≡ true =
    simp to_z-of_z at (sym c.is_within.ensures ∙ c.if-not-is_within.false) in
    let is_near = near c.args.scalar c.args.x within in
    let amount = simp to_z-of_z at c.in-Some.ensures in
    let number : int_shl w128 c.args.x c.in-Some.amount ≡ c.args.x *ℤ pos (2 ^ unsigned_abs c.args.amount) =
    int_shl-is c.args.x c.in-Some.amount x_fits is_near amount.bound ∙ ap (λ (k : ℕ). c.args.x *ℤ pos (2 ^ k)) amount.value in
    rw (within, amount.shifts) (ap Gives (to_z-of_z w128 c.convert_number.result result_fits ∙ c.convert_number.ensures ∙ ap (number_as c.args.scalar) number))
