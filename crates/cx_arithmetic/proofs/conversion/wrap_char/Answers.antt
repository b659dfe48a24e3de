use Rattle.std.proofs.Common.{ℤ, ap, ◌∙◌, ◌^◌, rules}
use Rattle.std.specs.Int.{w8, w128, cast_signed}
use Rattle.std.proofs.lemmas.Int.{to_z-of_z}
use Rattle.cx_code.specs.Arithmetic.{wrapped}
use Rattle.cx_arithmetic.proofs.conversion.wrap_char.Goals as goal

pub returns : goal.returns
returns c =
    to_z-of_z w8 c.cast_signed.result (search rules) ∙ c.cast_signed.ensures ∙ ap (cast_signed w8) c.low_8.ensures
    ∙ ap (λ (z : ℤ). wrapped w8 (2 ^ 8) z) (to_z-of_z w128 c.args.n c.ranges.n)
