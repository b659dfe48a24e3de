use Rattle.std.proofs.Common.{ℤ, ap, ◌∙◌, ◌^◌, rules}
use Rattle.std.specs.Int.{w64, w128, cast_signed}
use Rattle.std.proofs.lemmas.Int.{to_z-of_z}
use Rattle.cx_code.specs.Arithmetic.{wrapped}
use Rattle.cx_arithmetic.proofs.conversion.wrap_long_long.Goals as goal

pub returns : goal.returns
returns c =
    to_z-of_z w64 c.cast_signed.result (search rules) ∙ c.cast_signed.ensures ∙ ap (cast_signed w64) c.low_64.ensures
    ∙ ap (λ (z : ℤ). wrapped w64 (2 ^ 64) z) (to_z-of_z w128 c.args.n c.ranges.n)
