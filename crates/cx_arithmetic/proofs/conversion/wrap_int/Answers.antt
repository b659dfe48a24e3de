use Rattle.std.proofs.Common.{ℤ, ap, ◌∙◌, ◌^◌, rules}
use Rattle.std.specs.Int.{w32, w128, cast_signed}
use Rattle.std.proofs.lemmas.Int.{to_z-of_z}
use Rattle.cx_code.specs.Arithmetic.{wrapped}
use Rattle.cx_arithmetic.proofs.conversion.wrap_int.Goals as goal

pub returns : goal.returns
returns c =
    to_z-of_z w32 c.cast_signed.result (search rules) ∙ c.cast_signed.ensures ∙ ap (cast_signed w32) c.low_32.ensures
    ∙ ap (λ (z : ℤ). wrapped w32 (2 ^ 32) z) (to_z-of_z w128 c.args.n c.ranges.n)
