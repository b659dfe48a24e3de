-- The parts of the operators of numbers that have functions of their own here.
use Rattle.std.specs.Prelude.{ℕ, ◌^◌, Bool, ◌&&◌, ◌||◌, ℤ, pos, negsuc, ◌*ℤ◌, int_le, int_lt}
use Rattle.std.specs.Int.{int_div_euclid}
use Rattle.std.specs.Ordering.{int_eq}
use Rattle.cx_core.specs.declared.number.IntegerType.{IntegerType}
use Rattle.cx_core.specs.Number.{width, is_signed, least, modulo}

abbrev pub is_undefined_quotient : IntegerType → ℤ → ℤ → Bool
is_undefined_quotient type x y = int_eq y (pos 0) || (is_signed type && int_eq x (least type) && int_eq y (negsuc 0))

abbrev pub is_shift : IntegerType → ℤ → Bool
is_shift type amount = int_le (pos 0) amount && int_lt amount (pos (width type))

abbrev pub left : IntegerType → ℤ → ℕ → ℤ
left type x n = modulo type (x *ℤ pos (2 ^ n))

abbrev pub right : ℤ → ℕ → ℤ
right x n = int_div_euclid x (pos (2 ^ n))
