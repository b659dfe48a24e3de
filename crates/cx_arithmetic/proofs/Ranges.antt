-- This bounds the numbers of the types, so that 128 bits hold what is computed of them, with laws of the operators there.
use Rattle.std.proofs.Common.{◌≡◌, ◌≢◌, ℕ, ◌<◌, ◌≤◌, ℤ, pos, negsuc, ◌-ℤ◌, ◌*ℤ◌, ◌≤ℤ◌, neg_ℤ, true, false, ◌&&◌, ◌/◌, ◌^◌, zero, suc, FitsSigned, arith, refl, ◌∙◌, lit<, of_z}
use Rattle.std.specs.Prelude.{int_div, unsigned_abs}
use Rattle.std.specs.Int.{w128, int_shl, int_bit_not}
use Rattle.std.proofs.lemmas.Int.{ints, fits_signed_mul, fits_signed_from_abs, int_wrap_fits, wrapping_mul_is}
use Rattle.std.proofs.Math.Nat.{div-le_self}
use Rattle.std.proofs.Math.Pow.{pow_mono}
use Rattle.cx_code.specs.declared.operation.Scalar.{Scalar}
use Rattle.cx_code.specs.declared.operation.Scalar.TheVariants as scalars
use Rattle.cx_code.specs.Arithmetic.{is_zero, is_within}

-- a number lies within 64 bits
pub record IsNear (n : ℤ) : Type 0 where
  pub low : negsuc 9223372036854775807 ≤ℤ n
  pub high : n ≤ℤ pos 18446744073709551615

pub near : (scalar : Scalar) (n : ℤ) → is_within scalar n ≡ true → IsNear n
near scalars.Bool n h = record { low = grind (arith, ints); high = grind (arith, ints) }
near scalars.Char n h = record { low = grind (arith, ints); high = grind (arith, ints) }
near scalars.Int n h = record { low = grind (arith, ints); high = grind (arith, ints) }
near scalars.Unsigned n h = record { low = grind (arith, ints); high = grind (arith, ints) }
near scalars.LongLong n h = record { low = grind (arith, ints); high = grind (arith, ints) }
near scalars.UnsignedLongLong n h = record { low = grind (arith, ints); high = grind (arith, ints) }

pub both_near : (scalar : Scalar) (x y : ℤ) → (is_within scalar x && is_within scalar y) ≡ true → IsNear x × IsNear y
both_near scalar x y h = grind (arith, near)

pub difference_fits : (x y : ℤ) → IsNear x → IsNear y → FitsSigned w128 (x -ℤ y)
difference_fits x y p q = omega (arith, ints)

-- all bits turned
pub int_bit_not-is : (x : ℤ) → IsNear x → int_bit_not w128 x ≡ neg_ℤ x -ℤ pos 1
int_bit_not-is (pos zero) p = refl
int_bit_not-is (pos (suc n)) p = grind (arith, ints)
int_bit_not-is (negsuc n) p = grind (arith, ints)

-- ---- products

-- every number of the other types lies within 63 bits and a sign
pub small : (scalar : Scalar) (n : ℤ) → scalar ≢ scalars.UnsignedLongLong → is_within scalar n ≡ true → unsigned_abs n ≤ 2 ^ 63
small scalars.Bool n other h = grind (arith, ints)
small scalars.Char n other h = grind (arith, ints)
small scalars.Int n other h = grind (arith, ints)
small scalars.Unsigned n other h = grind (arith, ints)
small scalars.LongLong n other h = grind (arith, ints)
small scalars.UnsignedLongLong n other h = absurd (other refl)

pub both_small : (scalar : Scalar) (x y : ℤ) → scalar ≢ scalars.UnsignedLongLong → (is_within scalar x && is_within scalar y) ≡ true → (unsigned_abs x ≤ 2 ^ 63) × (unsigned_abs y ≤ 2 ^ 63)
both_small scalar x y other h = grind (arith, small)

pub product_fits : (x y : ℤ) → unsigned_abs x ≤ 2 ^ 63 → unsigned_abs y ≤ 2 ^ 63 → FitsSigned w128 (x *ℤ y)
product_fits x y p q = fits_signed_mul w128 x y (2 ^ 63) (2 ^ 63) p q (lit< tt)

-- ---- quotients

unsigned_abs-neg : (n : ℕ) → unsigned_abs (neg_ℤ (pos n)) ≡ n
unsigned_abs-neg zero = refl
unsigned_abs-neg (suc n) = refl

unsigned_abs-int_div : (x y : ℤ) → unsigned_abs (int_div x y) ≤ unsigned_abs x
unsigned_abs-int_div (pos a) (pos b) = div-le_self a b
unsigned_abs-int_div (pos a) (negsuc b) = rw (unsigned_abs-neg (a / suc b)) (div-le_self a (suc b))
unsigned_abs-int_div (negsuc a) (pos b) = rw (unsigned_abs-neg (suc a / b)) (div-le_self (suc a) b)
unsigned_abs-int_div (negsuc a) (negsuc b) = div-le_self (suc a) (suc b)

unsigned_abs_near : (x : ℤ) → IsNear x → unsigned_abs x ≤ 18446744073709551615
unsigned_abs_near x is_near = grind (arith, ints)

pub quotient_fits : (x y : ℤ) → IsNear x → FitsSigned w128 (int_div x y)
quotient_fits x y is_near = fits_signed_from_abs w128 (int_div x y) (omega (arith, unsigned_abs-int_div x y, unsigned_abs_near x is_near))

pub not_zero : (y : ℤ) → (of_z w128 y ≡ 0 → ⊥) → is_zero y ≡ false
not_zero (pos zero) h = absurd (h refl)
not_zero (pos (suc n)) h = grind arith
not_zero (negsuc n) h = refl

-- ---- shifts

below_63 : (amount : ℕ) → amount < 64 → 2 ^ amount ≤ 2 ^ 63
below_63 amount h = pow_mono {i = amount} {j = 63} (omega arith)

pub shifted_fits : (x : ℤ) (amount : ℕ) → IsNear x → amount < 64 → FitsSigned w128 (x *ℤ pos (2 ^ amount))
shifted_fits x amount is_near h =
    fits_signed_mul w128 x (pos (2 ^ amount)) 18446744073709551615 (2 ^ 63) (unsigned_abs_near x is_near) (below_63 amount h) (lit< tt)

pub int_shl-is : (x : ℤ) (amount : ℕ) → FitsSigned w128 x → IsNear x → amount < 64 → int_shl w128 x amount ≡ x *ℤ pos (2 ^ amount)
int_shl-is x amount fits is_near h =
    let power = below_63 amount h in
    wrapping_mul_is w128 x (pos (2 ^ amount)) fits (record { sfits = omega arith }) ∙ int_wrap_fits w128 _ (shifted_fits x amount is_near h)
