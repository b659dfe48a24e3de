-- The machine computes the operators on bits as the source's types say: it takes a number's 128 bits, which are those of
-- its type behind as many copies of the sign.
use Rattle.std.proofs.Common.{◌≡◌, ◌≢◌, ℕ, suc, ◌+◌, ◌-◌, ◌*◌, ◌%◌, ◌^◌, ◌<◌, ℤ, pos, negsuc, Bool, true, false, ◌&&◌, if◌then◌else◌, refl, sym, ap, ◌∙◌, arith}
use Rattle.std.specs.Prelude.{bit_and, bit_or, bit_xor}
use Rattle.std.specs.Int.{w128, cast_signed, cast_unsigned, int_bit_and, int_bit_or, int_bit_xor}
use Rattle.std.specs.Int.Bits.{and_zero_r, or_zero_r, xor_zero_r, and_self, or_self, xor_self}
use Rattle.std.proofs.lemmas.Int.{ints}
use Rattle.std.proofs.lemmas.Nat.{and_block, or_block, xor_block, and_le_l, or_lt, xor_lt}
use Rattle.std.proofs.Math.Nat.{mod-eq_of_lt}
use Rattle.cx_core.specs.declared.number.IntegerType.{IntegerType}
use Rattle.cx_core.specs.declared.number.IntegerType.TheVariants as types
use Rattle.cx_core.specs.Number.{in_range, bits, of_bits}
use Rattle.cx_emit.proofs.Numbers.{given, both_true}

-- ones where the number is negative
abbrev sign : ℕ → Bool → ℕ
sign ones b = if b then ones else 0

-- an operator that takes each bit alone
record IsBitwise (f : ℕ → ℕ → ℕ) : Type 0 where
  block : (k a b r s : ℕ) → r < 2 ^ k → s < 2 ^ k → f (a * 2 ^ k + r) (b * 2 ^ k + s) ≡ f a b * 2 ^ k + f r s
  below : (k r s : ℕ) → r < 2 ^ k → s < 2 ^ k → f r s < 2 ^ k
  signs : Bool → Bool → Bool
  high : (ones : ℕ) (a b : Bool) → f (sign ones a) (sign ones b) ≡ sign ones (signs a b)

abbrev both : Bool → Bool → Bool
both true b = b
both false b = false

abbrev one_of : Bool → Bool → Bool
one_of true b = true
one_of false b = b

abbrev one_alone : Bool → Bool → Bool
one_alone true true = false
one_alone true false = true
one_alone false b = b

bitwise_and : IsBitwise bit_and
bitwise_and = record { block = and_block; below = λ k r s p q. omega (arith, and_le_l r s, p); signs = both; high = high_and }
  where
    high_and : (ones : ℕ) (a b : Bool) → bit_and (sign ones a) (sign ones b) ≡ sign ones (both a b)
    high_and ones true true = and_self ones
    high_and ones true false = and_zero_r ones
    high_and ones false b = refl

bitwise_or : IsBitwise bit_or
bitwise_or = record { block = or_block; below = or_lt; signs = one_of; high = high_or }
  where
    high_or : (ones : ℕ) (a b : Bool) → bit_or (sign ones a) (sign ones b) ≡ sign ones (one_of a b)
    high_or ones true true = or_self ones
    high_or ones true false = or_zero_r ones
    high_or ones false b = refl

bitwise_xor : IsBitwise bit_xor
bitwise_xor = record { block = xor_block; below = xor_lt; signs = one_alone; high = high_xor }
  where
    high_xor : (ones : ℕ) (a b : Bool) → bit_xor (sign ones a) (sign ones b) ≡ sign ones (one_alone a b)
    high_xor ones true true = xor_self ones
    high_xor ones true false = xor_zero_r ones
    high_xor ones false b = refl

-- the bits of a number in 128 and in its type: those below the sign's, and the sign
record Split (type : IntegerType) (k ones : ℕ) (x : ℤ) : Type 0 where
  negative : Bool
  low : ℕ
  small : low < 2 ^ k
  wide : cast_unsigned w128 x ≡ sign ones negative * 2 ^ k + low
  narrow : bits type x ≡ sign 1 negative * 2 ^ k + low

split_char : (x : ℤ) → in_range types.Char x ≡ true → Split types.Char 7 (2 ^ 121 - 1) x
split_char (pos n) h =
    let small : n < 2 ^ 7 = grind (arith, ints) in
    let same : n % 2 ^ 8 ≡ n = mod-eq_of_lt (omega arith) in
    record { negative = false; low = n; small = small; wide = omega arith; narrow = omega (arith, same) }
split_char (negsuc n) h =
    let small : n < 2 ^ 7 = grind (arith, ints) in
    let same : n % 2 ^ 8 ≡ n = mod-eq_of_lt (omega arith) in
    record { negative = true; low = 2 ^ 7 - suc n; small = omega arith; wide = omega arith; narrow = omega (arith, same) }

split_int : (x : ℤ) → in_range types.Int x ≡ true → Split types.Int 31 (2 ^ 97 - 1) x
split_int (pos n) h =
    let small : n < 2 ^ 31 = grind (arith, ints) in
    let same : n % 2 ^ 32 ≡ n = mod-eq_of_lt (omega arith) in
    record { negative = false; low = n; small = small; wide = omega arith; narrow = omega (arith, same) }
split_int (negsuc n) h =
    let small : n < 2 ^ 31 = grind (arith, ints) in
    let same : n % 2 ^ 32 ≡ n = mod-eq_of_lt (omega arith) in
    record { negative = true; low = 2 ^ 31 - suc n; small = omega arith; wide = omega arith; narrow = omega (arith, same) }

split_long : (x : ℤ) → in_range types.LongLong x ≡ true → Split types.LongLong 63 (2 ^ 65 - 1) x
split_long (pos n) h =
    let small : n < 2 ^ 63 = grind (arith, ints) in
    let same : n % 2 ^ 64 ≡ n = mod-eq_of_lt (omega arith) in
    record { negative = false; low = n; small = small; wide = omega arith; narrow = omega (arith, same) }
split_long (negsuc n) h =
    let small : n < 2 ^ 63 = grind (arith, ints) in
    let same : n % 2 ^ 64 ≡ n = mod-eq_of_lt (omega arith) in
    record { negative = true; low = 2 ^ 63 - suc n; small = omega arith; wide = omega arith; narrow = omega (arith, same) }

-- the number with such bits is the same in both
Joins : IntegerType → ℕ → ℕ → Type 0
Joins type k ones = (negative : Bool) (t : ℕ) → t < 2 ^ k → cast_signed w128 (sign ones negative * 2 ^ k + t) ≡ of_bits type (sign 1 negative * 2 ^ k + t)

join_char : Joins types.Char 7 (2 ^ 121 - 1)
unfolding Joins
join_char true t h = grind (arith, ints)
join_char false t h = grind (arith, ints)

join_int : Joins types.Int 31 (2 ^ 97 - 1)
unfolding Joins
join_int true t h = grind (arith, ints)
join_int false t h = grind (arith, ints)

join_long : Joins types.LongLong 63 (2 ^ 65 - 1)
unfolding Joins
join_long true t h = grind (arith, ints)
join_long false t h = grind (arith, ints)

module _ (f : ℕ → ℕ → ℕ) (bitwise : IsBitwise f) where
  block_of : (k ones : ℕ) (x y : ℕ) (a b : Bool) (r s : ℕ) → x ≡ sign ones a * 2 ^ k + r → y ≡ sign ones b * 2 ^ k + s → r < 2 ^ k → s < 2 ^ k → f x y ≡ sign ones (bitwise.signs a b) * 2 ^ k + f r s
  block_of k ones x y a b r s e g p q =
      ap (λ x. f x y) e ∙ ap (λ y. f (sign ones a * 2 ^ k + r) y) g ∙ bitwise.block k (sign ones a) (sign ones b) r s p q ∙ ap (λ high. high * 2 ^ k + f r s) (bitwise.high ones a b)

  signed_bits : (type : IntegerType) (k ones : ℕ) → Joins type k ones → (x y : ℤ) → Split type k ones x → Split type k ones y
      → cast_signed w128 (f (cast_unsigned w128 x) (cast_unsigned w128 y)) ≡ of_bits type (f (bits type x) (bits type y))
  unfolding Joins
  signed_bits type k ones joins x y a b =
      ap (cast_signed w128) (block_of k ones _ _ a.negative b.negative a.low b.low a.wide b.wide a.small b.small)
      ∙ joins (bitwise.signs a.negative b.negative) (f a.low b.low) (bitwise.below k a.low b.low a.small b.small)
      ∙ sym (ap (λ (n : ℕ). of_bits type n) (block_of k 1 _ _ a.negative b.negative a.low b.low a.narrow b.narrow a.small b.small))

  unsigned_join : (t : ℕ) → t < 2 ^ 32 → cast_signed w128 t ≡ of_bits types.Unsigned t
  unsigned_join t h = grind (arith, ints)

  unsigned_long_join : (t : ℕ) → t < 2 ^ 64 → cast_signed w128 t ≡ of_bits types.UnsignedLongLong t
  unsigned_long_join t h = grind (arith, ints)

  unsigned_both : (x y : ℤ) → in_range types.Unsigned x ≡ true → in_range types.Unsigned y ≡ true
      → cast_signed w128 (f (cast_unsigned w128 x) (cast_unsigned w128 y)) ≡ of_bits types.Unsigned (f (bits types.Unsigned x) (bits types.Unsigned y))
  unsigned_both (pos m) (pos n) h k =
      let p : m < 2 ^ 32 = grind (arith, ints) in
      let q : n < 2 ^ 32 = grind (arith, ints) in
      unsigned_join (f m n) (bitwise.below 32 m n p q) ∙ ap (λ (a : ℕ). of_bits types.Unsigned (f a n)) (sym (mod-eq_of_lt p)) ∙ ap (λ (b : ℕ). of_bits types.Unsigned (f (m % 2 ^ 32) b)) (sym (mod-eq_of_lt q))
  unsigned_both (pos m) (negsuc n) h k = absurd (cc)
  unsigned_both (negsuc m) y h k = absurd (cc)

  unsigned_long_both : (x y : ℤ) → in_range types.UnsignedLongLong x ≡ true → in_range types.UnsignedLongLong y ≡ true
      → cast_signed w128 (f (cast_unsigned w128 x) (cast_unsigned w128 y)) ≡ of_bits types.UnsignedLongLong (f (bits types.UnsignedLongLong x) (bits types.UnsignedLongLong y))
  unsigned_long_both (pos m) (pos n) h k =
      let p : m < 2 ^ 64 = grind (arith, ints) in
      let q : n < 2 ^ 64 = grind (arith, ints) in
      unsigned_long_join (f m n) (bitwise.below 64 m n p q) ∙ ap (λ (a : ℕ). of_bits types.UnsignedLongLong (f a n)) (sym (mod-eq_of_lt p)) ∙ ap (λ (b : ℕ). of_bits types.UnsignedLongLong (f (m % 2 ^ 64) b)) (sym (mod-eq_of_lt q))
  unsigned_long_both (pos m) (negsuc n) h k = absurd (cc)
  unsigned_long_both (negsuc m) y h k = absurd (cc)

  same_bits : (type : IntegerType) (x y : ℤ) → type ≢ types.Bool → (in_range type x && in_range type y) ≡ true
      → cast_signed w128 (f (cast_unsigned w128 x) (cast_unsigned w128 y)) ≡ of_bits type (f (bits type x) (bits type y))
  same_bits type x y other h = let b = both_true (in_range type x) (in_range type y) h in go type other b.0 b.1
    where
      go : (type : IntegerType) → type ≢ types.Bool → in_range type x ≡ true → in_range type y ≡ true → cast_signed w128 (f (cast_unsigned w128 x) (cast_unsigned w128 y)) ≡ of_bits type (f (bits type x) (bits type y))
      go types.Bool other h k = absurd (other refl)
      go types.Char other h k = signed_bits types.Char 7 (2 ^ 121 - 1) join_char x y (split_char x h) (split_char y k)
      go types.Int other h k = signed_bits types.Int 31 (2 ^ 97 - 1) join_int x y (split_int x h) (split_int y k)
      go types.Unsigned other h k = unsigned_both x y h k
      go types.LongLong other h k = signed_bits types.LongLong 63 (2 ^ 65 - 1) join_long x y (split_long x h) (split_long y k)
      go types.UnsignedLongLong other h k = unsigned_long_both x y h k

pub same_and : (type : IntegerType) (x y : ℤ) → type ≢ types.Bool → (in_range type x && in_range type y) ≡ true → given (int_bit_and w128 x y) ≡ given (of_bits type (bit_and (bits type x) (bits type y)))
same_and type x y other h = ap given (same_bits bit_and bitwise_and type x y other h)

pub same_xor : (type : IntegerType) (x y : ℤ) → type ≢ types.Bool → (in_range type x && in_range type y) ≡ true → given (int_bit_xor w128 x y) ≡ given (of_bits type (bit_xor (bits type x) (bits type y)))
same_xor type x y other h = ap given (same_bits bit_xor bitwise_xor type x y other h)

pub same_or : (type : IntegerType) (x y : ℤ) → type ≢ types.Bool → (in_range type x && in_range type y) ≡ true → given (int_bit_or w128 x y) ≡ given (of_bits type (bit_or (bits type x) (bits type y)))
same_or type x y other h = ap given (same_bits bit_or bitwise_or type x y other h)
