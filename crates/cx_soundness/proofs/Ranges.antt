-- What an operator computes of numbers in range is in the range of its type, or undefined behaviour of a kind that a well made program may have.
use Rattle.std.proofs.Common.{◌≡◌, refl, sym, subst, ℕ, zero, suc, ◌/◌, ◌%◌, ◌^◌, ◌<◌, ◌≤◌, ℤ, pos, negsuc, ◌+ℤ◌, ◌-ℤ◌, ◌*ℤ◌, neg_ℤ, Bool, true, false, not, ◌&&◌, ◌||◌, if◌then◌else◌, arith}
use Rattle.std.specs.Prelude.{int_le, int_lt, int_div, int_rem, unsigned_abs, bit_and, bit_or, bit_xor, Result, Ok, Err}
use Rattle.std.specs.Int.{int_div_euclid, int_rem_euclid}
use Rattle.std.specs.Ordering.{int_eq}
use Rattle.std.proofs.lemmas.Int.{ints}
use Rattle.std.proofs.lemmas.Nat.{and_le_l, or_lt, xor_lt, pow_pos}
use Rattle.std.proofs.Math.Nat.{div-le_self, div-mul-le_self, mod-le, div-one}
use Rattle.cx_core.specs.declared.number.IntegerType.{IntegerType}
use Rattle.cx_core.specs.declared.number.IntegerType.TheVariants as types
use Rattle.cx_core.specs.declared.number.BinaryOperator.{BinaryOperator}
use Rattle.cx_core.specs.declared.number.BinaryOperator.TheVariants as operators
use Rattle.cx_core.specs.declared.number.UnaryOperator.{UnaryOperator}
use Rattle.cx_core.specs.declared.number.UnaryOperator.TheVariants as unary
use Rattle.cx_core.specs.Words.{Kind, Overflow, Division, Shift}
use Rattle.cx_core.specs.Number.{width, is_signed, least, in_range, bits, of_bits, modulo, truth_number, converted_number, arithmetic, division, shift, unary_number, binary_number}
use Rattle.cx_core.specs.Operators.{operands_fit}
use Rattle.cx_soundness.specs.Types.{Given, numbers}
use Rattle.cx_soundness.specs.Given.{same_integer, only, numbers_operate, operated_given}
use Rattle.cx_soundness.proofs.Same.{both_left, both_right, equal_integers}
use Rattle.cx_soundness.proofs.Comes.{IsProper}
use Rattle.cx_soundness.proofs.Worlds.{IsNumber}

-- a number in the range of the type, or a kind of undefined behaviour that a well made program may have
abbrev pub GivesIn : IntegerType → Result ℤ Kind → Type 0
GivesIn type (Ok n) = in_range type n ≡ true
GivesIn type (Err kind) = IsProper kind

-- ---- truths, bits and conversions

zero_in_range : (type : IntegerType) → in_range type (pos 0) ≡ true
zero_in_range types.Bool = refl
zero_in_range types.Char = refl
zero_in_range types.Int = refl
zero_in_range types.Unsigned = refl
zero_in_range types.LongLong = refl
zero_in_range types.UnsignedLongLong = refl

one_in_range : (type : IntegerType) → in_range type (pos 1) ≡ true
one_in_range types.Bool = refl
one_in_range types.Char = refl
one_in_range types.Int = refl
one_in_range types.Unsigned = refl
one_in_range types.LongLong = refl
one_in_range types.UnsignedLongLong = refl

pub truth_in_range : (type : IntegerType) (b : Bool) → in_range type (truth_number b) ≡ true
truth_in_range type true = one_in_range type
truth_in_range type false = zero_in_range type

of_bits_in_range : (type : IntegerType) (b : ℕ) → b < 2 ^ width type → in_range type (of_bits type b) ≡ true
of_bits_in_range types.Bool b h = grind (arith, ints)
of_bits_in_range types.Char b h = grind (arith, ints)
of_bits_in_range types.Int b h = grind (arith, ints)
of_bits_in_range types.Unsigned b h = grind (arith, ints)
of_bits_in_range types.LongLong b h = grind (arith, ints)
of_bits_in_range types.UnsignedLongLong b h = grind (arith, ints)

-- the remainder is a natural below the divisor
pub remainder_below : (n : ℤ) (d : ℕ) → 0 < d → unsigned_abs (int_rem_euclid n (pos d)) < d
remainder_below (pos a) d h = omega arith
remainder_below (negsuc a) d h = omega arith

bits_below : (type : IntegerType) (n : ℤ) → bits type n < 2 ^ width type
bits_below type n = remainder_below n (2 ^ width type) (pow_pos (width type))

pub modulo_in_range : (type : IntegerType) (n : ℤ) → in_range type (modulo type n) ≡ true
modulo_in_range type n = of_bits_in_range type (bits type n) (bits_below type n)

pub converted_in_range : (type : IntegerType) (n : ℤ) → in_range type (converted_number type n) ≡ true
converted_in_range types.Bool n = truth_in_range types.Bool (not (int_eq n (pos 0)))
converted_in_range types.Char n = modulo_in_range types.Char n
converted_in_range types.Int n = modulo_in_range types.Int n
converted_in_range types.Unsigned n = modulo_in_range types.Unsigned n
converted_in_range types.LongLong n = modulo_in_range types.LongLong n
converted_in_range types.UnsignedLongLong n = modulo_in_range types.UnsignedLongLong n

-- ---- numbers nearer to zero

-- a natural number up to one in range
pub less_in_range : (type : IntegerType) (a b : ℕ) → b ≤ a → in_range type (pos a) ≡ true → in_range type (pos b) ≡ true
less_in_range types.Bool a b h k = grind (arith, ints)
less_in_range types.Char a b h k = grind (arith, ints)
less_in_range types.Int a b h k = grind (arith, ints)
less_in_range types.Unsigned a b h k = grind (arith, ints)
less_in_range types.LongLong a b h k = grind (arith, ints)
less_in_range types.UnsignedLongLong a b h k = grind (arith, ints)

-- a negative number from one in range on
greater_in_range : (type : IntegerType) (a b : ℕ) → b ≤ a → in_range type (negsuc a) ≡ true → in_range type (negsuc b) ≡ true
greater_in_range types.Bool a b h k = absurd (cc)
greater_in_range types.Char a b h k = grind (arith, ints)
greater_in_range types.Int a b h k = grind (arith, ints)
greater_in_range types.Unsigned a b h k = absurd (cc)
greater_in_range types.LongLong a b h k = grind (arith, ints)
greater_in_range types.UnsignedLongLong a b h k = absurd (cc)

-- the opposite of a natural number, as far from zero as a negative one in range at most
negated_in_range : (type : IntegerType) (a b : ℕ) → b ≤ suc a → in_range type (negsuc a) ≡ true → in_range type (neg_ℤ (pos b)) ≡ true
negated_in_range type a zero h k = zero_in_range type
negated_in_range type a (suc b) h k = greater_in_range type a b (omega arith) k

-- the opposite of a natural number up to one in range, of a type with negative numbers
opposite_in_range : (type : IntegerType) (a b c : ℕ) → b ≤ a → in_range type (pos a) ≡ true → in_range type (negsuc c) ≡ true → in_range type (neg_ℤ (pos b)) ≡ true
opposite_in_range type a zero c h k l = zero_in_range type
opposite_in_range types.Bool a (suc b) c h k l = absurd (cc)
opposite_in_range types.Char a (suc b) c h k l = grind (arith, ints)
opposite_in_range types.Int a (suc b) c h k l = grind (arith, ints)
opposite_in_range types.Unsigned a (suc b) c h k l = absurd (cc)
opposite_in_range types.LongLong a (suc b) c h k l = grind (arith, ints)
opposite_in_range types.UnsignedLongLong a (suc b) c h k l = absurd (cc)

-- a natural number that is nearer to zero than a negative one in range
mirrored_in_range : (type : IntegerType) (a b : ℕ) → b ≤ a → in_range type (negsuc a) ≡ true → in_range type (pos b) ≡ true
mirrored_in_range types.Bool a b h k = absurd (cc)
mirrored_in_range types.Char a b h k = grind (arith, ints)
mirrored_in_range types.Int a b h k = grind (arith, ints)
mirrored_in_range types.Unsigned a b h k = absurd (cc)
mirrored_in_range types.LongLong a b h k = grind (arith, ints)
mirrored_in_range types.UnsignedLongLong a b h k = absurd (cc)

-- ---- operators

arithmetic_in_range : (type : IntegerType) (n : ℤ) → GivesIn type (arithmetic type n)
arithmetic_in_range type n = by_range (in_range type n) refl (is_signed type)
  where
    by_range : (is_in : Bool) → in_range type n ≡ is_in → (signed : Bool) → GivesIn type (if is_in then Ok n else (if signed then Err Overflow else Ok (modulo type n)))
    by_range true h signed = h
    by_range false h true = tt {0}
    by_range false h false = modulo_in_range type n

remainder_in_range : (type : IntegerType) (x y : ℤ) → in_range type x ≡ true → in_range type (int_rem x y) ≡ true
remainder_in_range type (pos a) (pos b) h = less_in_range type a (a % b) (mod-le a b) h
remainder_in_range type (pos a) (negsuc b) h = less_in_range type a (a % suc b) (mod-le a (suc b)) h
remainder_in_range type (negsuc a) (pos b) h = negated_in_range type a (suc a % b) (mod-le (suc a) b) h
remainder_in_range type (negsuc a) (negsuc b) h = negated_in_range type a (suc a % suc b) (mod-le (suc a) (suc b)) h

right_shift_in_range : (type : IntegerType) (x : ℤ) (d : ℕ) → in_range type x ≡ true → in_range type (int_div_euclid x (pos d)) ≡ true
right_shift_in_range type (pos a) d h = less_in_range type a (a / d) (div-le_self a d) h
right_shift_in_range type (negsuc a) d h = greater_in_range type a (a / d) (div-le_self a d) h

-- where a quotient isn't of the type
abbrev has_no_quotient : IntegerType → ℤ → ℤ → Bool
has_no_quotient type x y = int_eq y (pos 0) || (is_signed type && int_eq x (least type) && int_eq y (negsuc 0))

-- all but the least number have an opposite
divided_by_minus_one : (type : IntegerType) (a : ℕ) → in_range type (negsuc a) ≡ true → has_no_quotient type (negsuc a) (negsuc 0) ≡ false → in_range type (pos (suc a)) ≡ true
divided_by_minus_one types.Bool a h e = absurd (cc)
divided_by_minus_one types.Char a h e = grind (arith, ints)
divided_by_minus_one types.Int a h e = grind (arith, ints)
divided_by_minus_one types.Unsigned a h e = absurd (cc)
divided_by_minus_one types.LongLong a h e = grind (arith, ints)
divided_by_minus_one types.UnsignedLongLong a h e = absurd (cc)

quotient_in_range : (type : IntegerType) (x y : ℤ) → in_range type x ≡ true → in_range type y ≡ true → has_no_quotient type x y ≡ false → in_range type (int_div x y) ≡ true
quotient_in_range type (pos a) (pos b) h k e = less_in_range type a (a / b) (div-le_self a b) h
quotient_in_range type (pos a) (negsuc b) h k e = opposite_in_range type a (a / suc b) b (div-le_self a (suc b)) h k
quotient_in_range type (negsuc a) (pos b) h k e = negated_in_range type a (suc a / b) (div-le_self (suc a) b) h
quotient_in_range type (negsuc a) (negsuc zero) h k e = subst (λ q. in_range type (pos q) ≡ true) (sym (div-one (suc a))) (divided_by_minus_one type a h e)
quotient_in_range type (negsuc a) (negsuc (suc b)) h k e = let at_most_half = div-mul-le_self (suc a) (suc (suc b)) in mirrored_in_range type a (suc a / suc (suc b)) (omega arith) h

division_in_range : (type : IntegerType) (x y q : ℤ) → (has_no_quotient type x y ≡ false → in_range type q ≡ true) → GivesIn type (division type x y q)
division_in_range type x y q h = by_quotient (has_no_quotient type x y) h
  where
    by_quotient : (has_none : Bool) → (has_none ≡ false → in_range type q ≡ true) → GivesIn type (if has_none then Err Division else Ok q)
    by_quotient true h = tt {0}
    by_quotient false h = h refl

shift_in_range : (type : IntegerType) (amount : ℤ) (by : ℕ → ℤ) → ((n : ℕ) → in_range type (by n) ≡ true) → GivesIn type (shift type amount by)
shift_in_range type amount by h = by_amount (int_le (pos 0) amount && int_lt amount (pos (width type)))
  where
    by_amount : (is_amount : Bool) → GivesIn type (if is_amount then Ok (by (unsigned_abs amount)) else Err Shift)
    by_amount true = h (unsigned_abs amount)
    by_amount false = tt {0}

pub unary_in_range : (operator : UnaryOperator) (type : IntegerType) (x : ℤ) → GivesIn type (unary_number operator type x)
unary_in_range unary.Minus type x = arithmetic_in_range type (pos 0 -ℤ x)
unary_in_range unary.Not type x = truth_in_range type (int_eq x (pos 0))
unary_in_range unary.Complement type x = modulo_in_range type (negsuc 0 -ℤ x)

both_bits_in_range : (type : IntegerType) (x y : ℤ) (f : ℕ → ℕ → ℕ) → ((a b : ℕ) → a < 2 ^ width type → b < 2 ^ width type → f a b < 2 ^ width type) → in_range type (of_bits type (f (bits type x) (bits type y))) ≡ true
both_bits_in_range type x y f below = of_bits_in_range type (f (bits type x) (bits type y)) (below (bits type x) (bits type y) (bits_below type x) (bits_below type y))

-- ---- what is given

pub zero_is_number : (type : IntegerType) → in_range type (pos 0) ≡ true
zero_is_number type = zero_in_range type

pub one_is_number : (type : IntegerType) → in_range type (pos 1) ≡ true
one_is_number type = one_in_range type

pub of_type_alone : (type : IntegerType) (n : ℤ) → in_range type n ≡ true → IsNumber (same_integer type) n
of_type_alone type n h other same = subst (λ t. in_range t n ≡ true) (equal_integers type other same) h

-- numbers of what is given, or a kind of undefined behaviour that a well made program may have
abbrev pub GivesAs : Given → Result ℤ Kind → Type 0
GivesAs (numbers fits) (Ok n) = IsNumber fits n
GivesAs (numbers fits) (Err kind) = IsProper kind
GivesAs other r = ⊥

alone : (type : IntegerType) (r : Result ℤ Kind) → GivesIn type r → GivesAs (only type) r
alone type (Ok n) h = of_type_alone type n h
alone type (Err kind) h = h

pub unary_gives : (operator : UnaryOperator) (type : IntegerType) (x : ℤ) → GivesAs (only type) (unary_number operator type x)
unary_gives operator type x = alone type (unary_number operator type x) (unary_in_range operator type x)

module _ (type : IntegerType) (left right : IntegerType → Bool) (x y : ℤ) (hx : IsNumber left x) (hy : IsNumber right y) where
  both_fit : (left type && right type) ≡ true → (in_range type x && in_range type y) ≡ true
  both_fit h = both (in_range type x) (in_range type y) (hx type (both_left _ _ h)) (hy type (both_right (left type) _ h))
    where
      both : (a b : Bool) → a ≡ true → b ≡ true → (a && b) ≡ true
      both a b p q = rw (p, q) refl

  is_left : (left type && right type) ≡ true → in_range type x ≡ true
  is_left h = hx type (both_left _ _ h)

  is_right : (left type && right type) ≡ true → in_range type y ≡ true
  is_right h = hy type (both_right (left type) _ h)

  pub operands_fit_where : (operator : BinaryOperator) → numbers_operate operator type left right ≡ true → operands_fit operator type x y ≡ true
  operands_fit_where operators.ShiftLeft h = hx type h
  operands_fit_where operators.ShiftRight h = hx type h
  operands_fit_where operators.Less h = refl
  operands_fit_where operators.Greater h = refl
  operands_fit_where operators.LessEqual h = refl
  operands_fit_where operators.GreaterEqual h = refl
  operands_fit_where operators.Equal h = refl
  operands_fit_where operators.NotEqual h = refl
  operands_fit_where operators.Multiply h = both_fit h
  operands_fit_where operators.Divide h = both_fit h
  operands_fit_where operators.Remainder h = both_fit h
  operands_fit_where operators.Add h = both_fit h
  operands_fit_where operators.Subtract h = both_fit h
  operands_fit_where operators.BitAnd h = both_fit h
  operands_fit_where operators.BitXor h = both_fit h
  operands_fit_where operators.BitOr h = both_fit h

  pub binary_gives : (operator : BinaryOperator) → numbers_operate operator type left right ≡ true → GivesAs (operated_given operator type) (binary_number operator type x y)
  binary_gives operators.Multiply h = alone type (binary_number operators.Multiply type x y) (arithmetic_in_range type (x *ℤ y))
  binary_gives operators.Divide h = alone type (binary_number operators.Divide type x y) (division_in_range type x y (int_div x y) (quotient_in_range type x y (is_left h) (is_right h)))
  binary_gives operators.Remainder h = alone type (binary_number operators.Remainder type x y) (division_in_range type x y (int_rem x y) (λ e. remainder_in_range type x y (is_left h)))
  binary_gives operators.Add h = alone type (binary_number operators.Add type x y) (arithmetic_in_range type (x +ℤ y))
  binary_gives operators.Subtract h = alone type (binary_number operators.Subtract type x y) (arithmetic_in_range type (x -ℤ y))
  binary_gives operators.ShiftLeft h = alone type (binary_number operators.ShiftLeft type x y) (shift_in_range type y (λ n. modulo type (x *ℤ pos (2 ^ n))) (λ n. modulo_in_range type (x *ℤ pos (2 ^ n))))
  binary_gives operators.ShiftRight h = alone type (binary_number operators.ShiftRight type x y) (shift_in_range type y (λ n. int_div_euclid x (pos (2 ^ n))) (λ n. right_shift_in_range type x (2 ^ n) (hx type h)))
  binary_gives operators.Less h = λ t _. truth_in_range t (int_lt x y)
  binary_gives operators.Greater h = λ t _. truth_in_range t (int_lt y x)
  binary_gives operators.LessEqual h = λ t _. truth_in_range t (int_le x y)
  binary_gives operators.GreaterEqual h = λ t _. truth_in_range t (int_le y x)
  binary_gives operators.Equal h = λ t _. truth_in_range t (int_eq x y)
  binary_gives operators.NotEqual h = λ t _. truth_in_range t (not (int_eq x y))
  binary_gives operators.BitAnd h = alone type (binary_number operators.BitAnd type x y) (both_bits_in_range type x y bit_and (λ a b p q. omega (arith, and_le_l a b, p)))
  binary_gives operators.BitXor h = alone type (binary_number operators.BitXor type x y) (both_bits_in_range type x y bit_xor (xor_lt (width type)))
  binary_gives operators.BitOr h = alone type (binary_number operators.BitOr type x y) (both_bits_in_range type x y bit_or (or_lt (width type)))
