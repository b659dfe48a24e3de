-- The machine computes what the source's types and operators say.
use Rattle.std.proofs.Common.{◌≡◌, ◌≢◌, ℕ, zero, suc, ◌^◌, ◌<◌, ℤ, pos, negsuc, ◌-ℤ◌, ◌≤ℤ◌, neg_ℤ, Bool, true, false, not, ◌&&◌, ◌||◌, if◌then◌else◌, refl, sym, ap, ◌∙◌, arith, FitsSigned}
use Rattle.std.specs.Prelude.{unsigned_abs, int_le, int_lt, int_div, Result, Ok, Err}
use Rattle.std.specs.Int.{w8, w32, w64, cast_signed, int_rem_euclid, int_div_euclid, int_shr, int_wrap}
use Rattle.std.specs.Ordering.{int_eq}
use Rattle.std.proofs.lemmas.Int.{ints, int_wrap_fits, int_rem_euclid_is}
use Rattle.std.proofs.Math.Nat.{mod-eq_of_lt, div-le_self, div-mul-le_self}
use Rattle.cx_code.specs.declared.operation.Scalar.TheVariants as scalars
use Rattle.cx_code.specs.Arithmetic.{Computed, Gives, Fails, is_within, number_as, fitted, of_one, of_two, divides, shifts, is_zero}
use Rattle.cx_core.specs.declared.number.IntegerType.{IntegerType}
use Rattle.cx_core.specs.declared.number.IntegerType.TheVariants as types
use Rattle.cx_core.specs.Words.{Kind, Overflow, Division, Shift}
use Rattle.cx_core.specs.Number.{width, is_signed, least, in_range, of_bits, modulo, converted_number, arithmetic, division, shift}
use Rattle.cx_emit.specs.Operations.{scalar_of}

pub same_range : (type : IntegerType) (n : ℤ) → is_within (scalar_of type) n ≡ in_range type n
same_range types.Bool n = refl
same_range types.Char n = refl
same_range types.Int n = refl
same_range types.Unsigned n = refl
same_range types.LongLong n = refl
same_range types.UnsignedLongLong n = refl

-- ---- conversion

-- the remainder is a natural below the divisor
rem_below : (n : ℤ) (d : ℕ) → 0 < d → unsigned_abs (int_rem_euclid n (pos d)) < d
rem_below (pos a) d h = omega arith
rem_below (negsuc a) d h = omega arith

rem_is : (n : ℤ) (d : ℕ) → int_rem_euclid n (pos d) ≡ pos (unsigned_abs (int_rem_euclid n (pos d)))
rem_is (pos a) d = refl
rem_is (negsuc a) d = refl

char_bits : (b : ℕ) → b < 2 ^ 8 → of_bits types.Char b ≡ cast_signed w8 b
char_bits b h = grind (arith, ints)

int_bits : (b : ℕ) → b < 2 ^ 32 → of_bits types.Int b ≡ cast_signed w32 b
int_bits b h = grind (arith, ints)

long_bits : (b : ℕ) → b < 2 ^ 64 → of_bits types.LongLong b ≡ cast_signed w64 b
long_bits b h = grind (arith, ints)

unsigned_bits : (b : ℕ) → b < 2 ^ 32 → of_bits types.Unsigned b ≡ pos b
unsigned_bits b h = grind (arith, ints)

unsigned_long_bits : (b : ℕ) → b < 2 ^ 64 → of_bits types.UnsignedLongLong b ≡ pos b
unsigned_long_bits b h = grind (arith, ints)

pub same_modulo : (type : IntegerType) (n : ℤ) → type ≢ types.Bool → modulo type n ≡ number_as (scalar_of type) n
same_modulo types.Bool n other = absurd (other refl)
same_modulo types.Char n other = char_bits _ (rem_below n (2 ^ 8) (omega arith))
same_modulo types.Int n other = int_bits _ (rem_below n (2 ^ 32) (omega arith))
same_modulo types.Unsigned n other = unsigned_bits _ (rem_below n (2 ^ 32) (omega arith)) ∙ sym (rem_is n (2 ^ 32))
same_modulo types.LongLong n other = long_bits _ (rem_below n (2 ^ 64) (omega arith))
same_modulo types.UnsignedLongLong n other = unsigned_long_bits _ (rem_below n (2 ^ 64) (omega arith)) ∙ sym (rem_is n (2 ^ 64))

pub same_conversion : (type : IntegerType) (n : ℤ) → converted_number type n ≡ number_as (scalar_of type) n
same_conversion types.Bool n = refl
same_conversion types.Char n = same_modulo types.Char n (λ e. cc)
same_conversion types.Int n = same_modulo types.Int n (λ e. cc)
same_conversion types.Unsigned n = same_modulo types.Unsigned n (λ e. cc)
same_conversion types.LongLong n = same_modulo types.LongLong n (λ e. cc)
same_conversion types.UnsignedLongLong n = same_modulo types.UnsignedLongLong n (λ e. cc)

-- a number of a type is the one that it converts to
unsigned_same : (n : ℤ) → in_range types.Unsigned n ≡ true → number_as scalars.Unsigned n ≡ n
unsigned_same (pos a) h = ap pos (mod-eq_of_lt (grind (arith, ints)))
unsigned_same (negsuc a) h = absurd (cc)

unsigned_long_same : (n : ℤ) → in_range types.UnsignedLongLong n ≡ true → number_as scalars.UnsignedLongLong n ≡ n
unsigned_long_same (pos a) h = ap pos (mod-eq_of_lt (grind (arith, ints)))
unsigned_long_same (negsuc a) h = absurd (cc)

char_same : (n : ℤ) → in_range types.Char n ≡ true → number_as scalars.Char n ≡ n
unfolding int_wrap
char_same n h = let fits : FitsSigned w8 n = grind (arith, ints) in int_wrap_fits w8 n fits

int_same : (n : ℤ) → in_range types.Int n ≡ true → number_as scalars.Int n ≡ n
unfolding int_wrap
int_same n h = let fits : FitsSigned w32 n = grind (arith, ints) in int_wrap_fits w32 n fits

long_same : (n : ℤ) → in_range types.LongLong n ≡ true → number_as scalars.LongLong n ≡ n
unfolding int_wrap
long_same n h = let fits : FitsSigned w64 n = grind (arith, ints) in int_wrap_fits w64 n fits

-- a number of a type converts to itself
pub same_number : (type : IntegerType) (n : ℤ) → type ≢ types.Bool → in_range type n ≡ true → number_as (scalar_of type) n ≡ n
same_number types.Bool n other h = absurd (other refl)
same_number types.Char n other h = char_same n h
same_number types.Int n other h = int_same n h
same_number types.Unsigned n other h = unsigned_same n h
same_number types.LongLong n other h = long_same n h
same_number types.UnsignedLongLong n other h = unsigned_long_same n h

-- a number that stands less 2^64 converts back
pub same_wrapped : (n : ℤ) → in_range types.UnsignedLongLong n ≡ true → pos (2 ^ 63) ≤ℤ n → number_as scalars.UnsignedLongLong (n -ℤ pos (2 ^ 64)) ≡ n
same_wrapped (pos a) h k =
    int_rem_euclid_is (pos a -ℤ pos (2 ^ 64)) (pos (2 ^ 64)) (2 ^ 64) 1 a (omega arith) refl (omega (arith, ints)) ∙ ap pos (mod-eq_of_lt (grind (arith, ints)))
same_wrapped (negsuc a) h k = absurd (cc)

pub below_half : (type : IntegerType) (n : ℤ) → type ≢ types.UnsignedLongLong → in_range type n ≡ true → pos (2 ^ 63) ≤ℤ n → ⊥
below_half types.Bool n other h k = grind (arith, ints)
below_half types.Char n other h k = grind (arith, ints)
below_half types.Int n other h k = grind (arith, ints)
below_half types.Unsigned n other h k = grind (arith, ints)
below_half types.LongLong n other h k = grind (arith, ints)
below_half types.UnsignedLongLong n other h k = other refl

-- ---- arithmetic

abbrev pub as_result : Computed → Result ℤ Kind
as_result (Gives n) = Ok n
as_result (Fails kind) = Err kind

fits_or_overflows : (b : Bool) (n : ℤ) → as_result (if b then Gives n else Fails Overflow) ≡ (if b then Ok n else Err Overflow)
fits_or_overflows true n = refl
fits_or_overflows false n = refl

abbrev pub given : ℤ → Result ℤ Kind
given n = Ok n

same_or_modulo : (b : Bool) (n m k : ℤ) → (b ≡ true → k ≡ n) → k ≡ m → given k ≡ (if b then given n else given m)
same_or_modulo true n m k e f = ap given (e refl)
same_or_modulo false n m k e f = ap given f

pub same_arithmetic : (type : IntegerType) (n : ℤ) → type ≢ types.Bool → as_result (fitted (scalar_of type) n) ≡ arithmetic type n
same_arithmetic types.Bool n other = absurd (other refl)
same_arithmetic types.Char n other = fits_or_overflows (in_range types.Char n) n
same_arithmetic types.Int n other = fits_or_overflows (in_range types.Int n) n
same_arithmetic types.Unsigned n other = same_or_modulo (in_range types.Unsigned n) n _ _ (unsigned_same n) (sym (same_modulo types.Unsigned n other))
same_arithmetic types.LongLong n other = fits_or_overflows (in_range types.LongLong n) n
same_arithmetic types.UnsignedLongLong n other = same_or_modulo (in_range types.UnsignedLongLong n) n _ _ (unsigned_long_same n) (sym (same_modulo types.UnsignedLongLong n other))

pub one_fits : (type : IntegerType) (x : ℤ) (c : Computed) → in_range type x ≡ true → of_one (scalar_of type) x c ≡ c
one_fits type x c h = rw (same_range type x ∙ h) refl

pub both_true : (a b : Bool) → (a && b) ≡ true → (a ≡ true) × (b ≡ true)
both_true true b h = (refl, h)
both_true false b h = absurd (cc)

pub two_fit : (type : IntegerType) (x y : ℤ) (c : Computed) → (in_range type x && in_range type y) ≡ true → of_two (scalar_of type) x y c ≡ c
two_fit type x y c h = rw (same_range type x, same_range type y, h) refl

-- ---- division

-- of a signed type from -(h + 1) to h
signed_quotient : (h : ℕ) (x y : ℤ) → (int_le (negsuc h) x && int_le x (pos h)) ≡ true
    → (not (is_zero y) && (int_le (negsuc h) (int_div x y) && int_le (int_div x y) (pos h))) ≡ not (int_eq y (pos 0) || (int_eq x (negsuc h) && int_eq y (negsuc 0)))
signed_quotient h (pos a) (pos zero) e = refl
signed_quotient h (pos a) (pos (suc b)) e = let k = div-le_self a (suc b) in grind (arith, ints, k)
signed_quotient h (pos a) (negsuc b) e = let k = div-le_self a (suc b) in grind (arith, ints, k)
signed_quotient h (negsuc a) (pos zero) e = refl
signed_quotient h (negsuc a) (pos (suc b)) e = let k = div-le_self (suc a) (suc b) in grind (arith, ints, k)
signed_quotient h (negsuc a) (negsuc zero) e = grind (arith, ints)
signed_quotient h (negsuc a) (negsuc (suc b)) e = let k = div-mul-le_self (suc a) (suc (suc b)) in grind (arith, ints, k)

unsigned_quotient : (h : ℕ) (x y : ℤ) → (int_le (pos 0) x && int_le x (pos h)) ≡ true → int_le (pos 0) y ≡ true
    → (not (is_zero y) && (int_le (pos 0) (int_div x y) && int_le (int_div x y) (pos h))) ≡ not (int_eq y (pos 0))
unsigned_quotient h (pos a) (pos zero) e f = refl
unsigned_quotient h (pos a) (pos (suc b)) e f = let k = div-le_self a (suc b) in grind (arith, ints, k)
unsigned_quotient h (pos a) (negsuc b) e f = absurd (cc)
unsigned_quotient h (negsuc a) y e f = absurd (cc)

or_false : (b : Bool) → b ≡ (b || false)
or_false true = refl
or_false false = refl

has_quotient : (type : IntegerType) (x y : ℤ) → type ≢ types.Bool → in_range type x ≡ true → in_range type y ≡ true
    → divides (scalar_of type) x y ≡ not (int_eq y (pos 0) || (is_signed type && int_eq x (least type) && int_eq y (negsuc 0)))
has_quotient types.Bool x y other e f = absurd (other refl)
has_quotient types.Char x y other e f = signed_quotient 127 x y e
has_quotient types.Int x y other e f = signed_quotient 2147483647 x y e
has_quotient types.Unsigned x y other e f = unsigned_quotient 4294967295 x y e (both_true _ _ f).0 ∙ ap not (or_false _)
has_quotient types.LongLong x y other e f = signed_quotient 9223372036854775807 x y e
has_quotient types.UnsignedLongLong x y other e f = unsigned_quotient 18446744073709551615 x y e (both_true _ _ f).0 ∙ ap not (or_false _)

divided_or_not : (b : Bool) (q : ℤ) → as_result (if not b then Gives q else Fails Division) ≡ (if b then Err Division else Ok q)
divided_or_not true q = refl
divided_or_not false q = refl

pub same_division : (type : IntegerType) (x y q : ℤ) → type ≢ types.Bool → (in_range type x && in_range type y) ≡ true
    → as_result (if divides (scalar_of type) x y then Gives q else Fails Division) ≡ division type x y q
same_division type x y q other h =
    let b = both_true (in_range type x) (in_range type y) h in
    ap (λ c. as_result (if c then Gives q else Fails Division)) (has_quotient type x y other b.0 b.1) ∙ divided_or_not _ q

-- ---- shifts

pub same_amounts : (type : IntegerType) (amount : ℤ) → shifts (scalar_of type) amount ≡ (int_le (pos 0) amount && int_lt amount (pos (width type)))
same_amounts types.Bool amount = refl
same_amounts types.Char amount = refl
same_amounts types.Int amount = refl
same_amounts types.Unsigned amount = refl
same_amounts types.LongLong amount = refl
same_amounts types.UnsignedLongLong amount = refl

shifted_or_not : (b : Bool) (n : ℤ) → as_result (if b then Gives n else Fails Shift) ≡ (if b then Ok n else Err Shift)
shifted_or_not true n = refl
shifted_or_not false n = refl

pub same_shift : (type : IntegerType) (amount n : ℤ) (by : ℕ → ℤ) → n ≡ by (unsigned_abs amount) → as_result (if shifts (scalar_of type) amount then Gives n else Fails Shift) ≡ shift type amount by
same_shift type amount n by e =
    ap (λ c. as_result (if c then Gives n else Fails Shift)) (same_amounts type amount) ∙ shifted_or_not _ n
    ∙ ap (λ (k : ℤ). if (int_le (pos 0) amount && int_lt amount (pos (width type))) then given k else Err Shift) e

pub same_right_shift : (x : ℤ) (amount : ℕ) → int_shr x amount ≡ int_div_euclid x (pos (2 ^ amount))
same_right_shift (pos a) amount = refl
same_right_shift (negsuc a) amount = refl

-- ---- operators with one operand

pub same_minus : (x : ℤ) → neg_ℤ x ≡ pos 0 -ℤ x
same_minus (pos zero) = refl
same_minus (pos (suc n)) = omega (arith, ints)
same_minus (negsuc n) = omega (arith, ints)

turned : (x : ℤ) → neg_ℤ x -ℤ pos 1 ≡ negsuc 0 -ℤ x
turned (pos zero) = refl
turned (pos (suc n)) = omega (arith, ints)
turned (negsuc n) = omega (arith, ints)

-- the complement of a number of a signed type is one of it
turned_in_range : (type : IntegerType) (x : ℤ) → is_signed type ≡ true → in_range type x ≡ true → in_range type (negsuc 0 -ℤ x) ≡ true
turned_in_range types.Bool x s h = absurd (cc)
turned_in_range types.Char x s h = grind (arith, ints)
turned_in_range types.Int x s h = grind (arith, ints)
turned_in_range types.Unsigned x s h = absurd (cc)
turned_in_range types.LongLong x s h = grind (arith, ints)
turned_in_range types.UnsignedLongLong x s h = absurd (cc)

if_true : (b : Bool) (n : ℤ) → b ≡ true → as_result (if b then Gives n else Fails Overflow) ≡ given n
if_true true n e = refl
if_true false n e = absurd (cc)

pub same_complement : (type : IntegerType) (x : ℤ) → type ≢ types.Bool → in_range type x ≡ true → as_result (fitted (scalar_of type) (neg_ℤ x -ℤ pos 1)) ≡ given (modulo type (negsuc 0 -ℤ x))
same_complement type x other h = ap (λ (n : ℤ). as_result (fitted (scalar_of type) n)) (turned x) ∙ fits type other h
  where
    now : ℤ
    now = negsuc 0 -ℤ x

    stays : (type : IntegerType) → type ≢ types.Bool → is_signed type ≡ true → in_range type x ≡ true → given now ≡ given (modulo type now)
    stays type other s h = ap given (sym (same_modulo type now other ∙ same_number type now other (turned_in_range type x s h)))

    fits : (type : IntegerType) → type ≢ types.Bool → in_range type x ≡ true → as_result (fitted (scalar_of type) now) ≡ given (modulo type now)
    fits types.Bool other h = absurd (other refl)
    fits types.Char other h = if_true _ now (turned_in_range types.Char x refl h) ∙ stays types.Char other refl h
    fits types.Int other h = if_true _ now (turned_in_range types.Int x refl h) ∙ stays types.Int other refl h
    fits types.Unsigned other h = ap given (sym (same_modulo types.Unsigned now other))
    fits types.LongLong other h = if_true _ now (turned_in_range types.LongLong x refl h) ∙ stays types.LongLong other refl h
    fits types.UnsignedLongLong other h = ap given (sym (same_modulo types.UnsignedLongLong now other))
