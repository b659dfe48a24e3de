-- This defines arithmetic, conversion and comparison of the machine's values, by [expr.unary.op], [expr.mul], [expr.add], [expr.shift], [expr.bit.and], [expr.xor], [expr.or], [expr.rel], [expr.eq] and [conv.integral], each in one type.
use Rattle.std.specs.Prelude.{ℕ, ◌^◌, ◌==◌, ℤ, pos, negsuc, ◌+ℤ◌, ◌-ℤ◌, ◌*ℤ◌, neg_ℤ, Bool, true, false, not, ◌&&◌, int_lt, int_le, int_div, int_rem, unsigned_abs, if◌then◌else◌, Option, Some, None}
use Rattle.std.specs.Int.{Width, w8, w32, w64, w128, cast_signed, int_rem_euclid, int_shr, int_bit_and, int_bit_or, int_bit_xor}
use Rattle.std.specs.Ordering.{int_eq}
use Rattle.cx_code.specs.declared.operation.Scalar.{Scalar}
use Rattle.cx_code.specs.declared.operation.Scalar.TheVariants as scalars
use Rattle.cx_code.specs.declared.run.Value.{Value}
use Rattle.cx_code.specs.declared.run.Value.TheVariants as values
use Rattle.cx_code.specs.declared.run.Kind.{Kind}
use Rattle.cx_code.specs.declared.run.Kind.TheVariants as kinds

abbrev pub is_zero : ℤ → Bool
is_zero n = int_eq n (pos 0)

-- 1 and 0
abbrev pub truth : Bool → ℤ
truth b = if b then pos 1 else pos 0

-- ---- the types

abbrev pub least : Scalar → ℤ
least scalars.Bool = pos 0
least scalars.Char = negsuc 127
least scalars.Int = negsuc 2147483647
least scalars.Unsigned = pos 0
least scalars.LongLong = negsuc 9223372036854775807
least scalars.UnsignedLongLong = pos 0

abbrev pub greatest : Scalar → ℤ
greatest scalars.Bool = pos 1
greatest scalars.Char = pos 127
greatest scalars.Int = pos 2147483647
greatest scalars.Unsigned = pos 4294967295
greatest scalars.LongLong = pos 9223372036854775807
greatest scalars.UnsignedLongLong = pos 18446744073709551615

abbrev pub is_within : Scalar → ℤ → Bool
is_within scalar n = int_le (least scalar) n && int_le n (greatest scalar)

abbrev pub is_int : ℤ → Bool
is_int n = int_le (negsuc 2147483647) n && int_le n (pos 2147483647)

-- how many bits a number of the type has
abbrev pub bit_count : Scalar → ℤ
bit_count scalars.Bool = pos 1
bit_count scalars.Char = pos 8
bit_count scalars.Int = pos 32
bit_count scalars.Unsigned = pos 32
bit_count scalars.LongLong = pos 64
bit_count scalars.UnsignedLongLong = pos 64

-- ---- conversion

-- the number of a signed type that is equal modulo 2 ^ n, the second argument
abbrev pub wrapped : Width → ℕ → ℤ → ℤ
wrapped w modulus n = cast_signed w (unsigned_abs (int_rem_euclid n (pos modulus)))

-- a number as one of this type
abbrev pub number_as : Scalar → ℤ → ℤ
number_as scalars.Bool n = truth (not (is_zero n))
number_as scalars.Char n = wrapped w8 (2 ^ 8) n
number_as scalars.Int n = wrapped w32 (2 ^ 32) n
number_as scalars.Unsigned n = int_rem_euclid n (pos (2 ^ 32))
number_as scalars.LongLong n = wrapped w64 (2 ^ 64) n
number_as scalars.UnsignedLongLong n = int_rem_euclid n (pos (2 ^ 64))

-- a pointer is no number, but it is null or not
abbrev pub value_as : Scalar → Value → Option ℤ
value_as scalar (values.Number n) = Some (number_as scalar n)
value_as scalars.Bool (values.Address number leaf) = Some (pos 1)
value_as scalars.Bool values.Null = Some (pos 0)
value_as scalar value = None

-- ---- what an operator gives, or why it is undefined

pub data Computed : Type 0 where
  Gives : (number : ℤ) → Computed
  Fails : (kind : Kind) → Computed

-- an unsigned result is taken modulo 2 ^ n, and every other one must be in range
abbrev pub fitted : Scalar → ℤ → Computed
fitted scalars.Unsigned n = Gives (number_as scalars.Unsigned n)
fitted scalars.UnsignedLongLong n = Gives (number_as scalars.UnsignedLongLong n)
fitted scalar n = if is_within scalar n then Gives n else Fails kinds.Overflow

-- an operand must be of the type
abbrev pub of_one : Scalar → ℤ → Computed → Computed
of_one scalar x result = if is_within scalar x then result else Fails kinds.Mixed

abbrev pub of_two : Scalar → ℤ → ℤ → Computed → Computed
of_two scalar x y result = if is_within scalar x && is_within scalar y then result else Fails kinds.Mixed

abbrev pub negated : Scalar → ℤ → Computed
negated scalar x = of_one scalar x (fitted scalar (neg_ℤ x))

abbrev pub logical_not : Scalar → ℤ → Computed
logical_not scalar x = of_one scalar x (Gives (truth (is_zero x)))

abbrev pub complement : Scalar → ℤ → Computed
complement scalar x = of_one scalar x (fitted scalar (neg_ℤ x -ℤ pos 1))

abbrev pub sum : Scalar → ℤ → ℤ → Computed
sum scalar x y = of_two scalar x y (fitted scalar (x +ℤ y))

abbrev pub difference : Scalar → ℤ → ℤ → Computed
difference scalar x y = of_two scalar x y (fitted scalar (x -ℤ y))

abbrev pub product : Scalar → ℤ → ℤ → Computed
product scalar x y = of_two scalar x y (fitted scalar (x *ℤ y))

-- there is a quotient, and it is of the type
abbrev pub divides : Scalar → ℤ → ℤ → Bool
divides scalar x y = not (is_zero y) && is_within scalar (int_div x y)

abbrev pub quotient : Scalar → ℤ → ℤ → Computed
quotient scalar x y = of_two scalar x y (if divides scalar x y then Gives (int_div x y) else Fails kinds.Division)

abbrev pub remainder : Scalar → ℤ → ℤ → Computed
remainder scalar x y = of_two scalar x y (if divides scalar x y then Gives (int_rem x y) else Fails kinds.Division)

-- the amount isn't negative, and less than the width
abbrev pub shifts : Scalar → ℤ → Bool
shifts scalar amount = int_le (pos 0) amount && int_lt amount (bit_count scalar)

abbrev pub shifted_left : Scalar → ℤ → ℤ → Computed
shifted_left scalar x amount = of_one scalar x (if shifts scalar amount then Gives (number_as scalar (x *ℤ pos (2 ^ unsigned_abs amount))) else Fails kinds.Shift)

abbrev pub shifted_right : Scalar → ℤ → ℤ → Computed
shifted_right scalar x amount = of_one scalar x (if shifts scalar amount then Gives (int_shr x (unsigned_abs amount)) else Fails kinds.Shift)

abbrev pub both_bits : Scalar → ℤ → ℤ → Computed
both_bits scalar x y = of_two scalar x y (Gives (int_bit_and w128 x y))

abbrev pub either_bits : Scalar → ℤ → ℤ → Computed
either_bits scalar x y = of_two scalar x y (Gives (int_bit_or w128 x y))

abbrev pub different_bits : Scalar → ℤ → ℤ → Computed
different_bits scalar x y = of_two scalar x y (Gives (int_bit_xor w128 x y))

-- two values are equal, where they can be compared: a number with a number, a pointer with a pointer
abbrev pub equal_values : Value → Value → Option Bool
equal_values (values.Number x) (values.Number y) = Some (int_eq x y)
equal_values (values.Address number leaf) (values.Address other place) = Some ((number == other) && (leaf == place))
equal_values (values.Address number leaf) values.Null = Some false
equal_values values.Null (values.Address number leaf) = Some false
equal_values values.Null values.Null = Some true
equal_values a b = None
