-- The integer types and what their operators compute: [basic.fundamental], [conv.integral], [conv.bool] and [expr.unary.op] to [expr.or] of the C++ draft, with this project's own widths.
use Rattle.std.specs.Prelude.{ℕ, ◌-◌, ◌^◌, Bool, true, false, not, ◌&&◌, ◌||◌, if◌then◌else◌, ℤ, pos, negsuc, ◌+ℤ◌, ◌-ℤ◌, ◌*ℤ◌, int_lt, int_le, int_div, int_rem, unsigned_abs, Result, Ok, Err, bit_and, bit_or, bit_xor}
use Rattle.std.specs.Int.{int_div_euclid, int_rem_euclid}
use Rattle.std.specs.Ordering.{int_eq}
use Rattle.cx_core.specs.declared.number.IntegerType.{IntegerType}
use Rattle.cx_core.specs.declared.number.IntegerType.TheVariants as types
use Rattle.cx_core.specs.declared.number.BinaryOperator.{BinaryOperator}
use Rattle.cx_core.specs.declared.number.BinaryOperator.TheVariants as binary
use Rattle.cx_core.specs.declared.number.UnaryOperator.{UnaryOperator}
use Rattle.cx_core.specs.declared.number.UnaryOperator.TheVariants as unary
use Rattle.cx_core.specs.Words.{Kind, Overflow, Division, Shift}

abbrev pub width : IntegerType → ℕ
width types.Bool = 1
width types.Char = 8
width types.Int = 32
width types.Unsigned = 32
width types.LongLong = 64
width types.UnsignedLongLong = 64

abbrev pub is_signed : IntegerType → Bool
is_signed types.Bool = false
is_signed types.Char = true
is_signed types.Int = true
is_signed types.Unsigned = false
is_signed types.LongLong = true
is_signed types.UnsignedLongLong = false

abbrev pub least : IntegerType → ℤ
least type = if is_signed type then (pos 0 -ℤ pos (2 ^ (width type - 1))) else pos 0

abbrev pub greatest : IntegerType → ℤ
greatest type = pos (2 ^ (if is_signed type then (width type - 1) else width type) - 1)

abbrev pub in_range : IntegerType → ℤ → Bool
in_range type n = int_le (least type) n && int_le n (greatest type)

-- the bits of a number, as a number from 0 to 2 ^ width - 1
abbrev pub bits : IntegerType → ℤ → ℕ
bits type n = unsigned_abs (int_rem_euclid n (pos (2 ^ width type)))

-- the number of the type that has these bits
abbrev pub of_bits : IntegerType → ℕ → ℤ
of_bits type n = if int_le (pos n) (greatest type) then pos n else (pos n -ℤ pos (2 ^ width type))

-- the number of the type that is equal to n modulo 2 ^ width
abbrev pub modulo : IntegerType → ℤ → ℤ
modulo type n = of_bits type (bits type n)

abbrev pub truth_number : Bool → ℤ
truth_number b = if b then pos 1 else pos 0

-- a conversion to `bool` is by being not zero, each other one modulo 2 ^ width
abbrev pub converted_number : IntegerType → ℤ → ℤ
converted_number types.Bool n = truth_number (not (int_eq n (pos 0)))
converted_number type n = modulo type n

-- integral promotion: a type smaller than `int` becomes `int`
abbrev pub promoted : IntegerType → IntegerType
promoted types.Bool = types.Int
promoted types.Char = types.Int
promoted type = type

-- signed arithmetic out of range is undefined, unsigned arithmetic is modulo 2 ^ width
abbrev pub arithmetic : IntegerType → ℤ → Result ℤ Kind
arithmetic type n =
    if in_range type n then Ok n else (if is_signed type then Err Overflow else Ok (modulo type n))

-- a divisor is zero, or -1 where the least value is divided
abbrev pub division : IntegerType → ℤ → ℤ → ℤ → Result ℤ Kind
division type x y quotient =
    if int_eq y (pos 0) || (is_signed type && int_eq x (least type) && int_eq y (negsuc 0)) then Err Division else Ok quotient

-- the amount of a shift is neither negative nor as great as the width
abbrev pub shift : IntegerType → ℤ → (ℕ → ℤ) → Result ℤ Kind
shift type amount by =
    if int_le (pos 0) amount && int_lt amount (pos (width type)) then Ok (by (unsigned_abs amount)) else Err Shift

-- of two numbers of the type; the right operand of a shift is any number
abbrev pub binary_number : BinaryOperator → IntegerType → ℤ → ℤ → Result ℤ Kind
binary_number binary.Multiply type x y = arithmetic type (x *ℤ y)
binary_number binary.Divide type x y = division type x y (int_div x y)
binary_number binary.Remainder type x y = division type x y (int_rem x y)
binary_number binary.Add type x y = arithmetic type (x +ℤ y)
binary_number binary.Subtract type x y = arithmetic type (x -ℤ y)
binary_number binary.ShiftLeft type x y = shift type y (λ n. modulo type (x *ℤ pos (2 ^ n)))
binary_number binary.ShiftRight type x y = shift type y (λ n. int_div_euclid x (pos (2 ^ n)))
binary_number binary.Less type x y = Ok (truth_number (int_lt x y))
binary_number binary.Greater type x y = Ok (truth_number (int_lt y x))
binary_number binary.LessEqual type x y = Ok (truth_number (int_le x y))
binary_number binary.GreaterEqual type x y = Ok (truth_number (int_le y x))
binary_number binary.Equal type x y = Ok (truth_number (int_eq x y))
binary_number binary.NotEqual type x y = Ok (truth_number (not (int_eq x y)))
binary_number binary.BitAnd type x y = Ok (of_bits type (bit_and (bits type x) (bits type y)))
binary_number binary.BitXor type x y = Ok (of_bits type (bit_xor (bits type x) (bits type y)))
binary_number binary.BitOr type x y = Ok (of_bits type (bit_or (bits type x) (bits type y)))

abbrev pub unary_number : UnaryOperator → IntegerType → ℤ → Result ℤ Kind
unary_number unary.Minus type x = arithmetic type (pos 0 -ℤ x)
unary_number unary.Not type x = Ok (truth_number (int_eq x (pos 0)))
unary_number unary.Complement type x = Ok (modulo type (negsuc 0 -ℤ x))
