-- What operators compute at the ends of their types.
use Rattle.std.specs.Prelude.{◌≡◌, refl, pos, negsuc, Ok, Err}
use Rattle.cx_core.specs.declared.number.IntegerType.TheVariants.{Bool, Char, Int, Unsigned, LongLong, UnsignedLongLong}
use Rattle.cx_core.specs.declared.number.BinaryOperator.TheVariants.{Add, Subtract, Multiply, Divide, Remainder, ShiftLeft, ShiftRight, BitAnd, BitXor}
use Rattle.cx_core.specs.declared.number.UnaryOperator.TheVariants.{Minus, Complement}
use Rattle.cx_core.specs.Words.{Overflow, Division, Shift}
use Rattle.cx_core.specs.Number.{converted_number, binary_number, unary_number, least, greatest}

pub int_sum_overflows : binary_number Add Int (pos 2147483647) (pos 1) ≡ Err Overflow
int_sum_overflows = refl

pub unsigned_difference_wraps : binary_number Subtract Unsigned (pos 0) (pos 1) ≡ Ok (pos 4294967295)
unsigned_difference_wraps = refl

pub long_product_overflows : binary_number Multiply LongLong (pos 4294967296) (pos 2147483648) ≡ Err Overflow
long_product_overflows = refl

pub division_by_zero : binary_number Divide Int (pos 1) (pos 0) ≡ Err Division
division_by_zero = refl

pub least_by_minus_one : binary_number Remainder Int (least Int) (negsuc 0) ≡ Err Division
least_by_minus_one = refl

pub division_truncates : binary_number Divide Int (negsuc 6) (pos 2) ≡ Ok (negsuc 2)
division_truncates = refl

pub remainder_has_the_sign_of_the_dividend : binary_number Remainder Int (negsuc 6) (pos 2) ≡ Ok (negsuc 0)
remainder_has_the_sign_of_the_dividend = refl

pub shift_by_the_width : binary_number ShiftLeft Int (pos 1) (pos 32) ≡ Err Shift
shift_by_the_width = refl

pub shift_by_less_than_zero : binary_number ShiftRight Int (pos 1) (negsuc 0) ≡ Err Shift
shift_by_less_than_zero = refl

pub left_shift_into_the_sign : binary_number ShiftLeft Int (pos 1) (pos 31) ≡ Ok (least Int)
left_shift_into_the_sign = refl

pub right_shift_is_arithmetic : binary_number ShiftRight Int (negsuc 4) (pos 1) ≡ Ok (negsuc 2)
right_shift_is_arithmetic = refl

pub complement_of_unsigned : unary_number Complement Unsigned (pos 0) ≡ Ok (pos 4294967295)
complement_of_unsigned = refl

pub complement_of_int : unary_number Complement Int (pos 5) ≡ Ok (negsuc 5)
complement_of_int = refl

pub minus_of_least_overflows : unary_number Minus Int (least Int) ≡ Err Overflow
minus_of_least_overflows = refl

pub and_of_negative : binary_number BitAnd Int (negsuc 0) (pos 12) ≡ Ok (pos 12)
and_of_negative = refl

pub exclusive_or_of_negative : binary_number BitXor Int (negsuc 0) (pos 12) ≡ Ok (negsuc 12)
exclusive_or_of_negative = refl

pub char_is_signed : converted_number Char (pos 200) ≡ negsuc 55
char_is_signed = refl

pub minus_one_as_unsigned : converted_number Unsigned (negsuc 0) ≡ pos 4294967295
minus_one_as_unsigned = refl

pub minus_one_as_unsigned_long : converted_number UnsignedLongLong (negsuc 0) ≡ greatest UnsignedLongLong
minus_one_as_unsigned_long = refl

pub two_as_bool : converted_number Bool (pos 2) ≡ pos 1
two_as_bool = refl
