-- What each operator does, given what its operands do: [expr] of the C++ draft, with the order of evaluation and the kinds of undefined behaviour that this project fixes.
use Rattle.std.specs.Prelude.{ℕ, Bool, true, false, not, ◌&&◌, if◌then◌else◌, nat_eq, List, [], ◌∷◌, Option, Some, None, Result, ℤ, pos}
use Rattle.cx_types.specs.declared.value_type.Scalar.{Scalar}
use Rattle.cx_types.specs.declared.value_type.Scalar.TheVariants as scalars
use Rattle.cx_core.specs.declared.number.IntegerType.{IntegerType}
use Rattle.cx_core.specs.declared.number.IntegerType.TheVariants as types
use Rattle.cx_core.specs.declared.number.BinaryOperator.{BinaryOperator}
use Rattle.cx_core.specs.declared.number.BinaryOperator.TheVariants as binary
use Rattle.cx_core.specs.declared.number.UnaryOperator.{UnaryOperator}
use Rattle.cx_core.specs.Words.{Kind, Mixed}
use Rattle.cx_core.specs.Number.{in_range, promoted, converted_number, truth_number, binary_number, unary_number}
use Rattle.cx_core.specs.Tree.{ObjectType, scalar, pointer, function_pointer, class}
use Rattle.cx_core.specs.Tree.{Constant}
use Rattle.cx_core.specs.Tree as tree
use Rattle.cx_core.specs.Store.{Address, Value, number, address, null, function, violation, place_in}
use Rattle.cx_core.specs.Outcome.{Does, Nothing, ◌>>=◌, ◌>>◌, gives, undefined, defined, some, current_frame, set_frame, spend, place_of, read_leaf, read, write}
use Rattle.cx_core.specs.Check.{truth}

abbrev pub constant : Constant → Value
constant (tree.number n) = number n
constant tree.nullptr = null

-- ---- names

abbrev pub denoted : List (ℕ × Value) → ℕ → Option Value
denoted [] slot = None
denoted (v ∷ variables) slot = if nat_eq v.0 slot then Some v.1 else denoted variables slot

abbrev pub bind : ℕ → Value → Does Nothing
bind slot v = do
  frame ← current_frame
  set_frame (record frame { variables = (slot, v) ∷ frame.variables })

-- what a name denotes, without a unit of the budget
abbrev pub named : ℕ → Does Value
named slot = current_frame >>= (λ frame. some (denoted frame.variables slot))

-- ---- operands

abbrev pub integer_of : Scalar → Option IntegerType
integer_of scalars.Bool = Some types.Bool
integer_of scalars.Char = Some types.Char
integer_of scalars.Int = Some types.Int
integer_of scalars.Unsigned = Some types.Unsigned
integer_of scalars.LongLong = Some types.LongLong
integer_of scalars.UnsignedLongLong = Some types.UnsignedLongLong
integer_of other = None

abbrev pub fits_integer : Option IntegerType → ℤ → Bool
fits_integer None n = true
fits_integer (Some type) n = in_range type n

-- a value that an object of the type may hold
abbrev pub fits : ObjectType → Value → Bool
fits (scalar s) (number n) = fits_integer (integer_of s) n
fits (scalar s) other = false
fits (pointer t) (address a) = true
fits (pointer t) null = true
fits (pointer t) other = false
fits (function_pointer t) (function f) = true
fits (function_pointer t) null = true
fits (function_pointer t) other = false
fits (class c) v = false

abbrev pub fitting : ObjectType → Value → Does Value
fitting type v = if fits type v then gives v else undefined Mixed

-- the lvalue-to-rvalue conversion [conv.lval]
abbrev pub read_as : Option ObjectType → Value → Does Value
read_as None v = gives v
read_as (Some type) v = place_of v >>= read >>= fitting type

-- a pointer converts to `bool` alone
abbrev pub pointer_number : IntegerType → Bool → Option ℤ
pointer_number types.Bool is_not_null = Some (truth_number is_not_null)
pointer_number type is_not_null = None

abbrev pub value_number : IntegerType → Value → Option ℤ
value_number type (number n) = Some (converted_number type n)
value_number type (address a) = pointer_number type true
value_number type null = pointer_number type false
value_number type (function f) = pointer_number type true
value_number type (violation v) = None

abbrev pub converted_to : Option IntegerType → Value → Does Value
converted_to None v = gives v
converted_to (Some type) v = some (value_number type v) >>= (λ n. gives (number n))

abbrev pub converted : Option ObjectType → Option IntegerType → Does Value → Does Value
converted type to m = m >>= read_as type >>= converted_to to

-- ---- arithmetic

abbrev pub number_given : Result ℤ Kind → Does Value
number_given result = defined result >>= (λ n. gives (number n))

-- the right operand of a shift and the operands of a comparison may be of another type
abbrev pub operands_fit : BinaryOperator → IntegerType → ℤ → ℤ → Bool
operands_fit binary.ShiftLeft type x y = in_range type x
operands_fit binary.ShiftRight type x y = in_range type x
operands_fit binary.Less type x y = true
operands_fit binary.Greater type x y = true
operands_fit binary.LessEqual type x y = true
operands_fit binary.GreaterEqual type x y = true
operands_fit binary.Equal type x y = true
operands_fit binary.NotEqual type x y = true
operands_fit operator type x y = in_range type x && in_range type y

abbrev pub same_address : Address → Address → Bool
same_address a b = nat_eq a.object b.object && nat_eq a.leaf b.leaf

-- whether two pointers are equal [expr.eq]
abbrev pub same_pointer : Value → Value → Option Bool
same_pointer (address a) (address b) = Some (same_address a b)
same_pointer (address a) null = Some false
same_pointer null (address b) = Some false
same_pointer null null = Some true
same_pointer (function f) (function g) = Some (nat_eq f g)
same_pointer (function f) null = Some false
same_pointer null (function g) = Some false
same_pointer _ _ = None

abbrev pub pointers_compared : BinaryOperator → Bool → Option ℤ
pointers_compared binary.Equal same = Some (truth_number same)
pointers_compared binary.NotEqual same = Some (truth_number (not same))
pointers_compared operator same = None

abbrev pub numbers_operated : BinaryOperator → IntegerType → ℤ → ℤ → Does Value
numbers_operated operator type x y =
    if operands_fit operator type x y then number_given (binary_number operator type x y) else undefined Mixed

abbrev pub pointers_operated : BinaryOperator → Value → Value → Does Value
pointers_operated operator x y = do
  same ← some (same_pointer x y)
  n ← some (pointers_compared operator same)
  gives (number n)

abbrev pub operated : BinaryOperator → IntegerType → Value → Value → Does Value
operated operator type (number x) (number y) = numbers_operated operator type x y
operated operator type x y = pointers_operated operator x y

abbrev pub number_of : Value → Option ℤ
number_of (number n) = Some n
number_of v = None

-- a number of the type
abbrev pub of_type : IntegerType → Value → Does ℤ
of_type type v = do
  n ← some (number_of v)
  if in_range type n then gives n else undefined Mixed

abbrev pub unary_operated : UnaryOperator → IntegerType → Value → Does Value
unary_operated operator type v = of_type type v >>= (λ x. number_given (unary_number operator type x))

abbrev pub unary_operation : UnaryOperator → IntegerType → Does Value → Does Value
unary_operation operator type m = do
  x ← m
  spend
  unary_operated operator type x

abbrev pub binary_operation : BinaryOperator → IntegerType → Does Value → Does Value → Does Value
binary_operation operator type left right = do
  x ← left
  y ← right
  spend
  operated operator type x y

abbrev pub truth_value : Bool → Value
truth_value b = number (truth_number b)

-- `&&` and `||` evaluate the right operand where the left one doesn't decide [expr.log.and], [expr.log.or]
abbrev pub logical_operation : (decides : Bool) → Does Value → Does Value → Does Value
logical_operation decides left right = do
  x ← left >>= truth
  spend
  if (if decides then x else not x) then gives (truth_value decides) else (right >>= truth >>= (λ y. gives (truth_value y)))

abbrev pub conditional_operation : Does Value → Does Value → Does Value → Does Value
conditional_operation condition first second = do
  x ← condition >>= truth
  spend
  if x then first else second

abbrev pub cast_operation : Does Value → Does Value
cast_operation m = do
  x ← m
  spend
  gives x

-- ---- assignment [expr.ass], [expr.pre.incr], [expr.post.incr]

abbrev pub stored : Value → Value → Does Nothing
stored place v = place_of place >>= (λ a. write a (Some v))

-- the right side is evaluated first
abbrev pub assignment : Does Value → Does Value → Does Value
assignment left right = do
  v ← right
  place ← left
  spend
  stored place v
  gives place

-- what the place holds is replaced by the result, computed in one type and stored as another; gives the old value
abbrev pub updated : BinaryOperator → (computed kept : IntegerType) → Value → Value → Does Value
updated operator computed kept place v = do
  a ← place_of place
  old ← read a >>= of_type kept
  x ← converted_to (Some computed) (number old)
  y ← operated operator computed x v
  z ← converted_to (Some kept) y
  write a (Some z)
  gives (number old)

abbrev pub compound_assignment : BinaryOperator → (computed kept : IntegerType) → Does Value → Does Value → Does Value
compound_assignment operator computed kept left right = do
  v ← right
  place ← left
  spend
  updated operator computed kept place v
  gives place

abbrev pub step : BinaryOperator → IntegerType → Value → Does Value
step operator type place = updated operator (promoted type) type place (number (pos 1))

abbrev pub prefix_operation : BinaryOperator → IntegerType → Does Value → Does Value
prefix_operation operator type left = do
  place ← left
  spend
  step operator type place
  gives place

abbrev pub postfix_operation : BinaryOperator → IntegerType → Does Value → Does Value
postfix_operation operator type left = do
  place ← left
  spend
  step operator type place

-- ---- places

-- `*`: a null pointer is undefined here [expr.unary.op]
abbrev pub indirection_of : Does Value → Does Value
indirection_of m = do
  p ← m
  spend
  a ← place_of p
  gives (address a)

-- `.`: the member of an object that has ended is undefined here [expr.ref]
abbrev pub member_of : ℕ → Does Value → Does Value
member_of leaf m = do
  place ← m
  spend
  a ← place_of place
  read_leaf a
  gives (address (place_in a leaf))
