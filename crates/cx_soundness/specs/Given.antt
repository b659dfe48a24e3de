-- The types of what operators give, of those of their operands: [expr] and [conv] of the C++ draft.
use Rattle.std.specs.Prelude.{ℕ, Bool, true, false, ◌&&◌, ◌||◌, if◌then◌else◌, pos, nat_eq, List, [], ◌∷◌, Option, Some, None, drop, slice_get}
use Rattle.cx_types.specs.declared.value_type.Scalar.{Scalar}
use Rattle.cx_types.specs.declared.value_type.Scalar.TheVariants as scalars
use Rattle.cx_core.specs.declared.number.IntegerType.{IntegerType}
use Rattle.cx_core.specs.declared.number.IntegerType.TheVariants as types
use Rattle.cx_core.specs.declared.number.BinaryOperator.{BinaryOperator}
use Rattle.cx_core.specs.declared.number.BinaryOperator.TheVariants as operators
use Rattle.cx_core.specs.declared.number.UnaryOperator.{UnaryOperator}
use Rattle.cx_core.specs.declared.number.Query.{Query}
use Rattle.cx_core.specs.declared.number.Query.TheVariants as queries
use Rattle.cx_core.specs.Number.{in_range, promoted}
use Rattle.cx_core.specs.Operators.{integer_of}
use Rattle.cx_core.specs.Tree as tree
use Rattle.cx_core.specs.Tree.{ObjectType, scalar, pointer, function_pointer, class, Constant, PointedResult, void_result}
use Rattle.cx_soundness.specs.Types.{LeafType, number_leaf, pointer_leaf, function_leaf, no_value, Layout, unknown_class, known_class, made_class, Parameter, object, report, Result, no_result, scalar_result, class_result, reference_result, status, Signature, Declared, Given, numbers, refers, null_reference, functions, a_report}

-- ---- equal types

abbrev pub integer_code : IntegerType → ℕ
integer_code types.Bool = 1
integer_code types.Char = 2
integer_code types.Int = 3
integer_code types.Unsigned = 4
integer_code types.LongLong = 5
integer_code types.UnsignedLongLong = 6

abbrev pub same_integer : IntegerType → IntegerType → Bool
same_integer a b = nat_eq (integer_code a) (integer_code b)

abbrev pub scalar_code : Scalar → ℕ
scalar_code scalars.Bool = 1
scalar_code scalars.Char = 2
scalar_code scalars.Int = 3
scalar_code scalars.Unsigned = 4
scalar_code scalars.LongLong = 5
scalar_code scalars.UnsignedLongLong = 6
scalar_code scalars.AssertionKind = 7
scalar_code scalars.EvaluationSemantic = 8
scalar_code scalars.DetectionMode = 9
scalar_code scalars.Null = 10
scalar_code scalars.Literal = 11
scalar_code scalars.Location = 12

abbrev pub same_object : ObjectType → ObjectType → Bool
same_object (scalar a) (scalar b) = nat_eq (scalar_code a) (scalar_code b)
same_object (pointer a) (pointer b) = same_object a b
same_object (function_pointer a) (function_pointer b) = nat_eq a b
same_object (class a) (class b) = nat_eq a b
same_object _ _ = false

abbrev pub same_leaf : LeafType → LeafType → Bool
same_leaf (number_leaf a) (number_leaf b) = nat_eq (scalar_code a) (scalar_code b)
same_leaf (pointer_leaf a) (pointer_leaf b) = same_object a b
same_leaf (function_leaf a) (function_leaf b) = nat_eq a b
same_leaf no_value no_value = true
same_leaf _ _ = false

abbrev pub same_parameter : Parameter → Parameter → Bool
same_parameter (object a) (object b) = same_object a b
same_parameter report report = true
same_parameter _ _ = false

abbrev pub same_parameters : List Parameter → List Parameter → Bool
same_parameters [] [] = true
same_parameters (a ∷ more) (b ∷ others) = same_parameter a b && same_parameters more others
same_parameters _ _ = false

abbrev pub same_result : Result → Result → Bool
same_result no_result no_result = true
same_result (scalar_result a) (scalar_result b) = same_object a b
same_result (class_result a) (class_result b) = nat_eq a b
same_result (reference_result a) (reference_result b) = same_object a b
same_result status status = true
same_result _ _ = false

abbrev pub same_signature : Signature → Signature → Bool
same_signature a b = same_parameters a.parameters b.parameters && same_result a.result b.result

-- the second list begins with the first one
abbrev pub begins : List LeafType → List LeafType → Bool
begins [] us = true
begins (t ∷ ts) [] = false
begins (t ∷ ts) (u ∷ us) = same_leaf t u && begins ts us

-- what both begin with
abbrev pub common : List LeafType → List LeafType → List LeafType
common [] us = []
common (t ∷ ts) [] = []
common (t ∷ ts) (u ∷ us) = if same_leaf t u then (t ∷ common ts us) else []

-- ---- numbers

abbrev pub only : IntegerType → Given
only type = numbers (same_integer type)

-- 0 and 1
abbrev pub truths : Given
truths = numbers (λ type. true)

-- of which nothing more is known
abbrev pub any_numbers : Given
any_numbers = numbers (λ type. false)

abbrev pub is_integer : Option IntegerType → IntegerType → Bool
is_integer None type = false
is_integer (Some a) type = same_integer a type

abbrev pub accepts_number : Option IntegerType → (IntegerType → Bool) → Bool
accepts_number None fits = true
accepts_number (Some type) fits = fits type

abbrev pub then_given : Option Given → (Given → Option Given) → Option Given
then_given None next = None
then_given (Some v) next = next v

abbrev pub where_given : Option Given → (Given → Bool) → Bool
where_given None next = false
where_given (Some v) next = next v

abbrev pub given_if : Bool → Option Given → Option Given
given_if true v = v
given_if false v = None

-- ---- objects

abbrev pub layout_in : Option Layout → List LeafType
layout_in None = []
layout_in (Some unknown_class) = []
layout_in (Some (known_class leaves)) = leaves
layout_in (Some (made_class leaves)) = leaves

abbrev pub is_made : Option Layout → Bool
is_made None = false
is_made (Some unknown_class) = false
is_made (Some (known_class leaves)) = false
is_made (Some (made_class leaves)) = true

abbrev pub signature_in : Option (Option Signature) → Option Signature
signature_in None = None
signature_in (Some signature) = signature

abbrev pub signature_at : List (Option Signature) → ℕ → Option Signature
signature_at signatures f = signature_in (slice_get signatures f)

abbrev pub type_in : Option (Option ObjectType) → Option ObjectType
type_in None = None
type_in (Some type) = type

abbrev pub type_at : List (Option ObjectType) → ℕ → Option ObjectType
type_at types i = type_in (slice_get types i)

-- the one leaf of an object that isn't of a class
abbrev pub leaf_of : ObjectType → Option LeafType
leaf_of (scalar s) = Some (number_leaf s)
leaf_of (pointer to) = Some (pointer_leaf to)
leaf_of (function_pointer type) = Some (function_leaf type)
leaf_of (class c) = None

abbrev pub functions_of : Option Signature → Option Given
functions_of None = None
functions_of (Some signature) = Some (functions signature)

abbrev pub is_signature : Option Signature → Signature → Bool
is_signature None signature = false
is_signature (Some a) signature = same_signature a signature

-- what denotes the one may denote the other
abbrev pub denotes : Given → Given → Bool
denotes (refers leaves) (refers more) = begins leaves more
denotes (refers leaves) null_reference = true
denotes (refers leaves) other = false
denotes a_report a_report = true
denotes a_report other = false
denotes null_reference other = false
denotes (numbers fits) other = false
denotes (functions signature) other = false

abbrev pub pointer_converted : IntegerType → Option Given
pointer_converted types.Bool = Some (only types.Bool)
pointer_converted other = None

abbrev pub converted_given : Option IntegerType → Given → Option Given
converted_given None v = Some v
converted_given (Some type) (numbers fits) = Some (only type)
converted_given (Some type) (refers leaves) = pointer_converted type
converted_given (Some type) null_reference = pointer_converted type
converted_given (Some type) (functions signature) = pointer_converted type
converted_given (Some type) a_report = None

-- what converts to `bool` [conv.general]
abbrev pub is_truth : Given → Bool
is_truth a_report = false
is_truth other = true

abbrev pub constant_given : Constant → Given
constant_given (tree.number n) = numbers (λ type. in_range type n)
constant_given tree.nullptr = null_reference

abbrev pub unary_given : UnaryOperator → IntegerType → Given → Option Given
unary_given operator type (numbers fits) = given_if (fits type) (Some (only type))
unary_given operator type other = None

abbrev pub is_comparison : BinaryOperator → Bool
is_comparison operators.Less = true
is_comparison operators.Greater = true
is_comparison operators.LessEqual = true
is_comparison operators.GreaterEqual = true
is_comparison operators.Equal = true
is_comparison operators.NotEqual = true
is_comparison other = false

abbrev pub is_equality : BinaryOperator → Bool
is_equality operators.Equal = true
is_equality operators.NotEqual = true
is_equality other = false

-- the right operand of a shift and the operands of a comparison may be of another type
abbrev pub numbers_operate : BinaryOperator → IntegerType → (left right : IntegerType → Bool) → Bool
numbers_operate operators.ShiftLeft type left right = left type
numbers_operate operators.ShiftRight type left right = left type
numbers_operate operators.Less type left right = true
numbers_operate operators.Greater type left right = true
numbers_operate operators.LessEqual type left right = true
numbers_operate operators.GreaterEqual type left right = true
numbers_operate operators.Equal type left right = true
numbers_operate operators.NotEqual type left right = true
numbers_operate operator type left right = left type && right type

abbrev pub operated_given : BinaryOperator → IntegerType → Given
operated_given operator type = if is_comparison operator then truths else only type

abbrev pub is_pointer : Given → Bool
is_pointer (refers leaves) = true
is_pointer null_reference = true
is_pointer other = false

abbrev pub is_function : Given → Bool
is_function (functions signature) = true
is_function null_reference = true
is_function other = false

abbrev pub are_compared : Given → Given → Bool
are_compared a b = (is_pointer a && is_pointer b) || (is_function a && is_function b)

abbrev pub binary_given : BinaryOperator → IntegerType → Given → Given → Option Given
binary_given operator type (numbers left) (numbers right) = given_if (numbers_operate operator type left right) (Some (operated_given operator type))
binary_given operator type (numbers left) other = None
binary_given operator type (refers leaves) b = given_if (is_equality operator && are_compared (refers leaves) b) (Some truths)
binary_given operator type null_reference b = given_if (is_equality operator && are_compared null_reference b) (Some truths)
binary_given operator type (functions signature) b = given_if (is_equality operator && are_compared (functions signature) b) (Some truths)
binary_given operator type a_report b = None

abbrev pub logical_given : Given → Given → Option Given
logical_given a b = given_if (is_truth a && is_truth b) (Some truths)

-- what is given by the one or by the other
abbrev pub joined : Given → Given → Option Given
joined (numbers left) (numbers right) = Some (numbers (λ type. left type && right type))
joined (numbers left) other = None
joined (refers leaves) (refers more) = Some (refers (common leaves more))
joined (refers leaves) null_reference = Some (refers leaves)
joined (refers leaves) other = None
joined null_reference (refers leaves) = Some (refers leaves)
joined null_reference null_reference = Some null_reference
joined null_reference (functions signature) = Some (functions signature)
joined null_reference other = None
joined (functions signature) (functions other) = given_if (same_signature signature other) (Some (functions signature))
joined (functions signature) null_reference = Some (functions signature)
joined (functions signature) other = None
joined a_report a_report = Some a_report
joined a_report other = None

abbrev pub conditional_given : Given → Given → Given → Option Given
conditional_given condition a b = given_if (is_truth condition) (joined a b)

-- the number at the place is of the type
abbrev pub keeps_leaf : IntegerType → List LeafType → Bool
keeps_leaf type (number_leaf s ∷ leaves) = is_integer (integer_of s) type
keeps_leaf type other = false

abbrev pub keeps : IntegerType → Given → Bool
keeps type (refers leaves) = keeps_leaf type leaves
keeps type null_reference = true
keeps type other = false

abbrev pub is_right : BinaryOperator → IntegerType → Given → Bool
is_right operator computed (numbers right) = numbers_operate operator computed (same_integer computed) right
is_right operator computed other = false

abbrev pub compound_given : BinaryOperator → (computed kept : IntegerType) → Given → Given → Option Given
compound_given operator computed kept place v = given_if (keeps kept place && is_right operator computed v) (Some place)

abbrev pub steps : BinaryOperator → IntegerType → Given → Bool
steps operator type place = keeps type place && is_right operator (promoted type) (constant_given (tree.number (pos 1)))

abbrev pub prefix_given : BinaryOperator → IntegerType → Given → Option Given
prefix_given operator type place = given_if (steps operator type place) (Some place)

abbrev pub postfix_given : BinaryOperator → IntegerType → Given → Option Given
postfix_given operator type place = given_if (steps operator type place) (Some (only type))

abbrev pub indirection_given : Given → Option Given
indirection_given (refers leaves) = Some (refers leaves)
indirection_given null_reference = Some null_reference
indirection_given other = None

abbrev pub member_given : ℕ → Given → Option Given
member_given leaf (refers leaves) = Some (refers (drop leaf leaves))
member_given leaf null_reference = Some null_reference
member_given leaf other = None

-- through a pointer
abbrev pub is_pointed : PointedResult → Result → Bool
is_pointed void_result no_result = true
is_pointed tree.scalar_result (scalar_result type) = true
is_pointed tree.reference_result (reference_result to) = true
is_pointed _ _ = false

abbrev pub putchar_given : Given → Option Given
putchar_given (numbers fits) = Some (only types.Int)
putchar_given other = None

abbrev pub comment_given : Given → Option Given
comment_given a_report = Some (only types.Int)
comment_given other = None

-- the enumerations of `std::contracts` have no range
abbrev pub told_given : Query → Given
told_given queries.Line = only types.Unsigned
told_given queries.Column = only types.Unsigned
told_given other = any_numbers

abbrev pub query_given : Query → Given → Option Given
query_given query a_report = Some (told_given query)
query_given query other = None

module _ (declared : Declared) where
  -- of a class that isn't defined nothing is known
  abbrev pub leaf_types : ObjectType → List LeafType
  leaf_types (scalar s) = number_leaf s ∷ []
  leaf_types (pointer to) = pointer_leaf to ∷ []
  leaf_types (function_pointer type) = function_leaf type ∷ []
  leaf_types (class c) = layout_in (slice_get declared.layouts c)

  -- of which an object may be made
  abbrev pub is_whole : ObjectType → Bool
  is_whole (class c) = is_made (slice_get declared.layouts c)
  is_whole other = true

  -- what is read of a leaf
  abbrev pub leaf_given : LeafType → Option Given
  leaf_given (number_leaf s) = Some (numbers (is_integer (integer_of s)))
  leaf_given (pointer_leaf to) = Some (refers (leaf_types to))
  leaf_given (function_leaf type) = functions_of (slice_get declared.function_types type)
  leaf_given no_value = None

  -- a leaf may hold what is given
  abbrev pub holds : LeafType → Given → Bool
  holds (number_leaf s) (numbers fits) = accepts_number (integer_of s) fits
  holds (number_leaf s) other = false
  holds (pointer_leaf to) (refers leaves) = begins (leaf_types to) leaves
  holds (pointer_leaf to) null_reference = true
  holds (pointer_leaf to) other = false
  holds (function_leaf type) (functions signature) = is_signature (slice_get declared.function_types type) signature
  holds (function_leaf type) null_reference = true
  holds (function_leaf type) other = false
  holds no_value other = false

  abbrev pub holds_if : Option LeafType → Given → Bool
  holds_if None v = false
  holds_if (Some leaf) v = holds leaf v

  -- an object that isn't of a class may be initialised by what is given
  abbrev pub accepts : ObjectType → Given → Bool
  accepts type v = holds_if (leaf_of type) v

  -- what a parameter denotes
  abbrev pub parameter_given : Parameter → Given
  parameter_given (object type) = refers (leaf_types type)
  parameter_given report = a_report

  -- ---- operands

  abbrev pub read_leaf_given : LeafType → Given → Option Given
  read_leaf_given leaf (refers leaves) = given_if (begins (leaf ∷ []) leaves) (leaf_given leaf)
  read_leaf_given leaf null_reference = leaf_given leaf
  read_leaf_given leaf other = None

  abbrev pub read_as_leaf : Option LeafType → Given → Option Given
  read_as_leaf None v = None
  read_as_leaf (Some leaf) v = read_leaf_given leaf v

  abbrev pub read_given : Option ObjectType → Given → Option Given
  read_given None v = Some v
  read_given (Some type) v = read_as_leaf (leaf_of type) v

  abbrev pub operand_given : Option ObjectType → Option IntegerType → Option Given → Option Given
  operand_given read to v = then_given (then_given v (read_given read)) (converted_given to)

  -- ---- operators

  -- the place that is written
  abbrev pub assigned_leaf : List LeafType → Given → Option Given
  assigned_leaf [] v = None
  assigned_leaf (leaf ∷ leaves) v = given_if (holds leaf v) (Some (refers (leaf ∷ leaves)))

  abbrev pub assigned_given : Given → Given → Option Given
  assigned_given (refers leaves) v = assigned_leaf leaves v
  assigned_given null_reference v = Some null_reference
  assigned_given other v = None

  -- ---- calls

  abbrev pub leaf_given_if : Option LeafType → Option Given
  leaf_given_if None = None
  leaf_given_if (Some leaf) = leaf_given leaf

  -- by its name; a class object is no result of an expression, and `main` isn't called
  abbrev pub call_given : Result → Option Given
  call_given no_result = Some null_reference
  call_given (scalar_result type) = leaf_given_if (leaf_of type)
  call_given (class_result c) = None
  call_given (reference_result to) = Some (refers (leaf_types to))
  call_given status = None
  -- ---- the library
