-- Short words for typed programs that are written by hand.
use Rattle.std.specs.Prelude.{ℕ, Bool, true, false, List, [], ◌∷◌, Option, Some, None, pos, negsuc, codes}
use Rattle.cx_types.specs.declared.value_type.Scalar.TheVariants as scalars
use Rattle.cx_core.specs.declared.number.IntegerType.TheVariants as types
use Rattle.cx_core.specs.declared.number.BinaryOperator.{BinaryOperator}
use Rattle.cx_core.specs.Words.{AssertionKind, Party, Semantic}
use Rattle.cx_core.specs.Tree.{ObjectType, scalar, pointer, number, Expr, literal, variable, this, binary, assign, indirection, member, putchar, Operand, operand, value, Args, by_value, Assertion, Check, Specifier, Stmt, contract_assert, expression, variable_declaration, Stmts, done, next, CatchParameter, object, exception_object}
use Rattle.cx_core.specs.Program.{Checks, FieldInit, Body, function, constructor, destructor, implicit_constructor, implicit_copy_constructor, implicit_destructor, ResultKind, void, exit_status, Function, number_leaf, empty_leaf, Class, Program}
use Rattle.cx_core.specs.Event.{Evaluation}

abbrev pub int : ObjectType
int = scalar scalars.Int

abbrev pub char : ObjectType
char = scalar scalars.Char

-- ---- expressions

abbrev pub as_is : Expr → Operand
as_is e = operand None None e

abbrev pub read_int : Expr → Operand
read_int e = operand (Some int) None e

abbrev pub read_pointer : Expr → Operand
read_pointer e = operand (Some (pointer (scalar scalars.Int))) None e

-- a `char` that is promoted
abbrev pub read_char : Expr → Operand
read_char e = operand (Some char) (Some types.Int) e

abbrev pub lit : ℕ → Operand
lit n = as_is (literal (number (pos n)))

abbrev pub minus_one : Operand
minus_one = as_is (literal (number (negsuc 0)))

-- of two operands of type `int`
abbrev pub ints : BinaryOperator → Operand → Operand → Expr
ints operator a b = binary operator types.Int a b

abbrev pub int_arg : ℕ → Args → Args
int_arg n rest = by_value int (value (lit n)) rest

-- a member named alone
abbrev pub own : ℕ → Expr
own leaf = member leaf (indirection (as_is this))

-- ---- statements

abbrev pub list : List (Stmt Check) → Stmts Check
list [] = done
list (s ∷ statements) = next s (list statements)

-- an expression that is discarded and not read
abbrev pub does : Expr → Stmt Check
does e = expression (as_is e)

abbrev pub int_variable : (slot : ℕ) → Operand → Stmt Check
int_variable slot a = variable_declaration slot int (value a)

abbrev pub read_variable : (slot : ℕ) → Operand
read_variable slot = read_int (variable slot)

abbrev pub set_int : (slot : ℕ) → Operand → Stmt Check
set_int slot a = does (assign (variable slot) a)

abbrev pub say : ℕ → Stmt Check
say c = does (putchar (lit c))

-- the parameter of `catch (int)`, in a slot of its own
abbrev pub caught_int : CatchParameter
caught_int = object 9 true (value (read_int exception_object))

-- ---- contracts

abbrev pub assertion_in : List ℕ → AssertionKind → List ℕ → (line column : ℕ) → List ℕ → Assertion
assertion_in file kind name line column comment =
    record { kind = kind; name = name; file = file; line = line; column = column; comment = comment }

abbrev pub assertion : AssertionKind → List ℕ → (line column : ℕ) → List ℕ → Assertion
assertion kind name line column comment = assertion_in (codes "a.cpp") kind name line column comment

abbrev pub check : Assertion → Semantic → (times : ℕ) → Operand → Specifier Check
check a semantic times predicate = record { of = record { assertion = a; semantic = semantic; times = times }; predicate = predicate }

abbrev pub asserts : Specifier Check → Stmt Check
asserts s = contract_assert s.of s.predicate

abbrev pub evaluation_of : Assertion → Party → Semantic → Evaluation
evaluation_of a party semantic = record { assertion = a.name; party = party; semantic = semantic }

abbrev pub no_checks : Checks
no_checks = record { preconditions = []; postconditions = [] }

abbrev pub pre : List (Specifier Check) → Checks
pre checks = record { preconditions = checks; postconditions = [] }

abbrev pub post : List (Specifier Check) → Checks
post checks = record { preconditions = []; postconditions = checks }

-- ---- functions, classes, programs

abbrev pub with_body : ResultKind → Checks → Body Check → Function
with_body result checks body = record { definer = 0; noexcept = false; result = result; checks = checks; body = body }

abbrev pub checked_function : ResultKind → Checks → List (Stmt Check) → Function
checked_function result checks body = with_body result checks (function (list body))

abbrev pub function_of : ResultKind → List (Stmt Check) → Function
function_of result body = checked_function result no_checks body

abbrev pub main_of : List (Stmt Check) → Function
main_of body = function_of exit_status body

abbrev pub handler_of : List (Stmt Check) → Function
handler_of body = with_body void no_checks (function (list body))

abbrev pub constructor_of : List FieldInit → List (Stmt Check) → Function
constructor_of fields body = with_body void no_checks (constructor fields (list body))

abbrev pub destructor_of : (class : ℕ) → List (Stmt Check) → Function
destructor_of c body = with_body void no_checks (destructor c (list body))

abbrev pub constructs : (class : ℕ) → Function
constructs c = with_body void no_checks (implicit_constructor c)

abbrev pub copies : (class : ℕ) → Function
copies c = with_body void no_checks (implicit_copy_constructor c)

abbrev pub destroys : (class : ℕ) → Function
destroys c = with_body void no_checks (implicit_destructor c)

abbrev pub int_field : (leaf : ℕ) → Operand → FieldInit
int_field leaf a = record { leaf = leaf; type = int; init = value a }

-- a class with one field, and one without
abbrev pub class_of_one : List ℕ → ObjectType → (default : Option ℕ) → (copy destroy : ℕ) → Class
class_of_one name type default copy destroy = record {
  name = name;
  fields = record { leaf = 0; type = type } ∷ [];
  leaves = number_leaf ∷ [];
  objects = 1;
  default_constructor = default;
  copy_constructor = copy;
  destructor = destroy;
}

abbrev pub empty_class : List ℕ → (default copy destroy : ℕ) → Class
empty_class name default copy destroy = record {
  name = name;
  fields = [];
  leaves = empty_leaf ∷ [];
  objects = 1;
  default_constructor = Some default;
  copy_constructor = copy;
  destructor = destroy;
}

-- the first function is `main`
abbrev pub program_of : List Class → List Function → Program
program_of classes functions =
    record { functions = functions; classes = classes; globals = []; callers = []; main = 0; handler = None }

-- in a program of one unit, the checks that it makes as Caller, for the function with this index
abbrev pub calling : ℕ → Checks → List (List Checks)
calling f checks = (none_before f) ∷ []
  where
    none_before : ℕ → List Checks
    none_before Rattle.std.specs.Prelude.zero = checks ∷ []
    none_before (Rattle.std.specs.Prelude.suc n) = no_checks ∷ none_before n
