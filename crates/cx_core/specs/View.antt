-- The plain trees and tables that a typed unit is: this project's own.
use Rattle.std.specs.Prelude.{zero, suc, ℕ, if◌then◌else◌, List, [], ◌∷◌, map, Option, Some, None}
use Rattle.cx_types.specs.declared.value_type.ValueType.{ValueType}
use Rattle.cx_types.specs.declared.value_type.Base.{Base}
use Rattle.cx_types.specs.declared.value_type.Base.TheVariants as bases
use Rattle.cx_core.specs.declared.expression.Constant.{Constant}
use Rattle.cx_core.specs.declared.expression.Constant.TheVariants as constants
use Rattle.cx_core.specs.declared.expression.PointedResult.{PointedResult}
use Rattle.cx_core.specs.declared.expression.PointedResult.TheVariants as pointed
use Rattle.cx_core.specs.declared.expression.Expression.{Expression, fold-Expression}
use Rattle.cx_core.specs.declared.expression.Operand.{fold-Operand}
use Rattle.cx_core.specs.declared.expression.Operand as rust
use Rattle.cx_core.specs.declared.expression.Initializer.{Initializer, fold-Initializer}
use Rattle.cx_core.specs.declared.expression.Argument.TheOpen.{Argument-F, Expression-F, Initializer-F, Operand-F}
use Rattle.cx_core.specs.declared.statement.CatchParameter.{CatchParameter}
use Rattle.cx_core.specs.declared.statement.CatchParameter.TheVariants as parameters
use Rattle.cx_core.specs.declared.statement.Statement.{Statement, fold-Statement}
use Rattle.cx_core.specs.declared.statement.Statement.TheOpen.{Handler-F, Statement-F}
use Rattle.cx_core.specs.declared.unit.Specifier.{Specifier}
use Rattle.cx_core.specs.declared.unit.Assertion.{Assertion}
use Rattle.cx_core.specs.declared.unit.ResultKind.{ResultKind}
use Rattle.cx_core.specs.declared.unit.ResultKind.TheVariants as results
use Rattle.cx_core.specs.declared.unit.FieldInitializer.{FieldInitializer}
use Rattle.cx_core.specs.declared.unit.Body.{Body}
use Rattle.cx_core.specs.declared.unit.Body.TheVariants as bodies
use Rattle.cx_core.specs.declared.unit.LeafKind.{LeafKind}
use Rattle.cx_core.specs.declared.unit.LeafKind.TheVariants as leaves
use Rattle.cx_core.specs.declared.unit.Field.{Field}
use Rattle.cx_core.specs.declared.unit.ClassDefinition.{ClassDefinition}
use Rattle.cx_core.specs.declared.unit.Class.{Class}
use Rattle.cx_core.specs.declared.unit.Global.{Global}
use Rattle.cx_core.specs.declared.unit.Function.{Function}
use Rattle.cx_core.specs.declared.unit.FunctionType.{FunctionType}
use Rattle.cx_core.specs.declared.unit.CoreUnit.{CoreUnit}
use Rattle.cx_core.specs.Unit.{PartType, UnitClass, UnitGlobal, UnitFunction, TranslationUnit}
use Rattle.cx_core.specs.Unit as unit
use Rattle.cx_core.specs.Program as program
use Rattle.cx_core.specs.Tree as tree
use Rattle.cx_core.specs.Tree.{ObjectType, scalar, pointer, function_pointer, class, Expr, Init, Args, no_more, Stmt, Stmts, done, next, Handlers}

abbrev pub constant : Constant → tree.Constant
constant (constants.Number n) = tree.number n
constant constants.Nullptr = tree.nullptr

abbrev pub pointed_result : PointedResult → tree.PointedResult
pointed_result pointed.Void = tree.void_result
pointed_result pointed.Scalar = tree.scalar_result
pointed_result pointed.Reference = tree.reference_result

abbrev pub args : List (Args → Args) → Args
args [] = no_more
args (a ∷ rest) = a (args rest)

abbrev pub stmts : List (Stmt ℕ) → Stmts ℕ
stmts [] = done
stmts (s ∷ rest) = next s (stmts rest)

abbrev pub handlers : List (Handlers ℕ → Handlers ℕ) → Handlers ℕ
handlers [] = tree.none
handlers (h ∷ rest) = h (handlers rest)

abbrev pub base_type : Base → ObjectType
base_type (bases.Scalar s) = scalar s
base_type (bases.Class c) = class c
base_type (bases.Function t) = function_pointer t
-- no object has one of these
base_type bases.Violation = class 0
base_type bases.Void = class 0

abbrev pub pointer_to : ℕ → ObjectType → ObjectType
pointer_to zero type = type
pointer_to (suc n) type = pointer (pointer_to n type)

abbrev pub object_type : ValueType → ObjectType
object_type type = pointer_to type.pointers (base_type type.base)

abbrev pub object_type_or_none : Option ValueType → Option ObjectType
object_type_or_none None = None
object_type_or_none (Some type) = Some (object_type type)

-- ---- one layer of each type, its parts being trees

abbrev pub argument_layer : Argument-F (Args → Args) Expr Init tree.Operand → Args → Args
argument_layer (Argument-F.ByReference e) = tree.by_reference e
argument_layer (Argument-F.ByValue type i) = tree.by_value (object_type type) i

abbrev pub operand_layer : Operand-F (Args → Args) Expr Init tree.Operand → tree.Operand
operand_layer o = tree.operand (object_type_or_none o.read) o.to o.of

abbrev pub initializer_layer : Initializer-F (Args → Args) Expr Init tree.Operand → Init
initializer_layer (Initializer-F.Value a) = tree.value a
initializer_layer (Initializer-F.Construct f a) = tree.construct f (args a.items)
initializer_layer (Initializer-F.ZeroFirst c i) = tree.zero_first c i.value
initializer_layer (Initializer-F.ResultOf f a) = tree.result_of f (args a.items)
initializer_layer (Initializer-F.ResultThrough p a) = tree.result_through p.value (args a.items)

abbrev pub expression_layer : Expression-F (Args → Args) Expr Init tree.Operand → Expr
expression_layer (Expression-F.Literal c) = tree.literal (constant c)
expression_layer (Expression-F.Variable slot) = tree.variable slot
expression_layer (Expression-F.Global i) = tree.global i
expression_layer Expression-F.This = tree.this
expression_layer (Expression-F.FunctionName f) = tree.function_name f
expression_layer Expression-F.ResultName = tree.result_name
expression_layer Expression-F.ExceptionObject = tree.exception_object
expression_layer (Expression-F.Unary operator type a) = tree.unary operator type a.value
expression_layer (Expression-F.Binary operator type a b) = tree.binary operator type a.value b.value
expression_layer (Expression-F.LogicalAnd a b) = tree.logical_and a.value b.value
expression_layer (Expression-F.LogicalOr a b) = tree.logical_or a.value b.value
expression_layer (Expression-F.Conditional a b c) = tree.conditional a.value b.value c.value
expression_layer (Expression-F.Cast a) = tree.cast a.value
expression_layer (Expression-F.Assign a b) = tree.assign a.value b.value
expression_layer (Expression-F.CompoundAssign operator computed kept a b) = tree.compound_assign operator computed kept a.value b.value
expression_layer (Expression-F.PrefixStep operator type a) = tree.prefix_step operator type a.value
expression_layer (Expression-F.PostfixStep operator type a) = tree.postfix_step operator type a.value
expression_layer (Expression-F.Indirection a) = tree.indirection a.value
expression_layer (Expression-F.Member leaf a) = tree.member leaf a.value
expression_layer (Expression-F.Call f a) = tree.call f (args a.items)
expression_layer (Expression-F.CallThrough kind p a) = tree.call_through (pointed_result kind) p.value (args a.items)
expression_layer (Expression-F.Temporary type i) = tree.temporary (object_type type) i.value
expression_layer (Expression-F.TemporaryThrough c p a) = tree.temporary_through c p.value (args a.items)
expression_layer (Expression-F.Putchar a) = tree.putchar a.value
expression_layer Expression-F.Getchar = tree.getchar
expression_layer (Expression-F.Puts text) = tree.puts text
expression_layer (Expression-F.PutsComment a) = tree.puts_comment a.value
expression_layer (Expression-F.Query q a) = tree.query q a.value

abbrev pub expr_of : Expression → Expr
expr_of = fold-Expression (Args → Args) Expr Init tree.Operand argument_layer expression_layer initializer_layer operand_layer

abbrev pub operand_of : rust.Operand → tree.Operand
operand_of = fold-Operand (Args → Args) Expr Init tree.Operand argument_layer expression_layer initializer_layer operand_layer

abbrev pub init_of : Initializer → Init
init_of = fold-Initializer (Args → Args) Expr Init tree.Operand argument_layer expression_layer initializer_layer operand_layer

-- ---- statements

abbrev pub parameter_of : CatchParameter → tree.CatchParameter
parameter_of parameters.Unnamed = tree.unnamed
parameter_of (parameters.Reference slot) = tree.reference slot
parameter_of (parameters.Object slot is_named i) = tree.object slot is_named (init_of i)

abbrev pub condition_of : Option rust.Operand → tree.Condition
condition_of None = tree.always
condition_of (Some a) = tree.while (operand_of a)

abbrev pub handler_for : Option ValueType → tree.CatchParameter → Stmts ℕ → Handlers ℕ → Handlers ℕ
handler_for None parameter body = tree.catch_all body
handler_for (Some type) parameter body = tree.catch (object_type type) parameter body

abbrev pub handler_layer : Handler-F (Stmt ℕ) (Handlers ℕ → Handlers ℕ) → Handlers ℕ → Handlers ℕ
handler_layer h = handler_for h.catches (parameter_of h.parameter) (stmts h.body.items)

abbrev pub statement_layer : Statement-F (Stmt ℕ) (Handlers ℕ → Handlers ℕ) → Stmt ℕ
statement_layer Statement-F.Empty = tree.empty
statement_layer (Statement-F.Expression a) = tree.expression (operand_of a)
statement_layer (Statement-F.Variable slot type i) = tree.variable_declaration slot (object_type type) (init_of i)
statement_layer (Statement-F.Reference slot e) = tree.reference_declaration slot (expr_of e)
statement_layer (Statement-F.Block b) = tree.block (stmts b.items)
statement_layer (Statement-F.If c a b) = tree.if_else (operand_of c) a.value b.value
statement_layer (Statement-F.While c body) = tree.while_loop (operand_of c) body.value
statement_layer (Statement-F.For first c step body) = tree.for_loop first.value (condition_of c) step.value body.value
statement_layer Statement-F.Break = tree.break
statement_layer Statement-F.Continue = tree.continue
statement_layer Statement-F.Return = tree.return
statement_layer (Statement-F.ReturnValue a) = tree.return_value (operand_of a)
statement_layer (Statement-F.ReturnReference e) = tree.return_reference (expr_of e)
statement_layer (Statement-F.ReturnObject i) = tree.return_object (init_of i)
statement_layer (Statement-F.ContractAssert a predicate) = tree.contract_assert a (operand_of predicate)
statement_layer (Statement-F.Throw type i) = tree.throw (object_type type) (init_of i)
statement_layer Statement-F.Rethrow = tree.rethrow
statement_layer (Statement-F.Try b h) = tree.try (stmts b.items) (handlers h.items)

abbrev pub stmt_of : Statement → Stmt ℕ
stmt_of = fold-Statement (Stmt ℕ) (Handlers ℕ → Handlers ℕ) statement_layer handler_layer

abbrev pub stmts_of : List Statement → Stmts ℕ
stmts_of statements = stmts (map stmt_of statements)

-- ---- functions and classes

abbrev pub specifier_of : Specifier → tree.Specifier ℕ
specifier_of s = record { of = s.assertion; predicate = operand_of s.predicate }

abbrev pub result_of : ResultKind → program.ResultKind
result_of results.Void = program.void
result_of results.ScalarValue = program.scalar_value
result_of results.ScalarObject = program.scalar_object
result_of (results.ClassObject c) = program.class_object c
result_of results.Reference = program.reference
result_of results.ExitStatus = program.exit_status

abbrev pub field_init_of : FieldInitializer → program.FieldInit
field_init_of f = record { leaf = f.leaf; type = object_type f.of; init = init_of f.init }

abbrev pub body_of : Body → program.Body ℕ
body_of (bodies.Function b) = program.function (stmts_of b.items)
body_of (bodies.Constructor fields b) = program.constructor (map field_init_of fields.items) (stmts_of b.items)
body_of (bodies.Destructor c b) = program.destructor c (stmts_of b.items)
body_of (bodies.ImplicitConstructor c) = program.implicit_constructor c
body_of (bodies.ImplicitCopyConstructor c) = program.implicit_copy_constructor c
body_of (bodies.ImplicitDestructor c) = program.implicit_destructor c

abbrev pub leaf_kind : LeafKind → program.LeafKind
leaf_kind leaves.Number = program.number_leaf
leaf_kind leaves.Pointer = program.pointer_leaf
leaf_kind leaves.Empty = program.empty_leaf

abbrev pub field_of : Field → program.Field
field_of f = record { leaf = f.leaf; type = object_type f.of }

abbrev pub assertion_of : Assertion → tree.Assertion
assertion_of a = record { kind = a.kind; name = a.name; file = a.file; line = a.line; column = a.column; comment = a.comment }

abbrev pub class_of : (name : List ℕ) → ClassDefinition → program.Class
class_of name c = record {
  name = name;
  fields = map field_of c.fields;
  leaves = map leaf_kind c.leaves;
  objects = c.objects;
  default_constructor = c.default_constructor;
  copy_constructor = c.copy_constructor;
  destructor = c.destructor;
}

abbrev pub class_or_none : (name : List ℕ) → Option ClassDefinition → Option program.Class
class_or_none name None = None
class_or_none name (Some c) = Some (class_of name c)

abbrev pub constant_or_none : Option Constant → Option tree.Constant
constant_or_none None = None
constant_or_none (Some c) = Some (constant c)

abbrev pub body_or_none : Option Body → Option (program.Body ℕ)
body_or_none None = None
body_or_none (Some b) = Some (body_of b)

abbrev pub unit_class_of : Class → UnitClass
unit_class_of c = record { name = c.name; definition = class_or_none c.name c.definition }

abbrev pub unit_global_of : Global → UnitGlobal
unit_global_of g = record { name = g.name; type = object_type g.of; is_named = g.is_named; value = constant_or_none g.value }

-- ---- types of functions

abbrev pub pointed_part : ValueType → PartType
pointed_part type = if type.reference then unit.reference (object_type type) else unit.object (object_type type)

abbrev pub part_type_with : ValueType → (pointers : ℕ) → Base → PartType
part_type_with type zero bases.Void = unit.void
part_type_with type zero bases.Violation = unit.violation
part_type_with type pointers base = pointed_part type

abbrev pub part_type : ValueType → PartType
part_type type = part_type_with type type.pointers type.base

abbrev pub function_type_of : FunctionType → unit.FunctionType
function_type_of t = record { name = t.text; result = part_type t.result; parameters = map part_type t.parameters }

abbrev pub unit_function_of : Function → UnitFunction
unit_function_of f = record {
  name = f.name;
  type = f.of;
  is_needed = f.is_needed;
  noexcept = f.noexcept;
  named_parameters = f.named_parameters;
  result = result_of f.result;
  preconditions = map specifier_of f.preconditions;
  postconditions = map specifier_of f.postconditions;
  body = body_or_none f.body;
}

abbrev pub unit_of : CoreUnit → TranslationUnit
unit_of u = record {
  name = u.name;
  classes = map unit_class_of u.classes;
  globals = map unit_global_of u.globals;
  functions = map unit_function_of u.functions;
  function_types = map function_type_of u.function_types;
  definitions = u.definitions;
  assertions = map assertion_of u.assertions;
  calls = u.calls;
  tokens = u.tokens;
}
