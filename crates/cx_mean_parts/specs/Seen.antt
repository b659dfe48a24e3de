-- The program that a program of this crate stands for, whose numbers are its own; this project's own.
use Rattle.std.specs.Prelude.{ℕ, List, [], ◌∷◌, map, Option, Some, None, slice_get}
use Rattle.cx_types.specs.declared.value_type.ValueType.{ValueType}
use Rattle.cx_core.specs.declared.expression.Argument.{Argument, fold-Argument}
use Rattle.cx_core.specs.declared.statement.Statement.{Statement, fold-Statement}
use Rattle.cx_core.specs.declared.statement.Statement.TheOpen.{Handler-F, Statement-F}
use Rattle.cx_core.specs.declared.statement.Handler.{Handler, fold-Handler}
use Rattle.cx_core.specs.declared.unit.Specifier.{Specifier}
use Rattle.cx_core.specs.declared.unit.FieldInitializer.{FieldInitializer}
use Rattle.cx_core.specs.declared.unit.Field as unit_field
use Rattle.cx_core.specs.declared.unit.Body as unit_body
use Rattle.cx_core.specs.declared.unit.Body.TheVariants as bodies
use Rattle.cx_core.specs.Words.{Assert, Ignore}
use Rattle.cx_core.specs.Tree as tree
use Rattle.cx_core.specs.Tree.{Expr, Init, Args, Check, Stmt, Stmts, done, next, Handlers}
use Rattle.cx_core.specs.Program as program
use Rattle.cx_core.specs.Program.{Checks}
use Rattle.cx_core.specs.View as view
use Rattle.cx_core.specs.View.{object_type, constant, args, argument_layer, expression_layer, initializer_layer, operand_layer, expr_of, operand_of, init_of, condition_of, parameter_of, result_of, field_of, field_init_of, assertion_of}
use Rattle.cx_mean_parts.specs.declared.program.PlannedAssertion.{PlannedAssertion}
use Rattle.cx_mean_parts.specs.declared.program.CallerChecks.{CallerChecks}
use Rattle.cx_mean_parts.specs.declared.program.Function.{Function}
use Rattle.cx_mean_parts.specs.declared.program.Class.{Class}
use Rattle.cx_mean_parts.specs.declared.program.Program.{Program}

-- an assertion that isn't in the table is never evaluated
abbrev pub planned_check : Option PlannedAssertion → Check
planned_check None = record {
  assertion = record { kind = Assert; name = []; file = []; line = 0; column = 0; comment = [] };
  semantic = Ignore;
  times = 0;
}
planned_check (Some a) = record { assertion = assertion_of a.assertion; semantic = a.semantic; times = a.times }

-- what stands for each assertion, by its index
abbrev pub Table : Type 0
Table = ℕ → Check

abbrev pub table_of : Program → Table
table_of p a = planned_check (slice_get p.assertions.items a)

abbrev pub argument_of : Argument → Args → Args
argument_of = fold-Argument (Args → Args) Expr Init tree.Operand argument_layer expression_layer initializer_layer operand_layer

abbrev pub args_of : List Argument → Args
args_of arguments = args (map argument_of arguments)

abbrev pub fields_of : List unit_field.Field → List program.Field
fields_of fields = map field_of fields

abbrev pub field_inits_of : List FieldInitializer → List program.FieldInit
field_inits_of fields = map field_init_of fields

abbrev pub class_of : Class → program.Class
class_of c = view.class_of c.name c.definition

abbrev pub stmts : List (Stmt Check) → Stmts Check
stmts [] = done
stmts (s ∷ rest) = next s (stmts rest)

abbrev pub handlers : List (Handlers Check → Handlers Check) → Handlers Check
handlers [] = tree.none
handlers (h ∷ rest) = h (handlers rest)

abbrev pub handler_for : Option ValueType → tree.CatchParameter → Stmts Check → Handlers Check → Handlers Check
handler_for None parameter body = tree.catch_all body
handler_for (Some type) parameter body = tree.catch (object_type type) parameter body

module _ (table : Table) where
  abbrev pub handler_layer : Handler-F (Stmt Check) (Handlers Check → Handlers Check) → Handlers Check → Handlers Check
  handler_layer h = handler_for h.catches (parameter_of h.parameter) (stmts h.body.items)

  abbrev pub statement_layer : Statement-F (Stmt Check) (Handlers Check → Handlers Check) → Stmt Check
  statement_layer Statement-F.Empty = tree.empty
  statement_layer (Statement-F.Expression a) = tree.expression (operand_of a)
  statement_layer (Statement-F.Variable slot type i) = tree.variable_declaration slot (object_type type) (init_of i)
  statement_layer (Statement-F.Reference slot e) = tree.reference_declaration slot (expr_of e)
  statement_layer (Statement-F.Block b) = tree.block (stmts b.items)
  statement_layer (Statement-F.If c a b) = tree.if_else (operand_of c) a.value b.value
  statement_layer (Statement-F.While c body) = tree.while_loop (operand_of c) body.value
  statement_layer (Statement-F.For first c step body) = tree.for_loop first.value (condition_of c) step.value body.value
  statement_layer Statement-F.Break = tree.break
  statement_layer Statement-F.Continue = tree.continue
  statement_layer Statement-F.Return = tree.return
  statement_layer (Statement-F.ReturnValue a) = tree.return_value (operand_of a)
  statement_layer (Statement-F.ReturnReference e) = tree.return_reference (expr_of e)
  statement_layer (Statement-F.ReturnObject i) = tree.return_object (init_of i)
  statement_layer (Statement-F.ContractAssert a predicate) = tree.contract_assert (table a) (operand_of predicate)
  statement_layer (Statement-F.Throw type i) = tree.throw (object_type type) (init_of i)
  statement_layer Statement-F.Rethrow = tree.rethrow
  statement_layer (Statement-F.Try b h) = tree.try (stmts b.items) (handlers h.items)

  abbrev pub stmt_of : Statement → Stmt Check
  stmt_of = fold-Statement (Stmt Check) (Handlers Check → Handlers Check) statement_layer handler_layer

  abbrev pub stmts_of : List Statement → Stmts Check
  stmts_of statements = stmts (map stmt_of statements)

  abbrev pub handler_of : Handler → Handlers Check → Handlers Check
  handler_of = fold-Handler (Stmt Check) (Handlers Check → Handlers Check) statement_layer handler_layer

  abbrev pub handlers_of : List Handler → Handlers Check
  handlers_of list = handlers (map handler_of list)

  abbrev pub check_of : Specifier → tree.Specifier Check
  check_of s = record { of = table s.assertion; predicate = operand_of s.predicate }

  abbrev pub checks_of : List Specifier → List (tree.Specifier Check)
  checks_of specifiers = map check_of specifiers

  abbrev pub body_of : unit_body.Body → program.Body Check
  body_of (bodies.Function b) = program.function (stmts_of b.items)
  body_of (bodies.Constructor fields b) = program.constructor (field_inits_of fields.items) (stmts_of b.items)
  body_of (bodies.Destructor c b) = program.destructor c (stmts_of b.items)
  body_of (bodies.ImplicitConstructor c) = program.implicit_constructor c
  body_of (bodies.ImplicitCopyConstructor c) = program.implicit_copy_constructor c
  body_of (bodies.ImplicitDestructor c) = program.implicit_destructor c

  abbrev pub function_of : Function → program.Function
  function_of f = record {
    definer = f.definer;
    noexcept = f.noexcept;
    result = result_of f.result;
    checks = record { preconditions = checks_of f.preconditions.items; postconditions = checks_of f.postconditions.items };
    body = body_of f.body;
  }

  abbrev pub caller_of : CallerChecks → Checks
  caller_of c = record { preconditions = checks_of c.preconditions.items; postconditions = checks_of c.postconditions.items }

unfoldable pub program_of : Program → program.Program
program_of p = record {
  functions = map (function_of (table_of p)) p.functions.items;
  classes = map class_of p.classes.items;
  globals = map constant p.globals.items;
  callers = map (λ unit. map (caller_of (table_of p)) unit.items) p.callers.items;
  main = p.main;
  handler = p.handler;
}
