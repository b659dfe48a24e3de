-- What the tasks of this program stand for in the machine for the meaning; this project's own.
use Rattle.std.specs.Prelude.{ℕ, List, [], ◌∷◌, map, reverse, Option, Some, None}
use Rattle.std.specs.Option.{option_map}
use Rattle.cx_core.specs.Tree as tree
use Rattle.cx_core.specs.Leaving as leaving
use Rattle.cx_core.specs.Calls as calls_of
use Rattle.cx_core.specs.View.{expr_of, operand_of, init_of, object_type, condition_of, result_of}
use Rattle.cx_plain.specs.Task as task
use Rattle.cx_plain_state.specs.Seen.{value_of, address_of, type_of, living_of, livings_of, exception_of, violation_of}
use Rattle.cx_plain_state.specs.Ran.{values_of}
use Rattle.cx_mean_parts.specs.declared.task.Level.{Level}
use Rattle.cx_mean_parts.specs.declared.task.Call.{Call}
use Rattle.cx_mean_parts.specs.declared.task.Callee.{Callee}
use Rattle.cx_mean_parts.specs.declared.task.Callee.TheVariants as callees
use Rattle.cx_mean_parts.specs.declared.task.Check.{Check}
use Rattle.cx_mean_parts.specs.declared.task.Row.{Row}
use Rattle.cx_mean_parts.specs.declared.task.Row.TheVariants as rows
use Rattle.cx_mean_parts.specs.declared.task.Due.{Due}
use Rattle.cx_mean_parts.specs.declared.task.Keeper.{Keeper}
use Rattle.cx_mean_parts.specs.declared.task.Keeper.TheVariants as keepers
use Rattle.cx_mean_parts.specs.declared.task.Loop.{Loop}
use Rattle.cx_mean_parts.specs.declared.task.ClassField.{ClassField}
use Rattle.cx_mean_parts.specs.declared.task.Task.{Task}
use Rattle.cx_mean_parts.specs.declared.task.Task.TheVariants as tasks
use Rattle.cx_mean_parts.specs.declared.task.ExpressionTask.{ExpressionTask}
use Rattle.cx_mean_parts.specs.declared.task.ExpressionTask.TheVariants as expressions
use Rattle.cx_mean_parts.specs.declared.task.StatementTask.{StatementTask}
use Rattle.cx_mean_parts.specs.declared.task.StatementTask.TheVariants as statements
use Rattle.cx_mean_parts.specs.declared.task.ObjectTask.{ObjectTask}
use Rattle.cx_mean_parts.specs.declared.task.ObjectTask.TheVariants as objects
use Rattle.cx_mean_parts.specs.declared.task.CheckTask.{CheckTask}
use Rattle.cx_mean_parts.specs.declared.task.CheckTask.TheVariants as checks
use Rattle.cx_mean_parts.specs.declared.task.CallTask.{CallTask}
use Rattle.cx_mean_parts.specs.declared.task.CallTask.TheVariants as calls
use Rattle.cx_mean_parts.specs.Seen.{planned_check, Table, stmt_of, stmts_of, args_of, handlers_of, checks_of, field_inits_of, fields_of, function_of}

abbrev pub level_of : Level → task.Level
level_of level = record { counted = level.counted; implicit = level.implicit }

abbrev pub call_of : Call → leaving.Call
call_of c = record {
  function = c.function;
  caller = c.caller;
  unit = c.unit;
  reports = option_map violation_of c.reports;
  arguments = values_of c.arguments.items;
  result = option_map value_of c.result;
}

abbrev pub callee_of : Callee → calls_of.Callee
callee_of (callees.ByName f) = calls_of.by_name f
callee_of (callees.ByPointer p) = calls_of.by_pointer (value_of p)

abbrev pub keeper_of : Keeper → task.Keeper
keeper_of keepers.InnermostScope = task.innermost_scope
keeper_of keepers.FullExpression = task.full_expression
keeper_of keepers.Nobody = task.nobody

abbrev pub class_field_of : ClassField → ℕ × ℕ
class_field_of f = (f.leaf, f.class)

abbrev pub check_seen : Check → tree.Specifier tree.Check
check_seen c = record { of = planned_check (Some c.planned.now); predicate = operand_of c.predicate.now }

abbrev pub due_of : Due → task.Due
due_of d = record { check = check_seen d.check; left = d.left }

abbrev pub expression_task_of : ExpressionTask → task.Task
expression_task_of (expressions.Expression level e) = task.expression (level_of level) (expr_of e.now)
expression_task_of (expressions.Used level a) = task.used (level_of level) (operand_of a.now)
expression_task_of (expressions.Evaluated level a) = task.evaluated (level_of level) (operand_of a.now)
expression_task_of (expressions.UsedTruth level a) = task.used_truth (level_of level) (operand_of a.now)
expression_task_of (expressions.EvaluatedTruth level a) = task.evaluated_truth (level_of level) (operand_of a.now)
expression_task_of (expressions.Initialise level i p) = task.initialise (level_of level) (init_of i.now) (address_of p)
expression_task_of (expressions.Arguments level a) = task.arguments (level_of level) (args_of a.now)

abbrev pub object_task_of : ObjectTask → task.Task
object_task_of (objects.Destroying level c a) = task.destroying (level_of level) c (address_of a)
object_task_of (objects.DestroyingEach level a fields) =
    task.destroying_each (level_of level) (address_of a) (reverse (map class_field_of fields.items))
object_task_of (objects.DestroyingFields level c a) = task.destroying_fields (level_of level) c (address_of a)
object_task_of (objects.Ending level l) = task.ending (level_of level) (living_of l)
object_task_of (objects.EndingEach level living) = task.ending_each (level_of level) (livings_of living)
object_task_of (objects.Making level keeper type slot i) =
    task.making (level_of level) (keeper_of keeper) (type_of type) slot (init_of i.now)
object_task_of (objects.Declaring level slot type i) = task.declaring (level_of level) slot (type_of type) (init_of i.now)
object_task_of (objects.FieldInits level fields) = task.field_inits (level_of level) (field_inits_of fields.now)
object_task_of (objects.DefaultFields level fields) = task.default_fields (level_of level) (fields_of fields.now)
object_task_of (objects.CopyingFields level source fields) =
    task.copying_fields (level_of level) (address_of source) (fields_of fields.now)
object_task_of (objects.CopyingMembers level fields source to) =
    task.copying_members (level_of level) (fields_of fields.now) (address_of source) (address_of to)
object_task_of (objects.CopyingObject level type source to) =
    task.copying_object (level_of level) (type_of type) (address_of source) (address_of to)

module _ (table : Table) where
  abbrev pub row_of : Row → List (tree.Specifier tree.Check)
  row_of (rows.Specifiers specifiers) = checks_of table specifiers.now
  row_of (rows.Statement a predicate) = record { of = table a; predicate = operand_of predicate.now } ∷ []

  abbrev pub loop_of : Loop → task.Loop
  loop_of l = record {
    condition = condition_of (option_map (λ a. a.now) l.condition);
    step = option_map (λ s. stmt_of table s.now.value) l.step;
    body = stmt_of table l.body.now.value;
  }

  abbrev pub statement_task_of : StatementTask → task.Task
  statement_task_of (statements.Statement level s) = task.statement (level_of level) (stmt_of table s.now)
  statement_task_of (statements.Statements level b) = task.statements (level_of level) (stmts_of table b.now)
  statement_task_of (statements.Block level b) = task.block (level_of level) (stmts_of table b.now)
  statement_task_of (statements.Handling level h e) = task.handling (level_of level) (handlers_of table h.now) (exception_of e)
  statement_task_of (statements.Testing level c) = task.testing (level_of level) (condition_of (option_map (λ a. a.now) c))
  statement_task_of (statements.Looping level l) = task.looping (level_of level) (loop_of l)
  statement_task_of (statements.Turns level l n) = task.turns (level_of level) (loop_of l) n

  abbrev pub check_task_of : CheckTask → task.Task
  check_task_of (checks.Evaluations level party n due) = task.evaluations (level_of level) party n (map due_of due.items)
  check_task_of (checks.Checks level party row) = task.checks (level_of level) party (row_of row)
  check_task_of (checks.EdgedChecks level row) = task.edged_checks (level_of level) (row_of row)
  check_task_of (checks.HandlingViolation level r) = task.handling_violation (level_of level) (violation_of r)

  abbrev pub call_task_of : CallTask → task.Task
  call_task_of (calls.Calling implicit depth c) = task.calling implicit depth (call_of c)
  call_task_of (calls.Counted depth c) = task.counted depth (call_of c)
  call_task_of (calls.CallOf level callee this a result) =
      task.call_of (level_of level) (callee_of callee) (option_map address_of this) (args_of a.now) (option_map value_of result)
  call_task_of (calls.CallInto level callee a n) = task.call_into (level_of level) (callee_of callee) (args_of a.now) n
  call_task_of (calls.ConstructAt level f a arguments) = task.construct_at (level_of level) f (address_of a) (values_of arguments.items)
  call_task_of (calls.Before level f c) = task.before (level_of level) (function_of table f.now) (call_of c)
  call_task_of (calls.After level f c) = task.after (level_of level) (function_of table f.now) (call_of c)
  call_task_of (calls.CallerBefore level c) = task.caller_before (level_of level) (call_of c)
  call_task_of (calls.CallerAfter level c) = task.caller_after (level_of level) (call_of c)
  call_task_of (calls.Body level kind b) = task.body (level_of level) (result_of kind) (stmts_of table b.now)

  abbrev pub task_of : Task → task.Task
  task_of (tasks.Expression t) = expression_task_of t
  task_of (tasks.Statement t) = statement_task_of t.value
  task_of (tasks.Object t) = object_task_of t
  task_of (tasks.Check t) = check_task_of t
  task_of (tasks.Call t) = call_task_of t
