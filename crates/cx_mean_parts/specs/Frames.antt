-- What the frames of this program stand for in the machine for the meaning; this project's own.
use Rattle.std.specs.Prelude.{ℕ, List, [], ◌∷◌, map, reverse, Option}
use Rattle.std.specs.Option.{option_map}
use Rattle.cx_core.specs.View.{expr_of, operand_of, init_of, pointed_result, result_of}
use Rattle.cx_core.specs.View.{assertion_of}
use Rattle.cx_core.specs.Statements as statement
use Rattle.cx_plain.specs.Task as task
use Rattle.cx_plain_state.specs.Seen.{value_of, address_of, type_of, livings_of, exceptions_of, exception_of, frame_of}
use Rattle.cx_plain_state.specs.Ran.{values_of}
use Rattle.cx_mean_parts.specs.declared.waiting.Completion.{Completion}
use Rattle.cx_mean_parts.specs.declared.waiting.Completion.TheVariants as completions
use Rattle.cx_mean_parts.specs.declared.waiting.Given.{Given}
use Rattle.cx_mean_parts.specs.declared.waiting.Given.TheVariants as givens
use Rattle.cx_mean_parts.specs.declared.waiting.Left.{Left}
use Rattle.cx_mean_parts.specs.declared.waiting.Left.TheVariants as lefts
use Rattle.cx_mean_parts.specs.declared.waiting.Operation.{Operation}
use Rattle.cx_mean_parts.specs.declared.waiting.Operation.TheVariants as operations
use Rattle.cx_mean_parts.specs.declared.waiting.Waiting.{Waiting}
use Rattle.cx_mean_parts.specs.declared.waiting.Waiting.TheVariants as waitings
use Rattle.cx_mean_parts.specs.declared.waiting.OperandFrame.{OperandFrame}
use Rattle.cx_mean_parts.specs.declared.waiting.OperandFrame.TheVariants as operands
use Rattle.cx_mean_parts.specs.declared.waiting.ArgumentFrame.{ArgumentFrame}
use Rattle.cx_mean_parts.specs.declared.waiting.ArgumentFrame.TheVariants as arguments
use Rattle.cx_mean_parts.specs.declared.waiting.FollowingFrame.{FollowingFrame}
use Rattle.cx_mean_parts.specs.declared.waiting.FollowingFrame.TheVariants as followings
use Rattle.cx_mean_parts.specs.declared.waiting.ObjectFrame.{ObjectFrame}
use Rattle.cx_mean_parts.specs.declared.waiting.ObjectFrame.TheVariants as objects
use Rattle.cx_mean_parts.specs.declared.waiting.LeavingFrame.{LeavingFrame}
use Rattle.cx_mean_parts.specs.declared.waiting.LeavingFrame.TheVariants as leavings
use Rattle.cx_mean_parts.specs.declared.waiting.StatementFrame.{StatementFrame}
use Rattle.cx_mean_parts.specs.declared.waiting.StatementFrame.TheVariants as statements
use Rattle.cx_mean_parts.specs.declared.waiting.CallFrame.{CallFrame}
use Rattle.cx_mean_parts.specs.declared.waiting.CallFrame.TheVariants as calls
use Rattle.cx_mean_parts.specs.declared.waiting.Next.{Next}
use Rattle.cx_mean_parts.specs.declared.waiting.Next.TheVariants as nexts
use Rattle.cx_mean_parts.specs.Seen.{Table, stmt_of, stmts_of, args_of, handlers_of, function_of}
use Rattle.cx_mean_parts.specs.Tasks.{level_of, call_of, callee_of, keeper_of, loop_of, task_of}

abbrev pub completion_of : Completion → statement.Completion
completion_of completions.OnToNext = statement.on_to_next
completion_of completions.Break = statement.break
completion_of completions.Continue = statement.continue
completion_of (completions.Return v) = statement.return (value_of v)

abbrev pub given_of : Given → task.Given
given_of (givens.Value v) = task.value (value_of v)
given_of givens.Nothing = task.nothing
given_of (givens.Truth b) = task.truth b
given_of (givens.Values vs) = task.values (values_of vs.items)
given_of (givens.Number n) = task.number n
given_of (givens.Completion c) = task.completion (completion_of c)

abbrev pub left_of : Left → task.Left
left_of (lefts.Given g) = task.given (given_of g)
left_of (lefts.Thrown e) = task.thrown (exception_of e)

abbrev pub operation_of : Operation → task.Operation
operation_of (operations.Unary operator type) = task.unary operator type
operation_of (operations.Binary operator type x) = task.binary operator type (value_of x)
operation_of operations.Cast = task.cast
operation_of (operations.Assign v) = task.assign (value_of v)
operation_of (operations.CompoundAssign operator computed kept v) = task.compound_assign operator computed kept (value_of v)
operation_of (operations.PrefixStep operator type) = task.prefix_step operator type
operation_of (operations.PostfixStep operator type) = task.postfix_step operator type
operation_of operations.Indirection = task.indirection
operation_of (operations.Member leaf) = task.member leaf
operation_of (operations.Read type) = task.read (option_map type_of type)
operation_of (operations.Convert to) = task.convert to
operation_of operations.Putchar = task.putchar
operation_of operations.PutsComment = task.puts_comment
operation_of (operations.Query query) = task.query query
operation_of operations.StoreResult = task.store_result

abbrev pub object_frame_of : ObjectFrame → task.Frame
object_frame_of (objects.WriteValue p) = task.write_value (address_of p)
object_frame_of (objects.Made keeper n type) = task.made (keeper_of keeper) n (type_of type)
object_frame_of (objects.KeepingField a type) = task.keeping_field (address_of a) (type_of type)
object_frame_of (objects.Bound slot) = task.bound slot
object_frame_of (objects.Throwing type) = task.throwing (type_of type)

abbrev pub leaving_frame_of : LeavingFrame → task.Frame
leaving_frame_of (leavings.LeavingScope level outer) = task.leaving_scope (level_of level) (livings_of outer)
leaving_frame_of (leavings.LeavingFull level outer) = task.leaving_full (level_of level) (livings_of outer)
leaving_frame_of (leavings.RestoreLiving outer left) = task.restore_living (livings_of outer) (left_of left)
leaving_frame_of (leavings.RestoreTemporaries outer left) = task.restore_temporaries (livings_of outer) (left_of left)
leaving_frame_of (leavings.Constructing level outer) = task.constructing (level_of level) (livings_of outer)
leaving_frame_of (leavings.UndoneFields outer e) = task.undone_fields (livings_of outer) (exception_of e)
leaving_frame_of (leavings.Holding level e others) = task.holding (level_of level) (exception_of e) (exceptions_of others)
leaving_frame_of (leavings.AsLeft left) = task.as_left (left_of left)
leaving_frame_of (leavings.Within frame) = task.within (frame_of frame)
leaving_frame_of (leavings.EdgeIf noexcept) = task.edge_if noexcept

abbrev pub operand_frame_of : OperandFrame → task.Frame
operand_frame_of (operands.Operate operation) = task.operate (operation_of operation)
operand_frame_of (operands.RightOperand level operator type b) =
    task.right_operand (level_of level) operator type (operand_of b.now)
operand_frame_of (operands.LeftPlace level a) = task.left_place (level_of level) (expr_of a.now)
operand_frame_of (operands.CompoundPlace level operator computed kept a) =
    task.compound_place (level_of level) operator computed kept (expr_of a.now)
operand_frame_of operands.ToTruth = task.to_truth
operand_frame_of (operands.Decide level decides b) = task.decide (level_of level) decides (operand_of b.now)
operand_frame_of (operands.Choose level b c) = task.choose (level_of level) (operand_of b.now) (operand_of c.now)
operand_frame_of operands.TruthAsValue = task.truth_as_value
operand_frame_of operands.PlaceOfObject = task.place_of_object

abbrev pub argument_frame_of : ArgumentFrame → task.Frame
argument_frame_of (arguments.ReferenceArgument level rest) = task.reference_argument (level_of level) (args_of rest.now)
argument_frame_of (arguments.ObjectArgument level rest) = task.object_argument (level_of level) (args_of rest.now)
argument_frame_of (arguments.FirstArgument v) = task.first_argument (value_of v)
argument_frame_of (arguments.CallThrough level kind a) = task.call_through (level_of level) (pointed_result kind) (args_of a.now)
argument_frame_of (arguments.TemporaryThrough level c a) = task.temporary_through (level_of level) c (args_of a.now)
argument_frame_of (arguments.ResultThrough level a p) = task.result_through (level_of level) (args_of a.now) (address_of p)
argument_frame_of (arguments.CallWith level callee result) = task.call_with (level_of level) (callee_of callee) (option_map value_of result)
argument_frame_of (arguments.CallIntoObject level callee n) = task.call_into_object (level_of level) (callee_of callee) n
argument_frame_of (arguments.ReadResult n) = task.read_result n
argument_frame_of (arguments.EndResult n) = task.end_result n
argument_frame_of (arguments.EndObject n) = task.end_object n

module _ (table : Table) where
  abbrev pub following_frame_of : FollowingFrame → task.Frame
  following_frame_of followings.Discard = task.discard
  following_frame_of (followings.ThenNext t) = task.then_next (task_of table t.value)
  following_frame_of (followings.Replace g) = task.replace (given_of g)
  following_frame_of followings.Completed = task.completed
  following_frame_of followings.Returning = task.returning

  abbrev pub statement_frame_of : StatementFrame → task.Frame
  statement_frame_of (statements.Branch level a b) = task.branch (level_of level) (stmt_of table a.now.value) (stmt_of table b.now.value)
  statement_frame_of (statements.Sequence level rest) = task.sequence (level_of level) (stmts_of table rest.now)
  statement_frame_of (statements.Catching level h) = task.catching (level_of level) (handlers_of table h.now)
  statement_frame_of (statements.TurnTested level l n) = task.turn_tested (level_of level) (loop_of table l) n
  statement_frame_of (statements.TurnDone level l n) = task.turn_done (level_of level) (loop_of table l) n

  abbrev pub call_frame_of : CallFrame → task.Frame
  call_frame_of (calls.Verdict level a semantic) = task.verdict (level_of level) (assertion_of a.now) semantic
  call_frame_of calls.Terminate = task.terminate
  call_frame_of (calls.ValueGiven kind) = task.value_given (result_of kind)
  call_frame_of (calls.Postconditions level f c) = task.postconditions (level_of level) (function_of table f.now) (call_of c)
  call_frame_of (calls.Posted level kind place v) = task.posted (level_of level) (result_of kind) (option_map value_of place) (value_of v)
  call_frame_of (calls.Destroyed name a) = task.destroyed name.now (address_of a)

  abbrev pub waiting_of : Waiting → task.Frame
  waiting_of (waitings.Operand f) = operand_frame_of f
  waiting_of (waitings.Argument f) = argument_frame_of f
  waiting_of (waitings.Following f) = following_frame_of f
  waiting_of (waitings.Object f) = object_frame_of f
  waiting_of (waitings.Leaving f) = leaving_frame_of f
  waiting_of (waitings.Statement f) = statement_frame_of f
  waiting_of (waitings.Call f) = call_frame_of f

  -- the innermost of the frames is the last
  abbrev pub frames_of : List Waiting → List task.Frame
  frames_of frames = reverse (map waiting_of frames)

  abbrev pub next_of : Next → task.Next
  next_of (nexts.Give g) = task.give (given_of g)
  next_of (nexts.Go t frames) = task.go (task_of table t) (frames_of frames.items)
