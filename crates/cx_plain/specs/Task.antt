-- What a machine for the meaning has still to do: tasks, and the frames that wait for what a task gives. One task for each function of the meaning, and one frame for each place where a part of one is evaluated.
use Rattle.std.specs.Prelude.{ℕ, Bool, List, Option}
use Rattle.cx_core.specs.declared.number.IntegerType.{IntegerType}
use Rattle.cx_core.specs.declared.number.BinaryOperator.{BinaryOperator}
use Rattle.cx_core.specs.declared.number.UnaryOperator.{UnaryOperator}
use Rattle.cx_core.specs.declared.number.Query.{Query}
use Rattle.cx_core.specs.Words.{Party, Semantic, Violation}
use Rattle.cx_core.specs.Tree.{ObjectType, PointedResult, Expr, Operand, Init, Args, Assertion, Check, Specifier, Condition, Stmt, Stmts, Handlers}
use Rattle.cx_core.specs.Program.{FieldInit, Field, ResultKind, Function}
use Rattle.cx_core.specs.Store.{Address, Value}
use Rattle.cx_core.specs.Outcome.{Living, Exception, Frame as ActiveFrame}
use Rattle.cx_core.specs.Leaving.{Call}
use Rattle.cx_core.specs.Statements.{Completion}
use Rattle.cx_core.specs.Calls.{Callee}

-- the calls that may still become active inside one another: those that are counted, and the implicit ones before the next of these
pub record Level : Type 0 where
  pub counted : ℕ
  pub implicit : ℕ

-- what a task gives
pub data Given : Type 0 where
  value : Value → Given
  nothing : Given
  truth : Bool → Given
  values : List Value → Given
  number : ℕ → Given
  completion : Completion → Given

-- how a part was left, which what is done on leaving passes on
pub data Left : Type 0 where
  given : Given → Left
  thrown : Exception → Left

-- what is done with the values of operands
pub data Operation : Type 0 where
  unary : UnaryOperator → IntegerType → Operation
  binary : BinaryOperator → IntegerType → (left : Value) → Operation
  cast : Operation
  assign : (right : Value) → Operation
  compound_assign : BinaryOperator → (computed stored : IntegerType) → (right : Value) → Operation
  prefix_step : BinaryOperator → IntegerType → Operation
  postfix_step : BinaryOperator → IntegerType → Operation
  indirection : Operation
  member : (leaf : ℕ) → Operation
  read : Option ObjectType → Operation
  convert : Option IntegerType → Operation
  putchar : Operation
  puts_comment : Operation
  query : Query → Operation
  store_result : Operation

-- which list keeps an object that is made
pub data Keeper : Type 0 where
  innermost_scope full_expression nobody : Keeper

-- a loop: its condition, its step, which only a `for` has, and its body
pub record Loop : Type 0 where
  pub condition : Condition
  pub step : Option (Stmt Check)
  pub body : Stmt Check

-- an assertion of a row, as often as it is still owed
pub record Due : Type 0 where
  pub check : Specifier Check
  pub left : ℕ

pub data Task : Type 0 where
  expression : Level → Expr → Task
  used : Level → Operand → Task
  evaluated : Level → Operand → Task
  used_truth : Level → Operand → Task
  evaluated_truth : Level → Operand → Task
  initialise : Level → Init → Address → Task
  arguments : Level → Args → Task
  statement : Level → Stmt Check → Task
  statements : Level → Stmts Check → Task
  block : Level → Stmts Check → Task
  handling : Level → Handlers Check → Exception → Task
  calling : (implicit : ℕ) → (depth : ℕ) → Call → Task
  counted : (depth : ℕ) → Call → Task
  call_of : Level → Callee → (this : Option Address) → Args → (result : Option Value) → Task
  call_into : Level → Callee → Args → (object : ℕ) → Task
  construct_at : Level → (constructor : ℕ) → Address → List Value → Task
  destroying : Level → (class : ℕ) → Address → Task
  destroying_each : Level → Address → List (ℕ × ℕ) → Task
  destroying_fields : Level → (class : ℕ) → Address → Task
  ending : Level → Living → Task
  ending_each : Level → List Living → Task
  -- the slot of a variable is bound before its initialiser is evaluated
  making : Level → Keeper → ObjectType → (slot : Option ℕ) → Init → Task
  declaring : Level → (slot : ℕ) → ObjectType → Init → Task
  testing : Level → Condition → Task
  looping : Level → Loop → Task
  turns : Level → Loop → ℕ → Task
  evaluations : Level → Party → ℕ → List Due → Task
  checks : Level → Party → List (Specifier Check) → Task
  edged_checks : Level → List (Specifier Check) → Task
  handling_violation : Level → Violation → Task
  before : Level → Function → Call → Task
  after : Level → Function → Call → Task
  caller_before : Level → Call → Task
  caller_after : Level → Call → Task
  body : Level → ResultKind → Stmts Check → Task
  field_inits : Level → List FieldInit → Task
  default_fields : Level → List Field → Task
  copying_fields : Level → (source : Address) → List Field → Task
  copying_members : Level → List Field → (source to : Address) → Task
  copying_object : Level → ObjectType → (source to : Address) → Task

pub data Frame : Type 0 where
  operate : Operation → Frame
  right_operand : Level → BinaryOperator → IntegerType → Operand → Frame
  left_place : Level → Expr → Frame
  compound_place : Level → BinaryOperator → (computed stored : IntegerType) → Expr → Frame
  to_truth : Frame
  decide : Level → (decides : Bool) → Operand → Frame
  choose : Level → Operand → Operand → Frame
  truth_as_value : Frame
  place_of_object : Frame
  -- arguments
  reference_argument : Level → Args → Frame
  object_argument : Level → Args → Frame
  first_argument : Value → Frame
  call_through : Level → PointedResult → Args → Frame
  result_through : Level → Args → Address → Frame
  temporary_through : Level → (class : ℕ) → Args → Frame
  call_with : Level → Callee → (result : Option Value) → Frame
  call_into_object : Level → Callee → (object : ℕ) → Frame
  read_result : (object : ℕ) → Frame
  end_result : (object : ℕ) → Frame
  end_object : (object : ℕ) → Frame
  -- what is given is replaced, or another task follows
  discard : Frame
  then_next : Task → Frame
  replace : Given → Frame
  completed : Frame
  returning : Frame
  -- objects
  write_value : Address → Frame
  made : Keeper → (object : ℕ) → ObjectType → Frame
  keeping_field : Address → ObjectType → Frame
  bound : (slot : ℕ) → Frame
  throwing : ObjectType → Frame
  -- how parts are left
  leaving_scope : Level → List Living → Frame
  leaving_full : Level → List Living → Frame
  restore_living : List Living → Left → Frame
  restore_temporaries : List Living → Left → Frame
  constructing : Level → List Living → Frame
  undone_fields : List Living → Exception → Frame
  holding : Level → Exception → List Exception → Frame
  as_left : Left → Frame
  within : ActiveFrame → Frame
  edge_if : Bool → Frame
  -- statements
  branch : Level → Stmt Check → Stmt Check → Frame
  sequence : Level → Stmts Check → Frame
  catching : Level → Handlers Check → Frame
  turn_tested : Level → Loop → ℕ → Frame
  turn_done : Level → Loop → ℕ → Frame
  -- checks and calls
  verdict : Level → Assertion → Semantic → Frame
  terminate : Frame
  value_given : ResultKind → Frame
  postconditions : Level → Function → Call → Frame
  posted : Level → ResultKind → Option Value → Value → Frame
  destroyed : (class : List ℕ) → Address → Frame

-- what a step comes to: something is given, or a task is done under more frames, the innermost first
pub data Next : Type 0 where
  give : Given → Next
  go : Task → List Frame → Next
