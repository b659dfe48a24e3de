-- Calls and the life of their results: [expr.call], [stmt.return], [class.copy.elision] and [dcl.fct.def.general] of the C++ draft and [dcl.contract.res] of P2900R14, with this project's own result object of a scalar, order of evaluation and lifetimes of parameters.
--
-- What is evaluated first is a pointer that is called; then the result object is made, then the parameters are, in order, each object for a unit of the budget; then the call is active. The parameters end when it has ended, and the result object of a scalar ends last.
--
-- | Result | made by | written by | named by | read at | ends at |
-- |---|---|---|---|---|---|
-- | `void_result` | | | | | |
-- | a scalar that is no object: of a function without a postcondition that is called by its name | | `return`: it is what the call gives | | | |
-- | a scalar object: of a function with a postcondition, or of each one that is called through a pointer | `call_with_object`, before the parameters | `returned`, within the full-expression of `return` | the frame's `result` | `call_into`, behind the last postcondition and before the parameters end | `call_with_object`, behind the parameters |
-- | a class object | what the call initialises; its place is handed in | `returned_object`, within the full-expression of `return` | the frame's `result` | | where its scope or full-expression does; `destroy_result`, where a postcondition's handler throws |
-- | a class object: a temporary that a call through a pointer gives | `temporary_of_call`, behind the pointer and before the parameters | the same | the same | | where its full-expression does; `destroy_result`, where a postcondition's handler throws |
-- | a reference | | `return`: what it refers to is what the call gives | `naming_result`, during the postconditions | | |
-- | the status of `main` | | `return`, or 0 at the end of the body | | | |
use Rattle.std.specs.Prelude.{ℕ, List, Option, Some, None, pos}
use Rattle.cx_core.specs.Words.{Null, Mixed, Flow}
use Rattle.cx_core.specs.Tree.{class, PointedResult, void_result, scalar_result, reference_result}
use Rattle.cx_core.specs.Store.{Address, Value, number, address, null, function, violation}
use Rattle.cx_core.specs.Outcome.{Does, Nothing, ◌>>=◌, ◌>>◌, gives, skip, undefined, some, undone_by, current_frame, make, end_lifetime, keep_temporary, place_of, read, write}
use Rattle.cx_core.specs.Program.{Program, ResultKind, void, scalar_object, class_object, reference, exit_status}
use Rattle.cx_core.specs.Leaving.{Calls, within, destroy, scope, full_expression, object}
use Rattle.cx_core.specs.Statements.{Completion, return}

-- what is called: a function by its name, or what the value of a pointer holds
pub data Callee : Type 0 where
  by_name : (function : ℕ) → Callee
  by_pointer : Value → Callee

-- the function that a pointer holds
abbrev pub function_held : Value → Does ℕ
function_held (function f) = gives f
function_held null = undefined Null
function_held (number n) = undefined Mixed
function_held (address a) = undefined Mixed
function_held (violation v) = undefined Mixed

module _ (program : Program) (calls : Calls) where
  -- ---- where the call stands

  -- the Caller takes part where the function is called by its name; a null pointer is found behind the arguments
  abbrev pub call_to : Callee → List Value → Option Value → Does Value
  call_to (by_name f) arguments result = do
    frame ← current_frame
    calls (record { function = f; caller = Some frame.unit; unit = frame.unit; reports = None; arguments = arguments; result = result })
  call_to (by_pointer p) arguments result = do
    f ← function_held p
    frame ← current_frame
    calls (record { function = f; caller = None; unit = frame.unit; reports = None; arguments = arguments; result = result })

  -- the parameters are a scope, which ends when the call has ended
  abbrev pub call_of : Callee → Does (List Value) → Option Value → Does Value
  call_of callee arguments result = scope program calls (do
    values ← arguments
    call_to callee values result)

  -- the value of a result object is read after the last postcondition, before the parameters end
  abbrev pub call_into : Callee → Does (List Value) → ℕ → Does Value
  call_into callee arguments n = scope program calls (do
    values ← arguments
    let place : Address = record { object = n; leaf = 0 }
    call_to callee values (Some (address place))
    read place)

  -- a result object is made before the arguments are evaluated, and ends last
  abbrev pub call_with_object : Callee → Does (List Value) → Does Value
  call_with_object callee arguments = do
    n ← make 1
    v ← undone_by (call_into callee arguments n) (end_lifetime n)
    end_lifetime n
    gives v

  abbrev pub call_giving : ResultKind → ℕ → Does (List Value) → Does Value
  call_giving scalar_object f arguments = call_with_object (by_name f) arguments
  call_giving other f arguments = call_of (by_name f) arguments None

  -- a scalar that a call through a pointer gives is an object always
  abbrev pub call_through_giving : PointedResult → Value → Does (List Value) → Does Value
  call_through_giving scalar_result p arguments = call_with_object (by_pointer p) arguments
  call_through_giving void_result p arguments = call_of (by_pointer p) arguments None
  call_through_giving reference_result p arguments = call_of (by_pointer p) arguments None

  -- the result object of a class is a temporary, which the full-expression keeps once the call has initialised it
  abbrev pub temporary_of_call : (class : ℕ) → Value → Does (List Value) → Does Value
  temporary_of_call c p arguments = do
    n ← object program calls keep_temporary (class c) (λ place. call_of (by_pointer p) arguments (Some (address place)) >> skip)
    gives (address (record { object = n; leaf = 0 }))

  -- ---- where it returns

  -- a scalar result object is initialised by `return`, within its full-expression
  abbrev pub result_stored : Option Value → Value → Does Value
  result_stored None v = gives v
  result_stored (Some place) v = place_of place >>= (λ a. write a (Some v)) >> gives v

  abbrev pub returned : Does Value → Does Value
  returned operand = full_expression program calls (do
    v ← operand
    frame ← current_frame
    result_stored frame.result v)

  abbrev pub returned_object : (Address → Does Nothing) → Does Nothing
  returned_object init = full_expression program calls (do
    frame ← current_frame
    place ← some frame.result
    place_of place >>= init)

  -- ---- what is called

  -- the end of a body that should give a value isn't reached, but for that of `main`
  abbrev pub value_given : ResultKind → Completion → Does Value
  value_given kind (return v) = gives v
  value_given void completion = gives null
  value_given exit_status completion = gives (number (pos 0))
  value_given kind completion = undefined Flow

  abbrev pub body : ResultKind → Does Completion → Does Value
  body kind statements = scope program calls statements >>= value_given kind

  -- a class result that was made is destroyed where a postcondition's handler throws
  abbrev pub destroy_result : ResultKind → Option Value → Does Nothing
  destroy_result (class_object t) place = some place >>= place_of >>= destroy program calls t
  destroy_result kind place = skip

  -- what a result name denotes: the result object, or what a reference result refers to
  abbrev pub naming_result : ResultKind → Value → Does Nothing → Does Nothing
  naming_result reference v m = do
    frame ← current_frame
    within (record frame { result = Some v }) m
  naming_result kind v m = m

  -- a body between the blocks of checks of its call
  abbrev pub checked_body : ResultKind → Option Value → (before : Does Nothing) → (statements : Does Completion) → (behind : Does Nothing) → Does Value
  checked_body kind place before statements behind = do
    before
    v ← body kind statements
    undone_by (naming_result kind v behind) (destroy_result kind place)
    gives v
