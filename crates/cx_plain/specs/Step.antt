-- One step of a machine for the meaning: what a task comes to, and what a frame makes of what is given to it or thrown through it.
use Rattle.std.specs.Prelude.{ℕ, zero, suc, ◌+◌, Bool, true, false, not, if◌then◌else◌, List, [], ◌∷◌, length, map, reverse, Option, Some, None, slice_get}
use Rattle.cx_core.specs.Words.{Party, Definer, Caller, Semantic, Ignore, Observe, Enforce, QuickEnforce, Holds, False, Threw, PredicateFalse, EvaluationException, Mixed, Terminated, TooDeep, ContractTerminated, Violation}
use Rattle.cx_core.specs.Tree as tree
use Rattle.cx_core.specs.Tree.{ObjectType, scalar, pointer, function_pointer, class, PointedResult, void_result, scalar_result, reference_result, Expr, Operand, operand, Init, Args, no_more, by_reference, by_value, Assertion, Check, Specifier, Condition, always, CatchParameter, unnamed, reference, object, Stmt, Stmts, done, Handlers, none, catch_all, catch}
use Rattle.cx_core.specs.Program as parts
use Rattle.cx_core.specs.Program.{Program, Checks, FieldInit, Field, Body, ResultKind, scalar_object, class_object, void, scalar_value, exit_status, Function}
use Rattle.cx_core.specs.Store.{Address, Value, address, null, place_in}
use Rattle.cx_core.specs.Store as store
use Rattle.cx_core.specs.Event.{Evaluation, same_evaluation, Answer, ended, going, not_a_run}
use Rattle.cx_core.specs.Event as event
use Rattle.cx_core.specs.Outcome.{on, Living, whole, field, Exception, Does, ◌>>=◌, ◌>>◌, gives, throws, ends, undefined, some, current_frame, set_frame, current_living, set_living, current_temporaries, set_temporaries, current_held, set_held, append, spend, make, end_lifetime, place_of, read, write}
use Rattle.cx_core.specs.Leaving.{Call, class_at, leaves_of_type, class_fields, is_among}
use Rattle.cx_core.specs.Block.{next_told, begin_told}
use Rattle.cx_core.specs.Check.{truth, violation_of}
use Rattle.cx_core.specs.Operators.{constant, named, bind, truth_value}
use Rattle.cx_core.specs.Library.{getchar_call, puts_call}
use Rattle.cx_core.specs.Statements.{Completion, on_to_next, break, continue, return, same_type, type_name, zero_object, rethrown, this_place, keep_field}
use Rattle.cx_core.specs.Calls.{Callee, by_name, by_pointer, function_held, value_given}
use Rattle.cx_core.specs.Meaning.{held_object, object_place, caller_checks, reported, copy_leaf, numbered, unit_of, is_implicit_at}
use Rattle.cx_plain.specs.Task as task
use Rattle.cx_plain.specs.Task.{Level, Given, value, nothing, values, number, completion, Left, given, thrown, Operation, Keeper, innermost_scope, full_expression, nobody, Loop, Due, Task, Frame, Next, go}
pub use Rattle.cx_plain.specs.Applied.{on_value, on_truth, on_values, on_number, on_completion, answered, valued, silent, giving, doing, left_by, no_calls, applied, first_due, due_in_all, evaluation_of, has_stood, Continued, once_less, behind, continued, if_permitted, keeps, bind_object, this_first, site_of, after_turn_task}

module _ (program : Program) where
  abbrev pub calls : Level → Call → Task
  calls level c = task.calling level.implicit level.counted c

  -- a scope or full-expression is opened, and the frame that leaves it
  abbrev pub in_scope : Level → (Frame → Does Next) → Does Next
  in_scope level next = do
    outer ← current_living
    set_living []
    next (task.leaving_scope level outer)

  abbrev pub in_full_expression : Level → (Frame → Does Next) → Does Next
  in_full_expression level next = do
    outer ← current_temporaries
    set_temporaries []
    next (task.leaving_full level outer)

  abbrev pub in_construction : Level → (Frame → Does Next) → Does Next
  in_construction level next = do
    outer ← current_living
    set_living []
    next (task.constructing level outer)

  -- in the code of a unit, and the frame that goes back
  abbrev pub in_unit : ℕ → (Frame → Does Next) → Does Next
  in_unit unit next = do
    frame ← current_frame
    set_frame (record frame { unit = unit })
    next (task.within frame)

  abbrev pub step_with_object : Level → Callee → Args → Does Next
  step_with_object level callee a = do
    n ← make 1
    doing (task.call_into level callee a n) (task.end_result n ∷ [])

  abbrev pub step_call : Level → ResultKind → ℕ → Args → Does Next
  step_call level scalar_object f a = step_with_object level (by_name f) a
  step_call level other f a = doing (task.call_of level (by_name f) None a None) []

  abbrev pub step_call_through : Level → PointedResult → Value → Args → Does Next
  step_call_through level scalar_result p a = step_with_object level (by_pointer p) a
  step_call_through level void_result p a = doing (task.call_of level (by_pointer p) None a None) []
  step_call_through level reference_result p a = doing (task.call_of level (by_pointer p) None a None) []

  -- the temporary is made behind the pointer, and the call initialises it
  abbrev pub step_temporary_through : Level → (class : ℕ) → Value → Args → Does Next
  step_temporary_through level c p a = do
    leaves ← leaves_of_type program no_calls (class c)
    n ← make leaves
    doing (task.call_of level (by_pointer p) None a (Some (object_place n))) (task.discard ∷ task.made full_expression n (class c) ∷ task.place_of_object ∷ [])

  -- the arguments are there
  abbrev pub step_call_to : Level → Callee → List Value → Option Value → List Frame → Does Next
  step_call_to level (by_name f) arguments result frames = do
    frame ← current_frame
    doing (calls level (record { function = f; caller = Some frame.unit; unit = frame.unit; reports = None; arguments = arguments; result = result })) frames
  step_call_to level (by_pointer p) arguments result frames = do
    f ← function_held p
    frame ← current_frame
    doing (calls level (record { function = f; caller = None; unit = frame.unit; reports = None; arguments = arguments; result = result })) frames

  abbrev pub step_expression : Level → Expr → Does Next
  step_expression level (tree.literal c) = valued (spend >> gives (constant c))
  step_expression level (tree.variable slot) = valued (spend >> named slot)
  step_expression level (tree.global i) = valued (spend >> gives (object_place (i + 1)))
  step_expression level tree.this = valued (spend >> named 0)
  step_expression level (tree.function_name f) = valued (spend >> gives (store.function f))
  step_expression level tree.result_name = valued (spend >> current_frame >>= (λ frame. some frame.result))
  step_expression level tree.exception_object = valued (current_held >>= held_object)
  step_expression level (tree.unary operator type a) = doing (task.used level a) (task.operate (task.unary operator type) ∷ [])
  step_expression level (tree.binary operator type a b) = doing (task.used level a) (task.right_operand level operator type b ∷ [])
  step_expression level (tree.logical_and a b) = doing (task.used_truth level a) (task.decide level false b ∷ [])
  step_expression level (tree.logical_or a b) = doing (task.used_truth level a) (task.decide level true b ∷ [])
  step_expression level (tree.conditional a b c) = doing (task.used_truth level a) (task.choose level b c ∷ [])
  step_expression level (tree.cast a) = doing (task.used level a) (task.operate task.cast ∷ [])
  step_expression level (tree.assign a b) = doing (task.used level b) (task.left_place level a ∷ [])
  step_expression level (tree.compound_assign operator computed kept a b) =
      doing (task.used level b) (task.compound_place level operator computed kept a ∷ [])
  step_expression level (tree.prefix_step operator type a) = doing (task.expression level a) (task.operate (task.prefix_step operator type) ∷ [])
  step_expression level (tree.postfix_step operator type a) = doing (task.expression level a) (task.operate (task.postfix_step operator type) ∷ [])
  step_expression level (tree.indirection a) = doing (task.used level a) (task.operate task.indirection ∷ [])
  step_expression level (tree.member leaf a) = doing (task.expression level a) (task.operate (task.member leaf) ∷ [])
  step_expression level (tree.call f a) = some (slice_get program.functions f) >>= (λ definition. step_call level definition.result f a)
  step_expression level (tree.call_through kind p a) = doing (task.used level p) (task.call_through level kind a ∷ [])
  step_expression level (tree.temporary type i) = doing (task.making level full_expression type None i) (task.place_of_object ∷ [])
  step_expression level (tree.temporary_through c p a) = doing (task.used level p) (task.temporary_through level c a ∷ [])
  step_expression level (tree.putchar a) = doing (task.used level a) (task.operate task.putchar ∷ [])
  step_expression level tree.getchar = valued getchar_call
  step_expression level (tree.puts text) = valued (puts_call text)
  step_expression level (tree.puts_comment a) = doing (task.expression level a) (task.operate task.puts_comment ∷ [])
  step_expression level (tree.query q a) = doing (task.expression level a) (task.operate (task.query q) ∷ [])

  abbrev pub step_used : Level → Operand → Does Next
  step_used level (operand read to e) = doing (task.expression level e) (task.operate (task.read read) ∷ task.operate (task.convert to) ∷ [])

  abbrev pub step_initialise : Level → Init → Address → Does Next
  step_initialise level (tree.value a) p = doing (task.used level a) (task.write_value p ∷ [])
  step_initialise level (tree.construct f a) p = doing (task.call_of level (by_name f) (Some p) a None) (task.discard ∷ [])
  step_initialise level (tree.zero_first c i) p = zero_object program no_calls c p >> doing (task.initialise level i p) []
  step_initialise level (tree.result_of f a) p = doing (task.call_of level (by_name f) None a (Some (address p))) (task.discard ∷ [])
  step_initialise level (tree.result_through q a) p = doing (task.used level q) (task.result_through level a p ∷ [])

  abbrev pub step_arguments : Level → Args → Does Next
  step_arguments level no_more = giving (values [])
  step_arguments level (by_reference e rest) = doing (task.expression level e) (task.reference_argument level rest ∷ [])
  step_arguments level (by_value type i rest) = doing (task.making level innermost_scope type None i) (task.object_argument level rest ∷ [])

  -- ---- statements

  -- a handler takes an exception: what its parameter needs is done, then its block
  abbrev pub step_parameter : Level → CatchParameter → Exception → Stmts Check → List Frame → Does Next
  step_parameter level unnamed e b frames = doing (task.statements level b) frames
  step_parameter level (reference slot) e b frames = bind slot (object_place e.object) >> doing (task.statements level b) frames
  step_parameter level (object slot is_named i) e b frames =
      doing (task.declaring level slot e.type i) (task.edge_if true ∷ task.then_next (task.statements level b) ∷ frames)

  abbrev pub step_handled : Level → Exception → CatchParameter → Stmts Check → Does Next
  step_handled level e parameter b = do
    append (event.catch (type_name program e.type))
    held ← current_held
    set_held (e ∷ held)
    in_scope level (λ scope. step_parameter level parameter e b (scope ∷ task.holding level e held ∷ []))

  abbrev pub step_handling : Level → Handlers Check → Exception → Does Next
  step_handling level none e = throws e
  step_handling level (catch_all b rest) e = spend >> step_handled level e unnamed b
  step_handling level (catch type parameter b rest) e =
      spend >> (if same_type e.type type then step_handled level e parameter b else doing (task.handling level rest e) [])

  abbrev pub step_statement : Level → Stmt Check → Does Next
  step_statement level tree.empty = giving (completion on_to_next)
  step_statement level (tree.expression a) = doing (task.evaluated level a) (task.completed ∷ [])
  step_statement level (tree.variable_declaration slot type i) = doing (task.declaring level slot type i) (task.completed ∷ [])
  step_statement level (tree.reference_declaration slot e) =
      bind slot null >> in_full_expression level (λ full. doing (task.expression level e) (full ∷ task.bound slot ∷ task.completed ∷ []))
  step_statement level (tree.block b) = doing (task.block level b) []
  step_statement level (tree.if_else c a b) = doing (task.evaluated_truth level c) (task.branch level a b ∷ [])
  step_statement level (tree.while_loop c body) = doing (task.looping level (record { condition = tree.while c; step = None; body = body })) []
  step_statement level (tree.for_loop first c after body) = in_scope level (λ scope.
      doing (task.statement level first) (task.then_next (task.looping level (record { condition = c; step = Some after; body = body })) ∷ scope ∷ []))
  step_statement level tree.break = giving (completion break)
  step_statement level tree.continue = giving (completion continue)
  step_statement level tree.return = giving (completion (return null))
  step_statement level (tree.return_value a) =
      in_full_expression level (λ full. doing (task.used level a) (task.operate task.store_result ∷ full ∷ task.returning ∷ []))
  step_statement level (tree.return_reference e) = in_full_expression level (λ full. doing (task.expression level e) (full ∷ task.returning ∷ []))
  step_statement level (tree.return_object i) = in_full_expression level (λ full. do
    frame ← current_frame
    place ← some frame.result
    a ← place_of place
    doing (task.initialise level i a) (full ∷ task.replace (completion (return null)) ∷ []))
  step_statement level (tree.contract_assert c predicate) = doing (task.checks level Definer (record { of = c; predicate = predicate } ∷ [])) (task.completed ∷ [])
  step_statement level (tree.throw type i) = in_full_expression level (λ full. doing (task.making level nobody type None i) (task.throwing type ∷ full ∷ []))
  step_statement level tree.rethrow = answered completion (rethrown program no_calls)
  step_statement level (tree.try b h) = doing (task.block level b) (task.catching level h ∷ [])

  abbrev pub step_statements : Level → Stmts Check → Does Next
  step_statements level done = giving (completion on_to_next)
  step_statements level (tree.next a rest) = doing (task.statement level a) (task.sequence level rest ∷ [])

  abbrev pub step_testing : Level → Condition → Does Next
  step_testing level always = giving (task.truth true)
  step_testing level (tree.while a) = doing (task.evaluated_truth level a) []

  abbrev pub step_turns : Level → Loop → ℕ → Does Next
  step_turns level loop zero = ends going
  step_turns level loop (suc n) = spend >> doing (task.testing level loop.condition) (task.turn_tested level loop n ∷ [])

  abbrev pub step_turn_done : Level → Loop → ℕ → Completion → Does Next
  step_turn_done level loop n on_to_next = gives (after_turn_task level loop n loop.step)
  step_turn_done level loop n continue = gives (after_turn_task level loop n loop.step)
  step_turn_done level loop n break = giving (completion on_to_next)
  step_turn_done level loop n (return v) = giving (completion (return v))

  abbrev pub step_sequence : Level → Stmts Check → Completion → Does Next
  step_sequence level rest on_to_next = doing (task.statements level rest) []
  step_sequence level rest other = giving (completion other)

  -- ---- checks

  abbrev pub step_evaluations : Level → Party → ℕ → List Due → Does Next
  step_evaluations level party zero due = giving nothing
  step_evaluations level party (suc n) due = do
    e ← next_told
    if_permitted (continued party e due) (λ c more. do
      spend
      begin_told
      doing (task.evaluated_truth level c.predicate) (task.verdict level c.of.assertion c.of.semantic ∷ task.then_next (task.evaluations level party n more) ∷ []))

  abbrev pub step_handling_violation : Level → Option ℕ → Violation → Does Next
  step_handling_violation level None v = silent (spend >> append (event.handler v))
  step_handling_violation level (Some f) v = do
    frame ← current_frame
    doing (calls level (record { function = f; caller = None; unit = frame.unit; reports = Some v; arguments = store.violation v ∷ []; result = None })) (task.discard ∷ [])

  abbrev pub step_violated : Level → Semantic → Violation → Does Next
  step_violated level Ignore v = giving nothing
  step_violated level Observe v = doing (task.handling_violation level v) []
  step_violated level Enforce v = doing (task.handling_violation level v) (task.terminate ∷ [])
  step_violated level QuickEnforce v = ends (ended ContractTerminated)

  abbrev pub step_verdict : Level → Assertion → Semantic → Bool → Does Next
  step_verdict level a semantic true = silent (append (event.verdict Holds))
  step_verdict level a semantic false = append (event.verdict False) >> step_violated level semantic (violation_of a PredicateFalse semantic)

  abbrev pub in_handler : Level → Exception → (Frame → Does Next) → Does Next
  in_handler level e next = do
    held ← current_held
    set_held (e ∷ held)
    next (task.holding level e held)

  abbrev pub step_threw : Level → Semantic → Exception → Violation → Does Next
  step_threw level Ignore e v = giving nothing
  step_threw level Observe e v = in_handler level e (λ holding. doing (task.handling_violation level v) (holding ∷ []))
  step_threw level Enforce e v = in_handler level e (λ holding. doing (task.handling_violation level v) (holding ∷ task.terminate ∷ []))
  step_threw level QuickEnforce e v = ends (ended ContractTerminated)

  -- the Caller's row, if there is a Caller
  abbrev pub step_caller : Level → (Checks → List (Specifier Check)) → Option ℕ → (function : ℕ) → Does Next
  step_caller level of None f = giving nothing
  step_caller level of (Some unit) f = in_unit unit (λ within. doing (task.checks level Caller (of (caller_checks program no_calls unit f))) (within ∷ []))

  -- ---- objects

  abbrev pub step_ending : Level → Living → Does Next
  step_ending level (whole n (class c)) = doing (task.destroying level c (record { object = n; leaf = 0 })) (task.end_object n ∷ [])
  step_ending level (whole n type) = silent (end_lifetime n)
  step_ending level (field a c) = doing (task.destroying level c a) []

  abbrev pub step_ending_each : Level → List Living → Does Next
  step_ending_each level [] = giving nothing
  step_ending_each level (l ∷ living) = doing (task.ending level l) (task.then_next (task.ending_each level living) ∷ [])

  abbrev pub step_destroying_each : Level → Address → List (ℕ × ℕ) → Does Next
  step_destroying_each level a [] = giving nothing
  step_destroying_each level a (f ∷ fields) =
      doing (task.destroying level f.1 (place_in a f.0)) (task.then_next (task.destroying_each level a fields) ∷ [])

  abbrev pub step_field_inits : Level → List FieldInit → Does Next
  step_field_inits level [] = giving nothing
  step_field_inits level (f ∷ fields) = do
    this ← this_place program no_calls
    in_full_expression level (λ full.
        doing (task.initialise level f.init (place_in this f.leaf)) (full ∷ task.keeping_field (place_in this f.leaf) f.type ∷ task.then_next (task.field_inits level fields) ∷ []))

  abbrev pub step_default_field : Level → ℕ → ObjectType → List Field → Does Next
  step_default_field level leaf (class t) fields = do
    definition ← class_at program no_calls t
    default ← some definition.default_constructor
    this ← this_place program no_calls
    in_full_expression level (λ full.
        doing (task.construct_at level default (place_in this leaf) []) (full ∷ task.keeping_field (place_in this leaf) (class t) ∷ task.then_next (task.default_fields level fields) ∷ []))
  step_default_field level leaf other fields = doing (task.default_fields level fields) []

  abbrev pub step_default_fields : Level → List Field → Does Next
  step_default_fields level [] = giving nothing
  step_default_fields level (f ∷ fields) = step_default_field level f.leaf f.type fields

  abbrev pub step_copying_fields : Level → Address → List Field → Does Next
  step_copying_fields level source [] = giving nothing
  step_copying_fields level source (f ∷ fields) = do
    this ← this_place program no_calls
    in_full_expression level (λ full.
        doing (task.copying_object level f.type (place_in source f.leaf) (place_in this f.leaf)) (full ∷ task.keeping_field (place_in this f.leaf) f.type ∷ task.then_next (task.copying_fields level source fields) ∷ []))

  abbrev pub step_copying_object : Level → ObjectType → Address → Address → Does Next
  step_copying_object level (class t) source to = do
    definition ← class_at program no_calls t
    doing (task.construct_at level definition.copy_constructor to (address source ∷ [])) []
  step_copying_object level other source to = silent (copy_leaf program no_calls source to)

  abbrev pub step_copying_members : Level → List Field → Address → Address → Does Next
  step_copying_members level [] source to = silent (copy_leaf program no_calls source to)
  step_copying_members level (f ∷ fields) source to = doing (task.copying_fields level source (f ∷ fields)) []

  -- ---- calls

  abbrev pub step_destructor : Level → Function → ℕ → Stmts Check → List Frame → Does Next
  step_destructor level f t b frames = do
    object_of ← this_place program no_calls
    definition ← class_at program no_calls t
    doing (task.checks level Definer f.checks.preconditions) (
        task.then_next (task.block level b)
        ∷ task.edge_if true
        ∷ task.then_next (task.destroying_fields level t object_of)
        ∷ task.then_next (task.edged_checks level f.checks.postconditions)
        ∷ task.destroyed definition.name object_of
        ∷ frames)

  abbrev pub step_acting : Level → Body Check → Function → Call → List Frame → Does Next
  step_acting level (parts.function b) f c frames = doing (task.before level f (site_of c)) (
      task.then_next (task.body level f.result b)
      ∷ task.postconditions level f (record c { arguments = [] })
      ∷ task.edge_if f.noexcept
      ∷ frames)
  step_acting level (parts.constructor fields b) f c frames = in_construction level (λ constructing.
      doing (task.before level f (site_of c)) (
      task.then_next (task.field_inits level fields)
      ∷ task.then_next (task.block level b)
      ∷ task.then_next (task.after level f (site_of c))
      ∷ task.replace (value null)
      ∷ constructing
      ∷ task.edge_if f.noexcept
      ∷ frames))
  step_acting level (parts.destructor t b) f c frames = step_destructor level f t b frames
  step_acting level (parts.implicit_constructor t) f c frames = in_construction level (λ constructing. do
    definition ← class_at program no_calls t
    doing (task.default_fields level definition.fields) (task.replace (value null) ∷ constructing ∷ frames))
  step_acting level (parts.implicit_copy_constructor t) f c frames = in_construction level (λ constructing. do
    definition ← class_at program no_calls t
    to ← this_place program no_calls
    source ← named 1 >>= place_of
    doing (task.copying_members level definition.fields source to) (task.replace (value null) ∷ constructing ∷ frames))
  step_acting level (parts.implicit_destructor t) f c frames = step_destructor level f t done frames

  -- a call that becomes active
  abbrev pub step_active : Level → Call → Does Next
  step_active level c = do
    spend
    f ← some (slice_get program.functions c.function)
    reported program no_calls c.reports
    frame ← current_frame
    set_frame (record { unit = unit_of program no_calls f c; variables = numbered program no_calls 0 c.arguments; result = c.result })
    step_acting level f.body f c (task.within frame ∷ [])

  abbrev pub step_calling : ℕ → ℕ → Call → Does Next
  step_calling zero depth c = undefined Mixed
  step_calling (suc n) depth c =
      if is_implicit_at program c.function then step_active (record { counted = depth; implicit = n }) c else doing (task.counted depth c) []

  abbrev pub step_counted : ℕ → Call → Does Next
  step_counted zero c = ends (ended TooDeep)
  step_counted (suc n) c = step_active (record { counted = n; implicit = length program.classes + 1 }) c

  -- ---- tasks

  abbrev pub step_task : Task → Does Next
  step_task (task.expression level e) = step_expression level e
  step_task (task.used level a) = step_used level a
  step_task (task.evaluated level a) = in_full_expression level (λ full. doing (task.used level a) (full ∷ []))
  step_task (task.used_truth level a) = doing (task.used level a) (task.to_truth ∷ [])
  step_task (task.evaluated_truth level a) = doing (task.evaluated level a) (task.to_truth ∷ [])
  step_task (task.initialise level i p) = step_initialise level i p
  step_task (task.arguments level a) = step_arguments level a
  step_task (task.statement level s) = step_statement level s
  step_task (task.statements level b) = step_statements level b
  step_task (task.block level b) = in_scope level (λ scope. doing (task.statements level b) (scope ∷ []))
  step_task (task.handling level h e) = step_handling level h e
  step_task (task.calling implicit depth c) = step_calling implicit depth c
  step_task (task.counted depth c) = step_counted depth c
  step_task (task.call_of level callee this a result) =
      in_scope level (λ scope. doing (task.arguments level a) (this_first this (task.call_with level callee result ∷ scope ∷ [])))
  step_task (task.call_into level callee a n) = in_scope level (λ scope. doing (task.arguments level a) (task.call_into_object level callee n ∷ scope ∷ []))
  step_task (task.construct_at level f a arguments) = do
    frame ← current_frame
    doing (calls level (record { function = f; caller = Some frame.unit; unit = frame.unit; reports = None; arguments = address a ∷ arguments; result = None })) (task.discard ∷ [])
  step_task (task.destroying level c a) = do
    definition ← class_at program no_calls c
    frame ← current_frame
    doing (calls level (record { function = definition.destructor; caller = None; unit = frame.unit; reports = None; arguments = address a ∷ []; result = None })) (task.discard ∷ [])
  step_task (task.destroying_each level a fields) = step_destroying_each level a fields
  step_task (task.destroying_fields level c a) = do
    definition ← class_at program no_calls c
    doing (task.destroying_each level a (reverse (class_fields definition.fields))) []
  step_task (task.ending level l) = step_ending level l
  step_task (task.ending_each level living) = step_ending_each level living
  step_task (task.making level keeper type slot i) = do
    leaves ← leaves_of_type program no_calls type
    n ← make leaves
    bind_object slot (record { object = n; leaf = 0 })
    doing (task.initialise level i (record { object = n; leaf = 0 })) (task.made keeper n type ∷ [])
  step_task (task.declaring level slot type i) =
      in_full_expression level (λ full. doing (task.making level innermost_scope type (Some slot) i) (task.discard ∷ full ∷ []))
  step_task (task.testing level c) = step_testing level c
  step_task (task.looping level loop) = λ s. on (go (task.turns level loop s.budget) []) s
  step_task (task.turns level loop n) = step_turns level loop n
  step_task (task.evaluations level party n due) = step_evaluations level party n due
  step_task (task.checks level party checks) = doing (task.evaluations level party (due_in_all checks) (map first_due checks)) []
  step_task (task.edged_checks level checks) = doing (task.checks level Definer checks) (task.edge_if true ∷ [])
  step_task (task.handling_violation level v) = step_handling_violation level program.handler v
  step_task (task.before level f c) = doing (task.caller_before level c) (task.then_next (task.checks level Definer f.checks.preconditions) ∷ [])
  step_task (task.after level f c) = doing (task.checks level Definer f.checks.postconditions) (task.then_next (task.caller_after level c) ∷ [])
  step_task (task.caller_before level c) = step_caller level (λ checks. checks.preconditions) c.caller c.function
  step_task (task.caller_after level c) = step_caller level (λ checks. checks.postconditions) c.caller c.function
  step_task (task.body level kind b) = in_scope level (λ scope. doing (task.statements level b) (scope ∷ task.value_given kind ∷ []))
  step_task (task.field_inits level fields) = step_field_inits level fields
  step_task (task.default_fields level fields) = step_default_fields level fields
  step_task (task.copying_fields level source fields) = step_copying_fields level source fields
  step_task (task.copying_members level fields source to) = step_copying_members level fields source to
  step_task (task.copying_object level type source to) = step_copying_object level type source to

  -- ---- frames

  abbrev pub step_postconditions : Level → ResultKind → Function → Call → Value → Does Next
  step_postconditions level parts.reference f c v = do
    frame ← current_frame
    set_frame (record frame { result = Some v })
    doing (task.after level f (site_of c)) (task.within frame ∷ task.posted level f.result c.result v ∷ [])
  step_postconditions level other f c v = doing (task.after level f (site_of c)) (task.posted level f.result c.result v ∷ [])

  abbrev pub step_holding : Level → Exception → List Exception → Left → Does Next
  step_holding level e others left =
      if is_among program no_calls e others then left_by left else doing (task.ending level (whole e.object e.type)) (task.as_left left ∷ [])

  abbrev pub step_given : Frame → Given → Does Next
  step_given (task.operate operation) g = on_value g (λ v. valued (applied program operation v))
  step_given (task.right_operand level operator type b) g =
      on_value g (λ x. doing (task.used level b) (task.operate (task.binary operator type x) ∷ []))
  step_given (task.left_place level a) g = on_value g (λ v. doing (task.expression level a) (task.operate (task.assign v) ∷ []))
  step_given (task.compound_place level operator computed kept a) g =
      on_value g (λ v. doing (task.expression level a) (task.operate (task.compound_assign operator computed kept v) ∷ []))
  step_given task.to_truth g = on_value g (λ v. answered task.truth (truth v))
  step_given (task.decide level decides b) g = on_truth g (λ x. spend >>
      (if (if decides then x else not x) then giving (value (truth_value decides)) else doing (task.used_truth level b) (task.truth_as_value ∷ [])))
  step_given (task.choose level b c) g = on_truth g (λ x. spend >> (if x then doing (task.used level b) [] else doing (task.used level c) []))
  step_given task.truth_as_value g = on_truth g (λ y. giving (value (truth_value y)))
  step_given task.place_of_object g = on_number g (λ n. giving (value (object_place n)))
  step_given (task.reference_argument level rest) g = on_value g (λ v. doing (task.arguments level rest) (task.first_argument v ∷ []))
  step_given (task.object_argument level rest) g = on_number g (λ n. doing (task.arguments level rest) (task.first_argument (object_place n) ∷ []))
  step_given (task.first_argument v) g = on_values g (λ vs. giving (values (v ∷ vs)))
  step_given (task.call_through level kind a) g = on_value g (λ p. step_call_through level kind p a)
  step_given (task.result_through level a place) g =
      on_value g (λ p. doing (task.call_of level (by_pointer p) None a (Some (address place))) (task.discard ∷ []))
  step_given (task.temporary_through level c a) g = on_value g (λ p. step_temporary_through level c p a)
  step_given (task.call_with level callee result) g = on_values g (λ vs. step_call_to level callee vs result [])
  step_given (task.call_into_object level callee n) g = on_values g (λ vs. step_call_to level callee vs (Some (object_place n)) (task.read_result n ∷ []))
  step_given (task.read_result n) g = valued (read (record { object = n; leaf = 0 }))
  step_given (task.end_result n) g = on_value g (λ v. valued (end_lifetime n >> gives v))
  step_given (task.end_object n) g = silent (end_lifetime n)
  step_given task.discard g = giving nothing
  step_given (task.then_next t) g = doing t []
  step_given (task.replace other) g = giving other
  step_given task.completed g = giving (completion on_to_next)
  step_given task.returning g = on_value g (λ v. giving (completion (return v)))
  step_given (task.write_value p) g = on_value g (λ v. silent (write p (Some v)))
  step_given (task.made keeper n type) g = answered number (keeps keeper (whole n type) >> gives n)
  step_given (task.keeping_field a type) g = silent (keep_field program no_calls a type)
  step_given (task.bound slot) g = on_value g (λ place. silent (bind slot place))
  step_given (task.throwing type) g = on_number g (λ n. do
    spend
    append (event.throw (type_name program type))
    throws (record { object = n; type = type }))
  step_given (task.leaving_scope level outer) g = do
    living ← current_living
    doing (task.ending_each level living) (task.restore_living outer (given g) ∷ [])
  step_given (task.leaving_full level outer) g = do
    temporaries ← current_temporaries
    doing (task.ending_each level temporaries) (task.restore_temporaries outer (given g) ∷ [])
  step_given (task.restore_living outer left) g = set_living outer >> left_by left
  step_given (task.restore_temporaries outer left) g = set_temporaries outer >> left_by left
  step_given (task.constructing level outer) g = set_living outer >> giving g
  step_given (task.undone_fields outer e) g = set_living outer >> throws e
  step_given (task.holding level e held) g = set_held held >> step_holding level e held (given g)
  step_given (task.as_left left) g = left_by left
  step_given (task.within frame) g = set_frame frame >> giving g
  step_given (task.edge_if noexcept) g = giving g
  step_given (task.branch level a b) g = on_truth g (λ x. if x then doing (task.statement level a) [] else doing (task.statement level b) [])
  step_given (task.sequence level rest) g = on_completion g (step_sequence level rest)
  step_given (task.catching level h) g = giving g
  step_given (task.turn_tested level loop n) g = on_truth g (λ b.
      if b then doing (task.statement level loop.body) (task.turn_done level loop n ∷ []) else giving (completion on_to_next))
  step_given (task.turn_done level loop n) g = on_completion g (step_turn_done level loop n)
  step_given (task.verdict level a semantic) g = on_truth g (step_verdict level a semantic)
  step_given task.terminate g = ends (ended ContractTerminated)
  step_given (task.value_given kind) g = on_completion g (λ c. valued (value_given program no_calls kind c))
  step_given (task.postconditions level f c) g = on_value g (step_postconditions level f.result f c)
  step_given (task.posted level kind place v) g = giving (value v)
  step_given (task.destroyed name a) g = valued (append (event.destroyed name a.object a.leaf) >> gives null)

  abbrev pub step_posted : Level → ResultKind → Option Value → Exception → Does Next
  step_posted level (class_object t) place e = do
    a ← some place >>= place_of
    doing (task.destroying level t a) (task.as_left (thrown e) ∷ [])
  step_posted level other place e = throws e

  abbrev pub step_thrown : Frame → Exception → Does Next
  step_thrown (task.end_result n) e = end_lifetime n >> throws e
  step_thrown (task.made keeper n type) e = end_lifetime n >> throws e
  step_thrown (task.leaving_scope level outer) e = do
    living ← current_living
    doing (task.ending_each level living) (task.restore_living outer (thrown e) ∷ [])
  step_thrown (task.leaving_full level outer) e = do
    temporaries ← current_temporaries
    doing (task.ending_each level temporaries) (task.restore_temporaries outer (thrown e) ∷ [])
  step_thrown (task.constructing level outer) e = do
    living ← current_living
    doing (task.ending_each level living) (task.undone_fields outer e ∷ [])
  step_thrown (task.undone_fields outer x) e = set_living outer >> throws e
  step_thrown (task.holding level x held) e = set_held held >> step_holding level x (e ∷ held) (thrown e)
  step_thrown (task.within frame) e = set_frame frame >> throws e
  step_thrown (task.edge_if noexcept) e = if noexcept then ends (ended Terminated) else throws e
  step_thrown (task.catching level h) e = doing (task.handling level h e) []
  step_thrown (task.verdict level a semantic) e = append (event.verdict Threw) >> step_threw level semantic e (violation_of a EvaluationException semantic)
  step_thrown (task.posted level kind place v) e = step_posted level kind place e
  step_thrown frame e = throws e
