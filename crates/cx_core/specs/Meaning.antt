-- What a program means: a recursion over its trees, one clause for each production, after [expr], [stmt], [class.ctor], [class.dtor] and [except] of the C++ draft and [basic.contract.eval] of P2900R14; the order of evaluation, the budget, the depth of calls and the globals' numbers are this project's own.
use Rattle.std.specs.Prelude.{ℕ, zero, suc, ◌+◌, Bool, true, false, if◌then◌else◌, List, [], ◌∷◌, length, map, reverse, Option, Some, None, slice_get}
use Rattle.cx_core.specs.Words.{Party, Definer, Caller, Mixed, Returned, Terminated, TooDeep, Undefined, Violation}
use Rattle.cx_core.specs.Tree.{ObjectType, class, Constant, Expr, literal, variable, global, this, function_name, result_name, exception_object, unary, binary, logical_and, logical_or, conditional, cast, assign, compound_assign, prefix_step, postfix_step, indirection, member, call, call_through, temporary, temporary_through, putchar, getchar, puts, puts_comment, query, Operand, operand, Init, value, construct, zero_first, result_of, result_through, Args, no_more, by_reference, by_value, Check, Specifier, CatchParameter, unnamed, Condition, always, while, Stmt, empty, expression, variable_declaration, reference_declaration, block, if_else, while_loop, for_loop, contract_assert, try, return_value, return_reference, return_object, rethrow, Stmts, done, next, Handlers, none, catch_all}
use Rattle.cx_core.specs.Tree as tree
use Rattle.cx_core.specs.Program.{Checks, FieldInit, Body, function, constructor, destructor, implicit_constructor, implicit_copy_constructor, implicit_destructor, is_counted, ResultKind, Function, Field, Program}
use Rattle.cx_core.specs.Store as store
use Rattle.cx_core.specs.Store.{Address, Value, number, address, null, Object, place_in}
use Rattle.cx_core.specs.Event.{Evaluation, Event, handler, destroyed, Answer, ended}
use Rattle.cx_core.specs.Outcome.{Exception, State, Outcome, on, thrown, over, Does, Nothing, nothing, either, ◌>>=◌, ◌>>◌, gives, throws, skip, ends, undefined, some, edge, current_frame, current_store, current_living, current_temporaries, current_held, set_frame, set_living, set_temporaries, set_held, append, spend, add, remove, keep, keep_temporary, place_of, read_leaf, write}
use Rattle.cx_core.specs.Leaving.{Call, Calls, edge_if, within, in_unit, class_at, construct_at, destroy_fields, scope, full_expression, constructing, object}
use Rattle.cx_core.specs.Block.{Owed, row, evaluations, next_told, begin_told}
use Rattle.cx_core.specs.Check.{truth, evaluation}
use Rattle.cx_core.specs.Operators.{constant, named, bind, converted, unary_operation, binary_operation, logical_operation, conditional_operation, cast_operation, assignment, compound_assignment, prefix_operation, postfix_operation, indirection_of, member_of}
use Rattle.cx_core.specs.Library.{putchar_call, getchar_call, next_byte, puts_call, puts_comment_call, query_call}
use Rattle.cx_core.specs.Statements.{Completion, on_to_next, break, continue, return, completed, sequence, turns, loop, same_type, zero_object, throw_of, rethrown, handled, variable_of, reference_of, this_place, field_of}
use Rattle.cx_core.specs.Calls.{by_name, by_pointer, call_of, call_giving, call_through_giving, temporary_of_call, returned, returned_object, checked_body}

-- the exception object that the innermost handler holds
abbrev pub held_object : List Exception → Does Value
held_object [] = undefined Mixed
held_object (e ∷ held) = gives (address (record { object = e.object; leaf = 0 }))

abbrev pub object_place : ℕ → Value
object_place n = address (record { object = n; leaf = 0 })

module _ (program : Program) (calls : Calls) where
  abbrev pub result_kind : ℕ → Does ResultKind
  result_kind f = some (slice_get program.functions f) >>= (λ definition. gives definition.result)

  unfoldable mutual
    pub expr : Expr → Does Value
    expr (literal c) = spend >> gives (constant c)
    expr (variable slot) = spend >> named slot
    expr (global i) = spend >> gives (object_place (i + 1))
    expr this = spend >> named 0
    expr (function_name f) = spend >> gives (store.function f)
    expr result_name = spend >> current_frame >>= (λ frame. some frame.result)
    expr exception_object = current_held >>= held_object
    expr (unary operator type a) = unary_operation operator type (used a)
    expr (binary operator type a b) = binary_operation operator type (used a) (used b)
    expr (logical_and a b) = logical_operation false (used a) (used b)
    expr (logical_or a b) = logical_operation true (used a) (used b)
    expr (conditional a b c) = conditional_operation (used a) (used b) (used c)
    expr (cast a) = cast_operation (used a)
    expr (assign a b) = assignment (expr a) (used b)
    expr (compound_assign operator computed kept a b) = compound_assignment operator computed kept (expr a) (used b)
    expr (prefix_step operator type a) = prefix_operation operator type (expr a)
    expr (postfix_step operator type a) = postfix_operation operator type (expr a)
    expr (indirection a) = indirection_of (used a)
    expr (member leaf a) = member_of leaf (expr a)
    expr (call f a) = result_kind f >>= (λ kind. call_giving program calls kind f (args a))
    expr (call_through kind p a) = used p >>= (λ v. call_through_giving program calls kind v (args a))
    expr (temporary type i) = object program calls keep_temporary type (init i) >>= (λ n. gives (object_place n))
    expr (temporary_through c p a) = used p >>= (λ v. temporary_of_call program calls c v (args a))
    expr (putchar a) = putchar_call (used a)
    expr getchar = getchar_call
    expr (puts text) = puts_call text
    expr (puts_comment a) = puts_comment_call (expr a)
    expr (query q a) = query_call q (expr a)

    pub used : Operand → Does Value
    used (operand read to e) = converted read to (expr e)

    pub init : Init → Address → Does Nothing
    init (value a) p = used a >>= (λ v. write p (Some v))
    init (construct f a) p = call_of program calls (by_name f) (args a >>= (λ vs. gives (address p ∷ vs))) None >> skip
    init (zero_first c i) p = zero_object program calls c p >> init i p
    init (result_of f a) p = call_of program calls (by_name f) (args a) (Some (address p)) >> skip
    init (result_through q a) p = used q >>= (λ v. call_of program calls (by_pointer v) (args a) (Some (address p)) >> skip)

    pub args : Args → Does (List Value)
    args no_more = gives []
    args (by_reference a rest) = expr a >>= (λ v. args rest >>= (λ vs. gives (v ∷ vs)))
    args (by_value type i rest) = object program calls keep type (init i) >>= (λ n. args rest >>= (λ vs. gives (object_place n ∷ vs)))

  abbrev pub evaluated : Operand → Does Value
  evaluated a = full_expression program calls (used a)

  abbrev pub condition : Condition → Does Bool
  condition always = gives true
  condition (while a) = evaluated a >>= truth

  -- ---- checks

  abbrev pub owed : Party → Specifier Check → Owed
  owed party s = record {
    evaluation = record { assertion = s.of.assertion.name; party = party; semantic = s.of.semantic };
    times = s.of.times;
    left = s.of.times;
    check = evaluation program calls s.of (evaluated s.predicate);
  }

  abbrev pub checked : Party → List (Specifier Check) → Does Nothing
  checked party checks = row (map (owed party) checks)

  -- ---- statements

  abbrev pub catch_parameter : CatchParameter → Exception → Does Nothing
  catch_parameter unnamed e = skip
  catch_parameter (tree.reference slot) e = bind slot (object_place e.object)
  catch_parameter (tree.object slot is_named i) e = variable_of program calls slot e.type (init i)

  unfoldable mutual
    pub stmt : Stmt Check → Does Completion
    stmt empty = gives on_to_next
    stmt (expression a) = completed (evaluated a >> skip)
    stmt (variable_declaration slot type i) = completed (variable_of program calls slot type (init i))
    stmt (reference_declaration slot e) = completed (reference_of program calls slot (expr e))
    stmt (block b) = scope program calls (stmts b)
    stmt (if_else c a b) = evaluated c >>= truth >>= (λ x. if x then stmt a else stmt b)
    stmt (while_loop c body) = loop (evaluated c >>= truth) (gives on_to_next) (stmt body)
    stmt (for_loop first c step body) = scope program calls (stmt first >> loop (condition c) (stmt step) (stmt body))
    stmt tree.break = gives break
    stmt tree.continue = gives continue
    stmt tree.return = gives (return null)
    stmt (return_value a) = returned program calls (used a) >>= (λ v. gives (return v))
    stmt (return_reference e) = full_expression program calls (expr e) >>= (λ v. gives (return v))
    stmt (return_object i) = returned_object program calls (init i) >> gives (return null)
    stmt (contract_assert c predicate) = completed (checked Definer (record { of = c; predicate = predicate } ∷ []))
    stmt (tree.throw type i) = full_expression program calls (throw_of program calls type (init i))
    stmt rethrow = rethrown program calls
    stmt (try b h) = either (scope program calls (stmts b)) gives (handlers h)

    pub stmts : Stmts Check → Does Completion
    stmts done = gives on_to_next
    stmts (next a rest) = stmt a >>= sequence (stmts rest)

    -- in order; each that is tried spends a unit of the budget
    pub handlers : Handlers Check → Exception → Does Completion
    handlers none e = throws e
    handlers (catch_all b rest) e = spend >> handled program calls e skip (stmts b)
    handlers (tree.catch type parameter b rest) e =
        spend >> (if same_type e.type type then handled program calls e (catch_parameter parameter e) (stmts b) else handlers rest e)

  -- ---- calls

  abbrev pub or_no_checks : Option Checks → Checks
  or_no_checks None = record { preconditions = []; postconditions = [] }
  or_no_checks (Some checks) = checks

  abbrev pub checks_at : ℕ → Option (List Checks) → Checks
  checks_at f None = or_no_checks None
  checks_at f (Some functions) = or_no_checks (slice_get functions f)

  -- the checks that a unit makes of a function as Caller
  abbrev pub caller_checks : (unit function : ℕ) → Checks
  caller_checks unit f = checks_at f (slice_get program.callers unit)

  -- the Caller's row of a list, if there is a Caller; its predicates are code of its unit
  abbrev pub caller_row : (Checks → List (Specifier Check)) → Option ℕ → (function : ℕ) → Does Nothing
  caller_row of None f = skip
  caller_row of (Some unit) f = in_unit unit (checked Caller (of (caller_checks unit f)))

  -- the block before the body: the Caller's row, then the Definer's
  abbrev pub preconditions : Function → Call → Does Nothing
  preconditions f c = caller_row (λ checks. checks.preconditions) c.caller c.function >> checked Definer f.checks.preconditions

  -- the block after it: the Definer's row, then the Caller's
  abbrev pub postconditions : Function → Call → Does Nothing
  postconditions f c = checked Definer f.checks.postconditions >> caller_row (λ checks. checks.postconditions) c.caller c.function

  abbrev pub function_call : Function → Call → Stmts Check → Does Value
  function_call f c b = checked_body program calls f.result c.result (preconditions f c) (stmts b) (postconditions f c)

  abbrev pub field_inits : List FieldInit → Does Nothing
  field_inits [] = skip
  field_inits (f ∷ fields) = field_of program calls f.leaf f.type (init f.init) >> field_inits fields

  abbrev pub constructor_call : Function → Call → List FieldInit → Stmts Check → Does Value
  constructor_call f c fields b = constructing program calls (do
    preconditions f c
    field_inits fields
    scope program calls (stmts b)
    postconditions f c
    gives null)

  -- the fields are destroyed between the body and the postconditions, outside the edge of both
  abbrev pub destructor_call : Function → ℕ → Stmts Check → Does Value
  destructor_call f t b = do
    object_of ← this_place program calls
    definition ← class_at program calls t
    edge (checked Definer f.checks.preconditions >> scope program calls (stmts b))
    destroy_fields program calls t object_of
    edge (checked Definer f.checks.postconditions)
    append (destroyed definition.name object_of.object object_of.leaf)
    gives null

  -- a violation's call of its handler is told when it becomes active
  abbrev pub reported : Option Violation → Does Nothing
  reported None = skip
  reported (Some v) = append (handler v)

  -- a field that is a class object is constructed without arguments, a scalar isn't touched
  abbrev pub default_field : ℕ → ObjectType → Does Nothing
  default_field leaf (class t) = do
    definition ← class_at program calls t
    default ← some definition.default_constructor
    field_of program calls leaf (class t) (λ a. construct_at program calls default a [])
  default_field leaf other = skip

  abbrev pub default_fields : List Field → Does Nothing
  default_fields [] = skip
  default_fields (f ∷ fields) = default_field f.leaf f.type >> default_fields fields

  -- a leaf is copied as it is, set or unset
  abbrev pub copy_leaf : Address → Address → Does Nothing
  copy_leaf from to = spend >> read_leaf from >>= write to

  abbrev pub copy_object : ObjectType → Address → Address → Does Nothing
  copy_object (class t) from to = do
    definition ← class_at program calls t
    construct_at program calls definition.copy_constructor to (address from ∷ [])
  copy_object other from to = copy_leaf from to

  abbrev pub copy_fields : Address → List Field → Does Nothing
  copy_fields from [] = skip
  copy_fields from (f ∷ fields) = field_of program calls f.leaf f.type (copy_object f.type (place_in from f.leaf)) >> copy_fields from fields

  -- a class without fields has one leaf, which is copied likewise
  abbrev pub copy_members : List Field → Address → Address → Does Nothing
  copy_members [] from to = copy_leaf from to
  copy_members (f ∷ fields) from to = copy_fields from (f ∷ fields)

  abbrev pub implicit_copy : ℕ → Does Value
  implicit_copy t = constructing program calls (do
    definition ← class_at program calls t
    to ← this_place program calls
    from ← named 1 >>= place_of
    copy_members definition.fields from to
    gives null)

  abbrev pub implicit_default : ℕ → Does Value
  implicit_default t = constructing program calls (do
    definition ← class_at program calls t
    default_fields definition.fields
    gives null)

  abbrev pub acting : Body Check → Function → Call → Does Value
  acting (function b) f c = edge_if f.noexcept (function_call f c b)
  acting (constructor fields b) f c = edge_if f.noexcept (constructor_call f c fields b)
  acting (destructor t b) f c = destructor_call f t b
  acting (implicit_constructor t) f c = implicit_default t
  acting (implicit_copy_constructor t) f c = implicit_copy t
  acting (implicit_destructor t) f c = destructor_call f t done

  abbrev pub numbered : ℕ → List Value → List (ℕ × Value)
  numbered slot [] = []
  numbered slot (v ∷ values) = (slot, v) ∷ numbered (suc slot) values

  -- implicit constructors, copies and destructors are code of the unit that evaluates their call
  abbrev pub unit_of : Function → Call → ℕ
  unit_of f c = if is_counted f.body then f.definer else c.unit

  -- a call that becomes active
  abbrev pub active : Call → Does Value
  active c = do
    spend
    f ← some (slice_get program.functions c.function)
    reported c.reports
    within (record { unit = unit_of f c; variables = numbered 0 c.arguments; result = c.result }) (acting f.body f c)

abbrev pub is_implicit_at : Program → ℕ → Bool
is_implicit_at program f = of (slice_get program.functions f)
  where
    of : Option Function → Bool
    of None = false
    of (Some definition) = if is_counted definition.body then false else true

-- an implicit call isn't counted; it calls those of its fields' classes, which lie inside one another no deeper than there are classes
unfoldable pub implicit_within : Program → ℕ → Calls → Calls
implicit_within program zero counted c = undefined Mixed
implicit_within program (suc n) counted c =
    if is_implicit_at program c.function then active program (implicit_within program n counted) c else counted c

-- the calls that may still become active inside one another
unfoldable pub calls_within : Program → ℕ → Calls
calls_within program zero c = ends (ended TooDeep)
calls_within program (suc n) c = active program (implicit_within program (length program.classes + 1) (calls_within program n)) c

pub record Meaning : Type 0 where
  pub trace : List Event
  pub answer : Answer

-- the value that `main` returns is the ending; an exception that leaves it terminates
abbrev pub meaning_of : Outcome Value → Meaning
meaning_of (on (number n) s) = record { trace = reverse s.trace; answer = ended (Returned n) }
meaning_of (on v s) = record { trace = reverse s.trace; answer = ended (Undefined Mixed) }
meaning_of (thrown e s) = record { trace = reverse s.trace; answer = ended Terminated }
meaning_of (over answer trace) = record { trace = reverse trace; answer = answer }

abbrev pub globals_from : ℕ → List Constant → List Object
globals_from n [] = []
globals_from n (c ∷ globals) = record { number = n; leaves = Some (constant c) ∷ [] } ∷ globals_from (suc n) globals

abbrev pub start : Program → List Evaluation → List ℕ → ℕ → State
start program begins input budget = record {
  store = globals_from 1 program.globals;
  next = length program.globals + 1;
  frame = record { unit = 0; variables = []; result = None };
  living = [];
  temporaries = [];
  held = [];
  begins = begins;
  input = input;
  budget = budget;
  trace = [];
}

abbrev pub main_call : Program → Call
main_call program = record { function = program.main; caller = None; unit = 0; reports = None; arguments = []; result = None }

unfoldable pub mean_within : ℕ → Program → List Evaluation → List ℕ → ℕ → Meaning
mean_within depth program begins input budget =
    meaning_of (calls_within program depth (main_call program) (start program begins input budget))

-- as many calls may be active as this, `main` included
abbrev pub depth_limit : ℕ
depth_limit = 4096

unfoldable pub mean : Program → List Evaluation → List ℕ → ℕ → Meaning
mean program begins input budget = mean_within depth_limit program begins input budget

-- what unfolds where a program is run by computation
unfoldable pub running : Nothing
unfolding mean mean_within calls_within implicit_within expr stmt turns loop next_byte evaluations next_told begin_told either gives throws ends spend append current_frame current_store current_living current_temporaries current_held set_frame set_living set_temporaries set_held add remove write
running = nothing
