-- What holds of the primitives of the meaning, and of what they make of parts of which it holds, holds of the whole meaning.
use Rattle.std.proofs.Common.{ℕ, zero, suc, Bool, true, false, if◌then◌else◌, List, [], ◌∷◌, Option, Some, None, Result, Ok, Err, ℤ}
use Rattle.cx_core.specs.declared.number.IntegerType.{IntegerType}
use Rattle.cx_core.specs.declared.number.BinaryOperator.{BinaryOperator}
use Rattle.cx_core.specs.declared.number.UnaryOperator.{UnaryOperator}
use Rattle.cx_core.specs.declared.number.Query.{Query}
use Rattle.cx_core.specs.Words.{Kind, Semantic, Ignore, Observe, Enforce, QuickEnforce, Violation}
use Rattle.cx_core.specs.Tree.{ObjectType, scalar, pointer, function_pointer, class, PointedResult, void_result, scalar_result, reference_result, Assertion, Check}
use Rattle.cx_core.specs.Store.{Address, Value, number, address, null, function, violation, Leaf, Store, place_in}
use Rattle.cx_core.specs.Event.{Event, begin, input, throw, catch, Answer, Evaluation}
use Rattle.cx_core.specs.Outcome.{Living, whole, field, Exception, Frame, Does, Nothing, nothing, undone_by, either, ◌>>=◌, ◌>>◌, gives, throws, ends, defined, some, current_frame, current_store, current_living, current_temporaries, current_held, set_frame, set_living, set_temporaries, set_held, append, spend, spend_all, add, make, remove, keep, keep_temporary, place_of, read, write}
use Rattle.cx_core.specs.Leaving.{Call, Calls, edge_if, within, in_unit, leaves_of_type, construct_at, destroy, destroy_each, destroy_fields, destroy_object, end, end_each, scope, full_expression, constructing, object, end_unless_among, holding}
use Rattle.cx_core.specs.Block.{Owed, Continued, continued, once_less, behind, has_stood, if_permitted, evaluations, next_told, begin_told}
use Rattle.cx_core.specs.Event.{same_evaluation}
use Rattle.cx_core.specs.Check.{truth, handle_by, violated, verdict_on, verdict_threw, evaluation}
use Rattle.cx_core.specs.Operators.{bind, converted_to, read_as, converted, operated, of_type, unary_operation, binary_operation, logical_operation, conditional_operation, cast_operation, assignment, updated, compound_assignment, prefix_operation, postfix_operation, indirection_of, member_of}
use Rattle.cx_core.specs.Library.{write_bytes, putchar_call, next_byte, getchar_call, puts_bytes, puts_call, query_call, puts_comment_call}
use Rattle.cx_core.specs.Program.{Program, LeafKind, number_leaf, pointer_leaf, empty_leaf, ResultKind, void, scalar_value, scalar_object, class_object, reference, exit_status}
use Rattle.cx_core.specs.Statements.{Completion, on_to_next, break, continue, return, sequence, loop, zero_leaf, zero_leaves, zero_object, throw_of, rethrow_of, rethrown, handled, variable_of, reference_of, this_place, keep_field, field_of, type_name}
use Rattle.cx_core.specs.Calls.{Callee, by_name, by_pointer, function_held, call_to, call_of, call_into, call_with_object, call_giving, call_through_giving, temporary_of_call, result_stored, returned, returned_object, value_given, body, destroy_result, naming_result, checked_body}

-- an event that takes nothing of what is told or of the input
abbrev pub IsPlain : Event → Type 0
IsPlain (begin e) = ⊥
IsPlain (input b) = ⊥
IsPlain event = Unit {0}

pub record IsClosed (K : (A : Type 0) → Does A → Type 0) : Type 1 where
  pub of_gives : {A : Type 0} (a : A) → K A (gives a)
  pub of_throws : {A : Type 0} (e : Exception) → K A (throws e)
  pub of_ends : {A : Type 0} (answer : Answer) → K A (ends answer)
  pub of_either : {A B : Type 0} (m : Does A) (next : A → Does B) (handler : Exception → Does B)
      → K A m → ((a : A) → K B (next a)) → ((e : Exception) → K B (handler e)) → K B (either m next handler)
  pub of_loop : (condition : Does Bool) (step body : Does Completion) → K Bool condition → K Completion step → K Completion body → K Completion (loop condition step body)
  pub of_spend : K Nothing spend
  pub of_append : (event : Event) → IsPlain event → K Nothing (append event)
  pub of_next_told : K Evaluation next_told
  pub of_begin_told : K Nothing begin_told
  pub of_next_byte : K Value next_byte
  pub of_current_frame : K Frame current_frame
  pub of_current_store : K Store current_store
  pub of_current_living : K (List Living) current_living
  pub of_current_temporaries : K (List Living) current_temporaries
  pub of_current_held : K (List Exception) current_held
  pub of_set_frame : (frame : Frame) → K Nothing (set_frame frame)
  pub of_set_living : (living : List Living) → K Nothing (set_living living)
  pub of_set_temporaries : (temporaries : List Living) → K Nothing (set_temporaries temporaries)
  pub of_set_held : (held : List Exception) → K Nothing (set_held held)
  pub of_add : (leaves : ℕ) → K ℕ (add leaves)
  pub of_remove : (n : ℕ) → K Nothing (remove n)
  pub of_write : (a : Address) (leaf : Leaf) → K Nothing (write a leaf)

module _ (K : (A : Type 0) → Does A → Type 0) (c : IsClosed K) where
  -- ---- how parts follow each other

  pub then_of : {A B : Type 0} (m : Does A) (next : A → Does B) → K A m → ((a : A) → K B (next a)) → K B (m >>= next)
  then_of m next h k = c.of_either m next throws h k c.of_throws

  pub seq_of : {A B : Type 0} (m : Does A) (next : Does B) → K A m → K B next → K B (m >> next)
  seq_of m next h k = c.of_either m (λ _. next) throws h (λ _. k) c.of_throws

  pub if_of : {A : Type 0} (b : Bool) (m n : Does A) → K A m → K A n → K A (if b then m else n)
  if_of true m n h k = h
  if_of false m n h k = k

  pub some_of : {A : Type 0} (o : Option A) → K A (some o)
  some_of (Some a) = c.of_gives a
  some_of None = c.of_ends _

  pub defined_of : {A : Type 0} (r : Result A Kind) → K A (defined r)
  defined_of (Ok a) = c.of_gives a
  defined_of (Err kind) = c.of_ends _

  gives_of : {A : Type 0} (a : A) → K A (gives a)
  gives_of a = c.of_gives a

  throws_of : {A : Type 0} (e : Exception) → K A (throws e)
  throws_of e = c.of_throws e

  ends_of : {A : Type 0} (answer : Answer) → K A (ends answer)
  ends_of answer = c.of_ends answer

  either_of : {A B : Type 0} (m : Does A) (next : A → Does B) (handler : Exception → Does B)
      → K A m → ((a : A) → K B (next a)) → ((e : Exception) → K B (handler e)) → K B (either m next handler)
  either_of m next handler h k l = c.of_either m next handler h k l

  spend_of : K Nothing spend
  spend_of = c.of_spend

  next_told_of : K Evaluation next_told
  next_told_of = c.of_next_told

  begin_told_of : K Nothing begin_told
  begin_told_of = c.of_begin_told

  next_byte_of : K Value next_byte
  next_byte_of = c.of_next_byte

  current_frame_of : K Frame current_frame
  current_frame_of = c.of_current_frame

  current_store_of : K Store current_store
  current_store_of = c.of_current_store

  current_living_of : K (List Living) current_living
  current_living_of = c.of_current_living

  current_temporaries_of : K (List Living) current_temporaries
  current_temporaries_of = c.of_current_temporaries

  current_held_of : K (List Exception) current_held
  current_held_of = c.of_current_held

  set_frame_of : (frame : Frame) → K Nothing (set_frame frame)
  set_frame_of frame = c.of_set_frame frame

  set_living_of : (living : List Living) → K Nothing (set_living living)
  set_living_of living = c.of_set_living living

  set_temporaries_of : (temporaries : List Living) → K Nothing (set_temporaries temporaries)
  set_temporaries_of temporaries = c.of_set_temporaries temporaries

  set_held_of : (held : List Exception) → K Nothing (set_held held)
  set_held_of held = c.of_set_held held

  make_of : (leaves : ℕ) → K ℕ (make leaves)
  make_of leaves = seq_of spend (add leaves) c.of_spend (c.of_add leaves)

  remove_of : (n : ℕ) → K Nothing (remove n)
  remove_of n = c.of_remove n

  write_of : (a : Address) (leaf : Leaf) → K Nothing (write a leaf)
  write_of a leaf = c.of_write a leaf

  ruleset steps = (if_of, some_of, defined_of, gives_of, throws_of, ends_of, either_of, spend_of, next_told_of, begin_told_of, next_byte_of, current_frame_of, current_store_of, current_living_of, current_temporaries_of, current_held_of, set_frame_of, set_living_of, set_temporaries_of, set_held_of, make_of, remove_of, write_of)

  pub spend_all_of : (n : ℕ) → K Nothing (spend_all n)
  spend_all_of zero = search steps
  spend_all_of (suc n) = search (steps, spend_all_of n)

  pub place_of_of : (v : Value) → K Address (place_of v)
  place_of_of (address a) = search steps
  place_of_of null = search steps
  place_of_of (number n) = search steps
  place_of_of (function f) = search steps
  place_of_of (violation v) = search steps

  pub truth_of : (v : Value) → K Bool (truth v)
  truth_of (address a) = search steps
  truth_of null = search steps
  truth_of (number n) = search steps
  truth_of (function f) = search steps
  truth_of (violation v) = search steps

  -- ---- operators

  pub converted_to_of : (to : Option IntegerType) (v : Value) → K Value (converted_to to v)
  converted_to_of None v = search steps
  converted_to_of (Some type) v = search steps

  pub read_as_of : (type : Option ObjectType) (v : Value) → K Value (read_as type v)
  read_as_of None v = search steps
  read_as_of (Some type) v = search (steps, place_of_of)

  pub converted_of : (read : Option ObjectType) (to : Option IntegerType) (m : Does Value) → K Value m → K Value (converted read to m)
  converted_of read to m h = search (steps, read_as_of, converted_to_of, h)

  pub operated_of : (operator : BinaryOperator) (type : IntegerType) (x y : Value) → K Value (operated operator type x y)
  operated_of operator type (number x) (number y) = search steps
  operated_of operator type (number x) (address a) = search steps
  operated_of operator type (number x) null = search steps
  operated_of operator type (number x) (function f) = search steps
  operated_of operator type (number x) (violation v) = search steps
  operated_of operator type (address a) y = search steps
  operated_of operator type null y = search steps
  operated_of operator type (function f) y = search steps
  operated_of operator type (violation v) y = search steps

  pub of_type_of : (type : IntegerType) (v : Value) → K ℤ (of_type type v)
  of_type_of type v = search steps

  pub unary_operation_of : (operator : UnaryOperator) (type : IntegerType) (m : Does Value) → K Value m → K Value (unary_operation operator type m)
  unary_operation_of operator type m h = search (steps, of_type_of, h)

  pub binary_operation_of : (operator : BinaryOperator) (type : IntegerType) (l r : Does Value) → K Value l → K Value r → K Value (binary_operation operator type l r)
  binary_operation_of operator type l r hl hr = search (steps, operated_of, hl, hr)

  pub logical_operation_of : (decides : Bool) (l r : Does Value) → K Value l → K Value r → K Value (logical_operation decides l r)
  logical_operation_of decides l r hl hr = search (steps, truth_of, hl, hr) depth 12

  pub conditional_operation_of : (x a b : Does Value) → K Value x → K Value a → K Value b → K Value (conditional_operation x a b)
  conditional_operation_of x a b hx ha hb = search (steps, truth_of, hx, ha, hb)

  pub cast_operation_of : (m : Does Value) → K Value m → K Value (cast_operation m)
  cast_operation_of m h = search (steps, h)

  pub assignment_of : (l r : Does Value) → K Value l → K Value r → K Value (assignment l r)
  assignment_of l r hl hr = search (steps, place_of_of, hl, hr) depth 12

  pub updated_of : (operator : BinaryOperator) (computed kept : IntegerType) (place v : Value) → K Value (updated operator computed kept place v)
  updated_of operator computed kept place v = search (steps, place_of_of, of_type_of, converted_to_of, operated_of) depth 12

  pub compound_assignment_of : (operator : BinaryOperator) (computed kept : IntegerType) (l r : Does Value) → K Value l → K Value r → K Value (compound_assignment operator computed kept l r)
  compound_assignment_of operator computed kept l r hl hr = search (steps, updated_of, hl, hr) depth 12

  pub prefix_operation_of : (operator : BinaryOperator) (type : IntegerType) (l : Does Value) → K Value l → K Value (prefix_operation operator type l)
  prefix_operation_of operator type l h = search (steps, updated_of, h) depth 12

  pub postfix_operation_of : (operator : BinaryOperator) (type : IntegerType) (l : Does Value) → K Value l → K Value (postfix_operation operator type l)
  postfix_operation_of operator type l h = search (steps, updated_of, h) depth 12

  pub indirection_of_of : (m : Does Value) → K Value m → K Value (indirection_of m)
  indirection_of_of m h = search (steps, place_of_of, h)

  pub member_of_of : (leaf : ℕ) (m : Does Value) → K Value m → K Value (member_of leaf m)
  member_of_of leaf m h = search (steps, place_of_of, h) depth 12

  -- ---- the library

  pub write_bytes_of : (bytes : List ℕ) → K Nothing (write_bytes bytes)
  write_bytes_of [] = search steps
  write_bytes_of (b ∷ bytes) = seq_of _ _ (seq_of _ _ c.of_spend (c.of_append _ (tt {0}))) (write_bytes_of bytes)

  pub putchar_call_of : (m : Does Value) → K Value m → K Value (putchar_call m)
  putchar_call_of m h = search (steps, write_bytes_of, h)

  pub getchar_call_of : K Value getchar_call
  getchar_call_of = search steps

  pub puts_bytes_of : (text : List ℕ) → K Value (puts_bytes text)
  puts_bytes_of text = search (steps, write_bytes_of)

  pub puts_call_of : (text : List ℕ) → K Value (puts_call text)
  puts_call_of text = seq_of _ _ spend_of (puts_bytes_of text)

  pub query_call_of : (q : Query) (m : Does Value) → K Value m → K Value (query_call q m)
  query_call_of q m h = search (steps, spend_all_of, h)

  pub puts_comment_call_of : (m : Does Value) → K Value m → K Value (puts_comment_call m)
  puts_comment_call_of m h = search (steps, spend_all_of, puts_bytes_of, h)

  -- ---- blocks of checks

  abbrev pub AllKept : List Owed → Type 0
  AllKept [] = Unit {0}
  AllKept (o ∷ owed) = K Nothing o.check × AllKept owed

  abbrev pub IfContinued : Option Continued → Type 0
  IfContinued None = Unit {0}
  IfContinued (Some next) = K Nothing next.0 × AllKept next.1

  one_of_two : (b : Bool) (x y : Option Continued) → IfContinued x → IfContinued y → IfContinued (if b then x else y)
  one_of_two true x y h k = h
  one_of_two false x y h k = k

  once_less_of : (left : ℕ) (o : Owed) (owed : List Owed) → K Nothing o.check → AllKept owed → IfContinued (once_less left o owed)
  once_less_of zero o owed h k = tt {0}
  once_less_of (suc left) o owed h k = (h, (h, k))

  behind_of : (o : Owed) (x : Option Continued) → K Nothing o.check → IfContinued x → IfContinued (behind o x)
  behind_of o None h k = tt {0}
  behind_of o (Some next) h k = (k.0, (h, k.1))

  continued_of : (e : Evaluation) (owed : List Owed) → AllKept owed → IfContinued (continued e owed)
  continued_of e [] h = tt {0}
  continued_of e (o ∷ owed) h =
      one_of_two (same_evaluation e o.evaluation) _ _
      (once_less_of o.left o owed h.0 h.1)
      (one_of_two (has_stood o) _ _ (behind_of o (continued e owed) h.0 (continued_of e owed h.1)) (tt {0}))

  if_permitted_of : (x : Option Continued) (next : Does Nothing → List Owed → Does Nothing)
      → IfContinued x → ((check : Does Nothing) (owed : List Owed) → K Nothing check → AllKept owed → K Nothing (next check owed))
      → K Nothing (if_permitted x next)
  if_permitted_of None next h k = ends_of _
  if_permitted_of (Some found) next h k = k found.0 found.1 h.0 h.1

  pub evaluations_of : (n : ℕ) (owed : List Owed) → AllKept owed → K Nothing (evaluations n owed)
  unfolding evaluations
  evaluations_of zero owed h = gives_of _
  evaluations_of (suc n) owed h =
      then_of _ _ next_told_of (λ e. if_permitted_of (continued e owed) _ (continued_of e owed h)
      (λ check more hc hm. seq_of _ _ (seq_of _ _ (seq_of _ _ spend_of begin_told_of) hc) (evaluations_of n more hm)))

  -- ---- what is left behind

  pub keep_of : (l : Living) → K Nothing (keep l)
  keep_of l = search steps

  pub keep_temporary_of : (l : Living) → K Nothing (keep_temporary l)
  keep_temporary_of l = search steps

  pub bind_of : (slot : ℕ) (v : Value) → K Nothing (bind slot v)
  bind_of slot v = search steps

  pub edge_if_of : {A : Type 0} (b : Bool) (m : Does A) → K A m → K A (edge_if b m)
  edge_if_of true m h = search (steps, h)
  edge_if_of false m h = h

  pub within_of : {A : Type 0} (frame : Frame) (m : Does A) → K A m → K A (within frame m)
  within_of frame m h = search (steps, h) depth 8

  pub in_unit_of : (unit : ℕ) (m : Does Nothing) → K Nothing m → K Nothing (in_unit unit m)
  in_unit_of unit m h = search (steps, within_of, h) depth 8

  module _ (program : Program) (calls : Calls) (calls_of : (call : Call) → K Value (calls call)) where
    pub leaves_of_type_of : (type : ObjectType) → K ℕ (leaves_of_type program calls type)
    leaves_of_type_of (scalar s) = gives_of _
    leaves_of_type_of (pointer t) = gives_of _
    leaves_of_type_of (function_pointer t) = gives_of _
    leaves_of_type_of (class t) = search steps

    pub construct_at_of : (f : ℕ) (a : Address) (arguments : List Value) → K Nothing (construct_at program calls f a arguments)
    construct_at_of f a arguments = search (steps, calls_of) depth 8

    pub destroy_of : (t : ℕ) (a : Address) → K Nothing (destroy program calls t a)
    destroy_of t a = search (steps, calls_of) depth 10

    pub destroy_each_of : (a : Address) (fields : List (ℕ × ℕ)) → K Nothing (destroy_each program calls a fields)
    destroy_each_of a [] = gives_of _
    destroy_each_of a (f ∷ fields) = seq_of _ _ (destroy_of _ _) (destroy_each_of a fields)

    pub destroy_fields_of : (t : ℕ) (a : Address) → K Nothing (destroy_fields program calls t a)
    destroy_fields_of t a = then_of _ _ (some_of _) (λ definition. destroy_each_of a _)

    pub destroy_object_of : (n : ℕ) (type : ObjectType) → K Nothing (destroy_object program calls n type)
    destroy_object_of n (class t) = destroy_of t _
    destroy_object_of n (scalar s) = gives_of _
    destroy_object_of n (pointer t) = gives_of _
    destroy_object_of n (function_pointer t) = gives_of _

    pub end_of : (l : Living) → K Nothing (end program calls l)
    end_of (whole n type) = search (steps, destroy_object_of)
    end_of (field a t) = destroy_of t a

    pub end_each_of : (living : List Living) → K Nothing (end_each program calls living)
    end_each_of [] = gives_of _
    end_each_of (l ∷ living) = seq_of _ _ (end_of l) (end_each_of living)

    pub scope_of : {A : Type 0} (m : Does A) → K A m → K A (scope program calls m)
    scope_of m h = search (steps, end_each_of, h) depth 12

    pub full_expression_of : {A : Type 0} (m : Does A) → K A m → K A (full_expression program calls m)
    full_expression_of m h = search (steps, end_each_of, h) depth 12

    pub constructing_of : {A : Type 0} (m : Does A) → K A m → K A (constructing program calls m)
    constructing_of m h = search (steps, end_each_of, h) depth 12

    pub object_of : (keeps : Living → Does Nothing) (type : ObjectType) (init : Address → Does Nothing)
        → ((l : Living) → K Nothing (keeps l)) → ((a : Address) → K Nothing (init a)) → K ℕ (object program calls keeps type init)
    object_of keeps type init hk hi = search (steps, leaves_of_type_of, hk, hi) depth 12

    pub end_unless_among_of : (e : Exception) (others : List Exception) → K Nothing (end_unless_among program calls e others)
    end_unless_among_of e others = if_of _ _ _ (gives_of _) (end_of (whole e.object e.type))

    pub holding_of : {A : Type 0} (e : Exception) (m : Does A) → K A m → K A (holding program calls e m)
    holding_of e m h = search (steps, end_unless_among_of, h) depth 12

    -- ---- checks

    pub handle_by_of : (f : Option ℕ) (v : Violation) → K Nothing (handle_by program calls f v)
    handle_by_of None v = seq_of _ _ spend_of (c.of_append _ (tt {0}))
    handle_by_of (Some f) v = search (steps, calls_of) depth 8

    pub violated_of : (semantic : Semantic) (response : Does Nothing) → K Nothing response → K Nothing (violated program calls semantic response)
    violated_of Ignore response h = gives_of _
    violated_of Observe response h = h
    violated_of Enforce response h = search (steps, h)
    violated_of QuickEnforce response h = ends_of _

    pub verdict_on_of : (a : Assertion) (semantic : Semantic) (b : Bool) → K Nothing (verdict_on program calls a semantic b)
    verdict_on_of a semantic true = c.of_append _ (tt {0})
    verdict_on_of a semantic false = seq_of _ _ (c.of_append _ (tt {0})) (violated_of semantic _ (handle_by_of _ _))

    pub verdict_threw_of : (a : Assertion) (semantic : Semantic) (e : Exception) → K Nothing (verdict_threw program calls a semantic e)
    verdict_threw_of a semantic e = seq_of _ _ (c.of_append _ (tt {0})) (violated_of semantic _ (holding_of e _ (handle_by_of _ _)))

    pub evaluation_of : (check : Check) (predicate : Does Value) → K Value predicate → K Nothing (evaluation program calls check predicate)
    evaluation_of check predicate h =
        either_of _ _ _ (then_of _ _ h truth_of) (verdict_on_of check.assertion check.semantic) (verdict_threw_of check.assertion check.semantic)

    -- ---- statements

    pub sequence_of : (rest : Does Completion) (completion : Completion) → K Completion rest → K Completion (sequence rest completion)
    sequence_of rest on_to_next h = h
    sequence_of rest break h = gives_of _
    sequence_of rest continue h = gives_of _
    sequence_of rest (return v) h = gives_of _

    pub zero_leaf_of : (a : Address) (kind : LeafKind) → K Nothing (zero_leaf a kind)
    zero_leaf_of a number_leaf = search steps
    zero_leaf_of a pointer_leaf = search steps
    zero_leaf_of a empty_leaf = gives_of _

    pub zero_leaves_of : (a : Address) (leaves : List LeafKind) → K Nothing (zero_leaves a leaves)
    zero_leaves_of a [] = gives_of _
    zero_leaves_of a (kind ∷ leaves) = seq_of _ _ (zero_leaf_of a kind) (zero_leaves_of (place_in a 1) leaves)

    pub zero_object_of : (t : ℕ) (a : Address) → K Nothing (zero_object program calls t a)
    zero_object_of t a = search (steps, zero_leaves_of, spend_all_of) depth 8

    pub throw_of_of : (type : ObjectType) (init : Address → Does Nothing) → ((a : Address) → K Nothing (init a)) → K Completion (throw_of program calls type init)
    throw_of_of type init h =
        then_of _ _ (object_of _ type init (λ l. gives_of nothing) h)
        (λ n. seq_of _ _ spend_of (seq_of _ _ (c.of_append (throw (type_name program type)) (tt {0})) (throws_of (record { object = n; type = type }))))

    pub rethrow_of_of : (held : List Exception) → K Completion (rethrow_of program calls held)
    rethrow_of_of [] = ends_of _
    rethrow_of_of (e ∷ held) = seq_of _ _ (c.of_append (throw (type_name program e.type)) (tt {0})) (throws_of e)

    pub rethrown_of : K Completion (rethrown program calls)
    rethrown_of = search (steps, rethrow_of_of)

    pub handled_of : (e : Exception) (parameter : Does Nothing) (b : Does Completion) → K Nothing parameter → K Completion b → K Completion (handled program calls e parameter b)
    handled_of e parameter b hp hb =
        seq_of _ _ (c.of_append (catch (type_name program e.type)) (tt {0})) (holding_of e _ (scope_of _ (seq_of _ _ (either_of _ _ _ hp gives_of (λ x. ends_of _)) hb)))

    pub variable_of_of : (slot : ℕ) (type : ObjectType) (init : Address → Does Nothing) → ((a : Address) → K Nothing (init a)) → K Nothing (variable_of program calls slot type init)
    variable_of_of slot type init h =
        full_expression_of _ (seq_of _ _ (object_of _ type _ keep_of (λ a. seq_of _ _ (bind_of slot (address a)) (h a))) (gives_of nothing))

    pub reference_of_of : (slot : ℕ) (m : Does Value) → K Value m → K Nothing (reference_of program calls slot m)
    reference_of_of slot m h = seq_of _ _ (bind_of slot null) (then_of _ _ (full_expression_of m h) (bind_of slot))

    pub this_place_of : K Address (this_place program calls)
    this_place_of = search (steps, place_of_of)

    pub keep_field_of : (a : Address) (type : ObjectType) → K Nothing (keep_field program calls a type)
    keep_field_of a (class t) = keep_of _
    keep_field_of a (scalar s) = gives_of _
    keep_field_of a (pointer t) = gives_of _
    keep_field_of a (function_pointer t) = gives_of _

    pub field_of_of : (leaf : ℕ) (type : ObjectType) (init : Address → Does Nothing) → ((a : Address) → K Nothing (init a)) → K Nothing (field_of program calls leaf type init)
    field_of_of leaf type init h =
        then_of _ _ this_place_of (λ this. seq_of _ _ (full_expression_of _ (h (place_in this leaf))) (keep_field_of (place_in this leaf) type))

    -- ---- calls and their results

    pub function_held_of : (v : Value) → K ℕ (function_held v)
    function_held_of (function f) = gives_of _
    function_held_of null = ends_of _
    function_held_of (number n) = ends_of _
    function_held_of (address a) = ends_of _
    function_held_of (violation v) = ends_of _

    pub call_to_of : (callee : Callee) (arguments : List Value) (result : Option Value) → K Value (call_to program calls callee arguments result)
    call_to_of (by_name f) arguments result = search (steps, calls_of) depth 8
    call_to_of (by_pointer p) arguments result = search (steps, function_held_of, calls_of) depth 8

    pub call_of_of : (callee : Callee) (arguments : Does (List Value)) (result : Option Value) → K (List Value) arguments → K Value (call_of program calls callee arguments result)
    call_of_of callee arguments result h = search (steps, scope_of, call_to_of, h) depth 8

    pub call_into_of : (callee : Callee) (arguments : Does (List Value)) (n : ℕ) → K (List Value) arguments → K Value (call_into program calls callee arguments n)
    call_into_of callee arguments n h = search (steps, scope_of, call_to_of, h) depth 12

    pub call_with_object_of : (callee : Callee) (arguments : Does (List Value)) → K (List Value) arguments → K Value (call_with_object program calls callee arguments)
    call_with_object_of callee arguments h = search (steps, call_into_of, h) depth 12

    pub call_giving_of : (kind : ResultKind) (f : ℕ) (arguments : Does (List Value)) → K (List Value) arguments → K Value (call_giving program calls kind f arguments)
    call_giving_of scalar_object f arguments h = call_with_object_of (by_name f) arguments h
    call_giving_of void f arguments h = call_of_of (by_name f) arguments None h
    call_giving_of scalar_value f arguments h = call_of_of (by_name f) arguments None h
    call_giving_of (class_object t) f arguments h = call_of_of (by_name f) arguments None h
    call_giving_of reference f arguments h = call_of_of (by_name f) arguments None h
    call_giving_of exit_status f arguments h = call_of_of (by_name f) arguments None h

    pub call_through_giving_of : (kind : PointedResult) (p : Value) (arguments : Does (List Value)) → K (List Value) arguments → K Value (call_through_giving program calls kind p arguments)
    call_through_giving_of scalar_result p arguments h = call_with_object_of (by_pointer p) arguments h
    call_through_giving_of void_result p arguments h = call_of_of (by_pointer p) arguments None h
    call_through_giving_of reference_result p arguments h = call_of_of (by_pointer p) arguments None h

    pub temporary_of_call_of : (t : ℕ) (p : Value) (arguments : Does (List Value)) → K (List Value) arguments → K Value (temporary_of_call program calls t p arguments)
    temporary_of_call_of t p arguments h = then_of _ _
        (object_of _ (class t) (λ place. call_of program calls (by_pointer p) arguments (Some (address place)) >> gives nothing) keep_temporary_of
        (λ place. seq_of _ _ (call_of_of (by_pointer p) arguments (Some (address place)) h) (gives_of nothing)))
        (λ n. gives_of (address (record { object = n; leaf = 0 })))

    result_stored_of : (result : Option Value) (v : Value) → K Value (result_stored program calls result v)
    result_stored_of None v = gives_of _
    result_stored_of (Some place) v = search (steps, place_of_of)

    pub returned_of : (m : Does Value) → K Value m → K Value (returned program calls m)
    returned_of m h = full_expression_of _ (then_of _ _ h (λ v. then_of _ _ current_frame_of (λ frame. result_stored_of frame.result v)))

    pub returned_object_of : (init : Address → Does Nothing) → ((a : Address) → K Nothing (init a)) → K Nothing (returned_object program calls init)
    returned_object_of init h = full_expression_of _
        (then_of _ _ current_frame_of (λ frame. then_of _ _ (some_of _) (λ place. then_of _ _ (place_of_of place) h)))

    value_given_of : (kind : ResultKind) (completion : Completion) → K Value (value_given program calls kind completion)
    value_given_of kind (return v) = gives_of _
    value_given_of void on_to_next = gives_of _
    value_given_of void break = gives_of _
    value_given_of void continue = gives_of _
    value_given_of exit_status on_to_next = gives_of _
    value_given_of exit_status break = gives_of _
    value_given_of exit_status continue = gives_of _
    value_given_of scalar_value on_to_next = ends_of _
    value_given_of scalar_value break = ends_of _
    value_given_of scalar_value continue = ends_of _
    value_given_of scalar_object on_to_next = ends_of _
    value_given_of scalar_object break = ends_of _
    value_given_of scalar_object continue = ends_of _
    value_given_of (class_object t) on_to_next = ends_of _
    value_given_of (class_object t) break = ends_of _
    value_given_of (class_object t) continue = ends_of _
    value_given_of reference on_to_next = ends_of _
    value_given_of reference break = ends_of _
    value_given_of reference continue = ends_of _

    body_of : (kind : ResultKind) (b : Does Completion) → K Completion b → K Value (body program calls kind b)
    body_of kind b h = then_of _ _ (scope_of _ h) (value_given_of kind)

    destroy_result_of : (kind : ResultKind) (place : Option Value) → K Nothing (destroy_result program calls kind place)
    destroy_result_of (class_object t) place = then_of _ _ (then_of _ _ (some_of place) place_of_of) (destroy_of t)
    destroy_result_of void place = gives_of _
    destroy_result_of scalar_value place = gives_of _
    destroy_result_of scalar_object place = gives_of _
    destroy_result_of reference place = gives_of _
    destroy_result_of exit_status place = gives_of _

    naming_result_of : (kind : ResultKind) (v : Value) (m : Does Nothing) → K Nothing m → K Nothing (naming_result program calls kind v m)
    naming_result_of reference v m h = then_of _ _ current_frame_of (λ frame. within_of _ m h)
    naming_result_of void v m h = h
    naming_result_of scalar_value v m h = h
    naming_result_of scalar_object v m h = h
    naming_result_of (class_object t) v m h = h
    naming_result_of exit_status v m h = h

    undone_of : {A : Type 0} (m : Does A) (last : Does Nothing) → K A m → K Nothing last → K A (undone_by m last)
    undone_of m last h k = either_of _ _ _ h gives_of (λ e. seq_of _ _ k (throws_of e))

    pub checked_body_of : (kind : ResultKind) (place : Option Value) (before : Does Nothing) (statements : Does Completion) (behind : Does Nothing)
        → K Nothing before → K Completion statements → K Nothing behind → K Value (checked_body program calls kind place before statements behind)
    checked_body_of kind place before statements behind hb hs he = seq_of _ _ hb
        (then_of _ _ (body_of kind _ hs) (λ v. seq_of _ _ (undone_of _ _ (naming_result_of kind v _ he) (destroy_result_of kind place)) (gives_of v)))
