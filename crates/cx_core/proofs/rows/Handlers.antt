-- User-defined violation handlers: what they are told, and what follows where they throw.
use Rattle.std.specs.Prelude.{refl, ℕ, true, List, [], ◌∷◌, ◌++◌, Some, None, pos, codes}
use Rattle.cx_core.specs.declared.number.BinaryOperator.TheVariants.{Add, Greater, Less}
use Rattle.cx_core.specs.declared.number.Query.TheVariants as queries
use Rattle.cx_core.specs.Words.{Pre, Post, Assert, Definer, Caller, Observe, Enforce, QuickEnforce, Semantic, False, Threw, PredicateFalse, EvaluationException, Returned, Terminated, ContractTerminated}
use Rattle.cx_core.specs.Tree.{class, number, variable, global, assign, empty, if_else, exception_object, member, call, putchar, query, value, construct, result_of, no_more, by_reference, by_value, object, Assertion, Stmt, variable_declaration, return_value, return_object, throw, rethrow, try, Handlers, none, catch, Check}
use Rattle.cx_core.specs.Program.{Program, Function, void, scalar_value, class_object}
use Rattle.cx_core.specs.Event.{Event, out, begin, verdict, handler, destroyed}
use Rattle.cx_core.specs.Event as event
use Rattle.cx_core.specs.Check.{violation_of}
use Rattle.cx_core.specs.Meaning.{running}
use Rattle.cx_core.specs.Runs.{IsRun}
use Rattle.cx_core.proofs.rows.Writing.{caught_int, int, lit, as_is, read_int, read_variable, ints, int_arg, say, list, assertion, check, evaluation_of, pre, post, main_of, function_of, checked_function, handler_of, constructor_of, destructor_of, constructs, copies, int_field, class_of_one, empty_class, program_of, calling, does, asserts}

-- struct P { ~P() { putchar('p'); } }; functions 1 to 3 are its constructor, copy and destructor
abbrev pub with_class_p : List (Stmt Check) → List Function → Program
with_class_p body functions = program_of (empty_class (codes "P") 1 2 3 ∷ []) (main_of body ∷ constructs 0 ∷ copies 0 ∷ destructor_of 0 (say 112 ∷ []) ∷ functions)

abbrev pub throws_int : ℕ → Stmt Check
throws_int n = throw int (value (lit n))

-- f(q, 0) in a block, whose exception is caught
abbrev pub calls_f : Handlers Check → Stmt Check
calls_f handlers = try (list (
    variable_declaration 0 (class 0) (construct 1 no_more)
    ∷ does (call 4 (by_value (class 0) (construct 2 (by_reference (variable 0) no_more)) (int_arg 0 no_more))) ∷ [])) handlers

abbrev pub second_is_positive : Assertion
second_is_positive = assertion Pre (codes "f#pre1") 4 27 (codes "x > 0")

abbrev pub caller_finds_it_false : List Event
caller_finds_it_false =
    begin (evaluation_of second_is_positive Caller Enforce) ∷ verdict False ∷ handler (violation_of second_is_positive PredicateFalse Enforce) ∷ []

-- void f(P p, int x) noexcept pre(x > 0) {} and a handler that does throw 1;
-- int main() { try { P q; f(q, 0); } catch (int) { putchar('c'); } return 0; }, where the Caller checks
pub handler_throws_inside_the_edge :
    IsRun (record (with_class_p (calls_f (catch int caught_int (list (say 99 ∷ [])) none) ∷ return_value (lit 0) ∷ []) (
    record (function_of void []) { noexcept = true } ∷ handler_of (throws_int 1 ∷ []) ∷ []))
    { handler = Some 5; callers = calling 4 (pre (check second_is_positive Enforce 1 (as_is (ints Greater (read_variable 1) (lit 0))) ∷ [])) })
    [] (caller_finds_it_false ++ event.throw (codes "int") ∷ []) Terminated 99
unfolding running
handler_throws_inside_the_edge = refl

-- void f(P a, int n) pre(n > 0) { putchar('f'); } and a handler that does throw 3;
-- int main() { try { P q; f(q, 0); } catch (int e) { return e; } return 0; }, where the Caller checks
pub handler_throws_into_the_caller :
    IsRun (record (with_class_p (calls_f (catch int (object 1 true (value (read_int exception_object))) (list (return_value (read_variable 1) ∷ [])) none) ∷ return_value (lit 0) ∷ []) (
    function_of void (say 102 ∷ []) ∷ handler_of (throws_int 3 ∷ []) ∷ []))
    { handler = Some 5; callers = calling 4 (pre (check second_is_positive Enforce 1 (as_is (ints Greater (read_variable 1) (lit 0))) ∷ [])) })
    [] (caller_finds_it_false ++ (event.throw (codes "int") ∷ out 112 ∷ destroyed (codes "P") 2 0 ∷ out 112 ∷ destroyed (codes "P") 1 0 ∷ event.catch (codes "int") ∷ []))
    (Returned (pos 3)) 99
unfolding running
handler_throws_into_the_caller = refl

-- bool bad() { throw 4; } int f() pre(bad()) { return 1; }
-- int main() { try { return f(); } catch (int e) { return e; } }
abbrev pub bad_holds : Assertion
bad_holds = assertion Pre (codes "f#pre1") 2 9 (codes "bad ( )")

abbrev pub predicate_throws : Semantic → List Function → Program
predicate_throws semantic handlers = program_of [] (
    main_of (
    try (list (return_value (as_is (call 2 no_more)) ∷ [])) (catch int (object 0 true (value (read_int exception_object))) (list (return_value (read_variable 0) ∷ [])) none) ∷ [])
    ∷ function_of scalar_value (throws_int 4 ∷ [])
    ∷ checked_function scalar_value (pre (check bad_holds semantic 1 (as_is (call 1 no_more)) ∷ [])) (return_value (lit 1) ∷ [])
    ∷ handlers)

-- void handle_contract_violation(..& v) { putchar('0' + int(v.detection_mode())); throw; }
pub handler_rethrows_what_the_predicate_threw :
    IsRun (record (predicate_throws Observe (
    handler_of (does (putchar (as_is (ints Add (lit 48) (as_is (query queries.DetectionMode (variable 0)))))) ∷ rethrow ∷ []) ∷ [])) { handler = Some 3 })
    [] (
    begin (evaluation_of bad_holds Definer Observe) ∷ event.throw (codes "int") ∷ verdict Threw ∷ handler (violation_of bad_holds EvaluationException Observe)
    ∷ out 50 ∷ event.throw (codes "int") ∷ event.catch (codes "int") ∷ []) (Returned (pos 4)) 99
unfolding running
handler_rethrows_what_the_predicate_threw = refl

pub thrown_predicate_is_observed :
    IsRun (predicate_throws Observe []) [] (
    begin (evaluation_of bad_holds Definer Observe) ∷ event.throw (codes "int") ∷ verdict Threw ∷ handler (violation_of bad_holds EvaluationException Observe) ∷ [])
    (Returned (pos 1)) 99
unfolding running
thrown_predicate_is_observed = refl

pub thrown_predicate_is_quick_enforced :
    IsRun (predicate_throws QuickEnforce []) [] (begin (evaluation_of bad_holds Definer QuickEnforce) ∷ event.throw (codes "int") ∷ verdict Threw ∷ []) ContractTerminated 99
unfolding running
thrown_predicate_is_quick_enforced = refl

-- struct P { ~P() { putchar('p'); } }; bool bad() { throw P(); } int main() { contract_assert(bad()); return 1; }
abbrev pub bad_asserted : Assertion
bad_asserted = assertion Assert (codes "main#assert1") 3 14 (codes "bad ( )")

pub exception_of_a_predicate_dies_before_enforce_terminates :
    IsRun (with_class_p (asserts (check bad_asserted Enforce 1 (as_is (call 4 no_more))) ∷ return_value (lit 1) ∷ []) (
    function_of scalar_value (throw (class 0) (construct 1 no_more) ∷ []) ∷ [])) [] (
    begin (evaluation_of bad_asserted Definer Enforce) ∷ event.throw (codes "P") ∷ verdict Threw ∷ handler (violation_of bad_asserted EvaluationException Enforce)
    ∷ out 112 ∷ destroyed (codes "P") 1 0 ∷ []) ContractTerminated 99
unfolding running
exception_of_a_predicate_dies_before_enforce_terminates = refl

-- struct T { int v; T(int n) : v(n) { putchar('T'); } ~T() { putchar('t'); } };
-- T f(P p) post(false) { return T(1); } and a handler that does throw 5;
-- int main() { P p; try { T x = f(p); return x.v; } catch (int e) { return e; } }
abbrev pub never : Assertion
never = assertion Post (codes "f#post1") 3 10 (codes "false")

abbrev pub result_is_given_up : Program
result_is_given_up = record (program_of (class_of_one (codes "T") int None 8 2 ∷ empty_class (codes "P") 3 4 5 ∷ []) (
    main_of (
    variable_declaration 0 (class 1) (construct 3 no_more)
    ∷ try (list (
    variable_declaration 1 (class 0) (result_of 6 (by_value (class 1) (construct 4 (by_reference (variable 0) no_more)) no_more))
    ∷ return_value (read_int (member 0 (variable 1))) ∷ []))
    (catch int (object 1 true (value (read_int exception_object))) (list (return_value (read_variable 1) ∷ [])) none)
    ∷ [])
    ∷ constructor_of (int_field 0 (read_variable 1) ∷ []) (say 84 ∷ [])
    ∷ destructor_of 0 (say 116 ∷ [])
    ∷ constructs 1
    ∷ copies 1
    ∷ destructor_of 1 (say 112 ∷ [])
    ∷ checked_function (class_object 0) (post (check never Enforce 1 (lit 0) ∷ [])) (return_object (construct 1 (int_arg 1 no_more)) ∷ [])
    ∷ handler_of (throws_int 5 ∷ [])
    ∷ [])) { handler = Some 7 }

pub result_is_destroyed_where_a_postcondition_throws :
    IsRun result_is_given_up [] (
    out 84 ∷ begin (evaluation_of never Definer Enforce) ∷ verdict False ∷ handler (violation_of never PredicateFalse Enforce) ∷ event.throw (codes "int")
    ∷ out 116 ∷ destroyed (codes "T") 2 0 ∷ out 112 ∷ destroyed (codes "P") 3 0
    ∷ event.catch (codes "int") ∷ out 112 ∷ destroyed (codes "P") 1 0 ∷ []) (Returned (pos 5)) 99
unfolding running
result_is_destroyed_where_a_postcondition_throws = refl

-- int n = 0; void handle_contract_violation(const std::contracts::contract_violation& v) { n = n + 1; if (n < 2) handle_contract_violation(v); }
-- int main() { contract_assert(false); return n; } under observe
abbrev pub fails : Assertion
fails = assertion Assert (codes "main#assert1") 5 14 (codes "false")

pub the_handler_is_called_by_its_name :
    IsRun (record (program_of [] (
    main_of (asserts (check fails Observe 1 (lit 0)) ∷ return_value (read_int (global 0)) ∷ [])
    ∷ handler_of (
    does (assign (global 0) (as_is (ints Add (read_int (global 0)) (lit 1))))
    ∷ if_else (as_is (ints Less (read_int (global 0)) (lit 2))) (does (call 1 (by_reference (variable 0) no_more))) empty ∷ [])
    ∷ [])) { globals = number (pos 0) ∷ []; handler = Some 1 })
    [] (begin (evaluation_of fails Definer Observe) ∷ verdict False ∷ handler (violation_of fails PredicateFalse Observe) ∷ []) (Returned (pos 2)) 99
unfolding running
the_handler_is_called_by_its_name = refl
