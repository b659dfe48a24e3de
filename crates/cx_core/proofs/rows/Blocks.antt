-- Blocks of checks: repetitions, both parties, orders that are permitted and one that isn't, and result names.
use Rattle.std.specs.Prelude.{◌≡◌, refl, ℕ, List, [], ◌∷◌, ◌++◌, pos, codes}
use Rattle.cx_core.specs.declared.number.IntegerType.TheVariants as types
use Rattle.cx_core.specs.declared.number.BinaryOperator.TheVariants.{Add, Greater}
use Rattle.cx_core.specs.Words.{Pre, Post, Party, Definer, Caller, Semantic, Observe, Enforce, Holds, False, PredicateFalse, Returned, ContractTerminated}
use Rattle.cx_core.specs.Tree.{pointer, variable, result_name, prefix_step, indirection, call, Operand, value, no_more, by_reference, by_value, Assertion, return_value, return_reference}
use Rattle.cx_core.specs.Program.{Program, scalar_value, scalar_object, reference}
use Rattle.cx_core.specs.Event.{Event, begin, verdict, handler, Evaluation, waiting, not_a_run}
use Rattle.cx_core.specs.Check.{violation_of}
use Rattle.cx_core.specs.Meaning.{mean, running}
use Rattle.cx_core.specs.Runs.{IsRun}
use Rattle.cx_core.proofs.rows.Writing.{int, lit, as_is, read_int, read_pointer, read_variable, ints, int_variable, int_arg, assertion, assertion_in, check, evaluation_of, pre, post, main_of, checked_function, program_of, calling}

abbrev pub held : Evaluation → List Event
held e = begin e ∷ verdict Holds ∷ []

-- int f(int* p) pre(++*p > 0) { return *p; } int main(){ int k = 0; return f(&k); }, with two repetitions
abbrev pub steps : Assertion
steps = assertion Pre (codes "f#pre1") 1 15 (codes "++ * p > 0")

abbrev pub steps_three_times : Program
steps_three_times = program_of [] (
    main_of (int_variable 0 (lit 0) ∷ return_value (as_is (call 1 (by_value (pointer int) (value (as_is (variable 0))) no_more))) ∷ [])
    ∷ checked_function scalar_value
    (pre (check steps Enforce 3 (as_is (ints Greater (read_int (prefix_step Add types.Int (indirection (read_pointer (variable 0))))) (lit 0))) ∷ []))
    (return_value (read_int (indirection (read_pointer (variable 0)))) ∷ [])
    ∷ [])

abbrev pub step_held : List Event
step_held = held (evaluation_of steps Definer Enforce)

pub repetitions_are_evaluated : IsRun steps_three_times [] (step_held ++ (step_held ++ step_held)) (Returned (pos 3)) 99
unfolding running
repetitions_are_evaluated = refl

pub too_few_repetitions_are_told :
    mean steps_three_times (evaluation_of steps Definer Enforce ∷ evaluation_of steps Definer Enforce ∷ []) [] 6400 ≡ record { trace = step_held ++ step_held; answer = waiting }
unfolding running
too_few_repetitions_are_told = refl

-- int f(int x) pre(x > 0) pre(x > 1); in two units: the first calls f(2), the second defines it
abbrev pub above : ℕ → Operand
above n = as_is (ints Greater (read_variable 0) (lit n))

abbrev pub positive : Assertion
positive = assertion_in (codes "h.h") Pre (codes "f#pre1") 1 14 (codes "x > 0")

abbrev pub above_one : Assertion
above_one = assertion_in (codes "h.h") Pre (codes "f#pre2") 1 25 (codes "x > 1")

-- the first unit makes so many evaluations of each as Caller, the second so many as Definer
abbrev pub calls_of_two : (argument : ℕ) → (caller : Semantic) → (first second : ℕ) → (definer : ℕ) → Program
calls_of_two n caller first second definer = record (program_of [] (
    main_of (return_value (as_is (call 1 (int_arg n no_more))) ∷ [])
    ∷ record (checked_function scalar_value (pre (check positive Enforce definer (above 0) ∷ check above_one Enforce definer (above 1) ∷ [])) (return_value (lit 5) ∷ [])) { definer = 1 }
    ∷ [])) { callers = calling 1 (pre (check positive caller first (above 0) ∷ check above_one caller second (above 1) ∷ [])) }

abbrev pub first_by : Party → Evaluation
first_by party = evaluation_of positive party Enforce

abbrev pub second_by : Party → Evaluation
second_by party = evaluation_of above_one party Enforce

pub caller_checks_before_the_definer :
    IsRun (calls_of_two 2 Enforce 0 1 1) []
    (held (second_by Caller) ++ (held (first_by Definer) ++ held (second_by Definer))) (Returned (pos 5)) 99
unfolding running
caller_checks_before_the_definer = refl

pub second_assertion_must_wait_for_the_first :
    mean (calls_of_two 2 Enforce 0 1 1) (second_by Caller ∷ second_by Definer ∷ first_by Definer ∷ []) [] 6400
    ≡ record { trace = held (second_by Caller); answer = not_a_run }
unfolding running
second_assertion_must_wait_for_the_first = refl

pub caller_is_not_skipped :
    mean (calls_of_two 2 Enforce 0 1 1) (first_by Definer ∷ []) [] 6400 ≡ record { trace = []; answer = not_a_run }
unfolding running
caller_is_not_skipped = refl

-- with one repetition: the plain order, and two others
pub whole_list_then_whole_list_again :
    IsRun (calls_of_two 2 Enforce 0 0 2) []
    (held (first_by Definer) ++ (held (second_by Definer) ++ (held (first_by Definer) ++ held (second_by Definer)))) (Returned (pos 5)) 99
unfolding running
whole_list_then_whole_list_again = refl

pub each_twice_in_turn :
    IsRun (calls_of_two 2 Enforce 0 0 2) []
    (held (first_by Definer) ++ (held (first_by Definer) ++ (held (second_by Definer) ++ held (second_by Definer)))) (Returned (pos 5)) 99
unfolding running
each_twice_in_turn = refl

pub repetitions_in_reverse :
    IsRun (calls_of_two 2 Enforce 0 0 2) []
    (held (first_by Definer) ++ (held (second_by Definer) ++ (held (second_by Definer) ++ held (first_by Definer)))) (Returned (pos 5)) 99
unfolding running
repetitions_in_reverse = refl

pub one_more_than_owed :
    mean (calls_of_two 2 Enforce 0 0 2) (first_by Definer ∷ first_by Definer ∷ first_by Definer ∷ []) [] 6400
    ≡ record { trace = held (first_by Definer) ++ held (first_by Definer); answer = not_a_run }
unfolding running
one_more_than_owed = refl

-- f(0): the Caller observes, the Definer enforces
pub both_parties_find_it_false :
    IsRun (calls_of_two 0 Observe 1 0 1) []
    (begin (evaluation_of positive Caller Observe) ∷ verdict False ∷ handler (violation_of positive PredicateFalse Observe)
    ∷ begin (first_by Definer) ∷ verdict False ∷ handler (violation_of positive PredicateFalse Enforce)
    ∷ []) ContractTerminated 99
unfolding running
both_parties_find_it_false = refl

-- int f(const int a) post(r : r > a) { return 4; } with the calls f(4) and f(3)
abbrev pub more : Assertion
more = assertion Post (codes "f#post1") 1 20 (codes "r > a")

abbrev pub result_above : ℕ → Program
result_above n = program_of [] (
    main_of (return_value (as_is (call 1 (int_arg n no_more))) ∷ [])
    ∷ checked_function scalar_object (post (check more Enforce 1 (as_is (ints Greater (read_int result_name) (read_variable 0))) ∷ [])) (return_value (lit 4) ∷ [])
    ∷ [])

pub postcondition_names_the_result : IsRun (result_above 3) [] (held (evaluation_of more Definer Enforce)) (Returned (pos 4)) 99
unfolding running
postcondition_names_the_result = refl

pub postcondition_is_false :
    IsRun (result_above 4) []
    (begin (evaluation_of more Definer Enforce) ∷ verdict False ∷ handler (violation_of more PredicateFalse Enforce) ∷ []) ContractTerminated 99
unfolding running
postcondition_is_false = refl

-- int& f(int& x) post(r : r > 0) { return x; } int main(){ int k = 1; return f(k); }
abbrev pub referred : Assertion
referred = assertion Post (codes "f#post1") 1 16 (codes "r > 0")

pub result_name_is_what_a_reference_result_refers_to :
    IsRun (program_of [] (
    main_of (int_variable 0 (lit 1) ∷ return_value (read_int (call 1 (by_reference (variable 0) no_more))) ∷ [])
    ∷ checked_function reference (post (check referred Enforce 1 (as_is (ints Greater (read_int result_name) (lit 0))) ∷ [])) (return_reference (variable 0) ∷ [])
    ∷ [])) [] (held (evaluation_of referred Definer Enforce)) (Returned (pos 1)) 99
unfolding running
result_name_is_what_a_reference_result_refers_to = refl
