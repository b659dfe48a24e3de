-- A chain of functions over one or two units, each with a precondition and a postcondition, repetitions and checks of both parties.
use Rattle.std.specs.Prelude.{◌≡◌, refl, ℕ, zero, suc, ◌+◌, ◌-◌, ◌*◌, ◌/◌, Bool, true, false, if◌then◌else◌, List, [], ◌∷◌, ◌++◌, map, length, pos, codes}
use Rattle.cx_core.specs.declared.number.BinaryOperator.TheVariants.{Add, GreaterEqual}
use Rattle.cx_core.specs.Words.{Pre, Post, Party, Definer, Caller, Semantic, Observe, Enforce, Holds, Returned}
use Rattle.cx_core.specs.Tree.{result_name, call, Operand, value, no_more, by_value, Assertion, return_value}
use Rattle.cx_core.specs.Program.{Checks, Function, Program, scalar_object}
use Rattle.cx_core.specs.Event.{Event, begin, verdict, begins_of}
use Rattle.cx_core.specs.Meaning.{running}
use Rattle.cx_core.specs.Runs.{IsRun}
use Rattle.cx_core.proofs.rows.Writing.{int, lit, as_is, read_int, read_variable, ints, int_arg, assertion, check, evaluation_of, no_checks, main_of, checked_function, program_of}

-- what the plan says of a unit
record Plan : Type 0 where
  semantic : Semantic
  times : ℕ
  calls_pre : Bool
  calls_post : Bool

plan_of : ℕ → Plan
plan_of zero = record { semantic = Observe; times = 2; calls_pre = true; calls_post = false }
plan_of (suc unit) = record { semantic = Enforce; times = 3; calls_pre = true; calls_post = true }

-- the functions are numbered from 1; sixteen are in a unit
unit_of : ℕ → ℕ
unit_of k = (k - 1) / 16

-- short names: a letter for each function
name_of : ℕ → List ℕ
name_of k = (64 + k) ∷ []

precondition : ℕ → Assertion
precondition k = assertion Pre (name_of k) 1 20 (codes "x >= 0")

postcondition : ℕ → Assertion
postcondition k = assertion Post (96 ∷ name_of k) 1 32 (codes "r >= x")

checks_of : ℕ → Plan → (pre post : Bool) → Checks
checks_of k p pre post = record {
  preconditions = check (precondition k) p.semantic (if pre then p.times else 0) (as_is (ints GreaterEqual (read_variable 0) (lit 0))) ∷ [];
  postconditions = check (postcondition k) p.semantic (if post then p.times else 0) (as_is (ints GreaterEqual (read_int result_name) (read_variable 0))) ∷ [];
}

-- `x` in the first function, and one more than the function before it in the others
result_of : ℕ → Operand
result_of zero = read_variable 0
result_of (suc zero) = read_variable 0
result_of (suc k) = as_is (ints Add (as_is (call k (by_value int (value (read_variable 0)) no_more))) (lit 1))

function_at : ℕ → Function
function_at k = record (checked_function scalar_object (checks_of k (plan_of (unit_of k)) true true) (return_value (result_of k) ∷ [])) { definer = unit_of k }

numbers_to : ℕ → List ℕ
numbers_to zero = []
numbers_to (suc n) = numbers_to n ++ suc n ∷ []

caller_of : ℕ → ℕ → Checks
caller_of unit k = checks_of k (plan_of unit) (plan_of unit).calls_pre (plan_of unit).calls_post

-- `main` is in the last unit and calls the last function with 0
pub made : (units : ℕ) → Program
made n = record (program_of [] (record (main_of (return_value (as_is (call (16 * n) (int_arg 0 no_more))) ∷ [])) { definer = n - 1 } ∷ map function_at (numbers_to (16 * n))))
    { callers = map (λ u. no_checks ∷ map (caller_of (u - 1)) (numbers_to (16 * n))) (numbers_to n) }

times_of : ℕ → List Event → List Event
times_of zero events = []
times_of (suc n) events = events ++ times_of n events

row_of : Assertion → Party → Plan → Bool → List Event
row_of a party p takes_part = times_of (if takes_part then p.times else 0) (begin (evaluation_of a party p.semantic) ∷ verdict Holds ∷ [])

pub journal_of : ℕ → (caller : ℕ) → List Event
journal_of zero caller = []
journal_of (suc k) caller =
    row_of (precondition (suc k)) Caller (plan_of caller) (plan_of caller).calls_pre
    ++ (row_of (precondition (suc k)) Definer (plan_of (unit_of (suc k))) true
    ++ (journal_of k (unit_of (suc k))
    ++ (row_of (postcondition (suc k)) Definer (plan_of (unit_of (suc k))) true
    ++ row_of (postcondition (suc k)) Caller (plan_of caller) (plan_of caller).calls_post)))

making : Unit {0}
unfolding running plan_of unit_of name_of precondition postcondition checks_of result_of function_at numbers_to caller_of made times_of row_of journal_of
making = tt {0}

pub one_unit_runs : IsRun (made 1) [] (journal_of 16 0) (Returned (pos 15)) 999
unfolding making
one_unit_runs = refl

pub one_unit_begins_96_evaluations : length (begins_of (journal_of 16 0)) ≡ 96
unfolding making
one_unit_begins_96_evaluations = refl

pub two_units_run : IsRun (made 2) [] (journal_of 32 1) (Returned (pos 31)) 999
unfolding making
two_units_run = refl

pub two_units_begin_292_evaluations : length (begins_of (journal_of 32 1)) ≡ 292
unfolding making
two_units_begin_292_evaluations = refl
