-- A `contract_assert` under each semantic, orders that are told wrongly, and budgets.
use Rattle.std.specs.Prelude.{◌≡◌, refl, ℕ, List, [], ◌∷◌, pos, codes}
use Rattle.cx_core.specs.declared.number.BinaryOperator.TheVariants.{Less, Add}
use Rattle.cx_core.specs.Words.{Assert, Definer, Semantic, Ignore, Observe, Enforce, QuickEnforce, Holds, False, PredicateFalse, Returned, ContractTerminated, Undefined, Overflow}
use Rattle.cx_core.specs.Tree.{Assertion, return_value, block, done, while_loop, variable}
use Rattle.cx_core.specs.Program.{Program}
use Rattle.cx_core.specs.Event.{Event, out, begin, verdict, handler, ended, going, waiting, not_a_run}
use Rattle.cx_core.specs.Check.{violation_of}
use Rattle.cx_core.specs.Meaning.{mean, running}
use Rattle.cx_core.specs.Runs.{IsRun}
use Rattle.cx_core.proofs.rows.Writing.{lit, as_is, read_int, ints, int_variable, set_int, say, assertion, check, evaluation_of, main_of, program_of, asserts}

-- int main(){ contract_assert(1 < 2); return 7; }
abbrev pub holding : Assertion
holding = assertion Assert (codes "main#assert1") 1 13 (codes "1 < 2")

abbrev pub holds_and_returns : Program
holds_and_returns = program_of [] (main_of (asserts (check holding Enforce 1 (as_is (ints Less (lit 1) (lit 2)))) ∷ return_value (lit 7) ∷ []) ∷ [])

abbrev pub its_journal : List Event
its_journal = begin (evaluation_of holding Definer Enforce) ∷ verdict Holds ∷ []

pub holding_assertion_goes_on : IsRun holds_and_returns [] its_journal (Returned (pos 7)) 9
unfolding running
holding_assertion_goes_on = refl

-- six units: the call of `main`, the evaluation, two literals, the operator, and the literal that is returned
pub budget_of_its_units_is_too_small : mean holds_and_returns (evaluation_of holding Definer Enforce ∷ []) [] 6 ≡ record { trace = its_journal; answer = going }
unfolding running
budget_of_its_units_is_too_small = refl

pub one_unit_more_is_enough : mean holds_and_returns (evaluation_of holding Definer Enforce ∷ []) [] 7 ≡ record { trace = its_journal; answer = ended (Returned (pos 7)) }
unfolding running
one_unit_more_is_enough = refl

pub untold_evaluation_is_waited_for : mean holds_and_returns [] [] 640 ≡ record { trace = []; answer = waiting }
unfolding running
untold_evaluation_is_waited_for = refl

pub wrong_semantic_is_no_run : mean holds_and_returns (evaluation_of holding Definer Observe ∷ []) [] 640 ≡ record { trace = []; answer = not_a_run }
unfolding running
wrong_semantic_is_no_run = refl

pub no_budget_goes_nowhere : mean holds_and_returns (evaluation_of holding Definer Enforce ∷ []) [] 0 ≡ record { trace = []; answer = going }
unfolding running
no_budget_goes_nowhere = refl

-- int main(){ contract_assert(false); return 3; }
abbrev pub failing : Assertion
failing = assertion Assert (codes "main#assert1") 1 13 (codes "false")

abbrev pub fails_under : Semantic → (times : ℕ) → Program
fails_under s n = program_of [] (main_of (asserts (check failing s n (lit 0)) ∷ return_value (lit 3) ∷ []) ∷ [])

pub ignored_assertion_is_not_evaluated : IsRun (fails_under Ignore 0) [] [] (Returned (pos 3)) 9
unfolding running
ignored_assertion_is_not_evaluated = refl

pub observed_assertion_goes_on :
    IsRun (fails_under Observe 1) []
    (begin (evaluation_of failing Definer Observe) ∷ verdict False ∷ handler (violation_of failing PredicateFalse Observe) ∷ [])
    (Returned (pos 3)) 9
unfolding running
observed_assertion_goes_on = refl

pub enforced_assertion_terminates :
    IsRun (fails_under Enforce 1) []
    (begin (evaluation_of failing Definer Enforce) ∷ verdict False ∷ handler (violation_of failing PredicateFalse Enforce) ∷ [])
    ContractTerminated 9
unfolding running
enforced_assertion_terminates = refl

pub quick_enforced_assertion_calls_no_handler :
    IsRun (fails_under QuickEnforce 1) [] (begin (evaluation_of failing Definer QuickEnforce) ∷ verdict False ∷ []) ContractTerminated 9
unfolding running
quick_enforced_assertion_calls_no_handler = refl

-- with one repetition
pub nothing_is_repeated_after_the_end :
    IsRun (fails_under Enforce 2) []
    (begin (evaluation_of failing Definer Enforce) ∷ verdict False ∷ handler (violation_of failing PredicateFalse Enforce) ∷ [])
    ContractTerminated 9
unfolding running
nothing_is_repeated_after_the_end = refl

-- putchar('a'); putchar('b'); putchar('c'); int k = 2147483647; k = k + 1; return k;
abbrev pub overflows : Program
overflows = program_of [] (main_of (say 97 ∷ say 98 ∷ say 99 ∷ int_variable 0 (lit 2147483647) ∷ set_int 0 (as_is (ints Add (read_int (variable 0)) (lit 1))) ∷ return_value (read_int (variable 0)) ∷ []) ∷ [])

pub overflow_ends_with_the_bytes_before_it : IsRun overflows [] (out 97 ∷ out 98 ∷ out 99 ∷ []) (Undefined Overflow) 9
unfolding running
overflow_ends_with_the_bytes_before_it = refl

-- while (true) {}
abbrev pub spins : Program
spins = program_of [] (main_of (while_loop (lit 1) (block done) ∷ []) ∷ [])

pub spinning_goes_on : mean spins [] [] 14 ≡ record { trace = []; answer = going }
unfolding running
spinning_goes_on = refl

pub spinning_goes_on_for_the_budget_of_1000_steps : mean spins [] [] 64064 ≡ record { trace = []; answer = going }
unfolding running
spinning_goes_on_for_the_budget_of_1000_steps = refl
