-- The depth of calls, at its limit and one call beyond.
use Rattle.std.specs.Prelude.{◌≡◌, refl, ℕ, ◌+◌, ◌*◌, List, [], ◌∷◌, Some, length, replicate, pos, codes}
use Rattle.cx_core.specs.declared.number.BinaryOperator.TheVariants.{Subtract, Equal}
use Rattle.cx_core.specs.Words.{Assert, Definer, Enforce, Returned, TooDeep}
use Rattle.cx_core.specs.Tree.{call, value, no_more, by_value, Assertion, empty, if_else, return_value}
use Rattle.cx_core.specs.Program.{Program, scalar_value}
use Rattle.cx_core.specs.Event.{Answer, ended}
use Rattle.cx_core.specs.Meaning.{Meaning, mean, running}
use Rattle.cx_core.proofs.rows.Writing.{int, lit, as_is, read_variable, ints, int_arg, assertion, check, evaluation_of, main_of, function_of, handler_of, program_of, asserts}

-- int f(int n) { if (n == 0) return 0; return f(n - 1); } int main(){ return f(N); }
abbrev pub calls_itself : ℕ → Program
calls_itself n = program_of [] (
    main_of (return_value (as_is (call 1 (int_arg n no_more))) ∷ [])
    ∷ function_of scalar_value (
    if_else (as_is (ints Equal (read_variable 0) (lit 0))) (return_value (lit 0)) empty
    ∷ return_value (as_is (call 1 (by_value int (value (as_is (ints Subtract (read_variable 0) (lit 1)))) no_more))) ∷ [])
    ∷ [])

pub as_many_calls_as_may_be_active : mean (calls_itself 4094) [] [] (64 * 200000) ≡ record { trace = []; answer = ended (Returned (pos 0)) }
unfolding running
as_many_calls_as_may_be_active = refl

pub one_call_more_is_too_deep : mean (calls_itself 4095) [] [] (64 * 200000) ≡ record { trace = []; answer = ended TooDeep }
unfolding running
one_call_more_is_too_deep = refl

-- int main(){ contract_assert(false); return 0; }, and a handler whose body is contract_assert(false);
abbrev pub failing : (list : List ℕ) → Assertion
failing name = assertion Assert name 1 13 (codes "false")

abbrev pub handler_fails : Program
handler_fails = record (program_of [] (
    main_of (asserts (check (failing (codes "main#assert1")) Enforce 1 (lit 0)) ∷ return_value (lit 0) ∷ [])
    ∷ handler_of (asserts (check (failing (codes "handle_contract_violation#assert1")) Enforce 1 (lit 0)) ∷ [])
    ∷ [])) { handler = Some 1 }

abbrev pub event_count : Meaning → ℕ × Answer
event_count m = (length m.trace, m.answer)

-- 4,096 begins and verdicts, and 4,095 handlers
pub handlers_within_handlers :
    event_count (mean handler_fails
    (evaluation_of (failing (codes "main#assert1")) Definer Enforce ∷ replicate 4095 (evaluation_of (failing (codes "handle_contract_violation#assert1")) Definer Enforce))
    [] (64 * 40000))
    ≡ (4096 + 4096 + 4095, ended TooDeep)
unfolding running
handlers_within_handlers = refl
