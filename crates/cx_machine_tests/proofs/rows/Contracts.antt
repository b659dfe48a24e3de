-- Runs of assertions, violations and handlers.
use Rattle.std.proofs.Common.{[], ◌∷◌, pos, false, refl}
use Rattle.cx_code.specs.declared.run.Event.TheVariants as events
use Rattle.cx_code.specs.declared.run.Party.TheVariants as parties
use Rattle.cx_code.specs.declared.run.Verdict.TheVariants as verdicts
use Rattle.cx_code.specs.declared.run.Ending.TheVariants as endings
use Rattle.cx_code.specs.declared.run.Kind.TheVariants as kinds
use Rattle.cx_code.specs.declared.violation.DetectionMode.TheVariants as modes
use Rattle.cx_code.specs.declared.violation.Semantic.TheVariants as semantics
use Rattle.cx_code.specs.Operation.{operation_of}
use Rattle.cx_code.specs.Spelling.{image_spelling, number}
use Rattle.cx_code.specs.State.{initial}
use Rattle.cx_code.specs.Unwind.{unwound}
use Rattle.cx_code.specs.Run.{run_from, step, with_front}
use Rattle.cx_machine_tests.specs.Checked.{is_valid}
use Rattle.cx_machine_tests.specs.Named.{push, push_wide, push_null, pop, get, make, ret, out, begin, verdict, violate, field, contract_end, throw, release, region, called, program, plain, ran, Row}

pub evaluations_begin : Row (plain (begin 0 1 2 ∷ begin 0 0 3 ∷ push 0 ∷ ret ∷ [])) [] 1000 (ran (events.Begin 0 parties.Caller semantics.Observe ∷ events.Begin 0 parties.Definer semantics.Enforce ∷ []) (endings.Returned (pos 0)) 4)
unfolding is_valid image_spelling number run_from step with_front unwound initial operation_of
evaluations_begin = record { valid = refl; runs = refl }

pub evaluations_of_the_other_semantics_begin : Row (plain (begin 0 1 1 ∷ begin 0 0 4 ∷ push 0 ∷ ret ∷ [])) [] 1000 (ran (events.Begin 0 parties.Caller semantics.Ignore ∷ events.Begin 0 parties.Definer semantics.QuickEnforce ∷ []) (endings.Returned (pos 0)) 4)
unfolding is_valid image_spelling number run_from step with_front unwound initial operation_of
evaluations_of_the_other_semantics_begin = record { valid = refl; runs = refl }

pub a_verdict_at_0_is_false : Row (plain (push 0 ∷ verdict 0 ∷ ret ∷ [])) [] 1000 (ran (events.Verdict verdicts.False ∷ []) (endings.Returned (pos 0)) 3)
unfolding is_valid image_spelling number run_from step with_front unwound initial operation_of
a_verdict_at_0_is_false = record { valid = refl; runs = refl }

pub a_verdict_at_7_holds : Row (plain (push 7 ∷ verdict 0 ∷ ret ∷ [])) [] 1000 (ran (events.Verdict verdicts.Holds ∷ []) (endings.Returned (pos 7)) 3)
unfolding is_valid image_spelling number run_from step with_front unwound initial operation_of
a_verdict_at_7_holds = record { valid = refl; runs = refl }

pub null_is_mixed_to_verdict : Row (plain (push_null ∷ verdict 0 ∷ push 0 ∷ ret ∷ [])) [] 1000 (ran [] (endings.Undefined kinds.Mixed) 2)
unfolding is_valid image_spelling number run_from step with_front unwound initial operation_of
null_is_mixed_to_verdict = record { valid = refl; runs = refl }

pub a_violation_without_a_handler_is_passed : Row (plain (violate 0 1 2 ∷ push 5 ∷ ret ∷ [])) [] 1000 (ran (events.Handler 0 modes.PredicateFalse semantics.Observe ∷ []) (endings.Returned (pos 5)) 3)
unfolding is_valid image_spelling number run_from step with_front unwound initial operation_of
a_violation_without_a_handler_is_passed = record { valid = refl; runs = refl }

pub a_violation_by_an_exception : Row (plain (violate 0 2 3 ∷ contract_end ∷ [])) [] 1000 (ran (events.Handler 0 modes.EvaluationException semantics.Enforce ∷ []) endings.ContractTerminated 2)
unfolding is_valid image_spelling number run_from step with_front unwound initial operation_of
a_violation_by_an_exception = record { valid = refl; runs = refl }

pub a_handler_asks_about_the_violation : Row (program (violate 0 1 2 ∷ push 5 ∷ ret ∷ []) [] (called 1 1 false (get 0 ∷ field 1 ∷ out ∷ pop ∷ get 0 ∷ field 2 ∷ out ∷ pop ∷ get 0 ∷ field 3 ∷ out ∷ pop ∷ get 0 ∷ field 4 ∷ out ∷ pop ∷ get 0 ∷ field 5 ∷ out ∷ pop ∷ get 0 ∷ field 6 ∷ out ∷ pop ∷ ret ∷ []) [] ∷ []) 3 2) [] 1000 (ran (events.Handler 0 modes.PredicateFalse semantics.Observe ∷ events.Out 1 ∷ events.Out 2 ∷ events.Out 1 ∷ events.Out 4 ∷ events.Out 13 ∷ events.Out 1 ∷ []) (endings.Returned (pos 5)) 28)
unfolding is_valid image_spelling number run_from step with_front unwound initial operation_of
a_handler_asks_about_the_violation = record { valid = refl; runs = refl }

pub violations_count_from_0 : Row (program (violate 0 1 2 ∷ violate 0 2 3 ∷ push 5 ∷ ret ∷ []) [] (called 1 1 false (get 0 ∷ out ∷ pop ∷ ret ∷ []) [] ∷ []) 3 2) [] 1000 (ran (events.Handler 0 modes.PredicateFalse semantics.Observe ∷ events.Out 0 ∷ events.Handler 0 modes.EvaluationException semantics.Enforce ∷ events.Out 1 ∷ []) (endings.Returned (pos 5)) 12)
unfolding is_valid image_spelling number run_from step with_front unwound initial operation_of
violations_count_from_0 = record { valid = refl; runs = refl }

pub a_number_that_is_no_violation : Row (plain (violate 0 1 2 ∷ push 1 ∷ field 1 ∷ push 0 ∷ ret ∷ [])) [] 1000 (ran (events.Handler 0 modes.PredicateFalse semantics.Observe ∷ []) (endings.Undefined kinds.Mixed) 3)
unfolding is_valid image_spelling number run_from step with_front unwound initial operation_of
a_number_that_is_no_violation = record { valid = refl; runs = refl }

pub a_negative_number_is_no_violation : Row (plain (push_wide 0xffffffff 4294967295 ∷ field 1 ∷ push 0 ∷ ret ∷ [])) [] 1000 (ran [] (endings.Undefined kinds.Mixed) 2)
unfolding is_valid image_spelling number run_from step with_front unwound initial operation_of
a_negative_number_is_no_violation = record { valid = refl; runs = refl }

pub the_program_ends_by_a_contract : Row (plain (contract_end ∷ [])) [] 1000 (ran [] endings.ContractTerminated 1)
unfolding is_valid image_spelling number run_from step with_front unwound initial operation_of
the_program_ends_by_a_contract = record { valid = refl; runs = refl }

pub a_handler_throws_to_the_violation : Row (program (violate 0 1 2 ∷ push 1 ∷ ret ∷ release ∷ push 2 ∷ ret ∷ []) (region 0 1 2 0 3 0 ∷ []) (called 1 2 false (make 1 1 ∷ get 1 ∷ throw 0 ∷ []) [] ∷ []) 3 2) [] 1000 (ran (events.Handler 0 modes.PredicateFalse semantics.Observe ∷ events.Throw 0 ∷ events.Catch 0 ∷ events.Destroyed 0 3 0 ∷ []) (endings.Returned (pos 2)) 14)
unfolding is_valid image_spelling number run_from step with_front unwound initial operation_of
a_handler_throws_to_the_violation = record { valid = refl; runs = refl }
