-- Runs of exceptions: regions, frames, and what is held.
use Rattle.std.proofs.Common.{[], ◌∷◌, pos, false, refl}
use Rattle.cx_code.specs.declared.run.Event.TheVariants as events
use Rattle.cx_code.specs.declared.run.Verdict.TheVariants as verdicts
use Rattle.cx_code.specs.declared.run.Ending.TheVariants as endings
use Rattle.cx_code.specs.declared.run.Kind.TheVariants as kinds
use Rattle.cx_code.specs.Operation.{operation_of}
use Rattle.cx_code.specs.Spelling.{image_spelling, number}
use Rattle.cx_code.specs.State.{initial}
use Rattle.cx_code.specs.Unwind.{unwound}
use Rattle.cx_code.specs.Run.{run_from, step, with_front}
use Rattle.cx_machine_tests.specs.Checked.{is_valid}
use Rattle.cx_machine_tests.specs.Named.{push, push_null, pop, get, make, load, store, eq, call, ret, out, throw, rethrow, held, release, resume, region, called, program, plain, ran, Row}

pub an_exception_is_caught_by_its_type : Row (program (make 1 0 ∷ get 0 ∷ push 9 ∷ store ∷ get 0 ∷ throw 0 ∷ held ∷ load ∷ release ∷ ret ∷ []) (region 5 6 2 1 6 0 ∷ []) [] 0 2) [] 1000 (ran (events.Throw 0 ∷ events.Catch 0 ∷ events.Destroyed 0 3 0 ∷ []) (endings.Returned (pos 9)) 16)
unfolding is_valid image_spelling number run_from step with_front unwound initial operation_of
an_exception_is_caught_by_its_type = record { valid = refl; runs = refl }

pub an_exception_of_another_type_is_passed : Row (program (make 1 0 ∷ get 0 ∷ push 9 ∷ store ∷ get 0 ∷ throw 0 ∷ held ∷ load ∷ release ∷ ret ∷ []) (region 5 6 2 2 6 0 ∷ region 5 6 2 0 6 0 ∷ []) [] 0 2) [] 1000 (ran (events.Throw 0 ∷ events.Catch 0 ∷ events.Destroyed 0 3 0 ∷ []) (endings.Returned (pos 9)) 17)
unfolding is_valid image_spelling number run_from step with_front unwound initial operation_of
an_exception_of_another_type_is_passed = record { valid = refl; runs = refl }

pub an_exception_that_none_catches : Row (program (make 1 0 ∷ get 0 ∷ push 9 ∷ store ∷ get 0 ∷ throw 0 ∷ held ∷ load ∷ release ∷ ret ∷ []) (region 5 6 2 2 6 0 ∷ []) [] 0 2) [] 1000 (ran (events.Throw 0 ∷ []) endings.Terminated 8)
unfolding is_valid image_spelling number run_from step with_front unwound initial operation_of
an_exception_that_none_catches = record { valid = refl; runs = refl }

pub an_exception_without_a_region : Row (plain (make 1 0 ∷ get 0 ∷ push 9 ∷ store ∷ get 0 ∷ throw 0 ∷ held ∷ load ∷ release ∷ ret ∷ [])) [] 1000 (ran (events.Throw 0 ∷ []) endings.Terminated 7)
unfolding is_valid image_spelling number run_from step with_front unwound initial operation_of
an_exception_without_a_region = record { valid = refl; runs = refl }

pub a_region_ends_before_its_end : Row (program (make 1 0 ∷ get 0 ∷ push 9 ∷ store ∷ get 0 ∷ throw 0 ∷ held ∷ load ∷ release ∷ ret ∷ []) (region 0 5 2 0 6 0 ∷ []) [] 0 2) [] 1000 (ran (events.Throw 0 ∷ []) endings.Terminated 7)
unfolding is_valid image_spelling number run_from step with_front unwound initial operation_of
a_region_ends_before_its_end = record { valid = refl; runs = refl }

pub a_guard_tells_of_the_verdict : Row (program (make 1 0 ∷ get 0 ∷ push 9 ∷ store ∷ get 0 ∷ throw 0 ∷ held ∷ load ∷ release ∷ ret ∷ []) (region 5 6 3 9 6 0 ∷ []) [] 0 2) [] 1000 (ran (events.Throw 0 ∷ events.Verdict verdicts.Threw ∷ events.Destroyed 0 3 0 ∷ []) (endings.Returned (pos 9)) 16)
unfolding is_valid image_spelling number run_from step with_front unwound initial operation_of
a_guard_tells_of_the_verdict = record { valid = refl; runs = refl }

pub a_barrier_ends_the_program : Row (program (make 1 0 ∷ get 0 ∷ push 9 ∷ store ∷ get 0 ∷ throw 0 ∷ held ∷ load ∷ release ∷ ret ∷ []) (region 5 6 4 0 6 0 ∷ region 5 6 2 0 6 0 ∷ []) [] 0 2) [] 1000 (ran (events.Throw 0 ∷ []) endings.Terminated 7)
unfolding is_valid image_spelling number run_from step with_front unwound initial operation_of
a_barrier_ends_the_program = record { valid = refl; runs = refl }

pub a_cleanup_runs_and_goes_on : Row (program (make 1 0 ∷ get 0 ∷ throw 0 ∷ push 7 ∷ out ∷ pop ∷ resume ∷ release ∷ push 4 ∷ ret ∷ []) (region 2 3 1 0 3 0 ∷ region 2 7 2 1 7 0 ∷ []) [] 0 2) [] 1000 (ran (events.Throw 0 ∷ events.Out 7 ∷ events.Catch 0 ∷ events.Destroyed 0 3 0 ∷ []) (endings.Returned (pos 4)) 17)
unfolding is_valid image_spelling number run_from step with_front unwound initial operation_of
a_cleanup_runs_and_goes_on = record { valid = refl; runs = refl }

pub an_exception_goes_through_frames : Row (program (call 2 0 ∷ push 1 ∷ ret ∷ release ∷ push 2 ∷ ret ∷ []) (region 0 1 2 1 3 0 ∷ []) (called 0 0 false (call 3 0 ∷ ret ∷ push 7 ∷ out ∷ pop ∷ resume ∷ []) (region 0 1 1 0 2 0 ∷ []) ∷ called 0 1 false (make 1 0 ∷ get 0 ∷ throw 0 ∷ []) [] ∷ []) 0 2) [] 1000 (ran (events.Throw 0 ∷ events.Out 7 ∷ events.Catch 0 ∷ events.Destroyed 0 3 0 ∷ []) (endings.Returned (pos 2)) 21)
unfolding is_valid image_spelling number run_from step with_front unwound initial operation_of
an_exception_goes_through_frames = record { valid = refl; runs = refl }

pub operands_are_cut_to_the_depth : Row (program (push 1 ∷ push 2 ∷ make 1 0 ∷ get 0 ∷ throw 0 ∷ release ∷ ret ∷ []) (region 4 5 2 0 5 1 ∷ []) [] 0 2) [] 1000 (ran (events.Throw 0 ∷ events.Catch 0 ∷ events.Destroyed 0 3 0 ∷ []) (endings.Returned (pos 1)) 13)
unfolding is_valid image_spelling number run_from step with_front unwound initial operation_of
operands_are_cut_to_the_depth = record { valid = refl; runs = refl }

pub a_rethrown_exception_is_held_twice : Row (program (make 1 0 ∷ get 0 ∷ throw 0 ∷ rethrow ∷ release ∷ release ∷ push 3 ∷ ret ∷ []) (region 2 3 2 1 3 0 ∷ region 2 4 2 0 4 0 ∷ []) [] 0 2) [] 1000 (ran (events.Throw 0 ∷ events.Catch 0 ∷ events.Throw 0 ∷ events.Catch 0 ∷ events.Destroyed 0 3 0 ∷ []) (endings.Returned (pos 3)) 15)
unfolding is_valid image_spelling number run_from step with_front unwound initial operation_of
a_rethrown_exception_is_held_twice = record { valid = refl; runs = refl }

pub a_pending_exception_is_kept : Row (program (make 1 0 ∷ get 0 ∷ throw 0 ∷ rethrow ∷ release ∷ resume ∷ release ∷ push 3 ∷ ret ∷ []) (region 2 3 2 0 3 0 ∷ region 3 4 1 0 4 0 ∷ region 3 6 2 0 6 0 ∷ []) [] 0 2) [] 1000 (ran (events.Throw 0 ∷ events.Catch 0 ∷ events.Throw 0 ∷ events.Catch 0 ∷ events.Destroyed 0 3 0 ∷ []) (endings.Returned (pos 3)) 17)
unfolding is_valid image_spelling number run_from step with_front unwound initial operation_of
a_pending_exception_is_kept = record { valid = refl; runs = refl }

pub a_cleanup_throws_and_its_exception_is_cleaned_up_after : Row (program (make 1 0 ∷ get 0 ∷ throw 0 ∷ make 1 1 ∷ get 1 ∷ throw 1 ∷ resume ∷ release ∷ push 6 ∷ ret ∷ []) (region 2 3 1 0 3 0 ∷ region 5 6 1 0 6 0 ∷ region 3 7 2 0 7 0 ∷ []) [] 0 2) [] 1000 (ran (events.Throw 0 ∷ events.Throw 1 ∷ events.Catch 1 ∷ events.Destroyed 0 4 0 ∷ []) (endings.Returned (pos 6)) 18)
unfolding is_valid image_spelling number run_from step with_front unwound initial operation_of
a_cleanup_throws_and_its_exception_is_cleaned_up_after = record { valid = refl; runs = refl }

pub a_dropper_throws_to_the_release : Row (program (make 1 0 ∷ get 0 ∷ throw 1 ∷ release ∷ push 1 ∷ ret ∷ release ∷ push 2 ∷ ret ∷ []) (region 2 3 2 2 3 0 ∷ region 3 4 2 1 6 0 ∷ []) (called 1 2 false (make 1 1 ∷ get 1 ∷ throw 0 ∷ []) [] ∷ []) 0 3) [] 1000 (ran (events.Throw 1 ∷ events.Catch 1 ∷ events.Throw 0 ∷ events.Catch 0 ∷ events.Destroyed 0 4 0 ∷ []) (endings.Returned (pos 2)) 18)
unfolding is_valid image_spelling number run_from step with_front unwound initial operation_of
a_dropper_throws_to_the_release = record { valid = refl; runs = refl }

pub each_throw_is_an_exception_of_its_own : Row (program (make 1 0 ∷ get 0 ∷ throw 0 ∷ get 0 ∷ throw 0 ∷ release ∷ push 1 ∷ ret ∷ []) (region 2 3 2 0 3 0 ∷ region 4 5 2 0 5 0 ∷ []) [] 0 2) [] 1000 (ran (events.Throw 0 ∷ events.Catch 0 ∷ events.Throw 0 ∷ events.Catch 0 ∷ events.Destroyed 0 3 0 ∷ []) (endings.Returned (pos 1)) 15)
unfolding is_valid image_spelling number run_from step with_front unwound initial operation_of
each_throw_is_an_exception_of_its_own = record { valid = refl; runs = refl }

pub held_is_the_innermost : Row (program (make 1 0 ∷ make 1 1 ∷ get 0 ∷ throw 0 ∷ get 1 ∷ throw 0 ∷ held ∷ get 1 ∷ eq ∷ ret ∷ []) (region 3 4 2 0 4 0 ∷ region 5 6 2 0 6 0 ∷ []) [] 0 2) [] 1000 (ran (events.Throw 0 ∷ events.Catch 0 ∷ events.Throw 0 ∷ events.Catch 0 ∷ []) (endings.Returned (pos 1)) 12)
unfolding is_valid image_spelling number run_from step with_front unwound initial operation_of
held_is_the_innermost = record { valid = refl; runs = refl }

pub a_rethrow_of_nothing : Row (plain (rethrow ∷ [])) [] 1000 (ran [] endings.Terminated 1)
unfolding is_valid image_spelling number run_from step with_front unwound initial operation_of
a_rethrow_of_nothing = record { valid = refl; runs = refl }

pub nothing_is_held : Row (plain (held ∷ push 0 ∷ ret ∷ [])) [] 1000 (ran [] (endings.Undefined kinds.Mixed) 1)
unfolding is_valid image_spelling number run_from step with_front unwound initial operation_of
nothing_is_held = record { valid = refl; runs = refl }

pub nothing_is_released : Row (plain (release ∷ push 0 ∷ ret ∷ [])) [] 1000 (ran [] (endings.Undefined kinds.Mixed) 1)
unfolding is_valid image_spelling number run_from step with_front unwound initial operation_of
nothing_is_released = record { valid = refl; runs = refl }

pub null_is_mixed_to_throw : Row (plain (push_null ∷ throw 0 ∷ [])) [] 1000 (ran [] (endings.Undefined kinds.Mixed) 2)
unfolding is_valid image_spelling number run_from step with_front unwound initial operation_of
null_is_mixed_to_throw = record { valid = refl; runs = refl }
