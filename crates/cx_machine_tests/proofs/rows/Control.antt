-- Runs of jumps, calls and returns.
use Rattle.std.proofs.Common.{[], ◌∷◌, pos, true, false, refl}
use Rattle.cx_code.specs.declared.run.Ending.TheVariants as endings
use Rattle.cx_code.specs.declared.run.Kind.TheVariants as kinds
use Rattle.cx_code.specs.Operation.{operation_of}
use Rattle.cx_code.specs.Spelling.{image_spelling, number}
use Rattle.cx_code.specs.State.{initial}
use Rattle.cx_code.specs.Unwind.{unwound}
use Rattle.cx_code.specs.Run.{run_from, step, with_front}
use Rattle.cx_machine_tests.specs.Checked.{is_valid}
use Rattle.cx_machine_tests.specs.Named.{push, push_null, get, add, sub, jump, jump_zero, jump_nonzero, call, ret, flow, int, called, program, plain, ran, Row}

pub jump_goes_there : Row (plain (jump 3 ∷ push 1 ∷ ret ∷ push 2 ∷ ret ∷ [])) [] 1000 (ran [] (endings.Returned (pos 2)) 3)
unfolding is_valid image_spelling number run_from step with_front unwound initial operation_of
jump_goes_there = record { valid = refl; runs = refl }

pub jump_zero_at_0 : Row (plain (push 0 ∷ jump_zero 4 ∷ push 1 ∷ ret ∷ push 2 ∷ ret ∷ [])) [] 1000 (ran [] (endings.Returned (pos 2)) 4)
unfolding is_valid image_spelling number run_from step with_front unwound initial operation_of
jump_zero_at_0 = record { valid = refl; runs = refl }

pub jump_zero_at_5 : Row (plain (push 5 ∷ jump_zero 4 ∷ push 1 ∷ ret ∷ push 2 ∷ ret ∷ [])) [] 1000 (ran [] (endings.Returned (pos 1)) 4)
unfolding is_valid image_spelling number run_from step with_front unwound initial operation_of
jump_zero_at_5 = record { valid = refl; runs = refl }

pub jump_nonzero_at_0 : Row (plain (push 0 ∷ jump_nonzero 4 ∷ push 1 ∷ ret ∷ push 2 ∷ ret ∷ [])) [] 1000 (ran [] (endings.Returned (pos 1)) 4)
unfolding is_valid image_spelling number run_from step with_front unwound initial operation_of
jump_nonzero_at_0 = record { valid = refl; runs = refl }

pub jump_nonzero_at_5 : Row (plain (push 5 ∷ jump_nonzero 4 ∷ push 1 ∷ ret ∷ push 2 ∷ ret ∷ [])) [] 1000 (ran [] (endings.Returned (pos 2)) 4)
unfolding is_valid image_spelling number run_from step with_front unwound initial operation_of
jump_nonzero_at_5 = record { valid = refl; runs = refl }

pub null_is_mixed_to_jump_zero : Row (plain (push_null ∷ jump_zero 0 ∷ push 0 ∷ ret ∷ [])) [] 1000 (ran [] (endings.Undefined kinds.Mixed) 2)
unfolding is_valid image_spelling number run_from step with_front unwound initial operation_of
null_is_mixed_to_jump_zero = record { valid = refl; runs = refl }

pub a_jump_to_itself_spends_all_steps : Row (plain (jump 0 ∷ [])) [] 5 (ran [] endings.StepsSpent 5)
unfolding is_valid image_spelling number run_from step with_front unwound initial operation_of
a_jump_to_itself_spends_all_steps = record { valid = refl; runs = refl }

pub no_step_is_allowed : Row (plain (push 41 ∷ ret ∷ [])) [] 0 (ran [] endings.StepsSpent 0)
unfolding is_valid image_spelling number run_from step with_front unwound initial operation_of
no_step_is_allowed = record { valid = refl; runs = refl }

pub one_step_too_few : Row (plain (push 41 ∷ ret ∷ [])) [] 1 (ran [] endings.StepsSpent 1)
unfolding is_valid image_spelling number run_from step with_front unwound initial operation_of
one_step_too_few = record { valid = refl; runs = refl }

pub just_enough_steps : Row (plain (push 41 ∷ ret ∷ [])) [] 2 (ran [] (endings.Returned (pos 41)) 2)
unfolding is_valid image_spelling number run_from step with_front unwound initial operation_of
just_enough_steps = record { valid = refl; runs = refl }

pub arguments_stand_in_their_order : Row (program (push 10 ∷ push 3 ∷ call 2 2 ∷ ret ∷ []) [] (called 2 2 true (get 0 ∷ get 1 ∷ sub int ∷ ret ∷ []) [] ∷ []) 0 2) [] 1000 (ran [] (endings.Returned (pos 7)) 8)
unfolding is_valid image_spelling number run_from step with_front unwound initial operation_of
arguments_stand_in_their_order = record { valid = refl; runs = refl }

pub slots_behind_the_arguments_are_empty : Row (program (push 10 ∷ call 2 1 ∷ ret ∷ []) [] (called 1 2 true (get 1 ∷ ret ∷ []) [] ∷ []) 0 2) [] 1000 (ran [] (endings.Undefined kinds.Mixed) 3)
unfolding is_valid image_spelling number run_from step with_front unwound initial operation_of
slots_behind_the_arguments_are_empty = record { valid = refl; runs = refl }

pub a_call_without_a_result : Row (program (push 4 ∷ call 2 0 ∷ ret ∷ []) [] (called 0 0 false (ret ∷ []) [] ∷ []) 0 2) [] 1000 (ran [] (endings.Returned (pos 4)) 4)
unfolding is_valid image_spelling number run_from step with_front unwound initial operation_of
a_call_without_a_result = record { valid = refl; runs = refl }

pub operands_of_a_callee_are_left_behind : Row (program (push 4 ∷ call 2 0 ∷ ret ∷ []) [] (called 0 0 false (push 1 ∷ push 2 ∷ ret ∷ []) [] ∷ []) 0 2) [] 1000 (ran [] (endings.Returned (pos 4)) 6)
unfolding is_valid image_spelling number run_from step with_front unwound initial operation_of
operands_of_a_callee_are_left_behind = record { valid = refl; runs = refl }

pub a_function_calls_itself : Row (program (push 3 ∷ call 2 1 ∷ ret ∷ []) [] (called 1 1 true (get 0 ∷ jump_zero 9 ∷ get 0 ∷ get 0 ∷ push 1 ∷ sub int ∷ call 2 1 ∷ add int ∷ ret ∷ push 0 ∷ ret ∷ []) [] ∷ []) 0 2) [] 1000 (ran [] (endings.Returned (pos 6)) 34)
unfolding is_valid image_spelling number run_from step with_front unwound initial operation_of
a_function_calls_itself = record { valid = refl; runs = refl }

pub the_greatest_int_is_returned : Row (plain (push 2147483647 ∷ ret ∷ [])) [] 1000 (ran [] (endings.Returned (pos 2147483647)) 2)
unfolding is_valid image_spelling number run_from step with_front unwound initial operation_of
the_greatest_int_is_returned = record { valid = refl; runs = refl }

pub more_than_an_int_is_mixed_to_return : Row (plain (push 2147483648 ∷ ret ∷ [])) [] 1000 (ran [] (endings.Undefined kinds.Mixed) 2)
unfolding is_valid image_spelling number run_from step with_front unwound initial operation_of
more_than_an_int_is_mixed_to_return = record { valid = refl; runs = refl }

pub the_end_of_a_function_with_a_result : Row (plain (flow ∷ [])) [] 1000 (ran [] (endings.Undefined kinds.Flow) 1)
unfolding is_valid image_spelling number run_from step with_front unwound initial operation_of
the_end_of_a_function_with_a_result = record { valid = refl; runs = refl }
