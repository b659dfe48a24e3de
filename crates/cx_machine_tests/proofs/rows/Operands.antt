-- Runs of instructions on operands and slots.
use Rattle.std.proofs.Common.{[], ◌∷◌, pos, negsuc, refl}
use Rattle.cx_code.specs.declared.run.Ending.TheVariants as endings
use Rattle.cx_code.specs.declared.run.Kind.TheVariants as kinds
use Rattle.cx_code.specs.Operation.{operation_of}
use Rattle.cx_code.specs.Spelling.{image_spelling, number}
use Rattle.cx_code.specs.State.{initial}
use Rattle.cx_code.specs.Unwind.{unwound}
use Rattle.cx_code.specs.Run.{run_from, step, with_front}
use Rattle.cx_machine_tests.specs.Checked.{is_valid}
use Rattle.cx_machine_tests.specs.Named.{push, push_wide, push_big, push_null, dup, pop, swap, get, set, add, sub, eq, gt, ret, int, plain, ran, Row}

pub push_gives_a_number : Row (plain (push 41 ∷ ret ∷ [])) [] 1000 (ran [] (endings.Returned (pos 41)) 2)
unfolding is_valid image_spelling number run_from step with_front unwound initial operation_of
push_gives_a_number = record { valid = refl; runs = refl }

pub push_gives_a_negative_number : Row (plain (push_wide 0xffffffff 0xffffffff ∷ ret ∷ [])) [] 1000 (ran [] (endings.Returned (negsuc 0)) 2)
unfolding is_valid image_spelling number run_from step with_front unwound initial operation_of
push_gives_a_negative_number = record { valid = refl; runs = refl }

pub push_big_is_plain_where_push_is_signed : Row (plain (push_big 0x80000000 0 ∷ push_wide 0x80000000 0 ∷ gt ∷ ret ∷ [])) [] 1000 (ran [] (endings.Returned (pos 1)) 4)
unfolding is_valid image_spelling number run_from step with_front unwound initial operation_of
push_big_is_plain_where_push_is_signed = record { valid = refl; runs = refl }

pub null_is_no_number : Row (plain (push_null ∷ ret ∷ [])) [] 1000 (ran [] (endings.Undefined kinds.Mixed) 2)
unfolding is_valid image_spelling number run_from step with_front unwound initial operation_of
null_is_no_number = record { valid = refl; runs = refl }

pub nulls_are_equal : Row (plain (push_null ∷ push_null ∷ eq ∷ ret ∷ [])) [] 1000 (ran [] (endings.Returned (pos 1)) 4)
unfolding is_valid image_spelling number run_from step with_front unwound initial operation_of
nulls_are_equal = record { valid = refl; runs = refl }

pub dup_gives_it_twice : Row (plain (push 3 ∷ dup ∷ add int ∷ ret ∷ [])) [] 1000 (ran [] (endings.Returned (pos 6)) 4)
unfolding is_valid image_spelling number run_from step with_front unwound initial operation_of
dup_gives_it_twice = record { valid = refl; runs = refl }

pub drop_takes_the_last : Row (plain (push 3 ∷ push 4 ∷ pop ∷ ret ∷ [])) [] 1000 (ran [] (endings.Returned (pos 3)) 4)
unfolding is_valid image_spelling number run_from step with_front unwound initial operation_of
drop_takes_the_last = record { valid = refl; runs = refl }

pub swap_turns_two : Row (plain (push 10 ∷ push 3 ∷ swap ∷ sub int ∷ ret ∷ [])) [] 1000 (ran [] (endings.Returned (negsuc 6)) 5)
unfolding is_valid image_spelling number run_from step with_front unwound initial operation_of
swap_turns_two = record { valid = refl; runs = refl }

pub set_and_get_a_slot : Row (plain (push 5 ∷ set 2 ∷ get 2 ∷ ret ∷ [])) [] 1000 (ran [] (endings.Returned (pos 5)) 4)
unfolding is_valid image_spelling number run_from step with_front unwound initial operation_of
set_and_get_a_slot = record { valid = refl; runs = refl }

pub an_empty_slot_is_mixed : Row (plain (get 1 ∷ push 0 ∷ ret ∷ [])) [] 1000 (ran [] (endings.Undefined kinds.Mixed) 1)
unfolding is_valid image_spelling number run_from step with_front unwound initial operation_of
an_empty_slot_is_mixed = record { valid = refl; runs = refl }
