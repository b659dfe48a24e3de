-- Runs of comparisons and conversions.
use Rattle.std.proofs.Common.{[], ◌∷◌, pos, negsuc, refl}
use Rattle.cx_code.specs.declared.run.Ending.TheVariants as endings
use Rattle.cx_code.specs.declared.run.Kind.TheVariants as kinds
use Rattle.cx_code.specs.Operation.{operation_of}
use Rattle.cx_code.specs.Spelling.{image_spelling, number}
use Rattle.cx_code.specs.State.{initial}
use Rattle.cx_code.specs.Unwind.{unwound}
use Rattle.cx_code.specs.Run.{run_from, step, with_front}
use Rattle.cx_machine_tests.specs.Checked.{is_valid}
use Rattle.cx_machine_tests.specs.Named.{push, push_wide, push_big, push_null, get, make, offset, eq, ne, lt, le, gt, ge, conv, ret, bool, char, int, unsigned, long, unsigned_long, plain, ran, Row}

pub eq_of_equal_numbers : Row (plain (push 3 ∷ push 3 ∷ eq ∷ ret ∷ [])) [] 1000 (ran [] (endings.Returned (pos 1)) 4)
unfolding is_valid image_spelling number run_from step with_front unwound initial operation_of
eq_of_equal_numbers = record { valid = refl; runs = refl }

pub eq_of_other_numbers : Row (plain (push 3 ∷ push 4 ∷ eq ∷ ret ∷ [])) [] 1000 (ran [] (endings.Returned (pos 0)) 4)
unfolding is_valid image_spelling number run_from step with_front unwound initial operation_of
eq_of_other_numbers = record { valid = refl; runs = refl }

pub ne_of_equal_numbers : Row (plain (push 3 ∷ push 3 ∷ ne ∷ ret ∷ [])) [] 1000 (ran [] (endings.Returned (pos 0)) 4)
unfolding is_valid image_spelling number run_from step with_front unwound initial operation_of
ne_of_equal_numbers = record { valid = refl; runs = refl }

pub ne_of_other_numbers : Row (plain (push 3 ∷ push 4 ∷ ne ∷ ret ∷ [])) [] 1000 (ran [] (endings.Returned (pos 1)) 4)
unfolding is_valid image_spelling number run_from step with_front unwound initial operation_of
ne_of_other_numbers = record { valid = refl; runs = refl }

pub eq_of_an_address_with_itself : Row (plain (make 1 0 ∷ get 0 ∷ get 0 ∷ eq ∷ ret ∷ [])) [] 1000 (ran [] (endings.Returned (pos 1)) 5)
unfolding is_valid image_spelling number run_from step with_front unwound initial operation_of
eq_of_an_address_with_itself = record { valid = refl; runs = refl }

pub eq_of_two_leaves : Row (plain (make 2 0 ∷ get 0 ∷ get 0 ∷ offset 1 ∷ eq ∷ ret ∷ [])) [] 1000 (ran [] (endings.Returned (pos 0)) 6)
unfolding is_valid image_spelling number run_from step with_front unwound initial operation_of
eq_of_two_leaves = record { valid = refl; runs = refl }

pub eq_of_two_objects : Row (plain (make 1 0 ∷ make 1 1 ∷ get 0 ∷ get 1 ∷ eq ∷ ret ∷ [])) [] 1000 (ran [] (endings.Returned (pos 0)) 6)
unfolding is_valid image_spelling number run_from step with_front unwound initial operation_of
eq_of_two_objects = record { valid = refl; runs = refl }

pub eq_of_an_address_and_null : Row (plain (make 1 0 ∷ get 0 ∷ push_null ∷ eq ∷ ret ∷ [])) [] 1000 (ran [] (endings.Returned (pos 0)) 5)
unfolding is_valid image_spelling number run_from step with_front unwound initial operation_of
eq_of_an_address_and_null = record { valid = refl; runs = refl }

pub ne_of_null_and_an_address : Row (plain (make 1 0 ∷ push_null ∷ get 0 ∷ ne ∷ ret ∷ [])) [] 1000 (ran [] (endings.Returned (pos 1)) 5)
unfolding is_valid image_spelling number run_from step with_front unwound initial operation_of
ne_of_null_and_an_address = record { valid = refl; runs = refl }

pub eq_of_a_number_and_null_is_mixed : Row (plain (push 0 ∷ push_null ∷ eq ∷ push 0 ∷ ret ∷ [])) [] 1000 (ran [] (endings.Undefined kinds.Mixed) 3)
unfolding is_valid image_spelling number run_from step with_front unwound initial operation_of
eq_of_a_number_and_null_is_mixed = record { valid = refl; runs = refl }

pub eq_of_an_address_and_a_number_is_mixed : Row (plain (make 1 0 ∷ get 0 ∷ push 3 ∷ eq ∷ push 0 ∷ ret ∷ [])) [] 1000 (ran [] (endings.Undefined kinds.Mixed) 4)
unfolding is_valid image_spelling number run_from step with_front unwound initial operation_of
eq_of_an_address_and_a_number_is_mixed = record { valid = refl; runs = refl }

pub lt_of_1_and_2 : Row (plain (push 1 ∷ push 2 ∷ lt ∷ ret ∷ [])) [] 1000 (ran [] (endings.Returned (pos 1)) 4)
unfolding is_valid image_spelling number run_from step with_front unwound initial operation_of
lt_of_1_and_2 = record { valid = refl; runs = refl }

pub lt_of_2_and_2 : Row (plain (push 2 ∷ push 2 ∷ lt ∷ ret ∷ [])) [] 1000 (ran [] (endings.Returned (pos 0)) 4)
unfolding is_valid image_spelling number run_from step with_front unwound initial operation_of
lt_of_2_and_2 = record { valid = refl; runs = refl }

pub le_of_2_and_2 : Row (plain (push 2 ∷ push 2 ∷ le ∷ ret ∷ [])) [] 1000 (ran [] (endings.Returned (pos 1)) 4)
unfolding is_valid image_spelling number run_from step with_front unwound initial operation_of
le_of_2_and_2 = record { valid = refl; runs = refl }

pub gt_of_1_and_2 : Row (plain (push 1 ∷ push 2 ∷ gt ∷ ret ∷ [])) [] 1000 (ran [] (endings.Returned (pos 0)) 4)
unfolding is_valid image_spelling number run_from step with_front unwound initial operation_of
gt_of_1_and_2 = record { valid = refl; runs = refl }

pub gt_of_a_negative_number : Row (plain (push 1 ∷ push_wide 0xffffffff 4294967294 ∷ gt ∷ ret ∷ [])) [] 1000 (ran [] (endings.Returned (pos 1)) 4)
unfolding is_valid image_spelling number run_from step with_front unwound initial operation_of
gt_of_a_negative_number = record { valid = refl; runs = refl }

pub ge_of_2_and_2 : Row (plain (push 2 ∷ push 2 ∷ ge ∷ ret ∷ [])) [] 1000 (ran [] (endings.Returned (pos 1)) 4)
unfolding is_valid image_spelling number run_from step with_front unwound initial operation_of
ge_of_2_and_2 = record { valid = refl; runs = refl }

pub ge_of_1_and_2 : Row (plain (push 1 ∷ push 2 ∷ ge ∷ ret ∷ [])) [] 1000 (ran [] (endings.Returned (pos 0)) 4)
unfolding is_valid image_spelling number run_from step with_front unwound initial operation_of
ge_of_1_and_2 = record { valid = refl; runs = refl }

pub null_is_mixed_to_lt : Row (plain (push_null ∷ push 1 ∷ lt ∷ push 0 ∷ ret ∷ [])) [] 1000 (ran [] (endings.Undefined kinds.Mixed) 3)
unfolding is_valid image_spelling number run_from step with_front unwound initial operation_of
null_is_mixed_to_lt = record { valid = refl; runs = refl }

pub conv_to_char : Row (plain (push 300 ∷ conv char ∷ ret ∷ [])) [] 1000 (ran [] (endings.Returned (pos 44)) 3)
unfolding is_valid image_spelling number run_from step with_front unwound initial operation_of
conv_to_char = record { valid = refl; runs = refl }

pub conv_to_char_is_signed : Row (plain (push 200 ∷ conv char ∷ ret ∷ [])) [] 1000 (ran [] (endings.Returned (negsuc 55)) 3)
unfolding is_valid image_spelling number run_from step with_front unwound initial operation_of
conv_to_char_is_signed = record { valid = refl; runs = refl }

pub conv_to_int_wraps : Row (plain (push_wide 1 5 ∷ conv int ∷ ret ∷ [])) [] 1000 (ran [] (endings.Returned (pos 5)) 3)
unfolding is_valid image_spelling number run_from step with_front unwound initial operation_of
conv_to_int_wraps = record { valid = refl; runs = refl }

pub conv_to_int_is_signed : Row (plain (push 4294967295 ∷ conv int ∷ ret ∷ [])) [] 1000 (ran [] (endings.Returned (negsuc 0)) 3)
unfolding is_valid image_spelling number run_from step with_front unwound initial operation_of
conv_to_int_is_signed = record { valid = refl; runs = refl }

pub conv_to_unsigned : Row (plain (push_wide 0xffffffff 4294967295 ∷ conv unsigned ∷ push 4294967295 ∷ eq ∷ ret ∷ [])) [] 1000 (ran [] (endings.Returned (pos 1)) 5)
unfolding is_valid image_spelling number run_from step with_front unwound initial operation_of
conv_to_unsigned = record { valid = refl; runs = refl }

pub conv_to_long : Row (plain (push_big 0xffffffff 0xffffffff ∷ conv long ∷ ret ∷ [])) [] 1000 (ran [] (endings.Returned (negsuc 0)) 3)
unfolding is_valid image_spelling number run_from step with_front unwound initial operation_of
conv_to_long = record { valid = refl; runs = refl }

pub conv_to_unsigned_long : Row (plain (push_wide 0xffffffff 4294967295 ∷ conv unsigned_long ∷ push_big 0xffffffff 0xffffffff ∷ eq ∷ ret ∷ [])) [] 1000 (ran [] (endings.Returned (pos 1)) 5)
unfolding is_valid image_spelling number run_from step with_front unwound initial operation_of
conv_to_unsigned_long = record { valid = refl; runs = refl }

pub conv_of_2_to_bool : Row (plain (push 2 ∷ conv bool ∷ ret ∷ [])) [] 1000 (ran [] (endings.Returned (pos 1)) 3)
unfolding is_valid image_spelling number run_from step with_front unwound initial operation_of
conv_of_2_to_bool = record { valid = refl; runs = refl }

pub conv_of_null_to_bool : Row (plain (push_null ∷ conv bool ∷ ret ∷ [])) [] 1000 (ran [] (endings.Returned (pos 0)) 3)
unfolding is_valid image_spelling number run_from step with_front unwound initial operation_of
conv_of_null_to_bool = record { valid = refl; runs = refl }

pub conv_of_an_address_to_bool : Row (plain (make 1 0 ∷ get 0 ∷ conv bool ∷ ret ∷ [])) [] 1000 (ran [] (endings.Returned (pos 1)) 4)
unfolding is_valid image_spelling number run_from step with_front unwound initial operation_of
conv_of_an_address_to_bool = record { valid = refl; runs = refl }

pub conv_of_null_to_int_is_mixed : Row (plain (push_null ∷ conv int ∷ push 0 ∷ ret ∷ [])) [] 1000 (ran [] (endings.Undefined kinds.Mixed) 2)
unfolding is_valid image_spelling number run_from step with_front unwound initial operation_of
conv_of_null_to_int_is_mixed = record { valid = refl; runs = refl }
