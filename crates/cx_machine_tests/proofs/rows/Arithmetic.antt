-- Runs of arithmetic in each type.
use Rattle.std.proofs.Common.{[], ◌∷◌, pos, negsuc, refl}
use Rattle.cx_code.specs.declared.run.Ending.TheVariants as endings
use Rattle.cx_code.specs.declared.run.Kind.TheVariants as kinds
use Rattle.cx_code.specs.Operation.{operation_of}
use Rattle.cx_code.specs.Spelling.{image_spelling, number}
use Rattle.cx_code.specs.State.{initial}
use Rattle.cx_code.specs.Unwind.{unwound}
use Rattle.cx_code.specs.Run.{run_from, step, with_front}
use Rattle.cx_machine_tests.specs.Checked.{is_valid}
use Rattle.cx_machine_tests.specs.Named.{push, push_wide, push_big, push_null, neg, logical_not, compl, add, sub, mul, div, rem, shl, shr, bit_and, bit_or, bit_xor, conv, ret, bool, char, int, unsigned, long, unsigned_long, plain, ran, Row}

pub neg_of_int : Row (plain (push 5 ∷ neg int ∷ ret ∷ [])) [] 1000 (ran [] (endings.Returned (negsuc 4)) 3)
unfolding is_valid image_spelling number run_from step with_front unwound initial operation_of
neg_of_int = record { valid = refl; runs = refl }

pub neg_overflows : Row (plain (push_wide 0xffffffff 0x80000000 ∷ neg int ∷ push 0 ∷ ret ∷ [])) [] 1000 (ran [] (endings.Undefined kinds.Overflow) 2)
unfolding is_valid image_spelling number run_from step with_front unwound initial operation_of
neg_overflows = record { valid = refl; runs = refl }

pub neg_of_unsigned_wraps : Row (plain (push 1 ∷ neg unsigned ∷ conv int ∷ ret ∷ [])) [] 1000 (ran [] (endings.Returned (negsuc 0)) 4)
unfolding is_valid image_spelling number run_from step with_front unwound initial operation_of
neg_of_unsigned_wraps = record { valid = refl; runs = refl }

pub not_of_7 : Row (plain (push 7 ∷ logical_not int ∷ ret ∷ [])) [] 1000 (ran [] (endings.Returned (pos 0)) 3)
unfolding is_valid image_spelling number run_from step with_front unwound initial operation_of
not_of_7 = record { valid = refl; runs = refl }

pub not_of_0 : Row (plain (push 0 ∷ logical_not int ∷ ret ∷ [])) [] 1000 (ran [] (endings.Returned (pos 1)) 3)
unfolding is_valid image_spelling number run_from step with_front unwound initial operation_of
not_of_0 = record { valid = refl; runs = refl }

pub compl_of_int : Row (plain (push 5 ∷ compl int ∷ ret ∷ [])) [] 1000 (ran [] (endings.Returned (negsuc 5)) 3)
unfolding is_valid image_spelling number run_from step with_front unwound initial operation_of
compl_of_int = record { valid = refl; runs = refl }

pub compl_of_bool_overflows : Row (plain (push 0 ∷ compl bool ∷ push 0 ∷ ret ∷ [])) [] 1000 (ran [] (endings.Undefined kinds.Overflow) 2)
unfolding is_valid image_spelling number run_from step with_front unwound initial operation_of
compl_of_bool_overflows = record { valid = refl; runs = refl }

pub compl_of_unsigned : Row (plain (push 0 ∷ compl unsigned ∷ conv int ∷ ret ∷ [])) [] 1000 (ran [] (endings.Returned (negsuc 0)) 4)
unfolding is_valid image_spelling number run_from step with_front unwound initial operation_of
compl_of_unsigned = record { valid = refl; runs = refl }

pub add_of_int : Row (plain (push 2 ∷ push 3 ∷ add int ∷ ret ∷ [])) [] 1000 (ran [] (endings.Returned (pos 5)) 4)
unfolding is_valid image_spelling number run_from step with_front unwound initial operation_of
add_of_int = record { valid = refl; runs = refl }

pub add_overflows : Row (plain (push 2147483647 ∷ push 1 ∷ add int ∷ push 0 ∷ ret ∷ [])) [] 1000 (ran [] (endings.Undefined kinds.Overflow) 3)
unfolding is_valid image_spelling number run_from step with_front unwound initial operation_of
add_overflows = record { valid = refl; runs = refl }

pub add_of_char_overflows : Row (plain (push 127 ∷ push 1 ∷ add char ∷ push 0 ∷ ret ∷ [])) [] 1000 (ran [] (endings.Undefined kinds.Overflow) 3)
unfolding is_valid image_spelling number run_from step with_front unwound initial operation_of
add_of_char_overflows = record { valid = refl; runs = refl }

pub add_of_bool_overflows : Row (plain (push 1 ∷ push 1 ∷ add bool ∷ push 0 ∷ ret ∷ [])) [] 1000 (ran [] (endings.Undefined kinds.Overflow) 3)
unfolding is_valid image_spelling number run_from step with_front unwound initial operation_of
add_of_bool_overflows = record { valid = refl; runs = refl }

pub an_operand_out_of_its_type_is_mixed : Row (plain (push 128 ∷ push 1 ∷ add char ∷ push 0 ∷ ret ∷ [])) [] 1000 (ran [] (endings.Undefined kinds.Mixed) 3)
unfolding is_valid image_spelling number run_from step with_front unwound initial operation_of
an_operand_out_of_its_type_is_mixed = record { valid = refl; runs = refl }

pub a_pointer_is_mixed_to_add : Row (plain (push 128 ∷ push_null ∷ add int ∷ push 0 ∷ ret ∷ [])) [] 1000 (ran [] (endings.Undefined kinds.Mixed) 3)
unfolding is_valid image_spelling number run_from step with_front unwound initial operation_of
a_pointer_is_mixed_to_add = record { valid = refl; runs = refl }

pub add_of_unsigned_wraps : Row (plain (push 4294967295 ∷ push 1 ∷ add unsigned ∷ ret ∷ [])) [] 1000 (ran [] (endings.Returned (pos 0)) 4)
unfolding is_valid image_spelling number run_from step with_front unwound initial operation_of
add_of_unsigned_wraps = record { valid = refl; runs = refl }

pub add_of_unsigned_long_wraps : Row (plain (push_big 0xffffffff 0xffffffff ∷ push 2 ∷ add unsigned_long ∷ ret ∷ [])) [] 1000 (ran [] (endings.Returned (pos 1)) 4)
unfolding is_valid image_spelling number run_from step with_front unwound initial operation_of
add_of_unsigned_long_wraps = record { valid = refl; runs = refl }

pub add_of_long_overflows : Row (plain (push_wide 0x7fffffff 0xffffffff ∷ push 1 ∷ add long ∷ push 0 ∷ ret ∷ [])) [] 1000 (ran [] (endings.Undefined kinds.Overflow) 3)
unfolding is_valid image_spelling number run_from step with_front unwound initial operation_of
add_of_long_overflows = record { valid = refl; runs = refl }

pub sub_of_int : Row (plain (push 2 ∷ push 5 ∷ sub int ∷ ret ∷ [])) [] 1000 (ran [] (endings.Returned (negsuc 2)) 4)
unfolding is_valid image_spelling number run_from step with_front unwound initial operation_of
sub_of_int = record { valid = refl; runs = refl }

pub sub_of_unsigned_wraps : Row (plain (push 0 ∷ push 1 ∷ sub unsigned ∷ conv int ∷ ret ∷ [])) [] 1000 (ran [] (endings.Returned (negsuc 0)) 5)
unfolding is_valid image_spelling number run_from step with_front unwound initial operation_of
sub_of_unsigned_wraps = record { valid = refl; runs = refl }

pub mul_of_int : Row (plain (push 6 ∷ push 7 ∷ mul int ∷ ret ∷ [])) [] 1000 (ran [] (endings.Returned (pos 42)) 4)
unfolding is_valid image_spelling number run_from step with_front unwound initial operation_of
mul_of_int = record { valid = refl; runs = refl }

pub mul_overflows : Row (plain (push 65536 ∷ push 65536 ∷ mul int ∷ push 0 ∷ ret ∷ [])) [] 1000 (ran [] (endings.Undefined kinds.Overflow) 3)
unfolding is_valid image_spelling number run_from step with_front unwound initial operation_of
mul_overflows = record { valid = refl; runs = refl }

pub mul_of_unsigned_wraps : Row (plain (push 65536 ∷ push 65536 ∷ mul unsigned ∷ ret ∷ [])) [] 1000 (ran [] (endings.Returned (pos 0)) 4)
unfolding is_valid image_spelling number run_from step with_front unwound initial operation_of
mul_of_unsigned_wraps = record { valid = refl; runs = refl }

pub div_goes_towards_0 : Row (plain (push_wide 0xffffffff 4294967289 ∷ push 2 ∷ div int ∷ ret ∷ [])) [] 1000 (ran [] (endings.Returned (negsuc 2)) 4)
unfolding is_valid image_spelling number run_from step with_front unwound initial operation_of
div_goes_towards_0 = record { valid = refl; runs = refl }

pub div_by_0 : Row (plain (push 7 ∷ push 0 ∷ div int ∷ push 0 ∷ ret ∷ [])) [] 1000 (ran [] (endings.Undefined kinds.Division) 3)
unfolding is_valid image_spelling number run_from step with_front unwound initial operation_of
div_by_0 = record { valid = refl; runs = refl }

pub div_out_of_range : Row (plain (push_wide 0xffffffff 0x80000000 ∷ push_wide 0xffffffff 4294967295 ∷ div int ∷ push 0 ∷ ret ∷ [])) [] 1000 (ran [] (endings.Undefined kinds.Division) 3)
unfolding is_valid image_spelling number run_from step with_front unwound initial operation_of
div_out_of_range = record { valid = refl; runs = refl }

pub rem_has_the_sign_of_the_dividend : Row (plain (push_wide 0xffffffff 4294967289 ∷ push 2 ∷ rem int ∷ ret ∷ [])) [] 1000 (ran [] (endings.Returned (negsuc 0)) 4)
unfolding is_valid image_spelling number run_from step with_front unwound initial operation_of
rem_has_the_sign_of_the_dividend = record { valid = refl; runs = refl }

pub rem_by_0 : Row (plain (push 7 ∷ push 0 ∷ rem int ∷ push 0 ∷ ret ∷ [])) [] 1000 (ran [] (endings.Undefined kinds.Division) 3)
unfolding is_valid image_spelling number run_from step with_front unwound initial operation_of
rem_by_0 = record { valid = refl; runs = refl }

pub rem_out_of_range : Row (plain (push_wide 0xffffffff 0x80000000 ∷ push_wide 0xffffffff 4294967295 ∷ rem int ∷ push 0 ∷ ret ∷ [])) [] 1000 (ran [] (endings.Undefined kinds.Division) 3)
unfolding is_valid image_spelling number run_from step with_front unwound initial operation_of
rem_out_of_range = record { valid = refl; runs = refl }

pub mixed_comes_before_division : Row (plain (push_big 1 0 ∷ push 0 ∷ div int ∷ push 0 ∷ ret ∷ [])) [] 1000 (ran [] (endings.Undefined kinds.Mixed) 3)
unfolding is_valid image_spelling number run_from step with_front unwound initial operation_of
mixed_comes_before_division = record { valid = refl; runs = refl }

pub shl_of_int : Row (plain (push 1 ∷ push 3 ∷ shl int ∷ ret ∷ [])) [] 1000 (ran [] (endings.Returned (pos 8)) 4)
unfolding is_valid image_spelling number run_from step with_front unwound initial operation_of
shl_of_int = record { valid = refl; runs = refl }

pub shl_into_the_sign : Row (plain (push 1 ∷ push 31 ∷ shl int ∷ ret ∷ [])) [] 1000 (ran [] (endings.Returned (negsuc 2147483647)) 4)
unfolding is_valid image_spelling number run_from step with_front unwound initial operation_of
shl_into_the_sign = record { valid = refl; runs = refl }

pub shl_of_a_negative_number : Row (plain (push_wide 0xffffffff 4294967295 ∷ push 1 ∷ shl int ∷ ret ∷ [])) [] 1000 (ran [] (endings.Returned (negsuc 1)) 4)
unfolding is_valid image_spelling number run_from step with_front unwound initial operation_of
shl_of_a_negative_number = record { valid = refl; runs = refl }

pub shl_of_char_wraps : Row (plain (push 64 ∷ push 1 ∷ shl char ∷ ret ∷ [])) [] 1000 (ran [] (endings.Returned (negsuc 127)) 4)
unfolding is_valid image_spelling number run_from step with_front unwound initial operation_of
shl_of_char_wraps = record { valid = refl; runs = refl }

pub shl_by_the_width : Row (plain (push 1 ∷ push 32 ∷ shl int ∷ push 0 ∷ ret ∷ [])) [] 1000 (ran [] (endings.Undefined kinds.Shift) 3)
unfolding is_valid image_spelling number run_from step with_front unwound initial operation_of
shl_by_the_width = record { valid = refl; runs = refl }

pub shl_by_a_negative_number : Row (plain (push 1 ∷ push_wide 0xffffffff 4294967295 ∷ shl int ∷ push 0 ∷ ret ∷ [])) [] 1000 (ran [] (endings.Undefined kinds.Shift) 3)
unfolding is_valid image_spelling number run_from step with_front unwound initial operation_of
shl_by_a_negative_number = record { valid = refl; runs = refl }

pub shr_of_a_negative_number : Row (plain (push_wide 0xffffffff 4294967288 ∷ push 1 ∷ shr int ∷ ret ∷ [])) [] 1000 (ran [] (endings.Returned (negsuc 3)) 4)
unfolding is_valid image_spelling number run_from step with_front unwound initial operation_of
shr_of_a_negative_number = record { valid = refl; runs = refl }

pub shr_of_unsigned : Row (plain (push 4294967288 ∷ push 1 ∷ shr unsigned ∷ ret ∷ [])) [] 1000 (ran [] (endings.Returned (pos 2147483644)) 4)
unfolding is_valid image_spelling number run_from step with_front unwound initial operation_of
shr_of_unsigned = record { valid = refl; runs = refl }

pub shr_by_the_width : Row (plain (push 1 ∷ push 64 ∷ shr unsigned_long ∷ push 0 ∷ ret ∷ [])) [] 1000 (ran [] (endings.Undefined kinds.Shift) 3)
unfolding is_valid image_spelling number run_from step with_front unwound initial operation_of
shr_by_the_width = record { valid = refl; runs = refl }

pub and_of_int : Row (plain (push 6 ∷ push 3 ∷ bit_and int ∷ ret ∷ [])) [] 1000 (ran [] (endings.Returned (pos 2)) 4)
unfolding is_valid image_spelling number run_from step with_front unwound initial operation_of
and_of_int = record { valid = refl; runs = refl }

pub and_of_a_negative_number : Row (plain (push_wide 0xffffffff 4294967295 ∷ push 5 ∷ bit_and int ∷ ret ∷ [])) [] 1000 (ran [] (endings.Returned (pos 5)) 4)
unfolding is_valid image_spelling number run_from step with_front unwound initial operation_of
and_of_a_negative_number = record { valid = refl; runs = refl }

pub or_of_int : Row (plain (push 6 ∷ push 3 ∷ bit_or int ∷ ret ∷ [])) [] 1000 (ran [] (endings.Returned (pos 7)) 4)
unfolding is_valid image_spelling number run_from step with_front unwound initial operation_of
or_of_int = record { valid = refl; runs = refl }

pub xor_of_int : Row (plain (push 6 ∷ push 3 ∷ bit_xor int ∷ ret ∷ [])) [] 1000 (ran [] (endings.Returned (pos 5)) 4)
unfolding is_valid image_spelling number run_from step with_front unwound initial operation_of
xor_of_int = record { valid = refl; runs = refl }

pub xor_of_a_negative_number : Row (plain (push_wide 0xffffffff 4294967295 ∷ push 5 ∷ bit_xor int ∷ ret ∷ [])) [] 1000 (ran [] (endings.Returned (negsuc 5)) 4)
unfolding is_valid image_spelling number run_from step with_front unwound initial operation_of
xor_of_a_negative_number = record { valid = refl; runs = refl }
