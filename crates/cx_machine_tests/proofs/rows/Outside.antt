-- Runs of output, input and texts.
use Rattle.std.proofs.Common.{[], ◌∷◌, pos, negsuc, refl}
use Rattle.cx_code.specs.declared.run.Event.TheVariants as events
use Rattle.cx_code.specs.declared.run.Ending.TheVariants as endings
use Rattle.cx_code.specs.declared.run.Kind.TheVariants as kinds
use Rattle.cx_code.specs.Operation.{operation_of}
use Rattle.cx_code.specs.Spelling.{image_spelling, number}
use Rattle.cx_code.specs.State.{initial}
use Rattle.cx_code.specs.Unwind.{unwound}
use Rattle.cx_code.specs.Run.{run_from, step, with_front}
use Rattle.cx_machine_tests.specs.Checked.{is_valid}
use Rattle.cx_machine_tests.specs.Named.{push, push_wide, push_null, pop, ret, out, read, text_at, text_of, plain, ran, Row}

pub out_is_modulo_256 : Row (plain (push 321 ∷ out ∷ ret ∷ [])) [] 1000 (ran (events.Out 65 ∷ []) (endings.Returned (pos 65)) 3)
unfolding is_valid image_spelling number run_from step with_front unwound initial operation_of
out_is_modulo_256 = record { valid = refl; runs = refl }

pub out_of_a_negative_number : Row (plain (push_wide 0xffffffff 4294967295 ∷ out ∷ ret ∷ [])) [] 1000 (ran (events.Out 255 ∷ []) (endings.Returned (pos 255)) 3)
unfolding is_valid image_spelling number run_from step with_front unwound initial operation_of
out_of_a_negative_number = record { valid = refl; runs = refl }

pub null_is_mixed_to_out : Row (plain (push_null ∷ out ∷ push 0 ∷ ret ∷ [])) [] 1000 (ran [] (endings.Undefined kinds.Mixed) 2)
unfolding is_valid image_spelling number run_from step with_front unwound initial operation_of
null_is_mixed_to_out = record { valid = refl; runs = refl }

pub in_reads_bytes_in_their_order : Row (plain (read ∷ pop ∷ read ∷ ret ∷ [])) (1 ∷ 2 ∷ 3 ∷ []) 1000 (ran (events.In 1 ∷ events.In 2 ∷ []) (endings.Returned (pos 2)) 4)
unfolding is_valid image_spelling number run_from step with_front unwound initial operation_of
in_reads_bytes_in_their_order = record { valid = refl; runs = refl }

pub in_meets_the_end : Row (plain (read ∷ ret ∷ [])) [] 1000 (ran (events.InEnd ∷ []) (endings.Returned (negsuc 0)) 2)
unfolding is_valid image_spelling number run_from step with_front unwound initial operation_of
in_meets_the_end = record { valid = refl; runs = refl }

pub in_meets_the_end_again : Row (plain (read ∷ pop ∷ read ∷ pop ∷ read ∷ ret ∷ [])) (0 ∷ []) 1000 (ran (events.In 0 ∷ events.InEnd ∷ events.InEnd ∷ []) (endings.Returned (negsuc 0)) 6)
unfolding is_valid image_spelling number run_from step with_front unwound initial operation_of
in_meets_the_end_again = record { valid = refl; runs = refl }

pub a_byte_of_a_text : Row (plain (push 1 ∷ text_of 0 ∷ ret ∷ [])) [] 1000 (ran [] (endings.Returned (pos 66)) 3)
unfolding is_valid image_spelling number run_from step with_front unwound initial operation_of
a_byte_of_a_text = record { valid = refl; runs = refl }

pub a_place_past_the_end_of_a_text : Row (plain (push 2 ∷ text_of 0 ∷ ret ∷ [])) [] 1000 (ran [] (endings.Returned (negsuc 0)) 3)
unfolding is_valid image_spelling number run_from step with_front unwound initial operation_of
a_place_past_the_end_of_a_text = record { valid = refl; runs = refl }

pub an_empty_text : Row (plain (push 0 ∷ text_of 1 ∷ ret ∷ [])) [] 1000 (ran [] (endings.Returned (negsuc 0)) 3)
unfolding is_valid image_spelling number run_from step with_front unwound initial operation_of
an_empty_text = record { valid = refl; runs = refl }

pub a_negative_place_is_mixed : Row (plain (push_wide 0xffffffff 4294967295 ∷ text_of 0 ∷ push 0 ∷ ret ∷ [])) [] 1000 (ran [] (endings.Undefined kinds.Mixed) 2)
unfolding is_valid image_spelling number run_from step with_front unwound initial operation_of
a_negative_place_is_mixed = record { valid = refl; runs = refl }

pub null_is_mixed_to_text : Row (plain (push_null ∷ text_of 0 ∷ push 0 ∷ ret ∷ [])) [] 1000 (ran [] (endings.Undefined kinds.Mixed) 2)
unfolding is_valid image_spelling number run_from step with_front unwound initial operation_of
null_is_mixed_to_text = record { valid = refl; runs = refl }

pub a_byte_of_a_text_by_its_number : Row (plain (push 0 ∷ push 0 ∷ text_at ∷ ret ∷ [])) [] 1000 (ran [] (endings.Returned (pos 65)) 4)
unfolding is_valid image_spelling number run_from step with_front unwound initial operation_of
a_byte_of_a_text_by_its_number = record { valid = refl; runs = refl }

pub a_number_that_is_no_text : Row (plain (push 2 ∷ push 0 ∷ text_at ∷ push 0 ∷ ret ∷ [])) [] 1000 (ran [] (endings.Undefined kinds.Mixed) 3)
unfolding is_valid image_spelling number run_from step with_front unwound initial operation_of
a_number_that_is_no_text = record { valid = refl; runs = refl }

pub a_negative_number_is_no_text : Row (plain (push_wide 0xffffffff 4294967295 ∷ push 0 ∷ text_at ∷ push 0 ∷ ret ∷ [])) [] 1000 (ran [] (endings.Undefined kinds.Mixed) 3)
unfolding is_valid image_spelling number run_from step with_front unwound initial operation_of
a_negative_number_is_no_text = record { valid = refl; runs = refl }
