-- Runs of instructions on objects and globals.
use Rattle.std.proofs.Common.{[], ◌∷◌, pos, refl}
use Rattle.cx_code.specs.declared.run.Event.TheVariants as events
use Rattle.cx_code.specs.declared.run.Ending.TheVariants as endings
use Rattle.cx_code.specs.declared.run.Kind.TheVariants as kinds
use Rattle.cx_code.specs.Operation.{operation_of}
use Rattle.cx_code.specs.Spelling.{image_spelling, number}
use Rattle.cx_code.specs.State.{initial}
use Rattle.cx_code.specs.Unwind.{unwound}
use Rattle.cx_code.specs.Run.{run_from, step, with_front}
use Rattle.cx_machine_tests.specs.Checked.{is_valid}
use Rattle.cx_machine_tests.specs.Named.{push, push_null, get, make, end_object, load, store, offset, copy, conv, ret, global, destroyed, bool, plain, ran, Row}

pub a_stored_value_is_loaded : Row (plain (make 1 0 ∷ get 0 ∷ push 9 ∷ store ∷ get 0 ∷ load ∷ ret ∷ [])) [] 1000 (ran [] (endings.Returned (pos 9)) 7)
unfolding is_valid image_spelling number run_from step with_front unwound initial operation_of
a_stored_value_is_loaded = record { valid = refl; runs = refl }

pub objects_are_numbered_behind_the_globals : Row (plain (make 1 0 ∷ make 1 1 ∷ get 0 ∷ destroyed 0 ∷ get 1 ∷ destroyed 1 ∷ push 0 ∷ ret ∷ [])) [] 1000 (ran (events.Destroyed 0 3 0 ∷ events.Destroyed 1 4 0 ∷ []) (endings.Returned (pos 0)) 8)
unfolding is_valid image_spelling number run_from step with_front unwound initial operation_of
objects_are_numbered_behind_the_globals = record { valid = refl; runs = refl }

pub a_number_is_not_used_again : Row (plain (make 1 0 ∷ get 0 ∷ end_object ∷ make 1 0 ∷ get 0 ∷ destroyed 0 ∷ push 0 ∷ ret ∷ [])) [] 1000 (ran (events.Destroyed 0 4 0 ∷ []) (endings.Returned (pos 0)) 8)
unfolding is_valid image_spelling number run_from step with_front unwound initial operation_of
a_number_is_not_used_again = record { valid = refl; runs = refl }

pub an_ended_object_is_dead_to_load : Row (plain (make 1 0 ∷ get 0 ∷ end_object ∷ get 0 ∷ load ∷ push 0 ∷ ret ∷ [])) [] 1000 (ran [] (endings.Undefined kinds.Dead) 5)
unfolding is_valid image_spelling number run_from step with_front unwound initial operation_of
an_ended_object_is_dead_to_load = record { valid = refl; runs = refl }

pub an_ended_object_is_dead_to_store : Row (plain (make 1 0 ∷ get 0 ∷ end_object ∷ get 0 ∷ push 1 ∷ store ∷ push 0 ∷ ret ∷ [])) [] 1000 (ran [] (endings.Undefined kinds.Dead) 6)
unfolding is_valid image_spelling number run_from step with_front unwound initial operation_of
an_ended_object_is_dead_to_store = record { valid = refl; runs = refl }

pub an_ended_object_is_dead_to_end : Row (plain (make 1 0 ∷ get 0 ∷ end_object ∷ get 0 ∷ end_object ∷ push 0 ∷ ret ∷ [])) [] 1000 (ran [] (endings.Undefined kinds.Dead) 5)
unfolding is_valid image_spelling number run_from step with_front unwound initial operation_of
an_ended_object_is_dead_to_end = record { valid = refl; runs = refl }

pub an_ended_object_is_dead_to_offset : Row (plain (make 1 0 ∷ get 0 ∷ end_object ∷ get 0 ∷ offset 0 ∷ push 0 ∷ ret ∷ [])) [] 1000 (ran [] (endings.Undefined kinds.Dead) 5)
unfolding is_valid image_spelling number run_from step with_front unwound initial operation_of
an_ended_object_is_dead_to_offset = record { valid = refl; runs = refl }

pub a_later_leaf_is_mixed_to_end : Row (plain (make 2 0 ∷ get 0 ∷ offset 1 ∷ end_object ∷ push 0 ∷ ret ∷ [])) [] 1000 (ran [] (endings.Undefined kinds.Mixed) 4)
unfolding is_valid image_spelling number run_from step with_front unwound initial operation_of
a_later_leaf_is_mixed_to_end = record { valid = refl; runs = refl }

pub null_is_mixed_to_end : Row (plain (push_null ∷ end_object ∷ push 0 ∷ ret ∷ [])) [] 1000 (ran [] (endings.Undefined kinds.Mixed) 2)
unfolding is_valid image_spelling number run_from step with_front unwound initial operation_of
null_is_mixed_to_end = record { valid = refl; runs = refl }

pub a_number_is_mixed_to_end : Row (plain (push 3 ∷ end_object ∷ push 0 ∷ ret ∷ [])) [] 1000 (ran [] (endings.Undefined kinds.Mixed) 2)
unfolding is_valid image_spelling number run_from step with_front unwound initial operation_of
a_number_is_mixed_to_end = record { valid = refl; runs = refl }

pub null_is_null_to_load : Row (plain (push_null ∷ load ∷ push 0 ∷ ret ∷ [])) [] 1000 (ran [] (endings.Undefined kinds.Null) 2)
unfolding is_valid image_spelling number run_from step with_front unwound initial operation_of
null_is_null_to_load = record { valid = refl; runs = refl }

pub a_leaf_is_unset_at_first : Row (plain (make 1 0 ∷ get 0 ∷ load ∷ push 0 ∷ ret ∷ [])) [] 1000 (ran [] (endings.Undefined kinds.Unset) 3)
unfolding is_valid image_spelling number run_from step with_front unwound initial operation_of
a_leaf_is_unset_at_first = record { valid = refl; runs = refl }

pub a_number_is_mixed_to_load : Row (plain (push 1 ∷ load ∷ push 0 ∷ ret ∷ [])) [] 1000 (ran [] (endings.Undefined kinds.Mixed) 2)
unfolding is_valid image_spelling number run_from step with_front unwound initial operation_of
a_number_is_mixed_to_load = record { valid = refl; runs = refl }

pub null_is_null_to_store : Row (plain (push_null ∷ push 1 ∷ store ∷ push 0 ∷ ret ∷ [])) [] 1000 (ran [] (endings.Undefined kinds.Null) 3)
unfolding is_valid image_spelling number run_from step with_front unwound initial operation_of
null_is_null_to_store = record { valid = refl; runs = refl }

pub a_number_is_mixed_to_store : Row (plain (push 1 ∷ push 1 ∷ store ∷ push 0 ∷ ret ∷ [])) [] 1000 (ran [] (endings.Undefined kinds.Mixed) 3)
unfolding is_valid image_spelling number run_from step with_front unwound initial operation_of
a_number_is_mixed_to_store = record { valid = refl; runs = refl }

pub an_offset_goes_to_a_later_leaf : Row (plain (make 2 0 ∷ get 0 ∷ offset 1 ∷ push 8 ∷ store ∷ get 0 ∷ offset 1 ∷ load ∷ ret ∷ [])) [] 1000 (ran [] (endings.Returned (pos 8)) 9)
unfolding is_valid image_spelling number run_from step with_front unwound initial operation_of
an_offset_goes_to_a_later_leaf = record { valid = refl; runs = refl }

pub leaves_are_apart : Row (plain (make 2 0 ∷ get 0 ∷ offset 1 ∷ push 8 ∷ store ∷ get 0 ∷ load ∷ push 0 ∷ ret ∷ [])) [] 1000 (ran [] (endings.Undefined kinds.Unset) 7)
unfolding is_valid image_spelling number run_from step with_front unwound initial operation_of
leaves_are_apart = record { valid = refl; runs = refl }

pub a_leaf_past_the_end_is_dead : Row (plain (make 2 0 ∷ get 0 ∷ offset 2 ∷ push 0 ∷ ret ∷ [])) [] 1000 (ran [] (endings.Undefined kinds.Dead) 3)
unfolding is_valid image_spelling number run_from step with_front unwound initial operation_of
a_leaf_past_the_end_is_dead = record { valid = refl; runs = refl }

pub null_is_null_to_offset : Row (plain (push_null ∷ offset 1 ∷ push 0 ∷ ret ∷ [])) [] 1000 (ran [] (endings.Undefined kinds.Null) 2)
unfolding is_valid image_spelling number run_from step with_front unwound initial operation_of
null_is_null_to_offset = record { valid = refl; runs = refl }

pub a_leaf_is_copied : Row (plain (make 1 0 ∷ make 1 1 ∷ get 0 ∷ push 6 ∷ store ∷ get 0 ∷ get 1 ∷ copy ∷ get 1 ∷ load ∷ ret ∷ [])) [] 1000 (ran [] (endings.Returned (pos 6)) 11)
unfolding is_valid image_spelling number run_from step with_front unwound initial operation_of
a_leaf_is_copied = record { valid = refl; runs = refl }

pub an_unset_leaf_is_copied_as_it_is : Row (plain (make 1 0 ∷ make 1 1 ∷ get 1 ∷ push 6 ∷ store ∷ get 0 ∷ get 1 ∷ copy ∷ get 1 ∷ load ∷ push 0 ∷ ret ∷ [])) [] 1000 (ran [] (endings.Undefined kinds.Unset) 10)
unfolding is_valid image_spelling number run_from step with_front unwound initial operation_of
an_unset_leaf_is_copied_as_it_is = record { valid = refl; runs = refl }

pub copy_asks_the_sorts_first : Row (plain (push_null ∷ push 1 ∷ copy ∷ push 0 ∷ ret ∷ [])) [] 1000 (ran [] (endings.Undefined kinds.Mixed) 3)
unfolding is_valid image_spelling number run_from step with_front unwound initial operation_of
copy_asks_the_sorts_first = record { valid = refl; runs = refl }

pub copy_from_null_is_null : Row (plain (push_null ∷ push_null ∷ copy ∷ push 0 ∷ ret ∷ [])) [] 1000 (ran [] (endings.Undefined kinds.Null) 3)
unfolding is_valid image_spelling number run_from step with_front unwound initial operation_of
copy_from_null_is_null = record { valid = refl; runs = refl }

pub copy_from_the_dead_comes_before_to_null : Row (plain (make 1 0 ∷ get 0 ∷ end_object ∷ get 0 ∷ push_null ∷ copy ∷ push 0 ∷ ret ∷ [])) [] 1000 (ran [] (endings.Undefined kinds.Dead) 6)
unfolding is_valid image_spelling number run_from step with_front unwound initial operation_of
copy_from_the_dead_comes_before_to_null = record { valid = refl; runs = refl }

pub copy_to_null_is_null : Row (plain (make 1 0 ∷ get 0 ∷ push_null ∷ copy ∷ push 0 ∷ ret ∷ [])) [] 1000 (ran [] (endings.Undefined kinds.Null) 4)
unfolding is_valid image_spelling number run_from step with_front unwound initial operation_of
copy_to_null_is_null = record { valid = refl; runs = refl }

pub copy_to_the_dead_is_dead : Row (plain (make 1 0 ∷ make 1 1 ∷ get 1 ∷ end_object ∷ get 0 ∷ get 1 ∷ copy ∷ push 0 ∷ ret ∷ [])) [] 1000 (ran [] (endings.Undefined kinds.Dead) 7)
unfolding is_valid image_spelling number run_from step with_front unwound initial operation_of
copy_to_the_dead_is_dead = record { valid = refl; runs = refl }

pub destroyed_tells_the_leaf : Row (plain (make 2 0 ∷ get 0 ∷ offset 1 ∷ destroyed 1 ∷ push 0 ∷ ret ∷ [])) [] 1000 (ran (events.Destroyed 1 3 1 ∷ []) (endings.Returned (pos 0)) 6)
unfolding is_valid image_spelling number run_from step with_front unwound initial operation_of
destroyed_tells_the_leaf = record { valid = refl; runs = refl }

pub a_number_is_mixed_to_destroyed : Row (plain (push 1 ∷ destroyed 0 ∷ push 0 ∷ ret ∷ [])) [] 1000 (ran [] (endings.Undefined kinds.Mixed) 2)
unfolding is_valid image_spelling number run_from step with_front unwound initial operation_of
a_number_is_mixed_to_destroyed = record { valid = refl; runs = refl }

pub a_global_has_its_value : Row (plain (global 0 ∷ load ∷ ret ∷ [])) [] 1000 (ran [] (endings.Returned (pos 7)) 3)
unfolding is_valid image_spelling number run_from step with_front unwound initial operation_of
a_global_has_its_value = record { valid = refl; runs = refl }

pub a_null_global_converts_to_false : Row (plain (global 1 ∷ load ∷ conv bool ∷ ret ∷ [])) [] 1000 (ran [] (endings.Returned (pos 0)) 4)
unfolding is_valid image_spelling number run_from step with_front unwound initial operation_of
a_null_global_converts_to_false = record { valid = refl; runs = refl }

pub a_global_is_set : Row (plain (global 0 ∷ push 8 ∷ store ∷ global 0 ∷ load ∷ ret ∷ [])) [] 1000 (ran [] (endings.Returned (pos 8)) 6)
unfolding is_valid image_spelling number run_from step with_front unwound initial operation_of
a_global_is_set = record { valid = refl; runs = refl }
