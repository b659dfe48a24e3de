-- What each instruction comes to from a sound state, a clause for each code in the order of the codes.
use Rattle.std.proofs.Common.{pos, ◌+◌, ◌==◌, List, ◌∷◌, length, Option, Some, not, int_lt, int_le, if◌then◌else◌, slice_get, slice_set, refl, ap, arith}
use Rattle.std.proofs.lemmas.List.{length-set}
use Rattle.cx_code.specs.declared.image.Image.{Image}
use Rattle.cx_code.specs.declared.image.Function.{Function}
use Rattle.cx_code.specs.declared.operation.Operation.{Operation}
use Rattle.cx_code.specs.declared.operation.Operation.TheVariants as does
use Rattle.cx_code.specs.declared.run.Value.{Value}
use Rattle.cx_code.specs.declared.run.Value.TheVariants as values
use Rattle.cx_code.specs.Arithmetic.{is_zero, negated, logical_not, complement, sum, difference, product, quotient, remainder, shifted_left, shifted_right, both_bits, either_bits, different_bits, value_as}
use Rattle.cx_code.specs.Store.{ended, leaf_at, loaded, made, stored}
use Rattle.cx_code.specs.State.{State}
use Rattle.cx_code.specs.declared.run.Kind.TheVariants as kinds
use Rattle.cx_code.specs.Act.{on_some, act, mixed, undefined, next, with_slots, with_store, byte_at}
use Rattle.cx_code.specs.Reached.{Origin}
use Rattle.cx_code.specs.Rules.{IsValid}
use Rattle.cx_sound.specs.Sound.{IsSound}
use Rattle.cx_sound.proofs.Steps.{EachGoes, each_value, each_number, each_address, each_object, each_some, each_slot, each_loaded, each_natural, each_branch}
use Rattle.cx_sound.proofs.At.{IsAt, at_store, at_slots, goes_behind, jumps_on}
use Rattle.cx_sound.proofs.Shapes.{unary_goes, binary_goes, compared_goes, matched_goes, copied_from_goes, byte_at_goes, asked_goes, read_goes, held_goes, branch_follows, branch_follows_not}
use Rattle.cx_sound.proofs.Calls.{called_goes, return_goes}
use Rattle.cx_sound.proofs.Thrown.{thrown_goes, thrown_again_goes, resumed_goes, released_goes, violated_goes}

module _ {image : Image} {function : Function} {origin : Origin} (valid : IsValid image) where
  pub acts : (operation : Operation) (s : State) → IsAt image function origin operation s → EachGoes (IsSound image) (act image operation s)
  acts (does.Push n) s at = goes_behind valid s (values.Number n ∷ s.frame.operands) at refl (omega arith)
  acts (does.PushBig n) s at = goes_behind valid s (values.Number (pos n) ∷ s.frame.operands) at refl (omega arith)
  acts does.PushNull s at = goes_behind valid s (values.Null ∷ s.frame.operands) at refl (omega arith)
  acts does.Duplicate s at = each_value (IsSound image) s.frame.operands _ λ x below e. goes_behind valid s (x ∷ x ∷ below) at refl (omega (arith, ap length e))
  acts does.Discard s at = each_value (IsSound image) s.frame.operands _ λ x below e. goes_behind valid s below at refl (omega (arith, ap length e))
  acts does.Swap s at =
      each_value (IsSound image) s.frame.operands _ λ y below e.
      each_value (IsSound image) below _ λ x rest e'. goes_behind valid s (x ∷ y ∷ rest) at refl (omega (arith, ap length e, ap length e'))
  acts (does.Get slot) s at = each_slot (IsSound image) (slice_get s.frame.slots slot) _ λ value. goes_behind valid s (value ∷ s.frame.operands) at refl (omega arith)
  acts (does.Set slot) s at =
      each_value (IsSound image) s.frame.operands _ λ value below e.
      each_some (IsSound image) (slice_get s.frame.slots slot) mixed _ tt λ old is.
      let slots : List (Option Value) = slice_set s.frame.slots slot (Some value) in
      goes_behind valid (with_slots s slots) below (at_slots s slots (length-set s.frame.slots slot (Some value)) at) refl (omega (arith, ap length e))
  acts (does.Make leaves slot) s at =
      each_some (IsSound image) (slice_get s.frame.slots slot) mixed _ tt λ old is.
      let slots : List (Option Value) = slice_set s.frame.slots slot (Some (values.Address s.store.next 0)) in
      goes_behind valid (with_store (with_slots s slots) (made s.store leaves)) s.frame.operands
      (at_store (with_slots s slots) (made s.store leaves) (at_slots s slots (length-set s.frame.slots slot (Some (values.Address s.store.next 0))) at)) refl (omega arith)
  acts does.End s at =
      each_object (IsSound image) s.frame.operands _ λ number leaf below e.
      each_branch (IsSound image) (leaf == 0) (on_some (s.store.leaves number) (undefined kinds.Dead) (λ leaves. next (with_store s (ended s.store number)) below)) mixed
      (λ first. each_some (IsSound image) (s.store.leaves number) _ _ tt λ leaves is.
      goes_behind valid (with_store s (ended s.store number)) below (at_store s (ended s.store number) at) refl (omega (arith, ap length e)))
      (λ later. tt)
  acts does.Load s at =
      each_address (IsSound image) s.frame.operands _ λ number leaf below e.
      each_loaded (IsSound image) (loaded s.store number leaf) _ λ value. goes_behind valid s (value ∷ below) at refl (omega (arith, ap length e))
  acts does.Store s at =
      each_value (IsSound image) s.frame.operands _ λ value below e.
      each_address (IsSound image) below _ λ number leaf rest e'.
      each_some (IsSound image) (stored s.store number leaf value) _ _ tt λ store is.
      goes_behind valid (with_store s store) rest (at_store s store at) refl (omega (arith, ap length e, ap length e'))
  acts (does.Offset by) s at =
      each_address (IsSound image) s.frame.operands _ λ number leaf below e.
      each_some (IsSound image) (leaf_at s.store number (leaf + by)) _ _ tt λ value is.
      goes_behind valid s (values.Address number (leaf + by) ∷ below) at refl (omega (arith, ap length e))
  acts does.Copy s at =
      each_value (IsSound image) s.frame.operands _ λ to below e.
      each_value (IsSound image) below _ λ from rest e'.
      copied_from_goes valid s from to rest at refl (omega (arith, ap length e, ap length e'))
  acts (does.Negate scalar) s at = unary_goes valid s (negated scalar) at refl refl refl
  acts (does.Not scalar) s at = unary_goes valid s (logical_not scalar) at refl refl refl
  acts (does.Complement scalar) s at = unary_goes valid s (complement scalar) at refl refl refl
  acts (does.Add scalar) s at = binary_goes valid s (sum scalar) at refl refl refl
  acts (does.Subtract scalar) s at = binary_goes valid s (difference scalar) at refl refl refl
  acts (does.Multiply scalar) s at = binary_goes valid s (product scalar) at refl refl refl
  acts (does.Divide scalar) s at = binary_goes valid s (quotient scalar) at refl refl refl
  acts (does.Remainder scalar) s at = binary_goes valid s (remainder scalar) at refl refl refl
  acts (does.ShiftLeft scalar) s at = binary_goes valid s (shifted_left scalar) at refl refl refl
  acts (does.ShiftRight scalar) s at = binary_goes valid s (shifted_right scalar) at refl refl refl
  acts (does.BitAnd scalar) s at = binary_goes valid s (both_bits scalar) at refl refl refl
  acts (does.BitOr scalar) s at = binary_goes valid s (either_bits scalar) at refl refl refl
  acts (does.BitXor scalar) s at = binary_goes valid s (different_bits scalar) at refl refl refl
  acts does.Equal s at = matched_goes valid s (λ equal. equal) at refl refl refl
  acts does.NotEqual s at = matched_goes valid s not at refl refl refl
  acts does.Less s at = compared_goes valid s int_lt at refl refl refl
  acts does.LessOrEqual s at = compared_goes valid s int_le at refl refl refl
  acts does.Greater s at = compared_goes valid s (λ x y. int_lt y x) at refl refl refl
  acts does.GreaterOrEqual s at = compared_goes valid s (λ x y. int_le y x) at refl refl refl
  acts (does.Convert scalar) s at =
      each_value (IsSound image) s.frame.operands _ λ x below e.
      each_some (IsSound image) (value_as scalar x) mixed _ tt λ z is. goes_behind valid s (values.Number z ∷ below) at refl (omega (arith, ap length e))
  acts (does.Jump to) s at = jumps_on valid s to s.frame.operands at refl (omega arith)
  acts (does.JumpZero to) s at =
      each_number (IsSound image) s.frame.operands _ λ n below e.
      jumps_on valid s (if is_zero n then to else (s.frame.place + 1)) below at (branch_follows (is_zero n) to s.frame.place) (omega (arith, ap length e))
  acts (does.JumpNonzero to) s at =
      each_number (IsSound image) s.frame.operands _ λ n below e.
      jumps_on valid s (if is_zero n then (s.frame.place + 1) else to) below at (branch_follows_not (is_zero n) to s.frame.place) (omega (arith, ap length e))
  acts (does.Call callee count) s at = called_goes valid s callee count at
  acts does.Return s at = return_goes valid s at
  acts (does.Global index) s at = goes_behind valid s (values.Address (index + 1) 0 ∷ s.frame.operands) at refl (omega arith)
  acts does.Out s at = each_number (IsSound image) s.frame.operands _ λ n below e. goes_behind valid s (_ ∷ below) at refl (omega (arith, ap length e))
  acts does.In s at = read_goes valid s s.input at refl refl refl
  acts does.TextAt s at =
      each_number (IsSound image) s.frame.operands _ λ i below e.
      each_number (IsSound image) below _ λ t rest e'.
      each_natural (IsSound image) t (λ text. byte_at image s text i rest) λ text. byte_at_goes valid s text i rest at refl (omega (arith, ap length e, ap length e'))
  acts (does.TextOf text) s at = each_number (IsSound image) s.frame.operands _ λ i below e. byte_at_goes valid s text i below at refl (omega (arith, ap length e))
  acts (does.Begin assertion party semantic) s at = goes_behind valid s s.frame.operands at refl (omega arith)
  acts (does.Verdict assertion) s at = each_number (IsSound image) s.frame.operands _ λ n below e. goes_behind valid s s.frame.operands at refl (omega arith)
  acts (does.Violate assertion mode semantic) s at = violated_goes valid s assertion mode semantic at
  acts (does.Field field) s at = asked_goes valid s field at refl refl refl
  acts does.ContractEnd s at = tt
  acts (does.Throw of) s at = thrown_goes s of at
  acts does.Rethrow s at = thrown_again_goes s s.held at refl at.held
  acts does.Held s at = held_goes valid s s.held at refl refl refl
  acts does.Release s at = released_goes valid s s.held at at.held
  acts does.Resume s at = resumed_goes s s.frame.pending at refl at.pending
  acts (does.Destroyed class) s at = each_object (IsSound image) s.frame.operands _ λ number leaf below e. goes_behind valid s below at refl (omega (arith, ap length e))
  acts does.Flow s at = tt
