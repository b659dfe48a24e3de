-- What the shapes of plain instructions come to: they take operands, give operands, and go on behind themselves or at a jump's target.
use Rattle.std.proofs.Common.{◌≡◌, ℕ, ℤ, pos, negsuc, ◌+◌, ◌⊎◌, List, [], ◌∷◌, length, Option, Bool, true, false, if◌then◌else◌, slice_get, refl, ap, arith, inl, inr}
use Rattle.cx_code.specs.declared.image.Image.{Image}
use Rattle.cx_code.specs.declared.image.Function.{Function}
use Rattle.cx_code.specs.declared.operation.Operation.{Operation}
use Rattle.cx_code.specs.declared.operation.ViolationField.{ViolationField}
use Rattle.cx_code.specs.declared.run.Value.{Value}
use Rattle.cx_code.specs.declared.run.Value.TheVariants as values
use Rattle.cx_code.specs.Arithmetic.{Computed, truth, equal_values}
use Rattle.cx_code.specs.Store.{leaf_at, stored_leaf}
use Rattle.cx_code.specs.State.{State, Exception}
use Rattle.cx_code.specs.Act.{unary, binary, compared, matched, copied_to, copied_from, mixed, with_store, byte_at, byte_of, asked, field_value, read, held_address}
use Rattle.cx_code.specs.Reached.{Origin, taken_count, given_count, Follows}
use Rattle.cx_code.specs.Rules.{IsValid}
use Rattle.cx_sound.specs.Sound.{IsSound}
use Rattle.cx_sound.proofs.Steps.{EachGoes, each_value, each_number, each_some, each_computed, each_natural}
use Rattle.cx_sound.proofs.At.{IsAt, at_store, at_input, goes_behind}

-- ---- jumps

pub branch_follows : (b : Bool) (to place : ℕ) → ((if b then to else (place + 1)) ≡ to) ⊎ ((if b then to else (place + 1)) ≡ place + 1)
branch_follows true to place = inl refl
branch_follows false to place = inr refl

pub branch_follows_not : (b : Bool) (to place : ℕ) → ((if b then (place + 1) else to) ≡ to) ⊎ ((if b then (place + 1) else to) ≡ place + 1)
branch_follows_not true to place = inr refl
branch_follows_not false to place = inl refl

-- ---- operands

module _ {image : Image} {function : Function} {origin : Origin} {operation : Operation} (valid : IsValid image) where
  pub unary_goes : (s : State) (f : ℤ → Computed) → IsAt image function origin operation s → Follows operation s.frame.place (s.frame.place + 1)
      → taken_count function operation ≡ 1 → given_count image operation ≡ 1 → EachGoes (IsSound image) (unary s f)
  unary_goes s f at follows takes gives =
      each_number (IsSound image) s.frame.operands _ λ x below e.
      each_computed (IsSound image) (f x) _ λ z.
      goes_behind valid s (values.Number z ∷ below) at follows (omega (arith, takes, gives, ap length e))

  pub binary_goes : (s : State) (f : ℤ → ℤ → Computed) → IsAt image function origin operation s → Follows operation s.frame.place (s.frame.place + 1)
      → taken_count function operation ≡ 2 → given_count image operation ≡ 1 → EachGoes (IsSound image) (binary s f)
  binary_goes s f at follows takes gives =
      each_number (IsSound image) s.frame.operands _ λ y below e.
      each_number (IsSound image) below _ λ x rest e'.
      each_computed (IsSound image) (f x y) _ λ z.
      goes_behind valid s (values.Number z ∷ rest) at follows (omega (arith, takes, gives, ap length e, ap length e'))

  pub compared_goes : (s : State) (f : ℤ → ℤ → Bool) → IsAt image function origin operation s → Follows operation s.frame.place (s.frame.place + 1)
      → taken_count function operation ≡ 2 → given_count image operation ≡ 1 → EachGoes (IsSound image) (compared s f)
  compared_goes s f at follows takes gives =
      each_number (IsSound image) s.frame.operands _ λ y below e.
      each_number (IsSound image) below _ λ x rest e'.
      goes_behind valid s (values.Number (truth (f x y)) ∷ rest) at follows (omega (arith, takes, gives, ap length e, ap length e'))

  pub matched_goes : (s : State) (f : Bool → Bool) → IsAt image function origin operation s → Follows operation s.frame.place (s.frame.place + 1)
      → taken_count function operation ≡ 2 → given_count image operation ≡ 1 → EachGoes (IsSound image) (matched s f)
  matched_goes s f at follows takes gives =
      each_value (IsSound image) s.frame.operands _ λ y below e.
      each_value (IsSound image) below _ λ x rest e'.
      each_some (IsSound image) (equal_values x y) mixed _ tt λ equal is.
      goes_behind valid s (values.Number (truth (f equal)) ∷ rest) at follows (omega (arith, takes, gives, ap length e, ap length e'))

  -- ---- objects

  pub copied_to_goes : (s : State) (value : Option Value) (to : Value) (rest : List Value) → IsAt image function origin operation s → Follows operation s.frame.place (s.frame.place + 1)
      → length rest + taken_count function operation ≡ length s.frame.operands + given_count image operation → EachGoes (IsSound image) (copied_to s value to rest)
  copied_to_goes s value (values.Number n) rest at follows counts = tt
  copied_to_goes s value values.Null rest at follows counts = tt
  copied_to_goes s value (values.Address number leaf) rest at follows counts =
      each_some (IsSound image) (stored_leaf s.store number leaf value) _ _ tt λ store is.
      goes_behind valid (with_store s store) rest (at_store s store at) follows counts

  pub copied_from_goes : (s : State) (from to : Value) (rest : List Value) → IsAt image function origin operation s → Follows operation s.frame.place (s.frame.place + 1)
      → length rest + taken_count function operation ≡ length s.frame.operands + given_count image operation → EachGoes (IsSound image) (copied_from s from to rest)
  copied_from_goes s (values.Number n) to rest at follows counts = tt
  copied_from_goes s values.Null (values.Number n) rest at follows counts = tt
  copied_from_goes s values.Null (values.Address number leaf) rest at follows counts = tt
  copied_from_goes s values.Null values.Null rest at follows counts = tt
  copied_from_goes s (values.Address number leaf) (values.Number n) rest at follows counts = tt
  copied_from_goes s (values.Address number leaf) (values.Address other place) rest at follows counts =
      each_some (IsSound image) (leaf_at s.store number leaf) _ _ tt λ value is. copied_to_goes s value (values.Address other place) rest at follows counts
  copied_from_goes s (values.Address number leaf) values.Null rest at follows counts =
      each_some (IsSound image) (leaf_at s.store number leaf) _ _ tt λ value is. copied_to_goes s value values.Null rest at follows counts

  -- ---- texts, violations and input

  pub byte_at_goes : (s : State) (text : ℕ) (place : ℤ) (rest : List Value) → IsAt image function origin operation s → Follows operation s.frame.place (s.frame.place + 1)
      → length rest + 1 + taken_count function operation ≡ length s.frame.operands + given_count image operation → EachGoes (IsSound image) (byte_at image s text place rest)
  byte_at_goes s text place rest at follows counts =
      each_some (IsSound image) (slice_get image.texts text) mixed _ tt λ bytes is.
      each_natural (IsSound image) place _ λ i.
      goes_behind valid s (values.Number (byte_of (slice_get bytes i)) ∷ rest) at follows (omega (arith, counts))

  pub asked_goes : (s : State) (field : ViolationField) → IsAt image function origin operation s → Follows operation s.frame.place (s.frame.place + 1)
      → taken_count function operation ≡ 1 → given_count image operation ≡ 1 → EachGoes (IsSound image) (asked image s field)
  asked_goes s field at follows takes gives =
      each_number (IsSound image) s.frame.operands _ λ n below e.
      each_natural (IsSound image) n _ λ index.
      each_some (IsSound image) (slice_get s.violations index) mixed _ tt λ violated is.
      each_some (IsSound image) (slice_get image.assertions violated.assertion) mixed _ tt λ assertion is'.
      goes_behind valid s (values.Number (pos (field_value field violated assertion)) ∷ below) at follows (omega (arith, takes, gives, ap length e))

  pub read_goes : (s : State) (input : List ℕ) → IsAt image function origin operation s → Follows operation s.frame.place (s.frame.place + 1)
      → taken_count function operation ≡ 0 → given_count image operation ≡ 1 → EachGoes (IsSound image) (read s input)
  read_goes s [] at follows takes gives = goes_behind valid s (values.Number (negsuc 0) ∷ s.frame.operands) at follows (omega (arith, takes, gives))
  read_goes s (byte ∷ rest) at follows takes gives = goes_behind valid (record s { input = rest }) (values.Number (pos byte) ∷ s.frame.operands) (at_input s rest at) follows (omega (arith, takes, gives))

  pub held_goes : (s : State) (held : List Exception) → IsAt image function origin operation s → Follows operation s.frame.place (s.frame.place + 1)
      → taken_count function operation ≡ 0 → given_count image operation ≡ 1 → EachGoes (IsSound image) (held_address s held)
  held_goes s [] at follows takes gives = tt
  held_goes s (exception ∷ held) at follows takes gives = goes_behind valid s (values.Address exception.object exception.leaf ∷ s.frame.operands) at follows (omega (arith, takes, gives))
