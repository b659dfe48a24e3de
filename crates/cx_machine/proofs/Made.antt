-- An object that is made has 1 to 256 leaves.
use Rattle.std.proofs.Common.{◌≡◌, ℕ, ◌≤◌, Bool, true, false, ◌&&◌, nat_le, if◌then◌else◌, Option, Some, None, slice_get, option_and_then, subst, refl, arith, rules}
use Rattle.cx_code.specs.declared.code.Instruction.{Instruction}
use Rattle.cx_code.specs.declared.image.Image.{Image}
use Rattle.cx_code.specs.declared.operation.Operation.{Operation}
use Rattle.cx_code.specs.declared.operation.Operation.TheVariants as does
use Rattle.cx_code.specs.declared.operation.Scalar.{Scalar}
use Rattle.cx_code.specs.declared.operation.ViolationField.{ViolationField}
use Rattle.cx_code.specs.declared.violation.Semantic.{Semantic}
use Rattle.cx_code.specs.declared.violation.DetectionMode.{DetectionMode}
use Rattle.cx_code.specs.declared.run.Party.{Party}
use Rattle.cx_code.specs.State.{State}
use Rattle.std.specs.Prelude.{◌+◌, ◌-◌, ◌*◌, ◌/◌, ◌%◌, ◌==◌, ◌||◌, nat_lt}
use Rattle.std.specs.Int.{w64, cast_signed}
use Rattle.cx_code.specs.Operation.{scalar_of, field_of, semantic_of, party_of, mode_of, operation_of, operand_operation, object_operation, arithmetic_operation, bit_operation, comparison_operation, control_operation, outside_operation, contract_operation, exception_operation, typed, begin_of, violate_of, read_of}
use Rattle.cx_code.specs.Run.{code_of}
use Rattle.cx_machine.specs.Due.{IsDue}

abbrev makes_object : Operation → Bool
makes_object (does.Make leaves slot) = true
makes_object operation = false

data IsFit : Option Operation → Type 0 where
  none : IsFit None
  made : (leaves slot : ℕ) → 1 ≤ leaves → leaves ≤ 256 → IsFit (Some (does.Make leaves slot))
  other : (operation : Operation) → makes_object operation ≡ false → IsFit (Some operation)

either : (b : Bool) (x y : Option Operation) → IsFit x → IsFit y → IsFit (if b then x else y)
either true x y p q = p
either false x y p q = q

makes : (b : Bool) (leaves slot : ℕ) → (b ≡ true → (1 ≤ leaves) × (leaves ≤ 256)) → IsFit (if b then Some (does.Make leaves slot) else None)
makes true leaves slot p = made leaves slot (p refl).0 (p refl).1
makes false leaves slot p = none

fit_typed : (operation : Scalar → Operation) (scalar : Option Scalar) → ((scalar : Scalar) → IsFit (Some (operation scalar))) → IsFit (typed operation scalar)
fit_typed operation None p = none
fit_typed operation (Some scalar) p = p scalar

fit_begin : (assertion : ℕ) (party : Option Party) (semantic : Option Semantic) → IsFit (begin_of assertion party semantic)
fit_begin assertion None semantic = none
fit_begin assertion (Some party) None = none
fit_begin assertion (Some party) (Some semantic) = other _ refl

fit_violate : (assertion : ℕ) (mode : Option DetectionMode) (semantic : Option Semantic) → IsFit (violate_of assertion mode semantic)
fit_violate assertion None semantic = none
fit_violate assertion (Some mode) None = none
fit_violate assertion (Some mode) (Some semantic) = other _ refl

fit_read : (field : Option ViolationField) → IsFit (read_of field)
fit_read None = none
fit_read (Some field) = other _ refl

fit_operand : (i : Instruction) → IsFit (operand_operation i)
fit_operand i =
    let r8 = if i.code == 8 then Some (does.Set i.a) else None in
    let f8 : IsFit r8 = either (i.code == 8) (Some (does.Set i.a)) None (other (does.Set i.a) refl) none in
    let r7 = if i.code == 7 then Some (does.Get i.a) else r8 in
    let f7 : IsFit r7 = either (i.code == 7) (Some (does.Get i.a)) r8 (other (does.Get i.a) refl) f8 in
    let r6 = if i.code == 6 then Some does.Swap else r7 in
    let f6 : IsFit r6 = either (i.code == 6) (Some does.Swap) r7 (other does.Swap refl) f7 in
    let r5 = if i.code == 5 then Some does.Discard else r6 in
    let f5 : IsFit r5 = either (i.code == 5) (Some does.Discard) r6 (other does.Discard refl) f6 in
    let r4 = if i.code == 4 then Some does.Duplicate else r5 in
    let f4 : IsFit r4 = either (i.code == 4) (Some does.Duplicate) r5 (other does.Duplicate refl) f5 in
    let r3 = if i.code == 3 then Some does.PushNull else r4 in
    let f3 : IsFit r3 = either (i.code == 3) (Some does.PushNull) r4 (other does.PushNull refl) f4 in
    let r2 = if i.code == 2 then Some (does.PushBig (i.a * 0x1_0000_0000 + i.b)) else r3 in
    let f2 : IsFit r2 = either (i.code == 2) (Some (does.PushBig (i.a * 0x1_0000_0000 + i.b))) r3 (other (does.PushBig (i.a * 0x1_0000_0000 + i.b)) refl) f3 in
    let r1 = if i.code == 1 then Some (does.Push (cast_signed w64 (i.a * 0x1_0000_0000 + i.b))) else r2 in
    let f1 : IsFit r1 = either (i.code == 1) (Some (does.Push (cast_signed w64 (i.a * 0x1_0000_0000 + i.b)))) r2 (other (does.Push (cast_signed w64 (i.a * 0x1_0000_0000 + i.b))) refl) f2 in
    f1

fit_object : (i : Instruction) → IsFit (object_operation i)
fit_object i =
    let r7 = if i.code == 40 then Some (does.Global i.a) else None in
    let f7 : IsFit r7 = either (i.code == 40) (Some (does.Global i.a)) None (other (does.Global i.a) refl) none in
    let r6 = if i.code == 14 then Some does.Copy else r7 in
    let f6 : IsFit r6 = either (i.code == 14) (Some does.Copy) r7 (other does.Copy refl) f7 in
    let r5 = if i.code == 13 then Some (does.Offset i.a) else r6 in
    let f5 : IsFit r5 = either (i.code == 13) (Some (does.Offset i.a)) r6 (other (does.Offset i.a) refl) f6 in
    let r4 = if i.code == 12 then Some does.Store else r5 in
    let f4 : IsFit r4 = either (i.code == 12) (Some does.Store) r5 (other does.Store refl) f5 in
    let r3 = if i.code == 11 then Some does.Load else r4 in
    let f3 : IsFit r3 = either (i.code == 11) (Some does.Load) r4 (other does.Load refl) f4 in
    let r2 = if i.code == 10 then Some does.End else r3 in
    let f2 : IsFit r2 = either (i.code == 10) (Some does.End) r3 (other does.End refl) f3 in
    let r1 = if i.code == 9 then (if nat_le 1 i.a && nat_le i.a 256 then Some (does.Make i.a i.b) else None) else r2 in
    let f1 : IsFit r1 = either (i.code == 9) ((if nat_le 1 i.a && nat_le i.a 256 then Some (does.Make i.a i.b) else None)) r2 (makes (nat_le 1 i.a && nat_le i.a 256) i.a i.b (λ e. (search rules, search rules))) f2 in
    f1

fit_arithmetic : (i : Instruction) → IsFit (arithmetic_operation i)
fit_arithmetic i =
    let r8 = if i.code == 22 then typed does.Remainder (scalar_of i.a) else None in
    let f8 : IsFit r8 = either (i.code == 22) (typed does.Remainder (scalar_of i.a)) None (fit_typed does.Remainder (scalar_of i.a) (λ s. other (does.Remainder s) refl)) none in
    let r7 = if i.code == 21 then typed does.Divide (scalar_of i.a) else r8 in
    let f7 : IsFit r7 = either (i.code == 21) (typed does.Divide (scalar_of i.a)) r8 (fit_typed does.Divide (scalar_of i.a) (λ s. other (does.Divide s) refl)) f8 in
    let r6 = if i.code == 20 then typed does.Multiply (scalar_of i.a) else r7 in
    let f6 : IsFit r6 = either (i.code == 20) (typed does.Multiply (scalar_of i.a)) r7 (fit_typed does.Multiply (scalar_of i.a) (λ s. other (does.Multiply s) refl)) f7 in
    let r5 = if i.code == 19 then typed does.Subtract (scalar_of i.a) else r6 in
    let f5 : IsFit r5 = either (i.code == 19) (typed does.Subtract (scalar_of i.a)) r6 (fit_typed does.Subtract (scalar_of i.a) (λ s. other (does.Subtract s) refl)) f6 in
    let r4 = if i.code == 18 then typed does.Add (scalar_of i.a) else r5 in
    let f4 : IsFit r4 = either (i.code == 18) (typed does.Add (scalar_of i.a)) r5 (fit_typed does.Add (scalar_of i.a) (λ s. other (does.Add s) refl)) f5 in
    let r3 = if i.code == 17 then typed does.Complement (scalar_of i.a) else r4 in
    let f3 : IsFit r3 = either (i.code == 17) (typed does.Complement (scalar_of i.a)) r4 (fit_typed does.Complement (scalar_of i.a) (λ s. other (does.Complement s) refl)) f4 in
    let r2 = if i.code == 16 then typed does.Not (scalar_of i.a) else r3 in
    let f2 : IsFit r2 = either (i.code == 16) (typed does.Not (scalar_of i.a)) r3 (fit_typed does.Not (scalar_of i.a) (λ s. other (does.Not s) refl)) f3 in
    let r1 = if i.code == 15 then typed does.Negate (scalar_of i.a) else r2 in
    let f1 : IsFit r1 = either (i.code == 15) (typed does.Negate (scalar_of i.a)) r2 (fit_typed does.Negate (scalar_of i.a) (λ s. other (does.Negate s) refl)) f2 in
    f1

fit_bit : (i : Instruction) → IsFit (bit_operation i)
fit_bit i =
    let r5 = if i.code == 27 then typed does.BitXor (scalar_of i.a) else None in
    let f5 : IsFit r5 = either (i.code == 27) (typed does.BitXor (scalar_of i.a)) None (fit_typed does.BitXor (scalar_of i.a) (λ s. other (does.BitXor s) refl)) none in
    let r4 = if i.code == 26 then typed does.BitOr (scalar_of i.a) else r5 in
    let f4 : IsFit r4 = either (i.code == 26) (typed does.BitOr (scalar_of i.a)) r5 (fit_typed does.BitOr (scalar_of i.a) (λ s. other (does.BitOr s) refl)) f5 in
    let r3 = if i.code == 25 then typed does.BitAnd (scalar_of i.a) else r4 in
    let f3 : IsFit r3 = either (i.code == 25) (typed does.BitAnd (scalar_of i.a)) r4 (fit_typed does.BitAnd (scalar_of i.a) (λ s. other (does.BitAnd s) refl)) f4 in
    let r2 = if i.code == 24 then typed does.ShiftRight (scalar_of i.a) else r3 in
    let f2 : IsFit r2 = either (i.code == 24) (typed does.ShiftRight (scalar_of i.a)) r3 (fit_typed does.ShiftRight (scalar_of i.a) (λ s. other (does.ShiftRight s) refl)) f3 in
    let r1 = if i.code == 23 then typed does.ShiftLeft (scalar_of i.a) else r2 in
    let f1 : IsFit r1 = either (i.code == 23) (typed does.ShiftLeft (scalar_of i.a)) r2 (fit_typed does.ShiftLeft (scalar_of i.a) (λ s. other (does.ShiftLeft s) refl)) f2 in
    f1

fit_comparison : (i : Instruction) → IsFit (comparison_operation i)
fit_comparison i =
    let r7 = if i.code == 34 then typed does.Convert (scalar_of i.a) else None in
    let f7 : IsFit r7 = either (i.code == 34) (typed does.Convert (scalar_of i.a)) None (fit_typed does.Convert (scalar_of i.a) (λ s. other (does.Convert s) refl)) none in
    let r6 = if i.code == 33 then Some does.GreaterOrEqual else r7 in
    let f6 : IsFit r6 = either (i.code == 33) (Some does.GreaterOrEqual) r7 (other does.GreaterOrEqual refl) f7 in
    let r5 = if i.code == 32 then Some does.Greater else r6 in
    let f5 : IsFit r5 = either (i.code == 32) (Some does.Greater) r6 (other does.Greater refl) f6 in
    let r4 = if i.code == 31 then Some does.LessOrEqual else r5 in
    let f4 : IsFit r4 = either (i.code == 31) (Some does.LessOrEqual) r5 (other does.LessOrEqual refl) f5 in
    let r3 = if i.code == 30 then Some does.Less else r4 in
    let f3 : IsFit r3 = either (i.code == 30) (Some does.Less) r4 (other does.Less refl) f4 in
    let r2 = if i.code == 29 then Some does.NotEqual else r3 in
    let f2 : IsFit r2 = either (i.code == 29) (Some does.NotEqual) r3 (other does.NotEqual refl) f3 in
    let r1 = if i.code == 28 then Some does.Equal else r2 in
    let f1 : IsFit r1 = either (i.code == 28) (Some does.Equal) r2 (other does.Equal refl) f2 in
    f1

fit_control : (i : Instruction) → IsFit (control_operation i)
fit_control i =
    let r5 = if i.code == 39 then Some does.Return else None in
    let f5 : IsFit r5 = either (i.code == 39) (Some does.Return) None (other does.Return refl) none in
    let r4 = if i.code == 38 then Some (does.Call i.a i.b) else r5 in
    let f4 : IsFit r4 = either (i.code == 38) (Some (does.Call i.a i.b)) r5 (other (does.Call i.a i.b) refl) f5 in
    let r3 = if i.code == 37 then Some (does.JumpNonzero i.a) else r4 in
    let f3 : IsFit r3 = either (i.code == 37) (Some (does.JumpNonzero i.a)) r4 (other (does.JumpNonzero i.a) refl) f4 in
    let r2 = if i.code == 36 then Some (does.JumpZero i.a) else r3 in
    let f2 : IsFit r2 = either (i.code == 36) (Some (does.JumpZero i.a)) r3 (other (does.JumpZero i.a) refl) f3 in
    let r1 = if i.code == 35 then Some (does.Jump i.a) else r2 in
    let f1 : IsFit r1 = either (i.code == 35) (Some (does.Jump i.a)) r2 (other (does.Jump i.a) refl) f2 in
    f1

fit_outside : (i : Instruction) → IsFit (outside_operation i)
fit_outside i =
    let r3 = if i.code == 43 then (if i.a == 0 then Some does.TextAt else Some (does.TextOf (i.a - 1))) else None in
    let f3 : IsFit r3 = either (i.code == 43) ((if i.a == 0 then Some does.TextAt else Some (does.TextOf (i.a - 1)))) None (either (i.a == 0) (Some does.TextAt) (Some (does.TextOf (i.a - 1))) (other does.TextAt refl) (other (does.TextOf (i.a - 1)) refl)) none in
    let r2 = if i.code == 42 then Some does.In else r3 in
    let f2 : IsFit r2 = either (i.code == 42) (Some does.In) r3 (other does.In refl) f3 in
    let r1 = if i.code == 41 then Some does.Out else r2 in
    let f1 : IsFit r1 = either (i.code == 41) (Some does.Out) r2 (other does.Out refl) f2 in
    f1

fit_contract : (i : Instruction) → IsFit (contract_operation i)
fit_contract i =
    let r5 = if i.code == 48 then Some does.ContractEnd else None in
    let f5 : IsFit r5 = either (i.code == 48) (Some does.ContractEnd) None (other does.ContractEnd refl) none in
    let r4 = if i.code == 47 then read_of (field_of i.a) else r5 in
    let f4 : IsFit r4 = either (i.code == 47) (read_of (field_of i.a)) r5 (fit_read (field_of i.a)) f5 in
    let r3 = if i.code == 46 then violate_of i.a (mode_of (i.b / 8)) (semantic_of (i.b % 8)) else r4 in
    let f3 : IsFit r3 = either (i.code == 46) (violate_of i.a (mode_of (i.b / 8)) (semantic_of (i.b % 8))) r4 (fit_violate i.a (mode_of (i.b / 8)) (semantic_of (i.b % 8))) f4 in
    let r2 = if i.code == 45 then Some (does.Verdict i.a) else r3 in
    let f2 : IsFit r2 = either (i.code == 45) (Some (does.Verdict i.a)) r3 (other (does.Verdict i.a) refl) f3 in
    let r1 = if i.code == 44 then begin_of i.a (party_of (i.b / 8)) (semantic_of (i.b % 8)) else r2 in
    let f1 : IsFit r1 = either (i.code == 44) (begin_of i.a (party_of (i.b / 8)) (semantic_of (i.b % 8))) r2 (fit_begin i.a (party_of (i.b / 8)) (semantic_of (i.b % 8))) f2 in
    f1

fit_exception : (i : Instruction) → IsFit (exception_operation i)
fit_exception i =
    let r7 = if i.code == 55 then Some does.Flow else None in
    let f7 : IsFit r7 = either (i.code == 55) (Some does.Flow) None (other does.Flow refl) none in
    let r6 = if i.code == 54 then Some (does.Destroyed i.a) else r7 in
    let f6 : IsFit r6 = either (i.code == 54) (Some (does.Destroyed i.a)) r7 (other (does.Destroyed i.a) refl) f7 in
    let r5 = if i.code == 53 then Some does.Resume else r6 in
    let f5 : IsFit r5 = either (i.code == 53) (Some does.Resume) r6 (other does.Resume refl) f6 in
    let r4 = if i.code == 52 then Some does.Release else r5 in
    let f4 : IsFit r4 = either (i.code == 52) (Some does.Release) r5 (other does.Release refl) f5 in
    let r3 = if i.code == 51 then Some does.Held else r4 in
    let f3 : IsFit r3 = either (i.code == 51) (Some does.Held) r4 (other does.Held refl) f4 in
    let r2 = if i.code == 50 then Some does.Rethrow else r3 in
    let f2 : IsFit r2 = either (i.code == 50) (Some does.Rethrow) r3 (other does.Rethrow refl) f3 in
    let r1 = if i.code == 49 then Some (does.Throw i.a) else r2 in
    let f1 : IsFit r1 = either (i.code == 49) (Some (does.Throw i.a)) r2 (other (does.Throw i.a) refl) f2 in
    f1

is_fit : (i : Instruction) → IsFit (operation_of i)
unfolding operation_of
is_fit i =
    let r8 = if nat_lt i.code 49 then contract_operation i else exception_operation i in
    let f8 : IsFit r8 = either (nat_lt i.code 49) (contract_operation i) (exception_operation i) (fit_contract i) (fit_exception i) in
    let r7 = if nat_lt i.code 44 then outside_operation i else r8 in
    let f7 : IsFit r7 = either (nat_lt i.code 44) (outside_operation i) r8 (fit_outside i) f8 in
    let r6 = if nat_lt i.code 40 then control_operation i else r7 in
    let f6 : IsFit r6 = either (nat_lt i.code 40) (control_operation i) r7 (fit_control i) f7 in
    let r5 = if nat_lt i.code 35 then comparison_operation i else r6 in
    let f5 : IsFit r5 = either (nat_lt i.code 35) (comparison_operation i) r6 (fit_comparison i) f6 in
    let r4 = if nat_lt i.code 28 then bit_operation i else r5 in
    let f4 : IsFit r4 = either (nat_lt i.code 28) (bit_operation i) r5 (fit_bit i) f5 in
    let r3 = if nat_lt i.code 23 then arithmetic_operation i else r4 in
    let f3 : IsFit r3 = either (nat_lt i.code 23) (arithmetic_operation i) r4 (fit_arithmetic i) f4 in
    let r2 = if nat_lt i.code 15 || (i.code == 40) then object_operation i else r3 in
    let f2 : IsFit r2 = either (nat_lt i.code 15 || (i.code == 40)) (object_operation i) r3 (fit_object i) f3 in
    let r1 = if nat_lt i.code 9 then operand_operation i else r2 in
    let f1 : IsFit r1 = either (nat_lt i.code 9) (operand_operation i) r2 (fit_operand i) f2 in
    f1

fit_at : (found : Option Instruction) → IsFit (option_and_then operation_of found)
fit_at None = none
fit_at (Some i) = is_fit i

bounds : {operation : Operation} (leaves slot : ℕ) → IsFit (Some operation) → operation ≡ does.Make leaves slot → (1 ≤ leaves) × (leaves ≤ 256)
bounds leaves slot (made l s some few) e =
    let same : l ≡ leaves = cc in
    (omega (arith, same), omega (arith, same))
bounds leaves slot (other operation plain) e =
    let no : true ≡ false = subst (λ (o : Operation). makes_object o ≡ false) e plain in
    absurd cc

pub leaves_fit : (image : Image) (leaves slot : ℕ) (s : State) → IsDue image (does.Make leaves slot) s → (1 ≤ leaves) × (leaves ≤ 256)
leaves_fit image leaves slot s due =
    let now = subst IsFit due.takes.now (fit_at (slice_get (code_of (slice_get image.functions s.frame.function)) s.frame.place)) in
    bounds leaves slot now due.is
