-- The operand depths of the code of typed expressions.
use Rattle.std.proofs.Common.{◌≡◌, ℕ, ◌+◌, ◌<◌, ◌≤◌, pos, List, [], ◌∷◌, length, Option, Some, None, refl, sym, subst, arith}
use Rattle.std.proofs.lemmas.Option.{slice_get_within}
use Rattle.cx_code.specs.declared.code.Instruction.{Instruction}
use Rattle.cx_code.specs.declared.image.Image.{Image}
use Rattle.cx_code.specs.declared.image.Function.{Function}
use Rattle.cx_code.specs.declared.operation.Operation.TheVariants as does
use Rattle.cx_code.specs.Operation.{operation_of}
use Rattle.cx_core.specs.declared.number.IntegerType.{IntegerType}
use Rattle.cx_core.specs.declared.number.IntegerType.TheVariants as types
use Rattle.cx_core.specs.declared.number.BinaryOperator.{BinaryOperator}
use Rattle.cx_core.specs.declared.number.BinaryOperator.TheVariants as binary_operators
use Rattle.cx_core.specs.declared.number.UnaryOperator.{UnaryOperator}
use Rattle.cx_core.specs.declared.number.UnaryOperator.TheVariants as unary_operators
use Rattle.cx_core.specs.Operators.{integer_of}
use Rattle.cx_core.specs.Tree.{scalar, number, Expr, literal, variable, unary, binary, assign, putchar, Operand, operand}
use Rattle.cx_emit.specs.Operations.{scalar_of}
use Rattle.cx_typed.specs.Typed.{Slots, unary_type, HasType, Gives, IsCondition}
use Rattle.cx_typed.specs.Weight.{expr_weight, operand_weight}
use Rattle.cx_lower.specs.Code.{push, get, load, convert, unary_instruction, binary_instruction, conversion_code, load_code, expr_code, operand_code, truth_code}
use Rattle.cx_lower.proofs.Operations.{convert_is, load_is, get_is}
use Rattle.cx_lower.proofs.Flows.{Flow, nothing, joined, step}

pub some_weight : (e : Expr) → 1 ≤ expr_weight e
unfolding expr_weight
some_weight (unary operator type a) = omega arith
some_weight (binary operator type a b) = omega arith
some_weight (assign a b) = omega arith
some_weight (putchar a) = omega arith
some_weight e = omega arith

pub some_operand : (a : Operand) → 1 ≤ operand_weight a
unfolding expr_weight
some_operand (operand read to e) = some_weight e

module _ (image : Image) (function : Function) (exit most : ℕ) where
  abbrev Goes : (start first : ℕ) → List Instruction → (last : ℕ) → Type 0
  Goes start first code last = Flow image function exit most start first code last

  push_flow : (n start depth : ℕ) → depth + 1 ≤ 4096 → Goes start depth (push n ∷ []) (depth + 1)
  unfolding operation_of
  push_flow n start depth le = step image function exit most (depth + 1) (push n) _ refl (omega arith) (omega arith) tt (λ p k f. f) (omega arith)

  pub get_flow : (slot start depth : ℕ) → slot < function.slots → depth + 1 ≤ 4096 → Goes start depth (get slot ∷ []) (depth + 1)
  get_flow slot start depth there le = step image function exit most (depth + 1) (get slot) (does.Get slot) (get_is slot) (omega arith) (omega arith) there (λ p k f. f) (omega arith)

  pub convert_flow : (type : IntegerType) (start depth : ℕ) → depth + 1 ≤ 4096 → Goes start (depth + 1) (convert type ∷ []) (depth + 1)
  convert_flow type start depth le = step image function exit most (depth + 1) (convert type) (does.Convert (scalar_of type)) (convert_is type) (omega arith) le tt (λ p k f. f) (omega arith)

  load_flow : (start depth : ℕ) → depth + 1 ≤ 4096 → Goes start (depth + 1) (load ∷ []) (depth + 1)
  load_flow start depth le = step image function exit most (depth + 1) load does.Load load_is (omega arith) le tt (λ p k f. f) (omega arith)

  conversion_flow : (to : Option IntegerType) (start depth : ℕ) → depth + 1 ≤ 4096 → Goes start (depth + 1) (conversion_code to) (depth + 1)
  conversion_flow None start depth le = nothing image function exit most start (depth + 1)
  conversion_flow (Some type) start depth le = convert_flow type start depth le

  read_flow : (o : Option IntegerType) (type : IntegerType) (start depth : ℕ) → o ≡ Some type → depth + 1 ≤ 4096 → Goes start (depth + 1) (load_code o) (depth + 1)
  read_flow None type start depth e le = absurd cc
  read_flow (Some types.UnsignedLongLong) type start depth e le = joined image function exit most (load_flow start depth le) (convert_flow types.UnsignedLongLong _ depth le)
  read_flow (Some t) type start depth e le = load_flow start depth le

  unary_flow : (operator : UnaryOperator) (start depth : ℕ) → depth + 1 ≤ 4096 → Goes start (depth + 1) (unary_instruction operator (unary_type operator) ∷ []) (depth + 1)
  unfolding operation_of
  unary_flow unary_operators.Minus start depth le = step image function exit most (depth + 1) (unary_instruction unary_operators.Minus types.Int) _ refl (omega arith) le tt (λ p k f. f) (omega arith)
  unary_flow operator start depth le = step image function exit most (depth + 1) (unary_instruction operator (unary_type operator)) _ refl (omega arith) le tt (λ p k f. f) (omega arith)

  binary_flow : (operator : BinaryOperator) (start depth : ℕ) → depth + 2 ≤ 4096 → Goes start (depth + 1 + 1) (binary_instruction operator types.Int ∷ []) (depth + 1)
  unfolding operation_of
  binary_flow binary_operators.Multiply start depth le =
      step image function exit most (depth + 1) (binary_instruction binary_operators.Multiply types.Int) _ refl (omega arith) (omega arith) tt (λ p k f. f) (omega arith)
  binary_flow operator start depth le = step image function exit most (depth + 1) (binary_instruction operator types.Int) _ refl (omega arith) (omega arith) tt (λ p k f. f) (omega arith)

  module _ (slots : Slots) (room : length slots ≤ function.slots) where
    mutual
      unfolding HasType expr_code expr_weight

      pub expr_flow : (e : Expr) (type : IntegerType) (start depth : ℕ) → HasType slots e type → depth + expr_weight e ≤ 4096 → Goes start depth (expr_code e) (depth + 1)
      expr_flow (literal (number (pos n))) type start depth typed le = push_flow n start depth le
      expr_flow (unary operator computed a) type start depth typed le =
          let in_type = λ (t : IntegerType). Goes (start + length (operand_code a)) (depth + 1) (unary_instruction operator t ∷ []) (depth + 1) in
          joined image function exit most (operand_flow a computed start depth typed.2 (omega arith)) (subst in_type (sym typed.0) (unary_flow operator _ depth (omega (arith, some_operand a))))
      expr_flow (binary operator computed a b) type start depth typed le =
          let some = some_operand a in
          let some_right = some_operand b in
          let in_type = λ (t : IntegerType). Goes (start + length (operand_code a) + length (operand_code b)) (depth + 1 + 1) (binary_instruction operator t ∷ []) (depth + 1) in
          joined image function exit most (operand_flow a computed start depth typed.2 (omega arith))
          (joined image function exit most (operand_flow b computed _ (depth + 1) typed.3 (omega arith)) (subst in_type (sym typed.0) (binary_flow operator _ depth (omega arith))))
      expr_flow e type start depth typed le = absurd typed

      pub operand_flow : (a : Operand) (type : IntegerType) (start depth : ℕ) → Gives slots a type → depth + operand_weight a ≤ 4096 → Goes start depth (operand_code a) (depth + 1)
      operand_flow (operand None to e) type start depth typed le =
          joined image function exit most (expr_flow e typed.0 start depth typed.1 le) (conversion_flow to _ depth (omega (arith, some_weight e)))
      operand_flow (operand (Some (scalar s)) to (variable slot)) type start depth typed le =
          joined image function exit most (get_flow slot start depth (omega (arith, slice_get_within slots slot typed.0 typed.1.1)) le)
          (joined image function exit most (read_flow (integer_of s) typed.0 _ depth typed.1.0 le) (conversion_flow to _ depth le))
      operand_flow (operand (Some object) to e) type start depth typed le = absurd typed.1

    pub truth_flow : (a : Operand) (start : ℕ) → IsCondition slots a → operand_weight a ≤ 4095 → Goes start 0 (truth_code a) 1
    truth_flow a start typed le = joined image function exit most (operand_flow a typed.0 start 0 typed.1 (omega arith)) (convert_flow types.Bool _ 0 (omega arith))
