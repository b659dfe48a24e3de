-- Where the code of a typed expression or assertion stands, it stands for the tree.
use Rattle.std.proofs.Common.{◌≡◌, ◌⊎◌, ℕ, ◌+◌, pos, [], ◌∷◌, ◌++◌, length, Option, Some, None, inl, inr, refl, sym, ap, subst, ◌∙◌, arith, length-append}
use Rattle.cx_code.specs.declared.code.Instruction.{Instruction}
use Rattle.cx_code.specs.declared.image.Image.{Image}
use Rattle.cx_code.specs.declared.operation.Operation.{Operation}
use Rattle.cx_code.specs.declared.operation.Operation.TheVariants as does
use Rattle.cx_core.specs.declared.number.IntegerType.{IntegerType}
use Rattle.cx_core.specs.declared.number.IntegerType.TheVariants as types
use Rattle.cx_core.specs.Operators.{integer_of}
use Rattle.cx_core.specs.Words.{Definer, Semantic, Ignore, Observe, Enforce, QuickEnforce}
use Rattle.cx_core.specs.Tree.{scalar, number, Expr, literal, variable, unary, binary, assign, putchar, Operand, operand, Check}
use Rattle.cx_emit.specs.Configuration.{operation_at}
use Rattle.cx_emit.specs.Operations.{unary_operation, binary_operation}
use Rattle.cx_emit.specs.Stands.{HasSome, StandsNumberLoad, StandsConversion, StandsExpr, StandsOperand}
use Rattle.cx_emit.specs.Checks.{IsAssertion, StandsViolated, StandsTruth, StandsEvaluation, StandsCheck}
use Rattle.cx_emit.specs.Statements.{StandsDropped}
use Rattle.cx_typed.specs.Typed.{Slots, HasType, Gives, IsCondition, IsTypedDiscarded}
use Rattle.cx_lower.specs.Code.{unary_instruction, binary_instruction, convert, jump, out, discard, swap, store, conversion_code, load_code, expr_code, operand_code, truth_code, discarded_code, violated_code, verdict_code, evaluation_code, times_code}
use Rattle.cx_lower.proofs.Operations.{Computes, push_is, get_is, load_is, store_is, swap_is, out_is, discard_is, convert_is, unary_computes, binary_computes, jump_is, jump_nonzero_is, begin_is, verdict_is, violate_is, contract_end_is}
use Rattle.cx_lower.proofs.Parts.{HasCode, front, back}

module _ (image : Image) (function : ℕ) where
  -- ---- expressions

  conversion_stands : (to : Option IntegerType) (from : ℕ) → HasCode image function from (conversion_code to) → StandsConversion image function to from (from + length (conversion_code to))
  conversion_stands None from h = omega arith
  conversion_stands (Some type) from h = record { here = h.0 ∙ convert_is type; next = refl }

  load_stands : (read : Option IntegerType) (type : IntegerType) (from : ℕ) → read ≡ Some type → HasCode image function from (load_code read) → StandsNumberLoad image function read from (from + length (load_code read))
  load_stands None type from is h = absurd cc
  load_stands (Some types.UnsignedLongLong) type from is h = (from + 1, record { here = h.0 ∙ load_is; next = refl }, record { here = h.1.0 ∙ convert_is types.UnsignedLongLong; next = omega arith })
  load_stands (Some other) type from is h = record { here = h.0 ∙ load_is; next = refl }

  computed : (i : Instruction) (asked : Option Operation) (taken from to : ℕ) → Computes i asked taken → HasCode image function from (i ∷ []) → to ≡ from + 1 → HasSome image function from asked to
  computed i asked taken from to c h next = subst (λ (o : Option Operation). HasSome image function from o to) (sym c.is_asked) (record { here = h.0 ∙ c.is; next = next })

  mutual
    unfolding StandsExpr expr_code HasType

    pub expr_stands : (slots : Slots) (e : Expr) (type : IntegerType) (from : ℕ) → HasType slots e type → HasCode image function from (expr_code e) → StandsExpr image function e from (from + length (expr_code e))
    expr_stands slots (literal (number (pos k))) type from typed h = inl (record { here = h.0 ∙ push_is k typed.0; next = refl })
    expr_stands slots (unary operator computing a) type from typed h =
        let last = unary_instruction operator computing ∷ [] in
        let p = from + length (operand_code a) in
        let computes : Computes (unary_instruction operator computing) (unary_operation operator computing) 1 = rw typed.0 (unary_computes operator) in (
          p,
          operand_stands slots a computing from typed.2 (front image function from (operand_code a) last h),
          computed (unary_instruction operator computing) _ 1 p _ computes (back image function from (operand_code a) last h) (omega (arith, length-append (operand_code a) last)),
        )
    expr_stands slots (binary operator computing a b) type from typed h =
        let last = binary_instruction operator computing ∷ [] in
        let behind = operand_code b ++ last in
        let p = from + length (operand_code a) in
        let q = p + length (operand_code b) in
        let rest = back image function from (operand_code a) behind h in
        let computes : Computes (binary_instruction operator computing) (binary_operation operator computing) 2 = rw typed.0 (binary_computes operator) in (
          p,
          q,
          operand_stands slots a computing from typed.2 (front image function from (operand_code a) behind h),
          operand_stands slots b computing p typed.3 (front image function p (operand_code b) last rest),
          computed (binary_instruction operator computing) _ 2 q _ computes (back image function p (operand_code b) last rest) (omega (arith, length-append (operand_code a) behind, length-append (operand_code b) last)),
        )
    expr_stands slots e type from typed h = absurd typed

    pub operand_stands : (slots : Slots) (a : Operand) (type : IntegerType) (from : ℕ) → Gives slots a type → HasCode image function from (operand_code a) → StandsOperand image function a from (from + length (operand_code a))
    operand_stands slots (operand None to e) type from gives h =
        let p = from + length (expr_code e) in
        let whole : p + length (conversion_code to) ≡ from + length (operand_code (operand None to e)) = omega (arith, length-append (expr_code e) (conversion_code to)) in (
          p,
          p,
          expr_stands slots e gives.0 from gives.1 (front image function from (expr_code e) (conversion_code to) h),
          refl,
          subst (λ (n : ℕ). StandsConversion image function to p n) whole (conversion_stands to p (back image function from (expr_code e) (conversion_code to) h)),
        )
    operand_stands slots (operand (Some (scalar s)) to (variable slot)) type from gives h =
        let load = load_code (integer_of s) in
        let p = from + 1 in
        let q = p + length load in
        let whole : q + length (conversion_code to) ≡ from + length (operand_code (operand (Some (scalar s)) to (variable slot))) = omega (arith, length-append load (conversion_code to)) in (
          p,
          q,
          record { here = h.0 ∙ get_is slot; next = refl },
          load_stands (integer_of s) gives.0 p gives.1.0 (front image function p load (conversion_code to) h.1),
          subst (λ (n : ℕ). StandsConversion image function to q n) whole (conversion_stands to q (back image function p load (conversion_code to) h.1)),
        )
    operand_stands slots (operand (Some object) to e) type from gives h = absurd gives.1

  pub truth_stands : (slots : Slots) (a : Operand) (from : ℕ) → IsCondition slots a → HasCode image function from (truth_code a) → StandsTruth image function a from (from + length (truth_code a))
  truth_stands slots a from typed h =
      let last = convert types.Bool ∷ [] in
      let p = from + length (operand_code a) in (
        p,
        operand_stands slots a typed.0 from typed.1 (front image function from (operand_code a) last h),
        record { here = (back image function from (operand_code a) last h).0 ∙ convert_is types.Bool; next = omega (arith, length-append (operand_code a) last) },
      )

  pub discarded_stands : (slots : Slots) (e : Operand) (from : ℕ) → IsTypedDiscarded slots e → HasCode image function from (discarded_code from e) → StandsDropped image function e from (from + length (discarded_code from e))
  unfolding StandsExpr expr_code
  discarded_stands slots (operand None None (assign (variable slot) b)) from typed h =
      let behind = expr_code (variable slot) ++ swap ∷ store ∷ [] in
      let p = from + length (operand_code b) in
      let rest = back image function from (operand_code b) behind h in (
        p,
        p + 1,
        p + 1 + 1,
        operand_stands slots b typed.0 from typed.2 (front image function from (operand_code b) behind h),
        record { here = rest.0 ∙ get_is slot; next = refl },
        record { here = rest.1.0 ∙ swap_is; next = refl },
        record { here = rest.1.1.0 ∙ store_is; next = omega (arith, length-append (operand_code b) behind) },
      )
  discarded_stands slots (operand None None (putchar a)) from typed h =
      let p = from + length (operand_code a) in
      let behind = jump (p + 1) ∷ out ∷ discard ∷ [] in
      let rest = back image function from (operand_code a) behind h in (
        p + 1 + 1,
        (p, p + 1, operand_stands slots a types.Int from typed (front image function from (operand_code a) behind h), rest.0 ∙ jump_is (p + 1), record { here = rest.1.0 ∙ out_is; next = refl }),
        record { here = rest.1.1.0 ∙ discard_is; next = omega (arith, length-append (operand_code a) behind) },
      )
  discarded_stands slots e from typed h = absurd typed

  -- ---- assertions

  violated_stands : (semantic : Semantic) (index from : ℕ) → HasCode image function from (violated_code semantic index) → StandsViolated image function index semantic from (from + length (violated_code semantic index))
  violated_stands Ignore index from h = inl (omega arith)
  violated_stands Observe index from h = (from + 1, record { here = h.0 ∙ violate_is Observe index; next = refl }, inl refl)
  violated_stands Enforce index from h = (from + 1, record { here = h.0 ∙ violate_is Enforce index; next = refl }, h.1.0 ∙ contract_end_is)
  violated_stands QuickEnforce index from h = h.0 ∙ contract_end_is

  evaluation_stands : (slots : Slots) (semantic : Semantic) (predicate : Operand) (index from : ℕ) → IsCondition slots predicate → HasCode image function from (evaluation_code semantic from index predicate)
      → StandsEvaluation image function Definer index semantic predicate from (from + length (evaluation_code semantic from index predicate))
  evaluation_stands slots semantic predicate index from typed h =
      let code = truth_code predicate in
      let violated = violated_code semantic index in
      let mid = from + 1 + length code in
      let behind = verdict_code semantic mid index in
      let to = from + length (evaluation_code semantic from index predicate) in
      let target : mid + 2 + length violated ≡ to = omega (arith, length-append code behind) in
      let end : mid + 1 + 1 + length violated ≡ to = omega (arith, target) in
      let rest = back image function (from + 1) code behind h.1 in
      let jumps : operation_at image function (mid + 1) ≡ Some (does.JumpNonzero to) = rest.1.0 ∙ jump_nonzero_is (mid + 2 + length violated) ∙ ap (λ (n : ℕ). Some (does.JumpNonzero n)) target in (
        from + 1,
        mid,
        mid + 1,
        mid + 1 + 1,
        record { here = h.0 ∙ begin_is semantic index; next = refl },
        truth_stands slots predicate (from + 1) typed (front image function (from + 1) code behind h.1),
        record { here = rest.0 ∙ verdict_is index; next = refl },
        record { here = jumps; next = refl },
        subst (λ (n : ℕ). StandsViolated image function index semantic (mid + 1 + 1) n) end (violated_stands semantic index (mid + 1 + 1) rest.1.1),
      )

  -- one that is evaluated once or not at all
  pub check_stands : (slots : Slots) (c : Check) (predicate : Operand) (index from : ℕ) → (c.times ≡ 0) ⊎ (c.times ≡ 1) → IsAssertion image index c.assertion → IsCondition slots predicate → HasCode image function from (times_code c.times (evaluation_code c.semantic from index predicate))
      → StandsCheck image function Definer c predicate from (from + length (times_code c.times (evaluation_code c.semantic from index predicate)))
  check_stands slots c predicate index from (inl never) is typed h = inl (never, rw never (omega arith))
  check_stands slots c predicate index from (inr once) is typed h = inr (once, index, is, rw once (evaluation_stands slots c.semantic predicate index from typed (rw once at h)))
