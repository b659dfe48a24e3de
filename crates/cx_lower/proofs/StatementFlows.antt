-- The operand depths of the code of typed statements, each of which begins and ends without operands.
use Rattle.std.proofs.Common.{◌≡◌, ℕ, zero, suc, ◌+◌, ◌<◌, ◌≤◌, List, [], ◌∷◌, ◌++◌, length, Option, Some, None, refl, sym, subst, ◌∙◌, arith, length-append}
use Rattle.std.specs.Prelude.{slice_get}
use Rattle.std.proofs.lemmas.Option.{slice_get_within}
use Rattle.cx_code.specs.declared.code.Instruction.{Instruction}
use Rattle.cx_code.specs.declared.image.Image.{Image}
use Rattle.cx_code.specs.declared.image.Function.{Function}
use Rattle.cx_code.specs.declared.operation.Operation.TheVariants as does
use Rattle.cx_core.specs.declared.number.IntegerType.{IntegerType}
use Rattle.cx_core.specs.declared.number.IntegerType.TheVariants as types
use Rattle.cx_core.specs.declared.unit.Assertion.{Assertion}
use Rattle.cx_core.specs.Words.{Definer, Semantic, Ignore, Observe, Enforce, QuickEnforce, PredicateFalse}
use Rattle.cx_core.specs.Operators.{integer_of}
use Rattle.cx_core.specs.Tree as tree
use Rattle.cx_core.specs.Tree.{ObjectType, scalar, Expr, variable, assign, putchar, Operand, operand, value, Check, Stmt, Stmts, empty, expression, variable_declaration, block, if_else, while_loop, contract_assert, return_value, done, next}
use Rattle.cx_typed.specs.Typed.{Slots, Gives, IsCondition, IsListed, IsTypedDeclaration, seen_behind, IsTyped, AreTyped, IsTypedWith}
use Rattle.cx_typed.specs.Weight.{operand_weight, expr_weight, stmt_weight, stmts_weight}
use Rattle.cx_lower.specs.Code.{discard, swap, get, make, end, store, jump, out, begin, verdict, violate, contract_end, expr_code, operand_code, violated_code, verdict_code, evaluation_code, times_code, ends_code, live_behind, stmt_code, stmts_code, stmt_most, stmts_most, check_code}
use Rattle.cx_lower.proofs.Operations.{discard_is, swap_is, make_is, end_is, store_is, out_is, begin_is, verdict_is, violate_is, contract_end_is}
use Rattle.cx_lower.proofs.Typing.{live_more, live_within, seen_length}
use Rattle.cx_lower.proofs.Flows.{Flow, nothing, joined, step, stop, pass, leave, skip, branch, loop}
use Rattle.cx_lower.proofs.ExpressionFlows.{get_flow, operand_flow, truth_flow}

module _ (image : Image) (function : Function) (exit most : ℕ) where
  abbrev Goes : (start first : ℕ) → List Instruction → (last : ℕ) → Type 0
  Goes start first code last = Flow image function exit most start first code last

  -- ---- objects

  store_flow : (start : ℕ) → Goes start 2 (store ∷ []) 0
  store_flow start = step image function exit most 0 store does.Store store_is (omega arith) (omega arith) tt (λ p k f. f) refl

  swap_flow : (start : ℕ) → Goes start 2 (swap ∷ []) 2
  swap_flow start = step image function exit most 2 swap does.Swap swap_is (omega arith) (omega arith) tt (λ p k f. f) refl

  discard_flow : (start : ℕ) → Goes start 1 (discard ∷ []) 0
  discard_flow start = step image function exit most 0 discard does.Discard discard_is (omega arith) (omega arith) tt (λ p k f. f) refl

  out_flow : (start : ℕ) → Goes start 1 (out ∷ []) 1
  out_flow start = step image function exit most 1 out does.Out out_is (omega arith) (omega arith) tt (λ p k f. f) refl

  make_flow : (slot start : ℕ) → slot < function.slots → Goes start 0 (make slot ∷ []) 0
  make_flow slot start there = step image function exit most 0 (make slot) (does.Make 1 slot) (make_is slot) (omega arith) (omega arith) there (λ p k f. f) refl

  end_flow : (start : ℕ) → Goes start 1 (end ∷ []) 0
  end_flow start = step image function exit most 0 end does.End end_is (omega arith) (omega arith) tt (λ p k f. f) refl

  ends_flow : (base count start : ℕ) → base + count ≤ function.slots → Goes start 0 (ends_code base count) 0
  unfolding ends_code
  ends_flow base zero start room = nothing image function exit most start 0
  ends_flow base (suc n) start room =
      joined image function exit most (get_flow image function exit most (base + n) start 0 (omega arith) (omega arith)) (joined image function exit most (end_flow _) (ends_flow base n _ (omega arith)))

  -- ---- assertions

  violated_flow : (semantic : Semantic) (index start : ℕ) → index < length image.assertions → Goes start 0 (violated_code semantic index) 0
  violated_flow Ignore index start there = nothing image function exit most start 0
  violated_flow Observe index start there = step image function exit most 0 (violate Observe index) (does.Violate index PredicateFalse Observe) (violate_is Observe index) (omega arith) (omega arith) there (λ p k f. f) refl
  violated_flow Enforce index start there =
      joined image function exit most (step image function exit most 0 (violate Enforce index) (does.Violate index PredicateFalse Enforce) (violate_is Enforce index) (omega arith) (omega arith) there (λ p k f. f) refl)
      (stop image function exit most contract_end does.ContractEnd contract_end_is (omega arith) (omega arith) tt (λ p k f. f))
  violated_flow QuickEnforce index start there = stop image function exit most contract_end does.ContractEnd contract_end_is (omega arith) (omega arith) tt (λ p k f. f)

  verdict_flow : (semantic : Semantic) (start index : ℕ) → index < length image.assertions → Goes start 1 (verdict_code semantic start index) 0
  verdict_flow semantic start index there =
      joined image function exit most (step image function exit most 1 (verdict index) (does.Verdict index) (verdict_is index) (omega arith) (omega arith) there (λ p k f. f) refl)
      (skip image function exit most _ (omega arith) (violated_flow semantic index _ there))

  module _ (slots : Slots) (room : length slots ≤ function.slots) where
    evaluation_flow : (semantic : Semantic) (start index : ℕ) (predicate : Operand) → index < length image.assertions → IsCondition slots predicate → operand_weight predicate ≤ 4095 → Goes start 0 (evaluation_code semantic start index predicate) 0
    evaluation_flow semantic start index predicate there typed le =
        joined image function exit most (step image function exit most 0 (begin semantic index) (does.Begin index Definer semantic) (begin_is semantic index) (omega arith) (omega arith) there (λ p k f. f) refl)
        (joined image function exit most (truth_flow image function exit most slots room predicate _ typed le) (verdict_flow semantic _ index there))

    times_flow : (times start : ℕ) (code : List Instruction) → Goes start 0 code 0 → Goes start 0 (times_code times code) 0
    times_flow zero start code f = nothing image function exit most start 0
    times_flow (suc n) start code f = f

    -- ---- discarded values

    assign_flow : (slot : ℕ) (a : Operand) (type : IntegerType) (start : ℕ) → slice_get slots slot ≡ Some type → Gives slots a type → operand_weight a ≤ 4096 → Goes start 0 (operand_code a ++ (get slot ∷ swap ∷ store ∷ [])) 0
    assign_flow slot a type start there typed le =
        joined image function exit most (operand_flow image function exit most slots room a type start 0 typed (omega arith))
        (joined image function exit most (get_flow image function exit most slot _ 1 (omega (arith, slice_get_within slots slot type there)) (omega arith)) (joined image function exit most (swap_flow _) (store_flow _)))

    putchar_flow : (a : Operand) (start : ℕ) → Gives slots a types.Int → operand_weight a ≤ 4096 → Goes start 0 (operand_code a ++ jump (start + length (operand_code a) + 1) ∷ out ∷ discard ∷ []) 0
    putchar_flow a start typed le =
        joined image function exit most (operand_flow image function exit most slots room a types.Int start 0 typed (omega arith))
        (joined image function exit most (pass image function exit most (omega arith)) (joined image function exit most (out_flow _) (discard_flow _)))

  declaration_flow : (slots : Slots) (slot : ℕ) (o : Option IntegerType) (a : Operand) (start : ℕ) → suc (length slots) ≤ function.slots → IsTypedDeclaration slots slot o a → operand_weight a ≤ 4095
      → Goes start 0 (make slot ∷ get slot ∷ (operand_code a ++ store ∷ [])) 0
  declaration_flow slots slot None a start room typed le = absurd typed
  declaration_flow slots slot (Some type) a start room typed le =
      let longer = length-append slots (type ∷ []) in
      let there : slot < function.slots = omega (arith, typed.0) in
      joined image function exit most (make_flow slot start there)
      (joined image function exit most (get_flow image function exit most slot _ 0 there (omega arith))
      (joined image function exit most (operand_flow image function exit most (slots ++ type ∷ []) (omega arith) a type _ 1 typed.1 (omega arith)) (store_flow _)))

  -- ---- statements

  module _ (assertions : List Assertion) (index : List ℕ → ℕ) (listed : (a : tree.Assertion) → IsListed assertions a → index a.name < length image.assertions) (room : most ≤ function.slots) where
    mutual
      unfolding IsTypedWith stmt_code stmt_weight stmt_most expr_weight expr_code

      pub stmt_flow : (s : Stmt Check) (slots : Slots) (live start : ℕ) → live ≡ length slots → IsTyped assertions slots s → stmt_weight s ≤ 4096 → stmt_most live s ≤ most → Goes start 0 (stmt_code (check_code index) exit live start s) 0
      stmt_flow empty slots live start same typed le few = nothing image function exit most start 0
      stmt_flow (expression (operand None None (assign (variable slot) a))) slots live start same typed le few = assign_flow slots (omega arith) slot a typed.0 start typed.1 typed.2 (omega arith)
      stmt_flow (expression (operand None None (putchar a))) slots live start same typed le few = putchar_flow slots (omega arith) a start typed (omega arith)
      stmt_flow (variable_declaration slot (scalar s) (value a)) slots live start same typed le few = declaration_flow slots slot (integer_of s) a start (omega arith) typed (omega arith)
      stmt_flow (block b) slots live start same typed le few = stmts_flow b slots live 0 start (omega arith) typed (omega arith) (let e : live ≡ live + 0 = omega arith in subst (λ (n : ℕ). stmts_most n b ≤ most) e few)
      stmt_flow (if_else c a b) slots live start same typed le few =
          let visible = live_within live a in
          branch image function exit most (truth_flow image function exit most slots (omega arith) c start typed.0 (omega arith)) (stmt_flow a slots live _ same typed.2 (omega arith) (omega arith)) (stmt_flow b slots live _ same typed.4 (omega arith) (omega arith))
      stmt_flow (while_loop c body) slots live start same typed le few =
          let visible = live_within live body in
          loop image function exit most (truth_flow image function exit most slots (omega arith) c _ typed.0 (omega arith)) (stmt_flow body slots live _ same typed.2 (omega arith) few)
      stmt_flow (contract_assert c predicate) slots live start same typed le few =
          times_flow slots (omega arith) c.times start (evaluation_code c.semantic start (index c.assertion.name) predicate)
          (evaluation_flow slots (omega arith) c.semantic start (index c.assertion.name) predicate (listed c.assertion typed.0.1) typed.1 (omega arith))
      stmt_flow (return_value a) slots live start same typed le few =
          joined image function exit most (operand_flow image function exit most slots (omega arith) a types.Int start 0 typed (omega arith)) (leave image function exit most live few)
      stmt_flow s slots live start same typed le few = absurd typed

      pub stmts_flow : (b : Stmts Check) (slots : Slots) (base count start : ℕ) → base + count ≡ length slots → AreTyped assertions slots b → stmts_weight b ≤ 4096 → stmts_most (base + count) b ≤ most → Goes start 0 (stmts_code (check_code index) exit base count start b) 0
      stmts_flow done slots base count start same typed le few = ends_flow base count start (omega arith)
      stmts_flow (next s rest) slots base count start same typed le few =
          let behind = live_more base count s in
          let seen : base + live_behind count s ≡ length (seen_behind slots s) = behind ∙ seen_length assertions slots (base + count) s same typed.0 in
          let few_behind : stmts_most (live_behind (base + count) s) rest ≤ most = omega arith in
          let few_rest = subst (λ (n : ℕ). stmts_most n rest ≤ most) (sym behind) few_behind in
          joined image function exit most (stmt_flow s slots (base + count) start same typed.0 (omega arith) (omega arith)) (stmts_flow rest (seen_behind slots s) base (live_behind count s) _ seen typed.1 (omega arith) few_rest)
