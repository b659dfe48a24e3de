-- The code of the unit's statements is that of its program's.
use Rattle.std.proofs.Common.{◌≡◌, ℕ, ◌+◌, ◌*◌, ◌^◌, ◌<◌, ◌≤◌, true, false, List, [], ◌∷◌, ◌++◌, length, Option, Some, None, refl, sym, ap, ◌∙◌, inl, inr, codes, arith}
use Rattle.std.specs.Prelude.{slice_get}
use Rattle.std.specs.Option.{option_map}
use Rattle.std.proofs.lemmas.Option.{slice_get_past, slice_get_cases, slice_get-map}
use Rattle.cx_code.specs.declared.code.Instruction.{Instruction}
use Rattle.cx_code.specs.declared.image.Image.{Image}
use Rattle.cx_core.specs.declared.unit.CoreUnit.{CoreUnit}
use Rattle.cx_core.specs.declared.unit.Assertion.{Assertion}
use Rattle.cx_core.specs.declared.statement.Statement.{Statement}
use Rattle.cx_core.specs.Words.{Definer, Semantic}
use Rattle.cx_core.specs.Tree.{ObjectType, scalar, pointer, function_pointer, class, Expr, unary, binary, assign, putchar, Operand, operand, value, Check, Stmt, Stmts, expression, variable_declaration, block, if_else, while_loop, contract_assert, return_value, done, next}
use Rattle.cx_core.specs.View.{assertion_of, stmts_of}
use Rattle.cx_core.specs.Renamed.{Names, renamed_type_or_none, renamed_expr, renamed_operand, renamed_stmt, renamed_stmts}
use Rattle.cx_core.specs.Numbers.{times_under, block_numbers}
use Rattle.cx_core.specs.Linked.{check_of}
use Rattle.cx_typed.specs.Unit.{planned, unit_names, unit_check, body_of, AreNumbered}
use Rattle.cx_typed.proofs.Renaming.{unit_check_is}
use Rattle.cx_lower.specs.Code.{read_code, expr_code, operand_code, truth_code, discarded_code, times_code, evaluation_code, check_code, live_behind, stmt_code, stmts_code, stmt_most, stmts_most, exit_code, exit_of, body_code}
use Rattle.cx_lower.specs.Emitted.{where_listed, asserted_code}
use Rattle.cx_lower.specs.Tables.{texts_of, entries_of, index_of, main_function, image_of, image_with}
use Rattle.cx_lower.proofs.Assertions.{index_is}

module _ (names : Names) where
  -- ---- expressions

  same_read : (read : Option ObjectType) → read_code (renamed_type_or_none names read) ≡ read_code read
  same_read None = refl
  same_read (Some (scalar s)) = refl
  same_read (Some (pointer t)) = refl
  same_read (Some (function_pointer t)) = refl
  same_read (Some (class c)) = refl

  mutual
    unfolding renamed_expr expr_code

    same_expr : (e : Expr) → expr_code (renamed_expr names e) ≡ expr_code e
    same_expr (unary operator type a) = rw (same_operand a) refl
    same_expr (binary operator type a b) = rw (same_operand a, same_operand b) refl
    same_expr other = refl

    pub same_operand : (a : Operand) → operand_code (renamed_operand names a) ≡ operand_code a
    same_operand (operand read to e) = rw (same_expr e, same_read read) refl

  same_discarded : (start : ℕ) (a : Operand) → discarded_code start (renamed_operand names a) ≡ discarded_code start a
  unfolding renamed_expr
  same_discarded start (operand None None (assign a b)) = rw (same_operand b, same_expr a) refl
  same_discarded start (operand None None (putchar a)) = rw (same_operand a) refl
  same_discarded start other = refl

  module _ {A B : Type 0} (f : A → B) where
    same_live : (live : ℕ) (s : Stmt A) → live_behind live (renamed_stmt names f s) ≡ live_behind live s
    unfolding renamed_stmt
    same_live live (variable_declaration slot type i) = refl
    same_live live other = refl

    mutual
      unfolding renamed_stmt stmt_most

      same_most_stmt : (live : ℕ) (s : Stmt A) → stmt_most live (renamed_stmt names f s) ≡ stmt_most live s
      same_most_stmt live (variable_declaration slot type i) = refl
      same_most_stmt live (block b) = same_most live b
      same_most_stmt live (if_else c a b) = rw (same_most_stmt live a, same_most_stmt live b) refl
      same_most_stmt live (while_loop c body) = same_most_stmt live body
      same_most_stmt live other = refl

      pub same_most : (live : ℕ) (b : Stmts A) → stmts_most live (renamed_stmts names f b) ≡ stmts_most live b
      same_most live done = refl
      same_most live (next s rest) = rw (same_live live s, same_most_stmt live s, same_most (live_behind live s) rest) refl

    -- ---- statements, where what stands for an assertion has the code of the assertion

    module _ (asserted : ℕ → A → Operand → List Instruction) (checked : ℕ → B → Operand → List Instruction)
        (same_asserted : (start : ℕ) (a : A) (predicate : Operand) → checked start (f a) (renamed_operand names predicate) ≡ asserted start a predicate) (exit : ℕ) where
      mutual
        unfolding renamed_stmt stmt_code renamed_expr

        same_stmt : (live start : ℕ) (s : Stmt A) → stmt_code checked exit live start (renamed_stmt names f s) ≡ stmt_code asserted exit live start s
        same_stmt live start (expression a) = same_discarded start a
        same_stmt live start (variable_declaration slot type (value a)) = rw (same_operand a) refl
        same_stmt live start (block b) = same_stmts live 0 start b
        same_stmt live start (if_else c a b) =
            let p = start + length (truth_code c) + 1 in
            let q = p + length (stmt_code asserted exit live p a) + 1 in
            rw (same_operand c, same_stmt live p a, same_stmt live q b) refl
        same_stmt live start (while_loop c body) =
            let p = start + 1 + length (truth_code c) + 1 in
            rw (same_operand c, same_stmt live p body) refl
        same_stmt live start (contract_assert a predicate) = same_asserted start a predicate
        same_stmt live start (return_value a) = rw (same_operand a) refl
        same_stmt live start other = refl

        pub same_stmts : (base count start : ℕ) (b : Stmts A) → stmts_code checked exit base count start (renamed_stmts names f b) ≡ stmts_code asserted exit base count start b
        same_stmts base count start done = refl
        same_stmts base count start (next s rest) =
            let code = stmt_code asserted exit (base + count) start s in
            rw (same_live count s, same_stmt (base + count) start s, same_stmts base (live_behind count s) (start + length code) rest) refl

-- ---- the assertions of a unit

pub listed_code : (semantic : Semantic) (assertions : List Assertion) (start i : ℕ) (predicate : Operand) → i < length assertions
    → asserted_code semantic assertions start i predicate ≡ times_code (times_under semantic 0) (evaluation_code semantic start i predicate)
listed_code semantic assertions start i predicate within =
    elim ((slice_get_cases assertions i).1) [
      | inl found ↦ ap (λ o. where_listed o (times_code (times_under semantic 0) (evaluation_code semantic start i predicate))) found.2
      | inr past ↦ absurd (omega (arith, within, past.0))
    ]

pub unlisted_code : (semantic : Semantic) (assertions : List Assertion) (start i : ℕ) (predicate : Operand) → length assertions ≤ i → asserted_code semantic assertions start i predicate ≡ []
unlisted_code semantic assertions start i predicate past =
    ap (λ o. where_listed o (times_code (times_under semantic 0) (evaluation_code semantic start i predicate))) (slice_get_past assertions i past)

module _ (semantic : Semantic) (unit : CoreUnit) where
  abbrev asserted : ℕ → ℕ → Operand → List Instruction
  asserted = asserted_code semantic unit.assertions

  abbrev checked : ℕ → Check → Operand → List Instruction
  checked = check_code (index_of unit.assertions)

  listed_check : (start i : ℕ) (predicate : Operand) (a : Assertion) → AreNumbered 1 unit.assertions → 1 + length unit.assertions ≤ 2 ^ 64 → slice_get unit.assertions i ≡ Some a
      → checked start (unit_check semantic unit i) predicate ≡ times_code (times_under semantic 0) (evaluation_code semantic start i predicate)
  listed_check start i predicate a numbered few at =
      ap (λ (c : Check). checked start c predicate) (unit_check_is semantic unit i a at)
      ∙ ap (λ (k : ℕ). times_code (times_under semantic 0) (evaluation_code semantic start k predicate)) (index_is 1 unit.assertions i a numbered few at)

  no_check : (start i : ℕ) (predicate : Operand) → slice_get unit.assertions i ≡ None → checked start (unit_check semantic unit i) predicate ≡ []
  no_check start i predicate at =
      ap (λ o. checked start (check_of (planned semantic unit) (block_numbers (planned semantic unit ∷ []) 0 Definer) o) predicate) (slice_get-map assertion_of unit.assertions i ∙ ap (option_map assertion_of) at)

  same_evaluation : (start i : ℕ) (predicate : Operand) → evaluation_code semantic start i (renamed_operand (unit_names semantic unit) predicate) ≡ evaluation_code semantic start i predicate
  same_evaluation start i predicate = rw (same_operand (unit_names semantic unit) predicate) refl

  same_check : AreNumbered 1 unit.assertions → 1 + length unit.assertions ≤ 2 ^ 64 → (start i : ℕ) (predicate : Operand)
      → checked start (unit_check semantic unit i) (renamed_operand (unit_names semantic unit) predicate) ≡ asserted start i predicate
  same_check numbered few start i predicate =
      elim ((slice_get_cases unit.assertions i).1) [
        | inl found ↦
            listed_check start i (renamed_operand (unit_names semantic unit) predicate) found.0 numbered few found.2
            ∙ ap (times_code (times_under semantic 0)) (same_evaluation start i predicate)
            ∙ ap (λ o. where_listed o (times_code (times_under semantic 0) (evaluation_code semantic start i predicate))) (sym found.2)
        | inr past ↦
            no_check start i (renamed_operand (unit_names semantic unit) predicate) past.1
            ∙ ap (λ o. where_listed o (times_code (times_under semantic 0) (evaluation_code semantic start i predicate))) (sym past.1)
      ]

  pub body_code_is : AreNumbered 1 unit.assertions → 1 + length unit.assertions ≤ 2 ^ 64 → (exit base count start : ℕ) (statements : List Statement)
      → stmts_code checked exit base count start (body_of semantic unit statements) ≡ stmts_code asserted exit base count start (stmts_of statements)
  body_code_is numbered few exit base count start statements =
      same_stmts (unit_names semantic unit) (unit_check semantic unit) asserted checked (same_check numbered few) exit base count start (stmts_of statements)

  pub body_most_is : (statements : List Statement) → stmts_most 0 (body_of semantic unit statements) ≡ stmts_most 0 (stmts_of statements)
  body_most_is statements = same_most (unit_names semantic unit) (unit_check semantic unit) 0 (stmts_of statements)

  -- the image is the one that stands for the program
  pub image_is : AreNumbered 1 unit.assertions → 1 + length unit.assertions ≤ 2 ^ 64 → (statements : List Statement) → image_with asserted unit (stmts_of statements) ≡ image_of unit (body_of semantic unit statements)
  unfolding image_with body_code
  image_is numbered few statements =
      let b = stmts_of statements in
      let p = body_of semantic unit statements in
      let image : ℕ → ℕ → List Instruction → Image = λ slots exit code. record {
        texts = texts_of unit.name unit.assertions;
        types = [];
        globals = [];
        functions = main_function ∷ record { name = codes "main!"; counted = false; parameters = 0; slots = slots; result = true; code = code ++ exit_code exit slots; regions = [] } ∷ [];
        assertions = entries_of unit.name (length unit.assertions + 1) 1 unit.assertions;
        main = 0;
        handler = 0;
      } in
      let exits : exit_of asserted b ≡ exit_of checked p =
      ap (λ (n : ℕ). length (stmts_code asserted 0 0 0 0 b) + 2 + 2 * n) (sym (body_most_is statements)) ∙ ap (λ (code : List Instruction). length code + 2 + 2 * stmts_most 0 p) (sym (body_code_is numbered few 0 0 0 0 statements)) in
      ap (λ (n : ℕ). image n (exit_of asserted b) (stmts_code asserted (exit_of asserted b) 0 0 0 b)) (sym (body_most_is statements))
      ∙ ap (λ (exit : ℕ). image (stmts_most 0 p) exit (stmts_code asserted exit 0 0 0 b)) exits
      ∙ ap (image (stmts_most 0 p) (exit_of checked p)) (sym (body_code_is numbered few (exit_of checked p) 0 0 0 statements))
