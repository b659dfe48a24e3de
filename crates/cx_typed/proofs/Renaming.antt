-- What linking leaves as it is: the types and the weights of trees; and what stands for the assertions of a unit in its program.
use Rattle.std.proofs.Common.{◌≡◌, ◌⊎◌, inl, inr, refl, sym, ap, ◌∙◌, subst, ℕ, zero, suc, ◌+◌, ◌<◌, Bool, true, false, if◌then◌else◌, List, [], ◌∷◌, map, length, Option, Some, None, arith}
use Rattle.std.specs.Prelude.{slice_get, bytes_eq}
use Rattle.std.proofs.lemmas.Slice.Eq.{bytes_eq-Decides}
use Rattle.std.proofs.lemmas.Option.{slice_get-map}
use Rattle.std.specs.Option.{option_map}
use Rattle.cx_core.specs.declared.number.IntegerType.{IntegerType}
use Rattle.cx_core.specs.declared.unit.Assertion.{Assertion}
use Rattle.cx_core.specs.declared.unit.CoreUnit.{CoreUnit}
use Rattle.cx_core.specs.Words.{Definer, Semantic, Ignore, Observe, Enforce, QuickEnforce}
use Rattle.cx_core.specs.Operators.{integer_of}
use Rattle.cx_core.specs.Tree as tree
use Rattle.cx_core.specs.Tree.{ObjectType, scalar, pointer, function_pointer, class, number, Constant, Expr, literal, variable, unary, binary, assign, putchar, Operand, operand, Init, value, Check, Stmt, Stmts, empty, expression, variable_declaration, block, if_else, while_loop, contract_assert, return_value, done, next}
use Rattle.cx_core.specs.View.{assertion_of, stmts_of}
use Rattle.cx_core.specs.Renamed.{Names, renamed_type, renamed_expr, renamed_operand, renamed_init, renamed_stmt, renamed_stmts}
use Rattle.cx_core.specs.Numbers.{Planned, times_under, assertion_named, number_of, block_numbers}
use Rattle.cx_core.specs.Linked.{check_of}
use Rattle.cx_core.specs.declared.statement.Statement.{Statement}
use Rattle.cx_emit.specs.Statements.{declares}
use Rattle.cx_typed.specs.Typed.{Slots, HasType, Gives, IsRead, IsCondition, IsTypedDiscarded, IsTypedDeclaration, seen_behind, IsTypedWith, AreTypedWith, AreTyped, AreTypedIn, IsListedCheck, IsIndex}
use Rattle.cx_typed.specs.Weight.{expr_weight, operand_weight, init_weight, stmt_weight, stmts_weight}
use Rattle.cx_typed.specs.Unit.{planned, unit_names, unit_check, body_of}

module _ (names : Names) where
  -- ---- types

  still_read : (slots : Slots) (object : ObjectType) (e : Expr) (type : IntegerType) → IsRead slots object e type → IsRead slots (renamed_type names object) (renamed_expr names e) type
  unfolding renamed_expr
  still_read slots (scalar s) (variable slot) type h = h
  still_read slots (scalar s) other type h = absurd h
  still_read slots (pointer t) e type h = absurd h
  still_read slots (function_pointer t) e type h = absurd h
  still_read slots (class c) e type h = absurd h

  mutual
    unfolding renamed_expr HasType

    still_has : (e : Expr) (slots : Slots) (type : IntegerType) → HasType slots e type → HasType slots (renamed_expr names e) type
    still_has (literal (number n)) slots type h = h
    still_has (unary operator computed a) slots type h = (h.0, h.1, still_gives a slots computed h.2)
    still_has (binary operator computed a b) slots type h = (h.0, h.1, still_gives a slots computed h.2, still_gives b slots computed h.3)
    still_has other slots type h = absurd h

    pub still_gives : (a : Operand) (slots : Slots) (type : IntegerType) → Gives slots a type → Gives slots (renamed_operand names a) type
    still_gives (operand None to e) slots type h = (h.0, still_has e slots h.0 h.1, h.2)
    still_gives (operand (Some object) to e) slots type h = (h.0, still_read slots object e h.0 h.1, h.2)

  still_condition : (slots : Slots) (a : Operand) → IsCondition slots a → IsCondition slots (renamed_operand names a)
  still_condition slots a h = (h.0, still_gives a slots h.0 h.1)

  still_discarded : (slots : Slots) (a : Operand) → IsTypedDiscarded slots a → IsTypedDiscarded slots (renamed_operand names a)
  unfolding renamed_expr
  still_discarded slots (operand None None (assign (variable slot) a)) h = (h.0, h.1, still_gives a slots h.0 h.2)
  still_discarded slots (operand None None (putchar a)) h = still_gives a slots _ h
  still_discarded slots other h = absurd h

  still_declared : (slots : Slots) (slot : ℕ) (type : Option IntegerType) (a : Operand) → IsTypedDeclaration slots slot type a → IsTypedDeclaration slots slot type (renamed_operand names a)
  still_declared slots slot None a h = absurd h
  still_declared slots slot (Some type) a h = (h.0, still_gives a _ type h.1)

  module _ {A B : Type 0} (f : A → B) where
    pub same_declares : (s : Stmt A) → declares (renamed_stmt names f s) ≡ declares s
    unfolding renamed_stmt
    same_declares (variable_declaration slot type i) = refl
    same_declares other = refl

    same_seen : (slots : Slots) (s : Stmt A) → seen_behind slots (renamed_stmt names f s) ≡ seen_behind slots s
    unfolding renamed_stmt
    same_seen slots (variable_declaration slot (scalar s) i) = refl
    same_seen slots other = refl

    module _ (P : A → Type 0) (Q : B → Type 0) (follows : (a : A) → P a → Q (f a)) where
      mutual
        unfolding renamed_stmt IsTypedWith renamed_expr

        still_typed : (s : Stmt A) (slots : Slots) → IsTypedWith P slots s → IsTypedWith Q slots (renamed_stmt names f s)
        still_typed empty slots h = h
        still_typed (expression a) slots h = still_discarded slots a h
        still_typed (variable_declaration slot (scalar s) (value a)) slots h = still_declared slots slot (integer_of s) a h
        still_typed (block b) slots h = are_still_typed b slots h
        still_typed (if_else c a b) slots h =
            (still_condition slots c h.0, same_declares a ∙ h.1, still_typed a slots h.2, same_declares b ∙ h.3, still_typed b slots h.4)
        still_typed (while_loop c body) slots h = (still_condition slots c h.0, same_declares body ∙ h.1, still_typed body slots h.2)
        still_typed (contract_assert a predicate) slots h = (follows a h.0, still_condition slots predicate h.1)
        still_typed (return_value a) slots h = still_gives a slots _ h
        still_typed other slots h = absurd h

        pub are_still_typed : (b : Stmts A) (slots : Slots) → AreTypedWith P slots b → AreTypedWith Q slots (renamed_stmts names f b)
        are_still_typed done slots h = h
        are_still_typed (next s rest) slots h =
            (still_typed s slots h.0, subst (λ seen. AreTypedWith Q seen (renamed_stmts names f rest)) (sym (same_seen slots s)) (are_still_typed rest (seen_behind slots s) h.1))

  -- ---- weights

  mutual
    unfolding renamed_expr expr_weight

    same_expr : (e : Expr) → expr_weight (renamed_expr names e) ≡ expr_weight e
    same_expr (unary operator type a) = ap suc (same_operand a)
    same_expr (binary operator type a b) = ap suc (ap (λ n. n + operand_weight (renamed_operand names b)) (same_operand a) ∙ ap (λ n. operand_weight a + n) (same_operand b))
    same_expr (assign a b) = ap suc (ap (λ n. n + operand_weight (renamed_operand names b)) (same_expr a) ∙ ap (λ n. expr_weight a + n) (same_operand b))
    same_expr (putchar a) = ap suc (same_operand a)
    same_expr other = refl

    same_operand : (a : Operand) → operand_weight (renamed_operand names a) ≡ operand_weight a
    same_operand (operand read to e) = same_expr e

  same_init : (i : Init) → init_weight (renamed_init names i) ≡ init_weight i
  unfolding renamed_expr
  same_init (value a) = same_operand a
  same_init other = refl

  module _ {A B : Type 0} (f : A → B) where
    mutual
      unfolding renamed_stmt stmt_weight

      same_stmt : (s : Stmt A) → stmt_weight (renamed_stmt names f s) ≡ stmt_weight s
      same_stmt (expression a) = ap suc (same_operand a)
      same_stmt (variable_declaration slot type i) = ap suc (same_init i)
      same_stmt (block b) = ap suc (same_weight b)
      same_stmt (if_else c a b) =
          ap suc (ap (λ n. n + (stmt_weight (renamed_stmt names f a) + stmt_weight (renamed_stmt names f b))) (same_operand c)
          ∙ ap (λ n. operand_weight c + (n + stmt_weight (renamed_stmt names f b))) (same_stmt a) ∙ ap (λ n. operand_weight c + (stmt_weight a + n)) (same_stmt b))
      same_stmt (while_loop c body) = ap suc (ap (λ n. n + stmt_weight (renamed_stmt names f body)) (same_operand c) ∙ ap (λ n. operand_weight c + n) (same_stmt body))
      same_stmt (contract_assert a predicate) = ap suc (same_operand predicate)
      same_stmt (return_value a) = ap suc (same_operand a)
      same_stmt other = refl

      pub same_weight : (b : Stmts A) → stmts_weight (renamed_stmts names f b) ≡ stmts_weight b
      same_weight done = refl
      same_weight (next s rest) = ap (λ n. n + stmts_weight (renamed_stmts names f rest)) (same_stmt s) ∙ ap (λ n. stmt_weight s + n) (same_weight rest)

-- ---- the assertions of a unit

-- an assertion of a table is found there by its name, it or an earlier one
abbrev IsFound : List ℕ → Option tree.Assertion → Type 0
IsFound name found = (b : tree.Assertion) × (found ≡ Some b)

found_or : (x a : Assertion) (b : Bool) → (bytes_eq x.name a.name ≡ b) → (later : Option tree.Assertion) → IsFound a.name later → IsFound a.name (if b then Some (assertion_of x) else later)
found_or x a true e later h = (assertion_of x, refl)
found_or x a false e later h = h

the_same : (x a : Assertion) → Some x ≡ Some a → x ≡ a
the_same x a e = cc

found : (assertions : List Assertion) (i : ℕ) (a : Assertion) → slice_get assertions i ≡ Some a → IsFound a.name (assertion_named a.name (map assertion_of assertions))
found [] i a e = absurd cc
found (x ∷ assertions) zero a e =
    let same : bytes_eq x.name a.name ≡ true = (bytes_eq-Decides x.name a.name).1 (ap (λ (o : Assertion). o.name) (the_same x a e)) in
    (assertion_of x, ap (λ b. if b then Some (assertion_of x) else assertion_named a.name (map assertion_of assertions)) same)
found (x ∷ assertions) (suc i) a e = found_or x a (bytes_eq x.name a.name) refl _ (found assertions i a e)

there : (assertions : List Assertion) (i : ℕ) → i < length assertions → (a : Assertion) × (slice_get assertions i ≡ Some a)
there [] i below = absurd (omega (arith, below))
there (x ∷ assertions) zero below = (x, refl)
there (x ∷ assertions) (suc i) below = there assertions i (omega (arith, below))

module _ (semantic : Semantic) (unit : CoreUnit) where
  -- the Definer evaluates it once, or under `ignore` never
  pub unit_check_is : (i : ℕ) (a : Assertion) → slice_get unit.assertions i ≡ Some a
      → unit_check semantic unit i ≡ record { assertion = assertion_of a; semantic = semantic; times = times_under semantic 0 }
  unit_check_is i a e =
      let f = found unit.assertions i a e in
      ap (check_of p times) (slice_get-map assertion_of unit.assertions i ∙ ap (option_map assertion_of) e)
      ∙ ap (λ (o : Option tree.Assertion). record { assertion = assertion_of a; semantic = semantic; times = number_of p Definer o }) f.1
    where
      p : Planned
      p = planned semantic unit

      times : List ℕ → ℕ
      times = block_numbers (planned semantic unit ∷ []) 0 Definer

  once_or_never : (s : Semantic) → (times_under s 0 ≡ 0) ⊎ (times_under s 0 ≡ 1)
  once_or_never Ignore = inl refl
  once_or_never Observe = inr refl
  once_or_never Enforce = inr refl
  once_or_never QuickEnforce = inr refl

  listed_check : (i : ℕ) → IsIndex unit.assertions i → IsListedCheck unit.assertions (unit_check semantic unit i)
  listed_check i below =
      let a = there unit.assertions i below in
      subst (IsListedCheck unit.assertions) (sym (unit_check_is i a.0 a.1)) (once_or_never semantic, (i, a.0, a.1, refl))

  pub body_typed : (statements : List Statement) → AreTypedIn unit.assertions [] (stmts_of statements) → AreTyped unit.assertions [] (body_of semantic unit statements)
  body_typed statements h =
      are_still_typed (unit_names semantic unit) (unit_check semantic unit) (IsIndex unit.assertions) (IsListedCheck unit.assertions) listed_check (stmts_of statements) [] h

  pub body_weight : (statements : List Statement) → stmts_weight (body_of semantic unit statements) ≡ stmts_weight (stmts_of statements)
  body_weight statements = same_weight (unit_names semantic unit) (unit_check semantic unit) (stmts_of statements)
