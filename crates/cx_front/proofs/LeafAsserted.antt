-- An assertion statement whose assertion is the last of the table.
use Rattle.std.proofs.Common.{◌≡◌, ℕ, ◌+◌, ◌-◌, List, [], ◌∷◌, ◌++◌, Option, Some, None, length, sym, ap, ◌∙◌, arith}
use Rattle.std.specs.Prelude.{slice_get}
use Rattle.cx_syntax.specs.Tree as grammar
use Rattle.cx_includes.specs.declared.assembled.Assembled.{Assembled}
use Rattle.cx_includes.specs.declared.assembled.Placed.{Placed}
use Rattle.cx_core.specs.declared.unit.Assertion.{Assertion}
use Rattle.cx_core.specs.Tree as core
use Rattle.cx_front.specs.Front.{Names, Typed, as_condition, both, entries, entry_at, expr_in, asserted_at}
use Rattle.cx_front.specs.Made.{is_asserted}
use Rattle.cx_front.proofs.Statements.{both_none}

module _ (list : Assembled) (names : Names) (table more : List Assertion) (i : ℕ) (e : grammar.Expr) (word : Placed) where
  pub entry_stands : more ≡ table ++ entry_at list (length table + 1) word e ∷ [] → slice_get list.placed i ≡ Some word → more ≡ table ++ entries list (length table + 1) e (slice_get list.placed i)
  entry_stands at_more at_word = at_more ∙ ap (λ (o : Option Placed). table ++ entries list (length table + 1) e o) (sym at_word)

  pub assertion_stands : (index : ℕ) (predicate : Typed) → index ≡ length table → slice_get list.placed i ≡ Some word → expr_in list names e ≡ Some predicate
      → Some (core.contract_assert index (as_condition predicate)) ≡ is_asserted list (length table + 1) names i e
  assertion_stands index predicate at_index at_word is =
      let place : index ≡ length table + 1 - 1 = omega (arith, at_index) in
      ap (λ (k : ℕ). Some (core.contract_assert k (as_condition predicate))) place
      ∙ sym (ap (λ (o : Option Placed). both (asserted_at (length table + 1)) o (expr_in list names e)) at_word ∙ ap (both (asserted_at (length table + 1)) (Some word)) is)

module _ (list : Assembled) (ordinal : ℕ) (names : Names) (i : ℕ) (e : grammar.Expr) where
  pub no_predicate : expr_in list names e ≡ None → None ≡ is_asserted list ordinal names i e
  no_predicate none = sym (ap (both (asserted_at ordinal) (slice_get list.placed i)) none ∙ both_none (asserted_at ordinal) (slice_get list.placed i))
