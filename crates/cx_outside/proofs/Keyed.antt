-- A map whose keys are lists of bytes, read by bytes: what an insertion leaves.
use Rattle.std.proofs.Common.{◌≡◌, ◌≢◌, ℕ, Bool, true, false, List, Some, sym, subst, ◌∙◌, ⊎_elim}
use Rattle.std.proofs.lemmas.Bool.{cases_Bool}
use Rattle.std.specs.Ordering.{is_eq, eq_by_cmp, nat_cmp}
use Rattle.std.specs.Cmp.{eq_by_cmp_equiv}
use Rattle.std.specs.Cmp.Lexicographic.{slice_cmp, nat_list_cmp_total, bytes_decides}
use Rattle.std.specs.Str.{bytes_eq}
use Rattle.std.specs.Map.{lookup, IsKeyTest, AreApart, KeepsOthers}
use Rattle.std.proofs.lemmas.Map.Text.{is_eq-slice_cmp}
use Rattle.cx_outside.specs.Folder.{Folder, Puts}

module _ {K : Type 0} (eq : K → K → Bool) (test : K → Bool) where
  pub other_entries : {X : Type 0} (old new : List (K × X)) → KeepsOthers eq test old new → (other : K → Bool) → IsKeyTest eq other → AreApart test other → lookup other new ≡ lookup other old
  unfolding KeepsOthers
  other_entries old new h = h

module _ {K : Type 0} (bytes : K → List ℕ) where
  pub apart : (name other : List ℕ) → other ≢ name → (k : K) → is_eq (slice_cmp nat_cmp name (bytes k)) ≡ true → is_eq (slice_cmp nat_cmp other (bytes k)) ≡ false
  apart name other differs k here =
      let own : name ≡ bytes k = (bytes_decides name (bytes k)).0 (sym (is_eq-slice_cmp name (bytes k)) ∙ here) in
      ⊎_elim
      (λ same. absurd (differs ((bytes_decides other (bytes k)).0 same ∙ sym own)))
      (λ not_same. is_eq-slice_cmp other (bytes k) ∙ not_same)
      (cases_Bool (bytes_eq other (bytes k)))

  -- what the entries have under a name
  abbrev pub file_at : List (K × List ℕ) → Folder
  file_at entries name = lookup (λ k. is_eq (slice_cmp nat_cmp name (bytes k))) entries

  pub puts : (old new : List (K × List ℕ)) (key : K) (name file : List ℕ) → bytes key ≡ name
      → lookup (λ k. is_eq (slice_cmp nat_cmp (bytes key) (bytes k))) new ≡ Some file
      → KeepsOthers (eq_by_cmp (λ x y. slice_cmp nat_cmp (bytes x) (bytes y))) (λ k. is_eq (slice_cmp nat_cmp (bytes key) (bytes k))) old new
      → Puts name file (file_at old) (file_at new)
  puts old new key name file own here others = record {
    holds = subst (λ (t : List ℕ). file_at new t ≡ Some file) own here;
    others = λ other differs. other_entries _ _ old new others _ (λ x y. (eq_by_cmp_equiv nat_list_cmp_total).congr other (bytes x) (bytes y))
        (apart (bytes key) other (λ same. differs (same ∙ own)));
  }
