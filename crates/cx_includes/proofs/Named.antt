-- Indices by names: what an insertion leaves, and what it is that they keep.
use Rattle.std.proofs.Common.{◌≡◌, ◌≢◌, ℕ, List, Option, Some, subst, ◌∙◌}
use Rattle.std.specs.Ordering.{is_eq, eq_by_cmp, nat_cmp}
use Rattle.std.specs.Cmp.{eq_by_cmp_equiv}
use Rattle.std.specs.Cmp.Lexicographic.{slice_cmp, nat_list_cmp_total}
use Rattle.std.specs.Map.{lookup, KeepsOthers}
use Rattle.cx_outside.proofs.Keyed.{other_entries, apart}

-- an insertion under a key with the bytes of a name
module _ {K X : Type 0} (bytes : K → List ℕ) where
  abbrev pub at_name : List (K × X) → List ℕ → Option X
  at_name entries name = lookup (λ k. is_eq (slice_cmp nat_cmp name (bytes k))) entries

  pub own_index : (new : List (K × X)) (key : K) (name : List ℕ) (index : X) → bytes key ≡ name → at_name new (bytes key) ≡ Some index → at_name new name ≡ Some index
  own_index new key name index own here = subst (λ (t : List ℕ). at_name new t ≡ Some index) own here

  pub other_indices : (old new : List (K × X)) (key : K) (name : List ℕ) → bytes key ≡ name
      → KeepsOthers (eq_by_cmp (λ x y. slice_cmp nat_cmp (bytes x) (bytes y))) (λ k. is_eq (slice_cmp nat_cmp (bytes key) (bytes k))) old new
      → (other : List ℕ) → other ≢ name → at_name new other ≡ at_name old other
  other_indices old new key name own others other differs =
      other_entries _ _ old new others _ (λ x y. (eq_by_cmp_equiv nat_list_cmp_total).congr other (bytes x) (bytes y))
      (apart bytes (bytes key) other (λ same. differs (same ∙ own)))
