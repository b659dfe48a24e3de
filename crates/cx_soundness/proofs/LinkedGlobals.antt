-- What stands under the numbers of globals: those that no unit defines have numbers behind those of the others.
use Rattle.std.proofs.Common.{◌≡◌, refl, ap, arith, ℕ, suc, ◌≤◌, Bool, true, false, ◌||◌, if◌then◌else◌, List, [], ◌∷◌, ◌++◌, map, length, Option, Some, None}
use Rattle.std.specs.Prelude.{bytes_eq}
use Rattle.std.proofs.lemmas.Slice.Eq.{bytes_eq-Decides}
use Rattle.cx_core.specs.Tree.{ObjectType}
use Rattle.cx_core.specs.Linked.{is_among, distinct_after, number_in}
use Rattle.cx_soundness.specs.Given.{type_at}
use Rattle.cx_soundness.specs.Linking.{are_distinct_after, is_unused_or}

-- the type of a global that is defined, and none of another one
pub type_found : (f : List ℕ → Option ObjectType) (before names more : List (List ℕ)) (name : List ℕ) → are_distinct_after before names ≡ true
    → type_at (map f names) (number_in (distinct_after before (names ++ more)) name) ≡ (if is_among names name then f name else None)
type_found f before [] more name d = refl
type_found f before (n ∷ names) more name d = by_before (is_among before n) d (λ e. type_found f (n ∷ before) names more name e)
  where
    by_name : (t : Bool) → bytes_eq n name ≡ t → type_at (map f names) (number_in (distinct_after (n ∷ before) (names ++ more)) name) ≡ (if is_among names name then f name else None)
        → type_at (map f (n ∷ names)) (if t then 0 else suc (number_in (distinct_after (n ∷ before) (names ++ more)) name)) ≡ (if (t || is_among names name) then f name else None)
    by_name true e others = ap f ((bytes_eq-Decides n name).0 e)
    by_name false e others = others

    by_before : (t : Bool) → (if t then false else are_distinct_after (n ∷ before) names) ≡ true
        → (are_distinct_after (n ∷ before) names ≡ true → type_at (map f names) (number_in (distinct_after (n ∷ before) (names ++ more)) name) ≡ (if is_among names name then f name else None))
        → type_at (map f (n ∷ names)) (number_in (if t then distinct_after before (names ++ more) else (n ∷ distinct_after (n ∷ before) (names ++ more))) name) ≡ (if (bytes_eq n name || is_among names name) then f name else None)
    by_before true d others = absurd cc
    by_before false d others = by_name (bytes_eq n name) refl (others d)

pub no_fewer : (before names more : List (List ℕ)) → are_distinct_after before names ≡ true → length names ≤ length (distinct_after before (names ++ more))
no_fewer before [] more d = omega arith
no_fewer before (n ∷ names) more d = by_before (is_among before n) d (λ e. no_fewer (n ∷ before) names more e)
  where
    by_before : (t : Bool) → (if t then false else are_distinct_after (n ∷ before) names) ≡ true
        → (are_distinct_after (n ∷ before) names ≡ true → length names ≤ length (distinct_after (n ∷ before) (names ++ more)))
        → suc (length names) ≤ length (if t then distinct_after before (names ++ more) else (n ∷ distinct_after (n ∷ before) (names ++ more)))
    by_before true d others = absurd cc
    by_before false d others = let l = others d in omega (arith, l)

-- each that is named is defined
pub unused_or_found : (type : Option ObjectType) (found : Bool) → is_unused_or type found ≡ true → (if found then type else None) ≡ type
unused_or_found None true h = refl
unused_or_found None false h = refl
unused_or_found (Some type) true h = refl
unused_or_found (Some type) false h = absurd cc
