-- Tables of a program by name: what stands under the number of a name, and the numbers of names that are each there once.
use Rattle.std.proofs.Common.{◌≡◌, refl, ap, subst, ℕ, zero, suc, Bool, true, false, ◌||◌, if◌then◌else◌, List, [], ◌∷◌, map, Some}
use Rattle.std.specs.Prelude.{bytes_eq, slice_get}
use Rattle.std.proofs.lemmas.Slice.Eq.{bytes_eq-Decides}
use Rattle.cx_core.specs.Linked.{is_among, distinct_after, number_in}
use Rattle.cx_soundness.specs.Programs.{all_are}
use Rattle.cx_soundness.proofs.Same.{both_left, both_right}
use Rattle.cx_soundness.proofs.LinkedFunctions.{same_some}

-- what stands under the number of a name that is among the names
pub number_present : {A : Type 0} (f : List ℕ → A) (names : List (List ℕ)) (i : ℕ) (name : List ℕ) → slice_get names i ≡ Some name → slice_get (map f names) (number_in names name) ≡ Some (f name)
number_present f [] i name e = absurd cc
number_present f (n ∷ names) zero name e = by_test (bytes_eq n name) ((bytes_eq-Decides n name).1 (same_some n name e))
  where
    by_test : (t : Bool) → t ≡ true → slice_get (map f (n ∷ names)) (if t then 0 else suc (number_in names name)) ≡ Some (f name)
    by_test true h = ap (λ m. Some (f m)) (same_some n name e)
    by_test false h = absurd cc
number_present f (n ∷ names) (suc i) name e = by_test (number_present f names i name e) (bytes_eq n name) refl
  where
    by_test : slice_get (map f names) (number_in names name) ≡ Some (f name) → (t : Bool) → bytes_eq n name ≡ t → slice_get (map f (n ∷ names)) (if t then 0 else suc (number_in names name)) ≡ Some (f name)
    by_test others true same = ap (λ m. Some (f m)) ((bytes_eq-Decides n name).0 same)
    by_test others false same = others

abbrev pub Every : (names : List (List ℕ)) → (List ℕ → Type 0) → Type 0
Every names P = (i : ℕ) (name : List ℕ) → slice_get names i ≡ Some name → P name

pub every_of : (p : List ℕ → Bool) (names : List (List ℕ)) → all_are p names ≡ true → Every names (λ name. p name ≡ true)
every_of p [] h i name e = absurd cc
every_of p (n ∷ names) h zero name e = subst (λ m. p m ≡ true) (same_some n name e) (both_left _ _ h)
every_of p (n ∷ names) h (suc i) name e = every_of p names (both_right (p n) _ h) i name e

-- ---- names that are each there once

either_left : (a b : Bool) → (a || b) ≡ false → a ≡ false
either_left true b h = absurd cc
either_left false b h = refl

either_right : (a b : Bool) → (a || b) ≡ false → b ≡ false
either_right true b h = absurd cc
either_right false b h = h

pub number_of_nth : (before names : List (List ℕ)) (i : ℕ) (name : List ℕ) → slice_get (distinct_after before names) i ≡ Some name
    → (number_in (distinct_after before names) name ≡ i) × (is_among before name ≡ false)
number_of_nth before [] i name e = absurd cc
number_of_nth before (m ∷ names) i name e = by_test (λ k h. number_of_nth before names k name h) (λ k h. number_of_nth (m ∷ before) names k name h) (is_among before m) refl i e
  where
    first : is_among before m ≡ false → m ≡ name → (t : Bool) → t ≡ true → (rest : List (List ℕ)) → ((if t then 0 else suc (number_in rest name)) ≡ 0) × (is_among before name ≡ false)
    first apart same true h rest = (refl, subst (λ n. is_among before n ≡ false) same apart)
    first apart same false h rest = absurd cc

    later : (rest : List (List ℕ)) (k : ℕ) → number_in rest name ≡ k → (t : Bool) → t ≡ false → is_among before name ≡ false → ((if t then 0 else suc (number_in rest name)) ≡ suc k) × (is_among before name ≡ false)
    later rest k e true h apart = absurd cc
    later rest k e false h apart = (ap suc e, apart)

    by_place : ((k : ℕ) → slice_get (distinct_after (m ∷ before) names) k ≡ Some name → (number_in (distinct_after (m ∷ before) names) name ≡ k) × (is_among (m ∷ before) name ≡ false))
        → is_among before m ≡ false → (k : ℕ) → slice_get (m ∷ distinct_after (m ∷ before) names) k ≡ Some name
        → (number_in (m ∷ distinct_after (m ∷ before) names) name ≡ k) × (is_among before name ≡ false)
    by_place others apart zero e = first apart (same_some m name e) (bytes_eq m name) ((bytes_eq-Decides m name).1 (same_some m name e)) (distinct_after (m ∷ before) names)
    by_place others apart (suc k) e =
        let there = others k e in
        later (distinct_after (m ∷ before) names) k there.0 (bytes_eq m name) (either_left (bytes_eq m name) (is_among before name) there.1) (either_right (bytes_eq m name) (is_among before name) there.1)

    by_test : ((k : ℕ) → slice_get (distinct_after before names) k ≡ Some name → (number_in (distinct_after before names) name ≡ k) × (is_among before name ≡ false))
        → ((k : ℕ) → slice_get (distinct_after (m ∷ before) names) k ≡ Some name → (number_in (distinct_after (m ∷ before) names) name ≡ k) × (is_among (m ∷ before) name ≡ false))
        → (t : Bool) → is_among before m ≡ t → (k : ℕ) → slice_get (if t then distinct_after before names else (m ∷ distinct_after (m ∷ before) names)) k ≡ Some name
        → (number_in (if t then distinct_after before names else (m ∷ distinct_after (m ∷ before) names)) name ≡ k) × (is_among before name ≡ false)
    by_test here others true same k e = here k e
    by_test here others false same k e = by_place others same k e
