-- Names of the tables of units are among those of the program, and what stands under their numbers.
use Rattle.std.proofs.Common.{◌≡◌, refl, sym, ap, ◌∙◌, subst, arith, ℕ, zero, suc, ◌+◌, ◌≤◌, Bool, true, false, ◌||◌, if◌then◌else◌, nat_eq, List, [], ◌∷◌, ◌++◌, map, length, Option, Some, None}
use Rattle.std.specs.Prelude.{bytes_eq, slice_get}
use Rattle.std.specs.List.{flat_map}
use Rattle.std.proofs.lemmas.Slice.Eq.{bytes_eq-Decides}
use Rattle.std.proofs.lemmas.Bool.Decides.{Decides-eqb}
use Rattle.std.proofs.lemmas.Grind.{flat_map-append}
use Rattle.cx_core.specs.Numbers.{Planned}
use Rattle.cx_core.specs.Linked.{is_among, distinct_after, number_in, number_of_index}
use Rattle.cx_core.specs.Apart.{IsInjective, AreDistinct}
use Rattle.cx_soundness.specs.Programs.{go_together, all_are}
use Rattle.cx_soundness.specs.Linking.{are_distinct_after}
use Rattle.cx_soundness.proofs.Same.{both_left, both_right}
use Rattle.cx_soundness.proofs.LinkedFunctions.{same_some, at_map, number_of_name}

-- ---- tests

both_ways : (r s : Bool) → (r ≡ true → s ≡ true) → (s ≡ true → r ≡ true) → r ≡ s
both_ways true true f g = refl
both_ways true false f g = sym (f refl)
both_ways false true f g = g refl
both_ways false false f g = refl

pub told_apart : (f : ℕ → ℕ) → IsInjective f → (a b : ℕ) → nat_eq (f a) (f b) ≡ nat_eq a b
told_apart f apart a b =
    both_ways (nat_eq (f a) (f b)) (nat_eq a b)
    (λ h. (Decides-eqb a b).1 (apart a b ((Decides-eqb (f a) (f b)).0 h)))
    (λ h. (Decides-eqb (f a) (f b)).1 (ap f ((Decides-eqb a b).0 h)))

same_name : (m n : List ℕ) → bytes_eq m n ≡ true → m ≡ n
same_name m n h = (bytes_eq-Decides m n).0 h

itself : (n : List ℕ) → bytes_eq n n ≡ true
itself n = (bytes_eq-Decides n n).1 refl

or_left : (a b : Bool) → a ≡ true → (a || b) ≡ true
or_left a b h = rw h refl

or_right : (a b : Bool) → b ≡ true → (a || b) ≡ true
or_right true b h = refl
or_right false b h = h

-- ---- names among others

among_left : (n : List ℕ) (xs ys : List (List ℕ)) → is_among xs n ≡ true → is_among (xs ++ ys) n ≡ true
among_left n [] ys h = absurd cc
among_left n (x ∷ xs) ys h = by_test (bytes_eq x n) h (among_left n xs ys)
  where
    by_test : (t : Bool) → (t || is_among xs n) ≡ true → (is_among xs n ≡ true → is_among (xs ++ ys) n ≡ true) → (t || is_among (xs ++ ys) n) ≡ true
    by_test true h others = refl
    by_test false h others = others h

pub among_right : (n : List ℕ) (xs ys : List (List ℕ)) → is_among ys n ≡ true → is_among (xs ++ ys) n ≡ true
among_right n [] ys h = h
among_right n (x ∷ xs) ys h = or_right (bytes_eq x n) (is_among (xs ++ ys) n) (among_right n xs ys h)

pub among_each : (f : Planned → List (List ℕ)) (earlier : List Planned) (p : Planned) (later : List Planned) (n : List ℕ) → is_among (f p) n ≡ true → is_among (flat_map f (earlier ++ p ∷ later)) n ≡ true
among_each f earlier p later n h = ap (λ names. is_among names n) (flat_map-append f earlier (p ∷ later)) ∙ among_right n (flat_map f earlier) (f p ++ flat_map f later) (among_left n (f p) (flat_map f later) h)

pub placed : (table : List (List ℕ)) (i : ℕ) (n : List ℕ) → slice_get table i ≡ Some n → is_among table n ≡ true
placed [] i n e = absurd cc
placed (x ∷ table) zero n e = or_left (bytes_eq x n) (is_among table n) (subst (λ m. bytes_eq m n ≡ true) (sym (same_some x n e)) (itself n))
placed (x ∷ table) (suc i) n e = or_right (bytes_eq x n) (is_among table n) (placed table i n e)

-- a name that isn't before them is among the distinct ones
pub among_distinct : (before xs : List (List ℕ)) (n : List ℕ) → is_among before n ≡ false → is_among xs n ≡ true → is_among (distinct_after before xs) n ≡ true
among_distinct before [] n fresh h = absurd cc
among_distinct before (x ∷ xs) n fresh h = by_tests (is_among before x) (bytes_eq x n) refl refl h (λ b f g. among_distinct b xs n f g)
  where
    by_tests : (seen found : Bool) → is_among before x ≡ seen → bytes_eq x n ≡ found → (found || is_among xs n) ≡ true
        → ((b : List (List ℕ)) → is_among b n ≡ false → is_among xs n ≡ true → is_among (distinct_after b xs) n ≡ true)
        → is_among (if seen then distinct_after before xs else (x ∷ distinct_after (x ∷ before) xs)) n ≡ true
    by_tests true true s f h others = absurd (different (subst (λ m. is_among before m ≡ true) (same_name x n f) s))
      where
        different : is_among before n ≡ true → ⊥
        different k = let g = fresh in cc
    by_tests true false s f h others = others before fresh h
    by_tests false true s f h others = or_left (bytes_eq x n) (is_among (distinct_after (x ∷ before) xs) n) f
    by_tests false false s f h others = or_right (bytes_eq x n) (is_among (distinct_after (x ∷ before) xs) n) (others (x ∷ before) (rw (f, fresh) refl) h)

pub all_among : (p : List ℕ → Bool) (names : List (List ℕ)) (n : List ℕ) → all_are p names ≡ true → is_among names n ≡ true → p n ≡ true
all_among p [] n all h = absurd cc
all_among p (x ∷ names) n all h = by_test (bytes_eq x n) refl h (all_among p names n (both_right (p x) _ all))
  where
    by_test : (t : Bool) → bytes_eq x n ≡ t → (t || is_among names n) ≡ true → (is_among names n ≡ true → p n ≡ true) → p n ≡ true
    by_test true e h others = subst (λ m. p m ≡ true) (same_name x n e) (both_left _ _ all)
    by_test false e h others = others h

-- ---- names that are each there once

not_again : (before xs : List (List ℕ)) (n : List ℕ) → is_among before n ≡ true → are_distinct_after before xs ≡ true → is_among xs n ≡ false
not_again before [] n h d = refl
not_again before (x ∷ xs) n h d = by_test (is_among before x) refl d (λ e. not_again (x ∷ before) xs n (or_right (bytes_eq x n) (is_among before n) h) e)
  where
    by_name : (t : Bool) → bytes_eq x n ≡ t → is_among before x ≡ false → is_among xs n ≡ false → (t || is_among xs n) ≡ false
    by_name true e f g = absurd (different (subst (λ m. is_among before m ≡ false) (same_name x n e) f))
      where
        different : is_among before n ≡ false → ⊥
        different k = let l = h in cc
    by_name false e f g = g

    by_test : (t : Bool) → is_among before x ≡ t → (if t then false else are_distinct_after (x ∷ before) xs) ≡ true → (are_distinct_after (x ∷ before) xs ≡ true → is_among xs n ≡ false) → (bytes_eq x n || is_among xs n) ≡ false
    by_test true e d others = absurd cc
    by_test false e d others = by_name (bytes_eq x n) refl e (others d)

distinct_behind : (before : List (List ℕ)) (x : List ℕ) (xs : List (List ℕ)) → are_distinct_after before (x ∷ xs) ≡ true → are_distinct_after (x ∷ before) xs ≡ true
distinct_behind before x xs d = by_test (is_among before x) d
  where
    by_test : (t : Bool) → (if t then false else are_distinct_after (x ∷ before) xs) ≡ true → are_distinct_after (x ∷ before) xs ≡ true
    by_test true d = absurd cc
    by_test false d = d

pub are_distinct : (before xs : List (List ℕ)) → are_distinct_after before xs ≡ true → AreDistinct xs
are_distinct before [] d = tt {0}
are_distinct before (x ∷ xs) d =
    let rest = distinct_behind before x xs d in
    (not_again (x ∷ before) xs x (or_left (bytes_eq x x) (is_among before x) (itself x)) rest, are_distinct (x ∷ before) xs rest)

-- ---- what stands under a number

pub stands_there : {A : Type 0} (f : List ℕ → A) (names : List (List ℕ)) (n : List ℕ) → is_among names n ≡ true → slice_get (map f names) (number_in names n) ≡ Some (f n)
stands_there f [] n h = absurd cc
stands_there f (x ∷ names) n h = by_test (bytes_eq x n) refl h (stands_there f names n)
  where
    by_test : (t : Bool) → bytes_eq x n ≡ t → (t || is_among names n) ≡ true → (is_among names n ≡ true → slice_get (map f names) (number_in names n) ≡ Some (f n)) → slice_get (map f (x ∷ names)) (if t then 0 else suc (number_in names n)) ≡ Some (f n)
    by_test true e h others = ap (λ m. Some (f m)) (same_name x n e)
    by_test false e h others = others h

pub none_behind : {A : Type 0} (list : List A) (i : ℕ) → length list ≤ i → slice_get list i ≡ None
none_behind [] i h = refl
none_behind (a ∷ list) zero h = absurd (omega (arith, h))
none_behind (a ∷ list) (suc i) h = none_behind list i (omega (arith, h))

pub as_long : {A B : Type 0} (f : A → B) (list : List A) → length (map f list) ≡ length list
as_long f [] = refl
as_long f (a ∷ list) = ap suc (as_long f list)

pub none_of_map : {A B : Type 0} (f : A → B) (list : List A) (i : ℕ) → slice_get list i ≡ None → slice_get (map f list) i ≡ None
none_of_map f [] i e = refl
none_of_map f (a ∷ list) zero e = absurd cc
none_of_map f (a ∷ list) (suc i) e = none_of_map f list i e

-- an index that isn't in its table
pub number_behind : {X : Type 0} (all : List (List ℕ)) (name : X → List ℕ) (xs : List X) (i : ℕ) → slice_get xs i ≡ None → number_of_index all (map name xs) i ≡ length all + i
number_behind all name xs i e = rw (none_of_map name xs i e) refl

-- ---- tables that go together

abbrev pub AtBoth : {A B : Type 0} → (A → B → Bool) → Option A → Option B → Type 0
AtBoth p None None = Unit {0}
AtBoth p None (Some b) = ⊥
AtBoth p (Some a) None = ⊥
AtBoth p (Some a) (Some b) = p a b ≡ true

pub together_at : {A B : Type 0} (p : A → B → Bool) (a : List A) (b : List B) → go_together p a b ≡ true → (i : ℕ) → AtBoth p (slice_get a i) (slice_get b i)
together_at p [] [] h i = tt {0}
together_at p [] (b ∷ bs) h i = absurd cc
together_at p (a ∷ others) [] h i = absurd cc
together_at p (a ∷ others) (b ∷ bs) h zero = both_left _ _ h
together_at p (a ∷ others) (b ∷ bs) h (suc i) = together_at p others bs (both_right (p a b) _ h) i

abbrev pub mapped : {U V : Type 0} → (U → V) → Option U → Option V
mapped r None = None
mapped r (Some u) = Some (r u)

-- what the program's table has under the number of an index is what the unit's table has there
pub table_agrees : {U V X : Type 0} (p : U → X → Bool) (r : U → V) (h : List ℕ → V) (name : X → List ℕ) (all : List (List ℕ)) (us : List U) (xs : List X)
    → ((u : U) (x : X) → p u x ≡ true → r u ≡ h (name x)) → ((i : ℕ) (x : X) → slice_get xs i ≡ Some x → is_among all (name x) ≡ true) → go_together p us xs ≡ true
    → (i : ℕ) → slice_get (map h all) (number_of_index all (map name xs) i) ≡ mapped r (slice_get us i)
table_agrees {U} {V} {X} p r h name all us xs equal there together i = by_place (slice_get us i) (slice_get xs i) refl (together_at p us xs together i)
  where
    by_place : (u : Option U) (x : Option X) → slice_get xs i ≡ x → AtBoth p u x → slice_get (map h all) (number_of_index all (map name xs) i) ≡ mapped r u
    by_place None None e b = ap (λ n. slice_get (map h all) n) (number_behind all name xs i e) ∙ none_behind (map h all) (length all + i) (let l = as_long h all in omega (arith, l))
    by_place None (Some x) e b = absurd b
    by_place (Some u) None e b = absurd b
    by_place (Some u) (Some x) e b = ap (λ n. slice_get (map h all) n) (number_of_name all (map name xs) i (name x) (at_map name xs i x e)) ∙ (stands_there h all (name x) (there i x e) ∙ ap (λ v. Some v) (sym (equal u x b)))
