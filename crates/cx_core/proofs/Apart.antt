-- Linking keeps apart what the tables of a unit tell apart.
use Rattle.std.proofs.Common.{◌≡◌, refl, sym, ap, ◌∙◌, arith, ℕ, zero, suc, ◌+◌, ◌<◌, Bool, true, false, ◌||◌, if◌then◌else◌, List, [], ◌∷◌, ◌++◌, map, length, Option, Some, None, slice_get, bytes_eq, flat_map}
use Rattle.std.proofs.lemmas.Slice.Eq.{bytes_eq-Decides}
use Rattle.std.proofs.lemmas.Grind.{flat_map-append}
use Rattle.cx_core.specs.Numbers.{Planned}
use Rattle.cx_core.specs.Linked.{is_among, distinct_after, number_in, number_of_index, function_names, function_type_names, class_names, global_names, defined_globals}
use Rattle.cx_core.specs.Apart.{AreDistinct, LinkingKeepsApart}

same : (x n : List ℕ) → bytes_eq x n ≡ true → x ≡ n
same x n h = (bytes_eq-Decides x n).0 h

or_left : (a b : Bool) → a ≡ true → (a || b) ≡ true
or_left a b h = rw h refl

or_right : (a b : Bool) → b ≡ true → (a || b) ≡ true
or_right true b h = refl
or_right false b h = h

or_assoc : (a b c : Bool) → (a || (b || c)) ≡ ((a || b) || c)
or_assoc true b c = refl
or_assoc false b c = refl

-- ---- names among others

among-append : (n : List ℕ) (xs ys : List (List ℕ)) → is_among (xs ++ ys) n ≡ (is_among xs n || is_among ys n)
among-append n [] ys = refl
among-append n (x ∷ xs) ys = ap (λ b. bytes_eq x n || b) (among-append n xs ys) ∙ or_assoc (bytes_eq x n) (is_among xs n) (is_among ys n)

among-left : (n : List ℕ) (xs ys : List (List ℕ)) → is_among xs n ≡ true → is_among (xs ++ ys) n ≡ true
among-left n xs ys h = among-append n xs ys ∙ or_left (is_among xs n) (is_among ys n) h

among-right : (n : List ℕ) (xs ys : List (List ℕ)) → is_among ys n ≡ true → is_among (xs ++ ys) n ≡ true
among-right n xs ys h = among-append n xs ys ∙ or_right (is_among xs n) (is_among ys n) h

kept_first : (before xs : List (List ℕ)) (x n : List ℕ) (seen found : Bool) → is_among before x ≡ seen → bytes_eq x n ≡ found →
    is_among before n ≡ false → (found || is_among xs n) ≡ true →
    ((b : List (List ℕ)) → is_among b n ≡ false → is_among xs n ≡ true → is_among (distinct_after b xs) n ≡ true) →
    is_among (if seen then distinct_after before xs else (x ∷ distinct_after (x ∷ before) xs)) n ≡ true
kept_first before xs x n true true s f fresh h rest = let e = same x n f in absurd (cc)
kept_first before xs x n true false s f fresh h rest = rest before fresh h
kept_first before xs x n false true s f fresh h rest = rw f refl
kept_first before xs x n false false s f fresh h rest = rw f (rest (x ∷ before) (rw f fresh) h)

-- each name that isn't behind it is among the distinct ones
kept : (before xs : List (List ℕ)) (n : List ℕ) → is_among before n ≡ false → is_among xs n ≡ true → is_among (distinct_after before xs) n ≡ true
kept before [] n fresh h = absurd (cc)
kept before (x ∷ xs) n fresh h = kept_first before xs x n (is_among before x) (bytes_eq x n) refl refl fresh h (λ b f g. kept b xs n f g)

-- ---- the place of a name

below_first : (all : List (List ℕ)) (n : List ℕ) (found : Bool) → (found || is_among all n) ≡ true →
    (is_among all n ≡ true → number_in all n < length all) → (if found then 0 else suc (number_in all n)) < suc (length all)
below_first all n true h rest = omega arith
below_first all n false h rest = let r : number_in all n < length all = rest h in omega (arith, r)

below : (all : List (List ℕ)) (n : List ℕ) → is_among all n ≡ true → number_in all n < length all
below [] n h = absurd (cc)
below (x ∷ all) n h = below_first all n (bytes_eq x n) h (below all n)

differ_first : (all : List (List ℕ)) (x m n : List ℕ) (is_m is_n : Bool) → bytes_eq x m ≡ is_m → bytes_eq x n ≡ is_n →
    (is_m || is_among all m) ≡ true → (is_n || is_among all n) ≡ true →
    (is_among all m ≡ true → is_among all n ≡ true → number_in all m ≡ number_in all n → m ≡ n) →
    (if is_m then 0 else suc (number_in all m)) ≡ (if is_n then 0 else suc (number_in all n)) → m ≡ n
differ_first all x m n true true p q h k rest e = sym (same x m p) ∙ same x n q
differ_first all x m n true false p q h k rest e = absurd (omega (arith, e))
differ_first all x m n false true p q h k rest e = absurd (omega (arith, e))
differ_first all x m n false false p q h k rest e = let r : number_in all m ≡ number_in all n = omega (arith, e) in rest h k r

same_number : (all : List (List ℕ)) (m n : List ℕ) → is_among all m ≡ true → is_among all n ≡ true → number_in all m ≡ number_in all n → m ≡ n
same_number [] m n h k e = absurd (cc)
same_number (x ∷ all) m n h k e = differ_first all x m n (bytes_eq x m) (bytes_eq x n) refl refl h k (same_number all m n) e

itself : (n : List ℕ) → bytes_eq n n ≡ true
itself n = (bytes_eq-Decides n n).1 refl

-- ---- the place in a table

placed : (table : List (List ℕ)) (i : ℕ) (n : List ℕ) → slice_get table i ≡ Some n → is_among table n ≡ true
placed [] i n h = absurd (cc)
placed (x ∷ table) zero n h = let e : x ≡ n = cc in or_left (bytes_eq x n) (is_among table n) (rw e (itself n))
placed (x ∷ table) (suc i) n h = or_right (bytes_eq x n) (is_among table n) (placed table i n h)

one_place : (table : List (List ℕ)) (i j : ℕ) (n : List ℕ) → AreDistinct table → slice_get table i ≡ Some n → slice_get table j ≡ Some n → i ≡ j
one_place [] i j n d h k = absurd (cc)
one_place (x ∷ table) zero zero n d h k = refl
one_place (x ∷ table) zero (suc j) n d h k = let e : x ≡ n = cc in let a = placed table j n k in let b = d.0 in absurd (cc)
one_place (x ∷ table) (suc i) zero n d h k = let e : x ≡ n = cc in let a = placed table i n h in let b = d.0 in absurd (cc)
one_place (x ∷ table) (suc i) (suc j) n d h k = ap suc (one_place table i j n d.1 h k)

-- ---- the number of a place

there : (all table : List (List ℕ)) (i : ℕ) (n : List ℕ) → slice_get table i ≡ Some n → number_of_index all table i ≡ number_in all n
there all table i n h = rw h refl

behind : (all table : List (List ℕ)) (i : ℕ) → slice_get table i ≡ None → number_of_index all table i ≡ length all + i
behind all table i h = rw h refl

apart : (all table : List (List ℕ)) → AreDistinct table → ((n : List ℕ) → is_among table n ≡ true → is_among all n ≡ true) →
    (i j : ℕ) (a b : Option (List ℕ)) → slice_get table i ≡ a → slice_get table j ≡ b → number_of_index all table i ≡ number_of_index all table j → i ≡ j
apart all table d has i j (Some m) (Some n) p q e =
    let number = sym (there all table i m p) ∙ e ∙ there all table j n q in
    let name : m ≡ n = same_number all m n (has m (placed table i m p)) (has n (placed table j n q)) number in
    one_place table i j n d (p ∙ ap Some name) q
apart all table d has i j (Some m) None p q e =
    let number : number_in all m ≡ length all + j = sym (there all table i m p) ∙ e ∙ behind all table j q in
    let low : number_in all m < length all = below all m (has m (placed table i m p)) in
    absurd (omega (arith, number, low))
apart all table d has i j None (Some n) p q e =
    let number : length all + i ≡ number_in all n = sym (behind all table i p) ∙ e ∙ there all table j n q in
    let low : number_in all n < length all = below all n (has n (placed table j n q)) in
    absurd (omega (arith, number, low))
apart all table d has i j None None p q e =
    let number : length all + i ≡ length all + j = sym (behind all table i p) ∙ e ∙ behind all table j q in
    omega (arith, number)

numbers_apart : (all table : List (List ℕ)) → AreDistinct table → ((n : List ℕ) → is_among table n ≡ true → is_among all n ≡ true) →
    (i j : ℕ) → number_of_index all table i ≡ number_of_index all table j → i ≡ j
numbers_apart all table d has i j e = apart all table d has i j (slice_get table i) (slice_get table j) refl refl e

-- ---- the names of all units

of_each : (f : Planned → List (List ℕ)) (earlier : List Planned) (p : Planned) (later : List Planned) (n : List ℕ) →
    is_among (f p) n ≡ true → is_among (flat_map f (earlier ++ p ∷ later)) n ≡ true
of_each f earlier p later n h =
    ap (λ names. is_among names n) (flat_map-append f earlier (p ∷ later))
    ∙ among-right n (flat_map f earlier) (f p ++ flat_map f later) (among-left n (f p) (flat_map f later) h)

pub linking_keeps_apart : LinkingKeepsApart
linking_keeps_apart earlier p later once =
    let units = earlier ++ p ∷ later in
    record {
      functions = numbers_apart (function_names units) (map (λ f. f.name) p.unit.functions) once.functions
          (λ n h. kept [] _ n refl (of_each (λ p. map (λ f. f.name) p.unit.functions) earlier p later n h));
      function_types = numbers_apart (function_type_names units) (map (λ t. t.name) p.unit.function_types) once.function_types
          (λ n h. kept [] _ n refl (of_each (λ p. map (λ t. t.name) p.unit.function_types) earlier p later n h));
      classes = numbers_apart (class_names units) (map (λ c. c.name) p.unit.classes) once.classes
          (λ n h. kept [] _ n refl (of_each (λ p. map (λ c. c.name) p.unit.classes) earlier p later n h));
      globals = numbers_apart (global_names units) (map (λ g. g.name) p.unit.globals) once.globals
          (λ n h. kept [] _ n refl (among-right n (map (λ g. g.0) (defined_globals units)) _ (of_each (λ p. map (λ g. g.name) p.unit.globals) earlier p later n h)));
    }
