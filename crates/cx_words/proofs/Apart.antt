-- A set of the names that were seen tells whether the next one is new, and names that are new one after the other are distinct.
use Rattle.std.proofs.Common.{◌≡◌, refl, sym, ap, ◌∙◌, ℕ, ◌+◌, ◌<◌, Bool, true, false, List, [], ◌∷◌, ◌++◌, map, length, take, drop, get_or}
use Rattle.std.specs.Prelude.{not, ◌||◌, ◌&&◌}
use Rattle.std.specs.Borrow.{Bor}
use Rattle.std.specs.List.{list_any}
use Rattle.std.specs.Str.{bytes_eq}
use Rattle.std.specs.Ordering.{is_eq, nat_cmp, match_ordering}
use Rattle.std.specs.declared.cmp.Ordering.{Ordering}
use Rattle.std.specs.declared.cmp.Ordering.TheVariants.{Less, Equal, Greater}
use Rattle.std.specs.Cmp.Lexicographic.{slice_cmp}
use Rattle.std.specs.BTreeMap.{is_at}
use Rattle.std.specs.BTreeSet.{insert_key}
use Rattle.std.proofs.lemmas.Slice.Eq.{bytes_eq-Decides}
use Rattle.std.proofs.lemmas.Map.Text.{is_eq-slice_cmp}
use Rattle.std.proofs.lemmas.List.{map-append, take-append-drop, take_more}
use Rattle.std.proofs.lemmas.List.Folds.{list_any-append}
use Rattle.cx_words.specs.Value.{are_distinct}

-- the order of a set of names
abbrev pub by_text : Bor (List ℕ) → Bor (List ℕ) → Ordering
by_text x y = slice_cmp nat_cmp x.now y.now

-- a name of the list has this text
abbrev pub has_text : List (Bor (List ℕ)) → List ℕ → Bool
has_text names text = list_any (λ name. bytes_eq text name.now) names

or_twice : (a b : Bool) → (a || b) ≡ (a || (a || b))
or_twice true b = refl
or_twice false b = refl

or_swap : (a b c : Bool) → (a || (b || c)) ≡ (b || (a || c))
or_swap true true c = refl
or_swap true false c = refl
or_swap false b c = refl

-- the set's own test is that of the texts
pub contains_text : (text : List ℕ) (names : List (Bor (List ℕ))) → list_any (is_at (λ name. slice_cmp nat_cmp text name.now)) names ≡ has_text names text
contains_text text [] = refl
contains_text text (name ∷ names) = (λ i. is_eq-slice_cmp text name.now i || contains_text text names i)

insert_step : (text : List ℕ) (name x : Bor (List ℕ)) (names : List (Bor (List ℕ))) (o : Ordering) → by_text name x ≡ o
    → has_text (insert_key by_text names name) text ≡ (bytes_eq text name.now || has_text names text)
    → has_text (match_ordering o (name ∷ x ∷ names) (x ∷ names) (x ∷ insert_key by_text names name)) text ≡ (bytes_eq text name.now || (bytes_eq text x.now || has_text names text))
insert_step text name x names Less is rest = refl
insert_step text name x names Equal is rest =
    let same : name.now ≡ x.now = (bytes_eq-Decides name.now x.now).0 (sym (is_eq-slice_cmp name.now x.now) ∙ ap is_eq is) in
    or_twice (bytes_eq text x.now) (has_text names text) ∙ ap (λ t. bytes_eq text t || (bytes_eq text x.now || has_text names text)) (sym same)
insert_step text name x names Greater is rest =
    ap (λ b. bytes_eq text x.now || b) rest ∙ or_swap (bytes_eq text x.now) (bytes_eq text name.now) (has_text names text)

-- a set with one more name
pub insert_text : (text : List ℕ) (name : Bor (List ℕ)) (names : List (Bor (List ℕ))) → has_text (insert_key by_text names name) text ≡ (bytes_eq text name.now || has_text names text)
insert_text text name [] = refl
insert_text text name (x ∷ names) = insert_step text name x names (by_text name x) refl (insert_text text name names)

-- ---- distinct names

same_way : (x y : List ℕ) → bytes_eq x y ≡ true → bytes_eq y x ≡ true
same_way x y h = (bytes_eq-Decides y x).1 (sym ((bytes_eq-Decides x y).0 h))

bytes_eq_symm : (x y : List ℕ) (a b : Bool) → bytes_eq x y ≡ a → bytes_eq y x ≡ b → a ≡ b
bytes_eq_symm x y true true p q = refl
bytes_eq_symm x y true false p q = sym (same_way x y p) ∙ q
bytes_eq_symm x y false true p q = sym p ∙ same_way y x q
bytes_eq_symm x y false false p q = refl

tests : (a s d b : Bool) → (not (a || (s || false)) && (d && not b)) ≡ ((not a && d) && not (s || b))
tests true s d b = refl
tests false true true b = refl
tests false true false b = refl
tests false false d b = refl

-- one name more is distinct from the others, or it isn't
pub are_distinct-push : (names : List (List ℕ)) (name : List ℕ) → are_distinct (names ++ name ∷ []) ≡ (are_distinct names && not (list_any (bytes_eq name) names))
are_distinct-push [] name = refl
are_distinct-push (x ∷ names) name =
    (λ i. not (list_any-append (bytes_eq x) names (name ∷ []) i) && are_distinct-push names name i)
    ∙ ap (λ b. not (list_any (bytes_eq x) names || (b || false)) && (are_distinct names && not (list_any (bytes_eq name) names))) (bytes_eq_symm x name (bytes_eq x name) (bytes_eq name x) refl refl)
    ∙ tests (list_any (bytes_eq x) names) (bytes_eq name x) (are_distinct names) (list_any (bytes_eq name) names)

and_false : (b : Bool) → (b && false) ≡ false
and_false true = refl
and_false false = refl

-- names that begin with such as aren't distinct aren't either
pub are_distinct-front : (front rest : List (List ℕ)) → are_distinct front ≡ false → are_distinct (front ++ rest) ≡ false
are_distinct-front [] rest h = absurd (cc)
are_distinct-front (x ∷ front) rest h = front_step x front rest (list_any (bytes_eq x) front) refl h (are_distinct-front front rest)
  where
    front_step : (x : List ℕ) (front rest : List (List ℕ)) (found : Bool) → list_any (bytes_eq x) front ≡ found → (not found && are_distinct front) ≡ false
        → (are_distinct front ≡ false → are_distinct (front ++ rest) ≡ false) → (not (list_any (bytes_eq x) (front ++ rest)) && are_distinct (front ++ rest)) ≡ false
    front_step x front rest true is h next = rw (list_any-append (bytes_eq x) front rest, is) refl
    front_step x front rest false is h next = rw (next h) (and_false (not (list_any (bytes_eq x) (front ++ rest))))

-- ---- a walk over the names

abbrev pub text_of : Bor (List ℕ) → List ℕ
text_of name = name.now

taken_texts : (names : List (Bor (List ℕ))) (i : ℕ) (d : Bor (List ℕ)) → i < length names → map text_of (take (i + 1) names) ≡ map text_of (take i names) ++ (get_or names i d).now ∷ []
taken_texts names i d h = ap (map text_of) (take_more names i d h) ∙ map-append text_of (take i names) (get_or names i d ∷ [])

or_last : (a b : Bool) → (b || a) ≡ (a || (b || false))
or_last true true = refl
or_last true false = refl
or_last false true = refl
or_last false false = refl

-- the set has one name more
pub seen_more : (names keys new : List (Bor (List ℕ))) (i : ℕ) (d : Bor (List ℕ)) → i < length names
    → ((text : List ℕ) → has_text keys text ≡ list_any (bytes_eq text) (map text_of (take i names)))
    → new ≡ insert_key by_text keys (get_or names i d)
    → (text : List ℕ) → has_text new text ≡ list_any (bytes_eq text) (map text_of (take (i + 1) names))
seen_more names keys new i d h seen is text =
    let x = get_or names i d in
    ap (λ all. has_text all text) is ∙ insert_text text x keys ∙ ap (λ b. bytes_eq text x.now || b) (seen text)
    ∙ or_last (list_any (bytes_eq text) (map text_of (take i names))) (bytes_eq text x.now)
    ∙ sym (list_any-append (bytes_eq text) (map text_of (take i names)) (x.now ∷ []))
    ∙ ap (list_any (bytes_eq text)) (sym (taken_texts names i d h))

-- whether one name more is distinct from the others is what the set tells
pub one_more : (names keys : List (Bor (List ℕ))) (i : ℕ) (d : Bor (List ℕ)) (added : Bool) → i < length names
    → ((text : List ℕ) → has_text keys text ≡ list_any (bytes_eq text) (map text_of (take i names)))
    → are_distinct (map text_of (take i names)) ≡ true
    → added ≡ not (list_any (is_at (by_text (get_or names i d))) keys)
    → are_distinct (map text_of (take (i + 1) names)) ≡ added
one_more names keys i d added h seen distinct is =
    let x = get_or names i d in
    ap are_distinct (taken_texts names i d h) ∙ are_distinct-push (map text_of (take i names)) x.now
    ∙ ap (λ b. b && not (list_any (bytes_eq x.now) (map text_of (take i names)))) distinct
    ∙ ap not (sym (seen x.now)) ∙ ap not (sym (contains_text x.now keys)) ∙ sym is

-- names of which the first ones aren't distinct
pub not_distinct : (names : List (Bor (List ℕ))) (n : ℕ) → are_distinct (map text_of (take n names)) ≡ false → are_distinct (map text_of names) ≡ false
not_distinct names n h =
    let whole = ap (map text_of) (sym (take-append-drop n names)) ∙ map-append text_of (take n names) (drop n names) in
    ap are_distinct whole ∙ are_distinct-front (map text_of (take n names)) (map text_of (drop n names)) h
