-- The states of the scanner in a block comment say whether the comment hides an end of C++.
use Rattle.std.proofs.Common.{◌≡◌, ◌&&◌, ◌||◌, Bool, true, false, not, ℕ, ◌+◌, ◌<◌, ◌≤◌, List, [], ◌∷◌, ◌++◌, length, get_or, take, drop, cond, eqb, refl, sym, ◌∙◌, ap, subst, arith, ⊎_elim, reverse, Option, Some, append_assoc, take_all, length-append}
use Rattle.std.specs.List.{list_all, flat_map, find}
use Rattle.std.specs.Option.{option_map_or}
use Rattle.std.proofs.lemmas.Bool.{cond_both, cond-true, and_parts, and_from, or_cases, or_right, false≢true, eqb-true}
use Rattle.std.proofs.lemmas.List.{flat_map_more, at_drop_more, at_drop_all, take_more, reverse-append}
use Rattle.std.proofs.lemmas.List.Folds.{list_all-append}
use Rattle.cx_lexer.specs.declared.seen.Seen.{Seen}
use Rattle.cx_lexer.specs.declared.seen.Seen.TheVariants.{Other, Star, Backslash, Splice}
use Rattle.cx_lexer.specs.Bytes.{is_splice_blank, star, slash, newline, backslash}
use Rattle.cx_lexer.specs.Comment.{splice, HidesEnd, ends_in_backslash}
use Rattle.cx_lexer.specs.Scan.{hides_from, next_seen, is_spliced}

-- what a state says of the bytes before it
abbrev Stood : Seen → List ℕ → Type 0
Stood Other before = Unit {0}
Stood Star before = (x : List ℕ) × (before ≡ x ++ star ∷ [])
Stood Backslash before = (x : List ℕ) × (lines : List (List ℕ)) × (blanks : List ℕ) × (list_all (list_all is_splice_blank) lines ≡ true) × (list_all is_splice_blank blanks ≡ true) × (before ≡ x ++ star ∷ (flat_map splice lines ++ backslash ∷ blanks))
Stood Splice before = (x : List ℕ) × (lines : List (List ℕ)) × (0 < length lines) × (list_all (list_all is_splice_blank) lines ≡ true) × (before ≡ x ++ star ∷ flat_map splice lines)

module _ (b : ℕ) (before : List ℕ) where
  star_stands : eqb b star ≡ true → Stood Star (before ++ b ∷ [])
  star_stands e = (before, ap (λ c. before ++ c ∷ []) (eqb-true b star e))

  star_or_other : Stood (cond (eqb b star) Star Other) (before ++ b ∷ [])
  star_or_other = cond_both (eqb b star) Star Other (λ s. Stood s (before ++ b ∷ [])) star_stands (λ _. tt)

  -- behind a star or a splice
  behind_star : (x : List ℕ) (lines : List (List ℕ)) → list_all (list_all is_splice_blank) lines ≡ true → before ≡ x ++ star ∷ flat_map splice lines → Stood (cond (eqb b star) Star (cond (eqb b backslash) Backslash Other)) (before ++ b ∷ [])
  behind_star x lines blank spelled =
      cond_both (eqb b star) Star (cond (eqb b backslash) Backslash Other) (λ s. Stood s (before ++ b ∷ [])) star_stands
      (λ _. cond_both (eqb b backslash) Backslash Other (λ s. Stood s (before ++ b ∷ []))
      (λ e. (x, lines, [], blank, refl, ap (λ p. p ++ b ∷ []) spelled ∙ (append_assoc x (star ∷ flat_map splice lines) (b ∷ []) ∙ ap (λ c. x ++ star ∷ (flat_map splice lines ++ c ∷ [])) (eqb-true b backslash e))))
      (λ _. tt))

  -- in a splice
  in_splice : Stood Backslash before → Stood (next_seen Backslash b) (before ++ b ∷ [])
  in_splice stood =
      let x = stood.0 in
      let lines = stood.1 in
      let blanks = stood.2 in
      let spelled = ap (λ p. p ++ b ∷ []) stood.5 ∙ (append_assoc x (star ∷ (flat_map splice lines ++ backslash ∷ blanks)) (b ∷ []) ∙ ap (λ p. x ++ star ∷ p) (append_assoc (flat_map splice lines) (backslash ∷ blanks) (b ∷ []))) in
      cond_both (is_splice_blank b) Backslash (cond (eqb b newline) Splice (cond (eqb b star) Star Other)) (λ s. Stood s (before ++ b ∷ []))
      (λ e. (x, lines, blanks ++ b ∷ [], stood.3, list_all-append is_splice_blank blanks (b ∷ []) ∙ and_from _ _ stood.4 (and_from _ _ e refl), spelled))
      (λ _. cond_both (eqb b newline) Splice (cond (eqb b star) Star Other) (λ s. Stood s (before ++ b ∷ []))
      (λ e. (
        x,
        lines ++ blanks ∷ [],
        omega (arith, length-append lines (blanks ∷ [])),
        list_all-append (list_all is_splice_blank) lines (blanks ∷ []) ∙ and_from _ _ stood.3 (and_from _ _ stood.4 refl),
        spelled ∙ (ap (λ c. x ++ star ∷ (flat_map splice lines ++ backslash ∷ (blanks ++ c ∷ []))) (eqb-true b newline e) ∙ ap (λ p. x ++ star ∷ p) (flat_map_more splice [] lines blanks)),
      ))
      (λ _. star_or_other))

  -- a step of the scanner keeps what its state says
  stands_on : (seen : Seen) → Stood seen before → Stood (next_seen seen b) (before ++ b ∷ [])
  stands_on Other stood = star_or_other
  stands_on Star stood = behind_star stood.0 [] refl stood.1
  stands_on Backslash stood = in_splice stood
  stands_on Splice stood = behind_star stood.0 stood.1 stood.3 stood.4

  at_slash : (seen : Seen) (rest : List ℕ) → Stood seen before → is_spliced seen ≡ true → eqb b slash ≡ true → HidesEnd (before ++ b ∷ rest)
  at_slash Other rest stood e is_slash = absurd (false≢true e)
  at_slash Star rest stood e is_slash = absurd (false≢true e)
  at_slash Backslash rest stood e is_slash = absurd (false≢true e)
  at_slash Splice rest stood e is_slash = record {
    before = stood.0;
    splices = stood.1;
    after = rest;
    some = stood.2;
    blank = stood.3;
    spelled = ap (λ p. p ++ b ∷ rest) stood.4 ∙ (append_assoc stood.0 (star ∷ flat_map splice stood.1) (b ∷ rest) ∙ ap (λ c. stood.0 ++ star ∷ (flat_map splice stood.1 ++ c ∷ rest)) (eqb-true b slash is_slash));
  }

-- what the scanner finds is there
pub hides_sound : (seen : Seen) (before rest : List ℕ) → Stood seen before → hides_from seen rest ≡ true → HidesEnd (before ++ rest)
unfolding hides_from
hides_sound seen before [] stood found = absurd (false≢true found)
hides_sound seen before (b ∷ rest) stood found =
    ⊎_elim
    (λ e. let parts = and_parts _ _ e in at_slash b before seen rest stood parts.0 parts.1)
    (λ e. subst HidesEnd (append_assoc before (b ∷ []) rest) (hides_sound (next_seen seen b) (before ++ b ∷ []) rest (stands_on b before seen stood) e))
    (or_cases _ _ found)

-- wherever it comes
anywhere : (ys : List ℕ) → ((seen : Seen) → hides_from seen ys ≡ true) → (before : List ℕ) (seen : Seen) → hides_from seen (before ++ ys) ≡ true
unfolding hides_from
anywhere ys found [] seen = found seen
anywhere ys found (b ∷ before) seen = or_right _ _ (anywhere ys found before (next_seen seen b))

-- over the blanks of a splice
over_blanks : (blanks rest : List ℕ) → list_all is_splice_blank blanks ≡ true → hides_from Splice rest ≡ true → hides_from Backslash ((blanks ++ newline ∷ []) ++ rest) ≡ true
unfolding hides_from is_splice_blank
over_blanks [] rest blank found = found
over_blanks (b ∷ blanks) rest blank found =
    let parts = and_parts _ _ blank in
    subst (λ s. hides_from s ((blanks ++ newline ∷ []) ++ rest) ≡ true) (sym (cond-true (is_splice_blank b) Backslash (cond (eqb b newline) Splice (cond (eqb b star) Star Other)) parts.0)) (over_blanks blanks rest parts.1 found)

-- over one more splice
over_splice : (blanks rest after : List ℕ) → list_all is_splice_blank blanks ≡ true → hides_from Splice (rest ++ after) ≡ true → hides_from Backslash (((blanks ++ newline ∷ []) ++ rest) ++ after) ≡ true
over_splice blanks rest after blank found = rw (append_assoc (blanks ++ newline ∷ []) rest after) (over_blanks blanks (rest ++ after) blank found)

over_splices : (lines : List (List ℕ)) (after : List ℕ) → list_all (list_all is_splice_blank) lines ≡ true → hides_from Splice (flat_map splice lines ++ slash ∷ after) ≡ true
unfolding hides_from
over_splices [] after blank = refl
over_splices (blanks ∷ lines) after blank =
    let parts = and_parts _ _ blank in
    over_splice blanks (flat_map splice lines) (slash ∷ after) parts.0 (over_splices lines after parts.1)

behind_first : (lines : List (List ℕ)) (after : List ℕ) → 0 < length lines → list_all (list_all is_splice_blank) lines ≡ true → hides_from Star (flat_map splice lines ++ slash ∷ after) ≡ true
unfolding hides_from
behind_first [] after some blank = absurd (omega arith)
behind_first (blanks ∷ lines) after some blank =
    let parts = and_parts _ _ blank in
    over_splice blanks (flat_map splice lines) (slash ∷ after) parts.0 (over_splices lines after parts.1)

from_star : (rest : List ℕ) → hides_from Star rest ≡ true → (seen : Seen) → hides_from seen (star ∷ rest) ≡ true
unfolding hides_from is_splice_blank
from_star rest found Other = found
from_star rest found Star = found
from_star rest found Backslash = found
from_star rest found Splice = found

-- what is there the scanner finds
pub hides_complete : (body : List ℕ) → HidesEnd body → hides_from Other body ≡ true
hides_complete body hidden =
    let rest = flat_map splice hidden.splices ++ slash ∷ hidden.after in
    ap (hides_from Other) hidden.spelled ∙ anywhere (star ∷ rest) (from_star rest (behind_first hidden.splices hidden.after hidden.some hidden.blank)) hidden.before Other

-- a step of the scanner at a place of a comment
pub hides_at : (seen : Seen) (body : List ℕ) (i : ℕ) → i < length body → hides_from seen (drop i body) ≡ ((is_spliced seen && eqb (get_or body i 0) slash) || hides_from (next_seen seen (get_or body i 0)) (drop (i + 1) body))
unfolding hides_from
hides_at seen body i inside = at_drop_more (hides_from seen) body i 0 inside

pub hides_at_end : (seen : Seen) (body : List ℕ) (i : ℕ) → length body ≤ i → hides_from seen (drop i body) ≡ false
unfolding hides_from
hides_at_end seen body i over = at_drop_all (hides_from seen) body i over

pub hidden : (body : List ℕ) → hides_from Other body ≡ true → HidesEnd body
hidden body found = hides_sound Other [] body tt found

-- the last byte of a line's front that isn't a blank
pub nothing_ends : ends_in_backslash [] ≡ false
unfolding ends_in_backslash
nothing_ends = refl

picked : (test : ℕ → Bool) (blank : Bool) (b : ℕ) (o : Option ℕ) → option_map_or test (cond (not blank) (Some b) o) false ≡ cond blank (option_map_or test o false) (test b)
picked test true b o = refl
picked test false b o = refl

ends_push : (line : List ℕ) (b : ℕ) → ends_in_backslash (line ++ b ∷ []) ≡ cond (is_splice_blank b) (ends_in_backslash line) (eqb b backslash)
unfolding ends_in_backslash
ends_push line b =
    ap (λ xs. option_map_or (λ c. eqb c backslash) (find (λ c. not (is_splice_blank c)) xs) false) (reverse-append line (b ∷ []))
    ∙ picked (λ c. eqb c backslash) (is_splice_blank b) b (find (λ c. not (is_splice_blank c)) (reverse line))

pub ends_more : (line : List ℕ) (i : ℕ) → i < length line → ends_in_backslash (take (i + 1) line) ≡ cond (is_splice_blank (get_or line i 0)) (ends_in_backslash (take i line)) (eqb (get_or line i 0) backslash)
ends_more line i inside = ap ends_in_backslash (take_more line i 0 inside) ∙ ends_push (take i line) (get_or line i 0)

pub ends_whole : (line : List ℕ) (i : ℕ) → length line ≤ i → ends_in_backslash (take i line) ≡ ends_in_backslash line
ends_whole line i over = ap ends_in_backslash (take_all i line over)
