-- The scanner's puncts are the longest ones, and the bytes that puncts begin with.
use Rattle.std.proofs.Common.{◌≡◌, ◌||◌, Bool, true, false, not, ℕ, ◌<◌, ◌≤◌, List, [], ◌∷◌, length, take, eqb, leb, refl, sym, ◌∙◌, ap, arith, ⊎_elim, length-take-le}
use Rattle.std.specs.Prelude.{bytes_eq}
use Rattle.std.specs.List.{list_any, list_all}
use Rattle.std.proofs.lemmas.Bool.{and_parts, or_cases, leb-true, false_from_ne_true, true≢false}
use Rattle.std.proofs.lemmas.Slice.Eq.{bytes_eq-Decides}
use Rattle.cx_lexer.specs.Bytes.{begins, starts_name, is_decimal_digit, is_blank, quote, double_quote}
use Rattle.cx_lexer.specs.Punct.{puncts, is_punct}
use Rattle.cx_lexer.specs.Scan.{IsLongest, punct_length}
use Rattle.cx_lexer.proofs.Fronts.{three_within, three_passes, three_longest}

-- what each list of a table passes, a list that equals one of them passes
pub from_table : (test : List ℕ → Bool) (table : List (List ℕ)) (xs : List ℕ) → list_all test table ≡ true → list_any (λ entry. bytes_eq entry xs) table ≡ true → test xs ≡ true
from_table test [] xs all found = absurd (cc)
from_table test (entry ∷ table) xs all found =
    let parts = and_parts _ _ all in
    ⊎_elim (λ e. sym (ap test ((bytes_eq-Decides entry xs).0 e)) ∙ parts.0) (λ e. from_table test table xs parts.1 e) (or_cases _ _ found)

-- a punct has at most three bytes
pub punct_is_short : (xs : List ℕ) → is_punct xs ≡ true → length xs ≤ 3
unfolding is_punct puncts
punct_is_short xs found = leb-true (length xs) 3 (from_table (λ bytes. leb (length bytes) 3) puncts xs refl found)

-- the first byte of a punct is one by itself
pub punct_first : (b : ℕ) (xs : List ℕ) → is_punct (b ∷ xs) ≡ true → is_punct (b ∷ []) ≡ true
unfolding is_punct puncts
punct_first b xs found = from_table (λ bytes. begins (λ c. is_punct (c ∷ [])) bytes) puncts (b ∷ xs) refl found

-- and begins nothing else
abbrev pub begins_else : ℕ → Bool
begins_else b = starts_name b || is_decimal_digit b || is_blank b || eqb b quote || eqb b double_quote

pub punct_begins : (b : ℕ) (xs : List ℕ) → is_punct (b ∷ xs) ≡ true → not (begins_else b) ≡ true
unfolding is_punct puncts starts_name is_decimal_digit is_blank
punct_begins b xs found = from_table (λ bytes. begins (λ c. not (begins_else c)) bytes) puncts (b ∷ xs) refl found

long_punct : (xs : List ℕ) (n : ℕ) → 3 < n → n ≤ length xs → is_punct (take n xs) ≡ false
long_punct xs n above within = false_from_ne_true _ (λ e. let short = punct_is_short (take n xs) e in let all = length-take-le n xs within in omega arith)

pub punct_longest : (xs : List ℕ) → 0 < punct_length xs → IsLongest is_punct xs (punct_length xs)
unfolding punct_length
punct_longest xs some = record {
  within = three_within is_punct xs;
  passes = three_passes is_punct xs some;
  longest = λ m. three_longest is_punct xs m (long_punct xs);
}

-- no punct begins where none is found
pub no_punct : (b : ℕ) (rest bytes : List ℕ) → punct_length (b ∷ rest) ≡ 0 → is_punct (b ∷ bytes) ≡ false
unfolding punct_length
no_punct b rest bytes none =
    let alone : is_punct (b ∷ []) ≡ false = three_longest is_punct (b ∷ rest) 1 (long_punct (b ∷ rest)) (omega arith) (omega arith) in
    false_from_ne_true _ (λ e. true≢false (sym (punct_first b bytes e) ∙ alone))

pub punct_within : (xs : List ℕ) → punct_length xs ≤ length xs
unfolding punct_length
punct_within xs = three_within is_punct xs
