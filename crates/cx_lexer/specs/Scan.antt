-- What the scanner's private functions answer on a list of bytes. No public contract speaks of these; the proofs show
-- that they are what the tokens of the language ask for.
use Rattle.std.specs.Prelude.{◌==◌, ◌&&◌, ◌||◌, Bool, true, false, ℕ, suc, List, [], ◌∷◌, length, take, drop, nat_le, slice_index, if◌then◌else◌, IsTrue, IsFalse, ◌<◌, ◌≤◌}
use Rattle.cx_lexer.specs.declared.seen.Seen.{Seen}
use Rattle.cx_lexer.specs.declared.seen.Seen.TheVariants.{Other, Star, Backslash, Splice}
use Rattle.cx_lexer.specs.Bytes.{quote, double_quote, newline, backslash, star, slash, zero_digit, is_letter_of, is_splice_blank}
use Rattle.cx_lexer.specs.Number.{is_digit, is_suffix}
use Rattle.cx_lexer.specs.Quoted.{escapes, is_plain, is_escape}
use Rattle.cx_lexer.specs.Punct.{is_punct}

-- the first n bytes pass the test, and no longer front does
pub record IsLongest (test : List ℕ → Bool) (rest : List ℕ) (n : ℕ) : Type 0 where
  pub within : n ≤ length rest
  pub passes : IsTrue (test (take n rest))
  pub longest : (m : ℕ) → n < m → m ≤ length rest → IsFalse (test (take m rest))

-- the longest front of at most three bytes that passes the test; 0 for none
abbrev pub longest_of_three : (List ℕ → Bool) → List ℕ → ℕ
longest_of_three test rest =
    if nat_le 3 (length rest) && test (take 3 rest) then 3
    else (if nat_le 2 (length rest) && test (take 2 rest) then 2
    else (if nat_le 1 (length rest) && test (take 1 rest) then 1
    else 0))

unfoldable pub suffix_length : List ℕ → ℕ
suffix_length rest = longest_of_three is_suffix rest

-- the next digit of a number, with a quote before it if there is one; 0 for none
unfoldable pub digit_length : ℕ → List ℕ → ℕ
digit_length base rest =
    if nat_le 1 (length rest) && is_digit base (slice_index rest 0) then 1
    else (if nat_le 2 (length rest) && slice_index rest 0 == quote && is_digit base (slice_index rest 1) then 2
    else 0)

-- what may stand after a digit of a number, as far as it goes
unfoldable pub tail_length : ℕ → List ℕ → ℕ
tail_length base [] = 0
tail_length base (a ∷ []) = if is_digit base a then 1 else suffix_length (a ∷ [])
tail_length base (a ∷ b ∷ rest) =
    if is_digit base a then suc (tail_length base (b ∷ rest))
    else (if a == quote then (if is_digit base b then suc (suc (tail_length base rest)) else 0)
    else suffix_length (a ∷ b ∷ rest))

-- behind the zero of a number there stand a prefix's letter and a digit of its base
unfoldable pub has_prefix : ℕ → ℕ → List ℕ → Bool
has_prefix letter base rest = nat_le 2 (length rest) && is_letter_of letter (slice_index rest 0) && is_digit base (slice_index rest 1)

-- what belongs to a number behind its zero
unfoldable pub zero_tail_length : List ℕ → ℕ
zero_tail_length rest =
    if has_prefix 120 16 rest then suc (suc (tail_length 16 (drop 2 rest)))
    else (if has_prefix 98 2 rest then suc (suc (tail_length 2 (drop 2 rest)))
    else tail_length 8 rest)

unfoldable pub number_length : List ℕ → ℕ
number_length rest =
    if slice_index rest 0 == zero_digit then suc (zero_tail_length (drop 1 rest)) else suc (tail_length 10 (drop 1 rest))

-- a character literal at the front, of a rest that begins with its quote; 0 for none
unfoldable pub char_length : List ℕ → ℕ
char_length rest =
    if nat_le 3 (length rest) && is_plain (slice_index rest 1) && slice_index rest 2 == quote then 3
    else (if nat_le 4 (length rest) && slice_index rest 1 == backslash && is_escape (slice_index rest 2) && slice_index rest 3 == quote then 4
    else 0)

-- the next character between double quotes; 0 for none
unfoldable pub text_step : List ℕ → ℕ
text_step rest =
    if length rest == 0 || slice_index rest 0 == double_quote || slice_index rest 0 == newline then 0
    else (if slice_index rest 0 == backslash then (if escapes (drop 1 rest) then 2 else 0)
    else 1)

-- the characters between double quotes, as far as they go
unfoldable pub text_length : List ℕ → ℕ
text_length [] = 0
text_length (a ∷ []) = if a == double_quote || a == newline then 0 else (if a == backslash then 0 else 1)
text_length (a ∷ b ∷ rest) =
    if a == double_quote || a == newline then 0
    else (if a == backslash then (if escapes (b ∷ rest) then suc (suc (text_length rest)) else 0)
    else suc (text_length (b ∷ rest)))

unfoldable pub punct_length : List ℕ → ℕ
punct_length rest = longest_of_three is_punct rest

-- what stands before the next byte of a comment
abbrev pub next_seen : Seen → ℕ → Seen
next_seen Other b = if b == star then Star else Other
next_seen Star b = if b == star then Star else (if b == backslash then Backslash else Other)
next_seen Backslash b = if is_splice_blank b then Backslash else (if b == newline then Splice else (if b == star then Star else Other))
next_seen Splice b = if b == star then Star else (if b == backslash then Backslash else Other)

abbrev pub is_spliced : Seen → Bool
is_spliced Other = false
is_spliced Star = false
is_spliced Backslash = false
is_spliced Splice = true

-- a slash comes behind a star and line splices
unfoldable pub hides_from : Seen → List ℕ → Bool
hides_from seen [] = false
hides_from seen (b ∷ rest) = (is_spliced seen && b == slash) || hides_from (next_seen seen b) rest
