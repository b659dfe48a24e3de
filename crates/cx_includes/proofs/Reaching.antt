-- Lines, columns and blank beginnings of lines, one byte after the other.
use Rattle.std.proofs.Common.{◌≡◌, ◌&&◌, ◌||◌, Bool, true, false, ℕ, suc, ◌+◌, ◌<◌, ◌≤◌, List, [], ◌∷◌, ◌++◌, length, take, cond, eqb, get_or, refl, sym, ◌∙◌, ap, arith, length-take-le}
use Rattle.std.proofs.lemmas.List.{take_more}
use Rattle.std.proofs.lemmas.List.Sums.{count_by-le-length, count_by_more_yes, count_by_more_no}
use Rattle.cx_lexer.specs.Bytes.{newline}
use Rattle.cx_includes.specs.declared.reached.Reached.{Reached}
use Rattle.cx_includes.specs.Place.{line_at, column_at, bytes_since_newline}
use Rattle.cx_includes.specs.Directive.{ends_in_blank_line, is_line_blank}
use Rattle.cx_includes.specs.Stretch.{IsReached}

bytes_since_newline-push : (since : ℕ) (xs : List ℕ) (b : ℕ) → bytes_since_newline since (xs ++ b ∷ []) ≡ cond (eqb b newline) 0 (bytes_since_newline since xs + 1)
bytes_since_newline-push since [] b = refl
bytes_since_newline-push since (x ∷ xs) b = bytes_since_newline-push (cond (eqb x newline) 0 (since + 1)) xs b

ends_in_blank_line-push : (blank : Bool) (xs : List ℕ) (b : ℕ) → ends_in_blank_line blank (xs ++ b ∷ []) ≡ ((ends_in_blank_line blank xs && is_line_blank b) || eqb b newline)
ends_in_blank_line-push blank [] b = refl
ends_in_blank_line-push blank (x ∷ xs) b = ends_in_blank_line-push ((blank && is_line_blank x) || eqb x newline) xs b

bytes_since_newline-le : (since : ℕ) (xs : List ℕ) → bytes_since_newline since xs ≤ since + length xs
bytes_since_newline-le since [] = omega arith
bytes_since_newline-le since (x ∷ xs) =
    let ended = bytes_since_newline-le 0 xs in
    let goes_on = bytes_since_newline-le (since + 1) xs in
    elim (eqb x newline) as (λ t. bytes_since_newline (cond t 0 (since + 1)) xs ≤ since + suc (length xs)) [ true ↦ omega arith | false ↦ omega arith ]

-- the places of a text of n bytes have lines and columns up to n + 1
pub line_at-le : (text : List ℕ) (at : ℕ) → at ≤ length text → line_at text at ≤ at + 1
line_at-le text at inside =
    let some = count_by-le-length (λ byte. eqb byte newline) (take at text) in
    let is = length-take-le at text inside in
    omega arith

pub column_at-le : (text : List ℕ) (at : ℕ) → at ≤ length text → column_at text at ≤ at + 1
column_at-le text at inside =
    let some = bytes_since_newline-le 0 (take at text) in
    let is = length-take-le at text inside in
    omega arith

line_more : (text : List ℕ) (at : ℕ) → at < length text → line_at text (at + 1) ≡ cond (eqb (get_or text at 0) newline) (line_at text at + 1) (line_at text at)
line_more text at inside = by_byte (eqb (get_or text at 0) newline) refl
  where
    by_byte : (t : Bool) → eqb (get_or text at 0) newline ≡ t → line_at text (at + 1) ≡ cond t (line_at text at + 1) (line_at text at)
    by_byte true e = let more = count_by_more_yes (λ byte. eqb byte newline) text at 0 inside e in omega arith
    by_byte false e = let more = count_by_more_no (λ byte. eqb byte newline) text at 0 inside e in omega arith

column_more : (text : List ℕ) (at : ℕ) → at < length text → column_at text (at + 1) ≡ cond (eqb (get_or text at 0) newline) 1 (column_at text at + 1)
column_more text at inside =
    let b = get_or text at 0 in
    let more : bytes_since_newline 0 (take (at + 1) text) ≡ cond (eqb b newline) 0 (bytes_since_newline 0 (take at text) + 1) = ap (bytes_since_newline 0) (take_more text at 0 inside) ∙ bytes_since_newline-push 0 (take at text) b in
    ap (λ n. 1 + n) more ∙ by_test (eqb b newline)
  where
    by_test : (t : Bool) → 1 + cond t 0 (bytes_since_newline 0 (take at text) + 1) ≡ cond t 1 (column_at text at + 1)
    by_test true = refl
    by_test false = omega arith

-- one byte more
pub reached_more : (text : List ℕ) (at byte : ℕ) (now next : Reached) → at < length text → byte ≡ get_or text at 0 → IsReached text at now
    → next.line ≡ cond (eqb byte newline) (now.line + 1) now.line → next.column ≡ cond (eqb byte newline) 1 (now.column + 1) → next.blank ≡ ((now.blank && is_line_blank byte) || eqb byte newline)
    → IsReached text (at + 1) next
reached_more text at byte now next inside is before line column blank = record {
  line = line ∙ (λ i. cond (eqb (is i) newline) (before.line i + 1) (before.line i)) ∙ sym (line_more text at inside);
  column = column ∙ (λ i. cond (eqb (is i) newline) 1 (before.column i + 1)) ∙ sym (column_more text at inside);
  blank = blank ∙ (λ i. (before.blank i && is_line_blank (is i)) || eqb (is i) newline) ∙ sym (ap (ends_in_blank_line true) (take_more text at 0 inside) ∙ ends_in_blank_line-push true (take at text) (get_or text at 0));
}

-- where a place is reached, so are the numbers of its line and its column
pub small_line : (text : List ℕ) (at : ℕ) (now : Reached) → at ≤ length text → IsReached text at now → now.line ≤ at + 1
small_line text at now inside reached = let le = line_at-le text at inside in let is = reached.line in omega arith

pub small_column : (text : List ℕ) (at : ℕ) (now : Reached) → at ≤ length text → IsReached text at now → now.column ≤ at + 1
small_column text at now inside reached = let le = column_at-le text at inside in let is = reached.column in omega arith
