-- What the scanner finds at a place stands there.
use Rattle.std.proofs.Common.{◌≡◌, ◌≢◌, ◌||◌, true, false, ℕ, suc, ◌+◌, ◌<◌, ◌≤◌, List, [], ◌∷◌, length, get_or, take, drop, eqb, refl, sym, ◌∙◌, ap, subst, arith, Some, None, length-take-le}
use Rattle.std.specs.List.{prefix_len}
use Rattle.std.proofs.lemmas.Bool.{and_from, false_from_ne_true, ne_eqb, le-ltb, not_from_false, true≢false, false≢true, and_right}
use Rattle.cx_syntax.specs.declared.token.TokenKind.{TokenKind}
use Rattle.cx_syntax.specs.declared.token.TokenKind.TheVariants.{Name, Word, Number, Char, Text, Punct}
use Rattle.cx_lexer.specs.declared.fault.LexFault.TheVariants as faults
use Rattle.cx_lexer.specs.declared.piece.Piece.TheVariants as pieces
use Rattle.cx_lexer.specs.Bytes.{starts_name, continues_name, is_decimal_digit, is_blank, begins, quote, double_quote}
use Rattle.cx_lexer.specs.Name.{is_name, is_word}
use Rattle.cx_lexer.specs.Number.{is_number, is_too_wide, runs_on}
use Rattle.cx_lexer.specs.Quoted.{is_char, is_text}
use Rattle.cx_lexer.specs.Punct.{is_punct}
use Rattle.cx_lexer.specs.Comment.{begins_line_comment, begins_block_comment, line_length, is_spliced_line, length_to_end, HidesEnd}
use Rattle.cx_lexer.specs.Lexeme.{is_token, IsLexeme, is_refused}
use Rattle.cx_lexer.specs.Spelling.{IsGap, Begins}
use Rattle.cx_lexer.specs.Scan.{number_length, char_length, text_length, punct_length}
use Rattle.cx_lexer.specs.Piece.{Stands}
use Rattle.cx_lexer.proofs.Names.{name_longest}
use Rattle.cx_lexer.proofs.Numbers.{number_longest}
use Rattle.cx_lexer.proofs.Quotes.{char_longest, no_char, text_longest, no_text}
use Rattle.cx_lexer.proofs.Puncts.{punct_longest, no_punct}
use Rattle.cx_lexer.proofs.Lexemes.{lexeme, name_covers, number_covers, char_covers, text_covers, punct_covers, sort_of, sort, at_letter, at_digit, at_quote, at_double_quote, first_sort, at_else}

abbrev NoComment : List ℕ → Type 0
NoComment rest = (begins_line_comment rest || begins_block_comment rest) ≡ false

pub blank_stands : (rest : List ℕ) (at : ℕ) → 0 < length rest → is_blank (get_or rest 0 0) ≡ true → Stands rest at (pieces.Gap 1)
unfolding Stands
blank_stands [] at some blank = absurd (omega arith)
blank_stands (b ∷ xs) at some blank = IsGap.blank blank

pub line_stands : (rest : List ℕ) (at n : ℕ) → begins_line_comment rest ≡ true → n ≡ line_length rest → is_spliced_line rest ≡ false → Stands rest at (pieces.Gap n)
unfolding Stands
line_stands rest at n comment is whole = subst (IsGap rest) (sym is) (IsGap.line_comment comment whole)

pub spliced_stands : (rest : List ℕ) (at : ℕ) → begins_line_comment rest ≡ true → is_spliced_line rest ≡ true → Stands rest at (pieces.Fault (faults.BadByte at))
unfolding Stands
spliced_stands rest at comment spliced = Begins.spliced_comment comment spliced

pub open_stands : (rest : List ℕ) (at : ℕ) → begins_block_comment rest ≡ true → length_to_end (drop 2 rest) ≡ None → Stands rest at (pieces.Fault (faults.OpenComment at))
unfolding Stands
open_stands rest at comment none = Begins.open_comment comment none

pub hidden_stands : (rest : List ℕ) (at n : ℕ) → begins_block_comment rest ≡ true → length_to_end (drop 2 rest) ≡ Some n → HidesEnd (take n (drop 2 rest)) → Stands rest at (pieces.Fault (faults.BadByte at))
unfolding Stands
hidden_stands rest at n comment is hides = Begins.hidden_end comment is hides

pub block_stands : (rest : List ℕ) (at n : ℕ) → begins_block_comment rest ≡ true → length_to_end (drop 2 rest) ≡ Some n → (HidesEnd (take n (drop 2 rest)) → ⊥) → Stands rest at (pieces.Gap (2 + n))
unfolding Stands
block_stands rest at n comment is hides = IsGap.block_comment comment is hides

-- names
name_lexeme : (kind : TokenKind) (rest : List ℕ) → sort kind ≡ 1 → 0 < length rest → starts_name (get_or rest 0 0) ≡ true → NoComment rest → is_token kind (take (prefix_len continues_name rest) rest) ≡ true → IsLexeme kind rest (prefix_len continues_name rest)
name_lexeme kind [] is some first no_comment one = absurd (omega arith)
name_lexeme kind (b ∷ xs) is some first no_comment one =
    lexeme kind is_name (λ other ys same e. name_covers other ys (same ∙ is) e) b xs _ (at_letter b first ∙ sym is) (name_longest b xs first) one no_comment

name_passes : (rest : List ℕ) → 0 < length rest → starts_name (get_or rest 0 0) ≡ true → is_name (take (prefix_len continues_name rest) rest) ≡ true
name_passes [] some first = absurd (omega arith)
name_passes (b ∷ xs) some first = (name_longest b xs first).passes

module _ (rest : List ℕ) (at n : ℕ) (some : 0 < length rest) (first : starts_name (get_or rest 0 0) ≡ true) (no_comment : NoComment rest) (is : n ≡ prefix_len continues_name rest) where
  a_name : is_word (take n rest) ≡ false → IsLexeme Name rest n
  a_name no_word =
      let word = ap (λ k. is_word (take k rest)) (sym is) ∙ no_word in
      subst (IsLexeme Name rest) (sym is) (name_lexeme Name rest refl some first no_comment (and_from _ _ (name_passes rest some first) (not_from_false _ word)))

  pub word_stands : is_word (take n rest) ≡ true → Stands rest at (pieces.Token Word n)
  unfolding Stands is_refused
  word_stands is_one =
      let word = ap (λ k. is_word (take k rest)) (sym is) ∙ is_one in
      (subst (IsLexeme Word rest) (sym is) (name_lexeme Word rest refl some first no_comment (and_from _ _ (name_passes rest some first) word)), refl)

  pub long_stands : is_word (take n rest) ≡ false → 1024 < n → Stands rest at (pieces.Fault (faults.LongName at n))
  unfolding Stands
  long_stands no_word long = Begins.long_name (a_name no_word) long

  pub name_stands : is_word (take n rest) ≡ false → n ≤ 1024 → Stands rest at (pieces.Token Name n)
  unfolding Stands is_refused
  name_stands no_word short =
      let lexeme_is = a_name no_word in
      let long = length-take-le n rest lexeme_is.within in
      (lexeme_is, le-ltb _ _ (omega arith))

-- numbers
number_lexeme : (rest : List ℕ) (n : ℕ) → 0 < length rest → is_decimal_digit (get_or rest 0 0) ≡ true → NoComment rest → n ≡ number_length rest → IsLexeme Number rest n
number_lexeme [] n some first no_comment is = absurd (omega arith)
number_lexeme (b ∷ xs) n some first no_comment is =
    let longest = number_longest b xs first in
    subst (IsLexeme Number (b ∷ xs)) (sym is) (lexeme Number is_number number_covers b xs _ (at_digit b first) longest longest.passes no_comment)

module _ (rest : List ℕ) (at n : ℕ) (some : 0 < length rest) (first : is_decimal_digit (get_or rest 0 0) ≡ true) (no_comment : NoComment rest) (is : n ≡ number_length rest) where
  pub wide_stands : is_too_wide (take n rest) ≡ true → Stands rest at (pieces.Fault (faults.TooWide at))
  unfolding Stands
  wide_stands wide = Begins.too_wide (number_lexeme rest n some first no_comment is) wide

  pub runs_stands : is_too_wide (take n rest) ≡ false → runs_on (take n rest) (drop n rest) ≡ true → Stands rest at (pieces.Fault (faults.BadByte (at + n)))
  unfolding Stands
  runs_stands narrow runs = Begins.number_runs_on (number_lexeme rest n some first no_comment is) narrow runs

  pub number_stands : is_too_wide (take n rest) ≡ false → runs_on (take n rest) (drop n rest) ≡ false → Stands rest at (pieces.Token Number n)
  unfolding Stands is_refused
  number_stands narrow ends = (number_lexeme rest n some first no_comment is, ap (λ t. t || runs_on (take n rest) (drop n rest)) narrow ∙ ends)

-- literals
pub char_stands : (rest : List ℕ) (at n : ℕ) → 0 < length rest → get_or rest 0 0 ≡ 39 → NoComment rest → n ≡ char_length rest → 0 < n → Stands rest at (pieces.Token Char n)
unfolding Stands is_refused
char_stands [] at n some first no_comment is found = absurd (omega arith)
char_stands (b ∷ xs) at n some first no_comment is found =
    let P : ℕ → Type 0 = λ c. NoComment (c ∷ xs) → n ≡ char_length (c ∷ xs) → IsLexeme Char (c ∷ xs) n in (
      subst P (sym first) (λ none same.
          let longest = char_longest xs (omega arith) in
          subst (IsLexeme Char (quote ∷ xs)) (sym same) (lexeme Char is_char char_covers quote xs _ (at_quote quote refl) longest longest.passes none)) no_comment is,
      refl,
    )

pub open_char_stands : (rest : List ℕ) (at : ℕ) → 0 < length rest → get_or rest 0 0 ≡ 39 → char_length rest ≡ 0 → Stands rest at (pieces.Fault (faults.OpenText at))
unfolding Stands
open_char_stands [] at some first none = absurd (omega arith)
open_char_stands (b ∷ xs) at some first none = Begins.open_char (rw first refl) (λ n. no_char (b ∷ xs) n none)

pub text_stands : (rest : List ℕ) (at n : ℕ) → 0 < length rest → get_or rest 0 0 ≡ 34 → NoComment rest → n ≡ text_length (drop 1 rest) → begins (λ b. eqb b double_quote) (drop n (drop 1 rest)) ≡ true → Stands rest at (pieces.Token Text (2 + n))
unfolding Stands is_refused
text_stands [] at n some first no_comment is ends = absurd (omega arith)
text_stands (b ∷ xs) at n some first no_comment is ends =
    let P : ℕ → Type 0 = λ c. NoComment (c ∷ xs) → IsLexeme Text (c ∷ xs) (2 + n) in
    let ends_there = ap (λ k. begins (λ c. eqb c double_quote) (drop k xs)) (sym is) ∙ ends in
    let length_is : suc (suc (text_length xs)) ≡ 2 + n = omega arith in (
      subst P (sym first) (λ none.
          let longest = text_longest xs ends_there in
          subst (IsLexeme Text (double_quote ∷ xs)) length_is (lexeme Text is_text text_covers double_quote xs _ (at_double_quote double_quote refl) longest longest.passes none)) no_comment,
      refl,
    )

pub open_text_stands : (rest : List ℕ) (at n : ℕ) → 0 < length rest → get_or rest 0 0 ≡ 34 → n ≡ text_length (drop 1 rest) → begins (λ b. eqb b double_quote) (drop n (drop 1 rest)) ≡ false → Stands rest at (pieces.Fault (faults.OpenText at))
unfolding Stands
open_text_stands [] at n some first is ends = absurd (omega arith)
open_text_stands (b ∷ xs) at n some first is ends =
    let ends_there = ap (λ k. begins (λ c. eqb c double_quote) (drop k xs)) (sym is) ∙ ends in
    Begins.open_text (rw first refl) (λ m. rw first (no_text xs m ends_there))

-- puncts
pub punct_stands : (rest : List ℕ) (at n : ℕ) → 0 < length rest → sort_of (get_or rest 0 0) ≡ 5 → NoComment rest → n ≡ punct_length rest → 0 < n → Stands rest at (pieces.Token Punct n)
unfolding Stands is_refused
punct_stands [] at n some first no_comment is found = absurd (omega arith)
punct_stands (b ∷ xs) at n some first no_comment is found =
    let longest = punct_longest (b ∷ xs) (omega arith) in
    (subst (IsLexeme Punct (b ∷ xs)) (sym is) (lexeme Punct is_punct punct_covers b xs _ first longest longest.passes no_comment), refl)

begins_none : (b : ℕ) (xs : List ℕ) → sort_of b ≡ 5 → punct_length (b ∷ xs) ≡ 0 → (kind : TokenKind) (bytes : List ℕ) → is_token kind (b ∷ bytes) ≡ true → ⊥
begins_none b xs first none Name bytes e = let f = first_sort Name b bytes e in omega arith
begins_none b xs first none Word bytes e = let f = first_sort Word b bytes e in omega arith
begins_none b xs first none Number bytes e = let f = first_sort Number b bytes e in omega arith
begins_none b xs first none Char bytes e = let f = first_sort Char b bytes e in omega arith
begins_none b xs first none Text bytes e = let f = first_sort Text b bytes e in omega arith
begins_none b xs first none Punct bytes e = true≢false (sym e ∙ no_punct b xs bytes none)

pub none_stands : (rest : List ℕ) (at : ℕ) → 0 < length rest → is_blank (get_or rest 0 0) ≡ false → sort_of (get_or rest 0 0) ≡ 5 → punct_length rest ≡ 0 → Stands rest at (pieces.Fault (faults.BadByte at))
unfolding Stands
none_stands [] at some blank first none = absurd (omega arith)
none_stands (b ∷ xs) at some blank first none = Begins.no_token (blank, λ kind bytes. false_from_ne_true _ (begins_none b xs first none kind bytes))

pub at_sign : (b : ℕ) → starts_name b ≡ false → is_decimal_digit b ≡ false → b ≢ 39 → b ≢ 34 → sort_of b ≡ 5
at_sign b letter digit no_quote no_double = at_else b letter digit (ne_eqb b 39 no_quote) (ne_eqb b 34 no_double)

pub block_is_long : (rest : List ℕ) → begins_block_comment rest ≡ true → 2 ≤ length rest
unfolding begins_block_comment
block_is_long [] e = absurd (false≢true e)
block_is_long (a ∷ []) e = absurd (false≢true (sym (and_right (eqb a 47) false refl) ∙ e))
block_is_long (a ∷ b ∷ rest) e = omega arith
