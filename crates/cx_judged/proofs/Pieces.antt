-- At each place of a text there stands a blank, a comment, a token or a fault.
use Rattle.std.proofs.Common.{◌≡◌, ◌||◌, true, false, ℕ, ◌+◌, ◌<◌, List, Option, Some, None, length, take, drop, get_or, eqb, refl, sym, ◌∙◌, ap, ⊎_elim}
use Rattle.std.specs.List.{prefix_len}
use Rattle.std.proofs.lemmas.Bool.{cases_Bool, eqb-true, true≢false}
use Rattle.cx_syntax.specs.declared.token.TokenKind.TheVariants as kinds
use Rattle.cx_lexer.specs.declared.fault.LexFault.TheVariants as faults
use Rattle.cx_lexer.specs.declared.piece.Piece.{Piece}
use Rattle.cx_lexer.specs.declared.piece.Piece.TheVariants as pieces
use Rattle.cx_lexer.specs.declared.seen.Seen.TheVariants.{Other}
use Rattle.cx_lexer.specs.Bytes.{begins, continues_name, double_quote, is_blank, is_decimal_digit, quote, starts_name}
use Rattle.cx_lexer.specs.Comment.{begins_block_comment, begins_line_comment, is_spliced_line, length_to_end, line_length}
use Rattle.cx_lexer.specs.Name.{is_word}
use Rattle.cx_lexer.specs.Number.{is_too_wide, runs_on}
use Rattle.cx_lexer.specs.Piece.{Stands}
use Rattle.cx_lexer.specs.Scan.{char_length, hides_from, number_length, punct_length, text_length}
use Rattle.cx_lexer.proofs.Comments.{hidden, hides_complete}
use Rattle.cx_lexer.proofs.Lexemes.{at_else, sort_of}
use Rattle.cx_lexer.proofs.Pieces.{blank_stands, block_stands, char_stands, hidden_stands, line_stands, long_stands, name_stands, none_stands, number_stands, open_char_stands, open_stands, open_text_stands, punct_stands, runs_stands, spliced_stands, text_stands, wide_stands, word_stands}
use Rattle.cx_judged.proofs.Choices.{at_most_or_more, none_or_some}

module _ (rest : List ℕ) (at : ℕ) where
  abbrev Standing : Type 0
  Standing = (piece : Piece) × Stands rest at piece

  line_comment : begins_line_comment rest ≡ true → Standing
  line_comment comment =
      ⊎_elim
      (λ spliced. (pieces.Fault (faults.BadByte at), spliced_stands rest at comment spliced))
      (λ whole. (pieces.Gap (line_length rest), line_stands rest at (line_length rest) comment refl whole))
      (cases_Bool (is_spliced_line rest))

  block_comment : begins_block_comment rest ≡ true → Standing
  block_comment comment = by_end (length_to_end (drop 2 rest)) refl
    where
      closed : (n : ℕ) → length_to_end (drop 2 rest) ≡ Some n → Standing
      closed n is =
          ⊎_elim
          (λ hides. (pieces.Fault (faults.BadByte at), hidden_stands rest at n comment is (hidden (take n (drop 2 rest)) hides)))
          (λ clear. (pieces.Gap (2 + n), block_stands rest at n comment is (λ hides. true≢false (sym (hides_complete (take n (drop 2 rest)) hides) ∙ clear))))
          (cases_Bool (hides_from Other (take n (drop 2 rest))))

      by_end : (end : Option ℕ) → length_to_end (drop 2 rest) ≡ end → Standing
      by_end None is = (pieces.Fault (faults.OpenComment at), open_stands rest at comment is)
      by_end (Some n) is = closed n is

  module _ (some : 0 < length rest) (no_comment : (begins_line_comment rest || begins_block_comment rest) ≡ false) where
    name : starts_name (get_or rest 0 0) ≡ true → Standing
    name first =
        let n = prefix_len continues_name rest in
        ⊎_elim
        (λ word. (pieces.Token kinds.Word n, word_stands rest at n some first no_comment refl word))
        (λ other. ⊎_elim
        (λ short. (pieces.Token kinds.Name n, name_stands rest at n some first no_comment refl other short))
        (λ long. (pieces.Fault (faults.LongName at n), long_stands rest at n some first no_comment refl other long))
        (at_most_or_more n 1024))
        (cases_Bool (is_word (take n rest)))

    number : is_decimal_digit (get_or rest 0 0) ≡ true → Standing
    number first =
        let n = number_length rest in
        ⊎_elim
        (λ wide. (pieces.Fault (faults.TooWide at), wide_stands rest at n some first no_comment refl wide))
        (λ narrow. ⊎_elim
        (λ runs. (pieces.Fault (faults.BadByte (at + n)), runs_stands rest at n some first no_comment refl narrow runs))
        (λ ends. (pieces.Token kinds.Number n, number_stands rest at n some first no_comment refl narrow ends))
        (cases_Bool (runs_on (take n rest) (drop n rest))))
        (cases_Bool (is_too_wide (take n rest)))

    character : get_or rest 0 0 ≡ 39 → Standing
    character first =
        ⊎_elim
        (λ none. (pieces.Fault (faults.OpenText at), open_char_stands rest at some first none))
        (λ found. (pieces.Token kinds.Char (char_length rest), char_stands rest at (char_length rest) some first no_comment refl found))
        (none_or_some (char_length rest))

    text : get_or rest 0 0 ≡ 34 → Standing
    text first =
        let n = text_length (drop 1 rest) in
        ⊎_elim
        (λ closed. (pieces.Token kinds.Text (2 + n), text_stands rest at n some first no_comment refl closed))
        (λ unclosed. (pieces.Fault (faults.OpenText at), open_text_stands rest at n some first refl unclosed))
        (cases_Bool (begins (λ b. eqb b double_quote) (drop n (drop 1 rest))))

    punct : is_blank (get_or rest 0 0) ≡ false → sort_of (get_or rest 0 0) ≡ 5 → Standing
    punct no_blank first =
        ⊎_elim
        (λ none. (pieces.Fault (faults.BadByte at), none_stands rest at some no_blank first none))
        (λ found. (pieces.Token kinds.Punct (punct_length rest), punct_stands rest at (punct_length rest) some first no_comment refl found))
        (none_or_some (punct_length rest))

    lexeme : is_blank (get_or rest 0 0) ≡ false → Standing
    lexeme no_blank =
        let first = get_or rest 0 0 in
        ⊎_elim name
        (λ no_letter. ⊎_elim number
        (λ no_digit. ⊎_elim (λ is. character (eqb-true first quote is))
        (λ no_quote. ⊎_elim (λ is. text (eqb-true first double_quote is))
        (λ no_double_quote. punct no_blank (at_else first no_letter no_digit no_quote no_double_quote))
        (cases_Bool (eqb first double_quote)))
        (cases_Bool (eqb first quote)))
        (cases_Bool (is_decimal_digit first)))
        (cases_Bool (starts_name first))

pub something_stands : (rest : List ℕ) (at : ℕ) → 0 < length rest → (piece : Piece) × Stands rest at piece
something_stands rest at some =
    ⊎_elim
    (λ blank. (pieces.Gap 1, blank_stands rest at some blank))
    (λ no_blank. ⊎_elim (line_comment rest at)
    (λ no_line. ⊎_elim (block_comment rest at)
    (λ no_block. lexeme rest at some (ap (λ t. t || begins_block_comment rest) no_line ∙ no_block) no_blank)
    (cases_Bool (begins_block_comment rest)))
    (cases_Bool (begins_line_comment rest)))
    (cases_Bool (is_blank (get_or rest 0 0)))
