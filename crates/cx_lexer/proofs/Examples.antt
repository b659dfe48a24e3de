-- The definitions, computed on examples.
use Rattle.std.specs.Prelude.{◌≡◌, true, false, [], ◌∷◌, ◌++◌, codes, refl, Some}
use Rattle.std.specs.List.{list_all, list_any}
use Rattle.cx_lexer.specs.Name.{is_word, words}
use Rattle.cx_lexer.specs.Bytes.{is_decimal_digit, is_splice_blank, is_printable}
use Rattle.cx_lexer.specs.Number.{is_number, is_too_wide, value_of, follows_digit, is_suffix, digit_value, is_u, is_ll, base_of, has_u, has_ll}
use Rattle.cx_lexer.specs.Quoted.{is_char, is_text, is_plain, is_escape, escapes, closes_text}
use Rattle.cx_lexer.specs.Punct.{is_punct, puncts}
use Rattle.cx_lexer.specs.Comment.{is_spliced_line, ends_in_backslash, length_to_end}

numbers : list_all is_number (codes "0" ∷ codes "0x1F'fuLL" ∷ codes "0b101" ∷ codes "0'7llu" ∷ codes "12'345'678LLU" ∷ []) ≡ true
unfolding is_number follows_digit is_suffix digit_value is_u is_ll is_decimal_digit
numbers = refl

no_numbers : list_any is_number (codes "08" ∷ codes "1''2" ∷ codes "1lL" ∷ codes "0x" ∷ codes "1'" ∷ codes "1ullu" ∷ codes "0x'1" ∷ codes "0b2" ∷ []) ≡ false
unfolding is_number follows_digit is_suffix digit_value is_u is_ll is_decimal_digit
no_numbers = refl

too_wide : list_all is_too_wide (codes "9223372036854775808" ∷ codes "18446744073709551616u" ∷ codes "0xffffffffffffffffll" ∷ codes "0x10000000000000000" ∷ []) ≡ true
unfolding is_too_wide value_of digit_value base_of has_u has_ll is_u
too_wide = refl

not_too_wide : list_any is_too_wide (codes "9223372036854775807" ∷ codes "9223372036854775808u" ∷ codes "18446744073709551615U" ∷ codes "0xffff'ffff'ffff'ffff" ∷ codes "0xffffffffffffffffllu" ∷ codes "0b1" ∷ []) ≡ false
unfolding is_too_wide value_of digit_value base_of has_u has_ll is_u
not_too_wide = refl

chars : list_all is_char (codes "'a'" ∷ (39 ∷ 92 ∷ 110 ∷ 39 ∷ []) ∷ (39 ∷ 92 ∷ 39 ∷ 39 ∷ []) ∷ []) ≡ true
unfolding is_char is_plain is_escape is_printable
chars = refl

no_chars : list_any is_char (codes "''" ∷ codes "'''" ∷ codes "'ab'" ∷ (39 ∷ 92 ∷ 39 ∷ []) ∷ (39 ∷ 92 ∷ 120 ∷ 39 ∷ []) ∷ []) ≡ false
unfolding is_char is_plain is_escape is_printable
no_chars = refl

texts : list_all is_text ((34 ∷ codes "abc" ++ 34 ∷ []) ∷ (34 ∷ 92 ∷ codes "08" ++ 34 ∷ []) ∷ (34 ∷ 34 ∷ []) ∷ (34 ∷ 92 ∷ 34 ∷ 34 ∷ []) ∷ []) ≡ true
unfolding is_text closes_text escapes is_escape
texts = refl

no_texts : list_any is_text ((34 ∷ 92 ∷ codes "012" ++ 34 ∷ []) ∷ (34 ∷ 34 ∷ 34 ∷ []) ∷ (34 ∷ 10 ∷ 34 ∷ []) ∷ (34 ∷ 92 ∷ 34 ∷ []) ∷ []) ≡ false
unfolding is_text closes_text escapes is_escape
no_texts = refl

some_words : list_all is_word (codes "while" ∷ codes "alignas" ∷ codes "xor_eq" ∷ codes "contract_assert" ∷ []) ≡ true
unfolding is_word words
some_words = refl

no_words : list_any is_word (codes "main" ∷ codes "whil" ∷ codes "while_" ∷ codes "pre" ∷ []) ≡ false
unfolding is_word words
no_words = refl

signs : list_all is_punct (codes "<=>" ∷ codes "..." ∷ codes "->*" ∷ codes ".*" ∷ []) ≡ true
unfolding is_punct puncts
signs = refl

no_signs : list_any is_punct (codes "<:" ∷ codes ".." ∷ codes "@" ∷ codes "" ∷ codes "//" ∷ []) ≡ false
unfolding is_punct puncts
no_signs = refl

spliced : list_all is_spliced_line ((codes "// a " ++ 92 ∷ 32 ∷ 12 ∷ 10 ∷ []) ∷ (codes "//" ++ 92 ∷ 10 ∷ []) ∷ []) ≡ true
unfolding ends_in_backslash is_splice_blank
spliced = refl

not_spliced : list_any is_spliced_line ((codes "// a " ++ 92 ∷ 32 ∷ []) ∷ (codes "// a " ++ 92 ∷ 32 ∷ 65 ∷ 10 ∷ []) ∷ codes "//" ∷ []) ≡ false
unfolding ends_in_backslash is_splice_blank
not_spliced = refl

end_of_comment : length_to_end (codes "/ ** */ a */") ≡ Some 7
unfolding length_to_end
end_of_comment = refl
