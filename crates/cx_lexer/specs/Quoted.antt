-- Character literals, after [lex.ccon], and string literals, after [lex.string], with the escape sequences of the language.
use Rattle.std.specs.Prelude.{◌==◌, ◌&&◌, ◌||◌, Bool, false, not, ℕ, List, [], ◌∷◌, codes, if◌then◌else◌}
use Rattle.std.specs.List.{list_any}
use Rattle.cx_lexer.specs.Bytes.{begins, is_within, is_printable, quote, double_quote, backslash, newline, zero_digit}

-- the byte behind the backslash of an escape
unfoldable pub is_escape : ℕ → Bool
is_escape b = b == backslash || b == quote || b == double_quote || list_any (λ letter. letter == b) (codes "ntr0")

-- a byte that stands for itself between single quotes
unfoldable pub is_plain : ℕ → Bool
is_plain b = is_printable b && not (b == quote) && not (b == backslash)

unfoldable pub is_char : List ℕ → Bool
is_char (first ∷ b ∷ last ∷ []) = first == quote && is_plain b && last == quote
is_char (first ∷ slant ∷ b ∷ last ∷ []) = first == quote && slant == backslash && is_escape b && last == quote
is_char bytes = false

-- what stands behind a backslash is an escape; no octal digit follows the digit of one
unfoldable pub escapes : List ℕ → Bool
escapes [] = false
escapes (b ∷ rest) = is_escape b && not (b == zero_digit && begins (is_within 48 55) rest)

-- what may stand after the opening double quote, with the closing one
unfoldable pub closes_text : List ℕ → Bool
closes_text [] = false
closes_text (a ∷ []) = a == double_quote
closes_text (a ∷ b ∷ rest) =
    if a == double_quote then false
    else (if a == newline then false
    else (if a == backslash then escapes (b ∷ rest) && closes_text rest
    else closes_text (b ∷ rest)))

unfoldable pub is_text : List ℕ → Bool
is_text [] = false
is_text (first ∷ rest) = first == double_quote && closes_text rest
