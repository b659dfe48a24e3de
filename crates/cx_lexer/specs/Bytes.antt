-- The classes of bytes that tokens and the gaps between them are made of, after [lex.charset], [lex.phases] and [lex.name].
use Rattle.std.specs.Prelude.{◌&&◌, ◌||◌, ◌==◌, ◌+◌, ℕ, Bool, false, List, [], ◌∷◌, nat_le}

abbrev pub tab : ℕ
tab = 9

abbrev pub newline : ℕ
newline = 10

abbrev pub vertical_tab : ℕ
vertical_tab = 11

abbrev pub form_feed : ℕ
form_feed = 12

abbrev pub carriage_return : ℕ
carriage_return = 13

abbrev pub space : ℕ
space = 32

abbrev pub double_quote : ℕ
double_quote = 34

abbrev pub quote : ℕ
quote = 39

abbrev pub star : ℕ
star = 42

abbrev pub plus : ℕ
plus = 43

abbrev pub minus : ℕ
minus = 45

abbrev pub dot : ℕ
dot = 46

abbrev pub slash : ℕ
slash = 47

abbrev pub zero_digit : ℕ
zero_digit = 48

abbrev pub backslash : ℕ
backslash = 92

abbrev pub underscore : ℕ
underscore = 95

-- one of the two cases of a letter, of which the small one is given
abbrev pub is_letter_of : ℕ → ℕ → Bool
is_letter_of small b = b == small || b + 32 == small

-- from a first byte to a last one
abbrev pub is_within : ℕ → ℕ → ℕ → Bool
is_within low high b = nat_le low b && nat_le b high

unfoldable pub is_decimal_digit : ℕ → Bool
is_decimal_digit b = is_within 48 57 b

unfoldable pub starts_name : ℕ → Bool
starts_name b = is_within 97 122 b || is_within 65 90 b || b == underscore

abbrev pub continues_name : ℕ → Bool
continues_name b = starts_name b || is_decimal_digit b

unfoldable pub is_printable : ℕ → Bool
is_printable b = is_within 32 126 b

-- a blank between tokens
unfoldable pub is_blank : ℕ → Bool
is_blank b = b == space || b == tab || b == carriage_return || b == newline

-- a blank between the backslash and the newline of a line splice
unfoldable pub is_splice_blank : ℕ → Bool
is_splice_blank b = b == space || b == tab || b == vertical_tab || b == form_feed || b == carriage_return

-- the first byte passes the test, if there is one
abbrev pub begins : (ℕ → Bool) → List ℕ → Bool
begins test [] = false
begins test (b ∷ rest) = test b
