-- Integer literals, after [lex.icon], without `z` suffixes, and which of them no type of the language holds.
use Rattle.std.specs.Prelude.{◌==◌, ◌&&◌, ◌||◌, Bool, true, false, not, ℕ, ◌+◌, ◌-◌, ◌*◌, ◌^◌, List, [], ◌∷◌, nat_lt, if◌then◌else◌, fold, filter}
use Rattle.std.specs.List.{list_any}
use Rattle.cx_lexer.specs.Bytes.{begins, is_within, is_letter_of, is_decimal_digit, continues_name, quote, plus, minus, dot, zero_digit}

-- the value of a digit in bases up to 16; what is no digit in any of them has 16
unfoldable pub digit_value : ℕ → ℕ
digit_value b =
    if is_within 48 57 b then b - 48
    else (if is_within 97 102 b then b - 87
    else (if is_within 65 70 b then b - 55
    else 16))

abbrev pub is_digit : ℕ → ℕ → Bool
is_digit base b = nat_lt (digit_value b) base

unfoldable pub is_u : ℕ → Bool
is_u b = is_letter_of 117 b

-- the two letters of `ll` are alike
unfoldable pub is_ll : ℕ → ℕ → Bool
is_ll a b = is_letter_of 108 a && a == b

-- none, u, ll, ull or llu
unfoldable pub is_suffix : List ℕ → Bool
is_suffix [] = true
is_suffix (a ∷ []) = is_u a
is_suffix (a ∷ b ∷ []) = is_ll a b
is_suffix (a ∷ b ∷ c ∷ []) = (is_u a && is_ll b c) || (is_ll a b && is_u c)
is_suffix (a ∷ b ∷ c ∷ d ∷ rest) = false

-- what may stand after a digit of a number: more digits, a single quote between two of them if at all, and a suffix
unfoldable pub follows_digit : ℕ → List ℕ → Bool
follows_digit base [] = true
follows_digit base (a ∷ []) = is_digit base a || is_suffix (a ∷ [])
follows_digit base (a ∷ b ∷ rest) =
    if is_digit base a then follows_digit base (b ∷ rest)
    else (if a == quote then is_digit base b && follows_digit base rest
    else is_suffix (a ∷ b ∷ rest))

-- what may stand after a prefix that ends in one of the two cases of a letter: a digit, and what follows it
abbrev pub is_prefixed : ℕ → ℕ → List ℕ → Bool
is_prefixed letter base (x ∷ a ∷ rest) = is_letter_of letter x && is_digit base a && follows_digit base rest
is_prefixed letter base bytes = false

-- decimal without a leading zero, octal behind a zero, hexadecimal behind 0x, binary behind 0b
unfoldable pub is_number : List ℕ → Bool
is_number [] = false
is_number (a ∷ rest) =
    if a == zero_digit then follows_digit 8 rest || is_prefixed 120 16 rest || is_prefixed 98 2 rest
    else is_decimal_digit a && follows_digit 10 rest

-- the base of a number
unfoldable pub base_of : List ℕ → ℕ
base_of [] = 10
base_of (a ∷ rest) =
    if a == zero_digit then (if begins (is_letter_of 120) rest then 16 else (if begins (is_letter_of 98) rest then 2 else 8))
    else 10

-- the value of a number's digits; its prefix adds none, and its quotes and its suffix are no digits
unfoldable pub value_of : List ℕ → ℕ
value_of number = let base = base_of number in
    fold (λ value b. value * base + digit_value b) 0 (filter (is_digit base) number)

unfoldable pub has_u : List ℕ → Bool
has_u number = list_any is_u number

unfoldable pub has_ll : List ℕ → Bool
has_ll number = list_any (is_letter_of 108) number

-- the greatest value that a number of this form may have: that of `unsigned long long` where the suffix has a u,
-- and where there is none and the number isn't decimal, else that of `long long`
abbrev pub greatest_value : List ℕ → ℕ
greatest_value number =
    if has_u number || (not (has_ll number) && not (base_of number == 10)) then 2 ^ 64 - 1 else 2 ^ 63 - 1

unfoldable pub is_too_wide : List ℕ → Bool
is_too_wide number = nat_lt (greatest_value number) (value_of number)

-- the last byte passes the test, if there is one
abbrev pub ends : (ℕ → Bool) → List ℕ → Bool
ends test [] = false
ends test (b ∷ []) = test b
ends test (b ∷ c ∷ rest) = ends test (c ∷ rest)

-- what comes after a number is no token of its own: C++ has one preprocessing number there, [lex.ppnumber]
unfoldable pub runs_on : List ℕ → List ℕ → Bool
runs_on number after =
    begins (λ b. continues_name b || b == dot) after
    || (base_of number == 16 && ends (is_letter_of 101) number && begins (λ b. b == plus || b == minus) after)
