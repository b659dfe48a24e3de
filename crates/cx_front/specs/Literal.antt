-- The literals of the language that is built so far: a part of [lex.icon] and [lex.ccon].
use Rattle.std.specs.Prelude.{ℕ, ◌+◌, ◌-◌, ◌*◌, List, [], ◌∷◌, length, Bool, true, false, ◌==◌, ◌&&◌, ◌||◌, nat_le, fold, if◌then◌else◌, Option, Some, None}
use Rattle.cx_typed.specs.Typed.{greatest_int}

abbrev pub is_digit : ℕ → Bool
is_digit byte = nat_le 48 byte && nat_le byte 57

-- digits, with a single `'` between two where one wishes; `opened` says that a digit has to come
abbrev pub is_digits : Bool → List ℕ → Bool
is_digits opened [] = if opened then false else true
is_digits opened (byte ∷ bytes) = if is_digit byte then is_digits false bytes else (if opened then false else (byte == 39 && is_digits true bytes))

-- a decimal number without a leading zero, or the number 0
abbrev pub is_decimal : List ℕ → Bool
is_decimal [] = false
is_decimal (byte ∷ bytes) = if byte == 48 then length bytes == 0 else is_digits true (byte ∷ bytes)

-- the value of its digits, behind what stands before them
abbrev pub value_behind : ℕ → List ℕ → ℕ
value_behind value bytes = fold (λ value byte. if byte == 39 then value else value * 10 + (byte - 48)) value bytes

abbrev pub decimal_value : List ℕ → ℕ
decimal_value bytes = value_behind 0 bytes

-- the value of a decimal number of type int
abbrev pub int_value : List ℕ → Option ℕ
int_value bytes = if is_decimal bytes && nat_le (decimal_value bytes) greatest_int then Some (decimal_value bytes) else None

-- the byte that an escape stands for, by the byte behind the backslash
abbrev pub escaped : ℕ → Option ℕ
escaped byte =
    if byte == 110 then Some 10 else
    if byte == 116 then Some 9 else
    if byte == 114 then Some 13 else
    if byte == 48 then Some 0 else
    if byte == 92 || byte == 39 || byte == 34 then Some byte else None

-- the value of a character literal: of its byte or its escape, between the quotes
abbrev pub char_value : List ℕ → Option ℕ
char_value (quote ∷ byte ∷ close ∷ []) = if nat_le byte 127 then Some byte else None
char_value (quote ∷ backslash ∷ byte ∷ close ∷ []) = escaped byte
char_value bytes = None
