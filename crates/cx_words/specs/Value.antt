-- This defines the values that words have: names, numbers and semantics. This project's own.
use Rattle.std.specs.Prelude.{ℕ, List, [], ◌∷◌, length, Bool, true, false, not, ◌&&◌, ◌==◌, nat_le, Option, Some, None, if◌then◌else◌}
use Rattle.std.specs.List.{list_all, list_any}
use Rattle.std.specs.Str.{bytes_eq}
use Rattle.std.specs.Str.Parse.{digits_value}
use Rattle.cx_code.specs.declared.violation.Semantic.{Semantic}
use Rattle.cx_code.specs.declared.violation.Semantic.TheVariants.{Ignore, Observe, Enforce, QuickEnforce}
use Rattle.cx_code.specs.Violation.{semantic_name}

-- a name isn't empty, and has bytes from 33 to 126 only
abbrev pub is_name : List ℕ → Bool
is_name word = not (length word == 0) && list_all (λ byte. nat_le 33 byte && nat_le byte 126) word

-- no two are equal
abbrev pub are_distinct : List (List ℕ) → Bool
are_distinct [] = true
are_distinct (name ∷ names) = not (list_any (bytes_eq name) names) && are_distinct names

-- digits alone, the first of which is no zero
abbrev pub is_decimal : List ℕ → Bool
is_decimal [] = false
is_decimal (first ∷ rest) = not (first == 48) && list_all (λ byte. nat_le 48 byte && nat_le byte 57) (first ∷ rest)

-- a decimal number from 1 to the greatest one
abbrev pub number_in : ℕ → List ℕ → Option ℕ
number_in most word = if is_decimal word && nat_le (digits_value 10 word) most then Some (digits_value 10 word) else None

abbrev pub most_steps : ℕ
most_steps = 10000000

abbrev pub most_made : ℕ
most_made = 64

-- the semantic of this name
abbrev pub semantic_in : List ℕ → Option Semantic
semantic_in word =
    if bytes_eq word (semantic_name Ignore) then Some Ignore
    else (if bytes_eq word (semantic_name Observe) then Some Observe
    else (if bytes_eq word (semantic_name Enforce) then Some Enforce
    else (if bytes_eq word (semantic_name QuickEnforce) then Some QuickEnforce else None)))
