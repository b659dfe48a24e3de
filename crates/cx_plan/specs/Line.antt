-- A line of a plan's text, and what it says: `unit NAME SEMANTIC CALLS REPEAT` or `at NAME ASSERTION SEMANTIC`, with one blank between two words. The grammar is this project's own.
use Rattle.std.specs.Prelude.{ℕ, ◌+◌, ◌-◌, ◌==◌, ◌&&◌, nat_le, nat_lt, Bool, false, not, if◌then◌else◌, List, [], ◌∷◌, length, take, drop, Option, Some, None, codes}
use Rattle.std.specs.List.{list_all, prefix_len}
use Rattle.std.specs.Str.{bytes_eq}
use Rattle.cx_code.specs.declared.violation.Semantic.{Semantic}
use Rattle.cx_code.specs.declared.violation.Semantic.TheVariants.{Ignore, Observe, Enforce, QuickEnforce}
use Rattle.cx_code.specs.Violation.{semantic_name}
use Rattle.cx_core.specs.declared.choice.Calls.{Calls}
use Rattle.cx_core.specs.declared.choice.Calls.TheVariants as calls
use Rattle.cx_plan.specs.declared.plan.Directive.TheVariants as says
use Rattle.cx_plan.specs.declared.line.Line.{Line}
use Rattle.cx_plan.specs.declared.line.Line.TheVariants as lines

-- ---- words

abbrev pub is_in_word : ℕ → Bool
is_in_word byte = not (byte == 32)

-- the first word and what stands behind the blank that follows it
abbrev pub cut : List ℕ → Option (List ℕ × List ℕ)
cut bytes =
    if nat_lt (prefix_len is_in_word bytes) (length bytes)
    then Some (take (prefix_len is_in_word bytes) bytes, drop (prefix_len is_in_word bytes + 1) bytes)
    else None

-- one or more bytes from 33 to 126
abbrev pub is_name : List ℕ → Bool
is_name [] = false
is_name (first ∷ more) = list_all (λ byte. nat_le 33 byte && nat_le byte 126) (first ∷ more)

abbrev pub semantic_of : List ℕ → Option Semantic
semantic_of word =
    if bytes_eq word (semantic_name Ignore) then Some Ignore else
    if bytes_eq word (semantic_name Observe) then Some Observe else
    if bytes_eq word (semantic_name Enforce) then Some Enforce else
    if bytes_eq word (semantic_name QuickEnforce) then Some QuickEnforce else None

abbrev pub calls_of : List ℕ → Option Calls
calls_of word =
    if bytes_eq word (codes "none") then Some calls.Nothing else
    if bytes_eq word (codes "pre") then Some calls.Pre else
    if bytes_eq word (codes "all") then Some calls.All else None

-- one digit from 0 to 7
abbrev pub repeat_of : List ℕ → Option ℕ
repeat_of (digit ∷ []) = if nat_le 48 digit && nat_le digit 55 then Some (digit - 48) else None
repeat_of word = None

-- ---- lines

abbrev pub unit_of : List ℕ → Option Semantic → Option Calls → Option ℕ → Line
unit_of name (Some semantic) (Some calls) (Some repeat) =
    if is_name name then lines.Says (says.Unit name (record { semantic = semantic; calls = calls; repeat = repeat })) else lines.Bad
unit_of name semantic calls repeat = lines.Bad

-- NAME SEMANTIC CALLS REPEAT
abbrev pub unit_with_calls : List ℕ → Option Semantic → Option (List ℕ × List ℕ) → Line
unit_with_calls name semantic None = lines.Bad
unit_with_calls name semantic (Some c) = unit_of name semantic (calls_of c.0) (repeat_of c.1)

abbrev pub unit_with_semantic : List ℕ → Option (List ℕ × List ℕ) → Line
unit_with_semantic name None = lines.Bad
unit_with_semantic name (Some c) = unit_with_calls name (semantic_of c.0) (cut c.1)

abbrev pub unit_line : Option (List ℕ × List ℕ) → Line
unit_line None = lines.Bad
unit_line (Some c) = unit_with_semantic c.0 (cut c.1)

abbrev pub at_of : List ℕ → List ℕ → Option Semantic → Line
at_of name assertion None = lines.Bad
at_of name assertion (Some semantic) = if is_name name && is_name assertion then lines.Says (says.At name assertion semantic) else lines.Bad

-- NAME ASSERTION SEMANTIC
abbrev pub at_with_assertion : List ℕ → Option (List ℕ × List ℕ) → Line
at_with_assertion name None = lines.Bad
at_with_assertion name (Some c) = at_of name c.0 (semantic_of c.1)

abbrev pub at_line : Option (List ℕ × List ℕ) → Line
at_line None = lines.Bad
at_line (Some c) = at_with_assertion c.0 (cut c.1)

-- a line of two or more words, by its first one
abbrev pub worded : Option (List ℕ × List ℕ) → Line
worded None = lines.Bad
worded (Some c) =
    if bytes_eq c.0 (codes "unit") then unit_line (cut c.1) else
    if bytes_eq c.0 (codes "at") then at_line (cut c.1) else lines.Bad

-- an empty line and one that begins with `#` say nothing
unfoldable pub line_of : List ℕ → Line
line_of [] = lines.Silent
line_of (first ∷ more) = if first == 35 then lines.Silent else worded (cut (first ∷ more))
