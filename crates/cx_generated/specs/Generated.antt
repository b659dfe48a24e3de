-- Units and their plan made from a number: sixteen functions in each unit, each of which calls the one before it and has a precondition and a postcondition, and a `main` that calls the last one. This project's own.
use Rattle.std.specs.Prelude.{ℕ, zero, suc, ◌+◌, ◌-◌, ◌*◌, ◌%◌, ◌==◌, nat_lt, if◌then◌else◌, ℤ, List, [], ◌∷◌, ◌++◌, codes}
use Rattle.std.specs.List.{flat_map}
use Rattle.std.specs.Fmt.{decimal, signed_decimal}
use Rattle.cx_code.specs.declared.violation.Semantic.{Semantic}
use Rattle.cx_code.specs.declared.violation.Semantic.TheVariants.{Ignore, Observe, Enforce, QuickEnforce}
use Rattle.cx_code.specs.Violation.{semantic_name}

-- so many numbers, from the first one on
abbrev pub numbers_from : ℕ → ℕ → List ℕ
numbers_from first zero = []
numbers_from first (suc count) = first ∷ numbers_from (first + 1) count

abbrev pub functions_in_unit : ℕ
functions_in_unit = 16

-- mI.cpp
abbrev pub unit_name : ℕ → List ℕ
unit_name unit = codes "m" ++ decimal unit ++ codes ".cpp"

-- m.plan
abbrev pub plan_name : List ℕ
plan_name = codes "m.plan"

-- fI_J
abbrev pub function_name : ℕ → ℕ → List ℕ
function_name unit function = codes "f" ++ decimal unit ++ codes "_" ++ decimal function

-- a function without its body
abbrev pub head : ℕ → ℕ → List ℕ
head unit function = codes "int " ++ function_name unit function ++ codes "(const int x) pre(x >= 0) post(r : r >= x)"

-- one more than what the function before gives
abbrev pub after_function : ℕ → ℕ → List ℕ
after_function unit function = function_name unit function ++ codes "(x) + 1"

-- what a function returns: its parameter in the very first one, and one more than the function before it in the others
abbrev pub value_text : ℕ → ℕ → List ℕ
value_text unit function =
    if function == 1 then (if unit == 1 then codes "x" else after_function (unit - 1) functions_in_unit)
    else after_function unit (function - 1)

abbrev pub definition_line : ℕ → ℕ → List ℕ
definition_line unit function = head unit function ++ codes " { return " ++ value_text unit function ++ codes "; }\n"

-- the last function of the unit before
abbrev pub declaration_line : ℕ → List ℕ
declaration_line unit = if nat_lt 1 unit then head (unit - 1) functions_in_unit ++ codes ";\n" else []

-- calls the last function of the unit
abbrev pub main_line : ℕ → List ℕ
main_line unit = codes "int main() { return " ++ function_name unit functions_in_unit ++ codes "(0); }\n"

-- the text of a unit, of so many units
unfoldable pub unit_text : (units unit : ℕ) → List ℕ
unit_text units unit =
    declaration_line unit ++ flat_map (definition_line unit) (numbers_from 1 functions_in_unit) ++ (if unit == units then main_line unit else [])

-- by the unit's number modulo 4
abbrev pub semantic_of : ℕ → Semantic
semantic_of rest = if rest == 0 then Ignore else if rest == 1 then Observe else if rest == 2 then Enforce else QuickEnforce

-- by the unit's number modulo 3
abbrev pub calls_name : ℕ → List ℕ
calls_name rest = if rest == 0 then codes "none" else if rest == 1 then codes "pre" else codes "all"

-- unit mI.cpp SEMANTIC CALLS REPEAT
abbrev pub plan_line : ℕ → List ℕ
plan_line unit =
    codes "unit " ++ unit_name unit ++ codes " " ++ semantic_name (semantic_of (unit % 4)) ++ codes " " ++ calls_name (unit % 3) ++ codes " " ++ decimal (unit % 8) ++ codes "\n"

-- a line for each unit
unfoldable pub plan_text : ℕ → List ℕ
plan_text units = flat_map plan_line (numbers_from 1 units)

-- make N: functions F, begins B, returned V
unfoldable pub summary_line : (units begins : ℕ) → ℤ → List ℕ
summary_line units begins value =
    codes "make " ++ decimal units ++ codes ": functions " ++ decimal (functions_in_unit * units) ++ codes ", begins " ++ decimal begins
    ++ codes ", returned " ++ signed_decimal value ++ codes "\n"
