-- The text of a plan: its lines, none of which says something of what an earlier one has said, or the first line that is bad. The format is this project's own.
use Rattle.std.specs.Prelude.{◌≡◌, ℕ, ◌+◌, ◌==◌, ◌&&◌, Bool, false, if◌then◌else◌, List, [], ◌∷◌, ◌++◌, Result, Ok, Err, ⊤}
use Rattle.std.specs.List.{list_any}
use Rattle.std.specs.Str.{bytes_eq}
use Rattle.cx_code.specs.declared.violation.Semantic.{Semantic}
use Rattle.cx_plan.specs.declared.plan.Directive.{Directive}
use Rattle.cx_plan.specs.declared.plan.Directive.TheVariants as says
use Rattle.cx_plan.specs.declared.plan.PlanLine.{PlanLine}
use Rattle.cx_plan.specs.declared.plan.Plan.{Plan}
use Rattle.cx_plan.specs.declared.line.Line.{Line}
use Rattle.cx_plan.specs.declared.line.Line.TheVariants as lines
use Rattle.cx_plan.specs.declared.fault.PlanFault.{PlanFault}
use Rattle.cx_plan.specs.declared.fault.PlanFault.TheVariants as faults
use Rattle.cx_plan.specs.Line.{line_of}

-- a byte before the lines that follow it
abbrev pub before_lines : ℕ → List (List ℕ) → List (List ℕ)
before_lines byte [] = (byte ∷ []) ∷ []
before_lines byte (line ∷ lines) = (byte ∷ line) ∷ lines

-- the lines of a text; each ends with a newline, which the last one may lack
unfoldable pub lines_of : List ℕ → List (List ℕ)
lines_of [] = []
lines_of (byte ∷ bytes) = if byte == 10 then [] ∷ lines_of bytes else before_lines byte (lines_of bytes)

-- of the same unit, or of the same assertion of the same unit
abbrev pub says_of_same : Directive → Directive → Bool
says_of_same (says.Unit name choice) (says.Unit other more) = bytes_eq name other
says_of_same (says.Unit name choice) (says.At other assertion semantic) = false
says_of_same (says.At name assertion semantic) (says.Unit other choice) = false
says_of_same (says.At name assertion semantic) (says.At other more later) = bytes_eq name other && bytes_eq assertion more

-- one of the lines has said something of it
abbrev pub has_said : List PlanLine → Directive → Bool
has_said before directive = list_any (λ (line : PlanLine). says_of_same line.says directive) before

-- a line behind those that were read
abbrev pub with_line : ℕ → List PlanLine → Line → Result (List PlanLine) ℕ
with_line number before lines.Silent = Ok before
with_line number before (lines.Says directive) =
    if has_said before directive then Err number else Ok (before ++ record { number = number; says = directive } ∷ [])
with_line number before lines.Bad = Err number

abbrev pub and_then : Result (List PlanLine) ℕ → (List PlanLine → Result (List PlanLine) ℕ) → Result (List PlanLine) ℕ
and_then (Ok read) next = next read
and_then (Err number) next = Err number

-- what the lines from a number on say, behind what those before them said; or the number of the first bad line
unfoldable pub lines_from : ℕ → List PlanLine → List (List ℕ) → Result (List PlanLine) ℕ
lines_from number before [] = Ok before
lines_from number before (line ∷ lines) = and_then (with_line number before (line_of line)) (λ more. lines_from (number + 1) more lines)

-- what a text says, or the number of its first bad line
abbrev pub read_lines : List ℕ → Result (List PlanLine) ℕ
read_lines text = lines_from 1 [] (lines_of text)

-- what a function returned is what the text says, unless memory ran out
abbrev pub Reads : Semantic → Result Plan PlanFault → Result (List PlanLine) ℕ → Type 0
Reads semantic (Ok plan) read = (plan.semantic ≡ semantic) × (read ≡ Ok plan.lines)
Reads semantic (Err faults.OutOfMemory) read = ⊤
Reads semantic (Err (faults.BadPlanLine number)) read = read ≡ Err number
Reads semantic (Err (faults.UnknownAssertion number)) read = ⊥
Reads semantic (Err (faults.UnknownUnit number)) read = ⊥

-- after a function the lines are those with one more, unless memory ran out
abbrev pub Adds : {X : Type 0} → List PlanLine → Result X PlanFault → Result (List PlanLine) ℕ → Type 0
Adds after (Ok done) read = read ≡ Ok after
Adds after (Err faults.OutOfMemory) read = ⊤
Adds after (Err (faults.BadPlanLine number)) read = read ≡ Err number
Adds after (Err (faults.UnknownAssertion number)) read = ⊥
Adds after (Err (faults.UnknownUnit number)) read = ⊥
