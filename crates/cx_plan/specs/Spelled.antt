-- The line that says a directive, with one blank between two words; that a line says a directive exactly where it spells it is a law. The grammar is this project's own.
use Rattle.std.specs.Prelude.{◌≡◌, ℕ, ◌+◌, ◌≤◌, true, List, [], ◌∷◌, ◌++◌, codes}
use Rattle.cx_code.specs.Violation.{semantic_name}
use Rattle.cx_core.specs.declared.choice.Calls.{Calls}
use Rattle.cx_core.specs.declared.choice.Calls.TheVariants as calls
use Rattle.cx_plan.specs.declared.plan.Directive.{Directive}
use Rattle.cx_plan.specs.declared.plan.Directive.TheVariants as says
use Rattle.cx_plan.specs.Line.{is_name}

abbrev pub calls_name : Calls → List ℕ
calls_name calls.Nothing = codes "none"
calls_name calls.Pre = codes "pre"
calls_name calls.All = codes "all"

-- unit NAME SEMANTIC CALLS REPEAT, or at NAME ASSERTION SEMANTIC
abbrev pub spelled : Directive → List ℕ
spelled (says.Unit name choice) = codes "unit" ++ 32 ∷ (name ++ 32 ∷ (semantic_name choice.semantic ++ 32 ∷ (calls_name choice.calls ++ 32 ∷ (48 + choice.repeat) ∷ [])))
spelled (says.At name assertion semantic) = codes "at" ++ 32 ∷ (name ++ 32 ∷ (assertion ++ 32 ∷ semantic_name semantic))

-- names are names, and a repeat has one digit up to 7
abbrev pub IsSayable : Directive → Type 0
IsSayable (says.Unit name choice) = (is_name name ≡ true) × (choice.repeat ≤ 7)
IsSayable (says.At name assertion semantic) = (is_name name ≡ true) × (is_name assertion ≡ true)
