-- What a plan says of a unit and of an assertion, and what holds where it says nothing; this project's own form of the choice that P2900R14 leaves to an implementation.
use Rattle.std.specs.Prelude.{ℕ, ◌&&◌, if◌then◌else◌, List, [], ◌∷◌}
use Rattle.std.specs.Str.{bytes_eq}
use Rattle.cx_code.specs.declared.violation.Semantic.{Semantic}
use Rattle.cx_core.specs.declared.choice.Choice.{Choice}
use Rattle.cx_core.specs.declared.choice.Calls.TheVariants as calls
use Rattle.cx_core.specs.declared.unit.CoreUnit.{CoreUnit}
use Rattle.cx_core.specs.View.{unit_of}
use Rattle.cx_core.specs.Numbers.{Planned}
use Rattle.cx_plan.specs.declared.plan.Directive.{Directive}
use Rattle.cx_plan.specs.declared.plan.Directive.TheVariants as says
use Rattle.cx_plan.specs.declared.plan.PlanLine.{PlanLine}
use Rattle.cx_plan.specs.declared.plan.Plan.{Plan}

abbrev pub choice_or : List ℕ → Directive → Choice → Choice
choice_or unit (says.Unit name choice) later = if bytes_eq name unit then choice else later
choice_or unit (says.At name assertion semantic) later = later

abbrev pub choice_among : List ℕ → List PlanLine → Choice → Choice
choice_among unit [] otherwise = otherwise
choice_among unit (line ∷ lines) otherwise = choice_or unit line.says (choice_among unit lines otherwise)

-- a unit that the plan doesn't name has the one semantic, and checks neither as Caller nor again
abbrev pub usual_choice : Semantic → Choice
usual_choice semantic = record { semantic = semantic; calls = calls.Nothing; repeat = 0 }

abbrev pub choice_of : Plan → List ℕ → Choice
choice_of plan unit = choice_among unit plan.lines (usual_choice plan.semantic)

abbrev pub semantic_or : List ℕ → List ℕ → Directive → Semantic → Semantic
semantic_or unit assertion (says.Unit name choice) later = later
semantic_or unit assertion (says.At name other semantic) later = if bytes_eq name unit && bytes_eq other assertion then semantic else later

abbrev pub semantic_among : List ℕ → List ℕ → List PlanLine → Semantic → Semantic
semantic_among unit assertion [] otherwise = otherwise
semantic_among unit assertion (line ∷ lines) otherwise = semantic_or unit assertion line.says (semantic_among unit assertion lines otherwise)

-- the semantic of an assertion: its own, or else that of its unit
abbrev pub chosen_of : Plan → List ℕ → List ℕ → Semantic
chosen_of plan unit assertion = semantic_among unit assertion plan.lines (choice_of plan unit).semantic

-- a unit with what the plan says of it
abbrev pub planned : Plan → CoreUnit → Planned
planned plan unit = record { unit = unit_of unit; choice = choice_of plan unit.name; semantic = chosen_of plan unit.name }
