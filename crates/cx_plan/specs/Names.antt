-- What a plan names: units, and assertions of the functions that they declare or define; and the first line that names something else. This project's own.
use Rattle.std.specs.Prelude.{ℕ, ◌&&◌, Bool, if◌then◌else◌, List, [], ◌∷◌, Option, Some, None}
use Rattle.std.specs.List.{list_any}
use Rattle.std.specs.Str.{bytes_eq}
use Rattle.cx_core.specs.declared.unit.CoreUnit.{CoreUnit}
use Rattle.cx_core.specs.declared.unit.Assertion.{Assertion}
use Rattle.cx_plan.specs.declared.plan.Directive.{Directive}
use Rattle.cx_plan.specs.declared.plan.Directive.TheVariants as says
use Rattle.cx_plan.specs.declared.plan.PlanLine.{PlanLine}
use Rattle.cx_plan.specs.declared.fault.PlanFault.{PlanFault}
use Rattle.cx_plan.specs.declared.fault.PlanFault.TheVariants.{UnknownAssertion, UnknownUnit}

abbrev pub is_named : List ℕ → CoreUnit → Bool
is_named name unit = bytes_eq unit.name name

abbrev pub has_assertion : List ℕ → CoreUnit → Bool
has_assertion assertion unit = list_any (λ (a : Assertion). bytes_eq a.name assertion) unit.assertions

abbrev pub has_unit : List CoreUnit → List ℕ → Bool
has_unit units name = list_any (is_named name) units

-- a unit of the name has the assertion
abbrev pub has_pair : List CoreUnit → List ℕ → List ℕ → Bool
has_pair units name assertion = list_any (λ unit. is_named name unit && has_assertion assertion unit) units

abbrev pub directive_fault : List CoreUnit → ℕ → Directive → Option PlanFault
directive_fault units number (says.Unit name choice) = if has_unit units name then None else Some (UnknownUnit number)
directive_fault units number (says.At name assertion semantic) =
    if has_unit units name then (if has_pair units name assertion then None else Some (UnknownAssertion number)) else Some (UnknownUnit number)

abbrev pub first_of : Option PlanFault → Option PlanFault → Option PlanFault
first_of None later = later
first_of (Some fault) later = Some fault

-- the first line that names what isn't there
abbrev pub names_fault : List CoreUnit → List PlanLine → Option PlanFault
names_fault units [] = None
names_fault units (line ∷ lines) = first_of (directive_fault units line.number line.says) (names_fault units lines)

-- the same of the lines on the assertions of one unit alone
abbrev pub own_fault : CoreUnit → ℕ → Directive → Option PlanFault
own_fault unit number (says.Unit name choice) = None
own_fault unit number (says.At name assertion semantic) =
    if is_named name unit then (if has_assertion assertion unit then None else Some (UnknownAssertion number)) else None

abbrev pub own_names_fault : CoreUnit → List PlanLine → Option PlanFault
own_names_fault unit [] = None
own_names_fault unit (line ∷ lines) = first_of (own_fault unit line.number line.says) (own_names_fault unit lines)
