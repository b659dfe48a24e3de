-- What is said of typed programs: they never come to undefined behaviour that no well made program has, and the functions of typed units are typed in the program that they are linked into; this project's own.
use Rattle.std.specs.Prelude.{◌≡◌, ◌≢◌, ℕ, ℤ, true, List, Some, map}
use Rattle.cx_core.specs.declared.number.IntegerType.TheVariants as types
use Rattle.cx_core.specs.Words.{Mixed, Undefined, Returned}
use Rattle.cx_core.specs.Number.{in_range}
use Rattle.cx_core.specs.Event.{Evaluation, ended}
use Rattle.cx_core.specs.Tree.{Check}
use Rattle.cx_core.specs.Program.{Body, Class, Program}
use Rattle.cx_core.specs.Unit.{UnitFunction, TranslationUnit}
use Rattle.cx_core.specs.Renamed.{Names, renamed_specifier}
use Rattle.cx_core.specs.Renamed as core
use Rattle.cx_core.specs.Numbers.{Planned, Numbers}
use Rattle.cx_core.specs.Linked.{linked_with}
use Rattle.cx_core.specs.Meaning.{mean}
use Rattle.cx_core.specs.Runs.{AreBytes}
use Rattle.cx_soundness.specs.Types.{Signature, Declared}
use Rattle.cx_soundness.specs.Statements.{is_placed_check}
use Rattle.cx_soundness.specs.Programs.{are_checks_typed, is_function_typed, is_typed_program}
use Rattle.cx_soundness.specs.Linking.{ByName, declared_by, are_typed_units, is_linked_typed}
use Rattle.cx_soundness.specs.Units.{class_or_none, is_placed_at, is_unit_function_typed, renamed_signature, renamed_checks, renamed_function, Agrees, DefaultsStay}

abbrev pub NeverMixed : Program → Type 0
NeverMixed program = (begins : List Evaluation) (input : List ℕ) (budget : ℕ) → AreBytes input → (mean program begins input budget).answer ≢ ended (Undefined Mixed)

abbrev pub ReturnsInt : Program → Type 0
ReturnsInt program =
    (begins : List Evaluation) (input : List ℕ) (budget : ℕ) (n : ℤ) → AreBytes input → (mean program begins input budget).answer ≡ ended (Returned n) → in_range types.Int n ≡ true

abbrev pub TypedProgramsAreWellMade : Type 0
TypedProgramsAreWellMade = (declared : Declared) (program : Program) → is_typed_program declared program ≡ true → NeverMixed program × ReturnsInt program

-- under the program's numbers, and with what stands for the unit's assertions, a definition that is typed in its unit is typed in a program whose declarations agree
abbrev pub DefinitionsStayTyped : Type 0
DefinitionsStayTyped =
    (names : Names) (unit program : Declared) (u : TranslationUnit) (classes : List Class) (check : ℕ → Check)
    → Agrees names unit program
    → DefaultsStay names unit program (map class_or_none u.classes) classes
    → ((a : ℕ) → is_placed_check (check a) ≡ is_placed_at unit u a)
    → (signature : Signature) (f : UnitFunction) (b : Body ℕ) (definer : ℕ)
    → f.body ≡ Some b
    → is_unit_function_typed unit u (Some signature) f ≡ true
    → is_function_typed program classes (renamed_signature names signature) (renamed_function names definer check f b) ≡ true

-- and so are the checks that a unit makes as Caller of a function, whether it defines it or not
abbrev pub ChecksStayTyped : Type 0
ChecksStayTyped =
    (names : Names) (unit program : Declared) (u : TranslationUnit) (check : ℕ → Check)
    → Agrees names unit program
    → ((a : ℕ) → is_placed_check (check a) ≡ is_placed_at unit u a)
    → (signature : Signature) (f : UnitFunction)
    → is_unit_function_typed unit u (Some signature) f ≡ true
    → are_checks_typed program (renamed_signature names signature) (core.renamed_result names f.result) (renamed_checks names check f) ≡ true

-- whatever the plan's numbers of evaluations are
abbrev pub LinkedUnitsAreTyped : Type 0
LinkedUnitsAreTyped =
    (units : List Planned) (declared : List Declared) (named : ByName) (numbers : Numbers) → are_typed_units units named declared ≡ true → is_linked_typed units named numbers ≡ true → is_typed_program (declared_by units named) (linked_with units numbers) ≡ true

-- so the program that they are linked into is well made
abbrev pub LinkedUnitsAreWellMade : Type 0
LinkedUnitsAreWellMade =
    (units : List Planned) (declared : List Declared) (named : ByName) (numbers : Numbers) → are_typed_units units named declared ≡ true → is_linked_typed units named numbers ≡ true → NeverMixed (linked_with units numbers) × ReturnsInt (linked_with units numbers)
