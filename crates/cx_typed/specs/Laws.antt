-- What the laws of this crate say of programs of `main` alone whose statements are built; this project's own.
use Rattle.std.specs.Prelude.{◌≡◌, [], List, None}
use Rattle.cx_code.specs.declared.image.Image.{Image}
use Rattle.cx_core.specs.declared.unit.CoreUnit.{CoreUnit}
use Rattle.cx_core.specs.declared.unit.Assertion.{Assertion}
use Rattle.cx_core.specs.declared.statement.Statement.{Statement}
use Rattle.cx_core.specs.Words.{Semantic}
use Rattle.cx_core.specs.View.{stmts_of}
use Rattle.cx_core.specs.Tree.{Check, Stmts}
use Rattle.cx_core.specs.Program.{Program}
use Rattle.cx_core.specs.Runs.{IsFaithful}
use Rattle.cx_simulation.specs.ImageMachine.{image_run}
use Rattle.cx_simulation.specs.Parts.{IsWellMade}
use Rattle.cx_emit.specs.Units.{IsMain, StandsMain}
use Rattle.cx_typed.specs.Typed.{AreTyped, AreTypedIn}
use Rattle.cx_typed.specs.Unit.{program_of, body_of, IsMainAlone}

abbrev pub TypedProgramsAreWellMade : Type 0
TypedProgramsAreWellMade =
    (program : Program) (assertions : List Assertion) (b : Stmts Check) → IsMain program b → program.handler ≡ None → program.globals ≡ [] → AreTyped assertions [] b → IsWellMade program

-- with the default violation handler and without globals
abbrev pub UnitsOfMainHaveItsProgram : Type 0
UnitsOfMainHaveItsProgram =
    (semantic : Semantic) (unit : CoreUnit) (statements : List Statement) → IsMainAlone unit statements
    → IsMain (program_of semantic unit) (body_of semantic unit statements) × ((program_of semantic unit).handler ≡ None) × ((program_of semantic unit).globals ≡ [])

-- an image without a handler and globals of its own that stands for the body of such a unit has only runs that the unit's program permits
abbrev pub ImagesOfTypedUnitsAreFaithful : Type 0
ImagesOfTypedUnitsAreFaithful =
    (image : Image) (semantic : Semantic) (unit : CoreUnit) (statements : List Statement) → IsMainAlone unit statements → AreTypedIn unit.assertions [] (stmts_of statements)
    → image.handler ≡ 0 → image.globals ≡ [] → StandsMain image (body_of semantic unit statements) → IsFaithful (image_run image) (program_of semantic unit)
