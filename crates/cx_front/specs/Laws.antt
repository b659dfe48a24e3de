-- What the laws of this crate say of the units that are built; this project's own.
use Rattle.std.specs.Prelude.{◌≤◌, List, length}
use Rattle.std.specs.List.{All}
use Rattle.cx_includes.specs.declared.assembled.Assembled.{Assembled}
use Rattle.cx_includes.specs.declared.assembled.SourceFile.{SourceFile}
use Rattle.cx_core.specs.declared.unit.CoreUnit.{CoreUnit}
use Rattle.cx_core.specs.declared.statement.Statement.{Statement}
use Rattle.cx_typed.specs.Built.{IsBuilt}
use Rattle.cx_front.specs.Front.{IsUnitOf, most_tokens}

-- the unit of a list of few tokens from files with short names
abbrev pub UnitsAreBuilt : Type 0
UnitsAreBuilt =
    (list : Assembled) (unit : CoreUnit) → All (λ (file : SourceFile). length file.name ≤ 1024) list.files → length list.placed ≤ most_tokens → IsUnitOf list unit
    → (statements : List Statement) × IsBuilt unit statements
