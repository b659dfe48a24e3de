-- This defines what is found out of an image before its first step; it is this project's own.
use Rattle.std.specs.Prelude.{◌≡◌, List, Option, Some, map}
use Rattle.cx_code.specs.declared.code.Region.{Region}
use Rattle.cx_code.specs.declared.image.Image.{Image}
use Rattle.cx_code.specs.declared.image.Function.{Function}
use Rattle.cx_code.specs.declared.operation.Operation.{Operation}
use Rattle.cx_code.specs.Operation.{operation_of}
use Rattle.cx_machine.specs.declared.loading.Routine.{Routine}
use Rattle.cx_machine.specs.declared.loading.Program.{Program}

-- what each instruction does, and the regions
pub record Meaning : Type 0 where
  pub operations : List (Option Operation)
  pub regions : List Region

abbrev pub meaning_of : Function → Meaning
meaning_of function = record { operations = map operation_of function.code; regions = function.regions }

abbrev pub known_of : Routine → Meaning
known_of routine = record { operations = map Some routine.operations.items; regions = routine.regions }

-- it is known of each function
abbrev pub IsLoaded : Image → Program → Type 0
IsLoaded image program = map known_of program.routines.items ≡ map meaning_of image.functions
