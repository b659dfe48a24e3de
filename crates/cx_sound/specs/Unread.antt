-- Images whose runs don't depend on the input, as none of their instructions reads it; this project's own.
use Rattle.std.specs.Prelude.{◌≡◌, ◌≢◌, ℕ, List, Some}
use Rattle.std.specs.List.{All}
use Rattle.cx_code.specs.declared.code.Instruction.{Instruction}
use Rattle.cx_code.specs.declared.image.Function.{Function}
use Rattle.cx_code.specs.declared.image.Image.{Image}
use Rattle.cx_code.specs.declared.operation.Operation.TheVariants as does
use Rattle.cx_code.specs.Operation.{operation_of}
use Rattle.cx_code.specs.Run.{machine}

abbrev pub ReadsNo : Instruction → Type 0
ReadsNo instruction = operation_of instruction ≢ Some does.In

pub record ReadsNothing (image : Image) : Type 0 where
  pub each : All (λ (f : Function). All ReadsNo f.code) image.functions

abbrev pub UnreadInputMakesNoDifference : Type 0
UnreadInputMakesNoDifference = (image : Image) → ReadsNothing image → (a b : List ℕ) (n : ℕ) → machine image a n ≡ machine image b n
