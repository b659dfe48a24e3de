-- This defines when an instruction is due in a state of a valid image; it is this project's own.
use Rattle.std.specs.Prelude.{◌≡◌, ◌-◌, ◌<◌, ◌≤◌, ◌^◌, length, Some, IfSome, slice_get}
use Rattle.cx_code.specs.declared.image.Image.{Image}
use Rattle.cx_code.specs.declared.operation.Operation.{Operation}
use Rattle.cx_code.specs.declared.image.Function.{Function}
use Rattle.cx_code.specs.declared.image.TypeEntry.{TypeEntry}
use Rattle.cx_code.specs.State.{State, Exception}
use Rattle.cx_code.specs.Rules.{IsValid}
use Rattle.cx_sound.specs.Sound.{IsSound}
use Rattle.cx_sound.specs.Laws.{HasWhatItTakes}
use Rattle.cx_frame.specs.Stores.{IsSmall}

-- there is room for the numbers of a step's object and its exception
pub record HasRoom (s : State) : Type 0 where
  pub small : IsSmall s.store
  pub objects : s.store.next < 2 ^ 63
  pub thrown : s.thrown < 2 ^ 63

-- the operation is the next one, and what it takes is there
pub record IsDue (image : Image) (operation : Operation) (s : State) : Type 0 where
  pub valid : IsValid image
  pub sound : IsSound image s
  pub takes : HasWhatItTakes image s
  pub is : takes.operation ≡ operation

-- its type is in the table, and has a dropper, which takes an argument
pub record HasDroppers (image : Image) (exception : Exception) : Type 0 where
  pub entry : TypeEntry
  pub its_entry : slice_get image.types exception.of ≡ Some entry
  pub some : 1 ≤ entry.dropper
  pub within : entry.dropper - 1 < length image.functions
  pub slots : IfSome (slice_get image.functions (entry.dropper - 1)) (λ (dropper : Function). 1 ≤ dropper.slots)
