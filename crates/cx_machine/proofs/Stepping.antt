-- A step of the machine's definition is that of the instruction that is due, or a move of the exception that is unwound.
use Rattle.std.proofs.Common.{◌≡◌, ℕ, ◌<◌, length, Option, Some, refl}
use Rattle.std.proofs.lemmas.Option.{slice_get_within}
use Rattle.cx_code.specs.declared.image.Image.{Image}
use Rattle.cx_code.specs.declared.operation.Operation.{Operation}
use Rattle.cx_code.specs.State.{State, Exception, Runs, Unwinds}
use Rattle.cx_code.specs.Act.{act}
use Rattle.cx_code.specs.Unwind.{unwound}
use Rattle.cx_code.specs.Run.{step, operation_now}
use Rattle.cx_code.specs.Rules.{IsValid}
use Rattle.cx_sound.specs.Sound.{IsSound}
use Rattle.cx_sound.specs.Laws.{EachInstructionHasWhatItTakes, EachMoveHasItsRegions}
use Rattle.cx_machine.specs.Due.{IsDue}

pub acts : (image : Image) (s : State) (operation : Operation) → s.control ≡ Runs → operation_now image s ≡ Some operation → step image s ≡ act image operation s
unfolding step
acts image s operation runs now = rw (runs, now) refl

pub unwinds : (image : Image) (s : State) (exception : Exception) (after : Option ℕ) → s.control ≡ Unwinds exception after → step image s ≡ unwound image s exception after
unfolding step
unwinds image s exception after is = rw is refl

pub is_due : (image : Image) (s : State) (operation : Operation) → EachInstructionHasWhatItTakes → IsValid image → IsSound image s → s.control ≡ Runs → operation_now image s ≡ Some operation → IsDue image operation s
is_due image s operation law valid sound runs now =
    let takes = law image s valid sound runs in
    let same : Some takes.operation ≡ Some operation = cc (takes.now, now) in
    record { valid = valid; sound = sound; takes = takes; is = cc same }

pub unwinds_within : (image : Image) (s : State) (exception : Exception) (after : Option ℕ) → EachMoveHasItsRegions → IsValid image → IsSound image s → s.control ≡ Unwinds exception after
    → s.frame.function < length image.functions
unwinds_within image s exception after law valid sound is =
    let has = (law image s exception after valid sound is).0 in
    slice_get_within image.functions s.frame.function has.function has.its_function
