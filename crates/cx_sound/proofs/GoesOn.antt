-- A step from a sound state that goes on comes to a sound state.
use Rattle.std.proofs.Common.{◌≡◌, Some, refl}
use Rattle.std.proofs.lemmas.List.Elements.{All-head, All-tail}
use Rattle.cx_code.specs.declared.image.Image.{Image}
use Rattle.cx_code.specs.State.{State, Control, Runs, Unwinds}
use Rattle.cx_code.specs.Run.{step, controlled, acted, operation_now}
use Rattle.cx_code.specs.Rules.{IsValid}
use Rattle.cx_sound.specs.Sound.{IsSound, IsReady, ArePending, GoesBy}
use Rattle.cx_sound.specs.Laws.{GoesOn}
use Rattle.cx_sound.proofs.Places.{function_valid, is_within, instructed}
use Rattle.cx_sound.proofs.Steps.{EachGoes, goes_to}
use Rattle.cx_sound.proofs.Acts.{acts}
use Rattle.cx_sound.proofs.Unwinds.{unwound_goes}

ready_goes : (image : Image) (s : State) → IsValid image → IsSound image s → s.control ≡ Runs → IsReady image s.frame → EachGoes (IsSound image) (acted image s (operation_now image s))
ready_goes image s valid sound runs ready =
    let its = ready.stands.its_function in
    let there = instructed image ready.function s.frame.function s.frame.place valid its (is_within (function_valid image s.frame.function ready.function valid its) ready.stands.is_reached) in
    let now : operation_now image s ≡ Some there.operation = rw its there.now in
    rw now (acts valid there.operation s (record {
      runs = runs;
      stands = ready.stands;
      now = there.now;
      indices = there.indices;
      arguments = there.arguments;
      dropper = there.dropper;
      waits = ready.pending;
      below = sound.below;
      held = sound.held;
      pending = All-head (ArePending image s.thrown) s.frame s.below sound.pending;
      pending_below = All-tail (ArePending image s.thrown) s.frame s.below sound.pending;
      violations = sound.violations;
    }))

controlled_goes : (image : Image) (s : State) (control : Control) → IsValid image → IsSound image s → s.control ≡ control → GoesBy image s control → EachGoes (IsSound image) (controlled image s control)
controlled_goes image s Runs valid sound is ready = ready_goes image s valid sound is ready
controlled_goes image s (Unwinds exception after) valid sound is (taken, is_thrown) = unwound_goes valid s exception sound taken is_thrown after

pub goes_on : GoesOn
unfolding step
goes_on image s s' event valid sound e = goes_to (IsSound image) (controlled image s s.control) s' event (controlled_goes image s s.control valid sound refl sound.last) e
