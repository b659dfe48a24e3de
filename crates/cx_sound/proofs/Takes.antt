-- A sound state has what its next instruction takes.
use Rattle.std.proofs.Common.{◌≡◌, ◌≢◌, ℕ, List, [], ◌∷◌, length, Some, IsTrue, IfSome, slice_get, subst, refl, sym, ap, ◌∙◌}
use Rattle.cx_code.specs.declared.image.Image.{Image}
use Rattle.cx_code.specs.declared.image.Function.{Function}
use Rattle.cx_code.specs.declared.operation.Operation.TheVariants as does
use Rattle.cx_code.specs.State.{State, Frame}
use Rattle.cx_code.specs.Reached.{Origin, Plain, Cleanup, IsReached, operation_at}
use Rattle.cx_code.specs.Rules.{IsValid, IsValidFunction, IsEntry}
use Rattle.cx_sound.specs.Sound.{IsSound, IsReady, IsStack, GoesBy, HasPending}
use Rattle.cx_sound.specs.Laws.{HasWhatItTakes, EachInstructionHasWhatItTakes}
use Rattle.cx_sound.proofs.Places.{function_valid, is_within, instructed}

resumes_pending : (image : Image) (function : Function) (frame : Frame) (origin : Origin) (depth : ℕ) → IsValidFunction image function
    → IsReached image function origin frame.place depth → HasPending origin frame → operation_at function.code frame.place ≡ Some does.Resume → frame.pending ≢ []
resumes_pending image function frame Cleanup depth valid reached pending now = pending refl
resumes_pending image function frame Plain depth valid reached pending now =
    let (other, cleanup) = valid.has_order.resumes frame.place now in
    absurd (valid.has_order.one_origin frame.place depth other reached cleanup)

main_gives : (image : Image) (index : ℕ) (function : Function) (below : List Frame) → IsValid image → slice_get image.functions index ≡ Some function
    → IsStack image index below → below ≡ [] → IsTrue function.result
main_gives image index function [] valid its stack e =
    let entry : IfSome (Some function) IsEntry = subst (λ o. IfSome o IsEntry) (ap (slice_get image.functions) (sym stack) ∙ its) valid.main in entry.result
main_gives image index function (frame ∷ below) valid its stack e = absurd (cc)

takes : (image : Image) (s : State) → IsValid image → IsSound image s → IsReady image s.frame → HasWhatItTakes image s
takes image s valid sound ready =
    let ruled = function_valid image s.frame.function ready.function valid ready.stands.its_function in
    let within = is_within ruled ready.stands.is_reached in
    let at = instructed image ready.function s.frame.function s.frame.place valid ready.stands.its_function within in
    record {
      function = ready.function;
      operation = at.operation;
      its_function = ready.stands.its_function;
      place = within;
      now = rw ready.stands.its_function at.now;
      operands = ruled.has_depths.enough ready.origin s.frame.place (length s.frame.operands) at.operation ready.stands.is_reached at.now;
      shallow = ruled.has_depths.shallow ready.origin s.frame.place (length s.frame.operands) ready.stands.is_reached;
      slots = ready.stands.its_slots;
      indices = at.indices;
      places = at.places;
      arguments = at.arguments;
      dropper = at.dropper;
      resumes = λ e. resumes_pending image ready.function s.frame ready.origin (length s.frame.operands) ruled ready.stands.is_reached ready.pending (at.now ∙ ap Some e);
      returns = λ e. main_gives image s.frame.function ready.function s.below valid ready.stands.its_function sound.below;
    }

pub each_instruction_has_what_it_takes : EachInstructionHasWhatItTakes
each_instruction_has_what_it_takes image s valid sound runs = takes image s valid sound (subst (GoesBy image s) runs sound.last)
