-- A frame that is entered is ready, and a run of a valid image starts in a sound state.
use Rattle.std.proofs.Common.{◌≡◌, ℕ, ◌-◌, ◌<◌, ◌≤◌, List, [], map, length, Option, Some, None, IfSome, slice_get, replicate, subst, refl, sym, arith, inl, inr}
use Rattle.std.proofs.lemmas.List.{length-append, length-map, length-replicate}
use Rattle.std.proofs.lemmas.List.Elements.{All-nil, All-cons}
use Rattle.std.proofs.lemmas.Option.{slice_get_cases}
use Rattle.cx_code.specs.declared.image.Image.{Image}
use Rattle.cx_code.specs.declared.image.Function.{Function}
use Rattle.cx_code.specs.declared.run.Value.{Value}
use Rattle.cx_code.specs.State.{Violated, frame_of, slots_of, initial, first_frame}
use Rattle.cx_code.specs.Reached.{Plain, start}
use Rattle.cx_code.specs.Rules.{IsValid, IsEntry}
use Rattle.cx_code.specs.Storable.{IsStorableFunction}
use Rattle.cx_sound.specs.Sound.{IsReady, IsThrown, ArePending}
use Rattle.cx_sound.specs.Laws.{Starts}
use Rattle.cx_sound.proofs.Places.{at_index}

enough_slots : (slots : ℕ) (arguments : List Value) → length arguments ≤ slots → length (slots_of slots arguments) ≡ slots
enough_slots slots arguments fits =
    let none : Option Value = None in
    omega (arith, length-append (map Some arguments) (replicate (slots - length arguments) none), length-map {A = Value} {B = Option Value}, length-replicate (slots - length arguments) none)

pub entered_ready : (image : Image) (index : ℕ) (function : Function) (arguments : List Value) → IsValid image → slice_get image.functions index ≡ Some function
    → length arguments ≡ function.parameters → IsReady image (frame_of index function arguments)
entered_ready image index function arguments valid its passed =
    let storable = at_index IsStorableFunction image.functions index function valid.storable.each_function its in
    record {
      function = function;
      origin = Plain;
      stands = record {
        its_function = its;
        is_reached = start;
        its_slots = enough_slots function.slots arguments (omega (arith, passed, storable.parameters));
      };
      pending = λ e. absurd (cc e);
    }

ready_at_first : (image : Image) (function : Function) → IsValid image → slice_get image.functions image.main ≡ Some function → IsReady image (first_frame image.main (slice_get image.functions image.main))
ready_at_first image function valid its =
    let entry : IfSome (Some function) IsEntry = subst (λ o. IfSome o IsEntry) its valid.main in
    rw its (entered_ready image image.main function [] valid its (sym entry.parameters))

pending_at_first : (image : Image) (function : Function) → slice_get image.functions image.main ≡ Some function → ArePending image 0 (first_frame image.main (slice_get image.functions image.main))
pending_at_first image function its = rw its (All-nil (IsThrown image 0))

function_at_first : (image : Image) (function : Function) → slice_get image.functions image.main ≡ Some function → (first_frame image.main (slice_get image.functions image.main)).function ≡ image.main
function_at_first image function its = rw its refl

pub starts : Starts
unfolding initial
starts image input valid = elim ((slice_get_cases image.functions image.main).1) [
  | inl (function, w, its, g) ↦ record {
    last = ready_at_first image function valid its;
    below = function_at_first image function its;
    held = All-nil (IsThrown image 0);
    pending = All-cons (ArePending image 0) (first_frame image.main (slice_get image.functions image.main)) [] (pending_at_first image function its) (All-nil (ArePending image 0));
    violations = All-nil (λ (violated : Violated). violated.assertion < length image.assertions);
  }
  | inr (past, none) ↦ absurd (omega (arith, past, valid.storable.main))
]
