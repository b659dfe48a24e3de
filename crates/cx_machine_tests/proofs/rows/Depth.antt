-- Calls above many frames, which stand in no run here, but in a state that is made of them.
use Rattle.std.proofs.Common.{◌≡◌, ℕ, Bool, true, false, [], ◌∷◌, None, replicate, refl}
use Rattle.cx_code.specs.declared.image.Image.{Image}
use Rattle.cx_code.specs.declared.run.Ending.TheVariants as endings
use Rattle.cx_code.specs.Operation.{operation_of}
use Rattle.cx_code.specs.Store.{nothing_made}
use Rattle.cx_code.specs.State.{State, Frame, Runs}
use Rattle.cx_code.specs.Act.{Step, Goes, Ends}
use Rattle.cx_code.specs.Run.{step}
use Rattle.cx_machine_tests.specs.Named.{call, called, dropper, image_of, ret}

-- main calls function 2, or at place 1 function 3, which doesn't count
image : Image
image = image_of
    (called 0 0 true (call 2 0 ∷ call 3 0 ∷ []) []
    ∷ dropper
    ∷ called 0 0 false (ret ∷ []) []
    ∷ record (called 0 0 false (ret ∷ []) []) { counted = false }
    ∷ [])
    0 2

at : ℕ → ℕ → Frame
at function place = record { function = function; place = place; operands = []; slots = []; pending = [] }

-- main at a place, above so many frames of a function
above : ℕ → ℕ → ℕ → State
above place count function = record {
  store = nothing_made;
  frame = at 0 place;
  below = replicate count (at function 0);
  held = [];
  violations = [];
  thrown = 0;
  input = [];
  control = Runs;
}

goes : Step → Bool
goes (Goes s event) = true
goes (Ends ending event) = false

a_call_above_4096_frames_is_too_deep : step image (above 0 4095 2) ≡ Ends endings.TooDeep None
unfolding image at above step operation_of
a_call_above_4096_frames_is_too_deep = refl

a_call_above_4095_frames_goes_on : goes (step image (above 0 4094 2)) ≡ true
unfolding image at above goes step operation_of
a_call_above_4095_frames_goes_on = refl

a_call_of_a_function_that_does_not_count_goes_on : goes (step image (above 1 4095 2)) ≡ true
unfolding image at above goes step operation_of
a_call_of_a_function_that_does_not_count_goes_on = refl

frames_that_do_not_count_are_not_counted : goes (step image (above 0 5000 3)) ≡ true
unfolding image at above goes step operation_of
frames_that_do_not_count_are_not_counted = refl
