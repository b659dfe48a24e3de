-- This defines which state of the machine's definition a machine is; it is this project's own.
use Rattle.std.specs.Prelude.{◌≡◌, ℕ, ◌+◌, ◌≤◌, List, Option, Some, None, count_by, if◌then◌else◌, slice_get}
use Rattle.cx_code.specs.declared.image.Image.{Image}
use Rattle.cx_code.specs.Store.{Store}
use Rattle.cx_code.specs.State.{State}
use Rattle.cx_code.specs.State as states
use Rattle.cx_code.specs.Act.{counts}
use Rattle.cx_frame.specs.Frames.{frame_in}
use Rattle.cx_machine.specs.declared.state.Machine.{Machine}
use Rattle.cx_machine.specs.Kept.{counts_in, counts_due}

abbrev pub control_of : Option states.Exception → Option ℕ → states.Control
control_of None after = states.Runs
control_of (Some exception) after = states.Unwinds exception after

-- the state of the machine and its memory
abbrev pub state_of : Machine → Store → State
state_of machine store = record {
  store = store;
  frame = frame_in machine.frame;
  below = machine.below;
  held = machine.held;
  violations = machine.violations;
  thrown = machine.thrown;
  input = machine.input;
  control = control_of machine.unwinding machine.after;
}

-- how many of the frames count for the depth, by the function of the last one and those below it
abbrev pub counted_of : Image → ℕ → List states.Frame → ℕ
counted_of image function below =
    (if counts (slice_get image.functions function) then 1 else 0) + count_by (λ (frame : states.Frame). counts (slice_get image.functions frame.function)) below

-- the machine knows how many of its frames count
abbrev pub IsCounted : Image → Machine → Type 0
IsCounted image machine = machine.counted ≡ counted_of image machine.frame.function machine.below

-- the machine knows how often each exception is held or pending
abbrev pub IsTold : Machine → Type 0
IsTold machine = counts_in machine.kept ≡ counts_due machine.held machine.frame.pending machine.below

-- what a step keeps beside the state: the count of frames, and the counts of what is held or pending; and it throws at most once
pub record Keeps (image : Image) (old new : Machine) : Type 0 where
  pub counted : IsCounted image old → IsCounted image new
  pub told : IsTold old → IsTold new
  pub thrown : new.thrown ≤ old.thrown + 1
