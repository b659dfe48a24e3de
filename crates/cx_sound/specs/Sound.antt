-- This defines the sound states of the machine on an image, in which no step lacks an operand, an index, a place in the code or a pending exception; they are this project's own.
use Rattle.std.specs.Prelude.{◌≡◌, ◌≢◌, ℕ, ◌+◌, ◌<◌, ◌≤◌, List, [], ◌∷◌, length, Some, IfSome, slice_get}
use Rattle.std.specs.List.{All}
use Rattle.cx_code.specs.declared.image.Image.{Image}
use Rattle.cx_code.specs.declared.image.Function.{Function}
use Rattle.cx_code.specs.declared.image.TypeEntry.{TypeEntry}
use Rattle.cx_code.specs.declared.operation.Operation.{Operation}
use Rattle.cx_code.specs.declared.operation.Operation.TheVariants as does
use Rattle.cx_code.specs.State.{State, Frame, Exception, Violated, Control, Runs, Unwinds}
use Rattle.cx_code.specs.Reached.{Origin, Cleanup, IsReached, operation_at, taken_count}

-- ---- frames

-- the frame's place is reached from there with so many operands, and it has its function's slots
pub record Stands (image : Image) (frame : Frame) (function : Function) (origin : Origin) (depth : ℕ) : Type 0 where
  pub its_function : slice_get image.functions frame.function ≡ Some function
  pub is_reached : IsReached image function origin frame.place depth
  pub its_slots : length frame.slots ≡ function.slots

-- where the place is reached from a Cleanup region's target, the exception that was unwound there is pending
abbrev pub HasPending : Origin → Frame → Type 0
HasPending origin frame = origin ≡ Cleanup → frame.pending ≢ []

-- the frame is at an instruction that it hasn't begun
pub record IsReady (image : Image) (frame : Frame) : Type 0 where
  pub function : Function
  pub origin : Origin
  pub stands : Stands image frame function origin (length frame.operands)
  pub pending : HasPending origin frame

-- the frame is at an instruction that has taken its operands
pub record HasTaken (image : Image) (frame : Frame) : Type 0 where
  pub function : Function
  pub origin : Origin
  pub operation : Operation
  pub now : operation_at function.code frame.place ≡ Some operation
  pub stands : Stands image frame function origin (length frame.operands + taken_count function operation)

abbrev pub IsDropper : Image → ℕ → Type 0
IsDropper image index = (of : ℕ) × (entry : TypeEntry) × (slice_get image.types of ≡ Some entry) × (entry.dropper ≡ index + 1)

-- the instruction calls the function of this index
abbrev pub Calls : Image → Operation → ℕ → Type 0
Calls image (does.Call function count) index = function ≡ index
Calls image (does.Violate assertion mode semantic) index = image.handler ≡ index + 1
Calls image does.Release index = IsDropper image index
Calls image operation index = ⊥

-- the frame is at a call that hasn't ended
pub record IsWaiting (image : Image) (callee : ℕ) (frame : Frame) : Type 0 where
  pub taken : HasTaken image frame
  pub calls : Calls image taken.operation callee
  pub pending : HasPending taken.origin frame

-- the frames below one of this function: each waits for the one above it, and the first one is main's
abbrev pub IsStack : Image → ℕ → List Frame → Type 0
IsStack image callee [] = callee ≡ image.main
IsStack image callee (frame ∷ below) = IsWaiting image callee frame × IsStack image frame.function below

-- ---- exceptions and violations

-- it is one of so many exceptions that were thrown, and has a dropper
pub record IsThrown (image : Image) (thrown : ℕ) (exception : Exception) : Type 0 where
  pub number : exception.number < thrown
  pub of : exception.of < length image.types
  pub dropper : IfSome (slice_get image.types exception.of) (λ (entry : TypeEntry). 1 ≤ entry.dropper)

abbrev pub ArePending : Image → ℕ → Frame → Type 0
ArePending image thrown frame = All (IsThrown image thrown) frame.pending

-- ---- states

-- the last frame is ready, or an exception is unwound at its place
abbrev pub GoesBy : Image → State → Control → Type 0
GoesBy image s Runs = IsReady image s.frame
GoesBy image s (Unwinds exception after) = HasTaken image s.frame × IsThrown image s.thrown exception

pub record IsSound (image : Image) (s : State) : Type 0 where
  pub last : GoesBy image s s.control
  pub below : IsStack image s.frame.function s.below
  pub held : All (IsThrown image s.thrown) s.held
  pub pending : All (ArePending image s.thrown) (s.frame ∷ s.below)
  pub violations : All (λ (violated : Violated). violated.assertion < length image.assertions) s.violations
