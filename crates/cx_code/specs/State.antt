-- This defines the states of the machine: its frames, its exceptions and its memory; they are this project's own.
use Rattle.std.specs.Prelude.{ℕ, ◌+◌, ◌-◌, ◌*◌, List, [], ◌∷◌, ◌++◌, map, length, replicate, Option, Some, None, slice_get}
use Rattle.std.specs.Int.{w64, cast_signed}
use Rattle.cx_code.specs.declared.image.Image.{Image}
use Rattle.cx_code.specs.declared.image.Function.{Function}
use Rattle.cx_code.specs.declared.image.GlobalEntry.{GlobalEntry}
use Rattle.cx_code.specs.declared.image.Initial.{Initial}
use Rattle.cx_code.specs.declared.image.Initial.TheVariants as initials
use Rattle.cx_code.specs.declared.run.Value.{Value}
use Rattle.cx_code.specs.declared.run.Value.TheVariants as values
use Rattle.cx_code.specs.declared.violation.DetectionMode.{DetectionMode}
use Rattle.cx_code.specs.declared.violation.Semantic.{Semantic}
use Rattle.cx_code.specs.Store.{Store, nothing_made, made_of}

-- an exception: which throw of the run it is, its type, and the address of its object
pub record Exception : Type 0 where
  pub number : ℕ
  pub of : ℕ
  pub object : ℕ
  pub leaf : ℕ

-- a violation that a handler can ask about
pub record Violated : Type 0 where
  pub assertion : ℕ
  pub mode : DetectionMode
  pub semantic : Semantic

-- a call of a function that hasn't ended; where it waits for another call its place is that call's
pub record Frame : Type 0 where
  pub function : ℕ
  pub place : ℕ
  -- the last one first
  pub operands : List Value
  -- one that is None is empty
  pub slots : List (Option Value)
  -- the last one first
  pub pending : List Exception

-- the last frame runs, or an exception is unwound there; then the last region that was tried, if there is one
pub data Control : Type 0 where
  Runs : Control
  Unwinds : (exception : Exception) (after : Option ℕ) → Control

pub record State : Type 0 where
  pub store : Store
  -- the last frame, and those below it, the next one first
  pub frame : Frame
  pub below : List Frame
  -- the innermost one first
  pub held : List Exception
  -- in the order in which they were made
  pub violations : List Violated
  -- how many exceptions were thrown
  pub thrown : ℕ
  -- what is left of it
  pub input : List ℕ
  pub control : Control

-- the arguments, and then empty slots
abbrev pub slots_of : ℕ → List Value → List (Option Value)
slots_of count arguments = map Some arguments ++ replicate (count - length arguments) None

abbrev pub frame_of : ℕ → Function → List Value → Frame
frame_of index function arguments =
    record { function = index; place = 0; operands = []; slots = slots_of function.slots arguments; pending = [] }

-- ---- the start

abbrev pub initial_value : Initial → Value
initial_value (initials.Number high low) = values.Number (cast_signed w64 (high * 0x1_0000_0000 + low))
initial_value initials.Null = values.Null

-- the globals are made in their order
abbrev pub with_globals : Store → List GlobalEntry → Store
with_globals store [] = store
with_globals store (global ∷ globals) = with_globals (made_of store (Some (initial_value global.initial) ∷ [])) globals

abbrev pub first_frame : ℕ → Option Function → Frame
first_frame index None = record { function = index; place = 0; operands = []; slots = []; pending = [] }
first_frame index (Some function) = frame_of index function []

-- the globals are made, and the first function is called
unfoldable pub initial : Image → List ℕ → State
initial image input = record {
  store = with_globals nothing_made image.globals;
  frame = first_frame image.main (slice_get image.functions image.main);
  below = [];
  held = [];
  violations = [];
  thrown = 0;
  input = input;
  control = Runs;
}
