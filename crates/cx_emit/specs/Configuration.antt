-- How a state of the machine stands for a state of the meaning at a place of the code, with operands below and regions around. This is this project's own.
use Rattle.std.specs.Prelude.{◌≡◌, ℕ, ◌+◌, List, [], ◌∷◌, drop, Option, Some, if◌then◌else◌, slice_get}
use Rattle.std.specs.Option.{option_and_then}
use Rattle.cx_code.specs.declared.code.Region.{Region}
use Rattle.cx_code.specs.declared.image.Image.{Image}
use Rattle.cx_code.specs.declared.operation.Operation.{Operation}
use Rattle.cx_code.specs.declared.run.Value.{Value}
use Rattle.cx_code.specs.Operation.{operation_of}
use Rattle.cx_code.specs.State.{State, Exception, Runs, Unwinds}
use Rattle.cx_code.specs.Act.{moved}
use Rattle.cx_code.specs.Unwind.{covers, first_left, regions_of}
use Rattle.cx_code.specs.Run.{code_of}
use Rattle.cx_core.specs.Store as store
use Rattle.cx_core.specs.Outcome as source
use Rattle.cx_core.specs.Operators.{denoted}
use Rattle.cx_emit.specs.Values.{IsValue, IsStore}

-- the machine runs at a place of its last frame, with these operands there
abbrev pub running_at : State → ℕ → List Value → State
running_at m place operands = record m { frame = moved m.frame place operands; control = Runs }

-- what the instruction at a place in the code of a function does
abbrev pub operation_at : Image → ℕ → ℕ → Option Operation
operation_at image function place = option_and_then operation_of (slice_get (code_of (slice_get image.functions function)) place)

-- the instruction at a place does so, and the code goes on behind it
pub record Has (image : Image) (function place : ℕ) (operation : Operation) (behind : ℕ) : Type 0 where
  pub here : operation_at image function place ≡ Some operation
  pub next : behind ≡ place + 1

-- each slot that a name of the source denotes something by holds that
abbrev pub AreNamed : List (ℕ × store.Value) → List (Option Value) → Type 0
AreNamed variables slots = (slot : ℕ) (v : store.Value) → denoted variables slot ≡ Some v → (w : Value) × (slice_get slots slot ≡ Some (Some w)) × IsValue v w

-- the machine's last frame is one of the function, and its names, its memory and its input are those of the state of the meaning
pub record Agrees (function : ℕ) (s : source.State) (m : State) : Type 0 where
  pub in_function : m.frame.function ≡ function
  pub same_store : IsStore s.store m.store
  pub same_next : m.store.next ≡ s.next
  pub same_input : m.input ≡ s.input
  pub same_names : AreNamed s.frame.variables m.frame.slots

-- what a part of an expression leaves as it was, in the meaning and in the machine
pub record AreKept (s : source.State) (m : State) (t : source.State) (d : State) : Type 0 where
  pub same_frame : t.frame ≡ s.frame
  pub same_store : t.store ≡ s.store
  pub same_number : t.next ≡ s.next
  pub same_living : t.living ≡ s.living
  pub same_temporaries : t.temporaries ≡ s.temporaries
  pub same_held : t.held ≡ s.held
  pub same_slots : d.frame.slots ≡ m.frame.slots
  pub same_pending : d.frame.pending ≡ m.frame.pending
  pub same_below : d.below ≡ m.below
  pub same_exceptions : d.held ≡ m.held

-- from s and m the machine came to a place, with these operands
pub record IsAt (function place : ℕ) (operands : List Value) (s : source.State) (m d : State) (t : source.State) : Type 0 where
  pub machine : State
  pub is_there : d ≡ running_at machine place operands
  pub agrees : Agrees function t machine
  pub kept : AreKept s m t machine

-- from s and m the machine came to a place, with the value on top of the operands below
pub record Gives (function place : ℕ) (operands : List Value) (s : source.State) (m : State) (v : store.Value) (d : State) (t : source.State) : Type 0 where
  pub machine : State
  pub value : Value
  pub is_there : d ≡ running_at machine place (value ∷ operands)
  pub same_value : IsValue v value
  pub agrees : Agrees function t machine
  pub kept : AreKept s m t machine

-- the regions that cover a place, with their indices, the first of which is given
abbrev pub covering : List Region → ℕ → ℕ → List (ℕ × Region)
covering [] index place = []
covering (region ∷ regions) index place =
    if covers place region then ((index, region) ∷ covering regions (index + 1) place) else covering regions (index + 1) place

-- those of a function's that are still to be tried
abbrev pub still_covering : Image → ℕ → ℕ → Option ℕ → List (ℕ × Region)
still_covering image function place after =
    covering (drop (first_left after) (regions_of (slice_get image.functions function))) (first_left after) place

-- from s and m an exception flies, and these regions of the function are to be tried; the operands don't matter, as each
-- region is one of a place where none stands
pub record Flies (image : Image) (function : ℕ) (outer : List (ℕ × Region)) (s : source.State) (m : State) (e : source.Exception) (d : State) (t : source.State) : Type 0 where
  pub machine : State
  pub place : ℕ
  pub operands : List Value
  pub exception : Exception
  pub after : Option ℕ
  pub is_there : d ≡ record machine { frame = moved machine.frame place operands; control = Unwinds exception after }
  pub same_object : exception.object ≡ e.object
  pub whole : exception.leaf ≡ 0
  pub still : still_covering image function place after ≡ outer
  pub agrees : Agrees function t machine
  pub kept : AreKept s m t machine
