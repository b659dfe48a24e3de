-- Laws of the runs of a valid image: they stay in sound states, and a sound state has what its next step takes; this project's own.
use Rattle.std.specs.Prelude.{◌≡◌, ◌≢◌, ℕ, ◌<◌, ◌≤◌, List, [], length, Option, Some, IsTrue, slice_get}
use Rattle.cx_code.specs.declared.code.Region.{Region}
use Rattle.cx_code.specs.declared.image.Image.{Image}
use Rattle.cx_code.specs.declared.image.Function.{Function}
use Rattle.cx_code.specs.declared.operation.Operation.{Operation}
use Rattle.cx_code.specs.declared.operation.Operation.TheVariants as does
use Rattle.cx_code.specs.declared.run.Event.{Event}
use Rattle.cx_code.specs.State.{State, Exception, Runs, Unwinds, initial}
use Rattle.cx_code.specs.Act.{Goes}
use Rattle.cx_code.specs.Unwind.{covers}
use Rattle.cx_code.specs.Run.{step, operation_now}
use Rattle.cx_code.specs.Reached.{HasIndices, taken_count}
use Rattle.cx_code.specs.Rules.{IsValid, HasPlaces, PassesArguments, HasDropper}
use Rattle.cx_sound.specs.Sound.{IsSound, IsThrown}

-- a run starts in a sound state
abbrev pub Starts : Type 0
Starts = (image : Image) (input : List ℕ) → IsValid image → IsSound image (initial image input)

-- a step from a sound state that goes on comes to a sound state
abbrev pub GoesOn : Type 0
GoesOn = (image : Image) (s s' : State) (event : Option Event) → IsValid image → IsSound image s → step image s ≡ Goes s' event → IsSound image s'

-- what the next instruction needs is there
pub record HasWhatItTakes (image : Image) (s : State) : Type 0 where
  pub function : Function
  pub operation : Operation
  pub its_function : slice_get image.functions s.frame.function ≡ Some function
  pub place : s.frame.place < length function.code
  pub now : operation_now image s ≡ Some operation
  pub operands : taken_count function operation ≤ length s.frame.operands
  pub shallow : length s.frame.operands ≤ 4096
  pub slots : length s.frame.slots ≡ function.slots
  pub indices : HasIndices image operation
  pub places : HasPlaces function (Some operation)
  pub arguments : PassesArguments image (Some operation)
  pub dropper : HasDropper image (Some operation)
  pub resumes : operation ≡ does.Resume → s.frame.pending ≢ []
  pub returns : operation ≡ does.Return → s.below ≡ [] → IsTrue function.result

abbrev pub EachInstructionHasWhatItTakes : Type 0
EachInstructionHasWhatItTakes = (image : Image) (s : State) → IsValid image → IsSound image s → s.control ≡ Runs → HasWhatItTakes image s

-- what the next move of an exception needs is there
pub record HasRegions (image : Image) (s : State) : Type 0 where
  pub function : Function
  pub its_function : slice_get image.functions s.frame.function ≡ Some function
  pub place : s.frame.place < length function.code
  pub slots : length s.frame.slots ≡ function.slots
  pub depth : (index : ℕ) (region : Region) → slice_get function.regions index ≡ Some region → IsTrue (covers s.frame.place region) → region.depth ≤ length s.frame.operands
  pub target : (index : ℕ) (region : Region) → slice_get function.regions index ≡ Some region → region.target < length function.code

abbrev pub EachMoveHasItsRegions : Type 0
EachMoveHasItsRegions = (image : Image) (s : State) (exception : Exception) (after : Option ℕ)
    → IsValid image → IsSound image s → s.control ≡ Unwinds exception after → HasRegions image s × IsThrown image s.thrown exception
