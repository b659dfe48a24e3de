-- This defines when an action has made the step that the machine's definition says; it is this project's own.
use Rattle.std.specs.Prelude.{◌≡◌, ℕ, List, Option, None, ℤ, ⊤}
use Rattle.cx_code.specs.declared.run.Event.{Event}
use Rattle.cx_code.specs.declared.run.Ending.{Ending}
use Rattle.cx_code.specs.declared.run.Ending.TheVariants as endings
use Rattle.cx_code.specs.declared.run.Value.{Value}
use Rattle.cx_code.specs.State.{State}
use Rattle.cx_code.specs.Act.{Step, Goes, Ends, mixed, on_number, on_address, on_object}
use Rattle.cx_frame.specs.declared.frame.Stop.{Stop}
use Rattle.cx_frame.specs.declared.frame.Stop.TheVariants as stops

-- the step goes to this state, and appends this event
abbrev pub IsMade : Step → State → Option Event → Type 0
IsMade step state event = step ≡ Goes state event

-- the machine doesn't stop by itself, and it has started
abbrev pub IsOwn : Ending → Type 0
IsOwn (endings.Stopped cause) = ⊥
IsOwn endings.NotStarted = ⊥
IsOwn ending = ⊤

-- a step that went no further: it ended so, or memory was wanting
abbrev pub IsStop : Stop → Step → Type 0
IsStop (stops.Ended ending) step = (step ≡ Ends ending None) × IsOwn ending
IsStop stops.NoMemory step = ⊤

-- no number comes first
abbrev pub IsNoNumber : List Value → Type 0
IsNoNumber operands = (go : ℤ → List Value → Step) → on_number operands go ≡ mixed

-- no address of a leaf comes first, and so the step stops
abbrev pub IsNoAddress : List Value → Stop → Type 0
IsNoAddress operands stop = (go : ℕ → ℕ → List Value → Step) → IsStop stop (on_address operands go)

-- no address of an object comes first
abbrev pub IsNoObject : List Value → Type 0
IsNoObject operands = (go : ℕ → ℕ → List Value → Step) → on_object operands go ≡ mixed
