-- This defines the steps of the machine and its runs of an image on an input; both are this project's own.
use Rattle.std.specs.Prelude.{ℕ, zero, suc, ◌+◌, List, [], ◌++◌, Option, Some, None, slice_get}
use Rattle.std.specs.Option.{option_and_then, option_to_list}
use Rattle.cx_code.specs.declared.code.Instruction.{Instruction}
use Rattle.cx_code.specs.declared.image.Image.{Image}
use Rattle.cx_code.specs.declared.image.Function.{Function}
use Rattle.cx_code.specs.declared.operation.Operation.{Operation}
use Rattle.cx_code.specs.declared.run.Event.{Event}
use Rattle.cx_code.specs.declared.run.Ending.{Ending}
use Rattle.cx_code.specs.declared.run.Ending.TheVariants as endings
use Rattle.cx_code.specs.declared.run.Run.{Run}
use Rattle.cx_code.specs.Operation.{operation_of}
use Rattle.cx_code.specs.State.{State, Control, Runs, Unwinds, initial}
use Rattle.cx_code.specs.Act.{Step, Goes, Ends, act, mixed}
use Rattle.cx_code.specs.Unwind.{unwound}

abbrev pub code_of : Option Function → List Instruction
code_of None = []
code_of (Some function) = function.code

-- what the instruction does at the place where the last frame stands
abbrev pub operation_now : Image → State → Option Operation
operation_now image s = option_and_then operation_of (slice_get (code_of (slice_get image.functions s.frame.function)) s.frame.place)

abbrev pub acted : Image → State → Option Operation → Step
acted image s None = mixed
acted image s (Some operation) = act image operation s

abbrev pub controlled : Image → State → Control → Step
controlled image s Runs = acted image s (operation_now image s)
controlled image s (Unwinds exception after) = unwound image s exception after

-- one instruction, or one move
unfoldable pub step : Image → State → Step
step image s = controlled image s s.control

-- what was appended before, and the steps that were taken before
unfoldable pub with_front : List Event → ℕ → Run → Run
with_front appended steps run = record { journal = appended ++ run.journal; ending = run.ending; steps = steps + run.steps }

abbrev pub over : Ending → Run
over ending = record { journal = []; ending = ending; steps = 0 }

abbrev pub after : Step → (State → Run) → Run
after (Goes s event) more = with_front (option_to_list event) 1 (more s)
after (Ends ending event) more = with_front (option_to_list event) 1 (over ending)

-- at most n steps from a state
unfoldable pub run_from : Image → ℕ → State → Run
run_from image zero s = over endings.StepsSpent
run_from image (suc n) s = after (step image s) (run_from image n)

-- the run of an image on an input, of at most n steps
abbrev pub machine : Image → List ℕ → ℕ → Run
machine image input n = run_from image n (initial image input)
