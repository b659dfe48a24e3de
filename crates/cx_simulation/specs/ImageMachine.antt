-- The machine of an image as a simulation sees it: its events by the names that they have in the source. This is this project's own.
use Rattle.std.specs.Prelude.{ℕ, List, [], map, Option, Some, None, slice_get}
use Rattle.std.specs.Option.{option_map}
use Rattle.cx_code.specs.declared.image.Image.{Image}
use Rattle.cx_code.specs.declared.image.Assertion.{Assertion}
use Rattle.cx_code.specs.declared.image.TypeEntry.{TypeEntry}
use Rattle.cx_code.specs.declared.run.Event.{Event as Noted}
use Rattle.cx_code.specs.declared.run.Event.TheVariants as notes
use Rattle.cx_code.specs.declared.run.Run.{Run}
use Rattle.cx_code.specs.State.{State}
use Rattle.cx_code.specs.Act.{Step, Goes, Ends}
use Rattle.cx_code.specs.Run.{step, machine}
use Rattle.cx_code.specs.Violation as source
use Rattle.cx_core.specs.Words.{Party, Semantic, DetectionMode, Violation, Assert}
use Rattle.cx_core.specs.Event.{Evaluation, Event, out, input, input_end, begin, verdict, handler, throw, catch, destroyed}
use Rattle.cx_core.specs.Runs.{MachineRun}
use Rattle.cx_simulation.specs.Machine.{Progress, goes, halts}

abbrev pub assertion_name : Image → Option Assertion → List ℕ
assertion_name image None = []
assertion_name image (Some assertion) = source.assertion_name image assertion

abbrev pub type_name : Option TypeEntry → List ℕ
type_name None = []
type_name (Some entry) = entry.name

-- a valid image has an assertion at each index of an event
abbrev pub violation_at : Image → Option Assertion → DetectionMode → Semantic → Violation
violation_at image None mode semantic = record { kind = Assert; semantic = semantic; mode = mode; file = []; line = 0; column = 0; assertion = []; comment = [] }
violation_at image (Some assertion) mode semantic = source.violation_of image assertion mode semantic

abbrev pub evaluation_of : Image → ℕ → Party → Semantic → Evaluation
evaluation_of image assertion party semantic = record { assertion = assertion_name image (slice_get image.assertions assertion); party = party; semantic = semantic }

-- an event of the machine by the names that it has in the source
abbrev pub named : Image → Noted → Event
named image (notes.Out byte) = out byte
named image (notes.In byte) = input byte
named image notes.InEnd = input_end
named image (notes.Begin assertion party semantic) = begin (evaluation_of image assertion party semantic)
named image (notes.Verdict v) = verdict v
named image (notes.Handler assertion mode semantic) = handler (violation_at image (slice_get image.assertions assertion) mode semantic)
named image (notes.Throw of) = throw (type_name (slice_get image.types of))
named image (notes.Catch of) = catch (type_name (slice_get image.types of))
named image (notes.Destroyed class object leaf) = destroyed (type_name (slice_get image.types class)) object leaf

abbrev pub progress : Image → Step → Progress State
progress image (Goes s event) = goes s (option_map (named image) event)
progress image (Ends ending event) = halts ending (option_map (named image) event)

-- a step of the machine
abbrev pub image_step : Image → State → Progress State
image_step image s = progress image (step image s)

abbrev pub named_run : Image → Run → MachineRun
named_run image run = record { journal = map (named image) run.journal; ending = run.ending; steps = run.steps }

-- the machine's run of the image on an input, within a limit of steps
abbrev pub image_run : Image → List ℕ → ℕ → MachineRun
image_run image bytes limit = named_run image (machine image bytes limit)
