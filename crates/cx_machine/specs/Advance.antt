-- This defines what one step of a run leaves in the journal, in what is kept of the output, and on the output of violations; it is this project's own.
use Rattle.std.specs.Prelude.{◌≡◌, ◌≢◌, ℕ, List, [], ◌++◌, Option, Some, None, ⊤}
use Rattle.std.specs.Option.{option_to_list}
use Rattle.std.specs.Io.KnownBytes.{Appends}
use Rattle.cx_outside.specs.Stream.{TakesFront}
use Rattle.cx_code.specs.declared.image.Image.{Image}
use Rattle.cx_code.specs.declared.run.Cause.{Cause}
use Rattle.cx_code.specs.declared.run.Cause.TheVariants as causes
use Rattle.cx_code.specs.declared.run.Ending.{Ending}
use Rattle.cx_code.specs.declared.run.Ending.TheVariants.{Stopped}
use Rattle.cx_code.specs.declared.run.Event.{Event}
use Rattle.cx_code.specs.State.{State}
use Rattle.cx_code.specs.Act.{Step, Goes, Ends}
use Rattle.cx_code.specs.Run.{step, machine}
use Rattle.cx_code.specs.Output.{written_out}
use Rattle.cx_frame.specs.Made.{IsOwn}
use Rattle.cx_machine.specs.declared.report.Report.{Report}
use Rattle.cx_machine.specs.Outcome.{IsBegun, lines_of}

abbrev pub event_of : Step → Option Event
event_of (Goes s event) = event
event_of (Ends ending event) = event

abbrev pub appended_by : Step → List Event
appended_by step = option_to_list (event_of step)

abbrev pub step_to : Option Ending → State → Option Event → Step
step_to None s event = Goes s event
step_to (Some ending) s event = Ends ending event

abbrev pub IsOwnEnding : Option Ending → Type 0
IsOwnEnding None = ⊤
IsOwnEnding (Some ending) = IsOwn ending

-- the step from a state, with its event in the journal, its byte in the output and the default handler's line written
pub record IsAdvance (image : Image) (s s' : State) (ending : Option Ending) (before now : Report) (taken takes : Option (List ℕ)) : Type 0 where
  pub made : step image s ≡ step_to ending s' (event_of (step image s))
  pub journal : now.journal ≡ before.journal ++ appended_by (step image s)
  pub output : now.out ≡ before.out ++ written_out (appended_by (step image s))
  pub lines : Appends taken takes (lines_of image (appended_by (step image s)))
  pub own : IsOwnEnding ending

-- a run stops between its steps for want of memory, or where the output of violations failed
abbrev pub IsRunCause : Cause → Type 0 → Type 0
IsRunCause causes.NoMemory err_rose = ⊤
IsRunCause causes.Read err_rose = ⊥
IsRunCause causes.Out err_rose = ⊥
IsRunCause causes.Err err_rose = err_rose

-- what was taken of lines whose write stopped the run: nothing for want of memory, and otherwise a front of them
abbrev pub TakesSome : Cause → Option (List ℕ) → Option (List ℕ) → List ℕ → Type 0
TakesSome causes.NoMemory taken takes lines = Appends taken takes []
TakesSome causes.Read taken takes lines = TakesFront taken takes lines
TakesSome causes.Out taken takes lines = TakesFront taken takes lines
TakesSome causes.Err taken takes lines = TakesFront taken takes lines

-- a step that was begun and stopped the run: the journal is without or with what the step appends, and only then some of its lines were taken
pub data IsCut (image : Image) (cause : Cause) (appended before now : List Event) (taken takes : Option (List ℕ)) : Type 0 where
  without_event : now ≡ before → Appends taken takes [] → IsCut image cause appended before now taken takes
  with_event : now ≡ before ++ appended → TakesSome cause taken takes (lines_of image appended) → IsCut image cause appended before now taken takes

pub record HasStopped (image : Image) (bytes : List ℕ) (cause : Cause) (steps : ℕ) (report : Report) (taken takes : Option (List ℕ)) (err_rose : Type 0) : Type 0 where
  pub has_cause : IsRunCause cause err_rose
  pub begun : (machine image bytes steps).steps ≡ steps
  pub journal : IsBegun image bytes steps report.journal
  pub lines : TakesFront taken takes (lines_of image report.journal)

pub record HasRun (image : Image) (bytes : List ℕ) (limit : ℕ) (ending : Ending) (steps : ℕ) (report : Report) (taken takes : Option (List ℕ)) : Type 0 where
  pub runs : record { journal = report.journal; ending = ending; steps = steps } ≡ machine image bytes limit
  pub again : record { journal = report.journal; ending = ending; steps = steps } ≡ machine image bytes steps
  pub output : report.out ≡ written_out report.journal
  pub lines : Appends taken takes (lines_of image report.journal)

-- what a run has come to
abbrev pub HasCome : Ending → Image → List ℕ → ℕ → ℕ → Report → Option (List ℕ) → Option (List ℕ) → Type 0 → Type 0
HasCome (Stopped cause) image bytes limit steps report taken takes err_rose = HasStopped image bytes cause steps report taken takes err_rose
HasCome ending image bytes limit steps report taken takes err_rose = HasRun image bytes limit ending steps report taken takes

-- the run wasn't stopped
abbrev pub IsGoing : Ending → Type 0
IsGoing (Stopped cause) = ⊥
IsGoing ending = ⊤

-- how a run ends that has ended so, after its output was written; where a write of it failed a front of the bytes was taken
pub data HasWritten (ending now : Ending) (bytes : List ℕ) (taken takes : Option (List ℕ)) (out_rose : Type 0) : Type 0 where
  stopped : (cause : Cause) → ending ≡ Stopped cause → now ≡ Stopped cause → Appends taken takes [] → HasWritten ending now bytes taken takes out_rose
  wrote : IsGoing ending → now ≡ ending → Appends taken takes bytes → HasWritten ending now bytes taken takes out_rose
  unwritten : IsGoing ending → now ≡ Stopped causes.NoMemory → Appends taken takes [] → HasWritten ending now bytes taken takes out_rose
  failed : IsGoing ending → now ≡ Stopped causes.Out → bytes ≢ [] → TakesFront taken takes bytes → out_rose → HasWritten ending now bytes taken takes out_rose
