-- What the machine's run of an image without a handler, which reads nothing, leaves.
use Rattle.std.proofs.Common.{◌≡◌, ℕ, ◌-◌, List, [], Some, inl, inr, sym, ap, subst, ◌∙◌, arith}
use Rattle.std.specs.Prelude.{◌==◌, if◌then◌else◌, take}
use Rattle.std.proofs.lemmas.List.{append-nil}
use Rattle.std.specs.Io.KnownBytes.{Appends}
use Rattle.cx_outside.specs.Stream.{TakesFront}
use Rattle.cx_code.specs.declared.image.Image.{Image}
use Rattle.cx_code.specs.declared.run.Event.{Event}
use Rattle.cx_code.specs.declared.run.Ending.{Ending}
use Rattle.cx_code.specs.declared.run.Ending.TheVariants.{Stopped}
use Rattle.cx_code.specs.declared.run.Cause.{Cause}
use Rattle.cx_code.specs.declared.run.Cause.TheVariants as causes
use Rattle.cx_code.specs.declared.run.Run.{Run}
use Rattle.cx_code.specs.Run.{machine}
use Rattle.cx_code.specs.Violation.{written}
use Rattle.cx_machine.specs.Outcome.{Object, object, lines_of, IsBegun, HasDoneAll}
use Rattle.cx_machine.specs.Outcome as machines
use Rattle.cx_tool.specs.Seen.{TakesThen, TakesBoth}
use Rattle.cx_tool.specs.Report.{StopHasCause, IsStoppedRun, IsEndedRun, IsRunTo}

-- an input with no byte, of which no call fails
abbrev pub nothing : Object
nothing = object (Some []) (Some []) 0 0

-- a run on one input is the run on each
abbrev pub AlikeOnAll : Image → Type 0
AlikeOnAll image = (a b : List ℕ) (n : ℕ) → machine image a n ≡ machine image b n

-- the default handler's lines
default_lines : (image : Image) (journal : List Event) → image.handler ≡ 0 → lines_of image journal ≡ written image journal
default_lines image journal default = ap (λ (index : ℕ). if index == 0 then written image journal else []) default

-- lines that were taken, and nothing behind them
lines_alone : (image : Image) (journal : List Event) (err : Object) → image.handler ≡ 0 → Appends err.old err.new (lines_of image journal) → TakesThen err (written image journal) []
lines_alone image journal err default h =
    (0, subst (Appends err.old err.new) (default_lines image journal default ∙ sym (append-nil (written image journal))) h)

front_alone : (image : Image) (journal : List Event) (err : Object) → image.handler ≡ 0 → TakesFront err.old err.new (lines_of image journal) → TakesBoth err (written image journal) []
front_alone image journal err default h =
    (h.0, (0, subst (Appends err.old err.new) (ap (take h.0) (default_lines image journal default) ∙ sym (append-nil (take h.0 (written image journal)))) h.1))

is_ended : (image : Image) (limit : ℕ) (run : Run) (out err : Object) → AlikeOnAll image → image.handler ≡ 0 → machines.IsWhole image limit run nothing out err → IsEndedRun image limit run out err []
is_ended image limit run out err alike default h = record {
  runs = λ input. h.runs.2 ∙ alike h.runs.0 input limit;
  output = h.output;
  lines = lines_alone image run.journal err default h.lines;
}

has_cause : (cause : Cause) (out err : Object) → machines.StopHasCause cause nothing out err → StopHasCause cause out err
has_cause causes.NoMemory out err h = tt
has_cause causes.Read out err h = omega (arith, h)
has_cause causes.Out out err h = h
has_cause causes.Err out err h = h

is_stopped : (image : Image) (limit : ℕ) (run : Run) (cause : Cause) (out err : Object) → AlikeOnAll image → image.handler ≡ 0 → machines.IsStopped image limit run cause nothing out err → IsStoppedRun image limit run cause out err []
is_stopped image limit run cause out err alike default h =
    let bytes = h.runs.0 in
    record {
      has_cause = has_cause cause out err h.has_cause;
      within = h.within;
      steps = λ input. subst (λ (r : Run). r.steps ≡ run.steps) (alike bytes input run.steps) h.runs.1.steps;
      journal = λ input. begun input;
      whole = λ e input. subst (λ (r : Run). HasDoneAll r run) (alike bytes input limit) (h.runs.1.whole e);
      output = h.output;
      no_output = h.no_output;
      lines = front_alone image run.journal err default h.lines;
      all_lines = λ e. lines_alone image run.journal err default (h.all_lines e);
    }
  where
    begun : (input : List ℕ) → IsBegun image input run.steps run.journal
    begun input =
        elim h.runs.1.journal [
          | inl e ↦ inl (e ∙ ap (λ (r : Run). r.journal) (alike h.runs.0 input (run.steps - 1)))
          | inr e ↦ inr (e ∙ ap (λ (r : Run). r.journal) (alike h.runs.0 input run.steps))
        ]

pub unit_run : (ending : Ending) (image : Image) (limit : ℕ) (run : Run) (out err : Object) → AlikeOnAll image → image.handler ≡ 0 → machines.EndsSo ending image limit run nothing out err → IsRunTo ending image limit run out err []
unit_run (Stopped cause) image limit run out err alike default h = is_stopped image limit run cause out err alike default h
unit_run ending image limit run out err alike default h = is_ended image limit run out err alike default h
