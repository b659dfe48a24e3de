-- What a run has come to, after its output was written, is its outcome.
use Rattle.std.proofs.Common.{◌≡◌, ◌≢◌, ℕ, ◌≤◌, List, [], Option, inr, refl, sym, ap, subst, ◌∙◌, arith}
use Rattle.std.specs.Io.KnownBytes.{Appends}
use Rattle.cx_outside.specs.Stream.{TakesFront}
use Rattle.cx_code.specs.declared.image.Image.{Image}
use Rattle.cx_code.specs.declared.run.Cause.{Cause}
use Rattle.cx_code.specs.declared.run.Cause.TheVariants as causes
use Rattle.cx_code.specs.declared.run.Ending.{Ending}
use Rattle.cx_code.specs.declared.run.Ending.TheVariants.{Returned, ContractTerminated, Terminated, Undefined, TooDeep, StepsSpent, Stopped, NotStarted}
use Rattle.cx_code.specs.declared.run.Run.{Run}
use Rattle.cx_code.specs.Run.{run_from}
use Rattle.cx_code.specs.Output.{written_out}
use Rattle.cx_machine.specs.declared.report.Report.{Report}
use Rattle.cx_machine.specs.Advance.{IsRunCause, IsGoing, HasRun, HasCome, HasStopped, HasWritten, stopped, wrote, unwritten, failed}
use Rattle.cx_machine.specs.Start.{IsReadCause}
use Rattle.cx_machine.specs.Outcome.{Object, Failed, IsInput, IsWhole, IsStopped, StopHasCause, EndsSo}
use Rattle.cx_machine.proofs.Advances.{front_whole}

pub going : (ending : Ending) → ((cause : Cause) → ending ≡ Stopped cause → ⊥) → IsGoing ending
going (Returned n) not = tt
going ContractTerminated not = tt
going Terminated not = tt
going (Undefined kind) not = tt
going TooDeep not = tt
going StepsSpent not = tt
going (Stopped cause) not = not cause refl
going NotStarted not = tt

has_run : (ending : Ending) (image : Image) (bytes : List ℕ) (limit steps : ℕ) (report : Report) (taken takes : Option (List ℕ)) (rose : Type 0) → IsGoing ending
    → HasCome ending image bytes limit steps report taken takes rose → HasRun image bytes limit ending steps report taken takes
has_run (Returned n) image bytes limit steps report taken takes rose go come = come
has_run ContractTerminated image bytes limit steps report taken takes rose go come = come
has_run Terminated image bytes limit steps report taken takes rose go come = come
has_run (Undefined kind) image bytes limit steps report taken takes rose go come = come
has_run TooDeep image bytes limit steps report taken takes rose go come = come
has_run StepsSpent image bytes limit steps report taken takes rose go come = come
has_run (Stopped cause) image bytes limit steps report taken takes rose go come = absurd go
has_run NotStarted image bytes limit steps report taken takes rose go come = come

ends_whole : (ending : Ending) (image : Image) (limit : ℕ) (run : Run) (input out err : Object) → IsGoing ending → IsWhole image limit run input out err → EndsSo ending image limit run input out err
ends_whole (Returned n) image limit run input out err go whole = whole
ends_whole ContractTerminated image limit run input out err go whole = whole
ends_whole Terminated image limit run input out err go whole = whole
ends_whole (Undefined kind) image limit run input out err go whole = whole
ends_whole TooDeep image limit run input out err go whole = whole
ends_whole StepsSpent image limit run input out err go whole = whole
ends_whole (Stopped cause) image limit run input out err go whole = absurd go
ends_whole NotStarted image limit run input out err go whole = whole

has_cause : (cause : Cause) (input out err : Object) → IsRunCause cause (Failed err) → StopHasCause cause input out err
has_cause causes.NoMemory input out err h = tt
has_cause causes.Read input out err h = absurd h
has_cause causes.Out input out err h = absurd h
has_cause causes.Err input out err h = h

not_read : (cause : Cause) (rose : Type 0) → IsRunCause cause rose → cause ≡ causes.Read → ⊥
not_read causes.NoMemory rose h e = absurd cc
not_read causes.Read rose h e = h
not_read causes.Out rose h e = absurd cc
not_read causes.Err rose h e = absurd cc

not_out : (cause : Cause) (rose : Type 0) → IsRunCause cause rose → cause ≡ causes.Out → ⊥
not_out causes.NoMemory rose h e = absurd cc
not_out causes.Read rose h e = h
not_out causes.Out rose h e = h
not_out causes.Err rose h e = absurd cc

module _ (image : Image) (bytes : List ℕ) (limit steps : ℕ) (report : Report) (input out err : Object) (read : IsInput input bytes) (within : steps ≤ limit) where
  stops : (cause : Cause) → HasStopped image bytes cause steps report err.old err.new (Failed err) → Appends out.old out.new [] → IsStopped image limit (record { journal = report.journal; ending = Stopped cause; steps = steps }) cause input out err
  stops cause has none = record {
    has_cause = has_cause cause input out err has.has_cause;
    within = within;
    unread = λ e. absurd (not_read cause (Failed err) has.has_cause e);
    unwritten = λ e. absurd (not_out cause (Failed err) has.has_cause e);
    runs = (
      bytes,
      record {
        read = λ some. read;
        steps = has.begun;
        journal = has.journal;
        whole = λ e. absurd (not_out cause (Failed err) has.has_cause e);
      },
    );
    output = (0, none);
    no_output = λ other. none;
    lines = has.lines;
    all_lines = λ e. absurd (not_out cause (Failed err) has.has_cause e);
  }

  -- the output stopped the run after its last step
  cut_off : (ending : Ending) (cause : Cause) → StopHasCause cause input out err → cause ≢ causes.Read → (cause ≡ causes.Out → report.out ≢ []) → HasRun image bytes limit ending steps report err.old err.new → TakesFront out.old out.new report.out
      → (cause ≢ causes.Out → Appends out.old out.new []) → IsStopped image limit (record { journal = report.journal; ending = Stopped cause; steps = steps }) cause input out err
  cut_off ending cause has other some run took none = record {
    has_cause = has;
    within = within;
    unread = λ e. absurd (other e);
    unwritten = λ e nothing. some e (run.output ∙ nothing);
    runs = (
      bytes,
      record {
        read = λ some. read;
        steps = sym (ap (λ (r : Run). r.steps) run.again);
        journal = inr (ap (λ (r : Run). r.journal) run.again);
        whole = λ e. record { journal = ap (λ (r : Run). r.journal) run.runs; steps = ap (λ (r : Run). r.steps) run.runs };
      },
    );
    output = subst (TakesFront out.old out.new) run.output took;
    no_output = none;
    lines = front_whole err.old err.new _ run.lines;
    all_lines = λ e. run.lines;
  }

  pub outcome : (ending now : Ending) → HasCome ending image bytes limit steps report err.old err.new (Failed err) → HasWritten ending now report.out out.old out.new (Failed out)
      → EndsSo now image limit (record { journal = report.journal; ending = now; steps = steps }) input out err
  outcome ending now come (stopped cause e k none) =
      subst (λ (t : Ending). EndsSo t image limit (record { journal = report.journal; ending = t; steps = steps }) input out err) (sym k)
      (stops cause (subst (λ (t : Ending). HasCome t image bytes limit steps report err.old err.new (Failed err)) e come) none)
  outcome ending now come (wrote go k all) =
      let run = has_run ending image bytes limit steps report err.old err.new (Failed err) go come in
      subst (λ (t : Ending). EndsSo t image limit (record { journal = report.journal; ending = t; steps = steps }) input out err) (sym k)
      (ends_whole ending image limit (record { journal = report.journal; ending = ending; steps = steps }) input out err go
      (record { runs = (bytes, read, run.runs); output = subst (Appends out.old out.new) run.output all; lines = run.lines }))
  outcome ending now come (unwritten go k none) =
      subst (λ (t : Ending). EndsSo t image limit (record { journal = report.journal; ending = t; steps = steps }) input out err) (sym k)
      (cut_off ending causes.NoMemory tt (λ e. absurd cc) (λ e. absurd cc) (has_run ending image bytes limit steps report err.old err.new (Failed err) go come) (0, none) (λ other. none))
  outcome ending now come (failed go k some took rose) =
      subst (λ (t : Ending). EndsSo t image limit (record { journal = report.journal; ending = t; steps = steps }) input out err) (sym k)
      (cut_off ending causes.Out rose (λ e. absurd cc) (λ e. some) (has_run ending image bytes limit steps report err.old err.new (Failed err) go come) took (λ other. absurd (other refl)))

-- a run that has stopped before its first step
pub unstarted : (image : Image) (limit : ℕ) (run : Run) (cause : Cause) (input out err : Object) → run.journal ≡ [] → run.ending ≡ Stopped cause → run.steps ≡ 0
    → StopHasCause cause input out err → cause ≢ causes.Out → Appends out.old out.new [] → Appends err.old err.new [] → EndsSo run.ending image limit run input out err
unfolding run_from
unstarted image limit run cause input out err journal ending steps has other no_bytes no_line =
    subst (λ (t : Ending). EndsSo t image limit run input out err) (sym ending) (record {
      has_cause = has;
      within = omega (arith, steps);
      unread = λ e. (steps, journal);
      unwritten = λ e. absurd (other e);
      runs = ([], record { read = λ some. absurd (omega (arith, steps)); steps = rw steps refl; journal = inr (rw (steps, journal) refl); whole = λ e. absurd (other e) });
      output = (0, no_bytes);
      no_output = λ e. no_bytes;
      lines = (0, no_line);
      all_lines = λ e. absurd (other e);
    })

pub read_cause : (cause : Cause) (input out err : Object) → IsReadCause cause (Failed input) → StopHasCause cause input out err
read_cause causes.NoMemory input out err h = tt
read_cause causes.Read input out err h = h
read_cause causes.Out input out err h = absurd h
read_cause causes.Err input out err h = absurd h

pub read_not_out : (cause : Cause) (rose : Type 0) → IsReadCause cause rose → cause ≢ causes.Out
read_not_out causes.NoMemory rose h e = absurd cc
read_not_out causes.Read rose h e = absurd cc
read_not_out causes.Out rose h e = h
read_not_out causes.Err rose h e = absurd cc

-- nothing was written where there was nothing to write
pub still : (image : Image) (bytes : List ℕ) (limit steps : ℕ) (report : Report) (out err : Object) (ending now : Ending) (Same : Type 0) → HasCome ending image bytes limit steps report err.old err.new (Failed err)
    → HasWritten ending now report.out out.old out.new (Failed out) → ((cause : Cause) → ending ≡ Stopped cause → Same) → (report.out ≡ [] → Same) → written_out report.journal ≡ [] → Same
still image bytes limit steps report out err ending now Same come (stopped cause e k none) unless silent none' = unless cause e
still image bytes limit steps report out err ending now Same come (wrote go k all) unless silent none = silent ((has_run ending image bytes limit steps report err.old err.new (Failed err) go come).output ∙ none)
still image bytes limit steps report out err ending now Same come (unwritten go k took) unless silent none = silent ((has_run ending image bytes limit steps report err.old err.new (Failed err) go come).output ∙ none)
still image bytes limit steps report out err ending now Same come (failed go k some took rose) unless silent none = silent ((has_run ending image bytes limit steps report err.old err.new (Failed err) go come).output ∙ none)
