-- What the whole call promises, by what was decided and by how the closing line was written.
use Rattle.std.proofs.Common.{◌≡◌, ◌⊎◌, ℕ, zero, suc, List, [], ◌++◌, Option, None, inl, inr, refl, sym, ap, subst, ◌∙◌}
use Rattle.std.specs.Prelude.{◌≤◌, ◌≢◌, take}
use Rattle.std.specs.Io.KnownBytes.{Appends}
use Rattle.cx_outside.specs.Stream.{TakesFront}
use Rattle.cx_outside.specs.declared.limit.Limit.TheVariants as limits
use Rattle.cx_outside.specs.Told.{Appends-then, Rose-earlier, Rose-later}
use Rattle.cx_code.specs.declared.run.Run.{Run}
use Rattle.cx_code.specs.declared.run.Cause.{Cause}
use Rattle.cx_code.specs.declared.run.Cause.TheVariants as causes
use Rattle.cx_code.specs.declared.run.Ending.{Ending}
use Rattle.cx_code.specs.declared.run.Ending.TheVariants.{Returned, ContractTerminated, Terminated, Undefined, TooDeep, StepsSpent, Stopped, NotStarted}
use Rattle.cx_code.specs.declared.image.Image.{Image}
use Rattle.cx_code.specs.Output.{written_out}
use Rattle.cx_code.specs.Violation.{written}
use Rattle.cx_machine.specs.Outcome.{Object, object, Failed}
use Rattle.cx_tool.specs.declared.answer.Answer.{Answer}
use Rattle.cx_tool.specs.declared.answer.Answer.TheVariants as answers
use Rattle.cx_tool.specs.declared.answer.Stream.TheVariants as streams
use Rattle.cx_tool.specs.declared.answer.Report.{Report}
use Rattle.cx_tool.specs.declared.exec.Decided.{Decided}
use Rattle.cx_tool.specs.Words.{OfRequest}
use Rattle.cx_tool.specs.Seen.{FilesSeen, Seen, Held, TakesThen}
use Rattle.cx_tool.specs.Closing.{closing_text, status_of}
use Rattle.cx_tool.specs.Report.{not_started, Comes, IsEarly, HasClosingLine, IsClosed, IsRunTo, IsEndedRun, StopHasCause, HasPut, IsRan, HasBegun}
use Rattle.cx_tool.specs.Causes.{HasCause, GetsRun}
use Rattle.cx_tool.specs.Exec.{Decides}
use Rattle.cx_tool.specs.Promises.{Promises}
use Rattle.cx_tool.proofs.Closed.{same_answer, last_line, still_comes}
use Rattle.cx_tool.proofs.Answered.{Judged, answered}
use Rattle.cx_tool.proofs.Unput.{OneAssembly, never_put}

-- the error output over both parts: till the closing line, and behind it
abbrev pub whole : Object → Object → Object
whole first last = object first.old last.new first.before last.after

-- an answer that comes before a put has a closing line
early_has_line : (answer : Answer) → IsEarly answer → HasClosingLine answer
early_has_line answers.OutOfMemory early = early
early_has_line answers.Usage early = tt
early_has_line (answers.NoFile name) early = tt
early_has_line answers.FileFault early = tt
early_has_line answers.ReadFault early = tt
early_has_line (answers.WriteFault streams.Out) early = tt
early_has_line (answers.WriteFault streams.Err) early = early
early_has_line (answers.UnitRefused refusal) early = tt
early_has_line (answers.TooMany limit count) early = tt
early_has_line (answers.Unbuilt name) early = tt
early_has_line answers.Ran early = tt

-- ---- causes

pub later_cause : (words : List (List ℕ)) (seen seen' : Seen) (answer : Answer) → seen'.files ≡ seen.files → seen'.out ≡ seen.out → (Failed seen.err → Failed seen'.err) → HasCause words seen answer → HasCause words seen' answer
later_cause words seen seen' answers.OutOfMemory files out later cause = tt
later_cause words seen seen' answers.Ran files out later cause = tt
later_cause words seen seen' answers.Usage files out later cause = cause
later_cause words seen seen' (answers.NoFile name) files out later cause = rw files cause
later_cause words seen seen' (answers.UnitRefused refusal) files out later cause = rw files cause
later_cause words seen seen' (answers.TooMany limit count) files out later cause = rw files cause
later_cause words seen seen' (answers.Unbuilt name) files out later cause = rw files cause
later_cause words seen seen' answers.FileFault files out later cause = rw files cause
later_cause words seen seen' answers.ReadFault files out later cause = cause
later_cause words seen seen' (answers.WriteFault streams.Out) files out later cause = rw out cause
later_cause words seen seen' (answers.WriteFault streams.Err) files out later cause = later cause

closed_cause : (words : List (List ℕ)) (seen : Seen) (before now : Answer) → IsClosed before now (Failed seen.err) → HasCause words seen before → HasCause words seen now
closed_cause words seen before now closed cause =
    elim closed [
      | inl e ↦ subst (HasCause words seen) (sym e) cause
      | inr other ↦ elim other [ inl e ↦ subst (HasCause words seen) (sym e) tt | inr fault ↦ subst (HasCause words seen) (sym fault.0) fault.1 ]
    ]

-- ---- lines

front_then : (a b c : Option (List ℕ)) (whole last : List ℕ) → Appends a b (whole ++ []) → TakesFront b c last → (count : ℕ) × Appends a c (whole ++ take count last)
front_then a b c whole last first then = (then.0, last_line a b c whole (take then.0 last) first then.1)

nothing_taken : (count : ℕ) → take {A = ℕ} count [] ≡ []
nothing_taken zero = refl
nothing_taken (suc count) = refl

then_closed : (first last : Object) (lines line : List ℕ) → first.new ≡ last.old → TakesThen first lines [] → TakesFront last.old last.new line → TakesThen (whole first last) lines line
then_closed first last lines line joined h then =
    let none = subst (λ (bytes : List ℕ). Appends first.old first.new (lines ++ bytes)) (nothing_taken h.0) h.1 in
    front_then first.old first.new last.new lines line none (subst (λ (b : Option (List ℕ)). TakesFront b last.new line) (sym joined) then)

ended : (image : Image) (limit : ℕ) (run : Run) (out first last : Object) (line : List ℕ) → first.new ≡ last.old → IsEndedRun image limit run out first [] → TakesFront last.old last.new line → IsEndedRun image limit run out (whole first last) line
ended image limit run out first last line joined h then = record { runs = h.runs; output = h.output; lines = then_closed first last _ line joined h.lines then }

pub run_closed : (ending : Ending) (image : Image) (limit : ℕ) (run : Run) (out first last : Object) (line : List ℕ) → first.new ≡ last.old → (Failed first → Failed (whole first last)) → IsRunTo ending image limit run out first [] → TakesFront last.old last.new line → IsRunTo ending image limit run out (whole first last) line
run_closed (Stopped cause) image limit run out first last line joined later h then = record {
  has_cause = still cause h.has_cause;
  within = h.within;
  steps = h.steps;
  journal = h.journal;
  whole = h.whole;
  output = h.output;
  no_output = h.no_output;
  lines = (h.lines.0, then_closed first last _ line joined h.lines.1 then);
  all_lines = λ e. then_closed first last _ line joined (h.all_lines e) then;
}
  where
    still : (cause : Cause) → StopHasCause cause out first → StopHasCause cause out (whole first last)
    still causes.NoMemory c = tt
    still causes.Read c = c
    still causes.Out c = c
    still causes.Err c = later c
run_closed (Returned n) image limit run out first last line joined later h then = ended image limit run out first last line joined h then
run_closed ContractTerminated image limit run out first last line joined later h then = ended image limit run out first last line joined h then
run_closed Terminated image limit run out first last line joined later h then = ended image limit run out first last line joined h then
run_closed (Undefined kind) image limit run out first last line joined later h then = ended image limit run out first last line joined h then
run_closed TooDeep image limit run out first last line joined later h then = ended image limit run out first last line joined h then
run_closed StepsSpent image limit run out first last line joined later h then = ended image limit run out first last line joined h then
run_closed NotStarted image limit run out first last line joined later h then = ended image limit run out first last line joined h then

-- ---- the promises

-- how the closing line was written: what the error output told, and what became of the answer
pub record Closes (decided now : Answer) (run : Run) (err : Object) : Type 0 where
  pub closed : IsClosed decided now (Failed err)
  pub took : TakesFront err.old err.new (closing_text decided run)
  pub line : HasClosingLine now → Appends err.old err.new (closing_text now run)
  pub later : err.before ≤ err.after

module _ (one : OneAssembly) (judged : Judged) (words : List (List ℕ)) (files : FilesSeen) (input out first last : Object) (decided : Decided) (report : Report)
    (joined : first.new ≡ last.old) (counted : first.after ≡ last.before) (rising : first.before ≤ first.after)
    (decides : Decides words (record { files = files; input = object None None 0 0; out = out; err = first }) decided)
    (closes : Closes decided.answer report.answer decided.run last) (same_run : report.run ≡ decided.run)
    (status : report.status ≡ status_of report.answer decided.run) (unread : input.new ≡ input.old) (silent : written_out decided.run.journal ≡ [] → out.new ≡ out.old) where
  abbrev before : Seen
  before = record { files = files; input = object None None 0 0; out = out; err = first }

  abbrev now : Seen
  now = record { files = files; input = input; out = out; err = whole first last }

  -- a fault before the closing line, or at it
  failed_before : Failed first → Failed (whole first last)
  failed_before rose = Rose-later first.before first.after last.after (subst (λ (n : ℕ). n ≤ last.after) (sym counted) closes.later) rose

  failed_at : Failed last → Failed (whole first last)
  failed_at rose = Rose-earlier first.before last.before last.after (subst (λ (n : ℕ). first.before ≤ n) counted rising) rose

  closed_now : IsClosed decided.answer report.answer (Failed (whole first last))
  closed_now = elim closes.closed [ inl e ↦ inl e | inr other ↦ elim other [ inl e ↦ inr (inl e) | inr fault ↦ inr (inr (fault.0, failed_at fault.1)) ] ]

  decided_cause : HasCause words now decided.answer
  decided_cause = later_cause words before now decided.answer refl refl failed_before decides.cause

  comes : (wanted : Answer) → Held (whole first last) → Comes decided.answer wanted → Comes report.answer wanted
  comes wanted held c = still_comes decided.answer report.answer wanted (Failed (whole first last)) closed_now held c

  held_before : Held (whole first last) → Held first
  held_before held rose = held (failed_before rose)

  begun_now : report.run ≢ not_started → OfRequest words (λ asked. HasBegun asked decided.answer report.run now (closing_text decided.answer report.run))
  begun_now begun =
      let b = decides.begun (λ e. begun (same_run ∙ e)) in
      rw same_run (
        b.0,
        b.1,
        b.2,
        record {
          image = b.3.image;
          source = b.3.source;
          runs = run_closed decided.run.ending b.3.image b.0.steps decided.run out first last (closing_text decided.answer decided.run) joined failed_before b.3.runs closes.took;
          answered = b.3.answered;
          put = b.3.put;
        },
      )

  gets : Held (whole first last) → GetsRun words before decided.answer → GetsRun words now report.answer
  gets held (inl ran) = inl (comes answers.Ran held ran)
  gets held (inr long) = inr (long.0, long.1, comes (answers.TooMany limits.JournalText long.0) held long.2)

  put_now : (files.new ≡ files.old) ⊎ OfRequest words (λ asked. HasPut asked report.run files)
  put_now = rw same_run decides.put

  line_of : HasClosingLine report.answer → decided.answer ≡ report.answer
  line_of h = same_answer decided.answer report.answer (Failed last) closes.closed h

  ran_now : report.answer ≡ answers.Ran → OfRequest words (λ asked. IsRan asked report.run now (closing_text answers.Ran report.run))
  ran_now e =
      let has : HasClosingLine report.answer = subst HasClosingLine (sym e) tt in
      let r = decides.ran (line_of has ∙ e) in
      let line = subst (λ (a : Answer). Appends last.old last.new (closing_text a decided.run)) e (closes.line has) in
      rw same_run (
        r.0,
        r.1,
        r.2,
        record {
          image = r.3.image;
          source = r.3.source;
          put = r.3.put;
          short = r.3.short;
          runs = r.3.runs;
          output = r.3.output;
          lines = last_line first.old first.new last.new (written r.3.image decided.run.journal) (closing_text answers.Ran decided.run) r.3.lines (subst (λ (b : Option (List ℕ)). Appends b last.new (closing_text answers.Ran decided.run)) (sym joined) line);
        },
      )

  from_first : (bytes : List ℕ) → first.new ≡ first.old → Appends last.old last.new bytes → Appends first.old last.new bytes
  from_first bytes quiet h = subst (λ (b : Option (List ℕ)). Appends b last.new bytes) (sym joined ∙ quiet) h

  pub promises : Promises words now report
  promises = record {
    cause = closed_cause words now decided.answer report.answer closed_now decided_cause;
    usage_comes = λ none held. comes answers.Usage held (decides.usage_comes none);
    long_name_comes = λ count has held. comes _ held (decides.long_name_comes count has);
    fault_comes = λ unit folder fault names told its kept held. comes _ held (decides.fault_comes unit folder fault names told its kept);
    list_fault_comes = λ unit folder list fault names told its is kept held. comes _ held (decides.list_fault_comes unit folder list fault names told its is kept);
    unbuilt_comes = λ unit folder list names told its fine outside kept held. comes _ held (decides.unbuilt_comes unit folder list names told its fine outside kept);
    ran_comes = λ unit folder names told faultless kept written held. gets held (decides.ran_comes unit folder names told faultless kept written (held_before held));
    answered = λ unit folder names told kept written held.
        answered one judged words now folder unit report.answer
        (λ fault its. comes _ held (decides.fault_comes unit folder fault names told its kept))
        (λ list fault its is. comes _ held (decides.list_fault_comes unit folder list fault names told its is kept))
        (λ list its fine outside. comes _ held (decides.unbuilt_comes unit folder list names told its fine outside kept))
        (λ faultless. gets held (decides.ran_comes unit folder names told faultless kept written (held_before held)));
    changes = decides.changes;
    may_not_put = λ may_not. never_put one words decided.run files decides.put may_not;
    no_run = λ idle none_failed. decides.no_run (sym same_run ∙ idle) none_failed;
    early = λ early. decides.early (subst IsEarly (sym (early_same early)) early);
    put = put_now;
    ran = ran_now;
    begun = begun_now;
    output_unchanged = λ none. silent (ap (λ (r : Run). written_out r.journal) (sym same_run) ∙ none);
    input_unread = unread;
    decided = decided.answer;
    decided_for_cause = decided_cause;
    closed = closed_now;
    closing_line = λ has.
        let same = line_of has in
        let grew = decides.grew (subst HasClosingLine (sym same) has) in
        let line = subst (λ (b : Option (List ℕ)). Appends b last.new (closing_text report.answer decided.run)) (sym joined) (closes.line has) in
        rw same_run (grew.0, Appends-then first.old first.new last.new grew.0 (closing_text report.answer decided.run) grew.1 line);
    closing_line_alone = λ idle has. rw same_run (from_first (closing_text report.answer decided.run) (decides.quiet (sym same_run ∙ idle)) (closes.line has));
    closing_front = λ idle. rw same_run (closes.took.0, from_first (take closes.took.0 (closing_text decided.answer decided.run)) (decides.quiet (sym same_run ∙ idle)) closes.took.1);
    status = rw same_run status;
  }
    where
      early_same : IsEarly report.answer → decided.answer ≡ report.answer
      early_same early = line_of (early_has_line report.answer early)
