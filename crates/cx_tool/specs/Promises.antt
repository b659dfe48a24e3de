-- This defines what the program's one public call promises, each promise with one sentence; it is this project's own.
use Rattle.std.specs.Prelude.{◌≡◌, ◌≢◌, ◌⊎◌, ℕ, List, [], ◌++◌, Some, None}
use Rattle.std.specs.Io.KnownBytes.{Appends}
use Rattle.cx_outside.specs.Folder.{Folder, BothTold}
use Rattle.cx_outside.specs.Stream.{TakesFront}
use Rattle.cx_outside.specs.declared.limit.Limit.TheVariants as limits
use Rattle.cx_machine.specs.Outcome.{Failed}
use Rattle.cx_code.specs.Output.{written_out}
use Rattle.cx_includes.specs.declared.assembled.Assembled.{Assembled}
use Rattle.cx_includes.specs.declared.assembly.AssembleFault.{AssembleFault}
use Rattle.cx_includes.specs.Fault.{IsFirstFault}
use Rattle.cx_includes.specs.Assembled.{IsListOf}
use Rattle.cx_faults.specs.declared.fault.ListFault.{ListFault}
use Rattle.cx_faults.specs.Faults.{IsFaultless, IsListFault}
use Rattle.cx_front.specs.Front.{IsOutside}
use Rattle.cx_tool.specs.declared.answer.Answer.{Answer}
use Rattle.cx_tool.specs.declared.answer.Answer.TheVariants as answers
use Rattle.cx_tool.specs.declared.answer.Report.{Report}
use Rattle.cx_tool.specs.Words.{Request, request_of, NamesUnit, OfRequest, HasLongName}
use Rattle.cx_tool.specs.Faults.{fault_answer, list_fault_answer}
use Rattle.cx_tool.specs.Closing.{closing_text, status_of}
use Rattle.cx_tool.specs.Seen.{Seen, PutFailed, FilesHeld, Held}
use Rattle.cx_tool.specs.Report.{not_started, Comes, IsEarly, HasClosingLine, IsClosed, ChangesAsked, HasPut, IsRan, HasBegun}
use Rattle.cx_tool.specs.Causes.{HasCause, GetsRun, IsAnswered, IsWithoutFault, MayNotPut}

-- what a call with these words, which saw this of the outside, promises of its report
pub record Promises (words : List (List ℕ)) (seen : Seen) (report : Report) : Type 0 where
  -- ---- the answer
  -- Each answer comes only for its cause.
  pub cause : HasCause words seen report.answer
  -- Where the words ask for nothing that is built, Usage is answered, or want of memory, while no call fails.
  pub usage_comes : request_of words ≡ None → Held seen.err → Comes report.answer answers.Usage
  -- Where they ask for something that is built and one of the names is too long, TooMany is answered with the length of the first such
  -- name, or want of memory, while no call fails.
  pub long_name_comes : (count : ℕ) → HasLongName words count → Held seen.err → Comes report.answer (answers.TooMany limits.Name count)
  -- Where the files tell a first fault of the unit's files, lines and tokens, and no call fails, its answer is given, or
  -- want of memory: NoFile, UnitRefused or TooMany.
  pub fault_comes : (unit : List ℕ) (folder : Folder) (fault : AssembleFault) → NamesUnit words unit → seen.files.old ≡ Some folder → IsFirstFault folder unit fault → FilesHeld seen.files → Held seen.err
      → Comes report.answer (fault_answer unit fault)
  -- Where they tell a list of the unit that has a first fault, and no call fails, its answer is given, or want of memory:
  -- TooMany for the tokens that are open at one place, or UnitRefused for the place of a syntax fault.
  pub list_fault_comes : (unit : List ℕ) (folder : Folder) (list : Assembled) (fault : ListFault) → NamesUnit words unit → seen.files.old ≡ Some folder → IsListOf folder unit list → IsListFault list fault → FilesHeld seen.files → Held seen.err
      → Comes report.answer (list_fault_answer unit list fault)
  -- Where they tell a list without a fault that isn't built, and no call fails, Unbuilt is answered, or want of memory.
  pub unbuilt_comes : (unit : List ℕ) (folder : Folder) (list : Assembled) → NamesUnit words unit → seen.files.old ≡ Some folder → IsListOf folder unit list → IsFaultless list → IsOutside list → FilesHeld seen.files → Held seen.err
      → Comes report.answer (answers.Unbuilt unit)
  -- Where the files tell a unit without a fault that is built, and no call fails, its program runs, or the text of the
  -- journal that is asked for is too long, or memory is wanted.
  pub ran_comes : (unit : List ℕ) (folder : Folder) → NamesUnit words unit → seen.files.old ≡ Some folder → IsWithoutFault folder unit → FilesHeld seen.files → Held seen.out → Held seen.err → GetsRun words seen report.answer
  -- Each unit that the files tell gets one of these four answers, or want of memory, while no call fails.
  pub answered : (unit : List ℕ) (folder : Folder) → NamesUnit words unit → seen.files.old ≡ Some folder → FilesHeld seen.files → Held seen.out → Held seen.err → IsAnswered words seen folder unit report.answer
  -- ---- the files
  -- No file but the image's and the journal's changes.
  pub changes : (asked : Request) → request_of words ≡ Some asked → BothTold seen.files.old seen.files.new (ChangesAsked asked)
  -- Where the words or the files tell that none may be written, no file changes, whatever is answered.
  pub may_not_put : MayNotPut words seen.files.old → seen.files.new ≡ seen.files.old
  -- Where no run began and no put failed, no file changes, whatever is answered: so after a read that failed.
  pub no_run : report.run ≡ not_started → (PutFailed seen.files → ⊥) → seen.files.new ≡ seen.files.old
  -- Where an answer tells that its cause came before a put, no file changes.
  pub early : IsEarly report.answer → seen.files.new ≡ seen.files.old
  -- What is put is the image of the unit, and then the journal of its run where one is asked for, and nothing else.
  pub put : (seen.files.new ≡ seen.files.old) ⊎ OfRequest words (λ asked. HasPut asked report.run seen.files)
  -- ---- the run
  -- What was decided before the closing line was written came for its cause too.
  pub decided : Answer
  pub decided_for_cause : HasCause words seen decided
  -- After Ran the files hold under the image's name the bytes of a valid image, each run of which is one that the program
  -- of the unit's assembled list permits under the semantic that is asked for, and under the journal's, where one is asked
  -- for, the text of the run's journal; no other name changed, the run is the machine's run of that image within the limit that is asked for, the output took the bytes of its events Out, and the
  -- error output took the default handler's lines and then the closing line.
  pub ran : report.answer ≡ answers.Ran → OfRequest words (λ asked. IsRan asked report.run seen (closing_text answers.Ran report.run))
  -- Where a run began, whatever failed later, it is that of the image that was put, or it stopped for a cause that is told,
  -- after steps that were begun and no more than the limit; and it is said what was decided by it, what the files hold by
  -- that, and what the output and the error output took.
  pub begun : report.run ≢ not_started → OfRequest words (λ asked. HasBegun asked decided report.run seen (closing_text decided report.run))
  -- Where the run has no event Out, and so where none began, the output is unchanged.
  pub output_unchanged : written_out report.run.journal ≡ [] → seen.out.new ≡ seen.out.old
  -- Nothing of the input is taken.
  pub input_unread : seen.input.new ≡ seen.input.old
  -- ---- the closing line
  -- The answer is what was decided, unless the write of the closing line wanted memory or failed.
  pub closed : IsClosed decided report.answer (Failed seen.err)
  -- The closing line stands last on the error output, where the answer has one and its write didn't fail.
  pub closing_line : HasClosingLine report.answer → (before : List ℕ) × Appends seen.err.old seen.err.new (before ++ closing_text report.answer report.run)
  -- Where no run began nothing else is written there,
  pub closing_line_alone : report.run ≡ not_started → HasClosingLine report.answer → Appends seen.err.old seen.err.new (closing_text report.answer report.run)
  -- and under every answer a front of the closing line of what was decided.
  pub closing_front : report.run ≡ not_started → TakesFront seen.err.old seen.err.new (closing_text decided report.run)
  -- The status is that of the answer.
  pub status : report.status ≡ status_of report.answer report.run
