-- What is decided before the closing line, by where it was decided.
use Rattle.std.proofs.Common.{◌≡◌, ◌≤◌, ℕ, List, [], Option, Some, None, inl, inr, refl, sym, ap, subst, ◌∙◌}
use Rattle.std.specs.Io.KnownBytes.{Appends}
use Rattle.std.specs.Prelude.{◌≢◌}
use Rattle.cx_outside.specs.Folder.{Folder, BothTold, Puts, ChangesOnly}
use Rattle.cx_outside.specs.Told.{Appends-nothing, BothTold-so, BothTold-same, Rose-later}
use Rattle.cx_outside.specs.Fault.{NoneFailed}
use Rattle.cx_outside.specs.declared.limit.Limit.TheVariants as limits
use Rattle.cx_code.specs.declared.image.Image.{Image}
use Rattle.cx_code.specs.declared.run.Run.{Run}
use Rattle.cx_code.specs.declared.run.Cause.TheVariants as causes
use Rattle.cx_code.specs.declared.run.Ending.{Ending}
use Rattle.cx_code.specs.declared.run.Ending.TheVariants.{Returned, ContractTerminated, Terminated, Undefined, TooDeep, StepsSpent, Stopped, NotStarted}
use Rattle.cx_code.specs.Spelling.{image_spelling}
use Rattle.cx_includes.specs.declared.assembled.Assembled.{Assembled}
use Rattle.cx_includes.specs.declared.assembly.AssembleFault.{AssembleFault}
use Rattle.cx_includes.specs.Fault.{IsFirstFault}
use Rattle.cx_includes.specs.Assembled.{IsListOf}
use Rattle.cx_faults.specs.declared.fault.ListFault.{ListFault}
use Rattle.cx_faults.specs.Faults.{IsFaultless, IsListFault}
use Rattle.cx_front.specs.Front.{IsOutside}
use Rattle.cx_tool.specs.declared.answer.Answer.{Answer}
use Rattle.cx_tool.specs.declared.answer.Answer.TheVariants as answers
use Rattle.cx_tool.specs.declared.exec.Decided.{Decided}
use Rattle.cx_tool.specs.Words.{Request, request_of, long_name, NamesUnit, OfRequest, HasLongName}
use Rattle.cx_tool.specs.Seen.{Seen, files_seen, FilesFailed, FilesHeld}
use Rattle.cx_tool.specs.Faults.{fault_answer, list_fault_answer, HasUnitFault}
use Rattle.cx_tool.specs.Report.{not_started, run_answer, Comes, IsEarly, HasClosingLine, IsUnbuilt, IsOfFile, IsRunTo, ChangesAsked, IsPut, IsLongBy, HasLongJournal, HoldsBy}
use Rattle.cx_tool.specs.Causes.{HasCause, GetsRun, IsWithoutFault}
use Rattle.cx_tool.specs.Exec.{HasStopCause, IsUnputOrFailed, IsJournaled, Decides}
use Rattle.cx_tool.proofs.Stops.{no_such_file}
use Rattle.cx_tool.proofs.Began.{ran_unless, ran_whole, whole_lines, grew, never_early}
use Rattle.cx_tool.proofs.Journaled.{is_decided, holds_by, is_put, changes_asked, files_failed}

-- the words don't both ask for nothing and for something
no_request : (words : List (List ℕ)) (asked : Request) → request_of words ≡ None → request_of words ≡ Some asked → ⊥
no_request words asked none some = let e : None ≡ Some asked = sym none ∙ some in cc

same_request : (words : List (List ℕ)) (a b : Request) → request_of words ≡ Some a → request_of words ≡ Some b → a ≡ b
same_request words a b one other = let e : Some a ≡ Some b = sym one ∙ other in cc

grew_nothing : (seen : Seen) → seen.err.new ≡ seen.err.old → (before : List ℕ) × Appends seen.err.old seen.err.new before
grew_nothing seen quiet = ([], subst (λ (now : Option (List ℕ)). Appends seen.err.old now []) (sym quiet) (Appends-nothing seen.err.old))

unchanged_changes : (seen : Seen) (asked : Request) → seen.files.new ≡ seen.files.old → BothTold seen.files.old seen.files.new (ChangesAsked asked)
unchanged_changes seen asked same =
    subst (λ (now : Option Folder). BothTold seen.files.old now (ChangesAsked asked)) (sym same) (BothTold-same (ChangesAsked asked) (λ folder other away apart. refl) seen.files.old)

image_changes : (seen : Seen) (asked : Request) → BothTold seen.files.old seen.files.new (ChangesOnly asked.image) → BothTold seen.files.old seen.files.new (ChangesAsked asked)
image_changes seen asked = BothTold-so (ChangesOnly asked.image) (ChangesAsked asked) (λ x y only other away apart. only other away) seen.files.old seen.files.new

module _ (words : List (List ℕ)) (seen : Seen) (decided : Decided) (idle : decided.run ≡ not_started) (same : seen.files.new ≡ seen.files.old) (quiet : seen.err.new ≡ seen.err.old) where
  -- other words than those of the form
  pub decides_usage : request_of words ≡ None → decided.answer ≡ answers.Usage → Decides words seen decided
  decides_usage none is = record {
    cause = subst (HasCause words seen) (sym is) none;
    usage_comes = λ e. inl is;
    long_name_comes = λ count has. absurd (no_request words has.0 none has.1);
    fault_comes = λ unit folder fault names told first held. absurd (no_request words names.0 none names.1);
    list_fault_comes = λ unit folder list fault names told its due held. absurd (no_request words names.0 none names.1);
    unbuilt_comes = λ unit folder list names told its fine outside held. absurd (no_request words names.0 none names.1);
    ran_comes = λ unit folder names told faultless held kept heard. absurd (no_request words names.0 none names.1);
    changes = λ asked e. unchanged_changes seen asked same;
    no_run = λ run none_failed. same;
    early = λ early. same;
    put = inl same;
    ran = λ e. let wrong : answers.Usage ≡ answers.Ran = sym is ∙ e in absurd (cc);
    begun = λ begun. absurd (begun idle);
    quiet = λ e. quiet;
    grew = λ line. grew_nothing seen quiet;
  }

  -- want of memory for the words
  pub decides_want : decided.answer ≡ answers.OutOfMemory → Decides words seen decided
  decides_want is = record {
    cause = subst (HasCause words seen) (sym is) tt;
    usage_comes = λ none. inr is;
    long_name_comes = λ count has. inr is;
    fault_comes = λ unit folder fault names told first held. inr is;
    list_fault_comes = λ unit folder list fault names told its due held. inr is;
    unbuilt_comes = λ unit folder list names told its fine outside held. inr is;
    ran_comes = λ unit folder names told faultless held kept heard. inl (inr is);
    changes = λ asked e. unchanged_changes seen asked same;
    no_run = λ run none_failed. same;
    early = λ early. same;
    put = inl same;
    ran = λ e. let wrong : answers.OutOfMemory ≡ answers.Ran = sym is ∙ e in absurd (cc);
    begun = λ begun. absurd (begun idle);
    quiet = λ e. quiet;
    grew = λ line. grew_nothing seen quiet;
  }

  -- a name that is too long
  pub decides_long_name : (asked : Request) (count : ℕ) → request_of words ≡ Some asked → long_name asked ≡ Some count → decided.answer ≡ answers.TooMany limits.Name count → Decides words seen decided
  decides_long_name asked count some long is = record {
    cause = subst (HasCause words seen) (sym is) (inl (refl, (asked, some, long)));
    usage_comes = λ none. absurd (no_request words asked none some);
    long_name_comes = λ other has. inl (same_count other has);
    fault_comes = λ unit folder fault names told first held. absurd (too_long unit names);
    list_fault_comes = λ unit folder list fault names told its due held. absurd (too_long unit names);
    unbuilt_comes = λ unit folder list names told its fine outside held. absurd (too_long unit names);
    ran_comes = λ unit folder names told faultless held kept heard. absurd (too_long unit names);
    changes = λ other e. unchanged_changes seen other same;
    no_run = λ run none_failed. same;
    early = λ early. same;
    put = inl same;
    ran = λ e. let wrong : answers.TooMany limits.Name count ≡ answers.Ran = sym is ∙ e in absurd (cc);
    begun = λ begun. absurd (begun idle);
    quiet = λ e. quiet;
    grew = λ line. grew_nothing seen quiet;
  }
    where
      too_long : (unit : List ℕ) → NamesUnit words unit → ⊥
      too_long unit names =
          let one = same_request words names.0 asked names.1 some in
          let short : long_name asked ≡ None = subst (λ (a : Request). long_name a ≡ None) one names.2 in
          let e : None ≡ Some count = sym short ∙ long in cc

      same_count : (other : ℕ) → HasLongName words other → decided.answer ≡ answers.TooMany limits.Name other
      same_count other has =
          let one = same_request words has.0 asked has.1 some in
          let its : long_name asked ≡ Some other = subst (λ (a : Request). long_name a ≡ Some other) one has.2 in
          let e : Some count ≡ Some other = sym long ∙ its in
          let n : count ≡ other = cc in
          is ∙ ap (answers.TooMany limits.Name) n

-- ---- where no image was put

stop_cause : (words : List (List ℕ)) (seen : Seen) (asked : Request) (answer : Answer) → request_of words ≡ Some asked → long_name asked ≡ None → HasStopCause answer seen.files.old (FilesFailed seen.files) asked.unit → HasCause words seen answer
stop_cause words seen asked answers.OutOfMemory some short cause = tt
stop_cause words seen asked answers.Usage some short cause = absurd cause
stop_cause words seen asked (answers.NoFile name) some short cause = ((asked, some, short, cause), no_such_file seen.files.old (FilesFailed seen.files) asked.unit name cause)
stop_cause words seen asked answers.FileFault some short cause = cause
stop_cause words seen asked answers.ReadFault some short cause = absurd cause
stop_cause words seen asked (answers.WriteFault stream) some short cause = absurd cause
stop_cause words seen asked (answers.UnitRefused refusal) some short cause = ((asked, some, short, sym cause.0), subst (λ (unit : List ℕ). HasUnitFault seen.files.old (FilesFailed seen.files) unit (answers.UnitRefused refusal)) (sym cause.0) cause.1)
stop_cause words seen asked (answers.TooMany limit count) some short cause = inr (inr (asked, some, short, cause))
stop_cause words seen asked (answers.Unbuilt name) some short cause = ((asked, some, short, sym cause.0), subst (λ (unit : List ℕ). IsUnbuilt seen.files.old unit) (sym cause.0) cause.1)
stop_cause words seen asked answers.Ran some short cause = absurd cause

-- what is due where an image was to be made of the request, for its own unit and files
pub record IsDue (seen : Seen) (asked : Request) (answer : Answer) : Type 0 where
  pub cause : HasStopCause answer seen.files.old (FilesFailed seen.files) asked.unit
  pub fault_comes : (folder : Folder) (fault : AssembleFault) → seen.files.old ≡ Some folder → IsFirstFault folder asked.unit fault → FilesHeld seen.files → Comes answer (fault_answer asked.unit fault)
  pub list_fault_comes : (folder : Folder) (list : Assembled) (fault : ListFault) → seen.files.old ≡ Some folder → IsListOf folder asked.unit list → IsListFault list fault → FilesHeld seen.files → Comes answer (list_fault_answer asked.unit list fault)
  pub unbuilt_comes : (folder : Folder) (list : Assembled) → seen.files.old ≡ Some folder → IsListOf folder asked.unit list → IsFaultless list → IsOutside list → FilesHeld seen.files → Comes answer (answers.Unbuilt asked.unit)
  pub built_comes : (folder : Folder) → seen.files.old ≡ Some folder → IsWithoutFault folder asked.unit → FilesHeld seen.files → answer ≡ answers.OutOfMemory
  pub put : IsUnputOrFailed seen.files asked.unit asked.semantic
  pub early : IsEarly answer → seen.files.new ≡ seen.files.old
  pub changes : BothTold seen.files.old seen.files.new (ChangesOnly asked.image)

the_unit_named : (words : List (List ℕ)) (asked : Request) (unit : List ℕ) → request_of words ≡ Some asked → NamesUnit words unit → asked.unit ≡ unit
the_unit_named words asked unit some names = ap (λ (a : Request). a.unit) (same_request words asked names.0 some names.1) ∙ names.3

not_ran : (seen : Seen) (asked : Request) → HasStopCause answers.Ran seen.files.old (FilesFailed seen.files) asked.unit → ⊥
not_ran seen asked cause = cause

pub decides_stopped : (words : List (List ℕ)) (seen : Seen) (decided : Decided) (asked : Request) → request_of words ≡ Some asked → long_name asked ≡ None → IsDue seen asked decided.answer
    → decided.run ≡ not_started → seen.err.new ≡ seen.err.old → Decides words seen decided
decides_stopped words seen decided asked some short due idle quiet = record {
  cause = stop_cause words seen asked decided.answer some short due.cause;
  usage_comes = λ none. absurd (no_request words asked none some);
  long_name_comes = λ count has.
      let one = same_request words has.0 asked has.1 some in
      let its : long_name asked ≡ Some count = subst (λ (a : Request). long_name a ≡ Some count) one has.2 in
      let e : None ≡ Some count = sym short ∙ its in absurd (cc);
  fault_comes = λ unit folder fault names told first held.
      let e = the_unit_named words asked unit some names in
      subst (λ (u : List ℕ). Comes decided.answer (fault_answer u fault)) e (due.fault_comes folder fault told (subst (λ (u : List ℕ). IsFirstFault folder u fault) (sym e) first) held);
  list_fault_comes = λ unit folder list fault names told its is held.
      let e = the_unit_named words asked unit some names in
      subst (λ (u : List ℕ). Comes decided.answer (list_fault_answer u list fault)) e (due.list_fault_comes folder list fault told (subst (λ (u : List ℕ). IsListOf folder u list) (sym e) its) is held);
  unbuilt_comes = λ unit folder list names told its fine outside held.
      let e = the_unit_named words asked unit some names in
      subst (λ (u : List ℕ). Comes decided.answer (answers.Unbuilt u)) e (due.unbuilt_comes folder list told (subst (λ (u : List ℕ). IsListOf folder u list) (sym e) its) fine outside held);
  ran_comes = λ unit folder names told faultless held kept heard.
      let e = the_unit_named words asked unit some names in
      inl (inr (due.built_comes folder told (subst (IsWithoutFault folder) (sym e) faultless) held));
  changes = λ other e. subst (λ (a : Request). BothTold seen.files.old seen.files.new (ChangesAsked a)) (same_request words asked other some e) (image_changes seen asked due.changes);
  no_run = λ run none_failed. elim due.put [ inl same ↦ same | inr failed ↦ absurd (none_failed failed.0) ];
  early = due.early;
  put = elim due.put [
    | inl same ↦ inl same
    | inr failed ↦ inr (asked, some, short, record { image = failed.1.0; source = failed.1.1; put = IsPut.image_failed failed.0 due.changes })
  ];
  ran = λ e. absurd (not_ran seen asked (subst (λ (a : Answer). HasStopCause a seen.files.old (FilesFailed seen.files) asked.unit) e due.cause));
  begun = λ begun. absurd (begun idle);
  quiet = λ e. quiet;
  grew = λ line. grew_nothing seen quiet;
}

-- ---- where a run began

run_cause : (words : List (List ℕ)) (seen : Seen) (image : Image) (limit : ℕ) (run : Run) (ending : Ending) → IsRunTo ending image limit run seen.out seen.err [] → HasCause words seen (run_answer ending)
run_cause words seen image limit run (Returned n) h = tt
run_cause words seen image limit run ContractTerminated h = tt
run_cause words seen image limit run Terminated h = tt
run_cause words seen image limit run (Undefined kind) h = tt
run_cause words seen image limit run TooDeep h = tt
run_cause words seen image limit run StepsSpent h = tt
run_cause words seen image limit run (Stopped causes.NoMemory) h = tt
run_cause words seen image limit run (Stopped causes.Read) h = h.has_cause
run_cause words seen image limit run (Stopped causes.Out) h = h.has_cause
run_cause words seen image limit run (Stopped causes.Err) h = h.has_cause
run_cause words seen image limit run NotStarted h = tt

-- what is known where an image was put and run, and then it was seen to the journal
pub record IsRun (seen : Seen) (asked : Request) (run : Run) (answer : Answer) : Type 0 where
  pub image : Image
  pub source : IsOfFile seen.files.old asked.unit asked.semantic image
  pub middle : Option Folder
  pub faults : ℕ
  pub put_faults : ℕ
  pub rising : seen.files.faults ≤ faults
  pub rising_puts : seen.files.put_faults ≤ put_faults
  pub later : faults ≤ seen.files.faults'
  pub put : BothTold seen.files.old middle (Puts asked.image (image_spelling image))
  pub no_fault : (folder : Folder) (fault : AssembleFault) → seen.files.old ≡ Some folder → IsFirstFault folder asked.unit fault → NoneFailed seen.files.faults faults → ⊥
  pub no_list_fault : (folder : Folder) (list : Assembled) (fault : ListFault) → seen.files.old ≡ Some folder → IsListOf folder asked.unit list → IsListFault list fault → NoneFailed seen.files.faults faults → ⊥
  pub built : (folder : Folder) (list : Assembled) → seen.files.old ≡ Some folder → IsListOf folder asked.unit list → IsFaultless list → IsOutside list → NoneFailed seen.files.faults faults → ⊥
  pub runs : IsRunTo run.ending image asked.steps run seen.out seen.err []
  pub started : run.ending ≢ NotStarted
  pub journaled : IsJournaled asked.journal image run (files_seen middle seen.files.new faults seen.files.faults' put_faults seen.files.put_faults') answer

module _ (words : List (List ℕ)) (seen : Seen) (decided : Decided) (asked : Request) (some : request_of words ≡ Some asked) (short : long_name asked ≡ None) (h : IsRun seen asked decided.run decided.answer) where
  held_before : FilesHeld seen.files → NoneFailed seen.files.faults h.faults
  held_before held rose = held (Rose-later seen.files.faults h.faults seen.files.faults' h.later rose)

  journal_failed : FilesFailed (files_seen h.middle seen.files.new h.faults seen.files.faults' h.put_faults seen.files.put_faults') → FilesFailed seen.files
  journal_failed rose = files_failed asked h.image decided.run seen.files h.middle h.faults h.put_faults decided.answer h.rising h.rising_puts h.put rose

  -- a journal that is too long
  long_journal : (count : ℕ) → run_answer decided.run.ending ≡ answers.Ran → IsLongBy count asked.journal h.image decided.run → OfRequest words (λ a. HasLongJournal a seen.files count)
  long_journal count whole long =
      (asked, some, short, record { image = h.image; source = h.source; run = decided.run; runs = (ran_whole decided.run.ending h.image asked.steps decided.run seen.out seen.err h.runs whole).runs; long = long })

  long_by : (other : List ℕ) (count : ℕ) → asked.journal ≡ Some other → IsLongBy count (Some other) h.image decided.run → IsLongBy count asked.journal h.image decided.run
  long_by other count named long = subst (λ (n : Option (List ℕ)). IsLongBy count n h.image decided.run) (sym named) long

  by_cause : (answer : Answer) → decided.answer ≡ answer → HasCause words seen answer → HasCause words seen decided.answer
  by_cause answer is cause = subst (HasCause words seen) (sym is) cause

  cause_now : IsJournaled asked.journal h.image decided.run (files_seen h.middle seen.files.new h.faults seen.files.faults' h.put_faults seen.files.put_faults') decided.answer → HasCause words seen decided.answer
  cause_now (IsJournaled.stopped cause e is same) = by_cause (run_answer (Stopped cause)) is (run_cause words seen h.image asked.steps decided.run (Stopped cause) (subst (λ (ending : Ending). IsRunTo ending h.image asked.steps decided.run seen.out seen.err []) e h.runs))
  cause_now (IsJournaled.unasked whole none is same) = by_cause answers.Ran is tt
  cause_now (IsJournaled.put other whole named fits put is) = by_cause answers.Ran is tt
  cause_now (IsJournaled.long other count whole named long is same) = by_cause (answers.TooMany limits.JournalText count) is (inr (inl (refl, long_journal count whole (long_by other count named long))))
  cause_now (IsJournaled.no_memory other whole named is same) = by_cause answers.OutOfMemory is tt
  cause_now (IsJournaled.failed other whole named rose put_rose changes is) = by_cause answers.FileFault is (journal_failed rose)

  gets_run : IsJournaled asked.journal h.image decided.run (files_seen h.middle seen.files.new h.faults seen.files.faults' h.put_faults seen.files.put_faults') decided.answer → Comes (run_answer decided.run.ending) answers.Ran → FilesHeld seen.files → GetsRun words seen decided.answer
  gets_run (IsJournaled.stopped cause e is same) comes held = inl (subst (λ (a : Answer). Comes a answers.Ran) (ap run_answer e ∙ sym is) comes)
  gets_run (IsJournaled.unasked whole none is same) comes held = inl (inl is)
  gets_run (IsJournaled.put other whole named fits put is) comes held = inl (inl is)
  gets_run (IsJournaled.long other count whole named long is same) comes held = inr (count, long_journal count whole (long_by other count named long), inl is)
  gets_run (IsJournaled.no_memory other whole named is same) comes held = inl (inr is)
  gets_run (IsJournaled.failed other whole named rose put_rose changes is) comes held = absurd (held (journal_failed rose))

  not_early : IsJournaled asked.journal h.image decided.run (files_seen h.middle seen.files.new h.faults seen.files.faults' h.put_faults seen.files.put_faults') decided.answer → IsEarly decided.answer → ⊥
  not_early (IsJournaled.stopped cause e is same) early = never_early (Stopped cause) (subst IsEarly is early)
  not_early (IsJournaled.unasked whole none is same) early = subst IsEarly is early
  not_early (IsJournaled.put other whole named fits put is) early = subst IsEarly is early
  not_early (IsJournaled.long other count whole named long is same) early = subst IsEarly is early
  not_early (IsJournaled.no_memory other whole named is same) early = subst IsEarly is early
  not_early (IsJournaled.failed other whole named rose put_rose changes is) early = subst IsEarly is early

  -- where Ran is decided the run ended or was cut
  is_whole : IsJournaled asked.journal h.image decided.run (files_seen h.middle seen.files.new h.faults seen.files.faults' h.put_faults seen.files.put_faults') decided.answer → decided.answer ≡ answers.Ran → run_answer decided.run.ending ≡ answers.Ran
  is_whole (IsJournaled.stopped cause e is same) ran = ap run_answer e ∙ sym is ∙ ran
  is_whole (IsJournaled.unasked whole none is same) ran = whole
  is_whole (IsJournaled.put other whole named fits put is) ran = whole
  is_whole (IsJournaled.long other count whole named long is same) ran = whole
  is_whole (IsJournaled.no_memory other whole named is same) ran = whole
  is_whole (IsJournaled.failed other whole named rose put_rose changes is) ran = whole

  whole_grew : run_answer decided.run.ending ≡ answers.Ran → (before : List ℕ) × Appends seen.err.old seen.err.new before
  whole_grew whole = grew decided.run.ending h.image asked.steps decided.run seen.out seen.err h.runs (subst HasClosingLine (sym whole) tt)

  -- the lines of a run whose answer has a closing line
  lines_grew : IsJournaled asked.journal h.image decided.run (files_seen h.middle seen.files.new h.faults seen.files.faults' h.put_faults seen.files.put_faults') decided.answer → HasClosingLine decided.answer → (before : List ℕ) × Appends seen.err.old seen.err.new before
  lines_grew (IsJournaled.stopped cause e is same) line = grew decided.run.ending h.image asked.steps decided.run seen.out seen.err h.runs (subst HasClosingLine (is ∙ ap run_answer (sym e)) line)
  lines_grew (IsJournaled.unasked whole none is same) line = whole_grew whole
  lines_grew (IsJournaled.put other whole named fits put is) line = whole_grew whole
  lines_grew (IsJournaled.long other count whole named long is same) line = whole_grew whole
  lines_grew (IsJournaled.no_memory other whole named is same) line = whole_grew whole
  lines_grew (IsJournaled.failed other whole named rose put_rose changes is) line = whole_grew whole

  holds_now : HoldsBy decided.answer asked h.image decided.run seen.files
  holds_now = holds_by asked h.image decided.run seen.files h.middle h.faults h.put_faults decided.answer h.rising h.rising_puts h.put h.journaled

  changes_now : BothTold seen.files.old seen.files.new (ChangesAsked asked)
  changes_now = changes_asked asked h.image decided.run seen.files h.middle h.faults h.put_faults decided.answer h.rising h.rising_puts h.put h.journaled

  pub decides_run : Decides words seen decided
  decides_run = record {
    cause = cause_now h.journaled;
    usage_comes = λ none. absurd (no_request words asked none some);
    long_name_comes = λ count has.
        let one = same_request words has.0 asked has.1 some in
        let its : long_name asked ≡ Some count = subst (λ (a : Request). long_name a ≡ Some count) one has.2 in
        let e : None ≡ Some count = sym short ∙ its in absurd (cc);
    fault_comes = λ unit folder fault names told first held.
        let e = the_unit_named words asked unit some names in
        absurd (h.no_fault folder fault told (subst (λ (u : List ℕ). IsFirstFault folder u fault) (sym e) first) (held_before held));
    list_fault_comes = λ unit folder list fault names told its fault_is held.
        let e = the_unit_named words asked unit some names in
        absurd (h.no_list_fault folder list fault told (subst (λ (u : List ℕ). IsListOf folder u list) (sym e) its) fault_is (held_before held));
    unbuilt_comes = λ unit folder list names told its fine outside held.
        let e = the_unit_named words asked unit some names in
        absurd (h.built folder list told (subst (λ (u : List ℕ). IsListOf folder u list) (sym e) its) fine outside (held_before held));
    ran_comes = λ unit folder names told faultless held kept heard. gets_run h.journaled (ran_unless decided.run.ending h.image asked.steps decided.run seen.out seen.err h.runs kept heard) held;
    changes = λ other e. subst (λ (a : Request). BothTold seen.files.old seen.files.new (ChangesAsked a)) (same_request words asked other some e) changes_now;
    no_run = λ idle none_failed. absurd (h.started (ap (λ (r : Run). r.ending) idle));
    early = λ early. absurd (not_early h.journaled early);
    put = inr (asked, some, short, record { image = h.image; source = h.source; put = is_put asked h.image decided.run seen.files h.middle h.faults h.put_faults decided.answer h.rising h.rising_puts h.put h.journaled });
    ran = λ e.
        let whole = ran_whole decided.run.ending h.image asked.steps decided.run seen.out seen.err h.runs (is_whole h.journaled e) in
        let holds = subst (λ (a : Answer). HoldsBy a asked h.image decided.run seen.files) e holds_now in
        (asked, some, short, record { image = h.image; source = h.source; put = holds.0; short = holds.1; runs = whole.runs; output = whole.output; lines = whole_lines h.image decided.run seen.err whole.lines });
    begun = λ begun.
        (asked, some, short, record { image = h.image; source = h.source; runs = h.runs; answered = is_decided asked h.image decided.run seen.files h.middle h.faults h.put_faults decided.answer h.rising h.rising_puts h.put h.journaled; put = holds_now });
    quiet = λ idle. absurd (h.started (ap (λ (r : Run). r.ending) idle));
    grew = λ line. lines_grew h.journaled line;
  }
