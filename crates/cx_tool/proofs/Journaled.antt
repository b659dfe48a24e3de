-- What was decided of a run that began, and what the files hold then: the image was put, and then it was seen to the journal.
use Rattle.std.proofs.Common.{◌≡◌, ◌≤◌, ℕ, List, Option, Some, None, sym, ap, subst, ◌∙◌}
use Rattle.std.specs.Prelude.{◌≢◌}
use Rattle.cx_outside.specs.Folder.{Folder, BothTold, Puts, ChangesOnly}
use Rattle.cx_outside.specs.Told.{BothTold-then, BothTold-so, Rose-earlier}
use Rattle.cx_outside.specs.declared.limit.Limit.TheVariants as limits
use Rattle.cx_code.specs.declared.image.Image.{Image}
use Rattle.cx_code.specs.declared.run.Run.{Run}
use Rattle.cx_code.specs.declared.run.Cause.{Cause}
use Rattle.cx_code.specs.declared.run.Cause.TheVariants as causes
use Rattle.cx_code.specs.declared.run.Ending.TheVariants as endings
use Rattle.cx_code.specs.Spelling.{image_spelling}
use Rattle.cx_journal.specs.Lines.{journal_text}
use Rattle.cx_tool.specs.declared.answer.Answer.{Answer}
use Rattle.cx_tool.specs.declared.answer.Answer.TheVariants as answers
use Rattle.cx_tool.specs.Words.{Request}
use Rattle.cx_tool.specs.Seen.{FilesSeen, files_seen, FilesFailed, PutFailed}
use Rattle.cx_tool.specs.Report.{run_answer, PutsBoth, PutsThenChanges, ChangesAsked, IsPut, IsShort, IsLongBy, IsDecided, HoldsBy}
use Rattle.cx_tool.specs.Exec.{IsJournaled}

-- nothing more was put
then_kept : (R : Folder → Folder → Type 0) (old middle new : Option Folder) → BothTold old middle R → new ≡ middle → BothTold old new R
then_kept R old middle new first same = subst (λ (n : Option Folder). BothTold old n R) (sym same) first

-- what is put under a second name
put_both : (name bytes second text : List ℕ) (old middle new : Option Folder) → BothTold old middle (Puts name bytes) → BothTold middle new (Puts second text) → BothTold old new (PutsBoth name bytes (Some second) text)
put_both name bytes second text old middle new first then = BothTold-then (Puts name bytes) (Puts second text) (PutsBoth name bytes (Some second) text) (λ x y z p q. (y, p, q)) old middle new first then

put_then_changed : (name bytes second : List ℕ) (old middle new : Option Folder) → BothTold old middle (Puts name bytes) → BothTold middle new (ChangesOnly second) → BothTold old new (PutsThenChanges name bytes (Some second))
put_then_changed name bytes second old middle new first then = BothTold-then (Puts name bytes) (ChangesOnly second) (PutsThenChanges name bytes (Some second)) (λ x y z p q. (y, p, q)) old middle new first then

changed_image : (asked : Request) (bytes : List ℕ) (old new : Option Folder) → BothTold old new (Puts asked.image bytes) → BothTold old new (ChangesAsked asked)
changed_image asked bytes old new = BothTold-so (Puts asked.image bytes) (ChangesAsked asked) (λ x y p other away apart. p.others other away) old new

changed_both : (asked : Request) (bytes second : List ℕ) → asked.journal ≡ Some second → (old middle new : Option Folder) → BothTold old middle (Puts asked.image bytes) → BothTold middle new (ChangesOnly second) → BothTold old new (ChangesAsked asked)
changed_both asked bytes second named old middle new first then =
    BothTold-then (Puts asked.image bytes) (ChangesOnly second) (ChangesAsked asked)
    (λ x y z p q other away apart. q other (λ e. apart (ap Some e ∙ sym named)) ∙ p.others other away) old middle new first then

only_puts : (second text : List ℕ) (middle new : Option Folder) → BothTold middle new (Puts second text) → BothTold middle new (ChangesOnly second)
only_puts second text middle new = BothTold-so (Puts second text) (ChangesOnly second) (λ x y p. p.others) middle new

-- where a journal is asked for
is_asked : (name : Option (List ℕ)) (other : List ℕ) → name ≡ Some other → name ≢ None
is_asked name other e none = let wrong : Some other ≡ None = sym e ∙ none in cc

module _ (asked : Request) (image : Image) (run : Run) (files : FilesSeen) (middle : Option Folder) (faults put_faults : ℕ) (answer : Answer)
    (rising : files.faults ≤ faults) (rising_puts : files.put_faults ≤ put_faults)
    (first : BothTold files.old middle (Puts asked.image (image_spelling image))) where
  -- from what the files held after the put of the image
  abbrev pub behind : FilesSeen
  behind = files_seen middle files.new faults files.faults' put_faults files.put_faults'

  failed_in_all : PutFailed behind → PutFailed files
  failed_in_all rose = Rose-earlier files.put_faults put_faults files.put_faults' rising_puts rose

  pub files_failed : FilesFailed behind → FilesFailed files
  files_failed rose = Rose-earlier files.faults faults files.faults' rising rose

  pub is_decided : IsJournaled asked.journal image run behind answer → IsDecided asked image run files answer
  is_decided (IsJournaled.stopped cause e is same) = IsDecided.by_the_run (is ∙ ap run_answer (sym e))
  is_decided (IsJournaled.unasked whole none is same) = IsDecided.by_the_run (is ∙ sym whole)
  is_decided (IsJournaled.put other whole named short put is) = IsDecided.by_the_run (is ∙ sym whole)
  is_decided (IsJournaled.long other count whole named long is same) = IsDecided.long count whole (subst (λ (n : Option (List ℕ)). IsLongBy count n image run) (sym named) long) is
  is_decided (IsJournaled.no_memory other whole named is same) = IsDecided.no_memory whole (is_asked asked.journal other named) is
  is_decided (IsJournaled.failed other whole named rose put_rose changes is) = IsDecided.failed whole (is_asked asked.journal other named) (failed_in_all put_rose) is

  stopped_holds : (cause : Cause) → files.new ≡ middle → HoldsBy (run_answer (endings.Stopped cause)) asked image run files
  stopped_holds causes.NoMemory same = then_kept (Puts asked.image (image_spelling image)) files.old middle files.new first same
  stopped_holds causes.Read same = then_kept (Puts asked.image (image_spelling image)) files.old middle files.new first same
  stopped_holds causes.Out same = then_kept (Puts asked.image (image_spelling image)) files.old middle files.new first same
  stopped_holds causes.Err same = then_kept (Puts asked.image (image_spelling image)) files.old middle files.new first same

  by_answer : (wanted : Answer) → answer ≡ wanted → HoldsBy wanted asked image run files → HoldsBy answer asked image run files
  by_answer wanted is = subst (λ (a : Answer). HoldsBy a asked image run files) (sym is)

  holds_both : (name : Option (List ℕ)) → asked.journal ≡ name → BothTold files.old files.new (PutsBoth asked.image (image_spelling image) name (journal_text image run)) → IsShort name image run
      → HoldsBy answers.Ran asked image run files
  holds_both name named put short =
      (subst (λ (n : Option (List ℕ)). BothTold files.old files.new (PutsBoth asked.image (image_spelling image) n (journal_text image run))) (sym named) put, subst (λ (n : Option (List ℕ)). IsShort n image run) (sym named) short)

  pub holds_by : IsJournaled asked.journal image run behind answer → HoldsBy answer asked image run files
  holds_by (IsJournaled.stopped cause e is same) = by_answer _ is (stopped_holds cause same)
  holds_by (IsJournaled.unasked whole none is same) = by_answer answers.Ran is (holds_both None none (then_kept (Puts asked.image (image_spelling image)) files.old middle files.new first same) tt)
  holds_by (IsJournaled.put other whole named short put is) = by_answer answers.Ran is (holds_both (Some other) named (put_both asked.image (image_spelling image) other (journal_text image run) files.old middle files.new first put) short)
  holds_by (IsJournaled.long other count whole named long is same) = by_answer (answers.TooMany limits.JournalText count) is (then_kept (Puts asked.image (image_spelling image)) files.old middle files.new first same)
  holds_by (IsJournaled.no_memory other whole named is same) = by_answer answers.OutOfMemory is (then_kept (Puts asked.image (image_spelling image)) files.old middle files.new first same)
  holds_by (IsJournaled.failed other whole named rose put_rose changes is) =
      by_answer answers.FileFault is (subst (λ (n : Option (List ℕ)). BothTold files.old files.new (PutsThenChanges asked.image (image_spelling image) n)) (sym named) (put_then_changed asked.image (image_spelling image) other files.old middle files.new first changes))

  kept : files.new ≡ middle → IsPut asked image run files
  kept same = IsPut.image_alone (then_kept (Puts asked.image (image_spelling image)) files.old middle files.new first same)

  pub is_put : IsJournaled asked.journal image run behind answer → IsPut asked image run files
  is_put (IsJournaled.stopped cause e is same) = kept same
  is_put (IsJournaled.unasked whole none is same) = kept same
  is_put (IsJournaled.put other whole named short put is) = IsPut.both (holds_both (Some other) named (put_both asked.image (image_spelling image) other (journal_text image run) files.old middle files.new first put) short).0
  is_put (IsJournaled.long other count whole named long is same) = kept same
  is_put (IsJournaled.no_memory other whole named is same) = kept same
  is_put (IsJournaled.failed other whole named rose put_rose changes is) =
      IsPut.journal_failed (failed_in_all put_rose) (subst (λ (n : Option (List ℕ)). BothTold files.old files.new (PutsThenChanges asked.image (image_spelling image) n)) (sym named) (put_then_changed asked.image (image_spelling image) other files.old middle files.new first changes))

  unchanged : files.new ≡ middle → BothTold files.old files.new (ChangesAsked asked)
  unchanged same = then_kept (ChangesAsked asked) files.old middle files.new (changed_image asked (image_spelling image) files.old middle first) same

  pub changes_asked : IsJournaled asked.journal image run behind answer → BothTold files.old files.new (ChangesAsked asked)
  changes_asked (IsJournaled.stopped cause e is same) = unchanged same
  changes_asked (IsJournaled.unasked whole none is same) = unchanged same
  changes_asked (IsJournaled.put other whole named short put is) = changed_both asked (image_spelling image) other named files.old middle files.new first (only_puts other (journal_text image run) middle files.new put)
  changes_asked (IsJournaled.long other count whole named long is same) = unchanged same
  changes_asked (IsJournaled.no_memory other whole named is same) = unchanged same
  changes_asked (IsJournaled.failed other whole named rose put_rose changes is) = changed_both asked (image_spelling image) other named files.old middle files.new first changes
