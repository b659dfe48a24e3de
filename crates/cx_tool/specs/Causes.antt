-- Why each answer may come, which units have no fault, and where no file may be written; this project's own.
use Rattle.std.specs.Prelude.{◌≡◌, ◌⊎◌, ℕ, List, Option, Some, None, ⊤}
use Rattle.cx_outside.specs.Folder.{Folder, WhereTold}
use Rattle.cx_outside.specs.declared.limit.Limit.TheVariants as limits
use Rattle.cx_machine.specs.Outcome.{Failed}
use Rattle.cx_includes.specs.declared.assembled.Assembled.{Assembled}
use Rattle.cx_includes.specs.declared.assembly.AssembleFault.{AssembleFault}
use Rattle.cx_includes.specs.Fault.{IsFirstFault}
use Rattle.cx_includes.specs.Assembled.{IsListOf}
use Rattle.cx_faults.specs.declared.fault.ListFault.{ListFault}
use Rattle.cx_faults.specs.Faults.{IsFaultless, IsListFault}
use Rattle.cx_front.specs.Front.{IsOutside}
use Rattle.cx_tool.specs.declared.answer.Answer.{Answer}
use Rattle.cx_tool.specs.declared.answer.Answer.TheVariants as answers
use Rattle.cx_tool.specs.declared.answer.Stream.TheVariants as streams
use Rattle.cx_tool.specs.Words.{request_of, NamesUnit, OfRequest, HasLongName}
use Rattle.cx_tool.specs.Faults.{fault_answer, list_fault_answer, HasFault, HasUnitFault}
use Rattle.cx_tool.specs.Seen.{Seen, FilesFailed}
use Rattle.cx_tool.specs.Report.{Comes, IsUnbuilt, HasLongJournal}

-- Each answer comes only where this holds. Want of memory is free, and what stands after Ran is said apart. Where the
-- files tell nothing, the fault is one over some files.
abbrev pub HasCause : List (List ℕ) → Seen → Answer → Type 0
HasCause words seen answers.OutOfMemory = ⊤
HasCause words seen answers.Ran = ⊤
-- the words ask for nothing that is built
HasCause words seen answers.Usage = request_of words ≡ None
-- the unit's first fault is that this file is missing, the unit's own or an included one; the files lack it
HasCause words seen (answers.NoFile name) =
    OfRequest words (λ asked. HasFault seen.files.old (FilesFailed seen.files) asked.unit (answers.NoFile name))
    × WhereTold seen.files.old (λ folder. folder name ≡ None) (FilesFailed seen.files)
-- this is the unit's first fault
HasCause words seen (answers.UnitRefused refusal) =
    NamesUnit words refusal.unit × HasUnitFault seen.files.old (FilesFailed seen.files) refusal.unit (answers.UnitRefused refusal)
-- a name in the words has so many bytes, or the journal of the run that is asked for, or the unit's first fault is that so
-- many are too many: bytes of its files or of a name, or tokens that are open at one place
HasCause words seen (answers.TooMany limit count) =
    ((limit ≡ limits.Name) × HasLongName words count)
    ⊎ ((limit ≡ limits.JournalText) × OfRequest words (λ asked. HasLongJournal asked seen.files count))
    ⊎ OfRequest words (λ asked. HasUnitFault seen.files.old (FilesFailed seen.files) asked.unit (answers.TooMany limit count))
-- the unit has no fault, and isn't in the language that is built so far, or has too many tokens
HasCause words seen (answers.Unbuilt name) = NamesUnit words name × IsUnbuilt seen.files.old name
-- a call on the files, on the output or on the error output failed; nothing is read
HasCause words seen answers.FileFault = FilesFailed seen.files
HasCause words seen answers.ReadFault = ⊥
HasCause words seen (answers.WriteFault streams.Out) = Failed seen.out
HasCause words seen (answers.WriteFault streams.Err) = Failed seen.err

-- a unit without a fault that is built, by what the files tell: neither its files, lines and tokens have a fault nor its
-- list, and its list isn't outside the language that is built so far
pub record IsWithoutFault (folder : Folder) (unit : List ℕ) : Type 0 where
  pub no_fault : (fault : AssembleFault) → IsFirstFault folder unit fault → ⊥
  pub no_list_fault : (list : Assembled) (fault : ListFault) → IsListOf folder unit list → IsListFault list fault → ⊥
  pub built : (list : Assembled) → IsListOf folder unit list → IsFaultless list → IsOutside list → ⊥

-- a unit that is built runs, or its journal is too long, or memory is wanted
abbrev pub GetsRun : List (List ℕ) → Seen → Answer → Type 0
GetsRun words seen answer =
    Comes answer answers.Ran
    ⊎ ((count : ℕ) × OfRequest words (λ asked. HasLongJournal asked seen.files count) × Comes answer (answers.TooMany limits.JournalText count))

-- what a unit that the files tell gets: the answer of its first fault, or of its list's, or that it isn't built, or its run
pub data IsAnswered (words : List (List ℕ)) (seen : Seen) (folder : Folder) (unit : List ℕ) (answer : Answer) : Type 0 where
  fault : (fault : AssembleFault) → IsFirstFault folder unit fault → Comes answer (fault_answer unit fault) → IsAnswered words seen folder unit answer
  list_fault : (list : Assembled) (fault : ListFault) → IsListOf folder unit list → IsListFault list fault → Comes answer (list_fault_answer unit list fault) → IsAnswered words seen folder unit answer
  unbuilt : (list : Assembled) → IsListOf folder unit list → IsFaultless list → IsOutside list → Comes answer (answers.Unbuilt unit) → IsAnswered words seen folder unit answer
  runs : IsWithoutFault folder unit → GetsRun words seen answer → IsAnswered words seen folder unit answer

-- no file may be written, whatever is answered: the words ask for nothing that is built, a name in them is too long, or the files tell
-- a fault of the unit, or a unit that isn't built
pub data MayNotPut (words : List (List ℕ)) (told : Option Folder) : Type 0 where
  no_request : request_of words ≡ None → MayNotPut words told
  long_name : (count : ℕ) → HasLongName words count → MayNotPut words told
  fault : (folder : Folder) (unit : List ℕ) (fault : AssembleFault) → told ≡ Some folder → NamesUnit words unit → IsFirstFault folder unit fault → MayNotPut words told
  list_fault : (folder : Folder) (unit : List ℕ) (list : Assembled) (fault : ListFault) → told ≡ Some folder → NamesUnit words unit → IsListOf folder unit list → IsListFault list fault → MayNotPut words told
  outside : (folder : Folder) (unit : List ℕ) (list : Assembled) → told ≡ Some folder → NamesUnit words unit → IsListOf folder unit list → IsFaultless list → IsOutside list → MayNotPut words told
