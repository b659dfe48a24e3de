-- What the outside told before and after a call of the program, and how often calls of it had failed; this project's own.
use Rattle.std.specs.Prelude.{ℕ, List, Option, take, ◌++◌}
use Rattle.std.specs.Io.KnownBytes.{Appends}
use Rattle.cx_outside.specs.Fault.{Rose, NoneFailed}
use Rattle.cx_outside.specs.Folder.{Folder}
use Rattle.cx_machine.specs.Outcome.{Object, Failed}

-- files: what they hold, where they tell it, how often calls had failed, and how often calls of `put` had
pub record FilesSeen : Type 0 where
  pub old : Option Folder
  pub new : Option Folder
  pub faults : ℕ
  pub faults' : ℕ
  pub put_faults : ℕ
  pub put_faults' : ℕ

abbrev pub files_seen : (old new : Option Folder) (faults faults' put_faults put_faults' : ℕ) → FilesSeen
files_seen old new faults faults' put_faults put_faults' =
    record { old = old; new = new; faults = faults; faults' = faults'; put_faults = put_faults; put_faults' = put_faults' }

pub record Seen : Type 0 where
  pub files : FilesSeen
  pub input : Object
  pub out : Object
  pub err : Object

abbrev pub seen_of : FilesSeen → (input out err : Object) → Seen
seen_of files input out err = record { files = files; input = input; out = out; err = err }

-- a call on the files may have failed
abbrev pub FilesFailed : FilesSeen → Type 0
FilesFailed files = Rose files.faults files.faults'

-- a call that writes a file may have failed
abbrev pub PutFailed : FilesSeen → Type 0
PutFailed files = Rose files.put_faults files.put_faults'

-- no call on the files failed
abbrev pub FilesHeld : FilesSeen → Type 0
FilesHeld files = NoneFailed files.faults files.faults'

-- no call on the stream failed
abbrev pub Held : Object → Type 0
Held stream = Failed stream → ⊥

-- these bytes were taken, and then a front of those
abbrev pub TakesThen : Object → List ℕ → List ℕ → Type 0
TakesThen stream whole last = (count : ℕ) × Appends stream.old stream.new (whole ++ take count last)

-- a front of these bytes was taken, and then a front of those
abbrev pub TakesBoth : Object → List ℕ → List ℕ → Type 0
TakesBoth stream first last = (some : ℕ) × TakesThen stream (take some first) last
