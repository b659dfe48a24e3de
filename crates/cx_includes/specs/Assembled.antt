-- What the calls of this crate answer, over files that may tell what they hold.
use Rattle.std.specs.Prelude.{◌≡◌, ◌⊎◌, ℕ, ◌≤◌, List, map, length, Option, Some, None, Result, Ok, Err, IsSomeAnd, ⊤, slice_get, slice_range, unwrap_or, []}
use Rattle.std.specs.List.{All, find}
use Rattle.std.specs.Option.{option_map}
use Rattle.std.specs.Str.{bytes_eq}
use Rattle.cx_outside.specs.Folder.{Folder}
use Rattle.cx_includes.specs.declared.assembly.AssembleFault.{AssembleFault}
use Rattle.cx_includes.specs.declared.assembly.AssembleFault.TheVariants as faults
use Rattle.cx_includes.specs.declared.assembled.Assembled.{Assembled}
use Rattle.cx_includes.specs.declared.assembled.SourceFile.{SourceFile}
use Rattle.cx_includes.specs.declared.assembled.Placed.{Placed}
use Rattle.cx_includes.specs.Unit.{Taken, IsAssembled}
use Rattle.cx_includes.specs.Fault.{IsFirstFault}

-- what an assembled list says was taken, with all bytes that were
abbrev pub taken_of : Assembled → ℕ → Taken
taken_of unit bytes = record { files = map (λ (file : SourceFile). file.name) unit.files; bytes = bytes; tokens = unit.placed; contracts = unit.contracts; cstdio = unit.cstdio }

-- the assembled list of a unit, with the texts of its files
pub record IsListOf (folder : Folder) (name : List ℕ) (unit : Assembled) : Type 0 where
  pub bytes : ℕ
  pub assembled : IsAssembled folder name (taken_of unit bytes)
  pub texts : All (λ (file : SourceFile). folder file.name ≡ Some file.text) unit.files

-- the files that were taken, as a folder
abbrev pub folder_of : List SourceFile → Folder
folder_of files name = option_map (λ (file : SourceFile). file.text) (find (λ (file : SourceFile). bytes_eq file.name name) files)

-- where the files tell nothing, the list is that of the texts that it holds
abbrev pub IsListOver : Option Folder → List ℕ → Assembled → Type 0
IsListOver (Some folder) name unit = IsListOf folder name unit
IsListOver None name unit = IsListOf (folder_of unit.files) name unit

-- when a fault may come: `rose` says that a call on the files may have failed
abbrev pub HasCause : Option Folder → List ℕ → Type 0 → AssembleFault → Type 0
HasCause content name rose faults.OutOfMemory = ⊤
HasCause content name rose faults.Failed = rose
HasCause None name rose (faults.Missing other) = rose
HasCause None name rose (faults.Large count) = rose
HasCause None name rose fault = (folder : Folder) × IsFirstFault folder name fault
HasCause (Some folder) name rose fault = IsFirstFault folder name fault

-- in the place of what is due there may be want of memory, or a failed call
abbrev pub IsWant : AssembleFault → Type 0
IsWant faults.OutOfMemory = ⊤
IsWant faults.Failed = ⊤
IsWant fault = ⊥

-- what has a list gets it
abbrev pub GetsList : Assembled → Result Assembled AssembleFault → Type 0
GetsList unit (Ok gets) = gets ≡ unit
GetsList unit (Err fault) = IsWant fault

-- what has a fault gets it
abbrev pub GetsFault : AssembleFault → Result Assembled AssembleFault → Type 0
GetsFault fault (Ok gets) = ⊥
GetsFault fault (Err gets) = (gets ≡ fault) ⊎ IsWant gets

-- the bytes of a token
abbrev pub bytes_of_placed : Assembled → Placed → List ℕ
bytes_of_placed unit placed = slice_range (unwrap_or (option_map (λ (file : SourceFile). file.text) (slice_get unit.files placed.file)) []) placed.token.start placed.token.end

-- a token lies in its file
abbrev pub IsWithin : List SourceFile → Placed → Type 0
IsWithin files placed = (placed.token.start ≤ placed.token.end) × IsSomeAnd (slice_get files placed.file) (λ (file : SourceFile). placed.token.end ≤ length file.text)
