-- What the private functions that take the files of a unit answer. No public contract speaks of these.
use Rattle.std.specs.Prelude.{◌≡◌, ◌≢◌, ◌↔◌, ◌+◌, ◌<◌, ◌≤◌, ◌^◌, ℕ, false, List, [], ◌∷◌, ◌++◌, Option, Some, None, IsTrue, Contains, map, length, position, slice_index_or, ⊤}
use Rattle.std.specs.List.{All}
use Rattle.std.specs.Ordering.{nat_cmp}
use Rattle.std.specs.Cmp.Lexicographic.{slice_cmp}
use Rattle.std.specs.BTreeMap.{get_by}
use Rattle.std.specs.Str.{bytes_eq}
use Rattle.cx_outside.specs.Folder.{Folder, WhereTold}
use Rattle.cx_includes.specs.declared.part.Directive.TheVariants as directives
use Rattle.cx_includes.specs.declared.part.Part.{Part}
use Rattle.cx_includes.specs.declared.part.Part.TheVariants as parts
use Rattle.cx_includes.specs.declared.assembled.SourceFile.{SourceFile}
use Rattle.cx_includes.specs.declared.assembled.Assembled.{Assembled}
use Rattle.cx_includes.specs.declared.assembly.AssembleFault.{AssembleFault}
use Rattle.cx_includes.specs.declared.assembly.AssembleFault.TheVariants as faults
use Rattle.cx_includes.specs.declared.names.Names.{Names}
use Rattle.cx_includes.specs.declared.source.Source.{Source}
use Rattle.cx_includes.specs.declared.taking.Taking.{Taking}
use Rattle.cx_includes.specs.Parts.{IsReading}
use Rattle.cx_syntax.specs.declared.token.Token.{Token}
use Rattle.cx_includes.specs.declared.part.Spot.{Spot}
use Rattle.cx_includes.specs.declared.part.Span.{Span}
use Rattle.cx_includes.specs.Directive.{name_in}
use Rattle.cx_includes.specs.Unit.{Taken, most_bytes, most_open, longest_file_name, opened, with_token, with_contracts, with_cstdio, IsTakenAlready, Opens, Takes}
use Rattle.cx_includes.specs.Fault.{IsAtFault, Fails}
use Rattle.cx_includes.specs.Assembled.{IsWithin}

-- ---- files by name

-- the index that is kept for a name
abbrev pub index_in : Names → List ℕ → Option ℕ
index_in names name = get_by (λ key. slice_cmp nat_cmp name key.items) names.indices

-- the name has this index, and no other one changed
pub record Adds (name : List ℕ) (index : ℕ) (old new : Names) : Type 0 where
  pub holds : index_in new name ≡ Some index
  pub others : (other : List ℕ) → other ≢ name → index_in new other ≡ index_in old other

-- ---- files that were read

-- what a part names lies in the text
abbrev pub IsPartWithin : List ℕ → Part → Type 0
IsPartWithin text (parts.Token token spot) = (token.start ≤ token.end) × (token.end ≤ length text)
IsPartWithin text (parts.Line (directives.File span) line) = (span.start ≤ span.end) × (span.end ≤ length text)
IsPartWithin text part = ⊤

-- a line says that the file is taken once
abbrev pub HasOnce : List Part → Type 0
HasOnce all = (line : ℕ) × Contains all (parts.Line directives.Once line)

-- a file was read
pub record IsSource (source : Source) : Type 0 where
  pub small : length source.file.text + 2 < 2 ^ 32
  pub reading : IsReading source.file.text source.parts
  pub within : All (IsPartWithin source.file.text) source.parts
  pub once : IsTrue source.once ↔ HasOnce source.parts

abbrev pub files_of : List Source → List SourceFile
files_of sources = map (λ (source : Source). source.file) sources

abbrev pub names_of : List Source → List (List ℕ)
names_of sources = map (λ (source : Source). source.file.name) sources

abbrev pub no_source : Source
no_source = record { file = record { name = []; text = [] }; parts = []; once = false }

abbrev pub source_at : Taking → ℕ → Source
source_at taking file = slice_index_or taking.sources.items file no_source

-- ---- what was taken

abbrev pub taken : Taking → Taken
taken taking = record { files = names_of taking.sources.items; bytes = taking.bytes; tokens = taking.placed; contracts = taking.contracts; cstdio = taking.cstdio }

pub record IsSound (taking : Taking) : Type 0 where
  pub indexed : (name : List ℕ) → index_in taking.names name ≡ position (bytes_eq name) (names_of taking.sources.items)
  -- no two files have one name
  pub distinct : (file : ℕ) → file < length taking.sources.items → position (bytes_eq (source_at taking file).file.name) (names_of taking.sources.items) ≡ Some file
  pub sources : All IsSource taking.sources.items
  pub bytes : taking.bytes ≤ most_bytes
  pub within : All (IsWithin (files_of taking.sources.items)) taking.placed
  pub small : length taking.placed < 2 ^ 32

-- a folder has the texts that were read
abbrev pub Agrees : Folder → Taking → Type 0
Agrees folder taking = All (λ (source : Source). folder source.file.name ≡ Some source.file.text) taking.sources.items

-- files were added, whose names are short
pub record Grows (old new : Taking) : Type 0 where
  pub more : List Source
  pub is : new.sources.items ≡ old.sources.items ++ more
  pub short : All (λ (source : Source). length source.file.name ≤ 1024) more

-- what was read is what the files tell
abbrev pub KeepsTold : Option Folder → Taking → Taking → Type 0
KeepsTold content old new = (folder : Folder) → content ≡ Some folder → Agrees folder old → Agrees folder new

-- what one call did to the files
pub record Goes (content : Option Folder) (old new : Taking) : Type 0 where
  pub grows : Grows old new
  pub told : KeepsTold content old new

-- a part that opens no file takes what was taken before to what is taken after
pub data PartTakes (folder : Folder) (name text : List ℕ) (before : Taken) : Part → Taken → Type 0 where
  token : {token : Token} {spot : Spot} → PartTakes folder name text before (parts.Token token spot) (with_token before name token spot)
  once : {line : ℕ} → PartTakes folder name text before (parts.Line directives.Once line) before
  contracts : {line : ℕ} → PartTakes folder name text before (parts.Line directives.Contracts line) (with_contracts before)
  cstdio : {line : ℕ} → PartTakes folder name text before (parts.Line directives.Cstdio line) (with_cstdio before)
  again : {span : Span} {line : ℕ} → length (name_in text span) ≤ longest_file_name → IsTakenAlready folder before (name_in text span) → PartTakes folder name text before (parts.Line (directives.File span) line) before

-- a part opens a file
pub record PartOpens (depth : ℕ) (text : List ℕ) (part : Part) (old new : Taking) (inner : ℕ) : Type 0 where
  pub span : Span
  pub line : ℕ
  pub is : part ≡ parts.Line (directives.File span) line
  pub inside : inner < length new.sources.items
  pub shallow : depth < most_open
  pub named : (source_at new inner).file.name ≡ name_in text span
  pub opens : (folder : Folder) → Agrees folder new → Opens folder depth (taken old) (name_in text span) (source_at new inner).file.text
  pub taken : taken new ≡ opened (taken old) (name_in text span) (source_at new inner).file.text

abbrev pub Passes : ℕ → SourceFile → Part → Taking → Taking → Option ℕ → Type 0
Passes depth file part old new None = (folder : Folder) → Agrees folder new → PartTakes folder file.name file.text (taken old) part (taken new)
Passes depth file part old new (Some inner) = PartOpens depth file.text part old new inner

-- a file's parts were taken, with the files that they include
abbrev pub TakesFile : ℕ → Source → Taking → Taking → Type 0
TakesFile depth source old new = (folder : Folder) → Agrees folder new → Takes folder depth source.file.name source.file.text source.parts (taken old) (taken new)

-- ---- faults

abbrev pub IsPartFault : ℕ → SourceFile → Taken → Part → Folder → AssembleFault → Type 0
IsPartFault depth file now part folder fault = IsAtFault folder depth file.name file.text now part fault

abbrev pub IsFileFault : ℕ → Source → Taken → Folder → AssembleFault → Type 0
IsFileFault depth source before folder fault = Fails folder depth source.file.name source.file.text source.parts before fault

-- A fault may come: of the files, where they tell so; of lines and tokens, over each folder with the texts that were read.
abbrev pub IsDue : Option Folder → Type 0 → Taking → (Folder → AssembleFault → Type 0) → AssembleFault → Type 0
IsDue content rose taking At faults.OutOfMemory = ⊤
IsDue content rose taking At faults.Failed = rose
IsDue content rose taking At (faults.Missing name) = WhereTold content (λ folder. Agrees folder taking → At folder (faults.Missing name)) rose
IsDue content rose taking At (faults.Large count) = WhereTold content (λ folder. Agrees folder taking → At folder (faults.Large count)) rose
IsDue content rose taking At fault = IsSound taking × ((folder : Folder) → Agrees folder taking → At folder fault)

-- a file could not be had: it is missing, or longer than what is left
pub data IsRefused (name : List ℕ) (bytes : ℕ) (folder : Folder) : AssembleFault → Type 0 where
  missing : folder name ≡ None → IsRefused name bytes folder (faults.Missing name)
  large : {text : List ℕ} → folder name ≡ Some text → most_bytes < bytes + length text → IsRefused name bytes folder (faults.Large (most_bytes + 1))

-- why a file could not be had, where the files tell it, and where they tell nothing
abbrev pub IsHad : Option Folder → Type 0 → List ℕ → ℕ → AssembleFault → Type 0
IsHad content rose name bytes faults.OutOfMemory = ⊤
IsHad content rose name bytes faults.Failed = rose
IsHad content rose name bytes (faults.Missing other) = WhereTold content (λ folder. IsRefused name bytes folder (faults.Missing other)) rose
IsHad content rose name bytes (faults.Large count) = WhereTold content (λ folder. IsRefused name bytes folder (faults.Large count)) rose
IsHad content rose name bytes fault = ⊥

-- a file was read and added
pub record Pushes (content : Option Folder) (name : List ℕ) (old new : Taking) (file : ℕ) : Type 0 where
  pub source : Source
  pub is : new.sources.items ≡ old.sources.items ++ source ∷ []
  pub last : file ≡ length old.sources.items
  pub named : source.file.name ≡ name
  pub told : WhereTold content (λ folder. folder name ≡ Some source.file.text) ⊤
  pub fits : old.bytes + length source.file.text ≤ most_bytes
  pub taken : taken new ≡ opened (taken old) name source.file.text

-- ---- the end

-- the list has all that was taken
pub record IsFinished (taking : Taking) (unit : Assembled) : Type 0 where
  pub files : unit.files ≡ files_of taking.sources.items
  pub placed : unit.placed ≡ taking.placed
  pub contracts : unit.contracts ≡ taking.contracts
  pub cstdio : unit.cstdio ≡ taking.cstdio
