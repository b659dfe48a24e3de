-- The assembled list of a unit: the tokens of its file and of the files that it includes, each in the place of its include line, after [cpp.include]; which files are taken once, how deep includes go and how many bytes a unit has are this project's own.
use Rattle.std.specs.Prelude.{◌≡◌, ℕ, suc, ◌+◌, ◌<◌, ◌≤◌, List, [], ◌∷◌, ◌++◌, Option, Some, None, Contains, length, position, unwrap_or, if◌then◌else◌, is_some}
use Rattle.std.specs.Str.{bytes_eq}
use Rattle.cx_outside.specs.Folder.{Folder}
use Rattle.cx_syntax.specs.declared.token.Token.{Token}
use Rattle.cx_includes.specs.declared.part.Directive.TheVariants as directives
use Rattle.cx_includes.specs.declared.part.Part.{Part}
use Rattle.cx_includes.specs.declared.part.Part.TheVariants as parts
use Rattle.cx_includes.specs.declared.part.Spot.{Spot}
use Rattle.cx_includes.specs.declared.part.Span.{Span}
use Rattle.cx_includes.specs.declared.assembled.Placed.{Placed}
use Rattle.cx_includes.specs.Directive.{name_in}
use Rattle.cx_includes.specs.Parts.{IsReading}

-- the most bytes that the files taken for a unit have together
abbrev pub most_bytes : ℕ
most_bytes = 1048576

-- how many files can be open below the unit's own
abbrev pub most_open : ℕ
most_open = 16

-- the most bytes that a file's name has in an include
abbrev pub longest_file_name : ℕ
longest_file_name = 1024

-- what was taken for a unit so far
pub record Taken : Type 0 where
  -- the names of the files in the order in which each was first taken
  pub files : List (List ℕ)
  -- how many bytes all takings have together
  pub bytes : ℕ
  pub tokens : List Placed
  -- how many tokens stand before the first include of the header, if there is one
  pub contracts : Option ℕ
  pub cstdio : Option ℕ

abbrev pub nothing_taken : Taken
nothing_taken = record { files = []; bytes = 0; tokens = []; contracts = None; cstdio = None }

-- the index of a file
abbrev pub index_of : List (List ℕ) → List ℕ → ℕ
index_of files name = unwrap_or (position (bytes_eq name) files) (length files)

-- a name is kept where it first stood
abbrev pub with_file : List (List ℕ) → List ℕ → List (List ℕ)
with_file files name = if is_some (position (bytes_eq name) files) then files else files ++ name ∷ []

-- a file is opened
abbrev pub opened : Taken → List ℕ → List ℕ → Taken
opened taken name text = record taken { files = with_file taken.files name; bytes = taken.bytes + length text }

abbrev pub with_token : Taken → List ℕ → Token → Spot → Taken
with_token taken name token spot = record taken { tokens = taken.tokens ++ record { token = token; file = index_of taken.files name; line = spot.line; column = spot.column } ∷ [] }

-- the first include of a header counts
abbrev pub first_of : Option ℕ → ℕ → Option ℕ
first_of None now = Some now
first_of (Some before) now = Some before

abbrev pub with_contracts : Taken → Taken
with_contracts taken = record taken { contracts = first_of taken.contracts (length taken.tokens) }

abbrev pub with_cstdio : Taken → Taken
with_cstdio taken = record taken { cstdio = first_of taken.cstdio (length taken.tokens) }

-- the text has a line `#pragma once`, wherever it stands
pub record HoldsOnce (text : List ℕ) : Type 0 where
  pub all : List Part
  pub reading : IsReading text all
  pub line : ℕ
  pub once : Contains all (parts.Line directives.Once line)

-- the file was taken, and is taken once a unit
pub record IsTakenAlready (folder : Folder) (taken : Taken) (name : List ℕ) : Type 0 where
  pub before : Contains taken.files name
  pub text : List ℕ
  pub told : folder name ≡ Some text
  pub once : HoldsOnce text

-- a file can be opened in the place of its include line, below so many open ones
pub record Opens (folder : Folder) (depth : ℕ) (taken : Taken) (name text : List ℕ) : Type 0 where
  pub short : length name ≤ longest_file_name
  pub fresh : IsTakenAlready folder taken name → ⊥
  pub shallow : depth < most_open
  pub told : folder name ≡ Some text
  pub small : taken.bytes + length text ≤ most_bytes

-- The parts of a file, with so many files open above it, take what was taken before to what is taken after.
pub data Takes (folder : Folder) : (depth : ℕ) (name text : List ℕ) → List Part → Taken → Taken → Type 0 where
  none : {depth : ℕ} {name text : List ℕ} {before : Taken} → Takes folder depth name text [] before before
  token : {depth : ℕ} {name text : List ℕ} {front : List Part} {before now : Taken} (token : Token) (spot : Spot)
      → Takes folder depth name text front before now
      → Takes folder depth name text (front ++ parts.Token token spot ∷ []) before (with_token now name token spot)
  once : {depth : ℕ} {name text : List ℕ} {front : List Part} {before now : Taken} (line : ℕ)
      → Takes folder depth name text front before now
      → Takes folder depth name text (front ++ parts.Line directives.Once line ∷ []) before now
  contracts : {depth : ℕ} {name text : List ℕ} {front : List Part} {before now : Taken} (line : ℕ)
      → Takes folder depth name text front before now
      → Takes folder depth name text (front ++ parts.Line directives.Contracts line ∷ []) before (with_contracts now)
  cstdio : {depth : ℕ} {name text : List ℕ} {front : List Part} {before now : Taken} (line : ℕ)
      → Takes folder depth name text front before now
      → Takes folder depth name text (front ++ parts.Line directives.Cstdio line ∷ []) before (with_cstdio now)
  again : {depth : ℕ} {name text : List ℕ} {front : List Part} {before now : Taken} (span : Span) (line : ℕ)
      → Takes folder depth name text front before now
      → length (name_in text span) ≤ longest_file_name → IsTakenAlready folder now (name_in text span)
      → Takes folder depth name text (front ++ parts.Line (directives.File span) line ∷ []) before now
  include : {depth : ℕ} {name text : List ℕ} {front : List Part} {before now after : Taken} (span : Span) (line : ℕ) (inner : List ℕ) (all : List Part)
      → Takes folder depth name text front before now
      → Opens folder depth now (name_in text span) inner → IsReading inner all
      → Takes folder (suc depth) (name_in text span) inner all (opened now (name_in text span) inner) after
      → Takes folder depth name text (front ++ parts.Line (directives.File span) line ∷ []) before after

-- the unit of a name is assembled from its file
pub record IsAssembled (folder : Folder) (name : List ℕ) (taken : Taken) : Type 0 where
  pub text : List ℕ
  pub told : folder name ≡ Some text
  pub small : length text ≤ most_bytes
  pub all : List Part
  pub reading : IsReading text all
  pub takes : Takes folder 0 name text all (opened nothing_taken name text) taken
