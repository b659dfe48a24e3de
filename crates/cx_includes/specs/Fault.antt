-- The first fault of files, lines and tokens that a unit has, in the order of its text; this project's own.
use Rattle.std.specs.Prelude.{◌≡◌, ℕ, suc, ◌+◌, ◌<◌, ◌≤◌, List, ◌∷◌, ◌++◌, Some, None, length}
use Rattle.cx_outside.specs.Folder.{Folder}
use Rattle.cx_lexer.specs.declared.fault.LexFault.{LexFault}
use Rattle.cx_lexer.specs.declared.fault.LexFault.TheVariants as lex_faults
use Rattle.cx_includes.specs.declared.assembly.AssembleFault.{AssembleFault}
use Rattle.cx_includes.specs.declared.assembly.AssembleFault.TheVariants as faults
use Rattle.cx_includes.specs.declared.part.Directive.TheVariants as directives
use Rattle.cx_includes.specs.declared.part.Part.{Part}
use Rattle.cx_includes.specs.declared.part.Part.TheVariants as parts
use Rattle.cx_includes.specs.declared.part.Spot.{Spot}
use Rattle.cx_includes.specs.declared.part.Span.{Span}
use Rattle.cx_includes.specs.Place.{column_at}
use Rattle.cx_includes.specs.Directive.{name_in}
use Rattle.cx_includes.specs.Parts.{IsReading}
use Rattle.cx_includes.specs.Unit.{Taken, nothing_taken, opened, most_bytes, most_open, longest_file_name, IsTakenAlready, Opens, Takes}

-- a part of a file is at fault, where so much was taken before
pub data IsAtFault (folder : Folder) (depth : ℕ) (name text : List ℕ) (now : Taken) : Part → AssembleFault → Type 0 where
  lexical : {fault : LexFault} {spot : Spot} → IsAtFault folder depth name text now (parts.Fault fault spot) (faults.Lex name spot.line spot.column fault)
  bad_line : {line : ℕ} → IsAtFault folder depth name text now (parts.BadLine line) (faults.BadLine name line)
  long_name : {span : Span} {line : ℕ} → longest_file_name < length (name_in text span)
      → IsAtFault folder depth name text now (parts.Line (directives.File span) line) (faults.Lex name line (column_at text span.start) (lex_faults.LongName span.start (length (name_in text span))))
  -- the file would be the seventeenth open one below the unit's own, and isn't asked for
  deep : {span : Span} {line : ℕ} → length (name_in text span) ≤ longest_file_name → (IsTakenAlready folder now (name_in text span) → ⊥) → most_open ≤ depth
      → IsAtFault folder depth name text now (parts.Line (directives.File span) line) (faults.Depth name line)
  missing : {span : Span} {line : ℕ} → length (name_in text span) ≤ longest_file_name → depth < most_open → folder (name_in text span) ≡ None
      → IsAtFault folder depth name text now (parts.Line (directives.File span) line) (faults.Missing (name_in text span))
  -- a file is cut one byte behind what is left
  large : {span : Span} {line : ℕ} {inner : List ℕ} → length (name_in text span) ≤ longest_file_name → (IsTakenAlready folder now (name_in text span) → ⊥) → depth < most_open
      → folder (name_in text span) ≡ Some inner → most_bytes < now.bytes + length inner
      → IsAtFault folder depth name text now (parts.Line (directives.File span) line) (faults.Large (most_bytes + 1))

-- the first fault of a file's parts, or of the files that they include
pub data Fails (folder : Folder) : (depth : ℕ) (name text : List ℕ) → List Part → Taken → AssembleFault → Type 0 where
  here : {depth : ℕ} {name text : List ℕ} {front : List Part} {part : Part} {before now : Taken} {fault : AssembleFault} (rest : List Part)
      → Takes folder depth name text front before now → IsAtFault folder depth name text now part fault
      → Fails folder depth name text (front ++ part ∷ rest) before fault
  within : {depth : ℕ} {name text : List ℕ} {front : List Part} {before now : Taken} {fault : AssembleFault} (rest : List Part) (span : Span) (line : ℕ) (inner : List ℕ) (all : List Part)
      → Takes folder depth name text front before now
      → Opens folder depth now (name_in text span) inner → IsReading inner all
      → Fails folder (suc depth) (name_in text span) inner all (opened now (name_in text span) inner) fault
      → Fails folder depth name text (front ++ parts.Line (directives.File span) line ∷ rest) before fault

-- the first fault of the unit of a name
pub data IsFirstFault (folder : Folder) (name : List ℕ) : AssembleFault → Type 0 where
  no_unit : folder name ≡ None → IsFirstFault folder name (faults.Missing name)
  large_unit : {text : List ℕ} → folder name ≡ Some text → most_bytes < length text → IsFirstFault folder name (faults.Large (most_bytes + 1))
  first : {text : List ℕ} {all : List Part} {fault : AssembleFault} → folder name ≡ Some text → length text ≤ most_bytes → IsReading text all
      → Fails folder 0 name text all (opened nothing_taken name text) fault → IsFirstFault folder name fault
