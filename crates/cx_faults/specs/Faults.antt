-- The first fault of an assembled list: how many tokens may be open, which is this project's own, and where it isn't grammatical, after [gram].
use Rattle.std.specs.Prelude.{◌≡◌, ◌⊎◌, ℕ, ◌<◌, ◌≤◌, List, [], map, length, Option, Some, None, Result, Ok, Err, slice_get, unwrap_or, ⊤}
use Rattle.std.specs.Option.{option_map}
use Rattle.cx_outside.specs.Folder.{Folder}
use Rattle.cx_syntax.specs.Spell.{Marks}
use Rattle.cx_syntax.specs.Place.{Grammatical, IsPlace}
use Rattle.cx_marks.specs.declared.spelled.Spelled.{Spelled}
use Rattle.cx_marks.specs.Marks.{Tokens, marks}
use Rattle.cx_includes.specs.declared.assembled.Assembled.{Assembled}
use Rattle.cx_includes.specs.declared.assembled.Placed.{Placed}
use Rattle.cx_includes.specs.declared.assembled.SourceFile.{SourceFile}
use Rattle.cx_includes.specs.Place.{line_at, column_at}
use Rattle.cx_includes.specs.OpenTokens.{most_open_tokens, shape_of}
use Rattle.cx_includes.specs.Assembled.{IsListOf, bytes_of_placed}
use Rattle.cx_faults.specs.declared.fault.FaultPlace.{FaultPlace}
use Rattle.cx_faults.specs.declared.fault.ListFault.{ListFault}
use Rattle.cx_faults.specs.declared.fault.ListFault.TheVariants as faults

-- the list is one that is assembled of some files
abbrev pub IsList : Assembled → Type 0
IsList list = (folder : Folder) × (name : List ℕ) × IsListOf folder name list

-- ---- open tokens

abbrev pub open_count : Assembled → ℕ
open_count list = most_open_tokens (map (λ (placed : Placed). shape_of (bytes_of_placed list placed)) list.placed)

-- as many tokens may be open at one place
abbrev pub most_open : ℕ
most_open = 1024

-- ---- marks

-- a token by its class and its bytes, as if they lay nowhere
abbrev pub token_at : Assembled → Placed → Spelled
token_at list placed = record { kind = placed.token.kind; bytes = record { ref_ptr = (0, 0); now = bytes_of_placed list placed } }

abbrev pub tokens_of : Assembled → Tokens
tokens_of list = map (token_at list) list.placed

-- what the grammar asks of the tokens
abbrev pub marks_of : Assembled → Marks
marks_of list = marks (tokens_of list)

-- ---- places

abbrev pub text_of_file : Assembled → ℕ → List ℕ
text_of_file list file = unwrap_or (option_map (λ (source : SourceFile). source.text) (slice_get list.files file)) []

-- behind the last byte of the unit's own file
abbrev pub end_of : Assembled → FaultPlace
end_of list =
    let text = text_of_file list 0 in
    record { file = 0; line = line_at text (length text); column = column_at text (length text) }

-- where a token stands, or the end
abbrev pub place_of : Assembled → Option Placed → FaultPlace
place_of list None = end_of list
place_of list (Some placed) = record { file = placed.file; line = placed.line; column = placed.column }

-- ---- the first fault

pub data IsListFault (list : Assembled) : ListFault → Type 0 where
  opened : most_open < open_count list → IsListFault list (faults.OpenTokens (open_count list))
  syntax : open_count list ≤ most_open → (place : ℕ) → IsPlace (marks_of list) place → IsListFault list (faults.Syntax (place_of list (slice_get list.placed place)))

-- few tokens are open, and the list is grammatical
pub record IsFaultless (list : Assembled) : Type 0 where
  pub shallow : open_count list ≤ most_open
  pub grammatical : Grammatical (marks_of list)

-- why a call gives no answer on a list
abbrev pub IsCause : Assembled → ListFault → Type 0
IsCause list faults.OutOfMemory = ⊤
IsCause list fault = IsListFault list fault

-- what has a fault gets it, or want of memory
abbrev pub GetsFault : {X : Type 0} → ListFault → Result X ListFault → Type 0
GetsFault fault (Ok x) = ⊥
GetsFault fault (Err gets) = (gets ≡ fault) ⊎ (gets ≡ faults.OutOfMemory)

-- the file of a fault's place is one of the list's
abbrev pub HasFile : Assembled → ListFault → Type 0
HasFile list (faults.Syntax place) = place.file < length list.files
HasFile list fault = ⊤
