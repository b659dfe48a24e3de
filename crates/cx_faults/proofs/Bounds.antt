-- How long an assembled list and its first file can be.
use Rattle.std.proofs.Common.{◌≡◌, ℕ, zero, suc, ◌+◌, ◌<◌, ◌≤◌, ◌==◌, Bool, true, false, not, List, [], ◌∷◌, ◌++◌, Option, Some, None, length, map, drop, if◌then◌else◌, refl, sym, ap, ◌∙◌, arith, length-append}
use Rattle.std.specs.Prelude.{slice_get, position, is_some}
use Rattle.std.specs.Str.{bytes_eq}
use Rattle.std.specs.List.{All}
use Rattle.std.proofs.lemmas.List.{length-drop}
use Rattle.std.proofs.lemmas.List.Elements.{All-head}
use Rattle.std.proofs.lemmas.List.Sums.{prefix_len-le-length}
use Rattle.cx_outside.specs.Folder.{Folder}
use Rattle.cx_lexer.specs.Bytes.{newline}
use Rattle.cx_lexer.proofs.Unique.{gap_takes, lexeme_takes}
use Rattle.cx_includes.specs.declared.part.Directive.TheVariants as directives
use Rattle.cx_includes.specs.declared.part.Part.{Part}
use Rattle.cx_includes.specs.declared.part.Part.TheVariants as parts
use Rattle.cx_includes.specs.declared.assembled.Placed.{Placed}
use Rattle.cx_includes.specs.Place.{spot_at}
use Rattle.cx_includes.specs.Directive.{name_in}
use Rattle.cx_includes.specs.declared.assembled.Assembled.{Assembled}
use Rattle.cx_includes.specs.declared.assembled.SourceFile.{SourceFile}
use Rattle.cx_includes.specs.Parts.{IsReading, ReadsTo, IsLine, fault_place}
use Rattle.cx_includes.specs.Unit.{Taken, Takes, opened, nothing_taken, most_bytes, index_of, with_file}
use Rattle.cx_includes.specs.Assembled.{IsListOf, taken_of}
use Rattle.cx_faults.specs.Faults.{text_of_file}

-- how many tokens the parts are
abbrev one_token : Part → ℕ
one_token (parts.Token token spot) = 1
one_token part = 0

abbrev token_count : List Part → ℕ
token_count [] = 0
token_count (part ∷ all) = one_token part + token_count all

count_on : (front all : List Part) → token_count (front ++ all) ≡ token_count front + token_count all
count_on [] all = omega arith
count_on (part ∷ front) all = let more = count_on front all in omega (arith, more)

-- as many tokens as bytes, at most
count_within : (text : List ℕ) (p : ℕ) (front : List Part) → ReadsTo text p front → (token_count front ≤ p) × (p ≤ length text)
count_within text p front ReadsTo.start = (omega arith, omega arith)
count_within text p front (ReadsTo.gap {p = q} {n = n} reads one) =
    let before = count_within text q front reads in
    let fits = gap_takes one in
    (omega (arith, before.0), omega (arith, before.1, fits.1, length-drop q text))
count_within text p front (ReadsTo.token {p = q} {n = n} {front = earlier} {kind = kind} reads one good) =
    let before = count_within text q earlier reads in
    let some = lexeme_takes kind (drop q text) n one in
    (omega (arith, before.0, some, count_on earlier (parts.Token (record { kind = kind; start = q; end = q + n }) (spot_at text q) ∷ [])), omega (arith, before.1, one.within, length-drop q text))
count_within text p front (ReadsTo.line {p = q} {front = earlier} {part = part} reads one) =
    let before = count_within text q earlier reads in
    let fits = prefix_len-le-length (λ (b : ℕ). not (b == newline)) (drop q text) in
    (omega (arith, before.0, no_token text q part one, count_on earlier (part ∷ [])), omega (arith, before.1, fits, length-drop q text))
  where
    no_token : (text : List ℕ) (p : ℕ) (part : Part) → IsLine text p part → one_token part ≡ 0
    no_token text p part (IsLine.formed form) = refl
    no_token text p part (IsLine.bad begins none) = refl

count_read : (text : List ℕ) (all : List Part) → IsReading text all → token_count all ≤ length text
count_read text all (IsReading.whole reads) = (count_within text (length text) all reads).0
count_read text all (IsReading.broken {p = p} {front = front} {fault = fault} reads none cause) =
    let before = count_within text p front reads in
    omega (arith, before.0, before.1, count_on front (parts.Fault fault (spot_at text (fault_place fault)) ∷ []))

-- what is taken: no more tokens than bytes, no more bytes than are allowed, and the first file stays
record Grows (before after : Taken) (tokens : ℕ) : Type 0 where
  few : length after.tokens + before.bytes ≤ length before.tokens + tokens + after.bytes
  small : before.bytes ≤ most_bytes → after.bytes ≤ most_bytes
  first : (name : List ℕ) → slice_get before.files 0 ≡ Some name → slice_get after.files 0 ≡ Some name

first_with : (files : List (List ℕ)) (new name : List ℕ) → slice_get files 0 ≡ Some name → slice_get (with_file files new) 0 ≡ Some name
first_with [] new name e = cc
first_with (file ∷ files) new name e =
    elim (is_some (position (bytes_eq new) (file ∷ files))) as (λ (b : Bool). slice_get (if b then file ∷ files else (file ∷ files) ++ new ∷ []) 0 ≡ Some name) [ true ↦ e | false ↦ e ]

grows : (folder : Folder) (depth : ℕ) (name text : List ℕ) (all : List Part) (before after : Taken) → Takes folder depth name text all before after → Grows before after (token_count all)
grows folder depth name text all before after Takes.none = record { few = omega arith; small = λ le. le; first = λ name e. e }
grows folder depth name text all before after (Takes.token {front = front} {now = now} token spot takes) =
    let more = grows folder depth name text front before now takes in
    let added : Placed = record { token = token; file = index_of now.files name; line = spot.line; column = spot.column } in
    record {
      few = omega (arith, more.few, length-append now.tokens (added ∷ []), count_on front (parts.Token token spot ∷ []));
      small = more.small;
      first = more.first;
    }
grows folder depth name text all before after (Takes.once {front = front} {now = now} line takes) =
    let more = grows folder depth name text front before now takes in
    record { few = omega (arith, more.few, count_on front (parts.Line directives.Once line ∷ [])); small = more.small; first = more.first }
grows folder depth name text all before after (Takes.contracts {front = front} {now = now} line takes) =
    let more = grows folder depth name text front before now takes in
    record { few = omega (arith, more.few, count_on front (parts.Line directives.Contracts line ∷ [])); small = more.small; first = more.first }
grows folder depth name text all before after (Takes.cstdio {front = front} {now = now} line takes) =
    let more = grows folder depth name text front before now takes in
    record { few = omega (arith, more.few, count_on front (parts.Line directives.Cstdio line ∷ [])); small = more.small; first = more.first }
grows folder depth name text all before after (Takes.again {front = front} {now = now} span line takes short taken) =
    let more = grows folder depth name text front before now takes in
    record { few = omega (arith, more.few, count_on front (parts.Line (directives.File span) line ∷ [])); small = more.small; first = more.first }
grows folder depth name text all before after (Takes.include {front = front} {now = now} {after = last} span line inner parts_within takes opens reading within) =
    let more = grows folder depth name text front before now takes in
    let deeper = grows folder (suc depth) (name_in text span) inner parts_within (opened now (name_in text span) inner) last within in
    let fits = count_read inner parts_within reading in
    record {
      few = omega (arith, more.few, deeper.few, fits, count_on front (parts.Line (directives.File span) line ∷ []));
      small = λ le. deeper.small opens.small;
      first = λ file e. deeper.first file (first_with now.files (name_in text span) file (more.first file e));
    }

-- ---- the list

-- no more tokens than a unit may have bytes, and its own file is the first
pub record IsBounded (list : Assembled) : Type 0 where
  pub few : length list.placed ≤ most_bytes
  pub some : 0 < length list.files
  pub short : length (text_of_file list 0) ≤ most_bytes

some_is : (a b : List ℕ) → Some a ≡ Some b → a ≡ b
some_is a b e = cc

first_file : (folder : Folder) (list : Assembled) (files : List SourceFile) (name text : List ℕ) → files ≡ list.files → slice_get (map (λ (file : SourceFile). file.name) files) 0 ≡ Some name → folder name ≡ Some text
    → All (λ (file : SourceFile). folder file.name ≡ Some file.text) files → (0 < length list.files) × (text_of_file list 0 ≡ text)
first_file folder list [] name text same first told texts = absurd (cc)
first_file folder list (file ∷ files) name text same first told texts =
    let named : file.name ≡ name = some_is file.name name first in
    let its : folder file.name ≡ Some file.text = All-head (λ (file : SourceFile). folder file.name ≡ Some file.text) file files texts in
    let text_is : file.text ≡ text = some_is file.text text (sym its ∙ ap folder named ∙ told) in
    (rw (sym same) (omega arith), rw (sym same) text_is)

pub bounded : (folder : Folder) (name : List ℕ) (list : Assembled) → IsListOf folder name list → IsBounded list
bounded folder name list is =
    let assembled = is.assembled in
    let grown = grows folder 0 name assembled.text assembled.all (opened nothing_taken name assembled.text) (taken_of list is.bytes) assembled.takes in
    let fits = count_read assembled.text assembled.all assembled.reading in
    let small = grown.small (omega (arith, assembled.small)) in
    let own = first_file folder list list.files name assembled.text refl (grown.first name refl) assembled.told is.texts in
    record { few = omega (arith, grown.few, fits, small); some = own.0; short = rw own.1 assembled.small }
