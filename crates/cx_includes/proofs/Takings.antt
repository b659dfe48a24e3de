-- The parts of a file one after the other, with the files that they include: what was taken, and what is at fault.
use Rattle.std.proofs.Common.{◌≡◌, ℕ, suc, ◌+◌, ◌<◌, ◌≤◌, List, [], ◌∷◌, ◌++◌, Option, Some, None, length, take, drop, get_or, refl, sym, ◌∙◌, ap, subst, arith, append_assoc, add-one, length-append}
use Rattle.std.specs.Prelude.{slice_get}
use Rattle.std.specs.List.{All}
use Rattle.std.proofs.lemmas.List.{append-nil, take_at, take_more, drop_more, take-append-drop, get_or_append_left}
use Rattle.std.proofs.lemmas.List.Elements.{All-nil, All-append, All-take}
use Rattle.std.proofs.lemmas.Option.{slice_get_within, get_or_from_slice_get}
use Rattle.cx_outside.specs.Folder.{Folder, WhereTold}
use Rattle.cx_includes.specs.declared.part.Part.{Part}
use Rattle.cx_includes.specs.declared.part.Part.TheVariants as parts
use Rattle.cx_includes.specs.declared.part.Spot.{Spot}
use Rattle.cx_includes.specs.declared.assembled.SourceFile.{SourceFile}
use Rattle.cx_includes.specs.declared.assembly.AssembleFault.{AssembleFault}
use Rattle.cx_includes.specs.declared.assembly.AssembleFault.TheVariants as faults
use Rattle.cx_includes.specs.declared.source.Source.{Source}
use Rattle.cx_includes.specs.declared.taking.Taking.{Taking}
use Rattle.cx_lexer.specs.declared.fault.LexFault.{LexFault}
use Rattle.cx_includes.specs.Directive.{name_in}
use Rattle.cx_includes.specs.Unit.{Taken, Takes}
use Rattle.cx_includes.specs.Fault.{IsAtFault, Fails}
use Rattle.cx_includes.specs.Taking.{source_at, no_source, taken, IsSound, IsPartWithin, Agrees, Goes, Grows, PartTakes, PartOpens, IsPartFault, IsFileFault, IsDue}

-- ---- parts

pub part_is : (folder : Folder) (name text : List ℕ) (before after : Taken) (part other : Part) → part ≡ other → PartTakes folder name text before other after → PartTakes folder name text before part after
part_is folder name text before after part other is takes = subst (λ p. PartTakes folder name text before p after) (sym is) takes

pub took : (folder : Folder) (name text : List ℕ) (before after other : Taken) (part : Part) → after ≡ other → PartTakes folder name text before part other → PartTakes folder name text before part after
took folder name text before after other part is takes = subst (PartTakes folder name text before part) (sym is) takes

pub due_bad : (content : Option Folder) (rose : Type 0) (t : Taking) (file : SourceFile) (part : Part) (line depth : ℕ) (other : List ℕ) → IsSound t → part ≡ parts.BadLine line → other ≡ file.name → IsDue content rose t (IsPartFault depth file (taken t) part) (faults.BadLine other line)
due_bad content rose t file part line depth other sound is own = (
  sound,
  λ folder agrees. subst (λ p. IsAtFault folder depth file.name file.text (taken t) p (faults.BadLine other line)) (sym is)
      (subst (λ n. IsAtFault folder depth file.name file.text (taken t) (parts.BadLine line) (faults.BadLine n line)) (sym own) IsAtFault.bad_line),
)

pub due_lexical : (content : Option Folder) (rose : Type 0) (t : Taking) (file : SourceFile) (part : Part) (fault : LexFault) (spot : Spot) (depth : ℕ) (other : List ℕ) → IsSound t → part ≡ parts.Fault fault spot → other ≡ file.name → IsDue content rose t (IsPartFault depth file (taken t) part) (faults.Lex other spot.line spot.column fault)
due_lexical content rose t file part fault spot depth other sound is own = (
  sound,
  λ folder agrees. subst (λ p. IsAtFault folder depth file.name file.text (taken t) p (faults.Lex other spot.line spot.column fault)) (sym is)
      (subst (λ n. IsAtFault folder depth file.name file.text (taken t) (parts.Fault fault spot) (faults.Lex n spot.line spot.column fault)) (sym own) IsAtFault.lexical),
)

-- ---- files

abbrev IsShort : Source → Type 0
IsShort source = length source.file.name ≤ 1024

pub goes_same : (content : Option Folder) (t : Taking) → Goes content t t
goes_same content t = record { grows = record { more = []; is = sym (append-nil t.sources.items); short = All-nil IsShort }; told = λ folder is agrees. agrees }

pub goes_then : (content : Option Folder) (a b c : Taking) → Goes content a b → Goes content b c → Goes content a c
goes_then content a b c x y = record {
  grows = record {
    more = x.grows.more ++ y.grows.more;
    is = y.grows.is ∙ ap (λ l. l ++ y.grows.more) x.grows.is ∙ append_assoc a.sources.items x.grows.more y.grows.more;
    short = All-append IsShort x.grows.more y.grows.more x.grows.short y.grows.short;
  };
  told = λ folder is agrees. y.told folder is (x.told folder is agrees);
}

pub agrees_before : (folder : Folder) (old new : Taking) → Grows old new → Agrees folder new → Agrees folder old
agrees_before folder old new grows agrees =
    let n = length old.sources.items in
    subst (All (λ (s : Source). folder s.file.name ≡ Some s.file.text)) (ap (take n) grows.is ∙ take_at old.sources.items grows.more n refl)
    (All-take (λ (s : Source). folder s.file.name ≡ Some s.file.text) n new.sources.items agrees)

pub source_kept : (old new : Taking) (file : ℕ) → Grows old new → file < length old.sources.items → source_at new file ≡ source_at old file
source_kept old new file grows inside = ap (λ l. get_or l file no_source) grows.is ∙ get_or_append_left old.sources.items grows.more no_source file inside

pub inside_kept : (old new : Taking) (file : ℕ) → Grows old new → file < length old.sources.items → file < length new.sources.items
inside_kept old new file grows inside = omega (arith, ap length grows.is, length-append old.sources.items grows.more)

-- ---- one part more

module _ (all : List Part) (next : ℕ) (part : Part) (there : slice_get all next ≡ Some part) where
  front_more : take (next + 1) all ≡ take next all ++ part ∷ []
  front_more = take_more all next part (slice_get_within all next part there) ∙ ap (λ p. take next all ++ p ∷ []) (get_or_from_slice_get all next part part there)

  whole_split : all ≡ take next all ++ part ∷ drop (next + 1) all
  whole_split =
      sym (take-append-drop next all)
      ∙ ap (λ l. take next all ++ l) (drop_more all next part (slice_get_within all next part there) ∙ ap (λ p. p ∷ drop (next + 1) all) (get_or_from_slice_get all next part part there))

pub lies : (t : Taking) (file next : ℕ) (part : Part) → IsSound t → file < length t.sources.items → slice_get (source_at t file).parts next ≡ Some part → IsPartWithin (source_at t file).file.text part
lies t file next part sound inside there =
    let source = sound.sources file no_source inside in
    let all = (source_at t file).parts in
    subst (IsPartWithin (source_at t file).file.text) (get_or_from_slice_get all next part part there) (source.within next part (slice_get_within all next part there))

part_taken : (folder : Folder) (depth : ℕ) (name text : List ℕ) (front : List Part) (part : Part) (before now after : Taken) → Takes folder depth name text front before now → PartTakes folder name text now part after → Takes folder depth name text (front ++ part ∷ []) before after
part_taken folder depth name text front part before now after takes (PartTakes.token {token = token} {spot = spot}) = Takes.token token spot takes
part_taken folder depth name text front part before now after takes (PartTakes.once {line = line}) = Takes.once line takes
part_taken folder depth name text front part before now after takes (PartTakes.contracts {line = line}) = Takes.contracts line takes
part_taken folder depth name text front part before now after takes (PartTakes.cstdio {line = line}) = Takes.cstdio line takes
part_taken folder depth name text front part before now after takes (PartTakes.again {span = span} {line = line} short once) = Takes.again span line takes short once

module _ (folder : Folder) (depth : ℕ) (a b : Taking) (file next : ℕ) (part : Part) (there : slice_get (source_at b file).parts next ≡ Some part) (same : source_at b file ≡ source_at a file)
    (takes : Takes folder depth (source_at a file).file.name (source_at a file).file.text (take next (source_at a file).parts) (taken a) (taken b)) where
  there_before : slice_get (source_at a file).parts next ≡ Some part
  there_before = ap (λ (s : Source). slice_get s.parts next) (sym same) ∙ there

  -- a part that opens no file
  pub next_part : (c : Taking) → PartTakes folder (source_at b file).file.name (source_at b file).file.text (taken b) part (taken c) → Takes folder depth (source_at a file).file.name (source_at a file).file.text (take (next + 1) (source_at a file).parts) (taken a) (taken c)
  next_part c one =
      subst (λ l. Takes folder depth (source_at a file).file.name (source_at a file).file.text l (taken a) (taken c)) (sym (front_more (source_at a file).parts next part there_before))
      (part_taken folder depth (source_at a file).file.name (source_at a file).file.text (take next (source_at a file).parts) part (taken a) (taken b) (taken c) takes
      (subst (λ (s : Source). PartTakes folder s.file.name s.file.text (taken b) part (taken c)) same one))

  -- a part that opens one
  pub next_file : (m c : Taking) (inner : ℕ) → PartOpens depth (source_at b file).file.text part b m inner → IsSound m → Agrees folder m
      → Takes folder (depth + 1) (source_at m inner).file.name (source_at m inner).file.text (source_at m inner).parts (taken m) (taken c)
      → Takes folder depth (source_at a file).file.name (source_at a file).file.text (take (next + 1) (source_at a file).parts) (taken a) (taken c)
  next_file m c inner opens_b sound agrees inner_takes =
      let text = (source_at a file).file.text in
      let opens = subst (λ (s : Source). PartOpens depth s.file.text part b m inner) same opens_b in
      let source = source_at m inner in
      let reading = (sound.sources inner no_source opens.inside).reading in
      let deeper = subst (λ d. Takes folder d source.file.name source.file.text source.parts (taken m) (taken c)) (add-one depth) inner_takes in
      let named = subst (λ n. Takes folder (suc depth) n source.file.text source.parts (taken m) (taken c)) opens.named deeper in
      let inside = subst (λ k. Takes folder (suc depth) (name_in text opens.span) source.file.text source.parts k (taken c)) opens.taken named in
      subst (λ l. Takes folder depth (source_at a file).file.name text l (taken a) (taken c)) (sym (front_more (source_at a file).parts next part there_before))
      (subst (λ p. Takes folder depth (source_at a file).file.name text (take next (source_at a file).parts ++ p ∷ []) (taken a) (taken c)) (sym opens.is)
      (Takes.include opens.span opens.line source.file.text source.parts takes (opens.opens folder agrees) reading inside))

  -- a part that is at fault, and one whose file is
  pub fails_here : (fault : AssembleFault) → IsPartFault depth (source_at b file).file (taken b) part folder fault → IsFileFault depth (source_at a file) (taken a) folder fault
  fails_here fault at =
      subst (λ l. Fails folder depth (source_at a file).file.name (source_at a file).file.text l (taken a) fault) (sym (whole_split (source_at a file).parts next part there_before))
      (Fails.here (drop (next + 1) (source_at a file).parts) takes (subst (λ (s : Source). IsPartFault depth s.file (taken b) part folder fault) same at))

  pub fails_within : (m : Taking) (inner : ℕ) (fault : AssembleFault) → PartOpens depth (source_at b file).file.text part b m inner → IsSound m → Agrees folder m → IsFileFault (depth + 1) (source_at m inner) (taken m) folder fault → IsFileFault depth (source_at a file) (taken a) folder fault
  fails_within m inner fault opens_b sound agrees inner_fails =
      let text = (source_at a file).file.text in
      let opens = subst (λ (s : Source). PartOpens depth s.file.text part b m inner) same opens_b in
      let source = source_at m inner in
      let reading = (sound.sources inner no_source opens.inside).reading in
      let deeper = subst (λ d. Fails folder d source.file.name source.file.text source.parts (taken m) fault) (add-one depth) inner_fails in
      let named = subst (λ n. Fails folder (suc depth) n source.file.text source.parts (taken m) fault) opens.named deeper in
      let inside = subst (λ k. Fails folder (suc depth) (name_in text opens.span) source.file.text source.parts k fault) opens.taken named in
      subst (λ l. Fails folder depth (source_at a file).file.name text l (taken a) fault) (sym (whole_split (source_at a file).parts next part there_before))
      (subst (λ p. Fails folder depth (source_at a file).file.name text (take next (source_at a file).parts ++ p ∷ drop (next + 1) (source_at a file).parts) (taken a) fault) (sym opens.is)
      (Fails.within (drop (next + 1) (source_at a file).parts) opens.span opens.line source.file.text source.parts takes (opens.opens folder agrees) reading inside))

-- ---- faults

pub due_weaker : (content : Option Folder) (rose rose' : Type 0) (t : Taking) (At At' : Folder → AssembleFault → Type 0) → (rose → rose') → ((folder : Folder) (fault : AssembleFault) → Agrees folder t → At folder fault → At' folder fault) → (fault : AssembleFault) → IsDue content rose t At fault → IsDue content rose' t At' fault
due_weaker content rose rose' t At At' more so fault due = by_fault fault due
  where
    told : (c : Option Folder) (f : AssembleFault) → WhereTold c (λ folder. Agrees folder t → At folder f) rose → WhereTold c (λ folder. Agrees folder t → At' folder f) rose'
    told None f h = more h
    told (Some folder) f h = λ agrees. so folder f agrees (h agrees)

    by_fault : (f : AssembleFault) → IsDue content rose t At f → IsDue content rose' t At' f
    by_fault faults.OutOfMemory h = tt
    by_fault (faults.Missing name) h = told content (faults.Missing name) h
    by_fault faults.Failed h = more h
    by_fault (faults.Lex a b c d) h = (h.0, λ folder agrees. so folder (faults.Lex a b c d) agrees (h.1 folder agrees))
    by_fault (faults.BadLine a b) h = (h.0, λ folder agrees. so folder (faults.BadLine a b) agrees (h.1 folder agrees))
    by_fault (faults.Depth a b) h = (h.0, λ folder agrees. so folder (faults.Depth a b) agrees (h.1 folder agrees))
    by_fault (faults.Large count) h = told content (faults.Large count) h

abbrev TakenSoFar : ℕ → Taking → Taking → ℕ → ℕ → Type 0
TakenSoFar depth a b file next = (folder : Folder) → Agrees folder b → Takes folder depth (source_at a file).file.name (source_at a file).file.text (take next (source_at a file).parts) (taken a) (taken b)

pub part_due : (content : Option Folder) (rose rose' : Type 0) (depth : ℕ) (a b n : Taking) (file next : ℕ) (part : Part) (fault : AssembleFault) → (rose → rose') → file < length a.sources.items → Grows a b → Grows b n → slice_get (source_at b file).parts next ≡ Some part → TakenSoFar depth a b file next
    → IsDue content rose n (IsPartFault depth (source_at b file).file (taken b) part) fault → IsDue content rose' n (IsFileFault depth (source_at a file) (taken a)) fault
part_due content rose rose' depth a b n file next part fault more inside before after there takes due =
    due_weaker content rose rose' n (IsPartFault depth (source_at b file).file (taken b) part) (IsFileFault depth (source_at a file) (taken a)) more
    (λ folder f agrees at. fails_here folder depth a b file next part there (source_kept a b file before inside) (takes folder (agrees_before folder b n after agrees)) f at) fault due

pub inner_due : (content : Option Folder) (rose rose' : Type 0) (depth : ℕ) (a b m n : Taking) (file next inner : ℕ) (part : Part) (fault : AssembleFault) → (rose → rose') → file < length a.sources.items → Grows a b → Grows b m → Grows m n → slice_get (source_at b file).parts next ≡ Some part → TakenSoFar depth a b file next
    → PartOpens depth (source_at b file).file.text part b m inner → IsSound m → IsDue content rose n (IsFileFault (depth + 1) (source_at m inner) (taken m)) fault → IsDue content rose' n (IsFileFault depth (source_at a file) (taken a)) fault
inner_due content rose rose' depth a b m n file next inner part fault more inside before between after there takes opens sound due =
    due_weaker content rose rose' n (IsFileFault (depth + 1) (source_at m inner) (taken m)) (IsFileFault depth (source_at a file) (taken a)) more
    (λ folder f agrees at.
    let agrees_m = agrees_before folder m n after agrees in
    fails_within folder depth a b file next part there (source_kept a b file before inside) (takes folder (agrees_before folder b m between agrees_m)) m inner f opens sound agrees_m at) fault due
