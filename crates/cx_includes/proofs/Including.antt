-- Include lines: which file was taken before, what is opened and what is at fault.
use Rattle.std.proofs.Common.{◌≡◌, Bool, true, false, not, ℕ, ◌+◌, ◌-◌, ◌<◌, ◌≤◌, List, [], ◌∷◌, Option, Some, None, length, drop, get_or, refl, sym, ◌∙◌, ap, subst, arith, ⊎_elim, MatchOption, length-drop, length-take-le}
use Rattle.std.specs.Prelude.{Contains, position, ⊤}
use Rattle.std.specs.List.{All, prefix_len}
use Rattle.std.specs.Str.{bytes_eq}
use Rattle.std.proofs.lemmas.List.{length-map, get_or-map, get_or_push, length_push}
use Rattle.std.proofs.lemmas.List.Sums.{prefix_len_passes}
use Rattle.std.proofs.lemmas.List.Elements.{Contains-get_or, All-nil, All-push}
use Rattle.std.proofs.lemmas.List.Quantifiers.{position-Some}
use Rattle.std.proofs.lemmas.Option.{same_Some, none-some}
use Rattle.std.proofs.lemmas.Slice.Eq.{bytes_eq-Decides}
use Rattle.std.proofs.lemmas.Bool.{true≢false, false≢true, cases_lt, cond-true, lt-ltb, not-true}
use Rattle.cx_outside.specs.Folder.{Folder, WhereTold}
use Rattle.cx_lexer.specs.declared.fault.LexFault.TheVariants as lex_faults
use Rattle.cx_includes.specs.declared.part.Directive.TheVariants as directives
use Rattle.cx_includes.specs.declared.part.Part.TheVariants as parts
use Rattle.cx_includes.specs.declared.part.Span.{Span}
use Rattle.cx_includes.specs.declared.assembled.SourceFile.{SourceFile}
use Rattle.cx_includes.specs.declared.assembly.AssembleFault.{AssembleFault}
use Rattle.cx_includes.specs.declared.assembly.AssembleFault.TheVariants as faults
use Rattle.cx_includes.specs.declared.source.Source.{Source}
use Rattle.cx_includes.specs.declared.taking.Taking.{Taking}
use Rattle.cx_includes.specs.Place.{column_at}
use Rattle.cx_includes.specs.Directive.{name_in}
use Rattle.cx_includes.specs.Unit.{Taken, most_bytes, most_open, longest_file_name, opened, IsTakenAlready}
use Rattle.cx_includes.specs.Parts.{IsReading}
use Rattle.cx_includes.specs.Fault.{IsAtFault}
use Rattle.cx_includes.specs.Taking.{index_in, source_at, no_source, names_of, taken, IsSound, Agrees, Goes, PartTakes, Passes, IsPartFault, IsDue, IsHad, IsRefused, Pushes}
use Rattle.cx_includes.proofs.OneReading.{one_reading}

-- a name that has no place among others is none of them
position_none : (p : List ℕ → Bool) (xs : List (List ℕ)) (k : ℕ) (d : List ℕ) → position p xs ≡ None → k < length xs → p (get_or xs k d) ≡ false
position_none p xs k d none inside =
    ⊎_elim
    (λ below. absurd (none-some _ (sym none ∙ cond-true _ _ _ (lt-ltb (prefix_len (λ x. not (p x)) xs) (length xs) below))))
    (λ past. not-true _ (prefix_len_passes (λ x. not (p x)) xs k d (omega arith)))
    (cases_lt (prefix_len (λ x. not (p x)) xs) (length xs))

module _ (t : Taking) (sound : IsSound t) (name : List ℕ) where
  -- the file that has the name
  pub known_inside : (k : ℕ) → index_in t.names name ≡ Some k → k < length t.sources.items
  known_inside k e =
      let there = position-Some (bytes_eq name) (names_of t.sources.items) k [] (sym (sound.indexed name) ∙ e) in
      omega (arith, there.0, length-map t.sources.items (λ (s : Source). s.file.name))

  named_there : (k : ℕ) → index_in t.names name ≡ Some k → get_or (names_of t.sources.items) k [] ≡ name
  named_there k e =
      let there = position-Some (bytes_eq name) (names_of t.sources.items) k [] (sym (sound.indexed name) ∙ e) in
      sym ((bytes_eq-Decides name (get_or (names_of t.sources.items) k [])).0 there.1)

  pub known_name : (k : ℕ) → index_in t.names name ≡ Some k → (source_at t k).file.name ≡ name
  known_name k e = sym (get_or-map (λ (s : Source). s.file.name) t.sources.items k no_source [] (known_inside k e)) ∙ named_there k e

  source_told : (folder : Folder) (k : ℕ) → Agrees folder t → index_in t.names name ≡ Some k → folder name ≡ Some (source_at t k).file.text
  source_told folder k agrees e = ap folder (sym (known_name k e)) ∙ agrees k no_source (known_inside k e)

  already : (folder : Folder) (k : ℕ) → Agrees folder t → index_in t.names name ≡ Some k → (source_at t k).once ≡ true → IsTakenAlready folder (taken t) name
  already folder k agrees e is_once =
      let source = sound.sources k no_source (known_inside k e) in
      let has = source.once.0 is_once in
      let inside : k < length (names_of t.sources.items) = omega (arith, known_inside k e, length-map t.sources.items (λ (s : Source). s.file.name)) in
      record {
        before = subst (Contains (names_of t.sources.items)) (named_there k e) (Contains-get_or (names_of t.sources.items) k [] inside);
        text = (source_at t k).file.text;
        told = source_told folder k agrees e;
        once = record { all = (source_at t k).parts; reading = source.reading; line = has.0; once = has.1 };
      }

  fresh_unknown : (folder : Folder) → index_in t.names name ≡ None → IsTakenAlready folder (taken t) name → ⊥
  fresh_unknown folder e before_too =
      let before = before_too.before in
      let none = position_none (bytes_eq name) (names_of t.sources.items) before.0 name (sym (sound.indexed name) ∙ e) before.1 in
      true≢false (sym ((bytes_eq-Decides name (get_or (names_of t.sources.items) before.0 name)).1 (sym before.2)) ∙ none)

  fresh_many : (folder : Folder) (k : ℕ) → Agrees folder t → index_in t.names name ≡ Some k → (source_at t k).once ≡ false → IsTakenAlready folder (taken t) name → ⊥
  fresh_many folder k agrees e many before =
      let source = sound.sources k no_source (known_inside k e) in
      let same = same_Some _ _ (sym before.told ∙ source_told folder k agrees e) in
      let one = one_reading (source_at t k).file.text before.once.all (source_at t k).parts (subst (λ x. IsReading x before.once.all) same before.once.reading) source.reading in
      true≢false (sym (source.once.1 (before.once.line, subst (λ l. Contains l (parts.Line directives.Once before.once.line)) one before.once.once)) ∙ many)

  -- a file isn't taken already
  pub fresh : (known : Option ℕ) (once : Bool) → index_in t.names name ≡ known → MatchOption known (once ≡ false) (λ k. once ≡ (source_at t k).once) → once ≡ false → (folder : Folder) → Agrees folder t → IsTakenAlready folder (taken t) name → ⊥
  fresh None once e tells many folder agrees = fresh_unknown folder e
  fresh (Some k) once e tells many folder agrees = fresh_many folder k agrees e (sym tells ∙ many)

  -- or it is
  pub passed_again : (known : Option ℕ) (once : Bool) → index_in t.names name ≡ known → MatchOption known (once ≡ false) (λ k. once ≡ (source_at t k).once) → once ≡ true → (file : SourceFile) (span : Span) (line depth : ℕ) → name ≡ name_in file.text span → length name ≤ longest_file_name
      → Passes depth file (parts.Line (directives.File span) line) t t None
  passed_again None once e tells is_once file span line depth same short = absurd (false≢true (sym tells ∙ is_once))
  passed_again (Some k) once e tells is_once file span line depth same short = λ folder agrees.
      PartTakes.again (subst (λ n. length n ≤ longest_file_name) same short) (subst (IsTakenAlready folder (taken t)) same (already folder k agrees e (sym tells ∙ is_once)))

-- the file of a known name is opened once more
pub opens_again : (old new : Taking) (sound : IsSound old) (name : List ℕ) (k : ℕ) (once : Bool) (file : SourceFile) (span : Span) (line depth : ℕ) → index_in old.names name ≡ Some k → once ≡ (source_at old k).once → once ≡ false → name ≡ name_in file.text span → length name ≤ longest_file_name → depth < most_open
    → new.sources ≡ old.sources → taken new ≡ opened (taken old) (source_at old k).file.name (source_at old k).file.text → new.bytes ≤ most_bytes → Passes depth file (parts.Line (directives.File span) line) old new (Some k)
opens_again old new sound name k once file span line depth e tells many same short shallow sources took fits =
    let items = ap (λ v. v.items) sources in
    let here : source_at new k ≡ source_at old k = ap (λ l. get_or l k no_source) items in
    let named = known_name old sound name k e in
    let bytes : new.bytes ≡ old.bytes + length (source_at old k).file.text = ap (λ (x : Taken). x.bytes) took in
    record {
      span = span;
      line = line;
      is = refl;
      inside = subst (λ l. k < length l) (sym items) (known_inside old sound name k e);
      shallow = shallow;
      named = ap (λ (s : Source). s.file.name) here ∙ named ∙ same;
      opens = λ folder agrees.
          let before = subst (All (λ (s : Source). folder s.file.name ≡ Some s.file.text)) items agrees in
          let told = source_told old sound name folder k before e in
          record {
            short = subst (λ n. length n ≤ longest_file_name) same short;
            fresh = subst (λ n. IsTakenAlready folder (taken old) n → ⊥) same (fresh old sound name (Some k) once e tells many folder before);
            shallow = shallow;
            told = ap folder (sym same) ∙ told ∙ ap Some (sym (ap (λ (s : Source). s.file.text) here));
            small = subst (λ (s : Source). old.bytes + length s.file.text ≤ most_bytes) (sym here) (omega arith);
          };
      taken = took ∙ (λ i. opened (taken old) ((named ∙ same) i) (source_at old k).file.text) ∙ ap (λ (s : Source). opened (taken old) (name_in file.text span) s.file.text) (sym here);
    }

pub grows_pushed : (content : Option Folder) (old new : Taking) (name : List ℕ) (k : ℕ) → length name ≤ longest_file_name → Pushes content name old new k → Goes content old new
grows_pushed content old new name k short pushed = record {
  grows = record { more = pushed.source ∷ []; is = pushed.is; short = All-push (λ (s : Source). length s.file.name ≤ 1024) [] pushed.source (All-nil (λ (s : Source). length s.file.name ≤ 1024)) (subst (λ n. length n ≤ 1024) (sym pushed.named) short) };
  told = λ folder is agrees. subst (All (λ (s : Source). folder s.file.name ≡ Some s.file.text)) (sym pushed.is) (All-push (λ (s : Source). folder s.file.name ≡ Some s.file.text) old.sources.items pushed.source agrees
      (ap folder pushed.named ∙ subst (λ c. WhereTold c (λ f. f name ≡ Some pushed.source.file.text) ⊤) is pushed.told));
}

-- a file is opened for the first time
pub opens_first : (content : Option Folder) (old new : Taking) (sound : IsSound old) (name : List ℕ) (k : ℕ) (file : SourceFile) (span : Span) (line depth : ℕ) → index_in old.names name ≡ None → name ≡ name_in file.text span → length name ≤ longest_file_name → depth < most_open
    → Pushes content name old new k → Passes depth file (parts.Line (directives.File span) line) old new (Some k)
opens_first content old new sound name k file span line depth e same short shallow pushed =
    let source = pushed.source in
    let here : source_at new k ≡ source = ap (λ l. get_or l k no_source) pushed.is ∙ get_or_push old.sources.items source no_source k (sym pushed.last) in
    let inside : k < length new.sources.items = omega (arith, pushed.last, ap length pushed.is, length_push old.sources.items source) in
    record {
      span = span;
      line = line;
      is = refl;
      inside = inside;
      shallow = shallow;
      named = ap (λ (s : Source). s.file.name) here ∙ pushed.named ∙ same;
      opens = λ folder agrees. record {
        short = subst (λ n. length n ≤ longest_file_name) same short;
        fresh = subst (λ n. IsTakenAlready folder (taken old) n → ⊥) same (fresh_unknown old sound name folder e);
        shallow = shallow;
        told = ap folder (sym same ∙ sym pushed.named ∙ ap (λ (s : Source). s.file.name) (sym here)) ∙ agrees k no_source inside;
        small = subst (λ (s : Source). old.bytes + length s.file.text ≤ most_bytes) (sym here) pushed.fits;
      };
      taken = pushed.taken ∙ (λ i. opened (taken old) (same i) source.file.text) ∙ ap (λ (s : Source). opened (taken old) (name_in file.text span) s.file.text) (sym here);
    }

-- faults of an include line
pub due_long : (content : Option Folder) (rose : Type 0) (t : Taking) (file : SourceFile) (span : Span) (line depth : ℕ) (name : List ℕ) (fault : AssembleFault) → IsSound t → span.start ≤ span.end → span.end ≤ length file.text → name ≡ name_in file.text span → longest_file_name < length name
    → fault ≡ faults.Lex file.name line (column_at file.text span.start) (lex_faults.LongName span.start (span.end - span.start)) → IsDue content rose t (IsPartFault depth file (taken t) (parts.Line (directives.File span) line)) fault
due_long content rose t file span line depth name fault sound ordered lies same long is =
    let behind = length-drop span.start file.text in
    let count : length (name_in file.text span) ≡ span.end - span.start = length-take-le (span.end - span.start) (drop span.start file.text) (omega arith) in
    subst (IsDue content rose t (IsPartFault depth file (taken t) (parts.Line (directives.File span) line))) (sym is) (
      sound,
      λ folder agrees. subst (λ n. IsAtFault folder depth file.name file.text (taken t) (parts.Line (directives.File span) line) (faults.Lex file.name line (column_at file.text span.start) (lex_faults.LongName span.start n))) count
          (IsAtFault.long_name (subst (λ n. longest_file_name < length n) same long)),
    )

pub due_deep : (content : Option Folder) (rose : Type 0) (t : Taking) (file : SourceFile) (span : Span) (line depth : ℕ) (name other : List ℕ) → IsSound t → name ≡ name_in file.text span → length name ≤ longest_file_name → other ≡ file.name → most_open ≤ depth
    → ((folder : Folder) → Agrees folder t → IsTakenAlready folder (taken t) name → ⊥) → IsDue content rose t (IsPartFault depth file (taken t) (parts.Line (directives.File span) line)) (faults.Depth other line)
due_deep content rose t file span line depth name other sound same short own deep new = (
  sound,
  λ folder agrees. subst (λ n. IsAtFault folder depth file.name file.text (taken t) (parts.Line (directives.File span) line) (faults.Depth n line)) (sym own)
      (IsAtFault.deep (subst (λ n. length n ≤ longest_file_name) same short) (subst (λ n. IsTakenAlready folder (taken t) n → ⊥) same (new folder agrees)) deep),
)

at_refused : (folder : Folder) (t : Taking) (file : SourceFile) (span : Span) (line depth : ℕ) (fault : AssembleFault) → length (name_in file.text span) ≤ longest_file_name → (IsTakenAlready folder (taken t) (name_in file.text span) → ⊥) → depth < most_open
    → IsRefused (name_in file.text span) t.bytes folder fault → IsPartFault depth file (taken t) (parts.Line (directives.File span) line) folder fault
at_refused folder t file span line depth fault short new shallow (IsRefused.missing told) = IsAtFault.missing short shallow told
at_refused folder t file span line depth fault short new shallow (IsRefused.large told much) = IsAtFault.large short new shallow told much

pub due_refused : (content : Option Folder) (rose : Type 0) (old new : Taking) (file : SourceFile) (span : Span) (line depth : ℕ) (name : List ℕ) (fault : AssembleFault) → new.sources.items ≡ old.sources.items → name ≡ name_in file.text span → length name ≤ longest_file_name → depth < most_open
    → ((folder : Folder) → Agrees folder old → IsTakenAlready folder (taken old) name → ⊥) → IsHad content rose name old.bytes fault → IsDue content rose new (IsPartFault depth file (taken old) (parts.Line (directives.File span) line)) fault
due_refused content rose old new file span line depth name fault items same short shallow unlike had = by_fault fault (subst (λ n. IsHad content rose n old.bytes fault) same had)
  where
    at : (folder : Folder) (f : AssembleFault) → Agrees folder new → IsRefused (name_in file.text span) old.bytes folder f → IsPartFault depth file (taken old) (parts.Line (directives.File span) line) folder f
    at folder f agrees refused =
        at_refused folder old file span line depth f (subst (λ n. length n ≤ longest_file_name) same short)
        (subst (λ n. IsTakenAlready folder (taken old) n → ⊥) same (unlike folder (subst (All (λ (s : Source). folder s.file.name ≡ Some s.file.text)) items agrees))) shallow refused

    where_told : (c : Option Folder) (f : AssembleFault) → WhereTold c (λ folder. IsRefused (name_in file.text span) old.bytes folder f) rose → WhereTold c (λ folder. Agrees folder new → IsPartFault depth file (taken old) (parts.Line (directives.File span) line) folder f) rose
    where_told None f told = told
    where_told (Some folder) f told = λ agrees. at folder f agrees told

    by_fault : (f : AssembleFault) → IsHad content rose (name_in file.text span) old.bytes f → IsDue content rose new (IsPartFault depth file (taken old) (parts.Line (directives.File span) line)) f
    by_fault faults.OutOfMemory h = tt
    by_fault (faults.Missing other) h = where_told content (faults.Missing other) h
    by_fault faults.Failed h = h
    by_fault (faults.Lex a b c d) h = absurd h
    by_fault (faults.BadLine a b) h = absurd h
    by_fault (faults.Depth a b) h = absurd h
    by_fault (faults.Large count) h = where_told content (faults.Large count) h
