-- The list of a unit, and its first fault, over files that tell what they hold and over files that tell nothing.
use Rattle.std.proofs.Common.{◌≡◌, Bool, true, false, ℕ, zero, suc, ◌<◌, ◌≤◌, List, [], ◌∷◌, ◌++◌, Option, Some, None, length, map, max, get_or, refl, sym, ◌∙◌, ap, subst, arith}
use Rattle.std.specs.Prelude.{option_map, ⊤}
use Rattle.std.specs.List.{All, find}
use Rattle.std.specs.Str.{bytes_eq}
use Rattle.std.proofs.lemmas.List.{length-map, get_or-map, get_or_push, get_or_default, length_push}
use Rattle.std.proofs.lemmas.List.Elements.{All-nil, All-push, All-append, All-map, All-weaker}
use Rattle.std.proofs.lemmas.List.Quantifiers.{position-Some}
use Rattle.std.proofs.lemmas.Slice.Eq.{bytes_eq-Decides}
use Rattle.std.proofs.lemmas.Bool.{true≢false, false_from_ne_true, cond-true, cond-false}
use Rattle.cx_outside.specs.Folder.{Folder, WhereTold}
use Rattle.cx_includes.specs.declared.assembled.Assembled.{Assembled}
use Rattle.cx_includes.specs.declared.assembled.SourceFile.{SourceFile}
use Rattle.cx_includes.specs.declared.assembly.AssembleFault.{AssembleFault}
use Rattle.cx_includes.specs.declared.assembly.AssembleFault.TheVariants as faults
use Rattle.cx_includes.specs.declared.source.Source.{Source}
use Rattle.cx_includes.specs.declared.taking.Taking.{Taking}
use Rattle.cx_includes.specs.Unit.{Taken, Takes, nothing_taken, opened, most_bytes}
use Rattle.cx_includes.specs.Fault.{Fails, IsFirstFault}
use Rattle.cx_includes.specs.Assembled.{taken_of, IsListOf, IsListOver, folder_of, HasCause}
use Rattle.cx_includes.proofs.Takings.{agrees_before}
use Rattle.cx_includes.specs.Taking.{source_at, no_source, files_of, names_of, taken, IsSound, Agrees, Goes, TakesFile, IsFileFault, IsDue, IsHad, IsRefused, Pushes, IsFinished}

-- ---- the files that were read, as a folder

find_first : (p : SourceFile → Bool) (xs : List SourceFile) (k : ℕ) (d : SourceFile) → k < length xs → p (get_or xs k d) ≡ true → ((j : ℕ) → j < k → p (get_or xs j d) ≡ false) → find p xs ≡ Some (get_or xs k d)
find_first p [] k d inside here before = absurd (omega arith)
find_first p (x ∷ xs) zero d inside here before = cond-true _ _ _ here
find_first p (x ∷ xs) (suc k) d inside here before = cond-false _ _ _ (before 0 (omega arith)) ∙ find_first p xs k d (omega arith) here (λ j below. before (suc j) (omega arith))

turned : (a b : List ℕ) → bytes_eq a b ≡ false → bytes_eq b a ≡ false
turned a b apart = false_from_ne_true _ (λ same. true≢false (sym ((bytes_eq-Decides a b).1 (sym ((bytes_eq-Decides b a).0 same))) ∙ apart))

abbrev no_file : SourceFile
no_file = no_source.file

name_at : (t : Taking) (k : ℕ) → k < length t.sources.items → get_or (names_of t.sources.items) k [] ≡ (source_at t k).file.name
name_at t k inside = get_or-map (λ (s : Source). s.file.name) t.sources.items k no_source [] inside

file_at : (t : Taking) (k : ℕ) → k < length t.sources.items → get_or (files_of t.sources.items) k no_file ≡ (source_at t k).file
file_at t k inside = get_or-map (λ (s : Source). s.file) t.sources.items k no_source no_file inside

found : (t : Taking) (k : ℕ) → IsSound t → k < length t.sources.items → find (λ (f : SourceFile). bytes_eq f.name (source_at t k).file.name) (files_of t.sources.items) ≡ Some (source_at t k).file
found t k sound inside =
    let name = (source_at t k).file.name in
    let there = position-Some (bytes_eq name) (names_of t.sources.items) k [] (sound.distinct k inside) in
    let count = length-map t.sources.items (λ (s : Source). s.file) in
    find_first (λ (f : SourceFile). bytes_eq f.name name) (files_of t.sources.items) k no_file (omega arith)
    (ap (λ (f : SourceFile). bytes_eq f.name name) (file_at t k inside) ∙ (bytes_eq-Decides name name).1 refl)
    (λ j below. ap (λ (f : SourceFile). bytes_eq f.name name) (file_at t j (omega arith)) ∙ turned name (source_at t j).file.name (ap (bytes_eq name) (sym (name_at t j (omega arith))) ∙ there.2 j below))
    ∙ ap Some (file_at t k inside)

own_folder : (t : Taking) → IsSound t → Agrees (folder_of (files_of t.sources.items)) t
own_folder t sound = λ k d inside.
    subst (λ (s : Source). folder_of (files_of t.sources.items) s.file.name ≡ Some s.file.text) (get_or_default t.sources.items k no_source d inside)
    (ap (option_map (λ (f : SourceFile). f.text)) (found t k sound inside))

-- ---- the list

names_are : (sources : List Source) → map (λ (f : SourceFile). f.name) (files_of sources) ≡ names_of sources
names_are [] = refl
names_are (s ∷ sources) = ap (λ l. s.file.name ∷ l) (names_are sources)

module _ (content : Option Folder) (name : List ℕ) (a m n : Taking) (file : ℕ) (nothing : taken a ≡ nothing_taken) (none : a.sources.items ≡ []) (pushed : Pushes content name a m file) (sound_m : IsSound m) where
  source_is : source_at m file ≡ pushed.source
  source_is = ap (λ l. get_or l file no_source) pushed.is ∙ get_or_push a.sources.items pushed.source no_source file (sym pushed.last)

  inside_m : file < length m.sources.items
  inside_m = omega (arith, pushed.last, ap length pushed.is, length_push a.sources.items pushed.source)

  no_bytes : a.bytes ≡ 0
  no_bytes = ap (λ (t : Taken). t.bytes) nothing

  small : length (source_at m file).file.text ≤ most_bytes
  small = subst (λ (s : Source). length s.file.text ≤ most_bytes) (sym source_is) (omega (arith, pushed.fits, no_bytes))

  named : (source_at m file).file.name ≡ name
  named = ap (λ (s : Source). s.file.name) source_is ∙ pushed.named

  taken_first : taken m ≡ opened nothing_taken name (source_at m file).file.text
  taken_first = pushed.taken ∙ (λ i. opened (nothing i) name (sym source_is i).file.text)

  told_by : (folder : Folder) → Agrees folder m → folder name ≡ Some (source_at m file).file.text
  told_by folder agrees = ap folder (sym named) ∙ agrees file no_source inside_m

  pub list_of : (folder : Folder) (unit : Assembled) → TakesFile 0 (source_at m file) m n → Agrees folder m → Agrees folder n → IsFinished n unit → IsListOf folder name unit
  list_of folder unit takes agrees_m agrees end =
      let source = source_at m file in
      let taken_end : taken n ≡ taken_of unit n.bytes = λ i. record { files = (sym (names_are n.sources.items) ∙ ap (map (λ (f : SourceFile). f.name)) (sym end.files)) i; bytes = n.bytes; tokens = sym end.placed i; contracts = sym end.contracts i; cstdio = sym end.cstdio i } in
      record {
        bytes = n.bytes;
        assembled = record {
          text = source.file.text;
          told = told_by folder agrees_m;
          small = small;
          all = source.parts;
          reading = (sound_m.sources file no_source inside_m).reading;
          takes = subst (Takes folder 0 name source.file.text source.parts (opened nothing_taken name source.file.text)) taken_end
              (subst (λ k. Takes folder 0 name source.file.text source.parts k (taken n)) taken_first
              (subst (λ k. Takes folder 0 k source.file.text source.parts (taken m) (taken n)) named (takes folder agrees)));
        };
        texts = subst (All (λ (f : SourceFile). folder f.name ≡ Some f.text)) (sym end.files) (All-map (λ (f : SourceFile). folder f.name ≡ Some f.text) (λ (s : Source). s.file) n.sources.items agrees);
      }

  -- where the files tell what they hold, that is what was read
  pub agrees_first : (folder : Folder) → content ≡ Some folder → Agrees folder m
  agrees_first folder is =
      subst (All (λ (s : Source). folder s.file.name ≡ Some s.file.text)) (sym (pushed.is ∙ ap (λ l. l ++ pushed.source ∷ []) none))
      (All-push (λ (s : Source). folder s.file.name ≡ Some s.file.text) [] pushed.source (All-nil (λ (s : Source). folder s.file.name ≡ Some s.file.text))
      (ap folder pushed.named ∙ subst (λ c. WhereTold c (λ f. f name ≡ Some pushed.source.file.text) ⊤) is pushed.told))

  pub short_names : (unit : Assembled) → Goes content m n → IsFinished n unit → All (λ (f : SourceFile). length f.name ≤ max 1024 (length name)) unit.files
  short_names unit goes end =
      let Short : Source → Type 0 = λ s. length s.file.name ≤ max 1024 (length name) in
      let first : All Short m.sources.items = subst (All Short) (sym (pushed.is ∙ ap (λ l. l ++ pushed.source ∷ []) none)) (All-push Short [] pushed.source (All-nil Short) (omega (arith, ap length pushed.named))) in
      let more : All Short goes.grows.more = All-weaker (λ (s : Source). length s.file.name ≤ 1024) Short (λ s fits. omega arith) goes.grows.more goes.grows.short in
      let all : All Short n.sources.items = subst (All Short) (sym goes.grows.is) (All-append Short m.sources.items goes.grows.more first more) in
      subst (All (λ (f : SourceFile). length f.name ≤ max 1024 (length name))) (sym end.files) (All-map (λ (f : SourceFile). length f.name ≤ max 1024 (length name)) (λ (s : Source). s.file) n.sources.items all)

  first_fault : (folder : Folder) (fault : AssembleFault) → Agrees folder m → IsFileFault 0 (source_at m file) (taken m) folder fault → IsFirstFault folder name fault
  first_fault folder fault agrees fails =
      let source = source_at m file in
      IsFirstFault.first (told_by folder agrees) small (sound_m.sources file no_source inside_m).reading
      (subst (λ k. Fails folder 0 name source.file.text source.parts k fault) taken_first
      (subst (λ k. Fails folder 0 k source.file.text source.parts (taken m) fault) named fails))

  pub fault_of : (rose : Type 0) (fault : AssembleFault) → Goes content m n → IsDue content rose n (IsFileFault 0 (source_at m file) (taken m)) fault → HasCause content name rose fault
  fault_of rose fault goes due = by_content content refl fault due
    where
      agrees_m : (folder : Folder) → Agrees folder n → Agrees folder m
      agrees_m folder agrees = agrees_before folder m n goes.grows agrees

      own : (f : AssembleFault) → IsSound n → ((folder : Folder) → Agrees folder n → IsFileFault 0 (source_at m file) (taken m) folder f) → (folder : Folder) × IsFirstFault folder name f
      own f sound fails =
          let folder = folder_of (files_of n.sources.items) in
          let agrees = own_folder n sound in
          (folder, first_fault folder f (agrees_m folder agrees) (fails folder agrees))

      told : (folder : Folder) (f : AssembleFault) → content ≡ Some folder → (Agrees folder n → IsFileFault 0 (source_at m file) (taken m) folder f) → IsFirstFault folder name f
      told folder f is fails = let agrees = agrees_first folder is in first_fault folder f agrees (fails (goes.told folder is agrees))

      by_content : (c : Option Folder) → content ≡ c → (f : AssembleFault) → IsDue c rose n (IsFileFault 0 (source_at m file) (taken m)) f → HasCause c name rose f
      by_content None is faults.OutOfMemory h = tt
      by_content None is (faults.Missing other) h = h
      by_content None is faults.Failed h = h
      by_content None is (faults.Lex x y z w) h = own (faults.Lex x y z w) h.0 h.1
      by_content None is (faults.BadLine x y) h = own (faults.BadLine x y) h.0 h.1
      by_content None is (faults.Depth x y) h = own (faults.Depth x y) h.0 h.1
      by_content None is (faults.Large count) h = h
      by_content (Some folder) is faults.OutOfMemory h = tt
      by_content (Some folder) is (faults.Missing other) h = told folder (faults.Missing other) is h
      by_content (Some folder) is faults.Failed h = h
      by_content (Some folder) is (faults.Lex x y z w) h = told folder (faults.Lex x y z w) is (h.1 folder)
      by_content (Some folder) is (faults.BadLine x y) h = told folder (faults.BadLine x y) is (h.1 folder)
      by_content (Some folder) is (faults.Depth x y) h = told folder (faults.Depth x y) is (h.1 folder)
      by_content (Some folder) is (faults.Large count) h = told folder (faults.Large count) is h

  pub list_over : (unit : Assembled) → TakesFile 0 (source_at m file) m n → Goes content m n → IsSound n → IsFinished n unit → IsListOver content name unit
  list_over unit takes goes sound end = by_content content refl
    where
      by_content : (c : Option Folder) → content ≡ c → IsListOver c name unit
      by_content None is =
          let folder = folder_of (files_of n.sources.items) in
          let agrees = own_folder n sound in
          subst (λ fs. IsListOf (folder_of fs) name unit) (sym end.files) (list_of folder unit takes (agrees_before folder m n goes.grows agrees) agrees end)
      by_content (Some folder) is = let agrees = agrees_first folder is in list_of folder unit takes agrees (goes.told folder is agrees) end

-- the unit's own file could not be had
first_refused : (folder : Folder) (name : List ℕ) (bytes : ℕ) (fault : AssembleFault) → bytes ≡ 0 → IsRefused name bytes folder fault → IsFirstFault folder name fault
first_refused folder name bytes fault none (IsRefused.missing told) = IsFirstFault.no_unit told
first_refused folder name bytes fault none (IsRefused.large told much) = IsFirstFault.large_unit told (omega arith)

pub unit_refused : (content : Option Folder) (rose : Type 0) (name : List ℕ) (bytes : ℕ) (fault : AssembleFault) → bytes ≡ 0 → IsHad content rose name bytes fault → HasCause content name rose fault
unit_refused content rose name bytes faults.OutOfMemory none h = tt
unit_refused None rose name bytes (faults.Missing other) none h = h
unit_refused (Some folder) rose name bytes (faults.Missing other) none h = first_refused folder name bytes (faults.Missing other) none h
unit_refused content rose name bytes faults.Failed none h = h
unit_refused content rose name bytes (faults.Lex x y z w) none h = absurd h
unit_refused content rose name bytes (faults.BadLine x y) none h = absurd h
unit_refused content rose name bytes (faults.Depth x y) none h = absurd h
unit_refused None rose name bytes (faults.Large count) none h = h
unit_refused (Some folder) rose name bytes (faults.Large count) none h = first_refused folder name bytes (faults.Large count) none h
