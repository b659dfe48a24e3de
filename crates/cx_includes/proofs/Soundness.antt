-- What was taken stays sound.
use Rattle.std.proofs.Common.{◌≡◌, Bool, true, false, not, ℕ, zero, suc, ◌+◌, ◌<◌, ◌≤◌, ◌^◌, List, [], ◌∷◌, ◌++◌, length, get_or, cond, ltb, Option, Some, None, refl, sym, ◌∙◌, ap, subst, arith, ⊎_elim}
use Rattle.std.specs.Prelude.{slice_get, IsSomeAnd, option_map, position, is_some}
use Rattle.std.specs.List.{All, prefix_len}
use Rattle.std.specs.Str.{bytes_eq}
use Rattle.std.proofs.lemmas.List.{length-map, length_push, map_push, get_or_append_left, get_or_push, get_or_read}
use Rattle.std.proofs.lemmas.List.Folds.{prefix_len-append}
use Rattle.std.proofs.lemmas.List.Sums.{prefix_len-le-length}
use Rattle.std.proofs.lemmas.Slice.Eq.{bytes_eq-Decides}
use Rattle.std.proofs.lemmas.Bool.{cond-true, cond-false, cases_lt, cases_Bool, ne_eqb, eq-eqb, lt-ltb, le-ltb, true≢false}
use Rattle.std.proofs.lemmas.List.Elements.{All-push, All-weaker}
use Rattle.std.proofs.lemmas.Option.{slice_get-map, slice_get-get_or}
use Rattle.cx_includes.specs.declared.assembled.Placed.{Placed}
use Rattle.cx_includes.specs.declared.assembled.SourceFile.{SourceFile}
use Rattle.cx_includes.specs.declared.source.Source.{Source}
use Rattle.cx_includes.specs.declared.taking.Taking.{Taking}
use Rattle.cx_includes.specs.Assembled.{IsWithin}
use Rattle.cx_includes.specs.Unit.{most_bytes, opened, with_file}
use Rattle.cx_includes.specs.Taking.{IsSound, IsSource, Adds, index_in, taken, source_at, files_of, names_of, no_source}

some_and : {A : Type 0} (o : Option A) (x : A) (P : A → Type 0) → o ≡ Some x → P x → IsSomeAnd o P
some_and o x P is h = subst (λ p. IsSomeAnd p P) (sym is) h

file_of : (taking : Taking) (file : ℕ) → file < length taking.sources.items → slice_get (files_of taking.sources.items) file ≡ Some (source_at taking file).file
file_of taking file inside = slice_get-map (λ (s : Source). s.file) taking.sources.items file ∙ ap (option_map (λ (s : Source). s.file)) (slice_get-get_or taking.sources.items file no_source inside)

-- what is read at an index
pub read_source : (taking : Taking) (file : ℕ) (read : Source) → file < length taking.sources.items → read ≡ get_or taking.sources.items file read → read ≡ source_at taking file
read_source taking file read inside is = get_or_read taking.sources.items file read inside is no_source

pub sound_token : (taking : Taking) (placed : List Placed) (one : Placed) → IsSound taking → placed ≡ taking.placed ++ one ∷ [] → length placed < 2 ^ 32
    → one.file < length taking.sources.items → one.token.start ≤ one.token.end → one.token.end ≤ length (source_at taking one.file).file.text → IsSound (record taking { placed = placed })
sound_token taking placed one sound is few inside ordered lies = record {
  indexed = sound.indexed;
  distinct = sound.distinct;
  sources = sound.sources;
  bytes = sound.bytes;
  within = subst (All (IsWithin (files_of taking.sources.items))) (sym is) (All-push (IsWithin (files_of taking.sources.items)) taking.placed one sound.within
      (ordered, some_and _ (source_at taking one.file).file (λ (f : SourceFile). one.token.end ≤ length f.text) (file_of taking one.file inside) lies));
  small = few;
}

-- a file that was read before is opened
pub opened_again : (taking : Taking) (file bytes : ℕ) → IsSound taking → file < length taking.sources.items → bytes ≡ taking.bytes + length (source_at taking file).file.text
    → taken (record taking { bytes = bytes }) ≡ opened (taken taking) (source_at taking file).file.name (source_at taking file).file.text
opened_again taking file bytes sound inside is =
    let names = names_of taking.sources.items in
    let name = (source_at taking file).file.name in
    let known : names ≡ with_file names name = sym (ap (λ o. cond (is_some o) names (names ++ name ∷ [])) (sound.distinct file inside)) in
    λ i. record { files = known i; bytes = is i; tokens = taking.placed; contracts = taking.contracts; cstdio = taking.cstdio }

-- the place of a name in a list that gets one more
abbrev or_else : Option ℕ → Option ℕ → Option ℕ
or_else None other = other
or_else (Some i) other = Some i

or_else-none : (o : Option ℕ) → or_else o None ≡ o
or_else-none None = refl
or_else-none (Some i) = refl

abbrev place : ℕ → ℕ → Option ℕ
place n length = cond (ltb n length) (Some n) None

position_push : (p : List ℕ → Bool) (xs : List (List ℕ)) (y : List ℕ) → position p (xs ++ y ∷ []) ≡ or_else (position p xs) (cond (p y) (Some (length xs)) None)
position_push p xs y = ⊎_elim below above (cases_lt (prefix_len (λ x. not (p x)) xs) (length xs))
  where
    longer : length (xs ++ y ∷ []) ≡ length xs + 1
    longer = length_push xs y

    below : prefix_len (λ x. not (p x)) xs < length xs → position p (xs ++ y ∷ []) ≡ or_else (position p xs) (cond (p y) (Some (length xs)) None)
    below inside =
        let n = prefix_len (λ x. not (p x)) xs in
        let front : prefix_len (λ x. not (p x)) (xs ++ y ∷ []) ≡ n = prefix_len-append (λ x. not (p x)) xs (y ∷ []) ∙ cond-false _ _ _ (ne_eqb n (length xs) (λ e. omega arith)) in
        (λ i. place (front i) (longer i)) ∙ cond-true _ _ _ (lt-ltb n (length xs + 1) (omega arith)) ∙ sym (ap (λ o. or_else o (cond (p y) (Some (length xs)) None)) (cond-true _ _ _ (lt-ltb n (length xs) inside)))

    above : length xs ≤ prefix_len (λ x. not (p x)) xs → position p (xs ++ y ∷ []) ≡ or_else (position p xs) (cond (p y) (Some (length xs)) None)
    above past =
        let n = prefix_len (λ x. not (p x)) xs in
        let most = prefix_len-le-length (λ x. not (p x)) xs in
        let whole : n ≡ length xs = omega arith in
        let front : prefix_len (λ x. not (p x)) (xs ++ y ∷ []) ≡ length xs + cond (not (p y)) 1 0 = prefix_len-append (λ x. not (p x)) xs (y ∷ []) ∙ cond-true _ _ _ (eq-eqb n (length xs) whole) in
        let none : position p xs ≡ None = cond-false _ _ _ (le-ltb n (length xs) past) in
        (λ i. place (front i) (longer i)) ∙ at_end (p y) ∙ sym (ap (λ o. or_else o (cond (p y) (Some (length xs)) None)) none)
      where
        at_end : (t : Bool) → place (length xs + cond (not t) 1 0) (length xs + 1) ≡ cond t (Some (length xs)) None
        at_end true =
            let same : length xs + 0 ≡ length xs = omega arith in
            ap (λ n. place n (length xs + 1)) same ∙ cond-true _ _ _ (lt-ltb (length xs) (length xs + 1) (omega arith))
        at_end false = cond-false _ _ _ (le-ltb (length xs + 1) (length xs + 1) (omega arith))

-- a token lies in its file when there are more files
slice_get-more : {A : Type 0} (xs ys : List A) (k : ℕ) (P : A → Type 0) → IsSomeAnd (slice_get xs k) P → IsSomeAnd (slice_get (xs ++ ys) k) P
slice_get-more [] ys k P h = absurd h
slice_get-more (x ∷ xs) ys zero P h = h
slice_get-more (x ∷ xs) ys (suc k) P h = slice_get-more xs ys k P h

within_more : (files more : List SourceFile) (one : Placed) → IsWithin files one → IsWithin (files ++ more) one
within_more files more one within = (within.0, slice_get-more files more one.file (λ (f : SourceFile). one.token.end ≤ length f.text) within.1)

same_bytes : (name : List ℕ) → bytes_eq name name ≡ true
same_bytes name = (bytes_eq-Decides name name).1 refl

pub sound_pushed : (old new : Taking) (source : Source) (name : List ℕ) → IsSound old → new.sources.items ≡ old.sources.items ++ source ∷ [] → Adds name (length old.sources.items) old.names new.names → index_in old.names name ≡ None
    → source.file.name ≡ name → IsSource source → new.bytes ≤ most_bytes → new.placed ≡ old.placed → IsSound new
sound_pushed old new source name sound is adds unknown named one fits same = record {
  indexed = λ q. ⊎_elim (own q) (other q) (cases_Bool (bytes_eq q name));
  distinct = λ file inside. ⊎_elim (earlier file) (λ past. last file (omega (arith, ap length is, length_push old.sources.items source))) (cases_lt file (length old.sources.items));
  sources = subst (All IsSource) (sym is) (All-push IsSource old.sources.items source sound.sources one);
  bytes = fits;
  within = within_all;
  small = subst (λ l. length l < 2 ^ 32) (sym same) sound.small;
}
  where
    names : names_of new.sources.items ≡ names_of old.sources.items ++ name ∷ []
    names = ap names_of is ∙ map_push (λ (s : Source). s.file.name) old.sources.items source ∙ ap (λ n. names_of old.sources.items ++ n ∷ []) named

    count : length (names_of old.sources.items) ≡ length old.sources.items
    count = length-map old.sources.items (λ (s : Source). s.file.name)

    place_of : (q : List ℕ) → position (bytes_eq q) (names_of new.sources.items) ≡ or_else (position (bytes_eq q) (names_of old.sources.items)) (cond (bytes_eq q name) (Some (length old.sources.items)) None)
    place_of q = ap (position (bytes_eq q)) names ∙ position_push (bytes_eq q) (names_of old.sources.items) name ∙ ap (λ n. or_else (position (bytes_eq q) (names_of old.sources.items)) (cond (bytes_eq q name) (Some n) None)) count

    none : position (bytes_eq name) (names_of old.sources.items) ≡ None
    none = sym (sound.indexed name) ∙ unknown

    at_name : position (bytes_eq name) (names_of new.sources.items) ≡ Some (length old.sources.items)
    at_name = place_of name ∙ (λ i. or_else (none i) (cond (same_bytes name i) (Some (length old.sources.items)) None))

    own : (q : List ℕ) → bytes_eq q name ≡ true → index_in new.names q ≡ position (bytes_eq q) (names_of new.sources.items)
    own q e = let is_name = (bytes_eq-Decides q name).0 e in subst (λ (t : List ℕ). index_in new.names t ≡ position (bytes_eq t) (names_of new.sources.items)) (sym is_name) (adds.holds ∙ sym at_name)

    other : (q : List ℕ) → bytes_eq q name ≡ false → index_in new.names q ≡ position (bytes_eq q) (names_of new.sources.items)
    other q e =
        adds.others q (λ is_name. true≢false (sym ((bytes_eq-Decides q name).1 is_name) ∙ e)) ∙ sound.indexed q
        ∙ sym (place_of q ∙ ap (λ t. or_else (position (bytes_eq q) (names_of old.sources.items)) (cond t (Some (length old.sources.items)) None)) e ∙ or_else-none (position (bytes_eq q) (names_of old.sources.items)))

    source_before : (file : ℕ) → file < length old.sources.items → source_at new file ≡ source_at old file
    source_before file inside = ap (λ l. get_or l file no_source) is ∙ get_or_append_left old.sources.items (source ∷ []) no_source file inside

    earlier : (file : ℕ) → file < length old.sources.items → position (bytes_eq (source_at new file).file.name) (names_of new.sources.items) ≡ Some file
    earlier file inside =
        ap (λ (s : Source). position (bytes_eq s.file.name) (names_of new.sources.items)) (source_before file inside)
        ∙ place_of (source_at old file).file.name ∙ ap (λ o. or_else o (cond (bytes_eq (source_at old file).file.name name) (Some (length old.sources.items)) None)) (sound.distinct file inside)

    last : (file : ℕ) → file ≡ length old.sources.items → position (bytes_eq (source_at new file).file.name) (names_of new.sources.items) ≡ Some file
    last file e =
        let here : source_at new file ≡ source = ap (λ l. get_or l file no_source) is ∙ get_or_push old.sources.items source no_source file (sym e) in
        ap (λ n. position (bytes_eq n) (names_of new.sources.items)) (ap (λ (s : Source). s.file.name) here ∙ named) ∙ at_name ∙ ap Some (sym e)

    files : files_of new.sources.items ≡ files_of old.sources.items ++ source.file ∷ []
    files = ap files_of is ∙ map_push (λ (s : Source). s.file) old.sources.items source

    within_all : All (IsWithin (files_of new.sources.items)) new.placed
    within_all = subst (λ fs. All (IsWithin fs) new.placed) (sym files) (subst (All (IsWithin (files_of old.sources.items ++ source.file ∷ []))) (sym same)
        (All-weaker (IsWithin (files_of old.sources.items)) (IsWithin (files_of old.sources.items ++ source.file ∷ [])) (λ one within. within_more (files_of old.sources.items) (source.file ∷ []) one within) old.placed sound.within))
