-- The forms of directive lines: where a line has one, the code finds it.
use Rattle.std.proofs.Common.{◌≡◌, ◌&&◌, ◌||◌, Bool, true, false, ℕ, suc, ◌+◌, ◌-◌, ◌<◌, ◌≤◌, List, [], ◌∷◌, ◌++◌, length, take, drop, cond, eqb, refl, sym, ◌∙◌, ap, subst, arith, ⊎_elim, append_assoc, length-append, length-drop, length-take-le}
use Rattle.std.specs.Prelude.{codes, slice_range}
use Rattle.std.specs.List.{list_all, prefix_len, starts_with}
use Rattle.std.proofs.lemmas.List.{take_at, drop_at, drop-drop, take-append-drop}
use Rattle.std.proofs.lemmas.List.Folds.{length-prefix_len}
use Rattle.std.proofs.lemmas.Slice.Eq.{starts_is}
use Rattle.std.proofs.lemmas.Bool.{cond-true, cond-false, and_parts, and_from, or_cases, eqb-true}
use Rattle.std.proofs.lemmas.Bool.Decides.{Decides-eqb}
use Rattle.cx_lexer.specs.Comment.{begins_line_comment, line_length}
use Rattle.cx_includes.specs.declared.part.Directive.{Directive}
use Rattle.cx_includes.specs.declared.part.Directive.TheVariants as directives
use Rattle.cx_includes.specs.declared.part.Span.{Span}
use Rattle.cx_includes.specs.Directive.{is_line_blank, is_line_end, is_name_byte, opening, line_from, name_in, HasForm}
use Rattle.cx_includes.specs.Stretch.{IsForm, IsFileForm}

-- the end of a directive, byte by byte
pub line_end_blank : (b : ℕ) (rest : List ℕ) → is_line_blank b ≡ true → is_line_end (b ∷ rest) ≡ is_line_end rest
unfolding begins_line_comment
line_end_blank b rest blank =
    ⊎_elim
    (λ e. ⊎_elim (λ f. let is : b ≡ 32 = eqb-true b 32 f in rw is refl) (λ f. let is : b ≡ 9 = eqb-true b 9 f in rw is refl) (or_cases _ _ e))
    (λ e. let is : b ≡ 13 = eqb-true b 13 e in rw is refl)
    (or_cases _ _ blank)

pub line_end_other : (b : ℕ) (rest : List ℕ) → is_line_blank b ≡ false → is_line_end (b ∷ rest) ≡ begins_line_comment (b ∷ rest)
line_end_other b rest other = ap (λ t. begins_line_comment (b ∷ rest) || (t && is_line_end rest)) other ∙ or_nothing (begins_line_comment (b ∷ rest))
  where
    or_nothing : (t : Bool) → (t || false) ≡ t
    or_nothing true = refl
    or_nothing false = refl

starts : (line bytes : List ℕ) → (starts_with eqb line bytes ≡ true → line ≡ bytes ++ drop (length bytes) line) × ((rest : List ℕ) → line ≡ bytes ++ rest → starts_with eqb line bytes ≡ true)
starts line bytes = starts_is Decides-eqb line bytes (starts_with eqb line bytes) refl

-- a line of fixed bytes and an end
pub form_from : (bytes line : List ℕ) → starts_with eqb line bytes ≡ true → is_line_end (drop (length bytes) line) ≡ true → IsForm bytes line
form_from bytes line begins ends = record { tail = drop (length bytes) line; spelled = (starts line bytes).0 begins; ends = ends }

pub form_starts : (bytes line : List ℕ) → IsForm bytes line → starts_with eqb line bytes ≡ true
form_starts bytes line form = (starts line bytes).1 form.tail form.spelled

pub form_ends : (bytes line : List ℕ) → IsForm bytes line → is_line_end (drop (length bytes) line) ≡ true
form_ends bytes line form = ap (λ l. is_line_end (drop (length bytes) l)) form.spelled ∙ ap is_line_end (drop_at bytes form.tail (length bytes) refl) ∙ form.ends

-- the front of a name's bytes
list_all-front : (p : ℕ → Bool) (xs : List ℕ) → list_all p (take (prefix_len p xs) xs) ≡ true
list_all-front p [] = refl
list_all-front p (x ∷ xs) = by_test (p x) refl (list_all-front p xs)
  where
    by_test : (t : Bool) → p x ≡ t → list_all p (take (prefix_len p xs) xs) ≡ true → list_all p (take (cond t (1 + prefix_len p xs) 0) (x ∷ xs)) ≡ true
    by_test true e rest =
        let is : suc (prefix_len p xs) ≡ 1 + prefix_len p xs = omega arith in
        subst (λ k. list_all p (take k (x ∷ xs)) ≡ true) is (and_from (p x) _ e rest)
    by_test false e rest = refl

pub prefix_len-stops : (p : ℕ → Bool) (name : List ℕ) (b : ℕ) (rest : List ℕ) → list_all p name ≡ true → p b ≡ false → prefix_len p (name ++ b ∷ rest) ≡ length name
prefix_len-stops p [] b rest all stops = cond-false _ _ _ stops
prefix_len-stops p (x ∷ name) b rest all stops =
    let parts = and_parts (p x) (list_all p name) all in
    let behind = prefix_len-stops p name b rest parts.1 stops in
    cond-true _ _ _ parts.0 ∙ omega arith

abbrev file_line : List ℕ → List ℕ → List ℕ
file_line name tail = opening ++ (name ++ (codes "\"" ++ tail))

grouped : (name tail : List ℕ) → (opening ++ name ++ codes "\"") ++ tail ≡ file_line name tail
grouped name tail = append_assoc (opening ++ name) (codes "\"") tail ∙ append_assoc opening name (codes "\"" ++ tail)

pub file_form_spelled : (line name : List ℕ) (form : IsFileForm line name) → line ≡ file_line name form.form.tail
file_form_spelled line name form = form.form.spelled ∙ grouped name form.form.tail

pub file_form_starts : (line name : List ℕ) → IsFileForm line name → starts_with eqb line opening ≡ true
file_form_starts line name form = (starts line opening).1 (name ++ (codes "\"" ++ form.form.tail)) (file_form_spelled line name form)

named : (line name : List ℕ) (form : IsFileForm line name) → drop 10 line ≡ name ++ (codes "\"" ++ form.form.tail)
named line name form = ap (drop 10) (file_form_spelled line name form)

pub file_form_length : (line name : List ℕ) → IsFileForm line name → prefix_len is_name_byte (drop 10 line) ≡ length name
file_form_length line name form = ap (prefix_len is_name_byte) (named line name form) ∙ prefix_len-stops is_name_byte name 34 form.form.tail form.bytes refl

pub file_form_quote : (line name : List ℕ) → IsFileForm line name → IsForm (codes "\"") (drop (length name) (drop 10 line))
file_form_quote line name form = record {
  tail = form.form.tail;
  spelled = ap (drop (length name)) (named line name form) ∙ drop_at name (codes "\"" ++ form.form.tail) (length name) refl;
  ends = form.form.ends;
}

pub file_form_found : (line : List ℕ) (n : ℕ) → starts_with eqb line opening ≡ true → n ≡ prefix_len is_name_byte (drop 10 line) → 0 < n → IsForm (codes "\"") (drop n (drop 10 line)) → (n ≡ length (take n (drop 10 line))) × IsFileForm line (take n (drop 10 line))
file_form_found line n begins is some quoted =
    let rest = drop 10 line in
    let long : n ≡ length (take n rest) = subst (λ k. k ≡ length (take k rest)) (sym is) (sym (length-prefix_len is_name_byte rest)) in (
      long,
      record {
        some = omega arith;
        bytes = subst (λ k. list_all is_name_byte (take k rest) ≡ true) (sym is) (list_all-front is_name_byte rest);
        form = record {
          tail = quoted.tail;
          spelled = (starts line opening).0 begins ∙ ap (λ l. opening ++ l) (sym (take-append-drop n rest) ∙ ap (λ l. take n rest ++ l) quoted.spelled) ∙ sym (grouped (take n rest) quoted.tail);
          ends = quoted.ends;
        };
      },
    )

-- the name in its text
pub name_lies : (text name after : List ℕ) (at : ℕ) → drop at text ≡ opening ++ (name ++ after) → (slice_range text (at + 10) (at + 10 + length name) ≡ name) × (at + 10 + length name ≤ length text)
name_lies text name after at is =
    let behind : drop (at + 10) text ≡ name ++ after = sym (drop-drop 10 at text) ∙ ap (drop 10) is in
    let shorter : (at + 10 + length name) - (at + 10) ≡ length name = omega arith in
    let whole : length text - at ≡ 10 + (length name + length after) = sym (length-drop at text) ∙ ap length is ∙ length-append opening (name ++ after) ∙ ap (λ n. 10 + n) (length-append name after) in
    (ap (λ n. take n (drop (at + 10) text)) shorter ∙ ap (take (length name)) behind ∙ take_at name after (length name) refl, omega arith)

name_some : (text : List ℕ) (span : Span) → span.start < span.end → span.end ≤ length text → 0 < length (name_in text span)
name_some text span some within =
    let behind = length-drop span.start text in
    let is = length-take-le (span.end - span.start) (drop span.start text) (omega arith) in
    omega arith

-- each form of a line, in its text
module _ (text line : List ℕ) (at : ℕ) (is : line ≡ line_from text at) where
  pub form_once : IsForm (codes "#pragma once") line → HasForm text at directives.Once
  form_once form = HasForm.once form.tail (sym is ∙ form.spelled) form.ends

  pub form_contracts : IsForm (codes "#include <contracts>") line → HasForm text at directives.Contracts
  form_contracts form = HasForm.contracts form.tail (sym is ∙ form.spelled) form.ends

  pub form_cstdio : IsForm (codes "#include <cstdio>") line → HasForm text at directives.Cstdio
  form_cstdio form = HasForm.cstdio form.tail (sym is ∙ form.spelled) form.ends

  whole_line : (name : List ℕ) (form : IsFileForm line name) → drop at text ≡ opening ++ (name ++ ((codes "\"" ++ form.form.tail) ++ drop (line_length (drop at text)) (drop at text)))
  whole_line name form =
      let behind = drop (line_length (drop at text)) (drop at text) in
      let quoted = codes "\"" ++ form.form.tail in
      sym (take-append-drop (line_length (drop at text)) (drop at text)) ∙ ap (λ l. l ++ behind) (sym is ∙ file_form_spelled line name form)
      ∙ append_assoc opening (name ++ quoted) behind ∙ ap (λ l. opening ++ l) (append_assoc name quoted behind)

  pub form_file : (name : List ℕ) (n : ℕ) → n ≡ length name → IsFileForm line name → HasForm text at (directives.File (record { start = at + 10; end = at + 10 + n }))
  form_file name n same form =
      let lies = name_lies text name _ at (whole_line name form) in
      let named : slice_range text (at + 10) (at + 10 + n) ≡ name = ap (λ k. slice_range text (at + 10) (at + 10 + k)) same ∙ lies.0 in
      let some = form.some in
      HasForm.file form.form.tail refl (omega arith) (omega arith)
      (sym is ∙ form.form.spelled ∙ ap (λ l. opening ++ l ++ codes "\"" ++ form.form.tail) (sym named))
      (ap (list_all is_name_byte) named ∙ form.bytes)
      form.form.ends

  pub no_form : (directive : Directive) → (IsForm (codes "#pragma once") line → ⊥) → (IsForm (codes "#include <contracts>") line → ⊥) → (IsForm (codes "#include <cstdio>") line → ⊥) → ((name : List ℕ) → IsFileForm line name → ⊥)
      → HasForm text at directive → ⊥
  no_form directives.Once no_once no_contracts no_cstdio no_file (HasForm.once tail spelled ends) = no_once (record { tail = tail; spelled = is ∙ spelled; ends = ends })
  no_form directives.Contracts no_once no_contracts no_cstdio no_file (HasForm.contracts tail spelled ends) = no_contracts (record { tail = tail; spelled = is ∙ spelled; ends = ends })
  no_form directives.Cstdio no_once no_contracts no_cstdio no_file (HasForm.cstdio tail spelled ends) = no_cstdio (record { tail = tail; spelled = is ∙ spelled; ends = ends })
  no_form (directives.File span) no_once no_contracts no_cstdio no_file (HasForm.file {span = own} tail starts_at some within spelled bytes ends) =
      no_file (name_in text own) (record { some = name_some text own some within; bytes = bytes; form = record { tail = tail; spelled = is ∙ spelled; ends = ends } })

-- the line tells how long the name is
pub name_length_is : (text : List ℕ) (span : Span) (tail : List ℕ) (at : ℕ) → span.start < span.end → span.end ≤ length text → line_from text at ≡ opening ++ name_in text span ++ codes "\"" ++ tail → list_all is_name_byte (name_in text span) ≡ true
    → span.end ≡ span.start + prefix_len is_name_byte (drop 10 (line_from text at))
name_length_is text span tail at some within spelled bytes =
    let name = name_in text span in
    let behind = length-drop span.start text in
    let long : length name ≡ span.end - span.start = length-take-le (span.end - span.start) (drop span.start text) (omega arith) in
    let front : prefix_len is_name_byte (drop 10 (line_from text at)) ≡ length name = ap (λ l. prefix_len is_name_byte (drop 10 l)) (spelled ∙ grouped name tail) ∙ prefix_len-stops is_name_byte name 34 tail bytes refl in
    omega arith
