-- A line that begins as a directive has one of the four forms or none.
use Rattle.std.proofs.Common.{◌≡◌, true, false, ℕ, ◌+◌, ◌<◌, List, length, take, drop, eqb, refl, sym, ◌∙◌, subst, arith, inl, inr, ⊎_elim}
use Rattle.std.specs.Prelude.{◌⊎◌, codes}
use Rattle.std.specs.List.{prefix_len, starts_with}
use Rattle.std.proofs.lemmas.Bool.{cases_Bool, true≢false}
use Rattle.cx_lexer.specs.Comment.{is_spliced_line}
use Rattle.cx_includes.specs.declared.part.Directive.{Directive}
use Rattle.cx_includes.specs.declared.part.Directive.TheVariants as directives
use Rattle.cx_includes.specs.declared.part.Part.{Part}
use Rattle.cx_includes.specs.declared.part.Part.TheVariants as parts
use Rattle.cx_includes.specs.Directive.{begins_directive, is_line_end, is_name_byte, line_from, opening, HasForm}
use Rattle.cx_includes.specs.Parts.{IsLine}
use Rattle.cx_includes.specs.Place.{line_at}
use Rattle.cx_includes.specs.Stretch.{IsFileForm, IsForm}
use Rattle.cx_includes.proofs.Forms.{file_form_found, file_form_length, file_form_quote, file_form_starts, form_contracts, form_cstdio, form_ends, form_file, form_from, form_once, form_starts, no_form}
use Rattle.cx_includes.proofs.Stretches.{no_spliced_directive}
use Rattle.cx_judged.proofs.Choices.{Decided, none_or_some}

form_decided : (bytes line : List ℕ) → Decided (IsForm bytes line)
form_decided bytes line =
    ⊎_elim
    (λ begins. ⊎_elim
    (λ ends. inl (form_from bytes line begins ends))
    (λ goes_on. inr (λ form. true≢false (sym (form_ends bytes line form) ∙ goes_on)))
    (cases_Bool (is_line_end (drop (length bytes) line))))
    (λ other. inr (λ form. true≢false (sym (form_starts bytes line form) ∙ other)))
    (cases_Bool (starts_with eqb line bytes))

module _ (line : List ℕ) where
  -- how long the name is, where the line includes a file
  abbrev named : ℕ
  named = prefix_len is_name_byte (drop 10 line)

  abbrev Includes : Type 0
  Includes = (name : List ℕ) × (named ≡ length name) × IsFileForm line name

  included : starts_with eqb line opening ≡ true → 0 < named → Decided (IsForm (codes "\"") (drop named (drop 10 line))) → Includes ⊎ ((name : List ℕ) → IsFileForm line name → ⊥)
  included begins some (inl quoted) = let found = file_form_found line named begins refl some quoted in inl (take named (drop 10 line), found.0, found.1)
  included begins some (inr unquoted) = inr (λ name form. unquoted (subst (λ n. IsForm (codes "\"") (drop n (drop 10 line))) (sym (file_form_length line name form)) (file_form_quote line name form)))

  file_decided : Includes ⊎ ((name : List ℕ) → IsFileForm line name → ⊥)
  file_decided =
      ⊎_elim
      (λ begins. ⊎_elim
      (λ none. inr (λ name form. let some = form.some in let same = file_form_length line name form in omega arith))
      (λ some. included begins some (form_decided (codes "\"") (drop named (drop 10 line))))
      (none_or_some named))
      (λ other. inr (λ name form. true≢false (sym (file_form_starts line name form) ∙ other)))
      (cases_Bool (starts_with eqb line opening))

module _ (text : List ℕ) (at : ℕ) where
  abbrev HasOne : Type 0
  HasOne = ((directive : Directive) × HasForm text at directive) ⊎ ((directive : Directive) → HasForm text at directive → ⊥)

  one_form : HasOne
  one_form = by_once (form_decided (codes "#pragma once") line)
    where
      line : List ℕ
      line = line_from text at

      by_file : (IsForm (codes "#pragma once") line → ⊥) → (IsForm (codes "#include <contracts>") line → ⊥) → (IsForm (codes "#include <cstdio>") line → ⊥) → Includes line ⊎ ((name : List ℕ) → IsFileForm line name → ⊥) → HasOne
      by_file no_once no_contracts no_cstdio (inl (name, same, form)) = inl (directives.File (record { start = at + 10; end = at + 10 + named line }), form_file text line at refl name (named line) same form)
      by_file no_once no_contracts no_cstdio (inr no_file) = inr (λ directive. no_form text line at refl directive no_once no_contracts no_cstdio no_file)

      by_cstdio : (IsForm (codes "#pragma once") line → ⊥) → (IsForm (codes "#include <contracts>") line → ⊥) → Decided (IsForm (codes "#include <cstdio>") line) → HasOne
      by_cstdio no_once no_contracts (inl form) = inl (directives.Cstdio, form_cstdio text line at refl form)
      by_cstdio no_once no_contracts (inr no_cstdio) = by_file no_once no_contracts no_cstdio (file_decided line)

      by_contracts : (IsForm (codes "#pragma once") line → ⊥) → Decided (IsForm (codes "#include <contracts>") line) → HasOne
      by_contracts no_once (inl form) = inl (directives.Contracts, form_contracts text line at refl form)
      by_contracts no_once (inr no_contracts) = by_cstdio no_once no_contracts (form_decided (codes "#include <cstdio>") line)

      by_once : Decided (IsForm (codes "#pragma once") line) → HasOne
      by_once (inl form) = inl (directives.Once, form_once text line at refl form)
      by_once (inr no_once) = by_contracts no_once (form_decided (codes "#include <contracts>") line)

  pub line_stands : begins_directive text at ≡ true → (part : Part) × IsLine text at part
  line_stands begins = ⊎_elim
      (λ spliced. (parts.BadLine (line_at text at), IsLine.bad begins (no_spliced_directive text at spliced)))
      (λ whole. by_form whole one_form)
      (cases_Bool (is_spliced_line (drop at text)))
    where
      by_form : is_spliced_line (drop at text) ≡ false → HasOne → (part : Part) × IsLine text at part
      by_form whole (inl (directive, form)) = (parts.Line directive (line_at text at), IsLine.formed (record { begins = begins; whole = whole; form = form }))
      by_form whole (inr none) = (parts.BadLine (line_at text at), IsLine.bad begins (λ directive one. none directive one.form))
