-- A file was taken already, or it wasn't.
use Rattle.std.proofs.Common.{◌≡◌, ℕ, zero, suc, List, [], ◌∷◌, Some, refl, sym, ◌∙◌, subst, arith, inl, inr, ⊎_elim}
use Rattle.std.specs.Prelude.{Contains}
use Rattle.std.specs.Str.{bytes_eq}
use Rattle.std.proofs.lemmas.Bool.{cases_Bool, true≢false}
use Rattle.std.proofs.lemmas.Option.{same_Some}
use Rattle.std.proofs.lemmas.Slice.Eq.{bytes_eq-Decides}
use Rattle.cx_outside.specs.Folder.{Folder}
use Rattle.cx_includes.specs.declared.part.Directive.TheVariants as directives
use Rattle.cx_includes.specs.declared.part.Part.{Part}
use Rattle.cx_includes.specs.declared.part.Part.TheVariants as parts
use Rattle.cx_includes.specs.Unit.{HoldsOnce, IsTakenAlready, Taken}
use Rattle.cx_includes.specs.Parts.{IsReading}
use Rattle.cx_includes.specs.Taking.{HasOnce}
use Rattle.cx_includes.proofs.OneReading.{one_reading}
use Rattle.cx_judged.proofs.Choices.{Decided}
use Rattle.cx_judged.proofs.Readings.{reading}

-- ---- a name among others

none_contained : (name : List ℕ) → Contains [] name → ⊥
none_contained name (k, inside, is) = omega arith

behind_first : (first name : List ℕ) (rest : List (List ℕ)) → (first ≡ name → ⊥) → (Contains rest name → ⊥) → Contains (first ∷ rest) name → ⊥
behind_first first name rest other none (zero, inside, is) = other is
behind_first first name rest other none (suc k, inside, is) = none (k, omega arith, is)

contains_decided : (names : List (List ℕ)) (name : List ℕ) → Decided (Contains names name)
contains_decided [] name = inr (none_contained name)
contains_decided (first ∷ rest) name =
    ⊎_elim
    (λ same. inl (0, omega arith, (bytes_eq-Decides first name).0 same))
    (λ other. ⊎_elim
    (λ has. inl (suc has.0, omega arith, has.2))
    (λ none. inr (behind_first first name rest (λ same. true≢false (sym ((bytes_eq-Decides first name).1 same) ∙ other)) none))
    (contains_decided rest name))
    (cases_Bool (bytes_eq first name))

-- ---- a line `#pragma once`

none_once : HasOnce [] → ⊥
none_once (line, (k, inside, is)) = omega arith

once_behind : (part : Part) (rest : List Part) → ((line : ℕ) → part ≡ parts.Line directives.Once line → ⊥) → (HasOnce rest → ⊥) → HasOnce (part ∷ rest) → ⊥
once_behind part rest other none (line, (zero, inside, is)) = other line is
once_behind part rest other none (line, (suc k, inside, is)) = none (line, (k, omega arith, is))

is_once : (part : Part) → Decided ((line : ℕ) × (part ≡ parts.Line directives.Once line))
is_once (parts.Line directives.Once line) = inl (line, refl)
is_once (parts.Line directives.Contracts line) = inr (λ one. let same = one.1 in absurd (cc))
is_once (parts.Line directives.Cstdio line) = inr (λ one. let same = one.1 in absurd (cc))
is_once (parts.Line (directives.File span) line) = inr (λ one. let same = one.1 in absurd (cc))
is_once (parts.Token token spot) = inr (λ one. let same = one.1 in absurd (cc))
is_once (parts.BadLine line) = inr (λ one. let same = one.1 in absurd (cc))
is_once (parts.Fault fault spot) = inr (λ one. let same = one.1 in absurd (cc))

once_decided : (all : List Part) → Decided (HasOnce all)
once_decided [] = inr none_once
once_decided (part ∷ rest) =
    ⊎_elim
    (λ one. inl (one.0, (0, omega arith, one.1)))
    (λ other. ⊎_elim
    (λ has. inl (has.0, (suc has.1.0, omega arith, has.1.2)))
    (λ none. inr (once_behind part rest (λ line is. other (line, is)) none))
    (once_decided rest))
    (is_once part)

holds_once : (text : List ℕ) → Decided (HoldsOnce text)
holds_once text = ⊎_elim
    (λ has. inl (record { all = read.0; reading = read.1; line = has.0; once = has.1 }))
    (λ none. inr (λ held. none (held.line, subst (λ l. Contains l (parts.Line directives.Once held.line)) (one_reading text held.all read.0 held.reading read.1) held.once)))
    (once_decided read.0)
  where
    read : (all : List Part) × IsReading text all
    read = reading text

-- ---- a file that is told

pub already_decided : (folder : Folder) (now : Taken) (name text : List ℕ) → folder name ≡ Some text → Decided (IsTakenAlready folder now name)
already_decided folder now name text told =
    ⊎_elim
    (λ before. ⊎_elim
    (λ once. inl (record { before = before; text = text; told = told; once = once }))
    (λ many. inr (λ already. many (subst HoldsOnce (same_Some already.text text (sym already.told ∙ told)) already.once)))
    (holds_once text))
    (λ unknown. inr (λ already. unknown already.before))
    (contains_decided now.files name)
