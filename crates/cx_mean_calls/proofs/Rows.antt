-- What a row of checks goes on with, by the place of the assertion that is told.
use Rattle.std.proofs.Common.{◌≡◌, ◌∙◌, ℕ, zero, suc, if◌then◌else◌, List, [], ◌∷◌, map, true, false, Option, Some, None, refl, sym, ap}
use Rattle.std.specs.Option.{option_map}
use Rattle.std.specs.Prelude.{slice_get, slice_set}
use Rattle.cx_code.specs.declared.run.Party.{Party}
use Rattle.cx_core.specs.Event.{Evaluation, same_evaluation}
use Rattle.cx_core.specs.Tree.{Check, Specifier}
use Rattle.cx_plain.specs.Step.{behind, Continued, continued, due_in_all, evaluation_of, first_due, has_stood, once_less}
use Rattle.cx_plain.specs.Task as task
use Rattle.cx_mean_parts.specs.declared.task.Due.{Due}
use Rattle.cx_mean_parts.specs.Tasks.{check_seen, due_of}
use Rattle.cx_mean_parts.specs.CallParts.{checks_due, place_due}

abbrev at_place : ℕ → List task.Due → Option Continued
at_place i [] = None
at_place zero (d ∷ due) = once_less d.left d due
at_place (suc i) (d ∷ due) = behind d (at_place i due)

abbrev at : Option ℕ → List task.Due → Option Continued
at None due = None
at (Some i) due = at_place i due

later : (r : Option ℕ) (d : task.Due) (due : List task.Due) → at (option_map (λ i. suc i) r) (d ∷ due) ≡ behind d (at r due)
later None d due = refl
later (Some i) d due = refl

found : (party : Party) (e : Evaluation) (due : List task.Due) → continued party e due ≡ at (place_due party e due) due
found party e [] = refl
found party e (d ∷ due) =
    elim (same_evaluation e (evaluation_of party d.check.of)) as (λ t.
    (if t then once_less d.left d due else (if has_stood d then behind d (continued party e due) else None))
    ≡ at (if t then Some 0 else (if has_stood d then option_map (λ i. suc i) (place_due party e due) else None)) (d ∷ due)) [
      | true ↦ refl
      | false ↦ elim (has_stood d) as (λ t.
          (if t then behind d (continued party e due) else None)
          ≡ at (if t then option_map (λ i. suc i) (place_due party e due) else None) (d ∷ due))
          [ true ↦ ap (behind d) (found party e due) ∙ sym (later (place_due party e due) d due) | false ↦ refl ]
    ]

-- ---- the same of a list of this program

none_left : (due : List Due) (i : ℕ) (d : Due) → slice_get due i ≡ Some d → d.left ≡ 0 → at_place i (map due_of due) ≡ None
none_left [] i d h z = refl
none_left (x ∷ due) zero d h z = let e : x ≡ d = cc in rw (e, z) refl
none_left (x ∷ due) (suc i) d h z = rw (none_left due i d h z) refl

one_less : (due : List Due) (i : ℕ) (d : Due) (left : ℕ) → slice_get due i ≡ Some d → d.left ≡ suc left →
    at_place i (map due_of due) ≡ Some (check_seen d.check, map due_of (slice_set due i (record d { left = left })))
one_less [] i d left h z = absurd (cc)
one_less (x ∷ due) zero d left h z = let e : x ≡ d = cc in rw (e, z) refl
one_less (x ∷ due) (suc i) d left h z = rw (one_less due i d left h z) refl

pub not_placed : (party : Party) (e : Evaluation) (due : List Due) → None ≡ place_due party e (map due_of due) → None ≡ continued party e (map due_of due)
not_placed party e due p = sym (found party e (map due_of due) ∙ ap (λ r. at r (map due_of due)) (sym p))

pub not_owed : (party : Party) (e : Evaluation) (due : List Due) (i : ℕ) (d : Due) → Some i ≡ place_due party e (map due_of due) → slice_get due i ≡ Some d → d.left ≡ 0 →
    None ≡ continued party e (map due_of due)
not_owed party e due i d p h z = sym (found party e (map due_of due) ∙ ap (λ r. at r (map due_of due)) (sym p) ∙ none_left due i d h z)

pub owed_less : (party : Party) (e : Evaluation) (due : List Due) (i : ℕ) (d : Due) (left : ℕ) → Some i ≡ place_due party e (map due_of due) → slice_get due i ≡ Some d → d.left ≡ suc left →
    Some (check_seen d.check, map due_of (slice_set due i (record d { left = left }))) ≡ continued party e (map due_of due)
owed_less party e due i d left p h z = sym (found party e (map due_of due) ∙ ap (λ r. at r (map due_of due)) (sym p) ∙ one_less due i d left h z)

-- ---- how much a row owes

first_checks : (checks : List (Specifier Check)) → checks_due (map first_due checks) ≡ checks
first_checks [] = refl
first_checks (c ∷ checks) = ap (λ l. c ∷ l) (first_checks checks)

pub row_counted : (checks : List (Specifier Check)) {due : List task.Due} {count : ℕ} → due ≡ map first_due checks → count ≡ due_in_all (checks_due due) → due_in_all checks ≡ count
row_counted checks d h = ap due_in_all (sym (first_checks checks)) ∙ ap (λ l. due_in_all (checks_due l)) (sym d) ∙ sym h
