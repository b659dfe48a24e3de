use Rattle.std.proofs.Common.{◌≡◌, ◌∙◌, ap, refl, sym, ℕ, List, map, length, Bool, Option, Some, None, rules}
use Rattle.std.specs.Prelude.{◌&&◌, is_some}
use Rattle.std.proofs.lemmas.List.{length-map}
use Rattle.std.specs.Borrow.{Bor}
use Rattle.cx_words.specs.declared.given.Given.{Given}
use Rattle.cx_words.specs.declared.verbs.Row.{Row}
use Rattle.cx_words.specs.Verbs.{fits_number, fits_place}
use Rattle.cx_words.specs.Words.{fits_row, plain_given, text_of}
use Rattle.cx_words.proofs.words.fits_row.Goals as goal
use Rattle.cx_words.proofs.words.fits_row.Goals.{then-fits_place, else-fits_place, then-fits_place-2, else-fits_place-2, then-fits_place-3, else-fits_place-3, then-fits_place-4, else-fits_place-4}

-- an option is there as its text is
told : (value : Option (Bor (List ℕ))) → is_some value ≡ is_some (text_of value)
told None = refl
told (Some value) = refl

told_row : (r : Row) (g : Given) → (fits_place r.output (is_some g.output) && fits_place r.plan (is_some g.plan) && fits_place r.steps (is_some g.steps) && fits_place r.semantic (is_some g.semantic) && fits_place r.journal (is_some g.journal) && fits_number r.names (length (map (λ name. name.now) g.names))) ≡ fits_row r (plain_given g)
told_row r g = λ i.
    fits_place r.output (told g.output i) && fits_place r.plan (told g.plan i) && fits_place r.steps (told g.steps i)
    && fits_place r.semantic (told g.semantic i) && fits_place r.journal (told g.journal i) && fits_number r.names (length (map (λ name. name.now) g.names))

-- all five, of which each value is the one before and one more
all_five : (a b c d e two three four five : Bool) → two ≡ (a && b) → three ≡ (two && c) → four ≡ (three && d) → five ≡ (four && e) → five ≡ (a && b && c && d && e)
all_five a b c d e two three four five is2 is3 is4 is5 = is5 ∙ ap (λ x. x && e) (is4 ∙ ap (λ x. x && d) (is3 ∙ ap (λ x. x && c) is2))

pub returns-then-fits_place-5 : goal.returns-then-fits_place-5
returns-then-fits_place-5 c =
    let r = c.args.row in
    let g = c.args.given.now in
    let all = all_five (fits_place r.output (is_some g.output)) (fits_place r.plan (is_some g.plan)) (fits_place r.steps (is_some g.steps)) (fits_place r.semantic (is_some g.semantic)) (fits_place r.journal (is_some g.journal))
    c.if-fits_place.value c.if-fits_place-2.value c.if-fits_place-3.value c.if-fits_place-4.value
    (elim c.if-fits_place.branch [ then-fits_place w ↦ search rules | else-fits_place w ↦ search rules ])
    (elim c.if-fits_place-2.branch [ then-fits_place-2 w ↦ search rules | else-fits_place-2 w ↦ search rules ])
    (elim c.if-fits_place-3.branch [ then-fits_place-3 w ↦ search rules | else-fits_place-3 w ↦ search rules ])
    (elim c.if-fits_place-4.branch [ then-fits_place-4 w ↦ search rules | else-fits_place-4 w ↦ search rules ]) in
    let number = c.fits_number.ensures ∙ ap (fits_number r.names) (ap length c.items.ensures ∙ sym (length-map g.names (λ name. name.now))) in
    number ∙ ap (λ b. b && fits_number r.names (length (map (λ name. name.now) g.names))) (sym c.if-fits_place-5.true ∙ all) ∙ told_row r g

pub returns-else-fits_place-5 : goal.returns-else-fits_place-5
returns-else-fits_place-5 c =
    let r = c.args.row in
    let g = c.args.given.now in
    let all = all_five (fits_place r.output (is_some g.output)) (fits_place r.plan (is_some g.plan)) (fits_place r.steps (is_some g.steps)) (fits_place r.semantic (is_some g.semantic)) (fits_place r.journal (is_some g.journal))
    c.if-fits_place.value c.if-fits_place-2.value c.if-fits_place-3.value c.if-fits_place-4.value
    (elim c.if-fits_place.branch [ then-fits_place w ↦ search rules | else-fits_place w ↦ search rules ])
    (elim c.if-fits_place-2.branch [ then-fits_place-2 w ↦ search rules | else-fits_place-2 w ↦ search rules ])
    (elim c.if-fits_place-3.branch [ then-fits_place-3 w ↦ search rules | else-fits_place-3 w ↦ search rules ])
    (elim c.if-fits_place-4.branch [ then-fits_place-4 w ↦ search rules | else-fits_place-4 w ↦ search rules ]) in
    c.if-fits_place-5.false ∙ ap (λ b. b && fits_number r.names (length (map (λ name. name.now) g.names))) (sym c.if-fits_place-5.false ∙ all) ∙ told_row r g
