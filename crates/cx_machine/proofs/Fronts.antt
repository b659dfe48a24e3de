-- A journal of steps of which the last one was begun is a front of the machine's, for the crates above.
use Rattle.std.proofs.Common.{◌≡◌, ℕ, zero, suc, ◌-◌, List, [], ◌++◌, inl, inr, refl, sym, ap, subst, ◌∙◌, append_assoc, arith}
use Rattle.std.specs.Option.{option_to_list}
use Rattle.std.proofs.lemmas.List.{append-nil}
use Rattle.cx_code.specs.declared.image.Image.{Image}
use Rattle.cx_code.specs.declared.run.Event.{Event}
use Rattle.cx_code.specs.declared.run.Run.{Run}
use Rattle.cx_code.specs.State.{State, initial}
use Rattle.cx_code.specs.Act.{Step, Goes, Ends}
use Rattle.cx_code.specs.Run.{step, with_front, run_from, after, machine}
use Rattle.cx_machine.specs.Outcome.{BeginsWith, IsBegun}

front_after : (t : Step) (more less : State → Run) → ((s : State) → BeginsWith (more s).journal (less s).journal) → BeginsWith (after t more).journal (after t less).journal
unfolding with_front
front_after (Goes s event) more less front =
    ((front s).0, ap (λ (j : List Event). option_to_list event ++ j) (front s).1 ∙ sym (append_assoc (option_to_list event) (less s).journal (front s).0))
front_after (Ends ending event) more less front = ([], sym (append-nil _))

-- one step more
longer : (image : Image) (n : ℕ) (s : State) → BeginsWith (run_from image (suc n) s).journal (run_from image n s).journal
unfolding run_from
longer image zero s = ((run_from image (suc zero) s).journal, refl)
longer image (suc n) s = front_after (step image s) (run_from image (suc n)) (run_from image n) (longer image n)

whole : (all journal : List Event) → journal ≡ all → BeginsWith all journal
whole all journal e = ([], sym e ∙ sym (append-nil journal))

pub begins : (image : Image) (bytes : List ℕ) (steps : ℕ) (journal : List Event) → IsBegun image bytes steps journal → BeginsWith (machine image bytes steps).journal journal
begins image bytes steps journal (inr e) = whole (machine image bytes steps).journal journal e
begins image bytes zero journal (inl e) = whole (machine image bytes zero).journal journal e
begins image bytes (suc n) journal (inl e) =
    let k : suc n - 1 ≡ n = omega arith in
    let less : journal ≡ (machine image bytes n).journal = e ∙ ap (λ (m : ℕ). (machine image bytes m).journal) k in
    subst (BeginsWith (machine image bytes (suc n)).journal) (sym less) (longer image n (initial image bytes))
