-- A list has at most one first fault.
use Rattle.std.proofs.Common.{◌≡◌, ◌⊎◌, ℕ, ◌<◌, ◌≤◌, inl, inr, refl, sym, ap, ◌∙◌, subst, arith}
use Rattle.std.specs.Prelude.{slice_get, Option, Some, None, MatchOption}
use Rattle.std.proofs.lemmas.Bool.{cases_lt}
use Rattle.cx_syntax.specs.Place.{Grammatical, IsPlace}
use Rattle.cx_syntax.specs.Spell.{Marks}
use Rattle.cx_includes.specs.declared.assembled.Assembled.{Assembled}
use Rattle.cx_faults.specs.declared.fault.FaultPlace.{FaultPlace}
use Rattle.cx_faults.specs.declared.fault.ListFault.{ListFault}
use Rattle.cx_faults.specs.declared.fault.ListFault.TheVariants as faults
use Rattle.cx_faults.specs.Faults.{IsListFault, IsFaultless, open_count, most_open, marks_of, place_of}

one_place : (ts : Marks) (p q : ℕ) → IsPlace ts p → IsPlace ts q → p ≡ q
one_place ts p q a b =
    elim (cases_lt p q) [
      | inl lt ↦ absurd (a.3 q lt b.1 b.2)
      | inr le ↦ elim (cases_lt q p) [ inl lt ↦ absurd (b.3 p lt a.1 a.2) | inr ge ↦ omega arith ]
    ]

pub is_open : (list : Assembled) (open_now : ℕ) → open_now ≡ open_count list → most_open < open_now → IsListFault list (faults.OpenTokens open_now)
is_open list open_now e lt = subst (λ (n : ℕ). IsListFault list (faults.OpenTokens n)) (sym e) (IsListFault.opened (omega (arith, e, lt)))

pub only_open : (list : Assembled) (open_now : ℕ) → open_now ≡ open_count list → most_open < open_now → (fault : ListFault) → IsListFault list fault
    → (faults.OpenTokens open_now ≡ fault) ⊎ (faults.OpenTokens open_now ≡ faults.OutOfMemory)
only_open list open_now e lt fault (IsListFault.opened other) = inl (ap faults.OpenTokens e)
only_open list open_now e lt fault (IsListFault.syntax shallow place is) = absurd (omega (arith, e, lt, shallow))

pub is_syntax : (list : Assembled) (open_now at : ℕ) (place : FaultPlace) → open_now ≡ open_count list → open_now ≤ most_open → IsPlace (marks_of list) at → place ≡ place_of list (slice_get list.placed at)
    → IsListFault list (faults.Syntax place)
is_syntax list open_now at place e le is same = subst (λ (p : FaultPlace). IsListFault list (faults.Syntax p)) (sym same) (IsListFault.syntax (omega (arith, e, le)) at is)

pub only_syntax : (list : Assembled) (open_now at : ℕ) (place : FaultPlace) → open_now ≡ open_count list → open_now ≤ most_open → IsPlace (marks_of list) at → place ≡ place_of list (slice_get list.placed at)
    → (fault : ListFault) → IsListFault list fault → (faults.Syntax place ≡ fault) ⊎ (faults.Syntax place ≡ faults.OutOfMemory)
only_syntax list open_now at place e le is same fault (IsListFault.opened other) = absurd (omega (arith, e, le, other))
only_syntax list open_now at place e le is same fault (IsListFault.syntax shallow other also) =
    let one = one_place (marks_of list) at other is also in
    inl (ap faults.Syntax (same ∙ ap (λ (n : ℕ). place_of list (slice_get list.placed n)) one))

pub no_fault : (list : Assembled) → IsFaultless list → (fault : ListFault) → IsListFault list fault → ⊥
no_fault list fine fault (IsListFault.opened other) = absurd (omega (arith, fine.shallow, other))
no_fault list fine fault (IsListFault.syntax shallow place is) = is.0 fine.grammatical

-- what is told of a list's place
pub place_told : (list : Assembled) (told : Option ℕ) (at : ℕ) → told ≡ Some at → MatchOption told (Grammatical (marks_of list)) (IsPlace (marks_of list)) → IsPlace (marks_of list) at
place_told list told at e is = subst (λ (o : Option ℕ). MatchOption o (Grammatical (marks_of list)) (IsPlace (marks_of list))) e is

pub none_told : (list : Assembled) (told : Option ℕ) → told ≡ None → MatchOption told (Grammatical (marks_of list)) (IsPlace (marks_of list)) → Grammatical (marks_of list)
none_told list told e is = subst (λ (o : Option ℕ). MatchOption o (Grammatical (marks_of list)) (IsPlace (marks_of list))) e is
