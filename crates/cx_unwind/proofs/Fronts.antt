-- The first crossing, by the fronts of the regions that are nested and that aren't.
use Rattle.std.proofs.Common.{◌≡◌, ℕ, zero, suc, ◌+◌, ◌<◌, ◌≤◌, List, [], ◌∷◌, length, take, Option, Some, slice_get, refl, sym, subst, ◌∙◌, arith}
use Rattle.std.proofs.lemmas.Option.{slice_get_within, slice_get_past}
use Rattle.std.proofs.lemmas.Bool.{cases_lt}
use Rattle.std.proofs.Common.{inl, inr}
use Rattle.cx_code.specs.declared.code.Region.{Region}
use Rattle.cx_code.specs.Rules.{IsNested}
use Rattle.cx_unwind.specs.Crossing.{IsCrossing, IsFirstCrossing}

-- an entry of a front is one of the whole
front_at : (regions : List Region) (count i : ℕ) (region : Region) → slice_get (take count regions) i ≡ Some region → (i < count) × (slice_get regions i ≡ Some region)
front_at regions zero i region is = absurd cc
front_at [] (suc count) i region is = absurd cc
front_at (r ∷ regions) (suc count) zero region is = (omega arith, is)
front_at (r ∷ regions) (suc count) (suc i) region is =
    let more = front_at regions count i region is in
    (omega (arith, more.0), more.1)

at_front : (regions : List Region) (count i : ℕ) (region : Region) → i < count → slice_get regions i ≡ Some region → slice_get (take count regions) i ≡ Some region
at_front regions zero i region lt is = absurd (omega arith)
at_front [] (suc count) i region lt is = absurd cc
at_front (r ∷ regions) (suc count) zero region lt is = is
at_front (r ∷ regions) (suc count) (suc i) region lt is = at_front regions count i region (omega arith) is

whole_crossing : (regions : List Region) (count later : ℕ) → IsCrossing (take count regions) later → (later < count) × IsCrossing regions later
whole_crossing regions count later x =
    let a = front_at regions count x.earlier x.a x.at_earlier in
    let b = front_at regions count later x.b x.at_later in
    (b.0, record { earlier = x.earlier; before = x.before; a = x.a; b = x.b; at_earlier = a.1; at_later = b.1; overlaps = x.overlaps; not_around = x.not_around })

-- what is nested has no crossing
no_crossing : (regions : List Region) (count later : ℕ) → IsNested (take count regions) → later < count → IsCrossing regions later → ⊥
no_crossing regions count later nested lt x =
    x.not_around (nested x.earlier later x.a x.b x.before
    (at_front regions count x.earlier x.a (omega (arith, x.before)) x.at_earlier) (at_front regions count later x.b lt x.at_later) x.overlaps)

pub is_first : (regions : List Region) (nested crossing : ℕ) → nested < crossing → crossing ≤ nested + 1 → IsNested (take nested regions) → (later : ℕ) × IsCrossing (take crossing regions) later
    → IsFirstCrossing regions nested
is_first regions nested crossing lt le n x =
    let w = whole_crossing regions crossing x.0 x.1 in
    let e : x.0 ≡ nested = elim (cases_lt x.0 nested) [
      | inl before ↦ absurd (no_crossing regions nested x.0 n before w.1)
      | inr behind ↦ omega (arith, w.0)
    ] in
    record {
      crosses = subst (λ (k : ℕ). IsCrossing regions k) e w.1;
      first = λ other before. no_crossing regions nested other n before;
    }
