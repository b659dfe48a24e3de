-- What is painted, one region after the other, the last one first.
use Rattle.std.proofs.Common.{◌≡◌, ◌≢◌, ◌⊎◌, inl, inr, ℕ, zero, suc, ◌+◌, ◌-◌, ◌<◌, ◌≤◌, max, min, Bool, true, false, if◌then◌else◌, List, [], ◌∷◌, length, drop, get_or, Option, Some, None, IsSome, slice_get, slice_set, refl, sym, ap, subst, ◌∙◌, arith, rules, length-set}
use Rattle.std.proofs.lemmas.Option.{slice_get_within, get_or_from_slice_get, slice_get-get_or}
use Rattle.std.proofs.lemmas.List.{get_or-set_same, get_or-set_other}
use Rattle.std.proofs.lemmas.Bool.{cases_lt}
use Rattle.std.proofs.lemmas.Grind.{common_steps}
use Rattle.cx_code.specs.declared.code.Region.{Region}
use Rattle.cx_code.specs.Unwind.{covers, first_covering}
use Rattle.cx_code.specs.Rules.{Overlaps, Encloses}
use Rattle.cx_unwind.specs.Crossing.{IsCrossing}
use Rattle.cx_unwind.specs.Painting.{value_at, painted, IsPainted, IsLaidOut, IsBoundary}
use Rattle.cx_unwind.proofs.Changes.{Changes, paints, no_change, steady_from, inside, keeps_changes, other_change}
use Rattle.cx_unwind.proofs.Covering.{from_here, past_end, found_from}

same_region : (regions : List Region) (i j : ℕ) (a b : Region) → i ≡ j → slice_get regions i ≡ Some a → slice_get regions j ≡ Some b → a ≡ b
same_region regions i j a b e is at = let t : Some a ≡ Some b = cc in cc

set_same : (xs : List (Option ℕ)) (i : ℕ) (v : Option ℕ) → i < length xs → slice_get (slice_set xs i v) i ≡ Some v
set_same xs i v lt =
    let n : length (slice_set xs i v) ≡ length xs = length-set xs i v in
    slice_get-get_or (slice_set xs i v) i v (omega arith) ∙ ap (λ (o : Option ℕ). Some o) (get_or-set_same xs i v v lt)

set_other : (xs : List (Option ℕ)) (i j : ℕ) (v w : Option ℕ) → j ≢ i → slice_get xs j ≡ Some w → slice_get (slice_set xs i v) j ≡ Some w
set_other xs i j v w ne is =
    let lt : j < length xs = slice_get_within xs j w is in
    let n : length (slice_set xs i v) ≡ length xs = length-set xs i v in
    slice_get-get_or (slice_set xs i v) j w (omega arith) ∙ ap (λ (o : Option ℕ). Some o) (get_or-set_other xs i j v w ne ∙ get_or_from_slice_get xs j w w is)

-- ---- the start: nothing is painted

pub nothing : (regions : List Region) (g : Changes) (parents : List (Option ℕ)) → length parents ≡ length regions → ((q : ℕ) → g q ≡ None) → IsPainted regions (length regions) g parents
nothing regions g parents size none = record {
  size = size;
  value = λ place. no_change g place (λ q l. none q) ∙ sym (past_end regions (length regions) place (omega arith));
  parent = λ index region place since at covered. let lt : index < length regions = slice_get_within regions index region at in absurd (omega arith);
}

some_none : (o : Option (Option ℕ)) → o ≡ None → IsSome o → ⊥
some_none None is some = absurd cc
some_none (Some v) is some = absurd cc

pub nothing_laid : (regions : List Region) (g : Changes) → ((q : ℕ) → g q ≡ None) → IsLaidOut regions (length regions) g
nothing_laid regions g none = record {
  has_start = λ index region since at some. let lt : index < length regions = slice_get_within regions index region at in absurd (omega arith);
  has_end = λ index region since at some. let lt : index < length regions = slice_get_within regions index region at in absurd (omega arith);
  only = λ place some. absurd (some_none (g place) (none place) some);
  nested = λ earlier later a b since before at_a at_b over. let lt : earlier < length regions = slice_get_within regions earlier a at_a in absurd (omega arith);
}

-- ---- a region that covers nothing

nowhere : (place : ℕ) (region : Region) → region.end ≤ region.start → covers place region ≡ false
nowhere place region le = grind (arith, common_steps, le)

pub skipped : (regions : List Region) (from : ℕ) (g : Changes) (parents : List (Option ℕ)) (region : Region) → slice_get regions from ≡ Some region → region.end ≤ region.start
    → IsPainted regions (from + 1) g parents → IsPainted regions from g parents
skipped regions from g parents region at empty p = record {
  size = p.size;
  value = λ place. p.value place ∙ sym (from_here regions from place region at ∙ rw (nowhere place region empty) refl);
  parent = λ index other place since is covered.
      elim (cases_lt from index) [
        | inl lt ↦ p.parent index other place (omega arith) is covered
        | inr le ↦
            let same : region ≡ other = same_region regions from index region other (omega arith) at is in
            let no : covers place other ≡ false = subst (λ (r : Region). covers place r ≡ false) same (nowhere place region empty) in
            absurd cc
      ];
}

pub skipped_laid : (regions : List Region) (from : ℕ) (g : Changes) (region : Region) → slice_get regions from ≡ Some region → region.end ≤ region.start
    → IsLaidOut regions (from + 1) g → IsLaidOut regions from g
skipped_laid regions from g region at empty p = record {
  has_start = λ index other since is some.
      elim (cases_lt from index) [
        | inl lt ↦ p.has_start index other (omega arith) is some
        | inr le ↦
            let same : region ≡ other = same_region regions from index region other (omega arith) at is in
            let none : other.end ≤ other.start = subst (λ (r : Region). r.end ≤ r.start) same empty in
            absurd (omega arith)
      ];
  has_end = λ index other since is some.
      elim (cases_lt from index) [
        | inl lt ↦ p.has_end index other (omega arith) is some
        | inr le ↦
            let same : region ≡ other = same_region regions from index region other (omega arith) at is in
            let none : other.end ≤ other.start = subst (λ (r : Region). r.end ≤ r.start) same empty in
            absurd (omega arith)
      ];
  only = λ place some.
      let b = p.only place some in
      let since : from + 1 ≤ b.index = b.since in
      record { index = b.index; since = omega arith; region = b.region; at = b.at; some = b.some; is = b.is };
  nested = λ earlier later a b since before at_a at_b over.
      elim (cases_lt from earlier) [
        | inl lt ↦ p.nested earlier later a b (omega arith) before at_a at_b over
        | inr le ↦
            let same : region ≡ a = same_region regions from earlier region a (omega arith) at at_a in
            let none : a.end ≤ a.start = subst (λ (r : Region). r.end ≤ r.start) same empty in
            absurd (omega arith)
      ];
}

-- ---- a region that covers something

pub layered : (regions : List Region) (from : ℕ) (g h : Changes) (parents : List (Option ℕ)) (region : Region) → slice_get regions from ≡ Some region → region.start < region.end
    → ((q : ℕ) → region.start < q → q < region.end → g q ≡ None) → ((q : ℕ) → h q ≡ painted g region from q)
    → IsPainted regions (from + 1) g parents → IsPainted regions from h (slice_set parents from (value_at g region.start))
layered regions from g h parents region at some none is p =
    let outer : Option ℕ = value_at g region.start in
    let size : length parents ≡ length regions = p.size in
    let lt : from < length regions = slice_get_within regions from region at in
    let n : length (slice_set parents from outer) ≡ length parents = length-set parents from outer in
    record {
      size = omega arith;
      value = λ place. paints g h region from some none is place ∙ rw (p.value place) (sym (from_here regions from place region at));
      parent = λ index other place since at_index covered.
          elim (cases_lt from index) [
            | inl below ↦ set_other parents from index outer (first_covering (drop (index + 1) regions) (index + 1) place) (omega arith) (p.parent index other place (omega arith) at_index covered)
            | inr le ↦
                let e : from ≡ index = omega arith in
                let same : region ≡ other = same_region regions from index region other e at at_index in
                let here : covers place region ≡ true = subst (λ (r : Region). covers place r ≡ true) (sym same) covered in
                let i = inside place region here in
                let steady : value_at g place ≡ outer = steady_from g region.start place i.0 (λ q l m. none q l (omega (arith, i.1))) in
                let found : outer ≡ first_covering (drop (from + 1) regions) (from + 1) place = sym steady ∙ p.value place in
                subst (λ (k : ℕ). slice_get (slice_set parents from outer) k ≡ Some (first_covering (drop (k + 1) regions) (k + 1) place)) e
                (set_same parents from outer (omega arith) ∙ ap (λ (o : Option ℕ). Some o) found)
          ];
    }

-- where no boundary of a later region lies inside an earlier one, the later one encloses what it overlaps
encloses : (g : Changes) (a b : Region) → ((q : ℕ) → a.start < q → q < a.end → g q ≡ None) → IsSome (g b.start) → IsSome (g b.end) → Overlaps a b → Encloses b a
encloses g a b none has_start has_end over =
    let low : b.start ≤ a.start = elim (cases_lt a.start b.start) [
      | inl lt ↦ absurd (some_none (g b.start) (none b.start lt (omega arith)) has_start)
      | inr le ↦ le
    ] in
    let high : a.end ≤ b.end = elim (cases_lt b.end a.end) [
      | inl lt ↦ absurd (some_none (g b.end) (none b.end (omega arith) lt) has_end)
      | inr le ↦ le
    ] in
    (low, high)

-- a boundary of a later region inside an earlier one
pub crossed : (regions : List Region) (from : ℕ) (g : Changes) (region : Region) (place : ℕ) → slice_get regions from ≡ Some region → IsLaidOut regions (from + 1) g
    → region.start < place → place < region.end → IsSome (g place) → (later : ℕ) × IsCrossing regions later
crossed regions from g region place at p low high there =
    let b = p.only place there in
    let since : from + 1 ≤ b.index = b.since in
    let some : b.region.start < b.region.end = b.some in (
      b.index,
      elim b.is [
        | inl e ↦ record { earlier = from; before = omega arith; a = region; b = b.region; at_earlier = at; at_later = b.at; overlaps = omega arith; not_around = λ around. let le : b.region.start ≤ region.start = around.0 in absurd (omega arith) }
        | inr e ↦ record { earlier = from; before = omega arith; a = region; b = b.region; at_earlier = at; at_later = b.at; overlaps = omega arith; not_around = λ around. let le : region.end ≤ b.region.end = around.1 in absurd (omega arith) }
      ],
    )

pub layered_laid : (regions : List Region) (from : ℕ) (g h : Changes) (region : Region) → slice_get regions from ≡ Some region → region.start < region.end
    → ((q : ℕ) → region.start < q → q < region.end → g q ≡ None) → ((q : ℕ) → h q ≡ painted g region from q)
    → IsLaidOut regions (from + 1) g → IsLaidOut regions from h
layered_laid regions from g h region at some none is p = record {
  has_start = λ index other since at_index whole.
      elim (cases_lt from index) [
        | inl lt ↦ subst IsSome (sym (is other.start)) (keeps_changes g region from other.start (inl (p.has_start index other (omega arith) at_index whole)))
        | inr le ↦
            let same : region ≡ other = same_region regions from index region other (omega arith) at at_index in
            subst IsSome (sym (is other.start)) (keeps_changes g region from other.start (inr (inl (ap (λ (r : Region). r.start) (sym same)))))
      ];
  has_end = λ index other since at_index whole.
      elim (cases_lt from index) [
        | inl lt ↦ subst IsSome (sym (is other.end)) (keeps_changes g region from other.end (inl (p.has_end index other (omega arith) at_index whole)))
        | inr le ↦
            let same : region ≡ other = same_region regions from index region other (omega arith) at at_index in
            subst IsSome (sym (is other.end)) (keeps_changes g region from other.end (inr (inr (ap (λ (r : Region). r.end) (sym same)))))
      ];
  only = λ place there.
      elim (other_change g region from place (subst IsSome (is place) there)) [
        | inl old ↦
            let b = p.only place old in
            let since : from + 1 ≤ b.index = b.since in
            record { index = b.index; since = omega arith; region = b.region; at = b.at; some = b.some; is = b.is }
        | inr new ↦ record { index = from; since = omega arith; region = region; at = at; some = some; is = new }
      ];
  nested = λ earlier later a b since before at_a at_b over.
      elim (cases_lt from earlier) [
        | inl lt ↦ p.nested earlier later a b (omega arith) before at_a at_b over
        | inr le ↦
            let same : region ≡ a = same_region regions from earlier region a (omega arith) at at_a in
            encloses g a b
            (subst (λ (r : Region). (q : ℕ) → r.start < q → q < r.end → g q ≡ None) same none)
            (p.has_start later b (omega arith) at_b (omega arith)) (p.has_end later b (omega arith) at_b (omega arith)) over
      ];
}

-- ---- what a table gives

-- the region that a parent names
pub parent_of : (regions held : List Region) (g : Changes) (parents : List (Option ℕ)) (from place index : ℕ) (next : Option ℕ) → held ≡ regions → IsPainted held 0 g parents
    → first_covering (drop from regions) from place ≡ Some index → next ≡ get_or parents index next → next ≡ first_covering (drop (index + 1) regions) (index + 1) place
parent_of regions held g parents from place index next same p found is =
    let f = found_from regions from place index found in
    let at : slice_get held index ≡ Some f.region = subst (λ (r : List Region). slice_get r index ≡ Some f.region) (sym same) f.at in
    let parent = p.parent index f.region place (omega arith) at f.covers in
    subst (λ (r : List Region). next ≡ first_covering (drop (index + 1) r) (index + 1) place) same
    (is ∙ get_or_from_slice_get parents index (first_covering (drop (index + 1) held) (index + 1) place) next parent)
