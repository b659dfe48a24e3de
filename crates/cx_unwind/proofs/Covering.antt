-- The first region that covers a place, from one index on and from another.
use Rattle.std.proofs.Common.{◌≡◌, ℕ, zero, suc, ◌+◌, ◌-◌, ◌<◌, ◌≤◌, Bool, true, false, if◌then◌else◌, List, [], ◌∷◌, length, drop, get_or, Option, Some, None, slice_get, inl, inr, refl, sym, ap, subst, ◌∙◌, arith, add-one, drop-cons, length-drop}
use Rattle.std.proofs.lemmas.Option.{slice_get_within, get_or_from_slice_get, slice_get_past}
use Rattle.std.proofs.lemmas.Bool.{cases_lt}
use Rattle.cx_code.specs.declared.code.Region.{Region}
use Rattle.cx_code.specs.Unwind.{covers, first_covering}

pub drop_at : (regions : List Region) (k : ℕ) (region : Region) → slice_get regions k ≡ Some region → drop k regions ≡ region ∷ drop (k + 1) regions
drop_at regions k region is =
    let lt : k < length regions = slice_get_within regions k region is in
    let e : get_or regions k region ≡ region = get_or_from_slice_get regions k region region is in
    let s : k + 1 ≡ suc k = omega arith in
    drop-cons regions k region lt ∙ rw (e, s) refl

pub from_here : (regions : List Region) (k place : ℕ) (region : Region) → slice_get regions k ≡ Some region
    → first_covering (drop k regions) k place ≡ (if covers place region then Some k else first_covering (drop (k + 1) regions) (k + 1) place)
from_here regions k place region is = rw (drop_at regions k region is) refl

-- what is found covers the place, and is one of them
pub record IsFound (regions : List Region) (base place found : ℕ) : Type 0 where
  pub behind : base ≤ found
  pub region : Region
  pub at : slice_get regions (found - base) ≡ Some region
  pub covers : covers place region ≡ true

found_in : (regions : List Region) (base place found : ℕ) → first_covering regions base place ≡ Some found → IsFound regions base place found
found_in [] base place found is = absurd cc
found_in (region ∷ regions) base place found is =
    elim (covers place region) as (λ b. covers place region ≡ b → (if b then Some base else first_covering regions (base + 1) place) ≡ Some found → IsFound (region ∷ regions) base place found) [
      | true ↦ λ yes here.
          let e : base ≡ found = cc here in
          let z : found - base ≡ 0 = omega arith in
          record { behind = omega arith; region = region; at = rw z refl; covers = yes }
      | false ↦ λ no there.
          let more = found_in regions (base + 1) place found there in
          let le : base + 1 ≤ found = more.behind in
          let z : found - base ≡ suc (found - (base + 1)) = omega arith in
          record { behind = omega arith; region = more.region; at = rw z more.at; covers = more.covers }
    ] refl is

slice_drop : (regions : List Region) (k n : ℕ) → slice_get (drop k regions) n ≡ slice_get regions (k + n)
slice_drop regions zero n = let e : 0 + n ≡ n = omega arith in rw e refl
slice_drop [] (suc k) n = sym (slice_get_past [] (suc k + n) (omega arith)) ∙ refl
slice_drop (region ∷ regions) (suc k) n = let e : suc k + n ≡ suc (k + n) = omega arith in rw e (slice_drop regions k n)

pub record IsFoundFrom (regions : List Region) (from place found : ℕ) : Type 0 where
  pub behind : from ≤ found
  pub within : found < length regions
  pub region : Region
  pub at : slice_get regions found ≡ Some region
  pub covers : covers place region ≡ true

pub found_from : (regions : List Region) (from place found : ℕ) → first_covering (drop from regions) from place ≡ Some found → IsFoundFrom regions from place found
found_from regions from place found is =
    let f = found_in (drop from regions) from place found is in
    let le : from ≤ found = f.behind in
    let e : from + (found - from) ≡ found = omega arith in
    let at : slice_get regions found ≡ Some f.region = subst (λ (n : ℕ). slice_get regions n ≡ Some f.region) e (sym (slice_drop regions from (found - from)) ∙ f.at) in
    record { behind = le; within = slice_get_within regions found f.region at; region = f.region; at = at; covers = f.covers }

-- an entry at an index of the list
within_at : (regions : List Region) (k : ℕ) → k < length regions → (region : Region) × (slice_get regions k ≡ Some region)
within_at [] k lt = absurd (omega arith)
within_at (region ∷ regions) zero lt = (region, refl)
within_at (region ∷ regions) (suc k) lt = within_at regions k (omega arith)

step_some : (regions : List Region) (k place found : ℕ) → first_covering (drop k regions) k place ≡ Some found → k < found
    → first_covering (drop (k + 1) regions) (k + 1) place ≡ Some found
step_some regions k place found is lt =
    let f = found_from regions k place found is in
    let within : found < length regions = f.within in
    let here = within_at regions k (omega arith) in
    let e = sym (from_here regions k place here.0 here.1) ∙ is in
    elim (covers place here.0) as (λ b. (if b then Some k else first_covering (drop (k + 1) regions) (k + 1) place) ≡ Some found → first_covering (drop (k + 1) regions) (k + 1) place ≡ Some found) [
      | true ↦ λ same. let same_place : k ≡ found = cc same in absurd (omega arith)
      | false ↦ λ there. there
    ] e

pub keeps_some : (regions : List Region) (k d place found : ℕ) → first_covering (drop k regions) k place ≡ Some found → k + d ≤ found
    → first_covering (drop (k + d) regions) (k + d) place ≡ Some found
keeps_some regions k zero place found is le = let e : k + 0 ≡ k = omega arith in rw e is
keeps_some regions k (suc d) place found is le =
    let e : k + suc d ≡ k + d + 1 = omega arith in
    rw e (step_some regions (k + d) place found (keeps_some regions k d place found is (omega arith)) (omega arith))

pub some_from : (regions : List Region) (k m place found : ℕ) → k ≤ m → first_covering (drop k regions) k place ≡ Some found → m ≤ found
    → first_covering (drop m regions) m place ≡ Some found
some_from regions k m place found le is behind =
    let e : k + (m - k) ≡ m = omega arith in
    subst (λ (n : ℕ). first_covering (drop n regions) n place ≡ Some found) e (keeps_some regions k (m - k) place found is (omega arith))

past_none : (regions : List Region) (k n place : ℕ) → length regions ≤ k → first_covering (drop k regions) n place ≡ None
past_none [] zero n place le = refl
past_none [] (suc k) n place le = refl
past_none (region ∷ regions) zero n place le = absurd (omega arith)
past_none (region ∷ regions) (suc k) n place le = past_none regions k n place (omega arith)

pub past_end : (regions : List Region) (k place : ℕ) → length regions ≤ k → first_covering (drop k regions) k place ≡ None
past_end regions k place le = past_none regions k k place le

step_none : (regions : List Region) (k place : ℕ) → first_covering (drop k regions) k place ≡ None
    → first_covering (drop (k + 1) regions) (k + 1) place ≡ None
step_none regions k place is =
    elim (cases_lt k (length regions)) [
      | inl lt ↦
          let here = within_at regions k lt in
          let e = sym (from_here regions k place here.0 here.1) ∙ is in
          elim (covers place here.0) as (λ b. (if b then Some k else first_covering (drop (k + 1) regions) (k + 1) place) ≡ None → first_covering (drop (k + 1) regions) (k + 1) place ≡ None) [
            | true ↦ λ other. absurd cc
            | false ↦ λ there. there
          ] e
      | inr le ↦ past_end regions (k + 1) place (omega arith)
    ]

keeps_none : (regions : List Region) (k d place : ℕ) → first_covering (drop k regions) k place ≡ None
    → first_covering (drop (k + d) regions) (k + d) place ≡ None
keeps_none regions k zero place is = let e : k + 0 ≡ k = omega arith in rw e is
keeps_none regions k (suc d) place is =
    let e : k + suc d ≡ k + d + 1 = omega arith in
    rw e (step_none regions (k + d) place (keeps_none regions k d place is))

pub none_from : (regions : List Region) (k m place : ℕ) → k ≤ m → first_covering (drop k regions) k place ≡ None
    → first_covering (drop m regions) m place ≡ None
none_from regions k m place le is =
    let e : k + (m - k) ≡ m = omega arith in
    subst (λ (n : ℕ). first_covering (drop n regions) n place ≡ None) e (keeps_none regions k (m - k) place is)

-- how many regions lie from the one that was found on
abbrev pub left_of : ℕ → Option ℕ → ℕ
left_of count None = 0
left_of count (Some found) = count - found

pub only_none : (o : Option ℕ) → ((found : ℕ) → o ≡ Some found → ⊥) → o ≡ None
only_none None none = refl
only_none (Some found) none = absurd (none found refl)

less_left : (count index : ℕ) (regions : List Region) (place : ℕ) (next : Option ℕ) → count ≡ length regions → index < count → next ≡ first_covering (drop (index + 1) regions) (index + 1) place
    → left_of count next < count - index
less_left count index regions place None size lt is = omega arith
less_left count index regions place (Some found) size lt is =
    let f = found_from regions (index + 1) place found (sym is) in
    let behind : index + 1 ≤ found = f.behind in
    let within : found < length regions = f.within in
    omega arith

pub goes_outwards : (regions : List Region) (index place : ℕ) (found next : Option ℕ) → found ≡ Some index → index < length regions → next ≡ first_covering (drop (index + 1) regions) (index + 1) place
    → left_of (length regions) next < left_of (length regions) found
goes_outwards regions index place found next is lt e = rw is (less_left (length regions) index regions place next refl lt e)
