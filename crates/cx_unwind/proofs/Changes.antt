-- The value at a place, by the changes before it.
use Rattle.std.proofs.Common.{◌≡◌, ◌⊎◌, ℕ, zero, suc, ◌+◌, ◌-◌, ◌<◌, ◌≤◌, ◌==◌, ◌&&◌, Bool, true, false, nat_le, nat_lt, if◌then◌else◌, Option, Some, None, IsSome, refl, sym, ap, subst, ◌∙◌, arith, inl, inr, add-zero, add-suc}
use Rattle.std.proofs.lemmas.Bool.{cases_lt}
use Rattle.std.proofs.lemmas.Grind.{common_steps}
use Rattle.std.specs.Ordering.{nat_cmp, is_gt, is_lt}
use Rattle.std.specs.Bool.{⊤}
use Rattle.std.proofs.Common.{rules}
use Rattle.cx_code.specs.declared.code.Region.{Region}
use Rattle.cx_code.specs.Unwind.{covers}
use Rattle.cx_unwind.specs.Painting.{changed_to, value_at, painted}

abbrev pub Changes : Type 0
Changes = ℕ → Option (Option ℕ)

value_at-suc : (g : Changes) (n : ℕ) → value_at g (suc n) ≡ changed_to (g (suc n)) (value_at g n)
unfolding value_at
value_at-suc g n = refl

-- where nothing changes the value stays
steady : (g : Changes) (a d : ℕ) → ((q : ℕ) → a < q → q ≤ a + d → g q ≡ None) → value_at g (a + d) ≡ value_at g a
steady g a zero none = rw add-zero refl
steady g a (suc d) none =
    let same : value_at g (a + d) ≡ value_at g a = steady g a d (λ q l h. none q l (omega arith)) in
    let here : g (suc (a + d)) ≡ None = none (suc (a + d)) (omega arith) (omega arith) in
    let e : a + suc d ≡ suc (a + d) = omega arith in
    rw (e, value_at-suc g (a + d), here) same

pub steady_from : (g : Changes) (a b : ℕ) → a ≤ b → ((q : ℕ) → a < q → q ≤ b → g q ≡ None) → value_at g b ≡ value_at g a
steady_from g a b le none =
    let e : a + (b - a) ≡ b = omega arith in
    subst (λ (n : ℕ). value_at g n ≡ value_at g a) e (steady g a (b - a) (λ q l h. none q l (omega arith)))

pub at_change : (g : Changes) (k : ℕ) (v : Option ℕ) → g k ≡ Some v → value_at g k ≡ v
unfolding value_at
at_change g zero v is = ap (λ (o : Option (Option ℕ)). changed_to o None) is
at_change g (suc k) v is = ap (λ (o : Option (Option ℕ)). changed_to o (value_at g k)) is

-- the last change decides
pub since_change : (g : Changes) (k place : ℕ) (v : Option ℕ) → k ≤ place → g k ≡ Some v → ((q : ℕ) → k < q → q ≤ place → g q ≡ None) → value_at g place ≡ v
since_change g k place v le is none = steady_from g k place le none ∙ at_change g k v is

pub no_change : (g : Changes) (place : ℕ) → ((q : ℕ) → q ≤ place → g q ≡ None) → value_at g place ≡ None
unfolding value_at
no_change g zero none = ap (λ (o : Option (Option ℕ)). changed_to o None) (none zero (omega arith))
no_change g (suc n) none = rw (none (suc n) (omega arith)) (no_change g n (λ q l. none q (omega arith)))

-- the changes up to a place decide
pub same_before : (g h : Changes) (place : ℕ) → ((q : ℕ) → q ≤ place → h q ≡ g q) → value_at h place ≡ value_at g place
unfolding value_at
same_before g h zero same = ap (λ (o : Option (Option ℕ)). changed_to o None) (same zero (omega arith))
same_before g h (suc n) same =
    rw (same (suc n) (omega arith), same_before g h n (λ q l. same q (omega arith))) refl

-- from a place of one value on, the same changes keep the values equal
same_after : (g h : Changes) (a d : ℕ) → value_at h a ≡ value_at g a → ((q : ℕ) → a < q → h q ≡ g q) → value_at h (a + d) ≡ value_at g (a + d)
same_after g h a zero at same = rw add-zero at
same_after g h a (suc d) at same =
    let e : a + suc d ≡ suc (a + d) = omega arith in
    rw (e, value_at-suc h (a + d), value_at-suc g (a + d), same (suc (a + d)) (omega arith), same_after g h a d at same) refl

pub same_from : (g h : Changes) (a place : ℕ) → a ≤ place → value_at h a ≡ value_at g a → ((q : ℕ) → a < q → h q ≡ g q) → value_at h place ≡ value_at g place
same_from g h a place le at same =
    let e : a + (place - a) ≡ place = omega arith in
    subst (λ (n : ℕ). value_at h n ≡ value_at g n) e (same_after g h a (place - a) at same)

le_from_cmp : (k p : ℕ) → is_gt (nat_cmp k p) ≡ false → k ≤ p
le_from_cmp k p h = grind (arith, common_steps, h)

cmp_from_le : (k p : ℕ) → k ≤ p → is_gt (nat_cmp k p) ≡ false
cmp_from_le k p h = grind (arith, common_steps, h)

not_lt : (k q : ℕ) → is_lt (nat_cmp k q) ≡ false → q ≤ k
not_lt k q h = grind (arith, common_steps, h)

none_at : (o : Option (Option ℕ)) → (IsSome o → ⊥) → o ≡ None
none_at None h = refl
none_at (Some v) h = absurd (h (search rules))

-- what the last entry up to a place says
pub from_last : (g : Changes) (k place : ℕ) (v : Option ℕ) → is_gt (nat_cmp k place) ≡ false → g k ≡ Some v
    → ((q : ℕ) → ⊤ × (is_gt (nat_cmp q place) ≡ false) → IsSome (g q) → is_lt (nat_cmp k q) ≡ false) → v ≡ value_at g place
from_last g k place v below is greatest =
    sym (since_change g k place v (le_from_cmp k place below) is
    (λ q l h. none_at (g q) (λ some.
    let no : q ≤ k = not_lt k q (greatest q (tt, cmp_from_le q place h) some) in
    absurd (omega arith))))

pub from_no_entry : (g : Changes) (place : ℕ) → ((q : ℕ) → ⊤ × (is_gt (nat_cmp q place) ≡ false) → g q ≡ None) → None ≡ value_at g place
from_no_entry g place none = sym (no_change g place (λ q l. none q (tt, cmp_from_le q place l)))

-- ---- a region is painted

cover_inside : (place : ℕ) (region : Region) → region.start ≤ place → place < region.end → covers place region ≡ true
cover_inside place region a b = grind (arith, common_steps, a, b)

not_before : (place : ℕ) (region : Region) → place < region.start → covers place region ≡ false
not_before place region a = grind (arith, common_steps, a)

not_behind : (place : ℕ) (region : Region) → region.end ≤ place → covers place region ≡ false
not_behind place region a = grind (arith, common_steps, a)

painted_start : (g : Changes) (region : Region) (index : ℕ) → painted g region index region.start ≡ Some (Some index)
painted_start g region index = grind (arith, common_steps)

painted_end : (g : Changes) (region : Region) (index : ℕ) → region.start < region.end → painted g region index region.end ≡ Some (changed_to (g region.end) (value_at g region.start))
painted_end g region index some = grind (arith, common_steps, some)

painted_other : (g : Changes) (region : Region) (index q : ℕ) → (q < region.start) ⊎ (region.start < q) → (q < region.end) ⊎ (region.end < q) → painted g region index q ≡ g q
painted_other g region index q (inl a) (inl b) = grind (arith, common_steps, a, b)
painted_other g region index q (inl a) (inr b) = grind (arith, common_steps, a, b)
painted_other g region index q (inr a) (inl b) = grind (arith, common_steps, a, b)
painted_other g region index q (inr a) (inr b) = grind (arith, common_steps, a, b)

at_end : (g : Changes) (s e : ℕ) → s < e → ((q : ℕ) → s < q → q < e → g q ≡ None) → value_at g e ≡ changed_to (g e) (value_at g s)
at_end g s zero lt none = absurd (omega arith)
at_end g s (suc n) lt none =
    value_at-suc g n ∙ ap (λ (v : Option ℕ). changed_to (g (suc n)) v) (steady_from g s n (omega arith) (λ q l h. none q l (omega arith)))

pub paints : (g h : Changes) (region : Region) (index : ℕ) → region.start < region.end → ((q : ℕ) → region.start < q → q < region.end → g q ≡ None)
    → ((q : ℕ) → h q ≡ painted g region index q) → (place : ℕ) → value_at h place ≡ (if covers place region then Some index else value_at g place)
paints g h region index some none is place =
    elim (cases_lt place region.start) [
      | inl lt ↦
          rw (not_before place region lt)
          (same_before g h place (λ q l. is q ∙ painted_other g region index q (inl (omega arith)) (inl (omega arith))))
      | inr le ↦ elim (cases_lt place region.end) [
        | inl lt ↦
            rw (cover_inside place region le lt)
            (since_change h region.start place (Some index) le (is region.start ∙ painted_start g region index)
            (λ q l m. is q ∙ painted_other g region index q (inr l) (inl (omega arith)) ∙ none q l (omega arith)))
        | inr le_end ↦
            let end : value_at h region.end ≡ value_at g region.end =
            at_change h region.end (changed_to (g region.end) (value_at g region.start)) (is region.end ∙ painted_end g region index some) ∙ sym (at_end g region.start region.end some none) in
            rw (not_behind place region le_end)
            (same_from g h region.end place le_end end (λ q l. is q ∙ painted_other g region index q (inr (omega arith)) (inr l)))
      ]
    ]

pub inside : (place : ℕ) (region : Region) → covers place region ≡ true → (region.start ≤ place) × (place < region.end)
inside place region is = (grind (arith, common_steps, is), grind (arith, common_steps, is))

-- what is painted over stays a change, and each boundary becomes one
pub keeps_changes : (g : Changes) (region : Region) (index q : ℕ) → IsSome (g q) ⊎ ((q ≡ region.start) ⊎ (q ≡ region.end)) → IsSome (painted g region index q)
keeps_changes g region index q why =
    elim (q == region.start) as (λ s. (q == region.start) ≡ s → IsSome (if s then Some (Some index) else if q == region.end then Some (changed_to (g region.end) (value_at g region.start)) else g q)) [
      | true ↦ λ e. search rules
      | false ↦ λ ne. elim (q == region.end) as (λ t. (q == region.end) ≡ t → IsSome (if t then Some (changed_to (g region.end) (value_at g region.start)) else g q)) [
        | true ↦ λ e. search rules
        | false ↦ λ ne_end. elim why [
          | inl old ↦ old
          | inr new ↦ elim new [ inl e ↦ absurd (grind (arith, common_steps, ne, e)) | inr e ↦ absurd (grind (arith, common_steps, ne_end, e)) ]
        ]
      ] refl
    ] refl

pub other_change : (g : Changes) (region : Region) (index q : ℕ) → IsSome (painted g region index q) → IsSome (g q) ⊎ ((q ≡ region.start) ⊎ (q ≡ region.end))
other_change g region index q there =
    elim (q == region.start) as (λ s. (q == region.start) ≡ s → IsSome (if s then Some (Some index) else if q == region.end then Some (changed_to (g region.end) (value_at g region.start)) else g q) → IsSome (g q) ⊎ ((q ≡ region.start) ⊎ (q ≡ region.end))) [
      | true ↦ λ e h. inr (inl (grind (arith, common_steps, e)))
      | false ↦ λ ne h. elim (q == region.end) as (λ t. (q == region.end) ≡ t → IsSome (if t then Some (changed_to (g region.end) (value_at g region.start)) else g q) → IsSome (g q) ⊎ ((q ≡ region.start) ⊎ (q ≡ region.end))) [
        | true ↦ λ e h'. inr (inr (grind (arith, common_steps, e)))
        | false ↦ λ ne_end h'. inl h'
      ] refl h
    ] refl there
