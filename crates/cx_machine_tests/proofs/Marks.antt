-- The marks that are gathered are those places that are reached.
use Rattle.std.proofs.Common.{◌≡◌, ℕ, zero, suc, ◌+◌, ◌*◌, ◌<◌, ◌==◌, ◌&&◌, nat_lt, Bool, true, false, if◌then◌else◌, List, [], ◌∷◌, ◌++◌, map, length, Option, Some, None, slice_get, subst, refl, sym, ap, ◌∙◌, arith, inl, inr}
use Rattle.std.specs.List.{All, list_all, list_any}
use Rattle.std.proofs.lemmas.List.Elements.{All-nil, All-cons, All-head, All-tail, All-append, All-map, All-weaker}
use Rattle.cx_code.specs.declared.code.Region.{Region}
use Rattle.cx_code.specs.declared.image.Image.{Image}
use Rattle.cx_code.specs.declared.image.Function.{Function}
use Rattle.cx_code.specs.declared.operation.Operation.{Operation}
use Rattle.cx_code.specs.declared.operation.Operation.TheVariants as does
use Rattle.cx_code.specs.Reached.{Origin, Plain, Cleanup, IsReached, start, target, onwards, operation_at, HasIndices, depth_after, Follows}
use Rattle.cx_machine_tests.specs.Checked.{Mark, same_origin, is_mark, has_mark, next_places, marks_after, next_marks, within, gathered, target_mark, first_marks, marks_of, is_closed}
use Rattle.cx_machine_tests.proofs.Asked.{lt_when, eq_when, and_left, and_right, or_cases, or_left, or_right, all_map}

-- ---- equal marks

pub origin_same : (a b : Origin) → same_origin a b ≡ true → a ≡ b
origin_same Plain Plain e = refl
origin_same Plain Cleanup e = absurd (cc)
origin_same Cleanup Plain e = absurd (cc)
origin_same Cleanup Cleanup e = refl

same_marks : (o o' : Origin) (p p' d d' : ℕ) → o ≡ o' → p ≡ p' → d ≡ d' → ◌≡◌ {A = Mark} (record { origin = o; place = p; depth = d }) (record { origin = o'; place = p'; depth = d' })
same_marks o o' p p' d d' e f g = rw (e, f, g) refl

mark_same : (a b : Mark) → is_mark a b ≡ true → a ≡ b
mark_same a b e =
    let more = and_right (same_origin a.origin b.origin) ((a.place == b.place) && (a.depth == b.depth)) e in
    same_marks a.origin b.origin a.place b.place a.depth b.depth
    (origin_same a.origin b.origin (and_left (same_origin a.origin b.origin) ((a.place == b.place) && (a.depth == b.depth)) e))
    (eq_when a.place b.place (and_left (a.place == b.place) (a.depth == b.depth) more)) (eq_when a.depth b.depth (and_right (a.place == b.place) (a.depth == b.depth) more))

-- what is asked of all marks holds of one of them
pub all_at : (p : Mark → Bool) (marks : List Mark) (mark : Mark) → list_all p marks ≡ true → has_mark marks mark ≡ true → p mark ≡ true
all_at p [] mark all has = absurd (cc)
all_at p (m ∷ marks) mark all has = elim (or_cases (is_mark mark m) (has_mark marks mark) has) [
  | inl here ↦ subst (λ (m : Mark). p m ≡ true) (sym (mark_same mark m here)) (and_left (p m) (list_all p marks) all)
  | inr there ↦ all_at p marks mark (and_right (p m) (list_all p marks) all) there
]

-- a test that one of them passes
pub any_at : (p : Mark → Bool) (marks : List Mark) (mark : Mark) → has_mark marks mark ≡ true → p mark ≡ true → list_any p marks ≡ true
any_at p [] mark has passes = absurd (cc)
any_at p (m ∷ marks) mark has passes = elim (or_cases (is_mark mark m) (has_mark marks mark) has) [
  | inl here ↦ or_left (p m) (list_any p marks) (subst (λ (m : Mark). p m ≡ true) (mark_same mark m here) passes)
  | inr there ↦ or_right (p m) (list_any p marks) (any_at p marks mark there passes)
]

-- ---- the places that may come next

pub next_has : (operation : Operation) (place next : ℕ) (q : ℕ → Bool) → Follows operation place next → list_all q (next_places operation place) ≡ true → q next ≡ true
next_has (does.Jump to) place next q follows all = subst (λ n. q n ≡ true) (sym follows) (and_left (q to) true all)
next_has (does.JumpZero to) place next q (inl there) all = subst (λ n. q n ≡ true) (sym there) (and_left (q to) (q (place + 1) && true) all)
next_has (does.JumpZero to) place next q (inr behind) all = subst (λ n. q n ≡ true) (sym behind) (and_left (q (place + 1)) true (and_right (q to) (q (place + 1) && true) all))
next_has (does.JumpNonzero to) place next q (inl there) all = subst (λ n. q n ≡ true) (sym there) (and_left (q to) (q (place + 1) && true) all)
next_has (does.JumpNonzero to) place next q (inr behind) all = subst (λ n. q n ≡ true) (sym behind) (and_left (q (place + 1)) true (and_right (q to) (q (place + 1) && true) all))
next_has does.Return place next q follows all = absurd follows
next_has does.ContractEnd place next q follows all = absurd follows
next_has (does.Throw of) place next q follows all = absurd follows
next_has does.Rethrow place next q follows all = absurd follows
next_has does.Resume place next q follows all = absurd follows
next_has does.Flow place next q follows all = absurd follows
next_has operation place next q follows all = subst (λ n. q n ≡ true) (sym follows) (and_left (q (place + 1)) true all)

one : {X : Type 0} (P : X → Type 0) (x : X) → P x → All P (x ∷ [])
one P x h = All-cons P x [] h (All-nil P)

pub next_follows : (operation : Operation) (place : ℕ) → All (Follows operation place) (next_places operation place)
next_follows (does.Jump to) place = one (Follows (does.Jump to) place) to refl
next_follows (does.JumpZero to) place = All-cons (Follows (does.JumpZero to) place) to ((place + 1) ∷ []) (inl refl) (one (Follows (does.JumpZero to) place) (place + 1) (inr refl))
next_follows (does.JumpNonzero to) place = All-cons (Follows (does.JumpNonzero to) place) to ((place + 1) ∷ []) (inl refl) (one (Follows (does.JumpNonzero to) place) (place + 1) (inr refl))
next_follows does.Return place = All-nil (Follows does.Return place)
next_follows does.ContractEnd place = All-nil (Follows does.ContractEnd place)
next_follows (does.Throw of) place = All-nil (Follows (does.Throw of) place)
next_follows does.Rethrow place = All-nil (Follows does.Rethrow place)
next_follows does.Resume place = All-nil (Follows does.Resume place)
next_follows does.Flow place = All-nil (Follows does.Flow place)
next_follows operation place = one (Follows operation place) (place + 1) refl

-- ---- what is reached is among closed marks

module _ (image : Image) (function : Function) where
  after_has : (marks : List Mark) (q : Mark → Bool) (origin : Origin) (place depth : ℕ) (operation : Operation) (next : ℕ) → operation_at function.code place ≡ Some operation → Follows operation place next
      → list_all q (next_marks image function (record { origin = origin; place = place; depth = depth })) ≡ true → q (record { origin = origin; place = next; depth = depth_after image function operation depth }) ≡ true
  after_has marks q origin place depth operation next now follows all =
      let mark : Mark = record { origin = origin; place = place; depth = depth } in
      let made : ℕ → Mark = λ next. record { origin = origin; place = next; depth = depth_after image function operation depth } in
      let listed : list_all q (map made (next_places operation place)) ≡ true = subst (λ o. list_all q (marks_after image function mark o) ≡ true) now all in
      next_has operation place next (λ n. q (made n)) follows (all_map q made (next_places operation place) listed)

  target_has : (marks : List Mark) (regions : List Region) (index : ℕ) (region : Region) → list_all (λ r. has_mark marks (target_mark r)) regions ≡ true → slice_get regions index ≡ Some region
      → has_mark marks (target_mark region) ≡ true
  target_has marks [] index region all e = absurd (cc)
  target_has marks (r ∷ regions) zero region all e =
      let same : r ≡ region = cc e in subst (λ r. has_mark marks (target_mark r) ≡ true) same (and_left (has_mark marks (target_mark r)) (list_all (λ r. has_mark marks (target_mark r)) regions) all)
  target_has marks (r ∷ regions) (suc index) region all e = target_has marks regions index region (and_right (has_mark marks (target_mark r)) (list_all (λ r. has_mark marks (target_mark r)) regions) all) e

  goes_within : List Mark → Mark → Bool
  goes_within marks next = nat_lt next.place (length function.code) && has_mark marks next

  module _ (marks : List Mark) (closed : is_closed image function marks ≡ true) where
    each_next : list_all (λ mark. list_all (λ next. nat_lt next.place (length function.code) && has_mark marks next) (next_marks image function mark)) marks ≡ true
    each_next = and_right (list_all (has_mark marks) (first_marks function)) (list_all (λ mark. list_all (λ next. nat_lt next.place (length function.code) && has_mark marks next) (next_marks image function mark)) marks) closed

    firsts : list_all (has_mark marks) (first_marks function) ≡ true
    firsts = and_left (list_all (has_mark marks) (first_marks function)) (list_all (λ mark. list_all (λ next. nat_lt next.place (length function.code) && has_mark marks next) (next_marks image function mark)) marks) closed

    -- what comes next is in the code and among the marks
    pub goes_on_within : (origin : Origin) (place depth : ℕ) (operation : Operation) (next : ℕ) → has_mark marks (record { origin = origin; place = place; depth = depth }) ≡ true
        → operation_at function.code place ≡ Some operation → Follows operation place next
        → (nat_lt next (length function.code) && has_mark marks (record { origin = origin; place = next; depth = depth_after image function operation depth })) ≡ true
    goes_on_within origin place depth operation next has now follows =
        after_has marks (λ next. nat_lt next.place (length function.code) && has_mark marks next) origin place depth operation next now follows
        (all_at (λ mark. list_all (λ next. nat_lt next.place (length function.code) && has_mark marks next) (next_marks image function mark)) marks (record { origin = origin; place = place; depth = depth }) each_next has)

    pub reached_has : (origin : Origin) (place depth : ℕ) → IsReached image function origin place depth → has_mark marks (record { origin = origin; place = place; depth = depth }) ≡ true
    reached_has _ _ _ start = and_left (has_mark marks (record { origin = Plain; place = 0; depth = 0 })) (list_all (has_mark marks) (map target_mark function.regions)) firsts
    reached_has _ _ _ (target index region e) = target_has marks function.regions index region
        (all_map (has_mark marks) target_mark function.regions (and_right (has_mark marks (record { origin = Plain; place = 0; depth = 0 })) (list_all (has_mark marks) (map target_mark function.regions)) firsts)) e
    reached_has _ _ _ (onwards origin place depth operation next before now indices follows inside) =
        and_right (nat_lt next (length function.code)) (has_mark marks (record { origin = origin; place = next; depth = depth_after image function operation depth }))
        (goes_on_within origin place depth operation next (reached_has origin place depth before) now follows)

  -- ---- what is gathered is reached

  abbrev pub IsMarkReached : Mark → Type 0
  IsMarkReached mark = IsReached image function mark.origin mark.place mark.depth

  kept_by : (P : Mark → Type 0) (mark : Mark) (marks : List Mark) (b : Bool) → nat_lt mark.place (length function.code) ≡ b → P mark → All (λ (mark : Mark). P mark × (mark.place < length function.code)) (within function marks)
      → All (λ (mark : Mark). P mark × (mark.place < length function.code)) (if b then mark ∷ within function marks else within function marks)
  kept_by P mark marks true e here more = All-cons (λ (mark : Mark). P mark × (mark.place < length function.code)) mark (within function marks) (here, lt_when mark.place (length function.code) e) more
  kept_by P mark marks false e here more = more

  kept_within : (P : Mark → Type 0) (marks : List Mark) → All P marks → All (λ (mark : Mark). P mark × (mark.place < length function.code)) (within function marks)
  kept_within P [] all = All-nil (λ (mark : Mark). P mark × (mark.place < length function.code))
  kept_within P (mark ∷ marks) all =
      kept_by P mark marks (nat_lt mark.place (length function.code)) refl (All-head P mark marks all) (kept_within P marks (All-tail P mark marks all))

  module _ (indices : (place : ℕ) (operation : Operation) → operation_at function.code place ≡ Some operation → HasIndices image operation) where
    -- one of the marks after a mark that is reached
    IsAfter : Mark → Operation → Mark → Type 0
    IsAfter mark operation next = (next.origin ≡ mark.origin) × (Follows operation mark.place next.place) × (next.depth ≡ depth_after image function operation mark.depth)

    are_after : (mark : Mark) (operation : Operation) → All (IsAfter mark operation) (marks_after image function mark (Some operation))
    unfolding IsAfter
    are_after mark operation =
        All-map (IsAfter mark operation) (λ next. record { origin = mark.origin; place = next; depth = depth_after image function operation mark.depth }) (next_places operation mark.place)
        (All-weaker (Follows operation mark.place) (λ next. IsAfter mark operation (record { origin = mark.origin; place = next; depth = depth_after image function operation mark.depth }))
        (λ next follows. (refl, follows, refl)) (next_places operation mark.place) (next_follows operation mark.place))

    is_next : (mark : Mark) (operation : Operation) (next : Mark) → operation_at function.code mark.place ≡ Some operation → IsMarkReached mark → IsAfter mark operation next × (next.place < length function.code) → IsMarkReached next
    unfolding IsAfter
    is_next mark operation next now reached ((same, follows, depth), inside) =
        rw (same, depth) (onwards mark.origin mark.place mark.depth operation next.place reached now (indices mark.place operation now) follows inside)

    after_reached : (mark : Mark) (found : Option Operation) → operation_at function.code mark.place ≡ found → IsMarkReached mark → All IsMarkReached (within function (marks_after image function mark found))
    after_reached mark None now reached = All-nil IsMarkReached
    after_reached mark (Some operation) now reached =
        All-weaker (λ (next : Mark). IsAfter mark operation next × (next.place < length function.code)) IsMarkReached (λ next is. is_next mark operation next now reached is)
        (within function (marks_after image function mark (Some operation)))
        (kept_within (IsAfter mark operation) (marks_after image function mark (Some operation)) (are_after mark operation))

    left_by : (mark : Mark) (left : List Mark) (b : Bool) → IsMarkReached mark → All IsMarkReached left → All IsMarkReached (if b then left else (within function (next_marks image function mark) ++ left))
    left_by mark left true reached all = all
    left_by mark left false reached all = All-append IsMarkReached (within function (next_marks image function mark)) left (after_reached mark (operation_at function.code mark.place) refl reached) all

    met_by : (mark : Mark) (met : List Mark) (b : Bool) → IsMarkReached mark → All IsMarkReached met → All IsMarkReached (if b then met else (mark ∷ met))
    met_by mark met true reached all = all
    met_by mark met false reached all = All-cons IsMarkReached mark met reached all

    gathered_reached : (n : ℕ) (left met : List Mark) → All IsMarkReached left → All IsMarkReached met → All IsMarkReached (gathered image function n left met)
    gathered_reached zero left met l m = m
    gathered_reached (suc n) [] met l m = m
    gathered_reached (suc n) (mark ∷ left) met l m =
        gathered_reached n _ _
        (left_by mark left (has_mark met mark) (All-head IsMarkReached mark left l) (All-tail IsMarkReached mark left l))
        (met_by mark met (has_mark met mark) (All-head IsMarkReached mark left l) m)

    targets_reached : (regions : List Region) (from : ℕ) → ((index : ℕ) (region : Region) → slice_get regions index ≡ Some region → slice_get function.regions (from + index) ≡ Some region)
        → All IsMarkReached (map target_mark regions)
    targets_reached [] from at = All-nil IsMarkReached
    targets_reached (region ∷ regions) from at =
        All-cons IsMarkReached (target_mark region) (map target_mark regions) (target (from + 0) region (at 0 region refl))
        (targets_reached regions (from + 1) (λ index r e. let same : from + 1 + index ≡ from + suc index = omega arith in ap (slice_get function.regions) same ∙ at (suc index) r e))

    pub marks_reached : All IsMarkReached (marks_of image function)
    marks_reached = gathered_reached (3 * length function.code + length function.regions + 1) (first_marks function) []
        (All-cons IsMarkReached (record { origin = Plain; place = 0; depth = 0 }) (map target_mark function.regions) start
        (targets_reached function.regions 0 (λ index region e. let same : 0 + index ≡ index = omega arith in ap (slice_get function.regions) same ∙ e)))
        (All-nil IsMarkReached)
