-- A function that passes the test keeps the rules.
use Rattle.std.proofs.Common.{◌≡◌, ℕ, zero, suc, ◌+◌, ◌<◌, ◌≤◌, ◌==◌, ◌&&◌, ◌||◌, max, min, not, nat_lt, nat_le, true, IfSome, List, [], ◌∷◌, length, Option, Some, None, slice_get, subst, refl, arith, inl, inr}
use Rattle.std.specs.List.{All, list_all}
use Rattle.std.proofs.lemmas.Option.{option_and_then_some}
use Rattle.cx_code.specs.declared.code.Instruction.{Instruction}
use Rattle.cx_code.specs.declared.code.Region.{Region}
use Rattle.cx_code.specs.declared.image.Image.{Image}
use Rattle.cx_code.specs.declared.image.Function.{Function}
use Rattle.cx_code.specs.declared.image.TypeEntry.{TypeEntry}
use Rattle.cx_code.specs.declared.operation.Operation.{Operation}
use Rattle.cx_code.specs.declared.operation.Operation.TheVariants as does
use Rattle.cx_code.specs.Operation.{operation_of}
use Rattle.cx_code.specs.Reached.{Origin, Plain, Cleanup, IsReached, operation_at, HasIndices, taken_count, depth_after}
use Rattle.cx_code.specs.Rules.{IsInRange, HasType, HasPlaces, HasDepths, Overlaps, Encloses, IsNested, IsRegionOf, PassesArguments, HasOrder, IsValidFunction, HasDropper}
use Rattle.cx_machine_tests.specs.Checked.{Mark, is_cleanup, same_origin, has_mark, marks_of, is_closed, has_indices, has_places, has_parameters, passes, drops, is_dropped, is_fine, is_deep_enough, agree, has_cleanup, is_ordered, all_ordered, covers, leaves_enough, is_region, is_around, is_nested, is_valid_function}
use Rattle.cx_machine_tests.proofs.Asked.{lt_when, le_when, eq_when, eq_is, lt_is, le_is, and_left, and_right, and_is, or_cases, implied, not_true, all_when, any_when}
use Rattle.cx_machine_tests.proofs.Marks.{origin_same, all_at, any_at, goes_on_within, reached_has, IsMarkReached, marks_reached}
use Rattle.cx_sound.proofs.Places.{at_index}

-- ---- one instruction

has_indices_when : (image : Image) (operation : Operation) → has_indices image operation ≡ true → HasIndices image operation
has_indices_when image (does.Call function count) e = lt_when function (length image.functions) e
has_indices_when image (does.Global index) e = lt_when index (length image.globals) e
has_indices_when image (does.TextOf text) e = lt_when text (length image.texts) e
has_indices_when image (does.Begin assertion party semantic) e = lt_when assertion (length image.assertions) e
has_indices_when image (does.Verdict assertion) e = lt_when assertion (length image.assertions) e
has_indices_when image (does.Violate assertion mode semantic) e = lt_when assertion (length image.assertions) e
has_indices_when image (does.Throw of) e = lt_when of (length image.types) e
has_indices_when image (does.Destroyed class) e = lt_when class (length image.types) e
has_indices_when image operation e = tt

has_places_when : (function : Function) (operation : Operation) → has_places function operation ≡ true → HasPlaces function (Some operation)
has_places_when function (does.Jump to) e = lt_when to (length function.code) e
has_places_when function (does.JumpZero to) e = lt_when to (length function.code) e
has_places_when function (does.JumpNonzero to) e = lt_when to (length function.code) e
has_places_when function (does.Get slot) e = lt_when slot function.slots e
has_places_when function (does.Set slot) e = lt_when slot function.slots e
has_places_when function (does.Make leaves slot) e = lt_when slot function.slots e
has_places_when function operation e = tt

has_parameters_when : (callee : Option Function) (count : ℕ) → has_parameters callee count ≡ true → IfSome callee (λ (callee : Function). callee.parameters ≡ count)
has_parameters_when None count e = tt
has_parameters_when (Some callee) count e = eq_when callee.parameters count e

passes_when : (image : Image) (operation : Operation) → passes image operation ≡ true → PassesArguments image (Some operation)
passes_when image (does.Call function count) e = has_parameters_when (slice_get image.functions function) count e
passes_when image operation e = tt

drops_when : (entry : Option TypeEntry) → drops entry ≡ true → IfSome entry (λ (entry : TypeEntry). 1 ≤ entry.dropper)
drops_when None e = tt
drops_when (Some entry) e = le_when 1 entry.dropper e

is_dropped_when : (image : Image) (operation : Operation) → is_dropped image operation ≡ true → HasDropper image (Some operation)
is_dropped_when image (does.Throw of) e = drops_when (slice_get image.types of) e
is_dropped_when image operation e = tt

record IsFine (image : Image) (function : Function) (found : Option Operation) : Type 0 where
  in_range : IsInRange image found
  places : HasPlaces function found
  passes : PassesArguments image found
  drops : HasDropper image found

is_fine_when : (image : Image) (function : Function) (found : Option Operation) → is_fine image function found ≡ true → IsFine image function found
is_fine_when image function None e = absurd (cc)
is_fine_when image function (Some operation) e =
    let here = and_left (has_indices image operation && has_places function operation) (passes image operation && is_dropped image operation) e in
    let there = and_right (has_indices image operation && has_places function operation) (passes image operation && is_dropped image operation) e in
    record {
      in_range = has_indices_when image operation (and_left (has_indices image operation) (has_places function operation) here);
      places = has_places_when function operation (and_right (has_indices image operation) (has_places function operation) here);
      passes = passes_when image operation (and_left (passes image operation) (is_dropped image operation) there);
      drops = is_dropped_when image operation (and_right (passes image operation) (is_dropped image operation) there);
    }

-- ---- the regions lie in each other

is_around_when : (a b : Region) → is_around a b ≡ true → Overlaps a b → Encloses b a
is_around_when a b e overlaps =
    let both = implied (nat_lt (max a.start b.start) (min a.end b.end)) (nat_le b.start a.start && nat_le a.end b.end) e (lt_is (max a.start b.start) (min a.end b.end) overlaps) in
    (le_when b.start a.start (and_left (nat_le b.start a.start) (nat_le a.end b.end) both), le_when a.end b.end (and_right (nat_le b.start a.start) (nat_le a.end b.end) both))

is_nested_when : (regions : List Region) → is_nested regions ≡ true → IsNested regions
is_nested_when [] e earlier later a b before found_a found_b overlaps = absurd (cc)
is_nested_when (region ∷ regions) e zero zero a b before found_a found_b overlaps = absurd (omega arith)
is_nested_when (region ∷ regions) e zero (suc later) a b before found_a found_b overlaps =
    let same : region ≡ a = cc (found_a) in
    let around = at_index (λ (r : Region). is_around region r ≡ true) regions later b (all_when (is_around region) (λ r. is_around region r ≡ true) (λ r h. h) regions (and_left (list_all (is_around region) regions) (is_nested regions) e)) found_b in
    is_around_when a b (subst (λ r. is_around r b ≡ true) same around) overlaps
is_nested_when (region ∷ regions) e (suc earlier) zero a b before found_a found_b overlaps = absurd (omega arith)
is_nested_when (region ∷ regions) e (suc earlier) (suc later) a b before found_a found_b overlaps =
    is_nested_when regions (and_right (list_all (is_around region) regions) (is_nested regions) e) earlier later a b (omega (arith, before)) found_a found_b overlaps

-- ---- the code in its order

all_ordered_at : (marks : List Mark) (code : List Instruction) (from index : ℕ) (i : Instruction) → all_ordered marks code from ≡ true → slice_get code index ≡ Some i → is_ordered marks (operation_of i) (from + index) ≡ true
all_ordered_at marks [] from index i e found = absurd (cc)
all_ordered_at marks (j ∷ code) from zero i e found =
    let same : j ≡ i = cc (found) in
    let there : from ≡ from + 0 = omega arith in
    subst (λ n. is_ordered marks (operation_of i) n ≡ true) there (subst (λ i. is_ordered marks (operation_of i) from ≡ true) same (and_left (is_ordered marks (operation_of j) from) (all_ordered marks code (suc from)) e))
all_ordered_at marks (j ∷ code) from (suc index) i e found =
    let there : suc from + index ≡ from + suc index = omega arith in
    subst (λ n. is_ordered marks (operation_of i) n ≡ true) there (all_ordered_at marks code (suc from) index i (and_right (is_ordered marks (operation_of j) from) (all_ordered marks code (suc from)) e) found)

ordered_now : (marks : List Mark) (code : List Instruction) (place : ℕ) (operation : Operation) → all_ordered marks code 0 ≡ true → operation_at code place ≡ Some operation → is_ordered marks (Some operation) place ≡ true
ordered_now marks code place operation e now = option_and_then_some operation_of (slice_get code place) operation now (λ i found is.
    let there : 0 + place ≡ place = omega arith in
    subst (λ o. is_ordered marks o place ≡ true) is (subst (λ n. is_ordered marks (operation_of i) n ≡ true) there (all_ordered_at marks code 0 place i e found)))

has_cleanup_is : (marks : List Mark) (place depth : ℕ) → has_mark marks (record { origin = Cleanup; place = place; depth = depth }) ≡ true → has_cleanup marks place ≡ true
has_cleanup_is marks place depth has =
    any_at (λ mark. (mark.place == place) && is_cleanup mark.origin) marks (record { origin = Cleanup; place = place; depth = depth }) has (and_is (place == place) true (eq_is place place refl) refl)

cleanup_when : (origin : Origin) → is_cleanup origin ≡ true → origin ≡ Cleanup
cleanup_when Plain e = absurd (cc)
cleanup_when Cleanup e = refl

-- ---- the whole function

module _ (image : Image) (function : Function) where
  cleanup_reached : (place : ℕ) (mark : Mark) → ((mark.place == place) && is_cleanup mark.origin) ≡ true → IsMarkReached image function mark → (depth : ℕ) × IsReached image function Cleanup place depth
  cleanup_reached place mark e reached =
      let there = eq_when mark.place place (and_left (mark.place == place) (is_cleanup mark.origin) e) in
      let origin = cleanup_when mark.origin (and_right (mark.place == place) (is_cleanup mark.origin) e) in
      (mark.depth, subst (λ o. IsReached image function o place mark.depth) origin (subst (λ p. IsReached image function mark.origin p mark.depth) there reached))

  record IsPassed (marks : List Mark) : Type 0 where
    some_code : nat_lt 0 (length function.code) ≡ true
    fine : list_all (λ i. is_fine image function (operation_of i)) function.code ≡ true
    closed : is_closed image function marks ≡ true
    deep : list_all (λ mark. is_deep_enough function mark (operation_at function.code mark.place) && nat_le mark.depth 4096) marks ≡ true
    agrees : list_all (λ a. list_all (agree a) marks) marks ≡ true
    ordered : all_ordered marks function.code 0 ≡ true
    nested : is_nested function.regions ≡ true
    regions : list_all (is_region image function marks) function.regions ≡ true

  passed : (marks : List Mark) → is_valid_function image function marks ≡ true → IsPassed marks
  passed marks e =
      let a = nat_lt 0 (length function.code) in
      let b = list_all (λ i. is_fine image function (operation_of i)) function.code in
      let c = is_closed image function marks in
      let d = list_all (λ mark. is_deep_enough function mark (operation_at function.code mark.place) && nat_le mark.depth 4096) marks in
      let f = list_all (λ a. list_all (agree a) marks) marks in
      let g = all_ordered marks function.code 0 in
      let h = is_nested function.regions in
      let k = list_all (is_region image function marks) function.regions in
      let second = and_right (a && b) (c && ((d && f) && (g && (h && k)))) e in
      let third = and_right c ((d && f) && (g && (h && k))) second in
      let fourth = and_right (d && f) (g && (h && k)) third in
      let fifth = and_right g (h && k) fourth in
      record {
        some_code = and_left a b (and_left (a && b) (c && ((d && f) && (g && (h && k)))) e);
        fine = and_right a b (and_left (a && b) (c && ((d && f) && (g && (h && k)))) e);
        closed = and_left c ((d && f) && (g && (h && k))) second;
        deep = and_left d f (and_left (d && f) (g && (h && k)) third);
        agrees = and_right d f (and_left (d && f) (g && (h && k)) third);
        ordered = and_left g (h && k) fourth;
        nested = and_left h k fifth;
        regions = and_right h k fifth;
      }

  module _ (marks : List Mark) (p : IsPassed marks) where
    is_there : (origin : Origin) (place depth : ℕ) → IsReached image function origin place depth → has_mark marks (record { origin = origin; place = place; depth = depth }) ≡ true
    is_there origin place depth reached = reached_has image function marks p.closed origin place depth reached

    deep_at : (origin : Origin) (place depth : ℕ) → IsReached image function origin place depth
        → (is_deep_enough function (record { origin = origin; place = place; depth = depth }) (operation_at function.code place) && nat_le depth 4096) ≡ true
    deep_at origin place depth reached =
        all_at (λ mark. is_deep_enough function mark (operation_at function.code mark.place) && nat_le mark.depth 4096) marks (record { origin = origin; place = place; depth = depth }) p.deep (is_there origin place depth reached)

    agree_at : (a b : Origin) (place depth other : ℕ) → IsReached image function a place depth → IsReached image function b place other → ((depth == other) && same_origin a b) ≡ true
    agree_at a b place depth other first second =
        let one : Mark = record { origin = a; place = place; depth = depth } in
        let two : Mark = record { origin = b; place = place; depth = other } in
        let both = all_at (agree one) marks two (all_at (λ a. list_all (agree a) marks) marks one p.agrees (is_there a place depth first)) (is_there b place other second) in
        implied (place == place) ((depth == other) && same_origin a b) both (eq_is place place refl)

    has_depths : HasDepths image function
    has_depths = record {
      one = λ a b place depth other first second. eq_when depth other (and_left (depth == other) (same_origin a b) (agree_at a b place depth other first second));
      enough = λ origin place depth operation reached now.
          le_when (taken_count function operation) depth (subst (λ o. is_deep_enough function (record { origin = origin; place = place; depth = depth }) o ≡ true) now
          (and_left (is_deep_enough function (record { origin = origin; place = place; depth = depth }) (operation_at function.code place)) (nat_le depth 4096) (deep_at origin place depth reached)));
      shallow = λ origin place depth reached.
          le_when depth 4096 (and_right (is_deep_enough function (record { origin = origin; place = place; depth = depth }) (operation_at function.code place)) (nat_le depth 4096) (deep_at origin place depth reached));
    }

    has_order : All (IsMarkReached image function) marks → HasOrder image function
    has_order all = record {
      some_code = lt_when 0 (length function.code) p.some_code;
      no_end = λ origin place depth operation next reached now indices follows.
          lt_when next (length function.code) (and_left (nat_lt next (length function.code)) (has_mark marks (record { origin = origin; place = next; depth = depth_after image function operation depth }))
          (goes_on_within image function marks p.closed origin place depth operation next (is_there origin place depth reached) now follows));
      one_origin = λ place depth other plain cleanup.
          let same : Plain ≡ Cleanup = origin_same Plain Cleanup (and_right (depth == other) (same_origin Plain Cleanup) (agree_at Plain Cleanup place depth other plain cleanup)) in cc;
      resumes = λ place now.
          any_when (λ (mark : Mark). (mark.place == place) && is_cleanup mark.origin) (IsMarkReached image function) ((depth : ℕ) × IsReached image function Cleanup place depth)
          (λ mark is reached. cleanup_reached place mark is reached) marks (ordered_now marks function.code place does.Resume p.ordered now) all;
      returns = λ place depth now reached.
          not_true (has_cleanup marks place) (ordered_now marks function.code place does.Return p.ordered now) (has_cleanup_is marks place depth (is_there Cleanup place depth reached));
    }

    -- ---- each region

    is_region_when : (region : Region) → is_region image function marks region ≡ true → HasType image region × (region.target < length function.code) × IsRegionOf image function region
    is_region_when region e =
        let a = nat_lt region.start region.end in
        let b = nat_le region.end (length function.code) in
        let c = nat_lt region.target (length function.code) in
        let d = not (region.kind == 2) || nat_le region.of (length image.types) in
        let f = nat_lt region.target region.start || nat_le region.end region.target in
        let g = list_all (λ mark. not (covers region mark.place) || leaves_enough function region mark (operation_at function.code mark.place)) marks in
        let first = and_left ((a && b) && (c && d)) (f && g) e in
        let second = and_right ((a && b) && (c && d)) (f && g) e in (
          λ catch. le_when region.of (length image.types) (implied (region.kind == 2) (nat_le region.of (length image.types)) (and_right c d (and_right (a && b) (c && d) first)) (eq_is region.kind 2 catch)),
          lt_when region.target (length function.code) (and_left c d (and_right (a && b) (c && d) first)),
          record {
            some = lt_when region.start region.end (and_left a b (and_left (a && b) (c && d) first));
            within = le_when region.end (length function.code) (and_right a b (and_left (a && b) (c && d) first));
            depth = λ origin place depth operation above below reached now.
                let mark : Mark = record { origin = origin; place = place; depth = depth } in
                let leaves = implied (covers region place) (leaves_enough function region mark (operation_at function.code place))
                (all_at (λ mark. not (covers region mark.place) || leaves_enough function region mark (operation_at function.code mark.place)) marks mark (and_right f g second) (is_there origin place depth reached))
                (and_is (nat_le region.start place) (nat_lt place region.end) (le_is region.start place above) (lt_is place region.end below)) in
                le_when (region.depth + taken_count function operation) depth (subst (λ o. leaves_enough function region mark o ≡ true) now leaves);
            apart = elim (or_cases (nat_lt region.target region.start) (nat_le region.end region.target) (and_left f g second)) [
              | inl before ↦ inl (lt_when region.target region.start before)
              | inr behind ↦ inr (le_when region.end region.target behind)
            ];
          },
        )

    valid_function : All (IsMarkReached image function) marks → IsValidFunction image function
    valid_function all =
        let fine = all_when (λ i. is_fine image function (operation_of i)) (λ i. IsFine image function (operation_of i)) (λ i e. is_fine_when image function (operation_of i) e) function.code p.fine in
        let regions = all_when (is_region image function marks) (λ region. HasType image region × (region.target < length function.code) × IsRegionOf image function region) is_region_when function.regions p.regions in
        record {
          in_range = λ k d w. (fine k d w).in_range;
          has_types = λ k d w. (regions k d w).0;
          has_places = λ k d w. (fine k d w).places;
          has_targets = λ k d w. (regions k d w).1;
          has_depths = has_depths;
          is_nested = is_nested_when function.regions p.nested;
          each_region = λ k d w. (regions k d w).2;
          passes = λ k d w. (fine k d w).passes;
          has_order = has_order all;
        }

  indices_now : (marks : List Mark) (p : IsPassed marks) (place : ℕ) (operation : Operation) → operation_at function.code place ≡ Some operation → HasIndices image operation
  indices_now marks p place operation now = option_and_then_some operation_of (slice_get function.code place) operation now (λ i found is.
      let fine = all_when (λ i. is_fine image function (operation_of i)) (λ i. IsFine image function (operation_of i)) (λ i e. is_fine_when image function (operation_of i) e) function.code p.fine in
      subst (IsInRange image) is (at_index (λ (i : Instruction). IsFine image function (operation_of i)) function.code place i fine found).in_range)

  pub is_valid_function_when : is_valid_function image function (marks_of image function) ≡ true → IsValidFunction image function
  is_valid_function_when e =
      let p = passed (marks_of image function) e in
      valid_function (marks_of image function) p (marks_reached image function (indices_now (marks_of image function) p))

  -- a type that is thrown has a dropper
  pub droppers_when : is_valid_function image function (marks_of image function) ≡ true → All (λ i. HasDropper image (operation_of i)) function.code
  droppers_when e =
      let p = passed (marks_of image function) e in
      let fine = all_when (λ i. is_fine image function (operation_of i)) (λ i. IsFine image function (operation_of i)) (λ i e. is_fine_when image function (operation_of i) e) function.code p.fine in
      λ k d w. (fine k d w).drops
