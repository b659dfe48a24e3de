-- The least number of operands over the places of a region, from span to span.
use Rattle.std.proofs.Common.{◌≡◌, ◌≢◌, ◌⊎◌, ℕ, ◌+◌, ◌<◌, ◌≤◌, ◌^◌, ℤ, pos, ◌≤ℤ◌, ◌<ℤ◌, min, List, length, get_or, get_or-set_same, get_or-set_other, Option, Some, None, slice_get, slice_set, slice_index, refl, sym, ap, ◌∙◌, subst, arith, inl, inr}
use Rattle.std.specs.Option.{option_and_then}
use Rattle.std.proofs.lemmas.Bool.{cases_lt, cases_eq}
use Rattle.std.proofs.lemmas.Int.{ints}
use Rattle.std.proofs.lemmas.Option.{slice_get_cases, option_and_then_some}
use Rattle.std.proofs.Math.ListN.{length-set}
use Rattle.cx_code.specs.declared.code.Instruction.{Instruction}
use Rattle.cx_code.specs.declared.code.Region.{Region}
use Rattle.cx_code.specs.declared.image.Image.{Image}
use Rattle.cx_code.specs.declared.image.Function.{Function}
use Rattle.cx_code.specs.declared.operation.Operation.{Operation}
use Rattle.cx_code.specs.Operation.{operation_of}
use Rattle.cx_code.specs.Reached.{operation_at, taken_count}
use Rattle.cx_reach.specs.declared.arriving.Arrival.{Arrival}
use Rattle.cx_reach.specs.declared.arriving.Depths.{Depths}
use Rattle.cx_reach.specs.declared.arriving.Depths.TheVariants as depths
use Rattle.cx_reach.specs.declared.rule.Rule.TheVariants as rules
use Rattle.cx_reach.specs.Comes.{ComesWith, SeveralCome, AreDepths, AreArrivals}
use Rattle.cx_rules.specs.First.{IsFirstInCode}
use Rattle.cx_rules.specs.Spans.{AreThere, IsLeast, IsEndAt, AreSpans, EnclosesFirst, IsSpare, IsEnough, IsEnoughEach, AreSingle}
use Rattle.cx_rules.proofs.Passing.{stands}

-- ---- from span to span

joined : (image : Image) (function : Function) (from mid to a b : ℕ) → from ≤ mid → mid ≤ to → IsLeast image function from mid a → IsLeast image function mid to b → IsLeast image function from to (min a b)
joined image function from mid to a b first second left right n small = (
  (λ (few : n ≤ min a b) place since before. elim (cases_lt place mid) [
    | inl below ↦ (left n small).0 (omega arith) place since below
    | inr above ↦ (right n small).0 (omega arith) place above before
  ]),
  (λ (many : min a b < n). elim (cases_lt a n) [
    | inl less ↦ let (place, depth, operation, since, before, here, at, lacks) = (left n small).1 less in (place, depth, operation, since, omega (arith, before), here, at, lacks)
    | inr enough ↦ let (place, depth, operation, since, before, here, at, lacks) = (right n small).1 (omega arith) in (place, depth, operation, omega (arith, since), before, here, at, lacks)
  ]),
)

module _ (image : Image) (function : Function) (count : ℕ) (ends least : List ℕ) (region : Region) (spans : AreSpans image function count ends least) (within : region.end ≤ length ends)
    (around : EnclosesFirst function.regions count region) where
  end_within : (place : ℕ) → region.start ≤ place → place < region.end → place < slice_index ends place → IsEndAt function.regions count place (slice_index ends place) → slice_index ends place ≤ region.end
  end_within place since before ahead (inl single) = omega (arith, single, before)
  end_within place since before ahead (inr (index, other, less, at, starts, stops)) =
      let encloses = around index other less at (omega (arith, since, before, ahead, starts, stops)) in
      omega (arith, encloses.1, stops)

  pub one_span : (place low next now both : ℕ) → region.start ≤ place → place < region.end → next ≡ slice_index ends place → now ≡ slice_index least place → both ≡ min low now
      → IsLeast image function region.start place low → (region.start ≤ next) × (next ≤ region.end) × IsLeast image function region.start next both
  one_span place low next now both since before is_next is_now is_both known =
      let inside : place < length function.code = omega (arith, before, within, spans.each_end) in
      let ahead = spans.ahead place inside in
      let stays = end_within place since before ahead (spans.is_end place inside) in
      rw (is_next, is_both, is_now)
      (omega (arith, since, ahead), stays, joined image function region.start place (slice_index ends place) low (slice_index least place) since (omega (arith, ahead)) known (spans.is_least place inside))

-- ---- a region becomes a span

read_set : (xs : List ℕ) (i v k : ℕ) → i < length xs → ((k ≡ i) × (slice_index (slice_set xs i v) k ≡ v)) ⊎ ((k ≢ i) × (slice_index (slice_set xs i v) k ≡ slice_index xs k))
read_set xs i v k within = elim (cases_eq k i) [
  | inl same ↦ inl (same, rw same (get_or-set_same xs i v 0 within))
  | inr apart ↦ inr (apart, get_or-set_other xs i k v 0 apart)
]

end_later : (regions : List Region) (count place end : ℕ) → IsEndAt regions count place end → IsEndAt regions (count + 1) place end
end_later regions count place end (inl single) = inl single
end_later regions count place end (inr (index, other, less, at, starts, stops)) = inr (index, other, omega (arith, less), at, starts, stops)

pub marked : (image : Image) (function : Function) (count : ℕ) (ends least : List ℕ) (region : Region) (low : ℕ) → AreSpans image function count ends least → slice_get function.regions count ≡ Some region
    → region.start < region.end → region.end ≤ length ends → IsLeast image function region.start region.end low → AreSpans image function (count + 1) (slice_set ends region.start region.end) (slice_set least region.start low)
marked image function count ends least region low spans at some within known =
    let start_end : region.start < length ends = omega arith in
    let start_least : region.start < length least = omega (arith, spans.each_end, spans.each_least) in
    record {
      each_end = length-set ends region.start region.end ∙ spans.each_end;
      each_least = length-set least region.start low ∙ spans.each_least;
      ahead = λ place inside. elim (read_set ends region.start region.end place start_end) [
        | inl (same, is) ↦ omega (arith, same, is, some)
        | inr (apart, is) ↦ omega (arith, is, spans.ahead place inside)
      ];
      is_least = λ place inside. elim (read_set ends region.start region.end place start_end) [
        | inl (same, is) ↦ elim (read_set least region.start low place start_least) [
          | inl (again, low_is) ↦ rw (is, low_is, same) known
          | inr (apart, low_is) ↦ absurd (apart same)
        ]
        | inr (apart, is) ↦ elim (read_set least region.start low place start_least) [
          | inl (again, low_is) ↦ absurd (apart again)
          | inr (too, low_is) ↦ rw (is, low_is) (spans.is_least place inside)
        ]
      ];
      is_end = λ place inside. elim (read_set ends region.start region.end place start_end) [
        | inl (same, is) ↦ inr (count, region, omega arith, at, sym same, sym is)
        | inr (apart, is) ↦ rw is (end_later function.regions count place (slice_index ends place) (spans.is_end place inside))
      ];
    }

-- ---- the places alone

not_less : (taken : ℕ) (depth : ℤ) → ¬ (depth <ℤ pos taken) → pos taken ≤ℤ depth
not_less taken depth never = grind (arith, ints)

not_more : (depth : ℤ) → ¬ (pos 4096 <ℤ depth) → depth ≤ℤ pos 4096
not_more depth never = grind (arith, ints)

is_there : (count taken spare : ℕ) (depth other : ℤ) → count ≤ spare → pos (spare + taken) ≡ depth → other ≡ depth → pos (count + taken) ≤ℤ other
is_there count taken spare depth other few is equal = omega (arith, ints)

is_few : (count taken spare : ℕ) (depth : ℤ) → pos (spare + taken) ≡ depth → spare < count → depth <ℤ pos (count + taken)
is_few count taken spare depth is many = omega (arith, ints)

-- the operation that an instruction which was read has
pub operation_read : (read code : List Instruction) (place : ℕ) (other : Instruction) (found : Option Operation) → read ≡ code → place < length code → found ≡ operation_of (get_or read place other)
    → operation_at code place ≡ found
operation_read read code place other found same within is = ap (option_and_then operation_of) (stands read code place other same within) ∙ sym is

pub spare_moved : (function : Function) (found at : Option Operation) (a b : Arrival) (spare : ℕ) → at ≡ found → b ≡ a → IsSpare function found a.depths spare → IsSpare function at b.depths spare
spare_moved function found at a b spare same equal is = rw (same, equal) is

module _ (image : Image) (function : Function) (keeps : IsFirstInCode image function None) where
  never_several : (place : ℕ) → place < length function.code → ¬ SeveralCome image function place
  never_several place within several = elim (slice_get_cases function.code place).1 [
    | inl (instruction, there, e, read) ↦ keeps place instruction rules.V3 e (inl several)
    | inr (past, lacks) ↦ omega (arith, past, within)
  ]

  at_least : (place : ℕ) (depth : ℤ) (operation : Operation) → ComesWith image function place depth → operation_at function.code place ≡ Some operation
      → (pos (taken_count function operation) ≤ℤ depth) × (depth ≤ℤ pos 4096)
  at_least place depth operation here at =
      option_and_then_some operation_of (slice_get function.code place) operation at
      (λ instruction e o. (
        not_less (taken_count function operation) depth (λ less. keeps place instruction rules.V3 e (inr (inl (depth, operation, here, o, less)))),
        not_more depth (λ more. keeps place instruction rules.V3 e (inr (inr (depth, here, more)))),
      ))

  enough : (place : ℕ) (known : Depths) → AreDepths image function place known → IsEnough function (operation_at function.code place) known
  enough place known are operation depth at is = at_least place depth operation (subst (AreDepths image function place) is are).0 at

  pub enough_each : (arrivals : List Arrival) → AreArrivals image function arrivals → IsEnoughEach function arrivals
  enough_each arrivals are place arrival at = enough place arrival.depths (are.exact place arrival at).depths

  -- so many are there, or it is told what comes
  abbrev Tells : ℕ → ℕ → ℕ → Type 0
  Tells place count spare =
      (count ≤ spare → AreThere image function place count)
      × (spare < count → (depth : ℤ) × (operation : Operation) × ComesWith image function place depth × (operation_at function.code place ≡ Some operation) × (depth <ℤ pos (count + taken_count function operation)))

  there : (place count spare : ℕ) (found : Option Operation) (known : Depths) → operation_at function.code place ≡ found → ¬ SeveralCome image function place → AreDepths image function place known → IsSpare function found known spare
      → count < 2 ^ 32 → Tells place count spare
  there place count spare None known at one are is small = ((λ few depth operation here at_too. absurd (let e : None ≡ Some operation = sym at ∙ at_too in cc)), (λ many. absurd (omega (arith, is, small, many))))
  there place count spare (Some operation) depths.None at one are is small = ((λ few depth its here at_too. absurd (are depth here)), (λ many. absurd (omega (arith, is, small, many))))
  there place count spare (Some operation) depths.Several at one are is small = absurd (one are)
  there place count spare (Some operation) (depths.One depth) at one (here, only) is small = (
    (λ few other its comes at_too.
        let same : operation ≡ its = (let e : Some operation ≡ Some its = sym at ∙ at_too in cc) in
        let equal : other ≡ depth = only other comes in
        subst (λ (i : Operation). pos (count + taken_count function i) ≤ℤ other) same (is_there count (taken_count function operation) spare depth other few is equal)),
    (λ many. (depth, operation, here, at, is_few count (taken_count function operation) spare depth is many)),
  )

  single_least : (place spare : ℕ) → ((count : ℕ) → count < 2 ^ 32 → Tells place count spare) → IsLeast image function place (place + 1) spare
  single_least place spare tells count small = (
    (λ few other since before. subst (λ (p : ℕ). AreThere image function p count) (omega arith) ((tells count small).0 few)),
    (λ many. let (depth, operation, here, at, less) = (tells count small).1 many in (place, depth, operation, omega arith, omega arith, here, at, less)),
  )

  pub single_spans : (arrivals : List Arrival) (ends least : List ℕ) → AreArrivals image function arrivals → AreSingle function arrivals ends least → length ends ≡ length function.code → AreSpans image function 0 ends least
  single_spans arrivals ends least are single each = record {
    each_end = each;
    each_least = sym single.same ∙ each;
    ahead = λ place inside. let is = single.next place (omega (arith, inside, each)) in omega (arith, is);
    is_least = λ place inside. elim (slice_get_cases arrivals place).1 [
      | inr (past, lacks) ↦ absurd (omega (arith, past, inside, are.each_place))
      | inl (arrival, within, at, read) ↦
          let next : slice_index ends place ≡ place + 1 = single.next place (omega (arith, inside, each)) in
          let spare : IsSpare function (operation_at function.code place) arrival.depths (slice_index least place) = single.spare place arrival (omega (arith, inside, each)) at in
          rw next
          (single_least place (slice_index least place)
          (λ count. there place count (slice_index least place) (operation_at function.code place) arrival.depths refl (never_several place inside) (are.exact place arrival at).depths spare))
    ];
    is_end = λ place inside. inl (single.next place (omega (arith, inside, each)));
  }
