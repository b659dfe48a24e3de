-- A storable image in which nothing is broken is valid.
use Rattle.std.proofs.Common.{◌≡◌, ◌≢◌, ℕ, suc, ◌+◌, ◌-◌, ◌<◌, ◌≤◌, ℤ, pos, ◌<ℤ◌, ◌≤ℤ◌, Bool, true, false, List, [], ◌∷◌, length, Option, Some, None, IfSome, slice_get, refl, arith, inl, inr}
use Rattle.std.specs.List.{All}
use Rattle.std.proofs.lemmas.Bool.{cases_lt, cases_eq, cases_Bool}
use Rattle.std.proofs.lemmas.Int.{ints}
use Rattle.std.proofs.lemmas.List.Elements.{All-nil, All-cons}
use Rattle.std.proofs.lemmas.Option.{slice_get_within, slice_get_cases, option_and_then_some}
use Rattle.cx_code.specs.declared.code.Instruction.{Instruction}
use Rattle.cx_code.specs.declared.code.Region.{Region}
use Rattle.cx_code.specs.declared.image.Image.{Image}
use Rattle.cx_code.specs.declared.image.Function.{Function}
use Rattle.cx_code.specs.declared.image.TypeEntry.{TypeEntry}
use Rattle.cx_code.specs.declared.operation.Operation.{Operation}
use Rattle.cx_code.specs.declared.operation.Operation.TheVariants as does
use Rattle.cx_code.specs.Operation.{operation_of}
use Rattle.cx_code.specs.Reached.{Origin, Plain, Cleanup, operation_at, HasIndices, taken_count, IsReached}
use Rattle.cx_code.specs.Rules.{IsInRange, HasType, HasPlaces, HasDepths, Encloses, IsNested, PassesArguments, IsRegionOf, HasOrder, IsEntry, IsHook, IsHookAt, HasDropper, IsValidFunction, IsValid}
use Rattle.cx_code.specs.Storable.{IsStorable}
use Rattle.cx_reach.specs.declared.arriving.Arrival.{Arrival}
use Rattle.cx_reach.specs.declared.item.Item.TheVariants as items
use Rattle.cx_reach.specs.declared.rule.Rule.{Rule}
use Rattle.cx_reach.specs.declared.rule.Rule.TheVariants as rules
use Rattle.cx_reach.specs.Comes.{Comes, start, target, onwards, AreArrivals}
use Rattle.cx_reach.specs.Agreement.{EnoughComes}
use Rattle.cx_reach.specs.Broken.{BreaksAt, RegionBreaks, NothingIsBroken, AreKnown, ValidWhereNothingIsBroken}
use Rattle.cx_reach.proofs.Agreeing.{agrees}

-- ---- what isn't refused holds, where it can be told

below : (a b : ℕ) → ¬ ¬ (a < b) → a < b
below a b stays = elim (cases_lt a b) [ inl less ↦ less | inr not_less ↦ absurd (stays (λ less. omega arith)) ]

at_most : (a b : ℕ) → ¬ (b < a) → a ≤ b
at_most a b never = elim (cases_lt b a) [ inl less ↦ absurd (never less) | inr not_less ↦ not_less ]

same : (a b : ℕ) → ¬ ¬ (a ≡ b) → a ≡ b
same a b stays = elim (cases_eq a b) [ inl equal ↦ equal | inr apart ↦ absurd (stays apart) ]

same_flag : (a b : Bool) → ¬ ¬ (a ≡ b) → a ≡ b
same_flag true true stays = refl
same_flag false false stays = refl
same_flag true false stays = absurd (stays (λ e. cc))
same_flag false true stays = absurd (stays (λ e. cc))

has_indices : (image : Image) (operation : Operation) → ¬ ¬ HasIndices image operation → HasIndices image operation
has_indices image (does.Call function count) stays = below function (length image.functions) stays
has_indices image (does.Global index) stays = below index (length image.globals) stays
has_indices image (does.TextOf text) stays = below text (length image.texts) stays
has_indices image (does.Begin assertion party semantic) stays = below assertion (length image.assertions) stays
has_indices image (does.Verdict assertion) stays = below assertion (length image.assertions) stays
has_indices image (does.Violate assertion mode semantic) stays = below assertion (length image.assertions) stays
has_indices image (does.Throw of) stays = below of (length image.types) stays
has_indices image (does.Destroyed class) stays = below class (length image.types) stays
has_indices image operation stays = tt

in_range : (image : Image) (found : Option Operation) → ¬ ¬ IsInRange image found → IsInRange image found
in_range image None stays = stays (λ never. never)
in_range image (Some operation) stays = has_indices image operation stays

has_places : (function : Function) (found : Option Operation) → ¬ ¬ HasPlaces function found → HasPlaces function found
has_places function (Some (does.Jump to)) stays = below to (length function.code) stays
has_places function (Some (does.JumpZero to)) stays = below to (length function.code) stays
has_places function (Some (does.JumpNonzero to)) stays = below to (length function.code) stays
has_places function (Some (does.Get slot)) stays = below slot function.slots stays
has_places function (Some (does.Set slot)) stays = below slot function.slots stays
has_places function (Some (does.Make leaves slot)) stays = below slot function.slots stays
has_places function (Some operation) stays = tt
has_places function None stays = tt

has_parameters : (callee : Option Function) (count : ℕ) → ¬ ¬ IfSome callee (λ (callee : Function). callee.parameters ≡ count) → IfSome callee (λ (callee : Function). callee.parameters ≡ count)
has_parameters None count stays = tt
has_parameters (Some callee) count stays = same callee.parameters count stays

passes : (image : Image) (found : Option Operation) → ¬ ¬ PassesArguments image found → PassesArguments image found
passes image (Some (does.Call function count)) stays = has_parameters (slice_get image.functions function) count stays
passes image (Some operation) stays = tt
passes image None stays = tt

has_type : (image : Image) (region : Region) → ¬ ¬ HasType image region → HasType image region
has_type image region stays catches = at_most region.of (length image.types) (λ more. stays (λ has. let few = has catches in omega (arith, few, more)))

encloses : (outer inner : Region) → ¬ ¬ Encloses outer inner → Encloses outer inner
encloses outer inner stays = (
  at_most outer.start inner.start (λ more. stays (λ (from, to). omega (arith, from, more))),
  at_most inner.end outer.end (λ more. stays (λ (from, to). omega (arith, to, more))),
)

is_entry : (found : Option Function) → ¬ ¬ IfSome found IsEntry → IfSome found IsEntry
is_entry None stays = tt
is_entry (Some function) stays = record {
  parameters = same function.parameters 0 (λ apart. stays (λ entry. apart entry.parameters));
  result = same_flag function.result true (λ apart. stays (λ entry. apart entry.result));
}

is_hook : (found : Option Function) → ¬ ¬ IfSome found IsHook → IfSome found IsHook
is_hook None stays = tt
is_hook (Some function) stays = record {
  parameters = same function.parameters 1 (λ apart. stays (λ hook. apart hook.parameters));
  result = same_flag function.result false (λ apart. stays (λ hook. apart hook.result));
}

is_hook_at : (image : Image) (index : ℕ) → ¬ ¬ IsHookAt image index → IsHookAt image index
is_hook_at image index stays some = is_hook (slice_get image.functions (index - 1)) (λ broken. stays (λ hook. broken (hook some)))

all_of : {X : Type 0} (P : X → Type 0) (xs : List X) → ((at : ℕ) (x : X) → slice_get xs at ≡ Some x → P x) → All P xs
all_of P [] each = All-nil P
all_of P (x ∷ xs) each = All-cons P x xs (each 0 x refl) (all_of P xs (λ at y e. each (suc at) y e))

-- ---- depths as integers

takes_at_most : (taken : ℕ) (depth : ℤ) → ¬ (depth <ℤ pos taken) → pos taken ≤ℤ depth
takes_at_most taken depth never = grind (arith, ints)

same_depth : (one other : ℕ) → ¬ (pos one ≢ pos other) → one ≡ other
same_depth one other never = same one other (λ apart. never (λ e. apart (omega (arith, ints))))

less_than : (depth least : ℕ) → depth < least → pos depth <ℤ pos least
less_than depth least less = omega (arith, ints)

-- ---- a function

module _ (image : Image) (none : NothingIsBroken image) (index : ℕ) (function : Function) (at : slice_get image.functions index ≡ Some function) where
  fine : (place : ℕ) (instruction : Instruction) → slice_get function.code place ≡ Some instruction → (rule : Rule) → ¬ BreaksAt image function place instruction rule
  fine place instruction e rule broken = none (items.Instruction index place) rule (function, instruction, at, e, broken)

  region_fine : (place : ℕ) (region : Region) → slice_get function.regions place ≡ Some region → (rule : Rule) → ¬ RegionBreaks image function place region rule
  region_fine place region e rule broken = none (items.Region index place) rule (function, region, at, e, broken)

  some_code : 0 < length function.code
  some_code = below 0 (length function.code) (λ never. none (items.Count index) rules.V6 (refl, (function, at, (omega (arith, at_most (length function.code) 0 never)))))

  has_target : (place : ℕ) (region : Region) → slice_get function.regions place ≡ Some region → region.target < length function.code
  has_target place region e = below region.target (length function.code) (λ never. region_fine place region e rules.V2 (at_most (length function.code) region.target never))

  inside : (origin : Origin) (place : ℕ) (depth : ℤ) → Comes image function origin place depth → place < length function.code
  inside _ _ _ start = some_code
  inside _ _ _ (target place region e) = has_target place region e
  inside _ _ _ (onwards origin place depth operation next before stands has follows within) = within

  -- the instruction at a place that is reached
  pub at_place : (P : Type 0) (place : ℕ) → place < length function.code → ((instruction : Instruction) → slice_get function.code place ≡ Some instruction → P) → P
  at_place P place within on = elim (slice_get_cases function.code place).1 [
    | inl (instruction, there, e, read) ↦ on instruction e
    | inr (past, lacks) ↦ absurd (omega (arith, past, within))
  ]

  -- the instruction that an operation comes from
  from_operation : (P : Type 0) (place : ℕ) (operation : Operation) → operation_at function.code place ≡ Some operation
      → ((instruction : Instruction) → slice_get function.code place ≡ Some instruction → operation_of instruction ≡ Some operation → P) → P
  from_operation P place operation stands on = option_and_then_some operation_of (slice_get function.code place) operation stands on

  enough_comes : EnoughComes image function
  enough_comes origin place depth operation here stands =
      from_operation (pos (taken_count function operation) ≤ℤ depth) place operation stands
      (λ instruction e o. takes_at_most (taken_count function operation) depth (λ less. fine place instruction e rules.V3 (inr (inl (depth, operation, (origin, here), o, less)))))

  comes : (origin : Origin) (place depth : ℕ) → IsReached image function origin place depth → Comes image function origin place (pos depth)
  comes origin place depth there = (agrees image function (inl enough_comes) origin place (pos depth)).1 (depth, refl, there)

  depths : HasDepths image function
  depths = record {
    one = λ a b place depth other x y.
        at_place (depth ≡ other) place (inside a place (pos depth) (comes a place depth x))
        (λ instruction e. same_depth depth other (λ apart. fine place instruction e rules.V3 (inl (pos depth, pos other, apart, (a, comes a place depth x), (b, comes b place other y)))));
    enough = λ origin place depth operation x stands.
        let enough = enough_comes origin place (pos depth) operation (comes origin place depth x) stands in omega (arith, ints, enough);
    shallow = λ origin place depth x.
        at_place (depth ≤ 4096) place (inside origin place (pos depth) (comes origin place depth x))
        (λ instruction e. at_most depth 4096 (λ more. fine place instruction e rules.V3 (inr (inr (pos depth, (origin, comes origin place depth x), less_than 4096 depth more)))));
  }

  region_of : (place : ℕ) (region : Region) → slice_get function.regions place ≡ Some region → IsRegionOf image function region
  region_of place region e = record {
    some = below region.start region.end (λ never. region_fine place region e rules.V4 (inl (at_most region.end region.start never)));
    within = at_most region.end (length function.code) (λ more. region_fine place region e rules.V4 (inr (inl more)));
    depth = λ origin covered depth operation from to x stands.
        at_most (region.depth + taken_count function operation) depth
        (λ less. region_fine place region e rules.V4
        (inr (inr (inl (covered, pos depth, operation, from, to, (origin, comes origin covered depth x), stands, less_than depth (region.depth + taken_count function operation) less)))));
    apart = elim (cases_lt region.target region.start) [
      | inl before ↦ inl before
      | inr behind ↦ inr (at_most region.end region.target (λ more. region_fine place region e rules.V4 (inr (inr (inr (inl (behind, more)))))))
    ];
  }

  nested : IsNested function.regions
  nested earlier later a b before x y overlaps = encloses b a (λ across. region_fine later b y rules.V4 (inr (inr (inr (inr (earlier, a, before, x, overlaps, across))))))

  module _ (arrivals : List Arrival) (are : AreArrivals image function arrivals) where
    from_cleanup : (place : ℕ) (instruction : Instruction) → slice_get function.code place ≡ Some instruction → operation_of instruction ≡ Some does.Resume → (depth : ℕ) × IsReached image function Cleanup place depth
    from_cleanup place instruction e o = elim (slice_get_cases arrivals place).1 [
      | inr (past, lacks) ↦ absurd (omega (arith, past, are.each_place, slice_get_within function.code place instruction e))
      | inl (arrival, there, here, read) ↦ elim (cases_Bool arrival.cleanup) [
        | inl is ↦
            let (depth, comes_so) = (are.exact place arrival here).cleanup.0 is in
            let (operands, equal, reached) = (agrees image function (inl enough_comes) Cleanup place depth).0 comes_so in
            (operands, reached)
        | inr isnt ↦ absurd (fine place instruction e rules.V6 (inr (inr (inl (o, λ so. let is = (are.exact place arrival here).cleanup.1 so in cc)))))
      ]
    ]

    order : HasOrder image function
    order = record {
      some_code = some_code;
      no_end = λ origin place depth operation next x stands has follows.
          from_operation (next < length function.code) place operation stands
          (λ instruction e o. below next (length function.code)
          (λ never. fine place instruction e rules.V6 (inl (pos depth, operation, next, (origin, comes origin place depth x), o, has, follows, at_most (length function.code) next never))));
      one_origin = λ place depth other x y.
          at_place ⊥ place (inside Plain place (pos depth) (comes Plain place depth x))
          (λ instruction e. fine place instruction e rules.V6 (inr (inl ((pos depth, comes Plain place depth x), (pos other, comes Cleanup place other y)))));
      resumes = λ place stands. from_operation ((depth : ℕ) × IsReached image function Cleanup place depth) place does.Resume stands (from_cleanup place);
      returns = λ place depth stands x.
          from_operation ⊥ place does.Return stands (λ instruction e o. fine place instruction e rules.V6 (inr (inr (inr (o, (pos depth, comes Cleanup place depth x))))));
    }

    pub valid_function : IsValidFunction image function
    valid_function = record {
      in_range = all_of (λ i. IsInRange image (operation_of i)) function.code (λ place i e. in_range image (operation_of i) (fine place i e rules.V1));
      has_types = all_of (HasType image) function.regions (λ place r e. has_type image r (region_fine place r e rules.V1));
      has_places = all_of (λ i. HasPlaces function (operation_of i)) function.code (λ place i e. has_places function (operation_of i) (fine place i e rules.V2));
      has_targets = all_of (λ (r : Region). r.target < length function.code) function.regions has_target;
      has_depths = depths;
      is_nested = nested;
      each_region = all_of (IsRegionOf image function) function.regions region_of;
      passes = all_of (λ i. PassesArguments image (operation_of i)) function.code (λ place i e. passes image (operation_of i) (fine place i e rules.V5));
      has_order = order;
    }

-- ---- the image

module _ (image : Image) (none : NothingIsBroken image) (index : ℕ) (function : Function) (at : slice_get image.functions index ≡ Some function) (place : ℕ) (instruction : Instruction) (e : slice_get function.code place ≡ Some instruction) where
  entry_drops : (type : ℕ) → operation_of instruction ≡ Some (does.Throw type) → (found : Option TypeEntry) → slice_get image.types type ≡ found → IfSome found (λ (entry : TypeEntry). 1 ≤ entry.dropper)
  entry_drops type throws None is = tt
  entry_drops type throws (Some entry) is =
      at_most 1 entry.dropper
      (λ less. none (items.Dropper type) rules.V7 (refl, (entry, is, inr ((omega (arith, less)), (index, function, place, instruction, at, e, throws)))))

  drops : (found : Option Operation) → operation_of instruction ≡ found → HasDropper image found
  drops (Some (does.Throw type)) is = entry_drops type is (slice_get image.types type) refl
  drops (Some operation) is = tt
  drops None is = tt

pub valid_where_nothing_is_broken : ValidWhereNothingIsBroken
valid_where_nothing_is_broken image storable known none = record {
  storable = storable;
  each_function = all_of (IsValidFunction image) image.functions
      (λ index function at. let (arrivals, are) = known index function at in valid_function image none index function at arrivals are);
  main = is_entry (slice_get image.functions image.main) (λ broken. none items.Main rules.V7 (refl, broken));
  handler = is_hook_at image image.handler (λ broken. none items.Handler rules.V7 (refl, broken));
  droppers = all_of (λ (entry : TypeEntry). IsHookAt image entry.dropper) image.types
      (λ type entry e. is_hook_at image entry.dropper (λ broken. none (items.Dropper type) rules.V7 (refl, (entry, e, inl broken))));
  thrown = all_of (λ (function : Function). All (λ i. HasDropper image (operation_of i)) function.code) image.functions
      (λ index function at. all_of (λ i. HasDropper image (operation_of i)) function.code (λ place i e. drops image none index function at place i e (operation_of i) refl));
}
