-- In a valid image nothing is broken.
use Rattle.std.proofs.Common.{◌≡◌, ℕ, ◌+◌, ◌<◌, ◌≤◌, ℤ, pos, ◌<ℤ◌, length, Some, IfSome, slice_get, subst, refl, sym, ap, ◌∙◌, arith, inl, inr}
use Rattle.std.specs.List.{All}
use Rattle.std.specs.Option.{option_and_then}
use Rattle.std.proofs.lemmas.Int.{ints}
use Rattle.cx_code.specs.declared.code.Instruction.{Instruction}
use Rattle.cx_code.specs.declared.code.Region.{Region}
use Rattle.cx_code.specs.declared.image.Image.{Image}
use Rattle.cx_code.specs.declared.image.Function.{Function}
use Rattle.cx_code.specs.declared.image.TypeEntry.{TypeEntry}
use Rattle.cx_code.specs.declared.operation.Operation.{Operation}
use Rattle.cx_code.specs.declared.operation.Operation.TheVariants as does
use Rattle.cx_code.specs.Operation.{operation_of}
use Rattle.cx_code.specs.Reached.{Origin, Plain, Cleanup, operation_at, taken_count, IsReached}
use Rattle.cx_code.specs.Rules.{IsInRange, HasType, HasPlaces, PassesArguments, IsRegionOf, IsHookAt, HasDropper, IsValidFunction, IsValid}
use Rattle.cx_reach.specs.declared.item.Item.TheVariants as items
use Rattle.cx_reach.specs.declared.rule.Rule.{Rule}
use Rattle.cx_reach.specs.declared.rule.Rule.TheVariants as rules
use Rattle.cx_reach.specs.Comes.{Comes}
use Rattle.cx_reach.specs.Broken.{HasBadDepth, RunsOff, HasBadOrigin, BreaksAt, IsBadRegion, RegionBreaks, IsBadDropper, NothingIsBroken}
use Rattle.cx_reach.proofs.Grown.{at_all}
use Rattle.cx_reach.proofs.Agreeing.{agrees}

pub operation_stands : (function : Function) (place : ℕ) (instruction : Instruction) (operation : Operation) → slice_get function.code place ≡ Some instruction → operation_of instruction ≡ Some operation
    → operation_at function.code place ≡ Some operation
operation_stands function place instruction operation e o = ap (option_and_then operation_of) e ∙ o

not_less : (depth : ℤ) (operands least : ℕ) → depth ≡ pos operands → least ≤ operands → depth <ℤ pos least → ⊥
not_less depth operands least same enough less = omega (arith, ints)

not_more : (depth : ℤ) (operands most : ℕ) → depth ≡ pos operands → operands ≤ most → pos most <ℤ depth → ⊥
not_more depth operands most same few more = omega (arith, ints)

module _ (image : Image) (function : Function) (valid : IsValidFunction image function) where
  reached : (origin : Origin) (place : ℕ) (depth : ℤ) → Comes image function origin place depth → (operands : ℕ) × (depth ≡ pos operands) × IsReached image function origin place operands
  reached origin place depth = (agrees image function (inr valid.has_depths.enough) origin place depth).0

  good_depth : (place : ℕ) (instruction : Instruction) → slice_get function.code place ≡ Some instruction → HasBadDepth image function place instruction → ⊥
  good_depth place instruction e (inl (one, other, apart, (a, here), (b, there))) =
      let (m, is_m, at_m) = reached a place one here in
      let (n, is_n, at_n) = reached b place other there in
      apart (is_m ∙ ap pos (valid.has_depths.one a b place m n at_m at_n) ∙ sym is_n)
  good_depth place instruction e (inr (inl (depth, operation, (a, here), o, less))) =
      let (m, is_m, at_m) = reached a place depth here in
      not_less depth m (taken_count function operation) is_m (valid.has_depths.enough a place m operation at_m (operation_stands function place instruction operation e o)) less
  good_depth place instruction e (inr (inr (depth, (a, here), more))) =
      let (m, is_m, at_m) = reached a place depth here in
      not_more depth m 4096 is_m (valid.has_depths.shallow a place m at_m) more

  stays_on : (place : ℕ) (instruction : Instruction) → slice_get function.code place ≡ Some instruction → RunsOff image function place instruction → ⊥
  stays_on place instruction e (depth, operation, next, (a, here), o, has, follows, past) =
      let (m, is_m, at_m) = reached a place depth here in
      let inside = valid.has_order.no_end a place m operation next at_m (operation_stands function place instruction operation e o) has follows in
      omega (arith, inside, past)

  good_origin : (place : ℕ) (instruction : Instruction) → slice_get function.code place ≡ Some instruction → HasBadOrigin image function place instruction → ⊥
  good_origin place instruction e (inl ((depth, here), (other, there))) =
      let (m, is_m, at_m) = reached Plain place depth here in
      let (n, is_n, at_n) = reached Cleanup place other there in
      valid.has_order.one_origin place m n at_m at_n
  good_origin place instruction e (inr (inl (o, never))) =
      let (operands, at) = valid.has_order.resumes place (operation_stands function place instruction does.Resume e o) in
      never (pos operands, (agrees image function (inr valid.has_depths.enough) Cleanup place (pos operands)).1 (operands, refl, at))
  good_origin place instruction e (inr (inr (o, (depth, here)))) =
      let (m, is_m, at_m) = reached Cleanup place depth here in
      valid.has_order.returns place m (operation_stands function place instruction does.Return e o) at_m

  keeps_at : (place : ℕ) (instruction : Instruction) → slice_get function.code place ≡ Some instruction → (rule : Rule) → BreaksAt image function place instruction rule → ⊥
  keeps_at place instruction e rules.V1 broken = broken (at_all (λ i. IsInRange image (operation_of i)) function.code place instruction valid.in_range e)
  keeps_at place instruction e rules.V2 broken = broken (at_all (λ i. HasPlaces function (operation_of i)) function.code place instruction valid.has_places e)
  keeps_at place instruction e rules.V3 broken = good_depth place instruction e broken
  keeps_at place instruction e rules.V4 broken = broken
  keeps_at place instruction e rules.V5 broken = broken (at_all (λ i. PassesArguments image (operation_of i)) function.code place instruction valid.passes e)
  keeps_at place instruction e rules.V6 (inl off) = stays_on place instruction e off
  keeps_at place instruction e rules.V6 (inr origin) = good_origin place instruction e origin
  keeps_at place instruction e rules.V7 broken = broken

  good_region : (index : ℕ) (region : Region) → slice_get function.regions index ≡ Some region → IsRegionOf image function region → IsBadRegion image function index region → ⊥
  good_region index region e good (inl empty) = omega (arith, good.some, empty)
  good_region index region e good (inr (inl past)) = omega (arith, good.within, past)
  good_region index region e good (inr (inr (inl (place, depth, operation, from, to, (a, here), stands, less)))) =
      let (m, is_m, at_m) = reached a place depth here in
      not_less depth m (region.depth + taken_count function operation) is_m (good.depth a place m operation from to at_m stands) less
  good_region index region e good (inr (inr (inr (inl (from, to))))) = elim good.apart [ inl before ↦ omega (arith, before, from) | inr behind ↦ omega (arith, behind, to) ]
  good_region index region e good (inr (inr (inr (inr (earlier, other, before, at, overlaps, across))))) = across (valid.is_nested earlier index other region before at e overlaps)

  region_keeps : (index : ℕ) (region : Region) → slice_get function.regions index ≡ Some region → (rule : Rule) → RegionBreaks image function index region rule → ⊥
  region_keeps index region e rules.V1 broken = broken (at_all (HasType image) function.regions index region valid.has_types e)
  region_keeps index region e rules.V2 past = let inside = at_all (λ (r : Region). r.target < length function.code) function.regions index region valid.has_targets e in omega (arith, inside, past)
  region_keeps index region e rules.V3 broken = broken
  region_keeps index region e rules.V4 broken = good_region index region e (at_all (IsRegionOf image function) function.regions index region valid.each_region e) broken
  region_keeps index region e rules.V5 broken = broken
  region_keeps index region e rules.V6 broken = broken
  region_keeps index region e rules.V7 broken = broken

module _ (image : Image) (valid : IsValid image) where
  its_valid : (index : ℕ) (function : Function) → slice_get image.functions index ≡ Some function → IsValidFunction image function
  its_valid index function e = at_all (IsValidFunction image) image.functions index function valid.each_function e

  good_dropper : (type : ℕ) (entry : TypeEntry) → slice_get image.types type ≡ Some entry → IsBadDropper image type entry → ⊥
  good_dropper type entry e (inl broken) = broken (at_all (λ (entry : TypeEntry). IsHookAt image entry.dropper) image.types type entry valid.droppers e)
  good_dropper type entry e (inr (zero, (index, function, place, instruction, at, stands, throws))) =
      let all = at_all (λ (function : Function). All (λ i. HasDropper image (operation_of i)) function.code) image.functions index function valid.thrown at in
      let drops : HasDropper image (Some (does.Throw type)) = subst (HasDropper image) throws (at_all (λ i. HasDropper image (operation_of i)) function.code place instruction all stands) in
      let some : 1 ≤ entry.dropper = subst (λ found. IfSome found (λ (entry : TypeEntry). 1 ≤ entry.dropper)) e drops in
      omega (arith, some, zero)

  pub unbroken : NothingIsBroken image
  unbroken (items.Instruction index place) rule (function, instruction, at, e, broken) = keeps_at image function (its_valid index function at) place instruction e rule broken
  unbroken (items.Count index) rule (six, (function, at, none)) = omega (arith, (its_valid index function at).has_order.some_code, none)
  unbroken (items.Region index place) rule (function, region, at, e, broken) = region_keeps image function (its_valid index function at) place region e rule broken
  unbroken (items.Dropper type) rule (seven, (entry, e, broken)) = good_dropper type entry e broken
  unbroken items.Main rule (seven, broken) = broken valid.main
  unbroken items.Handler rule (seven, broken) = broken valid.handler
