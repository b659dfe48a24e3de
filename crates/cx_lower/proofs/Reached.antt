-- Functions without regions, each of whose places has one depth, are valid.
use Rattle.std.proofs.Common.{◌≡◌, ℕ, ◌+◌, ◌<◌, List, [], length, Option, Some, All, refl, sym, subst, ◌∙◌, arith, inl}
use Rattle.std.specs.Prelude.{slice_get}
use Rattle.std.proofs.lemmas.Option.{slice_get_within, same_Some}
use Rattle.std.proofs.lemmas.List.Elements.{All-from_recursion, All-nil}
use Rattle.cx_code.specs.declared.code.Instruction.{Instruction}
use Rattle.cx_code.specs.declared.code.Region.{Region}
use Rattle.cx_code.specs.declared.image.Image.{Image}
use Rattle.cx_code.specs.declared.image.Function.{Function}
use Rattle.cx_code.specs.declared.operation.Operation.{Operation}
use Rattle.cx_code.specs.declared.operation.Operation.TheVariants as does
use Rattle.cx_code.specs.Operation.{operation_of}
use Rattle.cx_code.specs.Reached.{operation_at, Origin, Plain, Cleanup, IsReached, start, target, onwards}
use Rattle.cx_code.specs.Rules.{IsValidFunction, IsInRange, HasType, HasPlaces, HasDepths, HasOrder, IsRegionOf, PassesArguments, HasDropper}
use Rattle.cx_lower.proofs.Depths.{IsOurs, At, IsLocal, AreLocal, local_at, shallow_at, ours_at, as_many, of_each}

-- it has no regions, and its places have these depths
pub record HasPlacesAt (image : Image) (function : Function) : Type 0 where
  pub no_regions : function.regions ≡ []
  pub depths : List ℕ
  pub starts : At depths 0 0
  pub local : AreLocal image function depths 0 function.code depths

-- ---- what is asked of each operation

in_range : (image : Image) (function : Function) (operation : Operation) → IsOurs image function operation → IsInRange image (Some operation)
in_range image function (does.Call callee count) ours = ours.0
in_range image function (does.Global index) ours = absurd ours
in_range image function (does.TextOf index) ours = absurd ours
in_range image function (does.Throw of) ours = absurd ours
in_range image function (does.Destroyed class) ours = absurd ours
in_range image function (does.Begin assertion party semantic) ours = ours
in_range image function (does.Verdict assertion) ours = ours
in_range image function (does.Violate assertion mode semantic) ours = ours
in_range image function operation ours = tt

passes : (image : Image) (function : Function) (operation : Operation) → IsOurs image function operation → PassesArguments image (Some operation)
passes image function (does.Call callee count) ours = ours.1
passes image function operation ours = tt

has_dropper : (image : Image) (function : Function) (operation : Operation) → IsOurs image function operation → HasDropper image (Some operation)
has_dropper image function (does.Throw of) ours = absurd ours
has_dropper image function operation ours = tt

-- a place that a jump leads to has a depth, and so it is one of the code
has_places : (image : Image) (function : Function) (depths : List ℕ) (place depth : ℕ) (operation : Operation) → length depths ≡ length function.code → IsLocal image function depths place operation depth → HasPlaces function (Some operation)
has_places image function depths place depth (does.Jump to) many local = omega (arith, many, slice_get_within depths to _ (local.onto to refl))
has_places image function depths place depth (does.JumpZero to) many local = omega (arith, many, slice_get_within depths to _ (local.onto to (inl refl)))
has_places image function depths place depth (does.JumpNonzero to) many local = omega (arith, many, slice_get_within depths to _ (local.onto to (inl refl)))
has_places image function depths place depth (does.Get slot) many local = local.ours
has_places image function depths place depth (does.Set slot) many local = local.ours
has_places image function depths place depth (does.Make leaves slot) many local = local.ours
has_places image function depths place depth operation many local = tt

-- ---- what is reached

pub record IsPlaced (origin : Origin) (depths : List ℕ) (place depth : ℕ) : Type 0 where
  pub plain : origin ≡ Plain
  pub at : At depths place depth

none_at : (regions : List Region) (index : ℕ) (region : Region) → regions ≡ [] → slice_get regions index ≡ Some region → ⊥
none_at regions index region none at = let e = rw none at at in cc

module _ (image : Image) (function : Function) (has : HasPlacesAt image function) where
  many : length has.depths ≡ length function.code
  many = as_many image function has.depths 0 function.code has.depths has.local

  at_place : (place depth : ℕ) (operation : Operation) → At has.depths place depth → operation_at function.code place ≡ Some operation → IsLocal image function has.depths place operation depth
  at_place place depth operation at is =
      let e : 0 + place ≡ place = omega arith in
      subst (λ (n : ℕ). IsLocal image function has.depths n operation depth) e (local_at image function has.depths 0 function.code has.depths place operation depth has.local is at)

  placed : (origin : Origin) (place depth : ℕ) → IsReached image function origin place depth → IsPlaced origin has.depths place depth
  placed origin place depth start = record { plain = refl; at = has.starts }
  placed origin place depth (target index region at) = absurd (none_at function.regions index region has.no_regions at)
  placed origin place depth (onwards from before deep operation next reached is indices follows within) =
      let here = placed from before deep reached in
      record { plain = here.plain; at = (at_place before deep operation here.at is).onto next follows }

  not_cleanup : (place depth : ℕ) → IsReached image function Cleanup place depth → ⊥
  not_cleanup place depth reached = let e : Cleanup ≡ Plain = (placed Cleanup place depth reached).plain in cc

  has_depths : HasDepths image function
  has_depths = record {
    one = λ a b place depth other r s. same_Some depth other (sym (placed a place depth r).at ∙ (placed b place other s).at);
    enough = λ origin place depth operation r is. (at_place place depth operation (placed origin place depth r).at is).enough;
    shallow = λ origin place depth r. shallow_at image function has.depths 0 function.code has.depths place depth has.local (placed origin place depth r).at;
  }

  no_resume : (place : ℕ) → operation_at function.code place ≡ Some does.Resume → ⊥
  no_resume place is = ours_at image function has.depths 0 function.code has.depths place does.Resume has.local is

  has_order : HasOrder image function
  has_order = record {
    some_code = omega (arith, many, slice_get_within has.depths 0 0 has.starts);
    no_end = λ origin place depth operation next r is indices follows.
        omega (arith, many, slice_get_within has.depths next _ ((at_place place depth operation (placed origin place depth r).at is).onto next follows));
    one_origin = λ place depth other r s. not_cleanup place other s;
    resumes = λ place is. absurd (no_resume place is);
    returns = λ place depth is r. not_cleanup place depth r;
  }

  each_region : (P : Region → Type 0) → All P function.regions
  each_region P = subst (λ (regions : List Region). All P regions) (sym has.no_regions) (All-nil P)

  each_is : (P : Option Operation → Type 0) → ((at : ℕ) (operation : Operation) (depth : ℕ) → IsLocal image function has.depths at operation depth → P (Some operation)) → All (λ (i : Instruction). P (operation_of i)) function.code
  each_is P holds = All-from_recursion (λ (i : Instruction). P (operation_of i)) function.code (of_each image function has.depths P 0 function.code has.depths holds has.local)

  pub droppers : All (λ (i : Instruction). HasDropper image (operation_of i)) function.code
  droppers = each_is (HasDropper image) (λ at operation depth local. has_dropper image function operation local.ours)

  pub is_valid_function : IsValidFunction image function
  is_valid_function = record {
    in_range = each_is (IsInRange image) (λ at operation depth local. in_range image function operation local.ours);
    has_types = each_region (HasType image);
    has_places = each_is (HasPlaces function) (λ at operation depth local. has_places image function has.depths at depth operation many local);
    has_targets = each_region (λ (r : Region). r.target < length function.code);
    has_depths = has_depths;
    is_nested = λ earlier later a b lt x y overlaps. absurd (none_at function.regions earlier a has.no_regions x);
    each_region = each_region (IsRegionOf image function);
    passes = each_is (PassesArguments image) (λ at operation depth local. passes image function operation local.ours);
    has_order = has_order;
  }
