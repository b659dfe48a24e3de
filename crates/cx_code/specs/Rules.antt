-- This defines the rules V1 to V7 of a valid image, which say that a run of it lacks no operand, index or place; they are this project's own.
use Rattle.std.specs.Prelude.{◌≡◌, ◌⊎◌, ℕ, ◌+◌, ◌-◌, ◌<◌, ◌≤◌, max, min, List, length, Option, Some, None, IsTrue, IsFalse, IfSome, slice_get, ⊤}
use Rattle.std.specs.List.{All}
use Rattle.cx_code.specs.declared.code.Region.{Region}
use Rattle.cx_code.specs.declared.image.Image.{Image}
use Rattle.cx_code.specs.declared.image.Function.{Function}
use Rattle.cx_code.specs.declared.image.TypeEntry.{TypeEntry}
use Rattle.cx_code.specs.declared.operation.Operation.{Operation}
use Rattle.cx_code.specs.declared.operation.Operation.TheVariants as does
use Rattle.cx_code.specs.Operation.{operation_of}
use Rattle.cx_code.specs.Reached.{Origin, operation_at, HasIndices, taken_count, Follows, Plain, Cleanup, IsReached}
use Rattle.cx_code.specs.Storable.{IsStorable}

-- ---- V1: numbers are in range

abbrev pub IsInRange : Image → Option Operation → Type 0
IsInRange image None = ⊥
IsInRange image (Some operation) = HasIndices image operation

abbrev pub HasType : Image → Region → Type 0
HasType image region = region.kind ≡ 2 → region.of ≤ length image.types

-- ---- V2: places and slots are the function's

abbrev pub HasPlaces : Function → Option Operation → Type 0
HasPlaces function (Some (does.Jump to)) = to < length function.code
HasPlaces function (Some (does.JumpZero to)) = to < length function.code
HasPlaces function (Some (does.JumpNonzero to)) = to < length function.code
HasPlaces function (Some (does.Get slot)) = slot < function.slots
HasPlaces function (Some (does.Set slot)) = slot < function.slots
HasPlaces function (Some (does.Make leaves slot)) = slot < function.slots
HasPlaces function operation = ⊤

-- ---- V3: each reached instruction has one depth

pub record HasDepths (image : Image) (function : Function) : Type 0 where
  pub one : (a b : Origin) (place depth other : ℕ) → IsReached image function a place depth → IsReached image function b place other → depth ≡ other
  pub enough : (origin : Origin) (place depth : ℕ) (operation : Operation) → IsReached image function origin place depth
      → operation_at function.code place ≡ Some operation → taken_count function operation ≤ depth
  pub shallow : (origin : Origin) (place depth : ℕ) → IsReached image function origin place depth → depth ≤ 4096

-- ---- V4: regions

-- a place is covered by both
abbrev pub Overlaps : Region → Region → Type 0
Overlaps a b = max a.start b.start < min a.end b.end

abbrev pub Encloses : Region → Region → Type 0
Encloses outer inner = (outer.start ≤ inner.start) × (inner.end ≤ outer.end)

-- a later region lies around an earlier one, or apart from it
abbrev pub IsNested : List Region → Type 0
IsNested regions = (earlier later : ℕ) (a b : Region) → earlier < later → slice_get regions earlier ≡ Some a → slice_get regions later ≡ Some b
    → Overlaps a b → Encloses b a

pub record IsRegionOf (image : Image) (function : Function) (region : Region) : Type 0 where
  pub some : region.start < region.end
  pub within : region.end ≤ length function.code
  -- what is cut is there at each place, after the instruction has taken its operands
  pub depth : (origin : Origin) (place depth : ℕ) (operation : Operation) → region.start ≤ place → place < region.end → IsReached image function origin place depth
      → operation_at function.code place ≡ Some operation → region.depth + taken_count function operation ≤ depth
  pub apart : (region.target < region.start) ⊎ (region.end ≤ region.target)

-- ---- V5: a call passes as many arguments as there are parameters

abbrev pub PassesArguments : Image → Option Operation → Type 0
PassesArguments image (Some (does.Call function count)) = IfSome (slice_get image.functions function) (λ (callee : Function). callee.parameters ≡ count)
PassesArguments image operation = ⊤

-- ---- V6: where code may stand

pub record HasOrder (image : Image) (function : Function) : Type 0 where
  pub some_code : 0 < length function.code
  pub no_end : (origin : Origin) (place depth : ℕ) (operation : Operation) (next : ℕ) → IsReached image function origin place depth
      → operation_at function.code place ≡ Some operation → HasIndices image operation → Follows operation place next → next < length function.code
  pub one_origin : (place depth other : ℕ) → IsReached image function Plain place depth → IsReached image function Cleanup place other → ⊥
  pub resumes : (place : ℕ) → operation_at function.code place ≡ Some does.Resume → (depth : ℕ) × IsReached image function Cleanup place depth
  pub returns : (place depth : ℕ) → operation_at function.code place ≡ Some does.Return → IsReached image function Cleanup place depth → ⊥

pub record IsValidFunction (image : Image) (function : Function) : Type 0 where
  pub in_range : All (λ i. IsInRange image (operation_of i)) function.code
  pub has_types : All (HasType image) function.regions
  pub has_places : All (λ i. HasPlaces function (operation_of i)) function.code
  pub has_targets : All (λ (r : Region). r.target < length function.code) function.regions
  pub has_depths : HasDepths image function
  pub is_nested : IsNested function.regions
  pub each_region : All (IsRegionOf image function) function.regions
  pub passes : All (λ i. PassesArguments image (operation_of i)) function.code
  pub has_order : HasOrder image function

-- ---- V7: functions that the machine calls by itself

pub record IsEntry (function : Function) : Type 0 where
  pub parameters : function.parameters ≡ 0
  pub result : IsTrue function.result

-- it takes one value, and gives none
pub record IsHook (function : Function) : Type 0 where
  pub parameters : function.parameters ≡ 1
  pub result : IsFalse function.result

-- an index plus 1, where it isn't 0
abbrev pub IsHookAt : Image → ℕ → Type 0
IsHookAt image index = 1 ≤ index → IfSome (slice_get image.functions (index - 1)) IsHook

abbrev pub HasDropper : Image → Option Operation → Type 0
HasDropper image (Some (does.Throw of)) = IfSome (slice_get image.types of) (λ (entry : TypeEntry). 1 ≤ entry.dropper)
HasDropper image operation = ⊤

pub record IsValid (image : Image) : Type 0 where
  pub storable : IsStorable image
  pub each_function : All (IsValidFunction image) image.functions
  pub main : IfSome (slice_get image.functions image.main) IsEntry
  pub handler : IsHookAt image image.handler
  pub droppers : All (λ (entry : TypeEntry). IsHookAt image entry.dropper) image.types
  pub thrown : All (λ (function : Function). All (λ i. HasDropper image (operation_of i)) function.code) image.functions
