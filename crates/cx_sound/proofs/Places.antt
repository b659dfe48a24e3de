-- What the rules of a valid image say of a place that is reached.
use Rattle.std.proofs.Common.{◌≡◌, ℕ, ◌<◌, List, length, Option, Some, None, slice_get, subst, refl, arith, inl, inr}
use Rattle.std.specs.List.{All}
use Rattle.std.proofs.lemmas.Option.{get_or_from_slice_get, slice_get_within, slice_get_cases}
use Rattle.cx_code.specs.declared.code.Instruction.{Instruction}
use Rattle.cx_code.specs.declared.code.Region.{Region}
use Rattle.cx_code.specs.declared.image.Image.{Image}
use Rattle.cx_code.specs.declared.image.Function.{Function}
use Rattle.cx_code.specs.declared.operation.Operation.{Operation}
use Rattle.cx_code.specs.Operation.{operation_of}
use Rattle.cx_code.specs.Reached.{Origin, IsReached, start, target, onwards, operation_at, HasIndices}
use Rattle.cx_code.specs.Rules.{IsValid, IsValidFunction, IsInRange, HasPlaces, PassesArguments, HasDropper}

-- what holds of each element holds of the one at an index
pub at_index : {X : Type 0} (P : X → Type 0) (xs : List X) (i : ℕ) (x : X) → All P xs → slice_get xs i ≡ Some x → P x
at_index P xs i x all e = subst P (get_or_from_slice_get xs i x x e) (all i x (slice_get_within xs i x e))

pub function_valid : (image : Image) (index : ℕ) (function : Function) → IsValid image → slice_get image.functions index ≡ Some function → IsValidFunction image function
function_valid image index function valid e = at_index (IsValidFunction image) image.functions index function valid.each_function e

pub is_within : {image : Image} {function : Function} {origin : Origin} {place depth : ℕ}
    → IsValidFunction image function → IsReached image function origin place depth → place < length function.code
is_within valid start = valid.has_order.some_code
is_within {function = function} valid (target index region e) = at_index (λ (r : Region). r.target < length function.code) function.regions index region valid.has_targets e
is_within valid (onwards origin place depth operation next before now indices follows within) = within

-- the instruction at a place, and what the rules say of it alone
pub record Instruct (image : Image) (function : Function) (place : ℕ) : Type 0 where
  pub operation : Operation
  pub now : operation_at function.code place ≡ Some operation
  pub indices : HasIndices image operation
  pub places : HasPlaces function (Some operation)
  pub arguments : PassesArguments image (Some operation)
  pub dropper : HasDropper image (Some operation)

module _ (image : Image) (function : Function) (index place : ℕ) (valid : IsValid image) (its : slice_get image.functions index ≡ Some function) where
  at_instruction : (i : Instruction) (found : Option Operation) → slice_get function.code place ≡ Some i → operation_of i ≡ found → Instruct image function place
  at_instruction i None e is = absurd (subst (IsInRange image) is (at_index (λ (i : Instruction). IsInRange image (operation_of i)) function.code place i (function_valid image index function valid its).in_range e))
  at_instruction i (Some operation) e is =
      let ruled = function_valid image index function valid its in
      record {
        operation = operation;
        now = rw e is;
        indices = subst (IsInRange image) is (at_index (λ (i : Instruction). IsInRange image (operation_of i)) function.code place i ruled.in_range e);
        places = subst (HasPlaces function) is (at_index (λ (i : Instruction). HasPlaces function (operation_of i)) function.code place i ruled.has_places e);
        arguments = subst (PassesArguments image) is (at_index (λ (i : Instruction). PassesArguments image (operation_of i)) function.code place i ruled.passes e);
        dropper = subst (HasDropper image) is (at_index (λ (i : Instruction). HasDropper image (operation_of i)) function.code place i
            (at_index (λ (f : Function). All (λ (i : Instruction). HasDropper image (operation_of i)) f.code) image.functions index function valid.thrown its) e);
      }

  pub instructed : place < length function.code → Instruct image function place
  instructed within = elim ((slice_get_cases function.code place).1) [
    | inl (i, w, e, g) ↦ at_instruction i (operation_of i) e refl
    | inr (past, none) ↦ absurd (omega arith)
  ]

  pub indices_at : (operation : Operation) → place < length function.code → operation_at function.code place ≡ Some operation → HasIndices image operation
  indices_at operation within now =
      let at = instructed within in
      let same : at.operation ≡ operation = cc (at.now, now) in
      subst (HasIndices image) same at.indices
