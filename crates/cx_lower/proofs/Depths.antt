-- The operand depths of code: a list with a depth for each of its places, so that each instruction leads to places with the depths that it makes.
use Rattle.std.proofs.Common.{◌≡◌, ℕ, zero, suc, ◌+◌, ◌<◌, ◌≤◌, List, [], ◌∷◌, ◌++◌, length, Option, Some, refl, sym, ap, subst, ◌∙◌, arith}
use Rattle.std.specs.Prelude.{slice_get}
use Rattle.std.specs.List.{AllByRecursion}
use Rattle.std.proofs.lemmas.Option.{same_Some}
use Rattle.cx_code.specs.declared.code.Instruction.{Instruction}
use Rattle.cx_code.specs.declared.image.Image.{Image}
use Rattle.cx_code.specs.declared.image.Function.{Function}
use Rattle.cx_code.specs.declared.operation.Operation.{Operation}
use Rattle.cx_code.specs.declared.operation.Operation.TheVariants as does
use Rattle.cx_code.specs.Operation.{operation_of}
use Rattle.cx_code.specs.Reached.{operation_at, HasIndices, taken_count, depth_after, Follows}
use Rattle.cx_code.specs.Rules.{PassesArguments}

-- an operation of compiled code: it has no globals, texts and exceptions, and its assertion, its function and its slot are there
abbrev pub IsOurs : Image → Function → Operation → Type 0
IsOurs image function (does.Get slot) = slot < function.slots
IsOurs image function (does.Set slot) = slot < function.slots
IsOurs image function (does.Make leaves slot) = slot < function.slots
IsOurs image function (does.Call callee count) = HasIndices image (does.Call callee count) × PassesArguments image (Some (does.Call callee count))
IsOurs image function (does.Global index) = ⊥
IsOurs image function (does.TextOf index) = ⊥
IsOurs image function (does.Begin assertion party semantic) = assertion < length image.assertions
IsOurs image function (does.Verdict assertion) = assertion < length image.assertions
IsOurs image function (does.Violate assertion mode semantic) = assertion < length image.assertions
IsOurs image function (does.Throw of) = ⊥
IsOurs image function does.Resume = ⊥
IsOurs image function (does.Destroyed class) = ⊥
IsOurs image function operation = Unit {0}

-- ---- a depth for each place

-- the place has that depth in the list
abbrev pub At : (depths : List ℕ) → (place depth : ℕ) → Type 0
At depths place depth = slice_get depths place ≡ Some depth

-- so do the places from this one on
abbrev pub AreAt : (depths : List ℕ) → (place : ℕ) → List ℕ → Type 0
AreAt depths place [] = Unit {0}
AreAt depths place (d ∷ ds) = At depths place d × AreAt depths (place + 1) ds

module _ (depths : List ℕ) where
  pub at_front : (place : ℕ) (a b : List ℕ) → AreAt depths place (a ++ b) → AreAt depths place a
  at_front place [] b h = tt
  at_front place (d ∷ a) b h = (h.0, at_front (place + 1) a b h.1)

  pub at_back : (place : ℕ) (a b : List ℕ) → AreAt depths place (a ++ b) → AreAt depths (place + length a) b
  at_back place [] b h = let e : place ≡ place + 0 = omega arith in subst (λ (n : ℕ). AreAt depths n b) e h
  at_back place (d ∷ a) b h = let e : place + 1 + length a ≡ place + suc (length a) = omega arith in subst (λ (n : ℕ). AreAt depths n b) e (at_back (place + 1) a b h.1)

  pub from_places : (place : ℕ) (ds : List ℕ) → ((j : ℕ) → slice_get depths (place + j) ≡ slice_get ds j) → AreAt depths place ds
  from_places place [] at = tt
  from_places place (d ∷ ds) at =
      let here : place ≡ place + 0 = omega arith in
      let there : (j : ℕ) → place + 1 + j ≡ place + suc j = λ j. omega arith in
      (ap (slice_get depths) here ∙ at 0, from_places (place + 1) ds (λ j. ap (slice_get depths) (there j) ∙ at (suc j)))

  pub all_there : AreAt depths 0 depths
  all_there = from_places 0 depths (λ j. let e : 0 + j ≡ j = omega arith in ap (slice_get depths) e)

-- ---- what an instruction leads to

-- with that depth at its place, an operation finds its operands, and each place that follows has the depth that it makes
pub record IsLocal (image : Image) (function : Function) (depths : List ℕ) (place : ℕ) (operation : Operation) (depth : ℕ) : Type 0 where
  pub enough : taken_count function operation ≤ depth
  pub shallow : depth ≤ 4096
  pub ours : IsOurs image function operation
  pub onto : (next : ℕ) → Follows operation place next → At depths next (depth_after image function operation depth)

-- so do the instructions from a place on, with these depths
abbrev pub AreLocal : Image → Function → List ℕ → ℕ → List Instruction → List ℕ → Type 0
AreLocal image function depths place [] [] = Unit {0}
AreLocal image function depths place (i ∷ is) (d ∷ ds) = ((operation : Operation) × (operation_of i ≡ Some operation) × IsLocal image function depths place operation d) × AreLocal image function depths (place + 1) is ds
AreLocal image function depths place is ds = ⊥

module _ (image : Image) (function : Function) (depths : List ℕ) where
  pub local_append : (place : ℕ) (a b : List Instruction) (ds es : List ℕ) → AreLocal image function depths place a ds → AreLocal image function depths (place + length a) b es → AreLocal image function depths place (a ++ b) (ds ++ es)
  local_append place [] b [] es p q = let e : place + 0 ≡ place = omega arith in subst (λ (n : ℕ). AreLocal image function depths n b es) e q
  local_append place (i ∷ a) b (d ∷ ds) es p q =
      let e : place + suc (length a) ≡ place + 1 + length a = omega arith in
      (p.0, local_append (place + 1) a b ds es p.1 (subst (λ (n : ℕ). AreLocal image function depths n b es) e q))
  local_append place [] b (d ∷ ds) es p q = absurd p
  local_append place (i ∷ a) b [] es p q = absurd p

  -- at each place
  pub local_at : (place : ℕ) (is : List Instruction) (ds : List ℕ) (k : ℕ) (operation : Operation) (depth : ℕ) → AreLocal image function depths place is ds → operation_at is k ≡ Some operation → slice_get ds k ≡ Some depth → IsLocal image function depths (place + k) operation depth
  local_at place [] [] k operation depth p at d = absurd cc
  local_at place [] (e ∷ ds) k operation depth p at d = absurd p
  local_at place (i ∷ is) [] k operation depth p at d = absurd p
  local_at place (i ∷ is) (e ∷ ds) zero operation depth p at d =
      let here : place ≡ place + 0 = omega arith in
      let same : p.0.0 ≡ operation = same_Some p.0.0 operation (sym p.0.1 ∙ at) in
      let deep : e ≡ depth = same_Some e depth d in
      let first = subst (λ (n : ℕ). IsLocal image function depths n p.0.0 e) here p.0.2 in
      let second = subst (λ (o : Operation). IsLocal image function depths (place + 0) o e) same first in
      subst (λ (n : ℕ). IsLocal image function depths (place + 0) operation n) deep second
  local_at place (i ∷ is) (e ∷ ds) (suc k) operation depth p at d =
      let there : place + 1 + k ≡ place + suc k = omega arith in
      subst (λ (n : ℕ). IsLocal image function depths n operation depth) there (local_at (place + 1) is ds k operation depth p.1 at d)

  pub shallow_at : (place : ℕ) (is : List Instruction) (ds : List ℕ) (k depth : ℕ) → AreLocal image function depths place is ds → slice_get ds k ≡ Some depth → depth ≤ 4096
  shallow_at place [] [] k depth p d = absurd cc
  shallow_at place [] (e ∷ ds) k depth p d = absurd p
  shallow_at place (i ∷ is) [] k depth p d = absurd p
  shallow_at place (i ∷ is) (e ∷ ds) zero depth p d = omega (arith, p.0.2.shallow, same_Some e depth d)
  shallow_at place (i ∷ is) (e ∷ ds) (suc k) depth p d = shallow_at (place + 1) is ds k depth p.1 d

  pub ours_at : (place : ℕ) (is : List Instruction) (ds : List ℕ) (k : ℕ) (operation : Operation) → AreLocal image function depths place is ds → operation_at is k ≡ Some operation → IsOurs image function operation
  ours_at place [] [] k operation p at = absurd cc
  ours_at place [] (e ∷ ds) k operation p at = absurd p
  ours_at place (i ∷ is) [] k operation p at = absurd p
  ours_at place (i ∷ is) (e ∷ ds) zero operation p at = subst (IsOurs image function) (same_Some p.0.0 operation (sym p.0.1 ∙ at)) p.0.2.ours
  ours_at place (i ∷ is) (e ∷ ds) (suc k) operation p at = ours_at (place + 1) is ds k operation p.1 at

  -- there are as many depths as instructions
  pub as_many : (place : ℕ) (is : List Instruction) (ds : List ℕ) → AreLocal image function depths place is ds → length ds ≡ length is
  as_many place [] [] p = refl
  as_many place [] (e ∷ ds) p = absurd p
  as_many place (i ∷ is) [] p = absurd p
  as_many place (i ∷ is) (e ∷ ds) p = ap suc (as_many (place + 1) is ds p.1)

  -- what holds of each of these operations holds of the code
  pub of_each : (P : Option Operation → Type 0) (place : ℕ) (is : List Instruction) (ds : List ℕ)
      → ((at : ℕ) (operation : Operation) (depth : ℕ) → IsLocal image function depths at operation depth → P (Some operation))
      → AreLocal image function depths place is ds → AllByRecursion (λ (i : Instruction). P (operation_of i)) is
  of_each P place [] [] holds p = tt
  of_each P place [] (e ∷ ds) holds p = absurd p
  of_each P place (i ∷ is) [] holds p = absurd p
  of_each P place (i ∷ is) (e ∷ ds) holds p = (subst P (sym p.0.1) (holds place p.0.0 e p.0.2), of_each P (place + 1) is ds holds p.1)
