-- What is known of how a place is reached decides which rules its instruction breaks.
use Rattle.std.proofs.Common.{◌≡◌, ◌≢◌, ◌↔◌, ℕ, ◌≤◌, ℤ, pos, ◌<ℤ◌, Bool, false, Option, Some, IsTrue, refl, sym, ap, ◌∙◌, subst, inl, inr, lit≤}
use Rattle.std.proofs.lemmas.Bool.{cases_Bool}
use Rattle.cx_code.specs.declared.code.Instruction.{Instruction}
use Rattle.cx_code.specs.declared.image.Image.{Image}
use Rattle.cx_code.specs.declared.image.Function.{Function}
use Rattle.cx_code.specs.declared.operation.Operation.{Operation}
use Rattle.cx_code.specs.declared.operation.Operation.TheVariants as does
use Rattle.cx_code.specs.Operation.{operation_of}
use Rattle.cx_code.specs.Reached.{taken_count, HasIndices}
use Rattle.cx_code.specs.Rules.{IsInRange, HasPlaces, PassesArguments}
use Rattle.cx_reach.specs.declared.arriving.Arrival.{Arrival}
use Rattle.cx_reach.specs.declared.arriving.Depths.{Depths}
use Rattle.cx_reach.specs.declared.arriving.Depths.TheVariants as depths
use Rattle.cx_reach.specs.declared.rule.Rule.{Rule}
use Rattle.cx_reach.specs.declared.rule.Rule.TheVariants as rules
use Rattle.cx_reach.specs.Comes.{ComesWith, AreDepths, IsArrival}
use Rattle.cx_reach.specs.Broken.{HasBadDepth, RunsOff, HasBadOrigin, BreaksAt}
use Rattle.cx_reach.specs.Order.{number_of}
use Rattle.cx_rules.specs.Judged.{AreBadDepths, LeadsOff, IsBadArrival}

-- a test that fails denies what it tells
pub denied : (test : Bool) (P : Type 0) → test ≡ false → (IsTrue test ↔ P) → ¬ P
denied test P fails tells holds = let is = tells.1 holds in cc

module _ (image : Image) (function : Function) (place : ℕ) (instruction : Instruction) (operation : Operation) (o : operation_of instruction ≡ Some operation) where
  same_operation : (other : Operation) → operation_of instruction ≡ Some other → other ≡ operation
  same_operation other e = cc

  -- ---- depths

  bad_depth : (known : Depths) → AreDepths image function place known → AreBadDepths function operation known → HasBadDepth image function place instruction
  bad_depth depths.None are bad = absurd bad
  bad_depth (depths.One depth) (here, only) (inl less) = inr (inl (depth, operation, here, o, less))
  bad_depth (depths.One depth) (here, only) (inr more) = inr (inr (depth, here, more))
  bad_depth depths.Several are bad = inl are

  is_bad_depth : (known : Depths) → AreDepths image function place known → HasBadDepth image function place instruction → AreBadDepths function operation known
  is_bad_depth depths.None are (inl (one, other, apart, here, there)) = are one here
  is_bad_depth depths.None are (inr (inl (depth, its, here, e, less))) = are depth here
  is_bad_depth depths.None are (inr (inr (depth, here, more))) = are depth here
  is_bad_depth (depths.One known) (at, only) (inl (one, other, apart, here, there)) = absurd (apart (only one here ∙ sym (only other there)))
  is_bad_depth (depths.One known) (at, only) (inr (inl (depth, its, here, e, less))) =
      inl (subst (λ (d : ℤ). d <ℤ pos (taken_count function operation)) (only depth here) (subst (λ (i : Operation). depth <ℤ pos (taken_count function i)) (same_operation its e) less))
  is_bad_depth (depths.One known) (at, only) (inr (inr (depth, here, more))) = inr (subst (λ (d : ℤ). pos 4096 <ℤ d) (only depth here) more)
  is_bad_depth depths.Several are bad = tt

  -- ---- where the code goes on

  some_comes : (P : Type 0) (known : Depths) → AreDepths image function place known → known ≢ depths.None → ((depth : ℤ) → ComesWith image function place depth → P) → P
  some_comes P depths.None are some on = absurd (some refl)
  some_comes P (depths.One depth) (here, only) some on = on depth here
  some_comes P depths.Several (one, other, apart, here, there) some on = on one here

  some_depths : (known : Depths) → AreDepths image function place known → (depth : ℤ) → ComesWith image function place depth → known ≢ depths.None
  some_depths depths.None are depth here e = are depth here
  some_depths (depths.One known) are depth here e = cc
  some_depths depths.Several are depth here e = cc

  runs_off : (known : Depths) → AreDepths image function place known → HasIndices image operation → (known ≢ depths.None) × LeadsOff function place operation → RunsOff image function place instruction
  runs_off known are has (some, (next, follows, past)) =
      some_comes (RunsOff image function place instruction) known are some (λ depth here. (depth, operation, next, here, o, has, follows, past))

  does_run_off : (known : Depths) → AreDepths image function place known → RunsOff image function place instruction → (known ≢ depths.None) × LeadsOff function place operation
  does_run_off known are (depth, its, next, here, e, has, follows, past) =
      (some_depths known are depth here, subst (λ (i : Operation). LeadsOff function place i) (same_operation its e) (next, follows, past))

  -- ---- origins

  module _ (arrival : Arrival) (is : IsArrival image function place arrival) where
    bad_origin : IsBadArrival operation arrival → HasBadOrigin image function place instruction
    bad_origin (inl (plain, cleanup)) = inl (is.plain.0 plain, is.cleanup.0 cleanup)
    bad_origin (inr (inl (resumes, never))) = inr (inl (o ∙ ap Some resumes, (λ from. let so = is.cleanup.1 from in cc)))
    bad_origin (inr (inr (returns, cleanup))) = inr (inr (o ∙ ap Some returns, is.cleanup.0 cleanup))

    is_bad_origin : HasBadOrigin image function place instruction → IsBadArrival operation arrival
    is_bad_origin (inl (plain, cleanup)) = inl (is.plain.1 plain, is.cleanup.1 cleanup)
    is_bad_origin (inr (inl (resumes, never))) = elim (cases_Bool arrival.cleanup) [
      | inl so ↦ absurd (never (is.cleanup.0 so))
      | inr not_so ↦ inr (inl (sym (same_operation does.Resume resumes), not_so))
    ]
    is_bad_origin (inr (inr (returns, cleanup))) = inr (inr (sym (same_operation does.Return returns), is.cleanup.1 cleanup))

    -- ---- what isn't broken

    keeps : (P : Option Operation → Type 0) → P (Some operation) → ¬ ¬ P (operation_of instruction)
    keeps P holds broken = broken (subst P (sym o) holds)

    pub after_first : HasIndices image operation → (other : Rule) → BreaksAt image function place instruction other → 2 ≤ number_of other
    after_first has rules.V1 broken = absurd (keeps (IsInRange image) has broken)
    after_first has rules.V2 broken = lit≤ tt
    after_first has rules.V3 broken = lit≤ tt
    after_first has rules.V4 broken = lit≤ tt
    after_first has rules.V5 broken = lit≤ tt
    after_first has rules.V6 broken = lit≤ tt
    after_first has rules.V7 broken = lit≤ tt

    pub after_second : HasIndices image operation → HasPlaces function (Some operation) → (other : Rule) → BreaksAt image function place instruction other → 3 ≤ number_of other
    after_second has places rules.V1 broken = absurd (keeps (IsInRange image) has broken)
    after_second has places rules.V2 broken = absurd (keeps (HasPlaces function) places broken)
    after_second has places rules.V3 broken = lit≤ tt
    after_second has places rules.V4 broken = lit≤ tt
    after_second has places rules.V5 broken = lit≤ tt
    after_second has places rules.V6 broken = lit≤ tt
    after_second has places rules.V7 broken = lit≤ tt

    pub after_third : HasIndices image operation → HasPlaces function (Some operation) → ¬ AreBadDepths function operation arrival.depths → (other : Rule) → BreaksAt image function place instruction other → 5 ≤ number_of other
    after_third has places good rules.V1 broken = absurd (keeps (IsInRange image) has broken)
    after_third has places good rules.V2 broken = absurd (keeps (HasPlaces function) places broken)
    after_third has places good rules.V3 broken = absurd (good (is_bad_depth arrival.depths is.depths broken))
    after_third has places good rules.V4 broken = absurd broken
    after_third has places good rules.V5 broken = lit≤ tt
    after_third has places good rules.V6 broken = lit≤ tt
    after_third has places good rules.V7 broken = lit≤ tt

    pub after_fifth : HasIndices image operation → HasPlaces function (Some operation) → ¬ AreBadDepths function operation arrival.depths → PassesArguments image (Some operation)
        → (other : Rule) → BreaksAt image function place instruction other → 6 ≤ number_of other
    after_fifth has places good passes rules.V1 broken = absurd (keeps (IsInRange image) has broken)
    after_fifth has places good passes rules.V2 broken = absurd (keeps (HasPlaces function) places broken)
    after_fifth has places good passes rules.V3 broken = absurd (good (is_bad_depth arrival.depths is.depths broken))
    after_fifth has places good passes rules.V4 broken = absurd broken
    after_fifth has places good passes rules.V5 broken = absurd (keeps (PassesArguments image) passes broken)
    after_fifth has places good passes rules.V6 broken = lit≤ tt
    after_fifth has places good passes rules.V7 broken = lit≤ tt

    pub second : ¬ HasPlaces function (Some operation) → BreaksAt image function place instruction rules.V2
    second broken holds = broken (subst (HasPlaces function) o holds)

    pub third : AreBadDepths function operation arrival.depths → BreaksAt image function place instruction rules.V3
    third bad = bad_depth arrival.depths is.depths bad

    pub fifth : ¬ PassesArguments image (Some operation) → BreaksAt image function place instruction rules.V5
    fifth broken holds = broken (subst (PassesArguments image) o holds)

    pub sixth : HasIndices image operation → (((arrival.depths ≢ depths.None) × LeadsOff function place operation) → BreaksAt image function place instruction rules.V6)
        × (IsBadArrival operation arrival → BreaksAt image function place instruction rules.V6)
    sixth has = ((λ off. inl (runs_off arrival.depths is.depths has off)), (λ bad. inr (bad_origin bad)))

    pub none : HasIndices image operation → HasPlaces function (Some operation) → ¬ AreBadDepths function operation arrival.depths → PassesArguments image (Some operation)
        → ¬ ((arrival.depths ≢ depths.None) × LeadsOff function place operation) → ¬ IsBadArrival operation arrival → (rule : Rule) → ¬ BreaksAt image function place instruction rule
    none has places good passes stays stands rules.V1 broken = keeps (IsInRange image) has broken
    none has places good passes stays stands rules.V2 broken = keeps (HasPlaces function) places broken
    none has places good passes stays stands rules.V3 broken = good (is_bad_depth arrival.depths is.depths broken)
    none has places good passes stays stands rules.V4 broken = broken
    none has places good passes stays stands rules.V5 broken = keeps (PassesArguments image) passes broken
    none has places good passes stays stands rules.V6 (inl off) = stays (does_run_off arrival.depths is.depths off)
    none has places good passes stays stands rules.V6 (inr bad) = stands (is_bad_origin bad)
    none has places good passes stays stands rules.V7 broken = broken
