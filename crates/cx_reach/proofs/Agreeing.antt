-- What comes to a place is what the rules say, where no instruction takes what isn't there.
use Rattle.std.proofs.Common.{◌≡◌, ◌⊎◌, ℕ, ◌+◌, ◌-◌, ◌≤◌, ℤ, pos, ◌+ℤ◌, ◌-ℤ◌, ◌≤ℤ◌, Some, subst, refl, sym, arith, inl, inr}
use Rattle.std.proofs.lemmas.Int.{ints}
use Rattle.cx_code.specs.declared.image.Image.{Image}
use Rattle.cx_code.specs.declared.image.Function.{Function}
use Rattle.cx_code.specs.declared.operation.Operation.{Operation}
use Rattle.cx_code.specs.Reached.{Origin, operation_at, taken_count, given_count, depth_after, IsReached, start, target, onwards}
use Rattle.cx_reach.specs.Comes.{Comes, start as comes_start, target as comes_target, onwards as comes_onwards}
use Rattle.cx_reach.specs.Agreement.{EnoughComes, EnoughIsThere, Agrees}

-- taking what is there, from an integer and from a number
same_behind : (taken given operands : ℕ) (depth : ℤ) → taken ≤ operands → depth ≡ pos operands → ((depth -ℤ pos taken) +ℤ pos given) ≡ pos (operands - taken + given)
same_behind taken given operands depth enough same = omega (arith, ints)

enough_of : (taken operands : ℕ) (depth : ℤ) → depth ≡ pos operands → pos taken ≤ℤ depth → taken ≤ operands
enough_of taken operands depth same enough = omega (arith, ints)

module _ (image : Image) (function : Function) where
  abbrev Reached : Origin → ℕ → ℤ → Type 0
  Reached origin place depth = (operands : ℕ) × (depth ≡ pos operands) × IsReached image function origin place operands

  module _ (enough : EnoughComes image function ⊎ EnoughIsThere image function) where
    -- at a place that is reached in both ways
    takes_less : (origin : Origin) (place operands : ℕ) (depth : ℤ) (operation : Operation) → depth ≡ pos operands → Comes image function origin place depth → IsReached image function origin place operands
        → operation_at function.code place ≡ Some operation → taken_count function operation ≤ operands
    takes_less origin place operands depth operation same here there stands = elim enough [
      | inl comes_enough ↦ enough_of (taken_count function operation) operands depth same (comes_enough origin place depth operation here stands)
      | inr is_there ↦ is_there origin place operands operation there stands
    ]

    reached : (origin : Origin) (place : ℕ) (depth : ℤ) → Comes image function origin place depth → Reached origin place depth
    reached _ _ _ comes_start = (0, refl, start)
    reached _ _ _ (comes_target index region at) = (region.depth, refl, target index region at)
    reached _ _ _ (comes_onwards origin place depth operation next before stands has follows inside) =
        let (operands, same, there) = reached origin place depth before in (
          depth_after image function operation operands,
          same_behind (taken_count function operation) (given_count image operation) operands depth (takes_less origin place operands depth operation same before there stands) same,
          onwards origin place operands operation next there stands has follows inside,
        )

    comes_there : (origin : Origin) (place operands : ℕ) → IsReached image function origin place operands → Comes image function origin place (pos operands)
    comes_there _ _ _ start = comes_start
    comes_there _ _ _ (target index region at) = comes_target index region at
    comes_there _ _ _ (onwards origin place operands operation next before stands has follows inside) =
        let here = comes_there origin place operands before in
        subst (Comes image function origin next)
        (same_behind (taken_count function operation) (given_count image operation) operands (pos operands) (takes_less origin place operands (pos operands) operation refl here before stands) refl)
        (comes_onwards origin place (pos operands) operation next here stands has follows inside)

pub agrees : Agrees
agrees image function enough origin place depth =
    (reached image function enough origin place depth, λ (operands, same, there). subst (Comes image function origin place) (sym same) (comes_there image function enough origin place operands there))
