-- What was passed over holds no broken rule.
use Rattle.std.proofs.Common.{◌≡◌, ℕ, ◌+◌, ◌<◌, ◌≤◌, List, length, get_or, Some, None, slice_get, subst, sym, arith, inl, inr}
use Rattle.std.proofs.lemmas.Bool.{cases_lt}
use Rattle.std.proofs.lemmas.Option.{slice_get_within, slice_get-get_or}
use Rattle.cx_code.specs.declared.code.Instruction.{Instruction}
use Rattle.cx_code.specs.declared.image.Image.{Image}
use Rattle.cx_code.specs.declared.image.Function.{Function}
use Rattle.cx_reach.specs.Broken.{BreaksAt}
use Rattle.cx_rules.specs.First.{IsFirstAtPlace, KeepBefore, IsFirstInCode}

-- what is read of a list stands in it
pub stands : {X : Type 0} (read xs : List X) (place : ℕ) (x : X) → read ≡ xs → place < length xs → slice_get xs place ≡ Some (get_or read place x)
stands read xs place x same within = subst (λ ys. slice_get xs place ≡ Some (get_or ys place x)) (sym same) (slice_get-get_or xs place x within)

pub one_more : (image : Image) (function : Function) (place : ℕ) → KeepBefore image function place → IsFirstAtPlace image function place None → KeepBefore image function (place + 1)
one_more image function place before (here, stands, keeps) earlier instruction rule less e broken = elim (cases_lt earlier place) [
  | inl earlier_less ↦ before earlier instruction rule earlier_less e broken
  | inr not_less ↦
      let at : earlier ≡ place = omega (arith, less, not_less) in
      let same : here ≡ instruction = cc in
      keeps rule (subst (λ (p : ℕ). BreaksAt image function p here rule) at (subst (λ (i : Instruction). BreaksAt image function earlier i rule) (sym same) broken))
]

pub all_passed : (image : Image) (function : Function) (place : ℕ) → length function.code ≤ place → KeepBefore image function place → IsFirstInCode image function None
all_passed image function place past before at instruction rule e = let within = slice_get_within function.code at instruction e in before at instruction rule (omega (arith, past, within)) e
