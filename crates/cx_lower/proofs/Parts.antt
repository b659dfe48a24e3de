-- Code that stands at a place of a function, as a part of the function's code.
use Rattle.std.proofs.Common.{◌≡◌, ℕ, suc, ◌+◌, List, [], ◌∷◌, ◌++◌, length, ap, subst, ◌∙◌, arith}
use Rattle.cx_code.specs.declared.code.Instruction.{Instruction}
use Rattle.cx_code.specs.declared.image.Image.{Image}
use Rattle.cx_code.specs.Operation.{operation_of}
use Rattle.cx_code.specs.Reached as code
use Rattle.cx_emit.specs.Configuration.{operation_at}

module _ (image : Image) (function : ℕ) where
  -- these instructions stand there, from the place on
  abbrev pub HasCode : ℕ → List Instruction → Type 0
  HasCode from [] = Unit {0}
  HasCode from (i ∷ is) = (operation_at image function from ≡ operation_of i) × HasCode (from + 1) is

  pub front : (from : ℕ) (a b : List Instruction) → HasCode from (a ++ b) → HasCode from a
  front from [] b h = tt
  front from (i ∷ a) b h = (h.0, front (from + 1) a b h.1)

  pub back : (from : ℕ) (a b : List Instruction) → HasCode from (a ++ b) → HasCode (from + length a) b
  back from [] b h = let e : from ≡ from + 0 = omega arith in subst (λ (n : ℕ). HasCode n b) e h
  back from (i ∷ a) b h = let e : from + 1 + length a ≡ from + suc (length a) = omega arith in subst (λ (n : ℕ). HasCode n b) e (back (from + 1) a b h.1)

  -- what does at each place as a list of instructions does
  pub from_places : (from : ℕ) (is : List Instruction) → ((j : ℕ) → operation_at image function (from + j) ≡ code.operation_at is j) → HasCode from is
  from_places from [] at = tt
  from_places from (i ∷ is) at =
      let here : from ≡ from + 0 = omega arith in
      let there : (j : ℕ) → from + 1 + j ≡ from + suc j = λ j. omega arith in
      (ap (operation_at image function) here ∙ at 0, from_places (from + 1) is (λ j. ap (operation_at image function) (there j) ∙ at (suc j)))
