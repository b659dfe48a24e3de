-- What a line of a plan is on, as the words of the line that tell it, by which a second line on the same is found. This project's own.
use Rattle.std.specs.Prelude.{◌≡◌, ℕ, Bool, List, ◌∷◌, ◌++◌, codes}
use Rattle.std.specs.Borrow.{Bor}
use Rattle.std.specs.List.{All, list_any}
use Rattle.std.specs.Str.{bytes_eq}
use Rattle.cx_plan.specs.declared.plan.Directive.{Directive}
use Rattle.cx_plan.specs.declared.plan.Directive.TheVariants as says
use Rattle.cx_plan.specs.declared.plan.PlanLine.{PlanLine}
use Rattle.cx_plan.specs.Spelled.{IsSayable}

-- unit NAME, or at NAME ASSERTION
abbrev pub subject : Directive → List ℕ
subject (says.Unit name choice) = codes "unit" ++ 32 ∷ name
subject (says.At name assertion semantic) = codes "at" ++ 32 ∷ (name ++ 32 ∷ assertion)

-- one of the keys is this text
abbrev pub has_text : List (Bor (List ℕ)) → List ℕ → Bool
has_text keys text = list_any (λ key. bytes_eq text key.now) keys

-- the keys are what the lines are on, and each line is one that can be said
pub record AreSubjects (keys : List (Bor (List ℕ))) (lines : List PlanLine) : Type 0 where
  pub same : (text : List ℕ) → has_text keys text ≡ list_any (λ (line : PlanLine). bytes_eq text (subject line.says)) lines
  pub sayable : All (λ (line : PlanLine). IsSayable line.says) lines
