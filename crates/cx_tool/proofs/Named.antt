-- What the words ask for.
use Rattle.std.proofs.Common.{◌≡◌, ℕ, List, Option, Some, None, sym, ap, ◌∙◌}
use Rattle.cx_tool.specs.Words.{Request, request_of, NamesUnit}

unit_asked : Request → Option Request → List ℕ
unit_asked other None = other.unit
unit_asked other (Some asked) = asked.unit

-- the words name one unit
pub the_unit : (words : List (List ℕ)) (asked : Request) (other : List ℕ) → Some asked ≡ request_of words → NamesUnit words other → other ≡ asked.unit
unfolding unit_asked
the_unit words asked other e names =
    let both : Some names.0 ≡ Some asked = sym names.1 ∙ sym e in
    sym names.3 ∙ ap (unit_asked asked) both
