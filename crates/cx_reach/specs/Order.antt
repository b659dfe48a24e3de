-- This defines in which order the items of an image are judged, and which broken rule is the first; it is this project's own.
use Rattle.std.specs.Prelude.{◌≡◌, ◌⊎◌, ℕ, ◌<◌, List, [], ◌∷◌}
use Rattle.cx_code.specs.declared.image.Image.{Image}
use Rattle.cx_reach.specs.declared.item.Item.{Item}
use Rattle.cx_reach.specs.declared.item.Item.TheVariants as items
use Rattle.cx_reach.specs.declared.rule.Rule.{Rule}
use Rattle.cx_reach.specs.declared.rule.Rule.TheVariants as rules
use Rattle.cx_reach.specs.Broken.{IsBroken}

abbrev pub number_of : Rule → ℕ
number_of rules.V1 = 1
number_of rules.V2 = 2
number_of rules.V3 = 3
number_of rules.V4 = 4
number_of rules.V5 = 5
number_of rules.V6 = 6
number_of rules.V7 = 7

-- by function, its instructions, their count and its regions; then the droppers, `main` and the handler; of one item by the rule's number
abbrev pub rank_of : Item → Rule → List ℕ
rank_of (items.Instruction function place) rule = 0 ∷ function ∷ 0 ∷ place ∷ number_of rule ∷ []
rank_of (items.Count function) rule = 0 ∷ function ∷ 1 ∷ 0 ∷ number_of rule ∷ []
rank_of (items.Region function index) rule = 0 ∷ function ∷ 2 ∷ index ∷ number_of rule ∷ []
rank_of (items.Dropper type) rule = 1 ∷ 0 ∷ 0 ∷ type ∷ number_of rule ∷ []
rank_of items.Main rule = 1 ∷ 0 ∷ 1 ∷ 0 ∷ number_of rule ∷ []
rank_of items.Handler rule = 1 ∷ 0 ∷ 2 ∷ 0 ∷ number_of rule ∷ []

-- the first number that differs is less
abbrev pub IsBefore : List ℕ → List ℕ → Type 0
IsBefore (x ∷ xs) (y ∷ ys) = (x < y) ⊎ ((x ≡ y) × IsBefore xs ys)
IsBefore xs ys = ⊥

-- the rule is broken at the item, and nothing before it
pub record IsFirstBroken (image : Image) (item : Item) (rule : Rule) : Type 0 where
  pub broken : IsBroken image item rule
  pub before : (other : Item) (its : Rule) → IsBroken image other its → ¬ IsBefore (rank_of other its) (rank_of item rule)

abbrev pub OneIsFirst : Type 0
OneIsFirst = (image : Image) (one other : Item) (rule its : Rule) → IsFirstBroken image one rule → IsFirstBroken image other its → (one ≡ other) × (rule ≡ its)
