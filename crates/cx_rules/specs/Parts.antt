-- This defines the first broken rule among the items of one function, and among those of the tables; it is this project's own.
use Rattle.std.specs.Prelude.{◌≡◌, ℕ, ◌<◌, List, Option, Some, None, slice_get}
use Rattle.cx_code.specs.declared.image.Image.{Image}
use Rattle.cx_code.specs.declared.image.Function.{Function}
use Rattle.cx_reach.specs.declared.arriving.Arrival.{Arrival}
use Rattle.cx_reach.specs.Comes.{AreArrivals}
use Rattle.cx_reach.specs.declared.item.Item.{Item}
use Rattle.cx_reach.specs.declared.item.Item.TheVariants as items
use Rattle.cx_reach.specs.declared.rule.Rule.{Rule}
use Rattle.cx_reach.specs.Broken.{IsBroken, NothingIsBroken, AreKnown}
use Rattle.cx_reach.specs.Order.{rank_of, IsBefore, IsFirstBroken}

-- the item is one of the function of an index
abbrev pub IsOf : ℕ → Item → Type 0
IsOf index (items.Instruction function place) = function ≡ index
IsOf index (items.Count function) = function ≡ index
IsOf index (items.Region function region) = function ≡ index
IsOf index item = ⊥

-- the item is one of the tables
abbrev pub IsOfTables : Item → Type 0
IsOfTables (items.Dropper type) = Unit {0}
IsOfTables items.Main = Unit {0}
IsOfTables items.Handler = Unit {0}
IsOfTables item = ⊥

-- the first broken rule among some items, if one is broken
abbrev pub IsFirstAmong : Image → (Item → Type 0) → Option (Item × Rule) → Type 0
IsFirstAmong image among None = (item : Item) (rule : Rule) → among item → ¬ IsBroken image item rule
IsFirstAmong image among (Some found) =
    among found.0 × IsBroken image found.0 found.1
    × ((other : Item) (its : Rule) → among other → IsBroken image other its → ¬ IsBefore (rank_of other its) (rank_of found.0 found.1))

-- it is known how the places of a function are reached
abbrev pub IsKnown : Image → Function → Type 0
IsKnown image function = (arrivals : List Arrival) × AreArrivals image function arrivals

-- nothing is broken in the first functions, and it is known how their places are reached
pub record FunctionsKeep (image : Image) (count : ℕ) : Type 0 where
  pub keep : (index : ℕ) → index < count → IsFirstAmong image (IsOf index) None
  pub known : (index : ℕ) (function : Function) → index < count → slice_get image.functions index ≡ Some function → IsKnown image function

-- the first broken rule of an image, if one is broken
abbrev pub IsFirstIn : Image → Option (Item × Rule) → Type 0
IsFirstIn image None = NothingIsBroken image × AreKnown image
IsFirstIn image (Some found) = IsFirstBroken image found.0 found.1
