-- The parser as a machine: a stack of what is still to come, a stack of the trees so far, and the tokens that are left; this project's own.
use Rattle.std.specs.Prelude.{ℕ, zero, suc, cond, List, [], ◌∷◌, ◌++◌, Option, Some, None}
use Rattle.cx_syntax.specs.declared.mark.Mark.{Mark}
use Rattle.cx_table.specs.declared.symbol.Act.TheVariants.{DoNoItems}
use Rattle.cx_table.specs.declared.symbol.Part.TheVariants.{ItemsPart}
use Rattle.cx_table.specs.declared.symbol.Symbol.{Symbol}
use Rattle.cx_table.specs.declared.symbol.Symbol.TheVariants.{Expect, Make, Read}
use Rattle.cx_values.specs.Values.{Value, Values, mark_val, reduce}
use Rattle.cx_syntax.specs.Spell.{Spot, Spots, spot}
use Rattle.cx_table.specs.Moves.{Move, eat, move, push}
use Rattle.cx_table.specs.Sorts.{fits}

-- the stacks after a step, with the next token left or taken
pub data Step : Type 0 where
  stays : Step
  goes eats : List Symbol → Values → Step

abbrev pub value_at : Spot → Value
value_at (spot m i) = mark_val m i

abbrev pub mark_at : Spot → Mark
mark_at (spot m i) = m

abbrev pub seen : Option Spot → Option Mark
seen None = None
seen (Some x) = Some (mark_at x)

abbrev pub moved : Move → List Symbol → Values → Option Spot → Step
moved (push b) k vs o = goes (b ++ k) vs
moved (eat b) k vs (Some x) = eats (b ++ k) (value_at x ∷ vs)
moved _ k vs o = stays

abbrev pub reduced : Option Values → List Symbol → Step
reduced (Some vs) k = goes k vs
reduced None k = stays

abbrev pub step : List Symbol → Values → Option Spot → Step
step [] vs o = stays
step (Expect t ∷ k) vs None = stays
step (Expect t ∷ k) vs (Some x) = cond (fits t (mark_at x)) (eats k (value_at x ∷ vs)) stays
step (Make a ∷ k) vs o = reduced (reduce a vs) k
step (Read x ∷ k) vs o = moved (move x (seen o)) k vs o

pub data Config : Type 0 where
  config : List Symbol → Values → Spots → Config

abbrev pub ahead : Spots → Option Spot
ahead [] = None
ahead (x ∷ w) = Some x

abbrev pub front : Spots → Option Mark
front w = seen (ahead w)

abbrev pub rest : Spots → Spots
rest [] = []
rest (x ∷ w) = w

abbrev pub left_as : Step → List Symbol → Values → Spots → Config
left_as stays k vs w = config k vs w
left_as (goes k vs) _ _ w = config k vs w
left_as (eats k vs) _ _ w = config k vs (rest w)

abbrev pub next : Config → Config
next (config k vs w) = left_as (step k vs (ahead w)) k vs w

abbrev pub exec : ℕ → Config → Config
exec zero c = c
exec (suc n) c = exec n (next c)

-- a unit to the end
abbrev pub first_stack : List Symbol
first_stack = Make DoNoItems ∷ Read ItemsPart ∷ []

abbrev pub start : Spots → Config
start w = config first_stack [] w
