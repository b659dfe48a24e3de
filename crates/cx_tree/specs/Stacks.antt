-- How far the parser's two stacks are in a list of marks, and what a step of the program makes of them; this project's own.
use Rattle.std.specs.Prelude.{◌≡◌, ◌≢◌, ℕ, ◌+◌, ◌<◌, List, [], ◌∷◌, drop, Option, Some, None, slice_get}
use Rattle.cx_syntax.specs.declared.mark.Mark.{Mark}
use Rattle.cx_table.specs.declared.symbol.Symbol.{Symbol}
use Rattle.cx_table.specs.declared.symbol.Symbol.TheVariants.{Make}
use Rattle.cx_table.specs.declared.table.Advance.{Advance}
use Rattle.cx_table.specs.declared.table.Advance.TheVariants.{Goes, Eats, Stays}
use Rattle.cx_tree.specs.declared.tree.Settled.{Settled}
use Rattle.cx_tree.specs.declared.tree.Settled.TheVariants.{Ate, Ended, Stuck}
use Rattle.cx_parser.specs.Machine.{config, exec, start}
use Rattle.cx_syntax.specs.Place.{IsPlace}
use Rattle.cx_syntax.specs.Spell.{Marks, numbered}
use Rattle.cx_table.specs.Steps.{bare, bare_eats, bare_goes, bare_stays, wait}
use Rattle.cx_values.specs.Needs.{needs}
use Rattle.cx_values.specs.Sorts.{Tops}
use Rattle.cx_values.specs.Values.{Values, mark_val, reduce}

-- the machine comes to these stacks with so many marks of the list taken
unfoldable pub Stands : Marks → ℕ → List Symbol → Values → Type 0
Stands ts p k vs = (n : ℕ) × (exec n (start (numbered 0 ts)) ≡ config k vs (numbered p (drop p ts)))

-- the values that the symbol takes are on top
abbrev pub Ready : Symbol → Values → Type 0
Ready (Make a) vs = Tops (needs a) vs
Ready _ vs = Unit {0}

abbrev pub TopReady : List Symbol → Values → Type 0
TopReady [] vs = Unit {0}
TopReady (x ∷ k) vs = Ready x vs

-- what the symbol makes of the values; a token that it takes is not among them yet
abbrev pub Makes : Symbol → Values → Values → Type 0
Makes (Make a) vs us = reduce a vs ≡ Some us
Makes _ vs us = us ≡ vs

abbrev pub TopMakes : List Symbol → Values → Values → Type 0
TopMakes [] vs us = us ≡ vs
TopMakes (x ∷ k) vs us = Makes x vs us

-- a step of the symbol on top, if there is one
abbrev pub Steps : Option Advance → Option Mark → List Symbol → Values → List Symbol → Values → Type 0
Steps (Some Goes) o k vs j us = (bare k o ≡ bare_goes j) × (wait j < wait k) × TopMakes k vs us
Steps (Some Eats) o k vs j us = (bare k o ≡ bare_eats j) × TopMakes k vs us
Steps (Some Stays) o k vs j us = (bare k o ≡ bare_stays) × (k ≢ [])
Steps None o k vs j us = (k ≡ []) × (us ≡ vs)

-- so it does once the mark at the place is put on the values
unfoldable pub Takes : Marks → ℕ → List Symbol → Values → Type 0
Takes ts p k vs = (m : Mark) × (slice_get ts p ≡ Some m) × Stands ts (p + 1) k (mark_val m p ∷ vs)

-- what is reached before the mark at the place is put on the values
abbrev pub Settles : Settled → Marks → ℕ → List Symbol → Values → Type 0
Settles Ate ts p k vs = Takes ts p k vs
Settles Ended ts p k vs = Stands ts p [] vs
Settles Stuck ts p k vs = IsPlace ts p
