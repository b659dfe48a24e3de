-- An act that makes something of the values has those that it takes on top.
use Rattle.std.proofs.Common.{◌≡◌, Some}
use Rattle.cx_table.specs.declared.symbol.Act.{Act}
use Rattle.cx_table.specs.declared.symbol.Act.TheVariants.{DoLeaf}
use Rattle.cx_tree.proofs.Taken.{taken_tops}
use Rattle.cx_values.specs.Needs.{needs}
use Rattle.cx_values.specs.Sorts.{Tops}
use Rattle.cx_values.specs.Values.{Values, reduce}

-- the second clause stands for one for each of the other acts
pub reduces : (a : Act) (vs ws : Values) → reduce a vs ≡ Some ws → Tops (needs a) vs
reduces DoLeaf = taken_tops (needs DoLeaf) _
reduces a = taken_tops (needs a) _
