-- The laws of the grammar: from what the machine makes of a list.
use Rattle.std.proofs.Common.{◌≡◌, ℕ, ◌+◌, ◌<◌, [], ◌∷◌, refl, subst, arith}
use Rattle.cx_parser.proofs.Ends.{ended}
use Rattle.cx_parser.proofs.Items.{accepts}
use Rattle.cx_parser.proofs.Runs.{Takes}
use Rattle.cx_parser.specs.Laws.{AtMostOnePlace, AtMostOneTree, PrefixesBegin, TreeOrPlace}
use Rattle.cx_parser.specs.Machine.{config, start}
use Rattle.cx_values.specs.Values.{unit_val}
use Rattle.cx_syntax.specs.Place.{IsPlace}
use Rattle.cx_syntax.specs.Spell.{Spots, numbered}

pub at_most_one_tree : AtMostOneTree
at_most_one_tree ts u v a b p q =
    let Q : Spots → Type 0 = λ x. Takes (start x) (config [] (unit_val u ∷ []) []) in
    let t : Takes (start (numbered 0 ts)) (config [] (unit_val u ∷ []) []) = subst Q p (accepts u a) in
    let e = ended (numbered 0 ts) t.0 [] (unit_val u ∷ []) [] t.1 refl v b q in cc

pub prefixes_begin : PrefixesBegin
prefixes_begin u w g = (w, g)

pub tree_or_place : TreeOrPlace
tree_or_place ts p g h = h.0 g

pub at_most_one_place : AtMostOnePlace
at_most_one_place ts p q g h =
    let a : p < q → ⊥ = λ l. g.3 q l h.1 h.2 in
    let b : q < p → ⊥ = λ l. h.3 p l g.1 g.2 in
    omega (arith, a, b)
