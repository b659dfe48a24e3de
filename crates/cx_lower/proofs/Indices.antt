-- The place of an assertion in the image's table.
use Rattle.std.proofs.Common.{◌≡◌, ℕ, zero, suc, ◌<◌, List, [], ◌∷◌, length, Bool, true, false, cond, Some, ap, sym, subst, arith}
use Rattle.std.specs.Prelude.{slice_get}
use Rattle.std.specs.Str.{bytes_eq}
use Rattle.std.proofs.lemmas.Option.{same_Some}
use Rattle.std.proofs.lemmas.Slice.Eq.{bytes_eq-Decides}
use Rattle.cx_core.specs.declared.unit.Assertion.{Assertion}
use Rattle.cx_core.specs.Tree as tree
use Rattle.cx_typed.specs.Typed.{IsListed}
use Rattle.cx_lower.specs.Tables.{index_of}

-- a name that stands in the list is found there, no later than it stands
index_below : (assertions : List Assertion) (i : ℕ) (e : Assertion) → slice_get assertions i ≡ Some e → index_of assertions e.name < length assertions
index_below [] i e at = absurd cc
index_below (a ∷ assertions) zero e at =
    let same : a.name ≡ e.name = ap (λ (x : Assertion). x.name) (same_Some a e at) in
    let found : bytes_eq a.name e.name ≡ true = (bytes_eq-Decides a.name e.name).1 same in
    subst (λ (v : Bool). cond v 0 (suc (index_of assertions e.name)) < suc (length assertions)) (sym found) (omega arith)
index_below (a ∷ assertions) (suc i) e at =
    elim (bytes_eq a.name e.name) as (λ v. cond v 0 (suc (index_of assertions e.name)) < suc (length assertions))
    [ true ↦ omega arith | false ↦ omega (arith, index_below assertions i e at) ]

pub listed_below : (assertions : List Assertion) (a : tree.Assertion) → IsListed assertions a → index_of assertions a.name < length assertions
listed_below assertions a listed = subst (λ (x : tree.Assertion). index_of assertions x.name < length assertions) (sym listed.3) (index_below assertions listed.0 listed.1 listed.2)
