use Rattle.std.proofs.Common.{◌<◌, length, false, refl, sym, ◌∙◌, arith}
use Rattle.std.proofs.lemmas.Option.{get_or_from_slice_get}
use Rattle.cx_reach.specs.declared.arriving.Depths.TheVariants as depths
use Rattle.cx_rules.proofs.Passing.{stands}
use Rattle.cx_rules.proofs.Spanning.{operation_read, spare_moved}
use Rattle.cx_rules.proofs.spans.spare_at.Goals as goal

pub spare-requires : goal.spare-requires
spare-requires c = λ operation depth o e.
    let inside : c.args.place < length c.args.arrivals.now = omega (arith, c.requires.place, c.requires.each) in
    c.requires.enough c.args.place _ (stands _ _ _ _ refl inside) operation depth (operation_read _ _ _ _ _ c.items.ensures c.requires.place c.operation-operation.ensures ∙ o) e

pub returns : goal.returns
returns c = λ arrival at.
    spare_moved c.args.function.now _ _ _ arrival c.spare.result (operation_read _ _ _ _ _ c.items.ensures c.requires.place c.operation-operation.ensures)
    (sym (get_or_from_slice_get c.args.arrivals.now c.args.place arrival (record { depths = depths.None; plain = false; cleanup = false }) at)) c.spare.ensures
