use Rattle.std.proofs.Common.{◌≡◌, ℕ, List, ◌+◌, ◌<◌, ◌≤◌, length, drop, Some, slice_get, refl, sym, ap, subst, ◌∙◌, arith, get_or}
use Rattle.std.proofs.lemmas.Option.{get_or_from_slice_get}
use Rattle.std.specs.BTreeMap.{get}
use Rattle.std.specs.Ordering.{nat_cmp}
use Rattle.cx_code.specs.declared.code.Region.{Region}
use Rattle.cx_code.specs.Unwind.{first_covering}
use Rattle.cx_unwind.specs.Painting.{IsPainted}
use Rattle.cx_unwind.proofs.Changes.{Changes}
use Rattle.cx_unwind.proofs.Covering.{some_from, none_from, found_from, only_none, goes_outwards}
use Rattle.cx_unwind.proofs.Layers.{parent_of}
use Rattle.cx_unwind.proofs.table.climb.Goals as goal

pub returns-then-index-after : goal.returns-then-index-after
returns-then-index-after c =
    let inv = c.outwards.invariant in
    sym (some_from c.args.table.now inv.0 (c.args.after + 1) c.args.place c.in-Some.index inv.1 (sym inv.2 ∙ c.in-Some.is) (omega arith))

pub returns : goal.returns
returns c =
    let inv = c.outwards.invariant in
    sym (none_from c.args.table.now inv.0 (c.args.after + 1) c.args.place inv.1 (sym inv.2 ∙ only_none c.outwards.found c.in_default.not-Some))

pub index-found-requires : goal.index-found-requires
index-found-requires c =
    let inv = c.outwards.invariant in
    let f = found_from c.args.table.now inv.0 c.args.place c.in-Some.index (sym inv.2 ∙ c.in-Some.is) in
    let within : c.in-Some.index < length c.args.table.now = f.within in
    let count = c.table.inside.parents.ok.0 in
    omega (arith, ap length c.table.view_is, c.table.invariant.size, count)

pub outwards-preserved : goal.outwards-preserved
outwards-preserved c =
    let inv = c.outwards.invariant in
    let e = sym inv.2 ∙ c.in-Some.is in
    (c.in-Some.index + 1, omega arith, parent_of c.args.table.now c.table.inside.regions.items (get nat_cmp c.table.inside.changes) c.table.inside.parents.items inv.0 c.args.place c.in-Some.index c.index-found.result.now c.table.view_is c.table.invariant e c.index-found.ensures)

pub outwards-smaller : goal.outwards-smaller
outwards-smaller c =
    let inv = c.outwards.invariant in
    let e = sym inv.2 ∙ c.in-Some.is in
    let f = found_from c.args.table.now inv.0 c.args.place c.in-Some.index e in
    goes_outwards c.args.table.now c.in-Some.index c.args.place c.outwards.found c.index-found.result.now c.in-Some.is f.within
    (parent_of c.args.table.now c.table.inside.regions.items (get nat_cmp c.table.inside.changes) c.table.inside.parents.items inv.0 c.args.place c.in-Some.index c.index-found.result.now c.table.view_is c.table.invariant e c.index-found.ensures)
