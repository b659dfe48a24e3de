use Rattle.std.proofs.Common.{◌≡◌, List, get_or, Option, Some, slice_get, slice_set, subst, sym}
use Rattle.std.proofs.lemmas.Option.{slice_get-get_or}
use Rattle.std.specs.BTreeMap.{get}
use Rattle.std.specs.Ordering.{nat_cmp}
use Rattle.cx_code.specs.declared.code.Region.{Region}
use Rattle.cx_unwind.specs.Painting.{IsPainted}
use Rattle.cx_unwind.proofs.Layers.{skipped, skipped_laid, layered, layered_laid, crossed}
use Rattle.cx_unwind.proofs.table.paint_next.Goals as goal

none : Region
none = record { start = 0; end = 0; kind = 0; of = 0; target = 0; depth = 0 }

pub returns-then-region-clause-painted : goal.returns-then-region-clause-painted
unfolding none
returns-then-region-clause-painted c = λ nested.
    let at = slice_get-get_or c.args.regions.now c.args.from none c.requires.within in
    skipped c.args.regions.now c.args.from (get nat_cmp c.args.changes.now) c.args.parents.now.items (get_or c.args.regions.now c.args.from none) at c.if-region.true c.requires.painted

pub returns-then-region-clause-laid : goal.returns-then-region-clause-laid
unfolding none
returns-then-region-clause-laid c = λ nested.
    let at = slice_get-get_or c.args.regions.now c.args.from none c.requires.within in
    skipped_laid c.args.regions.now c.args.from (get nat_cmp c.args.changes.now) (get_or c.args.regions.now c.args.from none) at c.if-region.true c.requires.laid

pub returns-then-has_change_between-clause-crossing : goal.returns-then-has_change_between-clause-crossing
unfolding none
returns-then-has_change_between-clause-crossing c = λ crossing.
    let at = slice_get-get_or c.args.regions.now c.args.from none c.requires.within in
    let change = c.if-has_change_between.ensures.change in
    crossed c.args.regions.now c.args.from (get nat_cmp c.args.changes.now) (get_or c.args.regions.now c.args.from none) change.0 at c.requires.laid change.1 change.2 change.3

pub returns-clause-painted : goal.returns-clause-painted
unfolding none
returns-clause-painted c = λ nested.
    let at = slice_get-get_or c.args.regions.now c.args.from none c.requires.within in
    subst (λ (outer : Option _). IsPainted c.args.regions.now c.args.from (get nat_cmp c.paint.new.changes) (slice_set c.args.parents.now.items c.args.from outer)) (sym c.in_ok-outer.ensures.outer)
    (layered c.args.regions.now c.args.from (get nat_cmp c.args.changes.now) (get nat_cmp c.paint.new.changes) c.args.parents.now.items (get_or c.args.regions.now c.args.from none) at c.if-region.false
    c.if-has_change_between.ensures.none c.in_ok-outer.ensures.changes c.requires.painted)

pub returns-clause-laid : goal.returns-clause-laid
unfolding none
returns-clause-laid c = λ nested.
    let at = slice_get-get_or c.args.regions.now c.args.from none c.requires.within in
    layered_laid c.args.regions.now c.args.from (get nat_cmp c.args.changes.now) (get nat_cmp c.paint.new.changes) (get_or c.args.regions.now c.args.from none) at c.if-region.false
    c.if-has_change_between.ensures.none c.in_ok-outer.ensures.changes c.requires.laid
