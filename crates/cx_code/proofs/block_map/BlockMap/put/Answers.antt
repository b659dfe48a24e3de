use Rattle.std.proofs.Common.{◌≡◌, ◌-◌, ◌≤◌, length, Option, Some, None, slice_get, refl, ap, ◌∙◌, arith}
use Rattle.std.specs.Vec.{with_items}
use Rattle.std.proofs.lemmas.Bool.{OnFalse_at, OnFalse_from}
use Rattle.std.proofs.lemmas.Option.{slice_get_read}
use Rattle.std.proofs.lemmas.List.{length-set, with_items_is}
use Rattle.cx_code.specs.Blocks.{store_of}
use Rattle.cx_code.specs.Store.{Leaves, written_leaf, put_leaf}
use Rattle.cx_code.proofs.Written.{leaves_here, stored_there, stored_same}
use Rattle.cx_code.proofs.block_map.BlockMap.put.Goals as goal

pub returns-in-Some-clause-stored : goal.returns-in-Some-clause-stored
returns-in-Some-clause-stored c =
    let objects = c.args.self.now.objects.items in
    let within : c.args.number ≤ length objects = omega (arith, c.if-number-len.false, c.len.ensures, c.args.self.now.objects.ok.0) in
    let found : slice_get objects (c.args.number - 1) ≡ Some (Some c.in-Some.leaves) = slice_get_read objects (length objects) (c.args.number - 1) (Some c.in-Some.leaves) refl (omega (arith, within, c.if-number-eq0.false)) (rw c.in-Some.is at c.index_mut.ensures.value) in
    let items = with_items_is c.in-Some.leaves c.write_leaf.new.leaves (c.write_leaf.auto.leaves ∙ c.deref_mut.ensures.len) in
    stored_there (store_of c.args.self.now) _ objects c.args.number c.args.leaf c.args.value c.in-Some.leaves (with_items c.in-Some.leaves c.write_leaf.new.leaves) c.write_leaf.result refl c.if-number-eq0.false within found
    (rw items (rw c.deref_mut.ensures.value at c.write_leaf.ensures.written)) refl (rw length-set refl)

pub returns-in-Some-clause-dead : goal.returns-in-Some-clause-dead
returns-in-Some-clause-dead c =
    let objects = c.args.self.now.objects.items in
    let within : c.args.number ≤ length objects = omega (arith, c.if-number-len.false, c.len.ensures, c.args.self.now.objects.ok.0) in
    let found : slice_get objects (c.args.number - 1) ≡ Some (Some c.in-Some.leaves) = slice_get_read objects (length objects) (c.args.number - 1) (Some c.in-Some.leaves) refl (omega (arith, within, c.if-number-eq0.false)) (rw c.in-Some.is at c.index_mut.ensures.value) in
    let block = with_items c.in-Some.leaves c.write_leaf.new.leaves in
    OnFalse_from c.write_leaf.result _ (λ off.
    let same = with_items_is c.in-Some.leaves c.write_leaf.new.leaves (c.write_leaf.auto.leaves ∙ c.deref_mut.ensures.len) ∙ OnFalse_at off c.write_leaf.ensures.outside ∙ c.deref_mut.ensures.value in
    rw (length-set, stored_same objects c.args.number c.in-Some.leaves block c.if-number-eq0.false within found same) refl)

pub returns-in-None-clause-stored : goal.returns-in-None-clause-stored
returns-in-None-clause-stored c =
    let objects = c.args.self.now.objects.items in
    let within : c.args.number ≤ length objects = omega (arith, c.if-number-len.false, c.len.ensures, c.args.self.now.objects.ok.0) in
    let found : slice_get objects (c.args.number - 1) ≡ Some None = slice_get_read objects (length objects) (c.args.number - 1) None refl (omega (arith, within, c.if-number-eq0.false)) (rw c.in-None.is at c.index_mut.ensures.value) in
    ap (λ (l : Option Leaves). written_leaf (store_of c.args.self.now) c.args.number (put_leaf l c.args.leaf c.args.value)) (leaves_here objects c.args.number None c.if-number-eq0.false found)
