use Rattle.std.proofs.Common.{refl, arith, ◌∙◌, sym}
use Rattle.std.specs.BTreeMap.{get}
use Rattle.std.specs.Ordering.{nat_cmp}
use Rattle.cx_unwind.proofs.Layers.{nothing, nothing_laid}
use Rattle.cx_unwind.proofs.table.paint_all.Goals as goal

pub regions-init : goal.regions-init
regions-init c =
    let count = c.in_ok-parents.parents.ok.0 in
    record {
      within = omega arith;
      painted = nothing c.args.regions.now (get nat_cmp c.new-changes.result) c.in_ok-parents.parents.items (sym count ∙ c.in_ok-parents.ensures.len) (λ q. rw c.new-changes.ensures.empty refl);
      laid = nothing_laid c.args.regions.now (get nat_cmp c.new-changes.result) (λ q. rw c.new-changes.ensures.empty refl);
    }
