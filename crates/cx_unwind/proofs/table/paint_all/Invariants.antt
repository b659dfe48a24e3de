use Rattle.std.proofs.Common.{◌≤◌, length}
use Rattle.std.specs.BTreeMap.{get}
use Rattle.std.specs.Ordering.{nat_cmp}
use Rattle.cx_unwind.specs.Painting.{IsPainted, IsLaidOut}
use Rattle.cx_unwind.proofs.table.paint_all.Given as goal

abbrev pub invariant-regions : goal.invariant-regions
invariant-regions l = record {
  within : l.from ≤ length l.regions;
  painted : IsPainted l.regions l.from (get nat_cmp l.changes) l.parents.items;
  laid : IsLaidOut l.regions l.from (get nat_cmp l.changes);
}

abbrev pub decreases-regions : goal.decreases-regions
decreases-regions l = l.from
