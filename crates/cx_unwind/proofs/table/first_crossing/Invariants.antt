use Rattle.std.proofs.Common.{ℕ, ◌-◌, ◌<◌, ◌≤◌, length, take}
use Rattle.cx_code.specs.Rules.{IsNested}
use Rattle.cx_unwind.specs.Crossing.{IsCrossing}
use Rattle.cx_unwind.proofs.table.first_crossing.Given as goal

abbrev pub invariant-halves : goal.invariant-halves
invariant-halves l = record {
  order : l.nested < l.crossing;
  within : l.crossing ≤ length l.regions;
  nested : IsNested (take l.nested l.regions);
  crossing : (later : ℕ) × IsCrossing (take l.crossing l.regions) later;
}

abbrev pub decreases-halves : goal.decreases-halves
decreases-halves l = l.crossing - l.nested
