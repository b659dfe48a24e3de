use Rattle.std.proofs.Common.{◌≡◌, ◌≤◌, ◌+◌, ◌++◌, drop, length}
use Rattle.cx_lower.specs.Tables.{entries_of}
use Rattle.cx_lower.proofs.tables.assertions_of.Given as goal

abbrev pub invariant-loop-assertion : goal.invariant-loop-assertion
invariant-loop-assertion l = record {
  count : l.ordinal ≡ l.assertion-index;
  last : l.other ≤ length l.assertions + l.assertion-index;
  table : l.entries ++ entries_of l.unit_name (l.other + 1) (l.ordinal + 1) (drop l.assertion-index l.assertions) ≡ entries_of l.unit_name (length l.assertions + 1) 1 l.assertions;
}
