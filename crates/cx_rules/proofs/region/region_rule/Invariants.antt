use Rattle.std.proofs.Common.{◌≡◌, ℕ, ◌≤◌, Some}
use Rattle.cx_rules.specs.First.{RegionsKeepBefore}
use Rattle.cx_rules.specs.Spans.{AreSpans}
use Rattle.cx_rules.proofs.region.region_rule.Given as goal

abbrev pub invariant-loop-index : goal.invariant-loop-index
invariant-loop-index l = record {
  before : RegionsKeepBefore l.image l.function l.index;
  spans : AreSpans l.image l.function l.index l.spans.ends.items l.spans.least.items;
  ahead : (at : ℕ) → l.crossing ≡ Some at → l.index ≤ at;
}
