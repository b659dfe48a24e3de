use Rattle.std.proofs.Common.{◌≡◌, length}
use Rattle.cx_rules.specs.Spans.{AreSingle}
use Rattle.cx_rules.proofs.spans.single_spans.Given as goal

abbrev pub invariant-loop-place : goal.invariant-loop-place
invariant-loop-place l = AreSingle l.function l.arrivals l.ends.items l.least.items × (length l.ends.items ≡ l.place)
