use Rattle.std.proofs.Common.{ℕ, ◌-◌, ◌<◌, ◌≤◌}
use Rattle.cx_code.specs.declared.image.Image.{Image}
use Rattle.cx_code.specs.declared.image.Function.{Function}
use Rattle.cx_rules.specs.Spans.{AreSpans, EnclosesFirst, IsLeast}
use Rattle.cx_rules.proofs.spans.Spans.least_over.Given as goal

abbrev pub invariant-spans : goal.invariant-spans
invariant-spans l = (image : Image) (function : Function) (count : ℕ) → AreSpans image function count l.self.ends.items l.self.least.items → EnclosesFirst function.regions count l.region
    → l.region.start < l.region.end → (l.region.start ≤ l.place) × (l.place ≤ l.region.end) × IsLeast image function l.region.start l.place l.least

abbrev pub decreases-spans : goal.decreases-spans
decreases-spans l = l.region.end - l.place
