use Rattle.std.proofs.Common.{length, ◌-◌, ◌≤◌}
use Rattle.cx_includes.specs.Parts.{ReadsTo}
use Rattle.cx_includes.specs.Stretch.{IsReached}
use Rattle.cx_includes.proofs.reading.read.Given as goal

abbrev pub invariant-loop-at : goal.invariant-loop-at
invariant-loop-at l = record { within : l.at ≤ length l.text; reached : IsReached l.text l.at l.reached; reads : ReadsTo l.text l.at l.parts }

abbrev pub decreases-loop-at : goal.decreases-loop-at
decreases-loop-at l = length l.text - l.at
