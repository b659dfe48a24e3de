use Rattle.cx_rules.specs.Parts.{FunctionsKeep}
use Rattle.cx_rules.proofs.whole.first_broken.Given as goal

abbrev pub invariant-loop-index : goal.invariant-loop-index
invariant-loop-index l = FunctionsKeep l.image l.index
