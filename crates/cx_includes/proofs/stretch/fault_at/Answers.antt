use Rattle.std.proofs.Common.{arith, ◌∙◌}
use Rattle.cx_includes.proofs.Stretches.{fault_within, fault_is}
use Rattle.cx_includes.proofs.stretch.fault_at.Goals as goal

pub passed-requires-clause-ordered : goal.passed-requires-clause-ordered
passed-requires-clause-ordered c = let within = fault_within c.args.text.now c.args.at c.args.fault c.requires.inside c.requires.begins in omega arith

pub passed-requires-clause-within : goal.passed-requires-clause-within
passed-requires-clause-within c = let within = fault_within c.args.text.now c.args.at c.args.fault c.requires.inside c.requires.begins in omega arith

pub returns : goal.returns
returns c = fault_is c.args.text.now c.fault_place.result c.args.fault c.spot-spot.result c.fault_place.ensures (c.spot-spot.ensures.line ∙ c.passed.ensures.line) (c.spot-spot.ensures.column ∙ c.passed.ensures.column)
