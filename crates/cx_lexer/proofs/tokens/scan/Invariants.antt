use Rattle.std.proofs.Common.{◌≤◌, ◌-◌, length}
use Rattle.cx_lexer.specs.Spelling.{SpellsTo}
use Rattle.cx_lexer.proofs.tokens.scan.Given as goal

abbrev pub invariant-loop-at : goal.invariant-loop-at
invariant-loop-at l = record { within : l.at ≤ length l.text; spelled : SpellsTo l.text l.at l.tokens }

abbrev pub decreases-loop-at : goal.decreases-loop-at
decreases-loop-at l = length l.text - l.at
