use Rattle.std.proofs.Common.{◌≡◌, drop}
use Rattle.cx_lexer.proofs.Values.{grown}
use Rattle.cx_lexer.proofs.number.value_of.Given as goal

abbrev pub invariant-loop-byte : goal.invariant-loop-byte
invariant-loop-byte l = grown l.base l.value (drop l.byte-index l.number) ≡ grown l.base 0 l.number
