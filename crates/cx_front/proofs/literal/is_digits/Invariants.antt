use Rattle.std.proofs.Common.{◌≡◌, drop, true}
use Rattle.cx_front.specs.Literal.{is_digits}
use Rattle.cx_front.proofs.literal.is_digits.Given as goal

abbrev pub invariant-loop-byte : goal.invariant-loop-byte
invariant-loop-byte l = is_digits l.opened (drop l.byte-index l.bytes) ≡ is_digits true l.bytes
