use Rattle.std.proofs.Common.{◌≡◌, ◌≤◌, drop}
use Rattle.cx_front.specs.Literal.{value_behind, decimal_value}
use Rattle.cx_front.proofs.literal.small_value.Given as goal

abbrev pub invariant-loop-byte : goal.invariant-loop-byte
invariant-loop-byte l = record { value : value_behind l.value (drop l.byte-index l.bytes) ≡ decimal_value l.bytes; int : l.value ≤ 2147483647 }
