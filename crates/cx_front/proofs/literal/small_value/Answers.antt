use Rattle.std.proofs.Common.{refl}
use Rattle.cx_front.proofs.Literals.{too_large}
use Rattle.cx_front.proofs.literal.small_value.Goals as goal

pub returns-then-value-gt2147483647 : goal.returns-then-value-gt2147483647
returns-then-value-gt2147483647 c =
    rw (too_large c.loop-byte.value c.loop-byte.byte-index c.with_digit-value.result c.args.bytes.now c.loop-byte-test.true c.loop-byte.invariant.value c.with_digit-value.ensures c.if-value-gt2147483647.true) refl
