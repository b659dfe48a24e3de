use Rattle.std.proofs.Common.{◌≡◌, ◌≤◌, ◌+◌, ◌*◌, ◌^◌, ◌∙◌, true, get_or, sym, ap, arith, drop}
use Rattle.std.proofs.lemmas.Bool.{lt-ltb, cond-true}
use Rattle.cx_lexer.specs.Number.{digit_value, is_digit}
use Rattle.std.proofs.lemmas.List.{drop_all}
use Rattle.cx_lexer.proofs.Values.{grown, value_is, grown_grows, grown_at}
use Rattle.cx_lexer.proofs.number.value_of.Goals as goal

-- all digits are taken
pub returns : goal.returns
returns c =
    let taken = ap (grown c.args.base c.loop-byte.value) (drop_all c.loop-byte.byte-index c.args.number.now (omega arith)) in
    sym taken ∙ (c.loop-byte.invariant ∙ sym (value_is c.args.base c.args.number.now c.requires.base))

-- a value that 64 bits don't hold only grows
pub returns-in_default : goal.returns-in_default
returns-in_default c =
    let base = c.args.base in
    let number = c.args.number.now in
    let i = c.loop-byte.byte-index in
    let digit = digit_value (get_or number i 0) in
    let same : c.digit_value-digit.result ≡ digit = c.digit_value-digit.ensures in
    let counts : is_digit base (get_or number i 0) ≡ true = lt-ltb _ _ (omega arith) in
    let next = grown_at base c.loop-byte.value number i (omega arith) ∙ cond-true _ _ _ counts in
    let rest = drop (i + 1) number in
    let over : 2 ^ 64 ≤ c.loop-byte.value * base + c.digit_value-digit.result = c.in_default.ensures in
    let over_digit = rw same at over in
    let grows = grown_grows base (c.loop-byte.value * base + digit) rest c.requires.some in
    let whole = value_is base number c.requires.base in
    omega (arith, c.loop-byte.invariant)
