use Rattle.std.proofs.Common.{◌≡◌, drop}
use Rattle.cx_lexer.specs.declared.seen.Seen.TheVariants.{Other}
use Rattle.cx_lexer.specs.Scan.{hides_from}
use Rattle.cx_lexer.proofs.comment.hides_end.Given as goal

abbrev pub invariant-loop-byte : goal.invariant-loop-byte
invariant-loop-byte l = hides_from l.seen (drop l.byte-index l.body) ≡ hides_from Other l.body
