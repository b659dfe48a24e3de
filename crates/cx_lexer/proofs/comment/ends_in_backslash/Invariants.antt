use Rattle.std.proofs.Common.{◌≡◌, take}
use Rattle.cx_lexer.specs.Comment.{ends_in_backslash}
use Rattle.cx_lexer.proofs.comment.ends_in_backslash.Given as goal

abbrev pub invariant-loop-byte : goal.invariant-loop-byte
invariant-loop-byte l = l.ends ≡ ends_in_backslash (take l.byte-index l.line)
