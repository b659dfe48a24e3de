use Rattle.std.proofs.Common.{◌-◌, ◌∙◌, sym, length, arith}
use Rattle.cx_lexer.specs.Bytes.{is_letter_of}
use Rattle.cx_lexer.proofs.Values.{ends_at}
use Rattle.cx_lexer.proofs.number.ends_in_e.Goals as goal

pub returns-in-len1-up : goal.returns-in-len1-up
returns-in-len1-up c = c.is_letter_of.ensures ∙ sym (ends_at (is_letter_of 101) c.args.number.now (length c.args.number.now - 1) (omega arith))
