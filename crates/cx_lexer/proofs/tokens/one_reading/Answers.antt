use Rattle.cx_lexer.proofs.Unique.{one_list, one_fault, not_both}
use Rattle.cx_lexer.proofs.tokens.one_reading.Goals as goal

pub returns : goal.returns
returns c = record { tokens = one_list; fault = one_fault; apart = not_both }
