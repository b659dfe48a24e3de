-- The table of the code is that of the definition.
use Rattle.cx_lexer.specs.Punct.{is_punct, puncts}
use Rattle.cx_lexer.proofs.punct.is_punct.Goals as goal

pub returns : goal.returns
unfolding is_punct puncts
returns c = c.is_in_table.ensures
