-- The table of the code is that of the definition.
use Rattle.cx_lexer.specs.Name.{is_word, words}
use Rattle.cx_lexer.proofs.name.is_word.Goals as goal

pub returns : goal.returns
unfolding is_word words
returns c = c.is_in_table.ensures
