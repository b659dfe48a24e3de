use Rattle.cx_marks.proofs.Places.{marks_begin, one_tokens_place}
use Rattle.cx_grammar.proofs.Begun.{same_place, tokens_begin}
use Rattle.cx_grammar.proofs.laws.place_of_tokens.Goals as goal

pub returns-clause-begins : goal.returns-clause-begins
returns-clause-begins c = λ tokens few are. (marks_begin tokens, tokens_begin tokens few are)

pub returns-clause-place : goal.returns-clause-place
returns-clause-place c = same_place

pub returns-clause-one : goal.returns-clause-one
returns-clause-one c = one_tokens_place
