use Rattle.cx_lexer.proofs.Unique.{only_tokens, only_fault, told_in_order}
use Rattle.cx_lexer.proofs.tokens.lex.Goals as goal

pub returns-clause-in_order : goal.returns-clause-in_order
returns-clause-in_order c = told_in_order c.args.text.now c.scan.result c.scan.ensures.tokens

pub returns-clause-only_tokens : goal.returns-clause-only_tokens
returns-clause-only_tokens c = only_tokens c.args.text.now c.scan.result c.scan.ensures.tokens c.scan.ensures.fault

pub returns-clause-only_fault : goal.returns-clause-only_fault
returns-clause-only_fault c = only_fault c.args.text.now c.scan.result c.scan.ensures.tokens c.scan.ensures.fault
