use Rattle.std.proofs.Common.{refl, ap, ◌∙◌}
use Rattle.cx_syntax.specs.declared.token.TokenKind.TheVariants as T
use Rattle.cx_syntax.specs.declared.mark.Mark.TheVariants as M
use Rattle.cx_marks.proofs.Steps.{marked, no_name}
use Rattle.cx_marks.proofs.scan.token_mark.Goals as goal

pub returns-in-Word-clause-knows : goal.returns-in-Word-clause-knows
returns-in-Word-clause-knows c = no_name c.args.names.now c.args.tokens.now c.args.at c.requires.within (rw c.in-Word.is refl) c.requires.knows

pub returns-in-Number-clause-told : goal.returns-in-Number-clause-told
returns-in-Number-clause-told c = λ t at. marked c.args.tokens.now c.args.at t T.Number c.in-Number.is at

pub returns-in-Number-clause-knows : goal.returns-in-Number-clause-knows
returns-in-Number-clause-knows c = no_name c.args.names.now c.args.tokens.now c.args.at c.requires.within (rw c.in-Number.is refl) c.requires.knows

pub returns-in-Char-clause-told : goal.returns-in-Char-clause-told
returns-in-Char-clause-told c = λ t at. marked c.args.tokens.now c.args.at t T.Char c.in-Char.is at

pub returns-in-Char-clause-knows : goal.returns-in-Char-clause-knows
returns-in-Char-clause-knows c = no_name c.args.names.now c.args.tokens.now c.args.at c.requires.within (rw c.in-Char.is refl) c.requires.knows

pub returns-in-Text-clause-told : goal.returns-in-Text-clause-told
returns-in-Text-clause-told c = λ t at. marked c.args.tokens.now c.args.at t T.Text c.in-Text.is at

pub returns-in-Text-clause-knows : goal.returns-in-Text-clause-knows
returns-in-Text-clause-knows c = no_name c.args.names.now c.args.tokens.now c.args.at c.requires.within (rw c.in-Text.is refl) c.requires.knows

pub returns-in-Punct-clause-told : goal.returns-in-Punct-clause-told
returns-in-Punct-clause-told c = λ t at. ap M.Punct c.punct_of.ensures ∙ marked c.args.tokens.now c.args.at t T.Punct c.in-Punct.is at

pub returns-in-Punct-clause-knows : goal.returns-in-Punct-clause-knows
returns-in-Punct-clause-knows c = no_name c.args.names.now c.args.tokens.now c.args.at c.requires.within (rw c.in-Punct.is refl) c.requires.knows
