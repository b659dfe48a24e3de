use Rattle.std.proofs.Common.{sym, ◌∙◌, ap}
use Rattle.cx_lexer.specs.Number.{is_too_wide}
use Rattle.cx_lexer.proofs.Pieces.{wide_stands, runs_stands, number_stands}
use Rattle.cx_lexer.proofs.piece.number.Goals as goal

pub returns-then-is_too_wide : goal.returns-then-is_too_wide
returns-then-is_too_wide c =
    let n = c.number_length-length.result in
    wide_stands c.args.rest.now c.args.at n c.requires.some c.requires.first c.requires.no_comment c.number_length-length.ensures.length
    (ap is_too_wide (sym c.split_at.ensures.front) ∙ (sym c.is_too_wide.ensures ∙ c.if-is_too_wide.true))

pub returns-then-runs_on : goal.returns-then-runs_on
returns-then-runs_on c =
    let n = c.number_length-length.result in
    let parts = c.split_at.ensures in
    runs_stands c.args.rest.now c.args.at n c.requires.some c.requires.first c.requires.no_comment c.number_length-length.ensures.length
    (ap is_too_wide (sym parts.front) ∙ (sym c.is_too_wide.ensures ∙ c.if-is_too_wide.false))
    (rw (← parts.front, ← parts.back) (sym c.runs_on.ensures ∙ c.if-runs_on.true))

pub returns-else-runs_on : goal.returns-else-runs_on
returns-else-runs_on c =
    let n = c.number_length-length.result in
    let parts = c.split_at.ensures in
    number_stands c.args.rest.now c.args.at n c.requires.some c.requires.first c.requires.no_comment c.number_length-length.ensures.length
    (ap is_too_wide (sym parts.front) ∙ (sym c.is_too_wide.ensures ∙ c.if-is_too_wide.false))
    (rw (← parts.front, ← parts.back) (sym c.runs_on.ensures ∙ c.if-runs_on.false))
