use Rattle.std.proofs.Common.{◌||◌, ◌+◌, get_or, drop, ap, sym, refl, ◌∙◌, arith}
use Rattle.cx_lexer.specs.Scan.{hides_from, next_seen}
use Rattle.std.proofs.lemmas.Bool.{or_left, true≢false}
use Rattle.cx_lexer.proofs.Comments.{hides_at, hides_at_end, hidden, hides_complete}
use Rattle.cx_lexer.proofs.comment.hides_end.Goals as goal

pub returns-then-is_hidden_end : goal.returns-then-is_hidden_end
returns-then-is_hidden_end c =
    let here = hides_at c.loop-byte.seen c.args.body.now c.loop-byte.byte-index (omega arith) ∙ or_left _ _ (sym c.is_hidden_end.ensures ∙ c.if-is_hidden_end.true) in
    (λ _. hidden c.args.body.now (sym c.loop-byte.invariant ∙ here), λ _. refl)

pub loop-byte-preserved : goal.loop-byte-preserved
loop-byte-preserved c =
    let body = c.args.body.now in
    let i = c.loop-byte.byte-index in
    let behind = hides_from (next_seen c.loop-byte.seen (get_or body i 0)) (drop (i + 1) body) in
    let here = hides_at c.loop-byte.seen body i (omega arith) ∙ ap (λ t. t || behind) (sym c.is_hidden_end.ensures ∙ c.if-is_hidden_end.false) in
    ap (λ seen. hides_from seen (drop (i + 1) body)) c.next_seen-seen.ensures ∙ (sym here ∙ c.loop-byte.invariant)

pub returns : goal.returns
returns c =
    let none = sym c.loop-byte.invariant ∙ hides_at_end c.loop-byte.seen c.args.body.now c.loop-byte.byte-index (omega arith) in
    (λ e. absurd (true≢false (sym e)), λ h. absurd (true≢false (sym (hides_complete c.args.body.now h) ∙ none)))
