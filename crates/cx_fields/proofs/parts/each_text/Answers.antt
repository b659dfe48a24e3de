use Rattle.std.proofs.lemmas.Result.{err_from_is_err_and}
use Rattle.cx_fields.specs.Reading.{text_at}
use Rattle.cx_fields.specs.Reading.{unread, many_at}
use Rattle.cx_fields.proofs.Loop.{goes_on, ends, is_done}
use Rattle.cx_fields.proofs.parts.each_text.Goals as goal

pub returns-in_err-item : goal.returns-in_err-item
returns-in_err-item c =
    let p = err_from_is_err_and c.from_residual.result c.from_residual.ensures.1 in
    rw (p.1, p.2) (ends (λ x. 0) (λ room. text_at) c.in_err-item.field-0.0 c.loop.items 0 c.args.count c.loop.counter (unread c.loop.rest) (many_at text_at c.args.count (unread c.args.start)) c.loop-test.true c.in_err-item.ensures c.loop.invariant)

pub loop-preserved : goal.loop-preserved
loop-preserved c =
    rw c.in_ok-push.ensures.ok (goes_on (λ x. 0) (λ room. text_at) c.loop.items 0 c.args.count c.loop.counter (unread c.loop.rest) c.in_ok-item.item (unread c.in_ok-item.after) (many_at text_at c.args.count (unread c.args.start)) c.loop-test.true c.in_ok-item.ensures c.loop.invariant)

pub returns : goal.returns
returns c = is_done (λ x. 0) (λ room. text_at) c.loop.items 0 c.args.count c.loop.counter (unread c.loop.rest) (many_at text_at c.args.count (unread c.args.start)) c.loop-test.false c.loop.invariant
