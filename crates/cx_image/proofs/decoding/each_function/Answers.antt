use Rattle.std.proofs.Common.{◌≡◌, ◌-◌, length, ap, arith}
use Rattle.std.proofs.lemmas.Result.{err_from_is_err_and}
use Rattle.cx_fields.specs.Reading.{unread, each_at}
use Rattle.cx_fields.proofs.Loop.{goes_on, ends, is_done}
use Rattle.cx_image.specs.Reading.{function_at, code_length}
use Rattle.cx_image.proofs.decoding.each_function.Goals as goal

pub returns-in_err-item : goal.returns-in_err-item
returns-in_err-item c =
    let p = err_from_is_err_and c.from_residual.result c.from_residual.ensures.1 in
    rw (p.1, p.2) (ends code_length function_at c.in_err-item.field-0.0 c.loop.items c.loop.room c.args.count c.loop.counter (unread c.loop.rest) (each_at code_length function_at 8388609 c.args.count (unread c.args.start)) c.loop-test.true c.in_err-item.ensures c.loop.invariant)

pub loop-preserved : goal.loop-preserved
loop-preserved c =
    let room : c.saturating_sub-room.result ≡ c.loop.room - code_length c.in_ok-item.item = omega (arith, ap length c.items-in-loop.ensures, c.saturating_sub-room.ensures) in
    rw (room, c.in_ok-push.ensures.ok) (goes_on code_length function_at c.loop.items c.loop.room c.args.count c.loop.counter (unread c.loop.rest) c.in_ok-item.item (unread c.in_ok-item.after) (each_at code_length function_at 8388609 c.args.count (unread c.args.start)) c.loop-test.true c.in_ok-item.ensures c.loop.invariant)

pub returns : goal.returns
returns c = is_done code_length function_at c.loop.items c.loop.room c.args.count c.loop.counter (unread c.loop.rest) (each_at code_length function_at 8388609 c.args.count (unread c.args.start)) c.loop-test.false c.loop.invariant
