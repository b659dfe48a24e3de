use Rattle.std.proofs.lemmas.Result.{err_from_is_err_and}
use Rattle.cx_plain_state.proofs.Parts.{ran}
use Rattle.cx_plain_state.proofs.Lines.{line_ends, line_stops, line_goes_on, no_items, not_zero}
use Rattle.cx_plain_state.proofs.state.State.+write_line.Goals as goal

pub returns-in_err-write_byte-in-Some : goal.returns-in_err-write_byte-in-Some
returns-in_err-write_byte-in-Some t c =
    let p = err_from_is_err_and c.from_residual.result c.from_residual.ensures.1 in
    rw (p.1, p.2, c.in-Some.ensures.cases.0, line_goes_on c.in-Some.byte.now c.in-Some.rest.now (not_zero _ c.in-Some.byte-test.1)) (search (ran, c.in_err-write_byte-in-Some.ensures) depth 12)

pub returns-in-None : goal.returns-in-None
returns-in-None t c = rw (no_items c.args.text.now c.in-None.ensures.cases, line_ends) c.write_newline.ensures

pub returns-in-Some-eq0-default : goal.returns-in-Some-eq0-default
returns-in-Some-eq0-default t c =
    rw (c.in-Some-eq0-default.ensures.cases.0, c.in-Some-eq0-default.field-0-0-test, line_stops c.in-Some-eq0-default.field-0-1.now) c.write_newline-in-Some-eq0-default.ensures

pub returns-in_ok-write_byte-in-Some : goal.returns-in_ok-write_byte-in-Some
returns-in_ok-write_byte-in-Some t c =
    rw (c.in-Some.ensures.cases.0, line_goes_on c.in-Some.byte.now c.in-Some.rest.now (not_zero _ c.in-Some.byte-test.1)) (search (ran, c.in_ok-write_byte-in-Some.ensures) depth 12)
