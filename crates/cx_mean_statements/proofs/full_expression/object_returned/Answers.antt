use Rattle.std.proofs.lemmas.Result.{err_from_is_err_and}
use Rattle.cx_core.specs.Outcome.{either, current_frame, current_temporaries, set_temporaries}
use Rattle.cx_mean_statements.proofs.Passes.{passes}
use Rattle.cx_mean_statements.proofs.full_expression.object_returned.Goals as goal

pub returns : goal.returns
unfolding either current_temporaries set_temporaries current_frame
returns c = let e = c.enter_full_expression-full.ensures.entered in
    let place = rw e at c.in_ok-place.ensures.comes in
    let a = rw e at c.in_ok-a.ensures.comes in
    let next = rw e at c.under_two.ensures in
    rw (e, ← c.enter_full_expression-full.ensures.frame, place, a) next

pub returns-in_err-place : goal.returns-in_err-place
unfolding either current_temporaries set_temporaries current_frame
returns-in_err-place c = let p = err_from_is_err_and c.from_residual.result c.from_residual.ensures.1 in
    let e = c.enter_full_expression-full.ensures.entered in
    let place = rw e at c.in_err-place.ensures in
    rw (p.1, p.2, e) (passes _ place)

pub returns-in_err-a : goal.returns-in_err-a
unfolding either current_temporaries set_temporaries current_frame
returns-in_err-a c = let p = err_from_is_err_and c.from_residual-in_err-a.result c.from_residual-in_err-a.ensures.1 in
    let e = c.enter_full_expression-full.ensures.entered in
    let place = rw e at c.in_ok-place.ensures.comes in
    let a = rw e at c.in_err-a.ensures in
    rw (p.1, p.2, e, place) (passes _ a)
