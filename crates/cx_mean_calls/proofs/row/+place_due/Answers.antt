use Rattle.std.proofs.Common.{◌≡◌, ◌+◌, suc, refl, arith}
use Rattle.cx_mean_calls.proofs.row.+place_due.Goals as goal

pub returns-then-is_evaluation-clause-value : goal.returns-then-is_evaluation-clause-value
returns-then-is_evaluation-clause-value t c = rw (c.in_ok-first.ensures.cases.0, ← c.if-is_evaluation.ensures) refl

pub returns-then-not-has_stood-clause-value : goal.returns-then-not-has_stood-clause-value
returns-then-not-has_stood-clause-value t c = rw (c.in_ok-first.ensures.cases.0, ← c.if-is_evaluation.ensures, ← c.if-not-has_stood.ensures) refl

pub returns-in_err-place_due-clause-value : goal.returns-in_err-place_due-clause-value
returns-in_err-place_due-clause-value t c =
    rw (c.in_ok-first.ensures.cases.0, ← c.if-is_evaluation.ensures, ← c.if-not-has_stood.ensures, ← c.in_err-place_due.ensures.value) c.from_residual-in_err-place_due.ensures

pub returns-clause-value : goal.returns-clause-value
returns-clause-value t c =
    let k : c.in_ok-place_due.field-0 + 1 ≡ suc c.in_ok-place_due.field-0 = omega arith in
    rw (c.in_ok-first.ensures.cases.0, ← c.if-is_evaluation.ensures, ← c.if-not-has_stood.ensures, ← c.in_ok-place_due.ensures.value, k) refl
