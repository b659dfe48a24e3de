use Rattle.std.proofs.Common.{◌≡◌, suc, arith}
use Rattle.cx_mean_calls.proofs.calls.calling.Goals as goal

pub returns-then-is_implicit : goal.returns-then-is_implicit
returns-then-is_implicit c =
    let more : c.args.implicit ≡ suc c.in-Some.implicit = omega (arith, c.in-Some.ensures) in
    rw (more, ← c.if-is_implicit.ensures) c.active.ensures
