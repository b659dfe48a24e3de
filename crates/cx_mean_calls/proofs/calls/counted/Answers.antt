use Rattle.std.proofs.Common.{◌≡◌, suc, arith}
use Rattle.cx_mean_calls.proofs.calls.counted.Goals as goal

pub returns : goal.returns
returns c =
    let more : c.args.depth ≡ suc c.in-Some.counted = omega (arith, c.in-Some.ensures) in
    let active = rw c.class_count-implicit.ensures.count at c.active.ensures in
    rw more active
