use Rattle.std.proofs.Common.{arith, pos, ◌≤ℤ◌}
use Rattle.std.proofs.lemmas.Int.{ints}
use Rattle.cx_code.specs.Reached.{taken_count}
use Rattle.cx_rules.proofs.spans.spare.Goals as goal

pub without-requires : goal.without-requires
without-requires c =
    let known : (pos (taken_count c.args.function.now c.in-Some.operation) ≤ℤ c.in-One.depth) × (c.in-One.depth ≤ℤ pos 4096) = c.requires c.in-Some.operation c.in-One.depth c.in-Some.is c.in-One.is in
    record { enough = omega (arith, ints, known.0, known.1, c.taken.ensures); shallow = omega (arith, ints, known.0, known.1, c.taken.ensures) }
