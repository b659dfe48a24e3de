use Rattle.std.proofs.Common.{◌+◌, length, drop, ap, arith}
use Rattle.cx_includes.specs.Counting.{counts_of, shapes_of}
use Rattle.cx_includes.proofs.Opening.{next_shape, counted}
use Rattle.cx_includes.proofs.depth.open_tokens.Goals as goal

pub loop-at-preserved : goal.loop-at-preserved
loop-at-preserved c =
    let unit = c.args.unit.now in
    let next = drop (c.loop-at.at + 1) (shapes_of unit) in
    let is = next_shape unit c.loop-at.at c.bytes_at.result.now c.shape_of-shape.result (omega (arith, ap length c.items-count.ensures)) c.bytes_at.ensures c.shape_of-shape.ensures in
    record {
      few = c.in_ok-pass.ensures.few c.loop-at.at c.loop-at.invariant.few;
      most = counted c.loop-at.most c.max-most.result c.loop-at.counting (counts_of c.pass.new.self) c.shape_of-shape.result next (drop c.loop-at.at (shapes_of unit)) _
          c.loop-at.invariant.most is (c.in_ok-pass.ensures.counts next c.is_else_at.ensures) c.loop-at.counting.summed c.max-most.ensures;
    }
