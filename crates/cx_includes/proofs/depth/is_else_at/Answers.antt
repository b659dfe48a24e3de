use Rattle.std.proofs.Common.{◌+◌, length, drop, sym, ap, arith}
use Rattle.cx_includes.specs.Counting.{shapes_of}
use Rattle.cx_includes.proofs.Opening.{next_shape, else_first, no_else_first}
use Rattle.cx_includes.proofs.depth.is_else_at.Goals as goal

pub returns-in-Else : goal.returns-in-Else
returns-in-Else c =
    let unit = c.args.unit.now in
    let is = next_shape unit c.args.at c.bytes_at.result.now c.shape_of.result (omega (arith, ap length c.items.ensures)) c.bytes_at.ensures c.shape_of.ensures in
    sym (else_first (drop c.args.at (shapes_of unit)) (drop (c.args.at + 1) (shapes_of unit)) c.shape_of.result is c.in-Else.is)

pub returns-in_default : goal.returns-in_default
returns-in_default c =
    let unit = c.args.unit.now in
    let is = next_shape unit c.args.at c.bytes_at.result.now c.shape_of.result (omega (arith, ap length c.items.ensures)) c.bytes_at.ensures c.shape_of.ensures in
    sym (no_else_first (drop c.args.at (shapes_of unit)) (drop (c.args.at + 1) (shapes_of unit)) c.shape_of.result is c.in_default.not-Else)
