use Rattle.std.proofs.Common.{arith}
use Rattle.cx_front.proofs.Sums.{bytes_more}
use Rattle.cx_front.proofs.unit.bytes_of.Goals as goal

pub loop-file-preserved : goal.loop-file-preserved
loop-file-preserved c =
    bytes_more c.args.list.now.files c.loop-file.file c.file_text.result.now c.loop-file.bytes c.with_length-bytes.result (omega arith) c.file_text.ensures c.loop-file.invariant c.with_length-bytes.ensures
