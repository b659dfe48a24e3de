use Rattle.std.proofs.Common.{◌∙◌, ap}
use Rattle.cx_mean_parts.specs.Seen.{table_of}
use Rattle.cx_mean_parts.specs.Frames.{frames_of}
use Rattle.cx_mean_parts.proofs.Pushed.{frames_pushed}
use Rattle.cx_mean_parts.proofs.machine.Machine.framed.Goals as goal

pub returns : goal.returns
returns c = rw c.in_ok-push.ensures.items (frames_pushed (table_of c.args.self.now.program.now) c.args.frames.items c.args.frame)
