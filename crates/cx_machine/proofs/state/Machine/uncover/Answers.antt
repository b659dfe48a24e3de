use Rattle.cx_frame.specs.Frames.{frame_in}
use Rattle.cx_machine.proofs.Told.{told_after_leaving}
use Rattle.cx_machine.proofs.state.Machine.uncover.Goals as goal

pub returns-then-counted-clause-told : goal.returns-then-counted-clause-told
returns-then-counted-clause-told c =
    told_after_leaving c.args.self.now.kept c.drop_all.new.self c.args.self.now.held c.args.self.now.frame.pending (frame_in c.in-Some.caller) c.pop.new.self c.args.self.now.below c.drop_all.ensures c.in-Some.ensures

pub returns-else-counted-clause-told : goal.returns-else-counted-clause-told
returns-else-counted-clause-told c =
    told_after_leaving c.args.self.now.kept c.drop_all.new.self c.args.self.now.held c.args.self.now.frame.pending (frame_in c.in-Some.caller) c.pop.new.self c.args.self.now.below c.drop_all.ensures c.in-Some.ensures
