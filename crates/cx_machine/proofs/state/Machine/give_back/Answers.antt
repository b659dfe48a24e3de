use Rattle.std.proofs.Common.{Some}
use Rattle.cx_frame.specs.Frames.{frame_in}
use Rattle.cx_machine.specs.States.{state_of}
use Rattle.cx_machine.proofs.Steps.{left-frame}
use Rattle.cx_machine.proofs.state.Machine.give_back.Goals as goal

pub returns-then-function_at-clause-ok : goal.returns-then-function_at-clause-ok
returns-then-function_at-clause-ok c = λ store.
    let frame = frame_in (record c.args.self.now.frame { operands = c.pop-value.new.self }) in
    rw (c.function_at.ensures, c.if-function_at.true, c.pop-value.ensures, left-frame (state_of c.args.self.now store) frame c.args.self.now.below (Some c.pop-value.result)) (c.leave.ensures.ok store)

pub returns-then-function_at-clause-err : goal.returns-then-function_at-clause-err
returns-then-function_at-clause-err c = λ store.
    let frame = frame_in (record c.args.self.now.frame { operands = c.pop-value.new.self }) in
    rw (c.function_at.ensures, c.if-function_at.true, c.pop-value.ensures, left-frame (state_of c.args.self.now store) frame c.args.self.now.below (Some c.pop-value.result)) (c.leave.ensures.err store)
