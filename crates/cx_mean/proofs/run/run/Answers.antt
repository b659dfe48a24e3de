use Rattle.std.proofs.Common.{◌∙◌}
use Rattle.cx_plain.proofs.Runs.{mean_is}
use Rattle.cx_plain_state.specs.Seen.{state_of}
use Rattle.cx_mean_parts.specs.Seen.{program_of}
use Rattle.cx_mean_parts.specs.Frames.{left_of}
use Rattle.cx_mean.proofs.Stepping.{mean_goes_on, mean_is_over, mean_is_left}
use Rattle.cx_mean.proofs.run.run.Goals as goal

pub loop-step-init : goal.loop-step-init
loop-step-init c = λ begins input budget e.
    rw (c.new-stack.ensures.items, c.first-at.ensures, e) (mean_is (program_of c.args.machine.now.program.now) begins input budget)

pub returns-in-Err-Over : goal.returns-in-Err-Over
returns-in-Err-Over c = λ begins input budget e.
    let h = rw c.in-Err-Over.field-0-is at c.in-Err-Over.ensures in
    mean_is_over (program_of c.args.machine.now.program.now) _ _ _ _ _ (c.loop-step.invariant begins input budget e) h.comes

pub loop-step-preserved : goal.loop-step-preserved
loop-step-preserved c = λ begins input budget e.
    mean_goes_on (program_of c.args.machine.now.program.now) _ _ _ _ _ (c.loop-step.invariant begins input budget e) c.in-Ok.ensures.comes

pub returns-in-Err-Left : goal.returns-in-Err-Left
returns-in-Err-Left c = λ begins input budget e.
    let h = rw c.in-Err-Left.field-0-is at c.in-Err-Left.ensures in
    mean_is_left (program_of c.args.machine.now.program.now) _ _ _ _ (left_of c.in-Err-Left.left) (c.loop-step.invariant begins input budget e) h.comes
    ∙ c.in_ok-answer-in-Err-Left.ensures (state_of c.step.new.state)
