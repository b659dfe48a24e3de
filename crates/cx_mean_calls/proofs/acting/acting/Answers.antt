use Rattle.std.proofs.Common.{sym, subst}
use Rattle.cx_plain.specs.Step.{step_acting}
use Rattle.cx_plain_state.specs.Ran.{Ran}
use Rattle.cx_plain_state.specs.Seen.{state_of}
use Rattle.cx_mean_parts.specs.Seen.{body_of, function_of, program_of, table_of}
use Rattle.cx_mean_parts.specs.Tasks.{call_of, level_of}
use Rattle.cx_mean_parts.specs.Frames.{frames_of, next_of}
use Rattle.cx_mean_calls.proofs.acting.acting.Goals as goal

pub returns-in-ImplicitConstructor : goal.returns-in-ImplicitConstructor
returns-in-ImplicitConstructor c =
    rw c.in-ImplicitConstructor.is (c.acting_default.ensures (function_of (table_of c.args.machine.now.program.now) c.args.f.now) (call_of c.args.c))

pub returns-in-ImplicitCopyConstructor : goal.returns-in-ImplicitCopyConstructor
returns-in-ImplicitCopyConstructor c =
    rw c.in-ImplicitCopyConstructor.is (c.acting_copy.ensures (function_of (table_of c.args.machine.now.program.now) c.args.f.now) (call_of c.args.c))

-- the function's own body stays as it is where its kind is asked
pub returns-in-Constructor : goal.returns-in-Constructor
returns-in-Constructor c =
    let p = program_of c.args.machine.now.program.now in
    let n = table_of c.args.machine.now.program.now in
    let constructed = rw (c.deref-in-Constructor.ensures.value, c.deref-in-Constructor-2.ensures.value) at c.acting_constructor.ensures in
    subst
    (λ body. Ran (next_of n) (step_acting p (level_of c.args.level) (body_of n body) (function_of n c.args.f.now) (call_of c.args.c) (frames_of n c.args.frames.items) (state_of c.args.state.now)) c.acting_constructor.result (state_of c.acting_constructor.new.state))
    (sym c.in-Constructor.is)
    constructed
