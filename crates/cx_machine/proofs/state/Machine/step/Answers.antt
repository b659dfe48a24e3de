use Rattle.std.proofs.Common.{◌≡◌, Option, ap}
use Rattle.cx_code.specs.State.{Exception, Runs, Unwinds}
use Rattle.cx_machine.specs.States.{state_of, control_of}
use Rattle.cx_machine.proofs.Stepping.{acts, unwinds, is_due, unwinds_within}
use Rattle.cx_machine.proofs.state.Machine.step.Goals as goal

pub act-requires-clause-due : goal.act-requires-clause-due
act-requires-clause-due g c =
    let s = state_of c.args.self.now (g.M.Memory.store c.args.memory.now) in
    let runs : s.control ≡ Runs = ap (λ (e : Option Exception). control_of e c.args.self.now.after) c.in-None.is in
    is_due c.args.image.now s c.operation_at-operation.result c.has_what_it_takes.ensures c.requires.valid c.requires.sound runs c.operation_at-operation.ensures

pub unwind-requires-clause-its_function : goal.unwind-requires-clause-its_function
unwind-requires-clause-its_function g c =
    let s = state_of c.args.self.now (g.M.Memory.store c.args.memory.now) in
    let is : s.control ≡ Unwinds c.in-Some.exception c.args.self.now.after = ap (λ (e : Option Exception). control_of e c.args.self.now.after) c.in-Some.is in
    unwinds_within c.args.image.now s c.in-Some.exception c.args.self.now.after c.has_regions.ensures c.requires.valid c.requires.sound is

pub returns-in-None-clause-ok : goal.returns-in-None-clause-ok
returns-in-None-clause-ok g c =
    let s = state_of c.args.self.now (g.M.Memory.store c.args.memory.now) in
    let runs : s.control ≡ Runs = ap (λ (e : Option Exception). control_of e c.args.self.now.after) c.in-None.is in
    rw (acts c.args.image.now s c.operation_at-operation.result runs c.operation_at-operation.ensures) c.act.ensures.ok

pub returns-in-None-clause-err : goal.returns-in-None-clause-err
returns-in-None-clause-err g c =
    let s = state_of c.args.self.now (g.M.Memory.store c.args.memory.now) in
    let runs : s.control ≡ Runs = ap (λ (e : Option Exception). control_of e c.args.self.now.after) c.in-None.is in
    rw (acts c.args.image.now s c.operation_at-operation.result runs c.operation_at-operation.ensures) c.act.ensures.err

pub returns-in-Some-clause-ok : goal.returns-in-Some-clause-ok
returns-in-Some-clause-ok g c =
    let s = state_of c.args.self.now (g.M.Memory.store c.args.memory.now) in
    let is : s.control ≡ Unwinds c.in-Some.exception c.args.self.now.after = ap (λ (e : Option Exception). control_of e c.args.self.now.after) c.in-Some.is in
    rw (unwinds c.args.image.now s c.in-Some.exception c.args.self.now.after is) (c.unwind.ensures.ok (g.M.Memory.store c.args.memory.now))

pub returns-in-Some-clause-err : goal.returns-in-Some-clause-err
returns-in-Some-clause-err g c =
    let s = state_of c.args.self.now (g.M.Memory.store c.args.memory.now) in
    let is : s.control ≡ Unwinds c.in-Some.exception c.args.self.now.after = ap (λ (e : Option Exception). control_of e c.args.self.now.after) c.in-Some.is in
    rw (unwinds c.args.image.now s c.in-Some.exception c.args.self.now.after is) (c.unwind.ensures.err (g.M.Memory.store c.args.memory.now))
