use Rattle.std.proofs.Common.{◌+◌, refl, sym, subst, arith}
use Rattle.cx_code.specs.Run.{step}
use Rattle.cx_sound.specs.Sound.{IsSound}
use Rattle.cx_outside.specs.Fault.{Rose}
use Rattle.cx_outside.specs.Told.{Appends-nothing}
use Rattle.cx_machine.specs.States.{state_of}
use Rattle.cx_machine.specs.Advance.{appended_by, event_of}
use Rattle.cx_machine.proofs.Runs.{start, goes_on, ends, is_spent, step_begun, is_begun}
use Rattle.cx_machine.proofs.Advances.{lines-none, lines_on, lines_cut, out_on, has_come, since_earlier, is_started}
use Rattle.cx_machine.proofs.running.run_steps.Goals as goal

pub loop-taken-init : goal.loop-taken-init
loop-taken-init g c =
    let s = state_of c.args.machine.now (g.M.Memory.store c.args.memory.now) in
    record {
      so_far = rw c.requires.journal (start c.args.image.now c.args.machine.now.input s c.requires.started.state);
      sound = subst (IsSound c.args.image.now) (sym c.requires.started.state) (c.starts.ensures c.args.image.now c.args.machine.now.input c.requires.valid);
      counted = c.requires.started.counted;
      told = c.requires.started.told;
      small = c.requires.started.small;
      next = omega (arith, c.requires.started.next);
      thrown = omega (arith, c.requires.started.thrown);
      output = rw (c.requires.out, c.requires.journal) refl;
      lines = rw (c.requires.journal, lines-none c.args.image.now) (Appends-nothing _);
      later = omega arith;
    }

pub loop-taken-preserved : goal.loop-taken-preserved
loop-taken-preserved g c =
    let image = c.args.image.now in
    let s = state_of c.loop-taken.machine (g.M.Memory.store c.loop-taken.memory) in
    let s' = state_of c.advance.new.machine (g.M.Memory.store c.advance.new.memory) in
    let so = c.loop-taken.invariant in
    let a = rw c.in-Ok-None.field-0-is at c.in-Ok-None.ensures.ok in
    let keeps = c.in-Ok-None.ensures.keeps c.in-Ok-None.field-0-is in
    let grows = c.in-Ok-None.ensures.grows c.in-Ok-None.field-0-is in
    record {
      so_far = goes_on image c.args.machine.now.input c.loop-taken.taken c.loop-taken.report.journal s so.so_far c.advance.new.report.journal s' a.made a.journal;
      sound = c.goes_on.ensures image s s' (event_of (step image s)) c.requires.valid so.sound a.made;
      counted = keeps.counted so.counted;
      told = keeps.told so.told;
      small = grows.small so.small;
      next = omega (arith, grows.next, so.next);
      thrown = omega (arith, keeps.thrown, so.thrown);
      output = out_on c.loop-taken.report.out c.advance.new.report.out c.loop-taken.report.journal (appended_by (step image s)) c.advance.new.report.journal so.output a.output a.journal;
      lines = lines_on image (g.E.Sink.taken c.args.err.now) (g.E.Sink.taken c.loop-taken.err) (g.E.Sink.taken c.advance.new.err) c.loop-taken.report.journal (appended_by (step image s)) c.advance.new.report.journal so.lines a.lines a.journal;
      later = omega (arith, so.later, c.in-Ok-None.ensures.later);
    }

pub returns-in-Ok-Some-clause-come : goal.returns-in-Ok-Some-clause-come
returns-in-Ok-Some-clause-come g c =
    let image = c.args.image.now in
    let bytes = c.args.machine.now.input in
    let s = state_of c.loop-taken.machine (g.M.Memory.store c.loop-taken.memory) in
    let s' = state_of c.advance.new.machine (g.M.Memory.store c.advance.new.memory) in
    let so = c.loop-taken.invariant in
    let a = rw c.in-Ok-Some.field-0-is at c.in-Ok-Some.ensures.ok in
    let last = c.advance.new.report.journal in
    has_come c.in-Ok-Some.ending image bytes c.args.limit (c.loop-taken.taken + 1) c.advance.new.report (g.E.Sink.taken c.args.err.now) (g.E.Sink.taken c.advance.new.err) (Rose (g.E.Sink.faults c.args.err.now) (g.E.Sink.faults c.advance.new.err)) a.own
    (record {
      runs = ends image bytes c.loop-taken.taken c.loop-taken.report.journal s so.so_far c.args.limit last s' c.in-Ok-Some.ending c.loop-taken-test.true a.made a.journal;
      again = ends image bytes c.loop-taken.taken c.loop-taken.report.journal s so.so_far (c.loop-taken.taken + 1) last s' c.in-Ok-Some.ending (omega arith) a.made a.journal;
      output = out_on c.loop-taken.report.out c.advance.new.report.out c.loop-taken.report.journal (appended_by (step image s)) last so.output a.output a.journal;
      lines = lines_on image (g.E.Sink.taken c.args.err.now) (g.E.Sink.taken c.loop-taken.err) (g.E.Sink.taken c.advance.new.err) c.loop-taken.report.journal (appended_by (step image s)) last so.lines a.lines a.journal;
    })

pub returns-in-Err-clause-come : goal.returns-in-Err-clause-come
returns-in-Err-clause-come g c =
    let image = c.args.image.now in
    let bytes = c.args.machine.now.input in
    let s = state_of c.loop-taken.machine (g.M.Memory.store c.loop-taken.memory) in
    let so = c.loop-taken.invariant in
    let before = c.loop-taken.report.journal in
    let last = c.advance.new.report.journal in
    record {
      has_cause = since_earlier c.in-Err.cause (g.E.Sink.faults c.args.err.now) (g.E.Sink.faults c.loop-taken.err) (g.E.Sink.faults c.advance.new.err) so.later c.in-Err.ensures.cause;
      begun = step_begun image bytes c.loop-taken.taken before s so.so_far;
      journal = is_begun image bytes c.loop-taken.taken before s so.so_far c.in-Err.cause last (g.E.Sink.taken c.loop-taken.err) (g.E.Sink.taken c.advance.new.err) c.in-Err.ensures.cut;
      lines = lines_cut image c.in-Err.cause (g.E.Sink.taken c.args.err.now) (g.E.Sink.taken c.loop-taken.err) (g.E.Sink.taken c.advance.new.err) before (appended_by (step image s)) last so.lines c.in-Err.ensures.cut;
    }

pub returns-clause-come : goal.returns-clause-come
returns-clause-come g c =
    let s = state_of c.loop-taken.machine (g.M.Memory.store c.loop-taken.memory) in
    let so = c.loop-taken.invariant in
    let runs = is_spent c.args.image.now c.args.machine.now.input c.loop-taken.taken c.loop-taken.report.journal s so.so_far c.args.limit (omega arith) in
    record { runs = runs; again = runs; output = so.output; lines = so.lines }

pub returns-in-Ok-Some-clause-started : goal.returns-in-Ok-Some-clause-started
returns-in-Ok-Some-clause-started g c =
    let a = rw c.in-Ok-Some.field-0-is at c.in-Ok-Some.ensures.ok in
    is_started c.in-Ok-Some.ending a.own
