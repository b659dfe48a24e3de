use Rattle.std.proofs.Common.{◌≡◌, ◌+◌, ◌≤◌, length}
use Rattle.std.specs.Io.KnownBytes.{Appends}
use Rattle.cx_code.specs.Output.{written_out}
use Rattle.cx_sound.specs.Sound.{IsSound}
use Rattle.cx_frame.specs.Stores.{IsSmall}
use Rattle.cx_machine.specs.States.{state_of, IsCounted, IsTold}
use Rattle.cx_machine.specs.Outcome.{lines_of}
use Rattle.cx_machine.proofs.Runs.{IsSoFar}
use Rattle.cx_machine.proofs.running.run_steps.Given as goal

abbrev pub invariant-loop-taken : goal.invariant-loop-taken
invariant-loop-taken g l = record {
  so_far : IsSoFar l.image l.fn.machine.input l.taken l.report.journal (state_of l.machine (g.M.Memory.store l.memory));
  sound : IsSound l.image (state_of l.machine (g.M.Memory.store l.memory));
  counted : IsCounted l.image l.machine;
  told : IsTold l.machine;
  small : IsSmall (g.M.Memory.store l.memory);
  next : (g.M.Memory.store l.memory).next ≤ 1 + length l.image.globals + l.taken;
  thrown : l.machine.thrown ≤ l.taken;
  output : l.report.out ≡ written_out l.report.journal;
  lines : Appends (g.E.Sink.taken l.fn.err) (g.E.Sink.taken l.err) (lines_of l.image l.report.journal);
  later : g.E.Sink.faults l.fn.err ≤ g.E.Sink.faults l.err;
}
