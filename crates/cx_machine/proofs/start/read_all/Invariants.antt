use Rattle.std.proofs.Common.{◌≤◌}
use Rattle.std.specs.Io.KnownBytes.{Consumes}
use Rattle.cx_machine.proofs.start.read_all.Given as goal

abbrev pub invariant-loop-read : goal.invariant-loop-read
invariant-loop-read g l = record {
  read : Consumes (g.I.Source.left l.fn.input) (g.I.Source.left l.input) l.bytes.items;
  later : g.I.Source.faults l.fn.input ≤ g.I.Source.faults l.input;
}
