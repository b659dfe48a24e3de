use Rattle.std.proofs.Common.{◌≡◌, ◌+◌, length, min, drop, map}
use Rattle.std.specs.List.{flat_map}
use Rattle.cx_simulation.specs.ImageMachine.{named}
use Rattle.cx_journal.specs.Lines.{event_line}
use Rattle.cx_journal.proofs.length.journal_length.Given as goal

abbrev pub invariant-loop-event : goal.invariant-loop-event
invariant-loop-event l = min (l.count + length (flat_map event_line (map (named l.image) (drop l.event-index l.run.journal)))) 18446744073709551615 ≡ min (length (flat_map event_line (map (named l.image) l.run.journal))) 18446744073709551615
