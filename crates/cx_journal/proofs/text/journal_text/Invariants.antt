use Rattle.std.proofs.Common.{◌≡◌, ◌++◌, drop, map}
use Rattle.std.specs.List.{flat_map}
use Rattle.cx_simulation.specs.ImageMachine.{named}
use Rattle.cx_journal.specs.Lines.{event_line}
use Rattle.cx_journal.proofs.text.journal_text.Given as goal

abbrev pub invariant-loop-event : goal.invariant-loop-event
invariant-loop-event l = l.text ++ flat_map event_line (map (named l.image) (drop l.event-index l.run.journal)) ≡ flat_map event_line (map (named l.image) l.run.journal)
