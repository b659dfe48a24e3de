use Rattle.std.proofs.Common.{refl}
use Rattle.cx_tool.specs.Exec.{IsJournaled}
use Rattle.cx_tool.proofs.journal.journaled.Goals as goal

pub returns-in-Stopped-clause-journaled : goal.returns-in-Stopped-clause-journaled
returns-in-Stopped-clause-journaled g c = IsJournaled.stopped c.in-Stopped.cause c.in-Stopped.is c.stop_answer.ensures refl
