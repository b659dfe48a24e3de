use Rattle.std.proofs.Common.{◌≡◌, map, take}
use Rattle.cx_plain.specs.Step.{first_due}
use Rattle.cx_mean_parts.specs.Seen.{checks_of, table_of}
use Rattle.cx_mean_parts.specs.Tasks.{due_of}
use Rattle.cx_mean_calls.proofs.row.all_due.Given as goal

abbrev pub invariant-loop-s : goal.invariant-loop-s
invariant-loop-s l = let n = table_of l.machine.program.now in map due_of l.due.items ≡ map first_due (checks_of n (take l.s-index l.specifiers))
