use Rattle.std.proofs.Common.{◌≡◌, ◌-◌}
use Rattle.cx_fields.specs.Reading.{unread, each_at}
use Rattle.cx_fields.proofs.Loop.{with_front}
use Rattle.cx_object.specs.Reading.{function_at, code_length}
use Rattle.cx_object.proofs.entries.each_function.Given as goal

abbrev pub invariant-loop : goal.invariant-loop
invariant-loop l = with_front l.items (each_at code_length (function_at l.bounds) l.room (l.count - l.counter) (unread l.rest)) ≡ each_at code_length (function_at l.bounds) 8388609 l.count (unread l.fn.start)
