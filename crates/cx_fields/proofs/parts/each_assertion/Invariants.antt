use Rattle.std.proofs.Common.{◌≡◌, ◌-◌}
use Rattle.cx_fields.specs.Parts.{assertion_at}
use Rattle.cx_fields.specs.Reading.{unread, many_at}
use Rattle.cx_fields.proofs.Loop.{with_front}
use Rattle.cx_fields.proofs.parts.each_assertion.Given as goal

abbrev pub invariant-loop : goal.invariant-loop
invariant-loop l = with_front l.items (many_at (assertion_at l.bounds) (l.count - l.counter) (unread l.rest)) ≡ many_at (assertion_at l.bounds) l.count (unread l.fn.start)
