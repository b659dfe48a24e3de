use Rattle.std.proofs.Common.{◌≡◌, ◌-◌}
use Rattle.cx_image.specs.Reading.{global_at}
use Rattle.cx_fields.specs.Reading.{unread, many_at}
use Rattle.cx_fields.proofs.Loop.{with_front}
use Rattle.cx_image.proofs.decoding.each_global.Given as goal

abbrev pub invariant-loop : goal.invariant-loop
invariant-loop l = with_front l.items (many_at global_at (l.count - l.counter) (unread l.rest)) ≡ many_at global_at l.count (unread l.fn.start)
