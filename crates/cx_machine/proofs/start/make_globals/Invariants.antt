use Rattle.std.proofs.Common.{◌≡◌, ◌+◌, drop}
use Rattle.cx_code.specs.Store.{nothing_made}
use Rattle.cx_code.specs.State.{with_globals}
use Rattle.cx_frame.specs.Stores.{IsSmall}
use Rattle.cx_machine.proofs.start.make_globals.Given as goal

abbrev pub invariant-loop-global : goal.invariant-loop-global
invariant-loop-global g l = record {
  store : with_globals (g.M.Memory.store l.memory) (drop l.global-index l.globals) ≡ with_globals nothing_made l.globals;
  small : IsSmall (g.M.Memory.store l.memory);
  next : (g.M.Memory.store l.memory).next ≡ 1 + l.global-index;
}
