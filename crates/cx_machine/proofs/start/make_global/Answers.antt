use Rattle.cx_machine.proofs.Globals.{made_full}
use Rattle.cx_machine.proofs.start.make_global.Goals as goal

pub returns : goal.returns
returns g c = record {
  made = made_full (g.M.Memory.store c.args.memory.now) (g.M.Memory.store c.make.new.self) (g.M.Memory.store c.store.new.self) c.in_ok-number.number c.args.value c.store.result c.in_ok-number.ensures.made c.in_ok-number.ensures.number c.store.ensures.stored;
}
