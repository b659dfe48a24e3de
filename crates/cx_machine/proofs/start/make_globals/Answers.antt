use Rattle.std.proofs.Common.{arith, ap}
use Rattle.cx_code.specs.Store.{Store}
use Rattle.cx_code.specs.State.{initial_value}
use Rattle.cx_machine.proofs.Globals.{small_made, global_more, globals_all}
use Rattle.cx_machine.proofs.start.make_globals.Goals as goal

pub loop-global-preserved : goal.loop-global-preserved
loop-global-preserved g c =
    let old = g.M.Memory.store c.loop-global.memory in
    let new = g.M.Memory.store c.make_global.new.memory in
    let made = rw c.initial_value.ensures at c.in_ok-make_global.ensures.made in
    record {
      store = global_more old new c.args.globals.now c.args.globals.now c.loop-global.global-index c.global-item.result c.loop-global-test.true c.global-item.is c.loop-global.invariant.store made;
      small = small_made old new (initial_value c.global-item.result.initial) made c.loop-global.invariant.small;
      next = omega (arith, ap (λ (s : Store). s.next) made, c.loop-global.invariant.next);
    }

pub returns-clause-store : goal.returns-clause-store
returns-clause-store g c = globals_all (g.M.Memory.store c.loop-global.memory) c.args.globals.now c.args.globals.now c.loop-global.global-index c.loop-global-test.false c.loop-global.invariant.store
