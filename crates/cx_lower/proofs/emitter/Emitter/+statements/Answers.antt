use Rattle.std.proofs.Common.{rules, arith, ◌∙◌}
use Rattle.std.proofs.lemmas.Result.{on_ok_weaker}
use Rattle.cx_core.specs.declared.statement.Statement.{the_lemmas}
use Rattle.cx_lower.proofs.Blocks.{next_literals, live_fits, statement_fits, one_more, all_put}
use Rattle.cx_lower.proofs.Branches.{else_literals, body_literals, first_fits, else_fits, second_fits, if_emitted, condition_fits, body_fits, put_fits, while_emitted}
use Rattle.cx_lower.proofs.emitter.Emitter.+statements.Goals as goal

-- ---- an `if`

pub put_statement-turn_branch-requires-clause-room : goal.put_statement-turn_branch-requires-clause-room
put_statement-turn_branch-requires-clause-room t c =
    let first_is = rw c.deref-in-If.ensures at c.in_ok-put_statement-in-If.ensures in
    first_fits c.args.self.now c.args.live c.args.s.now c.args.code.now c.in-If.c c.in-If.a c.in-If.b c.in-If.is _ _ c.in_ok-over-in-If.ensures.code first_is c.requires.room

pub put_statement-put_statement-requires-in-If : goal.put_statement-put_statement-requires-in-If
put_statement-put_statement-requires-in-If t c =
    let first_is = rw c.deref-in-If.ensures at c.in_ok-put_statement-in-If.ensures in
    let fits = else_fits c.args.self.now c.args.live c.args.s.now c.args.code.now c.in-If.c c.in-If.a c.in-If.b c.in-If.is _ _ c.in_ok-over-in-If.ensures.code first_is _ _ c.in_ok-past-in-If.ensures.code c.requires.room in
    let literals = else_literals c.args.self.now c.args.live c.args.s.now c.args.code.now c.in-If.c c.in-If.a c.in-If.b c.in-If.is c.requires.fits in
    (search (rules, the_lemmas), rw c.deref-in-If-2.ensures (literals, fits))

pub put_statement-close_branch-requires-clause-room : goal.put_statement-close_branch-requires-clause-room
put_statement-close_branch-requires-clause-room t c =
    let first_is = rw c.deref-in-If.ensures at c.in_ok-put_statement-in-If.ensures in
    let second_is = rw c.deref-in-If-2.ensures at c.in_ok-put_statement-in-If-2.ensures in
    second_fits c.args.self.now c.args.live c.args.s.now c.args.code.now c.in-If.c c.in-If.a c.in-If.b c.in-If.is _ _ c.in_ok-over-in-If.ensures.code first_is _ _ c.in_ok-past-in-If.ensures.code _ second_is c.requires.room

pub put_statement-returns-in_ok-put_statement-in-If-2 : goal.put_statement-returns-in_ok-put_statement-in-If-2
put_statement-returns-in_ok-put_statement-in-If-2 t c =
    let first_is = rw c.deref-in-If.ensures at c.in_ok-put_statement-in-If.ensures in
    let second_is = rw c.deref-in-If-2.ensures at c.in_ok-put_statement-in-If-2.ensures in
    if_emitted c.args.self.now c.args.live c.args.s.now c.args.code.now c.in-If.c c.in-If.a c.in-If.b c.in-If.is _ _ c.in_ok-over-in-If.ensures.code first_is _ _ c.in_ok-past-in-If.ensures.code _ second_is _ _ c.in_ok-over-in-If.ensures.place c.in_ok-past-in-If.ensures.place c.close_branch.ensures

-- ---- a loop

pub put_statement-open_branch-requires-in-While-clause-room : goal.put_statement-open_branch-requires-in-While-clause-room
put_statement-open_branch-requires-in-While-clause-room t c = condition_fits c.args.self.now c.args.live c.args.s.now c.args.code.now c.in-While.c c.in-While.body c.in-While.is _ c.in_ok-turn-in-While.ensures.code c.requires.room

pub put_statement-put_statement-requires-in-While : goal.put_statement-put_statement-requires-in-While
put_statement-put_statement-requires-in-While t c =
    let fits = body_fits c.args.self.now c.args.live c.args.s.now c.args.code.now c.in-While.c c.in-While.body c.in-While.is _ c.in_ok-turn-in-While.ensures.code _ c.in_ok-over-in-While.ensures.code c.requires.room in
    let literals = body_literals c.args.self.now c.args.live c.args.s.now c.args.code.now c.in-While.c c.in-While.body c.in-While.is c.requires.fits in
    (search (rules, the_lemmas), rw c.deref-in-While.ensures (literals, fits))

pub put_statement-close_loop-requires-clause-room : goal.put_statement-close_loop-requires-clause-room
put_statement-close_loop-requires-clause-room t c =
    let put_is = rw c.deref-in-While.ensures at c.in_ok-put_statement-in-While.ensures in
    put_fits c.args.self.now c.args.live c.args.s.now c.args.code.now c.in-While.c c.in-While.body c.in-While.is _ c.in_ok-turn-in-While.ensures.code _ c.in_ok-over-in-While.ensures.code _ put_is c.requires.room

pub put_statement-returns-in_ok-put_statement-in-While : goal.put_statement-returns-in_ok-put_statement-in-While
put_statement-returns-in_ok-put_statement-in-While t c =
    let put_is = rw c.deref-in-While.ensures at c.in_ok-put_statement-in-While.ensures in
    on_ok_weaker c.close_loop.result
    (λ closed_is. while_emitted c.args.self.now c.args.live c.args.s.now c.args.code.now c.in-While.c c.in-While.body c.in-While.is _ c.in_ok-turn-in-While.ensures.code _ c.in_ok-over-in-While.ensures.code _ put_is _ _ _ c.in_ok-turn-in-While.ensures.place c.in_ok-over-in-While.ensures.place closed_is)
    c.close_loop.ensures

-- ---- a block

pub put_statements-overflow_add-base : goal.put_statements-overflow_add-base
put_statements-overflow_add-base t c = omega (arith, live_fits c.args.self.now c.args.code.now c.loop-s.code c.args.base c.loop-s.count c.loop-s.s-index c.args.b.now c.loop-s.invariant.code c.requires.room)

pub put_statements-put_statement-requires : goal.put_statements-put_statement-requires
put_statements-put_statement-requires t c =
    let fits = statement_fits c.args.self.now c.args.code.now c.loop-s.code c.args.base c.loop-s.count c.loop-s.s-index c.args.b.now c.loop-s.invariant.code c.requires.room c.s-item.result c.loop-s-test.true c.s-item.is in
    let literals = next_literals c.args.b.now c.loop-s.s-index c.s-item.result c.loop-s-test.true c.s-item.is c.loop-s.invariant.literals in
    (search (rules, the_lemmas), (literals.0, fits))

pub put_statements-live_behind-count-requires : goal.put_statements-live_behind-count-requires
put_statements-live_behind-count-requires t c = omega (arith, live_fits c.args.self.now c.args.code.now c.loop-s.code c.args.base c.loop-s.count c.loop-s.s-index c.args.b.now c.loop-s.invariant.code c.requires.room)

pub put_statements-loop-s-preserved : goal.put_statements-loop-s-preserved
put_statements-loop-s-preserved t c = record {
  code = one_more c.args.self.now c.args.code.now c.loop-s.code c.args.base c.loop-s.count c.loop-s.s-index c.args.b.now c.loop-s.invariant.code c.requires.room c.s-item.result c.loop-s-test.true c.s-item.is _ _ c.in_ok-put_statement.ensures c.live_behind-count.ensures;
  literals = (next_literals c.args.b.now c.loop-s.s-index c.s-item.result c.loop-s-test.true c.s-item.is c.loop-s.invariant.literals).1;
}

pub put_statements-put_ends-requires : goal.put_statements-put_ends-requires
put_statements-put_ends-requires t c = omega (arith, live_fits c.args.self.now c.args.code.now c.loop-s.code c.args.base c.loop-s.count c.loop-s.s-index c.args.b.now c.loop-s.invariant.code c.requires.room)

pub put_statements-returns : goal.put_statements-returns
put_statements-returns t c =
    on_ok_weaker c.put_ends.result (λ is. is ∙ all_put c.args.self.now c.args.code.now c.loop-s.code c.args.base c.loop-s.count c.loop-s.s-index c.args.b.now c.loop-s.invariant.code c.requires.room c.loop-s-test.false) c.put_ends.ensures
