use Rattle.std.proofs.Common.{◌<◌, ◌≤◌, List, length, subst, sym}
use Rattle.cx_code.specs.declared.image.Function.{Function}
use Rattle.cx_rules.specs.Parts.{IsOf, IsFirstAmong}
use Rattle.cx_rules.proofs.Lowest.{read_at}
use Rattle.cx_rules.proofs.Accepting.{one_more, first_found, tables_found}
use Rattle.cx_rules.proofs.whole.first_broken.Goals as goal

pub returns-in-Some : goal.returns-in-Some
returns-in-Some c = first_found c.args.image.now c.loop-index.index c.loop-index.invariant c.in-Some.found (subst (IsFirstAmong c.args.image.now (IsOf c.loop-index.index)) c.in-Some.is c.in_ok-found.ensures.first)

pub loop-index-preserved : goal.loop-index-preserved
loop-index-preserved c =
    let within = subst (λ (functions : List Function). c.loop-index.index < length functions) c.items-index-end.ensures c.loop-index-test.true in
    let inside = subst (λ (functions : List Function). c.loop-index.index < length functions) (sym c.items.ensures) within in
    one_more c.args.image.now c.loop-index.index c.index-items-index.result (read_at _ _ _ _ c.items.ensures inside c.index-items-index.is) c.loop-index.invariant
    (subst (IsFirstAmong c.args.image.now (IsOf c.loop-index.index)) c.in_default.is c.in_ok-found.ensures.first) c.in_ok-found.ensures.known

pub returns : goal.returns
returns c = tables_found c.args.image.now c.loop-index.index c.loop-index.invariant (subst (λ (functions : List Function). length functions ≤ c.loop-index.index) c.items-index-end.ensures c.loop-index-test.false) c.tables_rule.result c.tables_rule.ensures
