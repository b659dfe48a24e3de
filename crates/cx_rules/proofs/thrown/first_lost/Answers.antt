use Rattle.std.proofs.Common.{◌+◌, ◌≤◌, ◌<◌, List, length, subst, sym}
use Rattle.cx_code.specs.declared.image.Function.{Function}
use Rattle.cx_rules.specs.Tables.{IsLowest, IsLostIn, IsLostInFirst}
use Rattle.cx_rules.proofs.Lowest.{lowest_of_either, at_function, in_functions, read_at}
use Rattle.cx_rules.proofs.thrown.first_lost.Goals as goal

pub loop-index-preserved : goal.loop-index-preserved
loop-index-preserved c =
    let within : c.loop-index.index < length c.args.image.now.functions = subst (λ (functions : List Function). c.loop-index.index < length functions) c.items-index-end.ensures c.loop-index-test.true in
    let inside : c.loop-index.index < length c.items.result.now = subst (λ (functions : List Function). c.loop-index.index < length functions) (sym c.items.ensures) within in
    subst (IsLowest (IsLostInFirst c.args.image.now (c.loop-index.index + 1))) (sym c.lesser-lowest.ensures)
    (lowest_of_either (IsLostInFirst c.args.image.now c.loop-index.index) (IsLostIn c.args.image.now c.index-items-index.result) (IsLostInFirst c.args.image.now (c.loop-index.index + 1))
    (at_function c.args.image.now c.loop-index.index c.index-items-index.result (read_at _ _ _ _ c.items.ensures inside c.index-items-index.is)) c.loop-index.lowest c.lost_in.result c.loop-index.invariant c.lost_in.ensures)

pub returns : goal.returns
returns c = in_functions c.args.image.now c.loop-index.index c.loop-index.lowest (subst (λ (functions : List Function). length functions ≤ c.loop-index.index) c.items-index-end.ensures c.loop-index-test.false) c.loop-index.invariant
