use Rattle.std.proofs.Common.{◌+◌, ◌≤◌, List, length, subst, sym}
use Rattle.cx_code.specs.declared.code.Instruction.{Instruction}
use Rattle.cx_rules.specs.Tables.{IsLowest, IsLostAt, IsLostBefore}
use Rattle.cx_rules.proofs.Lowest.{lowest_of_either, at_place, in_code}
use Rattle.cx_rules.proofs.thrown.lost_in.Goals as goal

pub loop-place-preserved : goal.loop-place-preserved
loop-place-preserved c =
    subst (IsLowest (IsLostBefore c.args.image.now c.args.function.now (c.loop-place.place + 1))) (sym c.lesser-lowest.ensures)
    (lowest_of_either (IsLostBefore c.args.image.now c.args.function.now c.loop-place.place) (IsLostAt c.args.image.now c.args.function.now c.loop-place.place) (IsLostBefore c.args.image.now c.args.function.now (c.loop-place.place + 1))
    (at_place c.args.image.now c.args.function.now c.loop-place.place) c.loop-place.lowest c.lost_at.result c.loop-place.invariant c.lost_at.ensures)

pub returns : goal.returns
returns c = in_code c.args.image.now c.args.function.now c.loop-place.place c.loop-place.lowest (subst (λ (code : List Instruction). length code ≤ c.loop-place.place) c.items-place-end.ensures c.loop-place-test.false) c.loop-place.invariant
