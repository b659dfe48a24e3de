use Rattle.std.proofs.Common.{length, subst, ◌≤◌}
use Rattle.cx_code.specs.declared.code.Instruction.{Instruction}
use Rattle.std.proofs.Common.{List}
use Rattle.cx_rules.proofs.Passing.{one_more, all_passed}
use Rattle.cx_rules.proofs.code.code_rule.Goals as goal

pub loop-place-preserved : goal.loop-place-preserved
loop-place-preserved c = one_more c.args.image.now c.args.function.now c.loop-place.place c.loop-place.invariant c.in_default.ensures

pub returns : goal.returns
returns c = all_passed c.args.image.now c.args.function.now c.loop-place.place (subst (λ (code : List Instruction). length code ≤ c.loop-place.place) c.items-place-end.ensures c.loop-place-test.false) c.loop-place.invariant
