use Rattle.std.proofs.Common.{◌<◌, ◌^◌, List, length, subst, arith}
use Rattle.cx_code.specs.declared.code.Instruction.{Instruction}
use Rattle.cx_rules.specs.Spans.{IsMisplaced, IsLeast}
use Rattle.cx_rules.proofs.Judging.{denied}
use Rattle.cx_rules.proofs.Regions.{covers_some, covers_code, after_second, keeps_too_much, none}
use Rattle.cx_rules.proofs.Spanning.{marked}
use Rattle.cx_rules.proofs.region.rule_of.Goals as goal

pub returns-then-least-region-clause-rule : goal.returns-then-least-region-clause-rule
returns-then-least-region-clause-rule c =
    let has = c.has_type.ensures.0 c.if-not-has_type.false in
    let target = subst (λ (code : List Instruction). c.args.region.target < length code) c.items.ensures c.if-region-items.false in
    let placed = denied c.is_misplaced.result (IsMisplaced c.args.function.now c.args.region) c.if-is_misplaced.false c.is_misplaced.ensures in
    let known : IsLeast c.args.image.now c.args.function.now c.args.region.start c.args.region.end c.least_over-least.result =
    c.least_over-least.ensures c.args.image.now c.args.function.now c.args.index c.requires.spans (c.requires.around c.if-crosses.false) (covers_some c.args.function.now c.args.region placed) in
    let small : c.args.region.depth < 2 ^ 32 = omega arith in (
      keeps_too_much c.args.image.now c.args.function.now c.args.index c.args.region has target c.least_over-least.result known small c.if-least-region.true,
      after_second c.args.image.now c.args.function.now c.args.index c.args.region has target,
    )

pub returns-clause-rule : goal.returns-clause-rule
returns-clause-rule c =
    let has = c.has_type.ensures.0 c.if-not-has_type.false in
    let target = subst (λ (code : List Instruction). c.args.region.target < length code) c.items.ensures c.if-region-items.false in
    let placed = denied c.is_misplaced.result (IsMisplaced c.args.function.now c.args.region) c.if-is_misplaced.false c.is_misplaced.ensures in
    let known : IsLeast c.args.image.now c.args.function.now c.args.region.start c.args.region.end c.least_over-least.result =
    c.least_over-least.ensures c.args.image.now c.args.function.now c.args.index c.requires.spans (c.requires.around c.if-crosses.false) (covers_some c.args.function.now c.args.region placed) in
    let small : c.args.region.depth < 2 ^ 32 = omega arith in
    none c.args.image.now c.args.function.now c.args.index c.args.region has target c.least_over-least.result known small placed (c.requires.around c.if-crosses.false) c.if-least-region.false

pub returns-clause-spans : goal.returns-clause-spans
returns-clause-spans c = λ e.
    let placed = denied c.is_misplaced.result (IsMisplaced c.args.function.now c.args.region) c.if-is_misplaced.false c.is_misplaced.ensures in
    let some = covers_some c.args.function.now c.args.region placed in
    let known : IsLeast c.args.image.now c.args.function.now c.args.region.start c.args.region.end c.least_over-least.result =
    c.least_over-least.ensures c.args.image.now c.args.function.now c.args.index c.requires.spans (c.requires.around c.if-crosses.false) some in
    rw (c.mark.ensures.ends, c.mark.ensures.least)
    (marked c.args.image.now c.args.function.now c.args.index c.args.spans.now.ends.items c.args.spans.now.least.items c.args.region c.least_over-least.result c.requires.spans c.requires.region some
    (let within = covers_code c.args.function.now c.args.region placed in omega (arith, within, c.requires.spans.each_end)) known)
