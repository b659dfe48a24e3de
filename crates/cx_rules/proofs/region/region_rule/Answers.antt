use Rattle.std.proofs.Common.{◌≤◌, List, length, subst, arith}
use Rattle.cx_code.specs.declared.code.Region.{Region}
use Rattle.cx_rules.specs.Spans.{IsCrossed}
use Rattle.cx_rules.proofs.Regions.{around, all_passed}
use Rattle.cx_rules.proofs.Spanning.{single_spans, enough_each}
use Rattle.cx_rules.proofs.region.region_rule.Goals as goal

pub single_spans-requires-clause-enough : goal.single_spans-requires-clause-enough
single_spans-requires-clause-enough c = enough_each c.args.image.now c.args.function.now c.requires.code c.args.arrivals.now c.requires.arrivals

pub loop-index-init : goal.loop-index-init
loop-index-init c = record {
  before = λ earlier region rule less. absurd (omega (arith, less));
  spans = single_spans c.args.image.now c.args.function.now c.requires.code c.args.arrivals.now c.in_ok-spans.spans.ends.items c.in_ok-spans.spans.least.items c.requires.arrivals c.in_ok-spans.ensures.single c.in_ok-spans.ensures.each;
  ahead = λ at e. omega arith;
}

pub next_rule-requires-clause-around : goal.next_rule-requires-clause-around
next_rule-requires-clause-around c = λ not.
    around c.args.function.now.regions c.in_ok-crossing.crossing c.loop-index.index (subst (λ (regions : List Region). IsCrossed regions c.in_ok-crossing.crossing) c.items.ensures c.in_ok-crossing.ensures) c.loop-index.invariant.ahead (λ e. let is = c.is_at-crosses.ensures.1 e in cc)

pub returns : goal.returns
returns c = all_passed c.args.image.now c.args.function.now c.loop-index.index (subst (λ (regions : List Region). length regions ≤ c.loop-index.index) c.items-index-end.ensures c.loop-index-test.false) c.loop-index.invariant.before
