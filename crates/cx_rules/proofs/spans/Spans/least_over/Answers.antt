use Rattle.std.proofs.Common.{◌≡◌, ◌<◌, ℕ, length, subst, ◌∙◌, arith}
use Rattle.std.proofs.lemmas.Grind.{get_or_default_zero}
use Rattle.cx_rules.specs.Spans.{IsLeast}
use Rattle.cx_rules.proofs.Spanning.{one_span}
use Rattle.cx_rules.proofs.spans.Spans.least_over.Goals as goal

pub spans-preserved : goal.spans-preserved
spans-preserved c = λ image function count spans around some.
    let known = c.spans.invariant image function count spans around some in
    let inside : c.spans.place < length c.args.self.now.ends.items = omega (arith, c.spans-test.true, c.requires.within) in
    let there : c.spans.place < length c.args.self.now.least.items = omega (arith, inside, c.requires.same) in
    one_span image function count c.args.self.now.ends.items c.args.self.now.least.items c.args.region spans c.requires.within around c.spans.place c.spans.least c.index-place.result.now c.index.result.now c.min-least.result
    known.0 c.spans-test.true (c.index-place.ensures ∙ get_or_default_zero _ _ _ inside) (c.index.ensures ∙ get_or_default_zero _ _ _ there) c.min-least.ensures known.2

pub returns : goal.returns
returns c = λ image function count spans around some.
    let known = c.spans.invariant image function count spans around some in
    let arrived : c.spans.place ≡ c.args.region.end = omega (arith, known.1, c.spans-test.false) in
    subst (λ (to : ℕ). IsLeast image function c.args.region.start to c.spans.least) arrived known.2
