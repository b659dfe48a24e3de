use Rattle.std.proofs.Common.{◌≡◌, ℕ, ◌+◌, Some, length, sym, ap, ◌∙◌}
use Rattle.std.specs.Prelude.{option_map, slice_get}
use Rattle.cx_syntax.specs.View.{expr_of}
use Rattle.cx_core.specs.Tree as core
use Rattle.cx_front.specs.Core.{typed_of}
use Rattle.cx_front.proofs.LeafAsserted.{assertion_stands, entry_stands, no_predicate}
use Rattle.cx_front.proofs.assertion.asserted_in.Goals as goal

pub returns-in_ok-index-in-Some-placed_at-clause-stands : goal.returns-in_ok-index-in-Some-placed_at-clause-stands
returns-in_ok-index-in-Some-placed_at-clause-stands c =
    let list = c.args.list.now in
    let index = c.in_ok-index-in-Some-placed_at.index in
    let word = c.in-Some-placed_at.word in
    let there : slice_get list.placed c.args.at ≡ Some word = sym c.placed_at.ensures.is ∙ c.in-Some-placed_at.is in
    ap (λ (s : core.Stmt ℕ). Some s) c.contract_assert.ensures
    ∙ assertion_stands list c.args.names.now c.args.assertions.now c.entry_added.new.assertions c.args.at (expr_of c.args.predicate.now) word index (typed_of c.in-Some.told)
    c.in_ok-index-in-Some-placed_at.ensures.index there (sym c.in_ok-told.ensures ∙ ap (option_map typed_of) c.in-Some.is)

pub returns-in_ok-index-in-Some-placed_at-clause-added : goal.returns-in_ok-index-in-Some-placed_at-clause-added
returns-in_ok-index-in-Some-placed_at-clause-added c =
    let list = c.args.list.now in
    let word = c.in-Some-placed_at.word in
    let there : slice_get list.placed c.args.at ≡ Some word = sym c.placed_at.ensures.is ∙ c.in-Some-placed_at.is in
    entry_stands list c.args.names.now c.args.assertions.now c.entry_added.new.assertions c.args.at (expr_of c.args.predicate.now) word c.in_ok-index-in-Some-placed_at.ensures.added there

pub returns-in-None-clause-stands : goal.returns-in-None-clause-stands
returns-in-None-clause-stands c =
    no_predicate c.args.list.now (length c.args.assertions.now + 1) c.args.names.now c.args.at (expr_of c.args.predicate.now) (sym c.in_ok-told.ensures ∙ ap (option_map typed_of) c.in-None.is)
