use Rattle.std.proofs.Common.{◌∙◌, sym}
use Rattle.cx_words.proofs.Apart.{not_distinct, one_more, seen_more}
use Rattle.cx_words.proofs.distinct.are_distinct.Goals as goal

pub loop-name-preserved : goal.loop-name-preserved
loop-name-preserved c = record {
  seen = seen_more c.args.names.now c.loop-name.seen.keys c.insert.new.self.keys c.loop-name.name-index _ c.loop-name-test.true c.loop-name.invariant.seen c.in_ok-insert.ensures.keys;
  distinct =
      one_more c.args.names.now c.loop-name.seen.keys c.loop-name.name-index _ c.in_ok-insert.field-0 c.loop-name-test.true c.loop-name.invariant.seen c.loop-name.invariant.distinct c.in_ok-insert.ensures.added
      ∙ c.if-not-branch.false;
}

pub returns-then-not-branch : goal.returns-then-not-branch
returns-then-not-branch c =
    let more = one_more c.args.names.now c.loop-name.seen.keys c.loop-name.name-index _ c.in_ok-insert.field-0 c.loop-name-test.true c.loop-name.invariant.seen c.loop-name.invariant.distinct c.in_ok-insert.ensures.added in
    sym (not_distinct c.args.names.now _ (more ∙ c.if-not-branch.true))
