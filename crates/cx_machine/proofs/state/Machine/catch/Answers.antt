use Rattle.std.proofs.Common.{sym, ap, ◌∙◌, rules}
use Rattle.cx_machine.specs.Kept.{counts_due, one_more}
use Rattle.cx_machine.proofs.Told.{held_once_more}
use Rattle.cx_machine.proofs.state.Machine.catch.Goals as goal

pub returns-clause-keeps : goal.returns-clause-keeps
returns-clause-keeps c = λ image. record {
  counted = λ counted. counted;
  told = λ told.
      let pending = c.args.self.now.frame.pending in
      let below = c.args.self.now.below in
      c.in_ok-note.ensures ∙ ap (λ counts. one_more counts c.args.exception.number) told ∙ held_once_more c.args.self.now.held pending below c.args.exception
      ∙ sym (ap (λ held. counts_due held pending below) c.in_ok-push.ensures.ok);
  thrown = search rules;
}
