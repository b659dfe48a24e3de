use Rattle.std.proofs.Common.{sym, ap, ◌∙◌, rules}
use Rattle.cx_machine.specs.Kept.{counts_due, one_more}
use Rattle.cx_machine.proofs.Told.{pending_once_more}
use Rattle.cx_machine.proofs.state.Machine.clean.Goals as goal

pub returns-clause-keeps : goal.returns-clause-keeps
returns-clause-keeps c = λ image. record {
  counted = λ counted. counted;
  told = λ told.
      let held = c.args.self.now.held in
      let below = c.args.self.now.below in
      c.in_ok-note.ensures ∙ ap (λ counts. one_more counts c.args.exception.number) told ∙ pending_once_more held c.args.self.now.frame.pending below c.args.exception
      ∙ sym (ap (λ pending. counts_due held pending below) c.in_ok-push.ensures.ok);
  thrown = search rules;
}
