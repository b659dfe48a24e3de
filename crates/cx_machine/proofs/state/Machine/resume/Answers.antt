use Rattle.std.proofs.Common.{ap, ◌∙◌, rules}
use Rattle.cx_machine.specs.Kept.{counts_due, one_less}
use Rattle.cx_machine.proofs.Told.{pending_once_less}
use Rattle.cx_machine.proofs.state.Machine.resume.Goals as goal

pub returns-clause-keeps : goal.returns-clause-keeps
returns-clause-keeps c = λ image. record {
  counted = λ counted. counted;
  told = λ told.
      let here = told ∙ ap (λ pending. counts_due c.args.self.now.held pending c.args.self.now.below) c.take-exception.ensures in
      c.drop_one.ensures.less ∙ ap (λ counts. one_less counts c.take-exception.result.number) here ∙ pending_once_less c.args.self.now.held c.take-exception.new.self c.args.self.now.below c.take-exception.result;
  thrown = search rules;
}
