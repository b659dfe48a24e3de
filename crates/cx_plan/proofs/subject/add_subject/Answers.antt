use Rattle.std.proofs.Common.{ap, ◌∙◌, not}
use Rattle.cx_plan.specs.Subjects.{has_text}
use Rattle.cx_plan.proofs.Subjects.{contains_text, insert_text}
use Rattle.cx_plan.proofs.subject.add_subject.Goals as goal

pub returns-clause-is_new : goal.returns-clause-is_new
returns-clause-is_new c = c.in_ok-insert.ensures.added ∙ ap not (contains_text c.args.subject.now c.args.subjects.now.keys)

pub returns-clause-keys : goal.returns-clause-keys
returns-clause-keys c = λ text. ap (λ keys. has_text keys text) c.in_ok-insert.ensures.keys ∙ insert_text text c.args.subject c.args.subjects.now.keys
