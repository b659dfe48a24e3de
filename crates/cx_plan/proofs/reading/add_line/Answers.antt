use Rattle.std.proofs.Common.{sym, ap, ◌∙◌, Ok}
use Rattle.std.specs.Prelude.{◌||◌}
use Rattle.std.specs.Str.{bytes_eq}
use Rattle.cx_plan.specs.Reading.{with_line}
use Rattle.cx_plan.specs.Subjects.{has_text}
use Rattle.cx_plan.proofs.Spells.{read_is_spelled}
use Rattle.cx_plan.proofs.Subjects.{with_said, with_new, subject_added}
use Rattle.cx_plan.proofs.reading.add_line.Goals as goal

pub subject-requires : goal.subject-requires
subject-requires c = (read_is_spelled c.args.line.now c.in-Says.says (sym c.in_ok-line_of.ensures ∙ c.in-Says.is)).1

pub returns-then-not-branch-clause-read : goal.returns-then-not-branch-clause-read
returns-then-not-branch-clause-read c =
    let said = sym c.in_ok-line_of.ensures ∙ c.in-Says.is in
    let sayable = (read_is_spelled c.args.line.now c.in-Says.says said).0 in
    ap (with_line c.args.number c.args.lines.now) said
    ∙ with_said c.args.number c.args.subjects.now.keys c.args.lines.now c.in-Says.says _ _ sayable c.requires c.subject.ensures c.in_ok-add_subject-in-Says.ensures.is_new c.if-not-branch.true

pub returns-in_ok-push-in-Says-clause-read : goal.returns-in_ok-push-in-Says-clause-read
returns-in_ok-push-in-Says-clause-read c =
    let said = sym c.in_ok-line_of.ensures ∙ c.in-Says.is in
    let sayable = (read_is_spelled c.args.line.now c.in-Says.says said).0 in
    ap (with_line c.args.number c.args.lines.now) said
    ∙ with_new c.args.number c.args.subjects.now.keys c.args.lines.now c.in-Says.says _ _ sayable c.requires c.subject.ensures c.in_ok-add_subject-in-Says.ensures.is_new c.if-not-branch.false
    ∙ ap Ok (sym c.in_ok-push-in-Says.ensures.ok)

pub returns-in_ok-push-in-Says-clause-subjects : goal.returns-in_ok-push-in-Says-clause-subjects
returns-in_ok-push-in-Says-clause-subjects c =
    let said = sym c.in_ok-line_of.ensures ∙ c.in-Says.is in
    let sayable = (read_is_spelled c.args.line.now c.in-Says.says said).0 in
    let keys = c.in_ok-add_subject-in-Says.ensures.keys in
    rw c.in_ok-push-in-Says.ensures.ok (subject_added c.args.subjects.now.keys _ c.args.lines.now (record { number = c.args.number; says = c.in-Says.says }) sayable
    (λ text. keys text ∙ ap (λ on. bytes_eq text on || has_text c.args.subjects.now.keys text) c.subject.ensures) c.requires)
