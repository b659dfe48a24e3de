use Rattle.std.proofs.Common.{sym, ◌∙◌}
use Rattle.std.proofs.lemmas.Bool.{true≢false}
use Rattle.cx_includes.proofs.Forms.{form_once, form_contracts, form_cstdio, form_file, no_form}
use Rattle.cx_includes.proofs.directive.form_of.Goals as goal

pub returns-then-is_form : goal.returns-then-is_form
returns-then-is_form c = form_once c.args.text.now c.args.line.now c.args.at c.requires.line (c.is_form.ensures.0 c.if-is_form.true)

pub returns-then-is_form-2 : goal.returns-then-is_form-2
returns-then-is_form-2 c = form_contracts c.args.text.now c.args.line.now c.args.at c.requires.line (c.is_form-2.ensures.0 c.if-is_form-2.true)

pub returns-then-is_form-3 : goal.returns-then-is_form-3
returns-then-is_form-3 c = form_cstdio c.args.text.now c.args.line.now c.args.at c.requires.line (c.is_form-3.ensures.0 c.if-is_form-3.true)

pub returns-in_default : goal.returns-in_default
returns-in_default c = λ directive form. no_form c.args.text.now c.args.line.now c.args.at c.requires.line directive
    (λ one. true≢false (sym (c.is_form.ensures.1 one) ∙ c.if-is_form.false))
    (λ one. true≢false (sym (c.is_form-2.ensures.1 one) ∙ c.if-is_form-2.false))
    (λ one. true≢false (sym (c.is_form-3.ensures.1 one) ∙ c.if-is_form-3.false))
    c.in_default.ensures
    form

pub returns : goal.returns
returns c =
    let told = c.in-Some.ensures in
    form_file c.args.text.now c.args.line.now c.args.at c.requires.line told.0 c.in-Some.length told.1 told.2
