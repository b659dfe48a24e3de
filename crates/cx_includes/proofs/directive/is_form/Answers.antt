use Rattle.std.proofs.Common.{sym, ◌∙◌}
use Rattle.std.proofs.lemmas.List.{take_rest}
use Rattle.std.proofs.lemmas.Bool.{true≢false}
use Rattle.cx_includes.proofs.Forms.{form_from, form_starts, form_ends}
use Rattle.cx_includes.proofs.directive.is_form.Goals as goal

pub returns-then-starts_with : goal.returns-then-starts_with
returns-then-starts_with c =
    let ends = rw take_rest at c.is_line_end.ensures in (
      λ found. form_from c.args.bytes.now c.args.line.now (sym c.starts_with.ensures.value ∙ c.if-starts_with.true) (sym ends ∙ found),
      λ form. ends ∙ form_ends c.args.bytes.now c.args.line.now form,
    )

pub returns-else-starts_with : goal.returns-else-starts_with
returns-else-starts_with c = (
  λ found. absurd (true≢false (sym found ∙ c.if-starts_with.false)),
  λ form. c.starts_with.ensures.value ∙ form_starts c.args.bytes.now c.args.line.now form,
)
