use Rattle.std.proofs.Common.{sym, ◌∙◌, subst, arith, take, drop}
use Rattle.std.proofs.lemmas.List.{take_rest}
use Rattle.std.proofs.lemmas.Bool.{true≢false}
use Rattle.std.specs.Prelude.{codes}
use Rattle.cx_includes.specs.Stretch.{IsForm}
use Rattle.cx_includes.proofs.Forms.{file_form_length, file_form_quote, file_form_found}
use Rattle.cx_includes.proofs.directive.file_name_length.Goals as goal
use Rattle.cx_includes.proofs.directive.file_name_length.Goals.{else-length-gt0-via-then-length-gt0+else-is_form, else-length-gt0-via-else-length-gt0}

pub returns-then-is_form : goal.returns-then-is_form
returns-then-is_form c =
    let line = c.args.line.now in
    let n = c.name_length-length.result in
    let begins = sym c.starts_with.ensures.value ∙ c.if-not-starts_with.false in
    let found = file_form_found line n begins (simp take_rest at c.name_length-length.ensures.value) c.if-length-gt0.true ((simp take_rest at c.is_form.ensures).0 c.if-is_form.true) in
    (take n (drop 10 line), found.0, found.1)

pub returns-else-length-gt0 : goal.returns-else-length-gt0
returns-else-length-gt0 c = λ name form.
    let line = c.args.line.now in
    let n = c.name_length-length.result in
    let same = (simp take_rest at c.name_length-length.ensures.value) ∙ file_form_length line name form in
    let some = form.some in
    elim c.else-length-gt0.branch [
      | else-length-gt0-via-then-length-gt0+else-is_form w ↦
          true≢false (sym ((simp take_rest at w.is_form.ensures).1 (subst (λ k. IsForm (codes "\"") (drop k (drop 10 line))) (sym same) (file_form_quote line name form))) ∙ w.if-is_form.false)
      | else-length-gt0-via-else-length-gt0 w ↦ omega (arith, w.if-length-gt0.false)
    ]
