use Rattle.std.proofs.Common.{◌++◌, ◌*◌, codes, ap, ◌∙◌}
use Rattle.std.specs.Fmt.{decimal, signed_decimal}
use Rattle.std.specs.Int.{w32}
use Rattle.std.proofs.lemmas.Int.{to_z-of_z}
use Rattle.cx_generated.specs.Generated.{summary_line}
use Rattle.cx_generated.proofs.Lines.{words_added}
use Rattle.cx_generated.proofs.summary.summary_line.Goals as goal

pub returns : goal.returns
unfolding summary_line
returns c =
    words_added (codes "make ") _ (codes ": functions ") _ (codes ", begins ") _ (codes ", returned ") _ (codes "\n") _ _ _ _ _ _ _ _ _
    (c.in_ok-append.ensures.ok ∙ ap (λ t. t ++ codes "make ") c.new-text.ensures)
    (c.in_ok-put_number.ensures ∙ ap (λ n. c.append.new.self ++ decimal n) c.from.ensures)
    c.in_ok-append-2.ensures.ok
    (c.in_ok-put_number-2.ensures ∙ ap (λ n. c.append-2.new.self ++ decimal n) (ap (λ n. 16 * n) c.from-2.ensures))
    c.in_ok-append-3.ensures.ok
    c.in_ok-put_number-3.ensures
    c.in_ok-append-4.ensures.ok
    (c.in_ok-put_value.ensures ∙ ap (λ z. c.append-4.new.self ++ signed_decimal z) (to_z-of_z w32 c.args.value c.ranges.value))
    c.in_ok-append-5.ensures.ok
