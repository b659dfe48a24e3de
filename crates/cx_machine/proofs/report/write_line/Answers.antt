use Rattle.std.proofs.Common.{◌≡◌, ℕ, List, length, Some, slice_get, refl, sym, ap, subst, ◌∙◌}
use Rattle.std.proofs.lemmas.Option.{slice_get_read}
use Rattle.cx_outside.specs.Stream.{TakesFront}
use Rattle.cx_code.specs.declared.image.Image.{Image}
use Rattle.cx_code.specs.declared.image.Assertion.{Assertion}
use Rattle.cx_code.specs.declared.run.Event.{Event}
use Rattle.cx_code.specs.declared.run.Event.TheVariants.{Handler}
use Rattle.cx_code.specs.declared.violation.DetectionMode.{DetectionMode}
use Rattle.cx_code.specs.declared.violation.Semantic.{Semantic}
use Rattle.cx_code.specs.Violation.{line_of, violation_of, written_at}
use Rattle.cx_machine.proofs.report.write_line.Goals as goal

line_written : (image : Image) (event : Event) (index : ℕ) (mode : DetectionMode) (semantic : Semantic) (items : List Assertion) (assertion : Assertion)
    → event ≡ Handler index mode semantic → items ≡ image.assertions → slice_get items index ≡ Some assertion → written_at image event ≡ line_of (violation_of image assertion mode semantic)
line_written image event index mode semantic items assertion is same found =
    let there : slice_get image.assertions index ≡ Some assertion = subst (λ (xs : List Assertion). slice_get xs index ≡ Some assertion) same found in
    rw (is, there) refl

pub returns-clause-err : goal.returns-clause-err
returns-clause-err g c =
    let took = (rw c.in-Err-Failed.field-0-is at c.in-Err-Failed.ensures.failed_write) refl in
    let lookup = c.in-Some.ensures.lookup in
    let found = slice_get_read c.items.result.now (length c.items.result.now) c.in-Handler.assertion c.in-Some.assertion.now refl lookup.3.0 (lookup.3.1 c.in-Some.assertion.now) in
    let written = line_written c.args.image.now c.args.event c.in-Handler.assertion c.in-Handler.mode c.in-Handler.semantic c.items.result.now c.in-Some.assertion.now c.in-Handler.is c.items.ensures found in
    let line = c.bytes.ensures ∙ c.in_ok-text.ensures ∙ ap line_of c.in_ok-violation.ensures ∙ sym written in
    subst (TakesFront (g.E.Sink.taken c.args.err.now) (g.E.Sink.taken c.write.new.self)) line took
