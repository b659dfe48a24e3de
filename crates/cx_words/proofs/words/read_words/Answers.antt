use Rattle.std.proofs.Common.{◌≡◌, ◌∙◌, ap, sym, map}
use Rattle.std.specs.Prelude.{option_and_then}
use Rattle.std.specs.String.{string_bytes}
use Rattle.std.proofs.lemmas.Bool.{false≢true}
use Rattle.std.proofs.lemmas.Result.{IfOk-weaker}
use Rattle.clap.specs.declared.error.kind.ErrorKind.TheVariants as kind
use Rattle.cx_words.specs.Words.{request_by}
use Rattle.cx_words.proofs.Taken.{refused, taken}
use Rattle.cx_words.proofs.words.read_words.Goals as goal

pub returns-in-Ok : goal.returns-in-Ok
returns-in-Ok c =
    let words = map string_bytes c.args.words.now in
    let given = taken _ words c.in-Ok.matches c.in_ok-command.ensures c.in-Ok.ensures.kinds c.in-Ok.ensures.matches in
    IfOk-weaker c.request_by.result _ _ (λ request h. h ∙ ap request_by c.in_ok-given_in-in-Ok.ensures ∙ ap (option_and_then request_by) (sym given)) c.request_by.ensures

pub returns : goal.returns
returns c =
    let words = map string_bytes c.args.words.now in
    let other = λ (h : c.kind.result ≡ kind.OutOfMemory). false≢true (rw h at c.if-eq.ensures) in
    let none = refused _ words c.in-Err.error c.in_ok-command.ensures c.in-Err.ensures.kinds (λ h. other (c.kind.ensures ∙ h)) in
    ap (option_and_then request_by) (sym none)
