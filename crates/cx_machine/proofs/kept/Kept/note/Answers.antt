use Rattle.std.proofs.Common.{◌≡◌, ◌+◌, Some, ap, ◌∙◌, arith}
use Rattle.std.specs.Map.{count_at}
use Rattle.cx_code.specs.State.{Exception}
use Rattle.cx_machine.specs.Kept.{counts_in, changed, one_more}
use Rattle.cx_machine.proofs.Told.{is_put}
use Rattle.cx_machine.proofs.kept.Kept.note.Goals as goal

pub returns : goal.returns
unfolding one_more
returns c =
    let counts = counts_in c.args.self.now in
    let number = c.exception.inside.number in
    let more : c.in-Some.more ≡ count_at counts number + 1 = grind (arith, c.in-Some.ensures, c.count-count.ensures) in
    let put = is_put c.args.self.now (record { counts = c.insert.new.self }) number (Some c.in-Some.more) c.in_ok-insert.ensures.updates in
    put ∙ ap (λ n. changed counts number (Some n)) more ∙ ap (λ (e : Exception). one_more counts e.number) c.exception.view_is
