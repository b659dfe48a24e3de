use Rattle.std.proofs.Common.{◌≡◌, ◌-◌, ℕ, Option, Some, None, is_some, sym, ap, ◌∙◌, arith}
use Rattle.std.specs.Map.{count_at}
use Rattle.std.specs.Option.{unwrap_or}
use Rattle.cx_code.specs.State.{Exception}
use Rattle.cx_machine.specs.Kept.{counts_in, changed, over_zero, one_less}
use Rattle.cx_machine.proofs.Told.{is_put, some_over_zero}
use Rattle.cx_machine.proofs.kept.Kept.drop_one.Goals as goal

pub returns-then-count-le1-clause-less : goal.returns-then-count-le1-clause-less
unfolding one_less
returns-then-count-le1-clause-less c =
    let counts = counts_in c.args.self.now in
    let none : count_at counts c.exception.inside.number - 1 ≡ 0 = omega (arith, c.count-count.ensures) in
    is_put c.args.self.now (record { counts = c.remove.new.self }) c.exception.inside.number None c.remove.ensures.updates ∙ ap (λ n. changed counts c.exception.inside.number (over_zero n)) (sym none) ∙ ap (λ (e : Exception). one_less counts e.number) c.exception.view_is

pub returns-then-count-le1-clause-left : goal.returns-then-count-le1-clause-left
unfolding counts_in
returns-then-count-le1-clause-left c = sym (ap is_some c.remove.ensures.updates.1) ∙ ap (λ (e : Exception). is_some (counts_in (record { counts = c.remove.new.self }) e.number)) c.exception.view_is

pub unreachable-requires : goal.unreachable-requires
unfolding counts_in
unreachable-requires c =
    let none : count_at (counts_in c.args.self.now) c.exception.inside.number ≡ 0 = ap (λ (o : Option ℕ). unwrap_or o 0) c.in-Err.ensures.absent in
    omega (arith, none, c.count-count.ensures)

pub returns-clause-less : goal.returns-clause-less
unfolding one_less
returns-clause-less c =
    let counts = counts_in c.args.self.now in
    let fewer : c.count-count.result - 1 ≡ count_at counts c.exception.inside.number - 1 = omega (arith, c.count-count.ensures) in
    let some : Some (c.count-count.result - 1) ≡ over_zero (count_at counts c.exception.inside.number - 1) = some_over_zero (c.count-count.result - 1) (omega arith) ∙ ap over_zero fewer in
    is_put c.args.self.now (record { counts = c.insert.new.self }) c.exception.inside.number (Some (c.count-count.result - 1)) c.in-Ok.ensures.updates ∙ ap (changed counts c.exception.inside.number) some ∙ ap (λ (e : Exception). one_less counts e.number) c.exception.view_is

pub returns-clause-left : goal.returns-clause-left
unfolding counts_in
returns-clause-left c = sym (ap is_some c.in-Ok.ensures.updates.1) ∙ ap (λ (e : Exception). is_some (counts_in (record { counts = c.insert.new.self }) e.number)) c.exception.view_is
