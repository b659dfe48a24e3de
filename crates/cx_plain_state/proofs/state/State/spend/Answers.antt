use Rattle.std.proofs.Common.{◌≡◌, ℕ, zero, suc, ◌<◌, ◌≤◌, ◌-◌, arith, refl, ap}
use Rattle.cx_core.specs.Event.{going}
use Rattle.cx_core.specs.Outcome.{State, on, over, nothing, spend, spend_of}
use Rattle.cx_plain_state.specs.Seen.{state_of}
use Rattle.cx_plain_state.proofs.state.State.spend.Goals as goal

spent : (b : ℕ) (s : State) → 2 ≤ b → spend_of b s ≡ on nothing (record s { budget = b - 1 })
spent zero s h = absurd (omega arith)
spent (suc zero) s h = absurd (omega arith)
spent (suc (suc b)) s h =
    let e : suc b ≡ suc (suc b) - 1 = omega arith in ap (λ n. on nothing (record s { budget = n })) e

not_spent : (b : ℕ) (s : State) → b < 2 → spend_of b s ≡ over going s.trace
not_spent zero s h = refl
not_spent (suc zero) s h = refl
not_spent (suc (suc b)) s h = absurd (omega arith)

pub returns-then-self-lt2 : goal.returns-then-self-lt2
unfolding spend state_of
returns-then-self-lt2 c = record { comes = not_spent c.args.self.now.budget (state_of c.args.self.now) (omega arith) }

pub returns : goal.returns
unfolding spend state_of
returns c = record { comes = spent c.args.self.now.budget (state_of c.args.self.now) (omega arith) }
