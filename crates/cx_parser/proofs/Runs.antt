-- Runs of the machine.
use Rattle.std.proofs.Common.{◌≡◌, ℕ, zero, suc, ◌+◌, ◌<◌, true, false, eqb, refl, ◌∙◌, ap, arith}
use Rattle.std.proofs.lemmas.Bool.Decides.{nat_tests}
use Rattle.cx_parser.specs.Machine.{Config, exec, next}

abbrev pub Takes : Config → Config → Type 0
Takes c d = (n : ℕ) × (exec n c ≡ d)

pub exec_add : (n m : ℕ) (c : Config) → exec (n + m) c ≡ exec m (exec n c)
exec_add zero m c = let e : zero + m ≡ m = omega arith in ap (λ k. exec k c) e
exec_add (suc n) m c = let e : suc n + m ≡ suc (n + m) = omega arith in ap (λ k. exec k c) e ∙ exec_add n m (next c)

pub thus : {c d e : Config} → Takes c d → Takes d e → Takes c e
thus {c} {d} {e} a b = (a.0 + b.0, exec_add a.0 b.0 c ∙ (ap (exec b.0) a.1 ∙ b.1))

-- after so many steps by computation
pub steps : (n : ℕ) {c e : Config} → Takes (exec n c) e → Takes c e
steps n {c} {e} a = (n + a.0, exec_add n a.0 c ∙ a.1)

pub by_step : {c d e : Config} → next c ≡ d → Takes d e → Takes c e
by_step {c} {d} {e} h a = let e1 : 1 + a.0 ≡ suc a.0 = omega arith in (1 + a.0, ap (λ k. exec k c) e1 ∙ (ap (exec a.0) h ∙ a.1))

abbrev pub done : (c : Config) → Takes c c
done c = (0, refl)

pub eqb_above : (a b : ℕ) → b < a → eqb a b ≡ false
eqb_above a b h = grind (arith, nat_tests)

pub eqb_equal : (a b : ℕ) → a ≡ b → eqb a b ≡ true
eqb_equal a b h = grind (arith, nat_tests)

pub equal_eqb : (a b : ℕ) → eqb a b ≡ true → a ≡ b
equal_eqb a b h = grind (arith, nat_tests)
