-- Ended runs and cut ones, from what is said of a whole run under each budget.
use Rattle.std.proofs.Common.{◌≡◌, ◌≢◌, ℕ, ◌+◌, ◌-◌, ◌*◌, ◌≤◌, List, [], inl, inr, refl, sym, ap, ◌∙◌, arith}
use Rattle.std.proofs.lemmas.Bool.{cases_lt}
use Rattle.cx_core.specs.Words.{Ending}
use Rattle.cx_core.specs.Event.{Event, Answer, ended, going, waiting, not_a_run}
use Rattle.cx_simulation.specs.Machine.{Progress, Came, spent, halted, exec, Takes}
use Rattle.cx_simulation.specs.Laws.{Whole}
use Rattle.cx_simulation.proofs.Steps.{Extends, stays_ended, still, later, earlier}

module _ {C : Type 0} (step : C → Progress C) where
  -- within a budget of 64 for each step and 64 more, the meaning comes at least as far as the machine
  pub reaches : (n : ℕ) (c d : C) (u t : List Event) (answer : Answer) → exec step n c [] ≡ spent d u → Whole step n c (64 * (n + 1)) t answer → Extends u t × (answer ≢ not_a_run)
  reaches n c d u t (ended x) s w = ((later step n w.0 c d [] u x t s w.1).1, λ e. cc)
  reaches n c d u t going s w = (still step n w.0 c d w.1 [] u t s w.2 (omega (arith, w.3)), λ e. cc)
  reaches n c d u t waiting s w = (still step n w.0 c d w.1 [] u t s w.2 w.3, λ e. cc)
  reaches n c d u t not_a_run s w = absurd w

  -- and within one unit for each 64 steps, less one, the machine comes at least as far as the meaning, which isn't through
  pub lags : (n b : ℕ) (c d : C) (u t : List Event) (answer : Answer) → 64 * b + 64 ≤ n → exec step n c [] ≡ spent d u → Whole step n c b t answer → (answer ≡ going) × Extends t u
  lags n b c d u t (ended x) le s w = let f = (later step n w.0 c d [] u x t s w.1).0 in absurd (omega (arith, le, w.2, f))
  lags n b c d u t going le s w = (refl, earlier step n w.0 c d w.1 [] u t s w.2 (omega (arith, le, w.4)))
  lags n b c d u t waiting le s w = absurd (omega (arith, le, w.3, w.4))
  lags n b c d u t not_a_run le s w = absurd w

  both_ended : (h : Came C) (x y : Ending) (t u : List Event) → h ≡ halted y t → h ≡ halted x u → (ended y ≡ ended x) × (t ≡ u)
  both_ended h x y t u a b = let e : halted y t ≡ halted x u = sym a ∙ b in (cc, cc)

  -- what goes on hasn't ended
  no_end : (n j : ℕ) (c d : C) (u t : List Event) (x : Ending) → exec step n c [] ≡ halted x u → Takes step c [] j d t → n ≤ j → ⊥
  unfolding exec
  no_end n j c d u t x h takes le =
      let m : n + (j - n) ≡ j + 0 = omega (arith, le) in
      let e : halted x u ≡ spent d t = sym (stays_ended step n (j - n) c [] x u h) ∙ ap (λ k. exec step k c []) m ∙ takes 0 in
      absurd cc

  -- the machine that ends after n steps ends as the meaning does
  pub same_end : (n : ℕ) (c : C) (u t : List Event) (x : Ending) (answer : Answer) → exec step n c [] ≡ halted x u → Whole step n c (64 * (n + 1)) t answer → (answer ≡ ended x) × (t ≡ u)
  same_end n c u t x (ended y) h w =
      elim (cases_lt n w.0) [
        | inl lt ↦ let m : n + (w.0 - n) ≡ w.0 = omega (arith, lt) in both_ended (exec step w.0 c []) x y t u w.1 (ap (λ k. exec step k c []) (sym m) ∙ stays_ended step n (w.0 - n) c [] x u h)
        | inr le ↦ let m : w.0 + (n - w.0) ≡ n = omega (arith, le) in both_ended (exec step n c []) x y t u (ap (λ k. exec step k c []) (sym m) ∙ stays_ended step w.0 (n - w.0) c [] y t w.1) h
      ]
  same_end n c u t x going h w = absurd (no_end n w.0 c w.1 u t x h w.2 (omega (arith, w.3)))
  same_end n c u t x waiting h w = absurd (no_end n w.0 c w.1 u t x h w.2 w.3)
  same_end n c u t x not_a_run h w = absurd w
