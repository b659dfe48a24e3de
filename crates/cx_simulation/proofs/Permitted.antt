-- What a followed machine runs is permitted.
use Rattle.std.proofs.Common.{◌≡◌, ◌≢◌, ℕ, zero, suc, ◌+◌, ◌-◌, ◌*◌, ◌/◌, ◌≤◌, List, [], map, reverse, Option, refl, sym, ap, ◌∙◌, subst, arith}
use Rattle.std.proofs.Math.Nat.{mul-div-le}
use Rattle.cx_code.specs.State.{initial}
use Rattle.cx_code.specs.Run.{machine}
use Rattle.cx_core.specs.Words.{Ending, Returned, ContractTerminated, Terminated, Undefined, TooDeep, StepsSpent, Stopped, NotStarted}
use Rattle.cx_core.specs.Program.{Program}
use Rattle.cx_core.specs.Event.{Event, Evaluation, ended, going, not_a_run, begins_of}
use Rattle.cx_core.specs.Outcome.{either, spend}
use Rattle.cx_core.specs.Meaning.{Meaning, mean, mean_within, calls_within}
use Rattle.cx_core.specs.Runs.{IsPrefix, IsRun, IsBegun, IsCutRun, IsPermitted, MachineRun, meant, factor}
use Rattle.cx_simulation.specs.Machine.{Progress, goes, halts, noted, spent, halted, onwards, exec, begins_ahead, run_from}
use Rattle.cx_simulation.specs.ImageMachine.{named, image_step, image_run}
use Rattle.cx_simulation.specs.Laws.{IsFollowed, FollowedRunsArePermitted}
use Rattle.cx_simulation.proofs.Steps.{HaltsItself, prefix_of, Begins, tells}
use Rattle.cx_simulation.proofs.Halts.{halts_itself}
use Rattle.cx_simulation.proofs.Cut.{reaches, lags, same_end}
use Rattle.cx_simulation.proofs.Named.{run_of, same_run, runs_named}

-- without a budget nothing is done
zero_budget : (program : Program) (begins : List Evaluation) (input : List ℕ) → mean program begins input 0 ≡ record { trace = []; answer = going }
unfolding mean mean_within calls_within either spend
zero_budget program begins input = refl

module _ {C : Type 0} (step : C → Progress C) where
  -- a run was cut after its last step, or has ended
  data Ran (n : ℕ) (c : C) (t : List Event) (taken : ℕ) (run : MachineRun) : Type 0 where
    cut : (d : C) (u : List Event) → exec step n c t ≡ spent d u → run ≡ run_of (reverse u) StepsSpent (taken + n) → Ran n c t taken run
    through : (m : ℕ) (x : Ending) (u : List Event) → exec step m c t ≡ halted x u → x ≢ StepsSpent → run ≡ run_of (reverse u) x (taken + m) → Ran n c t taken run

  ran : HaltsItself step → (n : ℕ) (c : C) (t : List Event) (taken : ℕ) → Ran n c t taken (run_from step n c t taken)
  unfolding exec run_from
  ran itself zero c t taken = cut c t refl (same_run (reverse t) (reverse t) StepsSpent taken (taken + 0) refl (omega arith))
  ran itself (suc n) c t taken = go (ran itself n) (itself c) (step c) refl
    where
      goes_on : (d : C) (event : Option Event) → step c ≡ goes d event → (m : ℕ) → exec step (suc m) c t ≡ exec step m d (noted event t)
      goes_on d event e m = ap (λ p. onwards step p t (exec step m) halted) e

      behind_one : (d : C) (event : Option Event) → step c ≡ goes d event → (run : MachineRun) → Ran n d (noted event t) (suc taken) run → Ran (suc n) c t taken run
      behind_one d event e run (cut f u s r) = cut f u (goes_on d event e n ∙ s) (r ∙ same_run (reverse u) (reverse u) StepsSpent (suc taken + n) (taken + suc n) refl (omega arith))
      behind_one d event e run (through m x u s other r) = through (suc m) x u (goes_on d event e m ∙ s) other (r ∙ same_run (reverse u) (reverse u) x (suc taken + m) (taken + suc m) refl (omega arith))

      go : ((d : C) (u : List Event) (k : ℕ) → Ran n d u k (run_from step n d u k)) → ((event : Option Event) → step c ≢ halts StepsSpent event) → (p : Progress C) → step c ≡ p
          → Ran (suc n) c t taken (onwards step p t (λ d after. run_from step n d after (suc taken)) (λ ending after. run_of (reverse after) ending (suc taken)))
      go more never (goes d event) e = behind_one d event e _ (more d (noted event t) (suc taken))
      go more never (halts x event) e =
          through 1 x (noted event t) (ap (λ p. onwards step p t (exec step 0) halted) e) (λ same. never event (e ∙ ap (λ y. halts y event) same))
          (same_run (reverse (noted event t)) (reverse (noted event t)) x (suc taken) (taken + 1) refl (omega arith))

  told_at : (n : ℕ) (c d : C) (u : List Event) → exec step n c [] ≡ spent d u → begins_of (reverse u) ≡ begins_ahead step n c
  told_at n c d u s = subst (Begins step (begins_ahead step n c)) s (tells step n c [])

  told_to_end : (n : ℕ) (c : C) (x : Ending) (u : List Event) → exec step n c [] ≡ halted x u → begins_of (reverse u) ≡ begins_ahead step n c
  told_to_end n c x u s = subst (Begins step (begins_ahead step n c)) s (tells step n c [])

  module _ (program : Program) (input : List ℕ) (c : C) (followed : IsFollowed step program input c) where
    -- what the meaning says, told what the machine began
    meant_is : (n budget : ℕ) (u : List Event) → begins_of (reverse u) ≡ begins_ahead step n c → meant program input (reverse u) budget ≡ mean program (begins_ahead step n c) input budget
    meant_is n budget u e = ap (λ begins. mean program begins input budget) e

    is_run : (n : ℕ) (x : Ending) (u : List Event) → exec step n c [] ≡ halted x u → IsRun program input (reverse u) x n
    is_run n x u s =
        let w = followed n (factor * (n + 1)) in
        let m = mean program (begins_ahead step n c) input (factor * (n + 1)) in
        let e = same_end step n c u w.0 x m.answer s w.2 in
        meant_is n (factor * (n + 1)) u (told_to_end n c x u s) ∙ same m (w.1 ∙ ap reverse e.1) e.0
      where
        same : (m : Meaning) → m.trace ≡ reverse u → m.answer ≡ ended x → m ≡ record { trace = reverse u; answer = ended x }
        same m e f = ap (λ t. record m { trace = t }) e ∙ ap (λ a. record { trace = reverse u; answer = a }) f

    is_begun : (n : ℕ) (d : C) (u : List Event) → exec step n c [] ≡ spent d u → IsBegun program input (reverse u) n
    is_begun n d u s =
        let w = followed n (factor * (n + 1)) in
        let m = mean program (begins_ahead step n c) input (factor * (n + 1)) in
        let r = reaches step n c d u w.0 m.answer s w.2 in
        subst (λ (m : Meaning). IsPrefix (reverse u) m.trace × (m.answer ≢ not_a_run)) (sym (meant_is n (factor * (n + 1)) u (told_at n c d u s)))
        (subst (IsPrefix (reverse u)) (sym w.1) (prefix_of u w.0 r.0), r.1)

    got_so_far : (n : ℕ) (d : C) (u : List Event) → exec step n c [] ≡ spent d u → (b : ℕ) → 64 * b + 64 ≤ n → (meant program input (reverse u) b).answer ≡ going × IsPrefix (meant program input (reverse u) b).trace (reverse u)
    got_so_far n d u s b le =
        let w = followed n b in
        let m = mean program (begins_ahead step n c) input b in
        let r = lags step n b c d u w.0 m.answer le s w.2 in
        subst (λ (m : Meaning). (m.answer ≡ going) × IsPrefix m.trace (reverse u)) (sym (meant_is n b u (told_at n c d u s)))
        (r.0, subst (λ t. IsPrefix t (reverse u)) (sym w.1) (prefix_of w.0 u r.1))

    is_cut_run : (n : ℕ) (d : C) (u : List Event) → exec step n c [] ≡ spent d u → IsCutRun program input (reverse u) n
    is_cut_run n d u s = let far = so_far (n / factor) (mul-div-le n factor) in (is_begun n d u s, far.0, far.1)
      where
        so_far : (q : ℕ) → factor * q ≤ n → ((meant program input (reverse u) (q - 1)).answer ≡ going) × IsPrefix (meant program input (reverse u) (q - 1)).trace (reverse u)
        so_far zero le =
            let e = zero_budget program (begins_of (reverse u)) input in
            let begins : IsPrefix [] (reverse u) = (reverse u, refl) in
            (ap (λ (m : Meaning). m.answer) e, subst (λ (m : Meaning). IsPrefix m.trace (reverse u)) (sym e) begins)
        so_far (suc q) le =
            let b : q ≡ suc q - 1 = omega arith in
            subst (λ k. ((meant program input (reverse u) k).answer ≡ going) × IsPrefix (meant program input (reverse u) k).trace (reverse u)) b (got_so_far n d u s q (omega (arith, le)))

    ended_run : (x : Ending) (limit steps : ℕ) (journal : List Event) → x ≢ StepsSpent → IsRun program input journal x steps → IsPermitted program input limit journal steps x
    ended_run (Returned v) limit steps journal other is = is
    ended_run ContractTerminated limit steps journal other is = is
    ended_run Terminated limit steps journal other is = is
    ended_run (Undefined kind) limit steps journal other is = is
    ended_run TooDeep limit steps journal other is = is
    ended_run StepsSpent limit steps journal other is = absurd (other refl)
    ended_run (Stopped cause) limit steps journal other is = is
    ended_run NotStarted limit steps journal other is = is

    permitted : (limit : ℕ) (run : MachineRun) → Ran limit c [] 0 run → IsPermitted program input limit run.journal run.steps run.ending
    permitted limit run (cut d u s r) =
        subst (λ (run : MachineRun). IsPermitted program input limit run.journal run.steps run.ending) (sym r) (is_cut_run limit d u s)
    permitted limit run (through m x u s other r) =
        let steps : m ≡ 0 + m = omega arith in
        let is : IsRun program input (reverse u) x (0 + m) = subst (λ k. IsRun program input (reverse u) x k) steps (is_run m x u s) in
        subst (λ (run : MachineRun). IsPermitted program input limit run.journal run.steps run.ending) (sym r) (ended_run x limit (0 + m) (reverse u) other is)

pub followed : FollowedRunsArePermitted
followed image program each input limit bytes some =
    let c = initial image input in
    let run = machine image input limit in
    let steps : 0 + run.steps ≡ run.steps = omega arith in
    let same : run_from (image_step image) limit c [] 0 ≡ image_run image input limit =
    runs_named image limit c [] 0 ∙ same_run (map (named image) run.journal) (map (named image) run.journal) run.ending (0 + run.steps) run.steps refl steps in
    subst (λ (run : MachineRun). IsPermitted program input limit run.journal run.steps run.ending) same
    (permitted (image_step image) program input c (each input bytes) limit (run_from (image_step image) limit c [] 0) (ran (image_step image) (halts_itself image) limit c [] 0))
