-- What a machine runs that follows the call of main is permitted.
use Rattle.std.proofs.Common.{◌≡◌, ◌≢◌, ℕ, ℤ, true, ◌+◌, ◌≤◌, List, [], reverse, refl, sym, ap, ◌∙◌, subst, arith}
use Rattle.cx_code.specs.State.{initial}
use Rattle.cx_core.specs.Words.{Ending, Returned, Terminated, Undefined, Mixed}
use Rattle.cx_core.specs.Store.{Value, number, address, null, function, violation}
use Rattle.cx_core.specs.Event.{Event, Evaluation, ended, going, waiting, not_a_run}
use Rattle.cx_core.specs.Outcome.{State, Outcome, on, thrown, over}
use Rattle.cx_core.specs.declared.number.IntegerType.TheVariants as types
use Rattle.cx_core.specs.Number.{in_range}
use Rattle.cx_core.specs.Meaning.{meaning_of, mean, mean_within, main_call, calls_within, depth_limit, start}
use Rattle.cx_simulation.specs.Machine.{Progress, exec, Takes, begins_ahead}
use Rattle.cx_simulation.specs.ImageMachine.{image_step}
use Rattle.cx_simulation.specs.Laws.{Whole}
use Rattle.cx_simulation.specs.Parts.{Leads, Comes, Follows, EndsSoon, HasReturned, IsUncaught, whole_account, FollowedCallsOfMainArePermitted}
use Rattle.cx_simulation.proofs.Parts.{leads_less}
use Rattle.cx_simulation.proofs.Permitted.{followed}

module _ {C : Type 0} (step : C → Progress C) where
  -- a part that leads to where the machine ends soon
  ends_whole : (n budget : ℕ) (s : State) (c : C) (hand : ℕ) (ending : Ending) (t : State) → s.budget ≡ budget → s.trace ≡ [] → (saves owes : ℕ) → owes ≤ saves + 31
      → (a : Leads step n s c saves owes hand (λ d. EndsSoon step ending d t) t) → Whole step n c budget t.trace (ended ending)
  ends_whole n budget s c hand ending t e f saves owes small a =
      let b : EndsSoon step ending a.to t = a.stands in
      (a.steps + b.steps, ap (λ u. exec step (a.steps + b.steps) c u) (sym f) ∙ a.takes b.steps ∙ b.halts_so, omega (arith, a.steps_paid, b.few, e, small))

  -- what the meaning says of a whole run, from what its call of `main` comes to
  pub whole : (n budget : ℕ) (s : State) (c : C) (r : Outcome Value) → s.budget ≡ budget → s.trace ≡ [] → Follows step n s c whole_account (HasReturned step) (IsUncaught step) r
      → (meaning_of r).answer ≢ ended (Undefined Mixed) → ((v : ℤ) → (meaning_of r).answer ≡ ended (Returned v) → in_range types.Int v ≡ true) → (trace : List Event) × ((meaning_of r).trace ≡ reverse trace) × Whole step n c budget trace (meaning_of r).answer
  whole n budget s c r e f a other ints = go r a.comes other ints
    where
      go : (r : Outcome Value) → Comes step n s c whole_account (HasReturned step) (IsUncaught step) r
          → (meaning_of r).answer ≢ ended (Undefined Mixed) → ((v : ℤ) → (meaning_of r).answer ≡ ended (Returned v) → in_range types.Int v ≡ true) → (trace : List Event) × ((meaning_of r).trace ≡ reverse trace) × Whole step n c budget trace (meaning_of r).answer
      go (on (number v) t) a other ints = (t.trace, refl, ends_whole n budget s c 0 (Returned v) t e f 0 31 (omega arith) (leads_less step n s c 0 31 0 0 31 0 (omega arith) (omega arith) (λ d. in_range types.Int v ≡ true → EndsSoon step (Returned v) d t) (λ d. EndsSoon step (Returned v) d t) t (λ d soon. soon (ints v refl)) a))
      go (on (address x) t) a other ints = absurd (other refl)
      go (on null t) a other ints = absurd (other refl)
      go (on (function f) t) a other ints = absurd (other refl)
      go (on (violation v) t) a other ints = absurd (other refl)
      go (thrown x t) a other ints = (t.trace, refl, ends_whole n budget s c 0 Terminated t e f 0 31 (omega arith) a)
      go (over (ended ending) t) a other ints =
          let b = a (λ same. other (ap ended same)) in
          (t, refl, (b.steps, ap (λ u. exec step b.steps c u) (sym f) ∙ b.halts_so, omega (arith, b.steps_paid, e)))
      go (over going t) a other ints =
          (t, refl, (a.steps, a.to, subst (λ u. Takes step c u a.steps a.to t) f a.takes, omega (arith, a.enough, e), omega (arith, a.steps_paid, e)))
      go (over waiting t) a other ints =
          (t, refl, (a.steps, a.to, subst (λ u. Takes step c u a.steps a.to t) f a.takes, a.enough, omega (arith, a.steps_paid, e)))
      go (over not_a_run t) a other ints = absurd a

pub main_followed : FollowedCallsOfMainArePermitted
unfolding mean mean_within
main_followed image program made each =
    followed image program (λ input bytes n budget.
    let c = initial image input in
    let begins : List Evaluation = begins_ahead (image_step image) n c in
    let s : State = start program begins input budget in
    whole (image_step image) n budget s c (calls_within program depth_limit (main_call program) s) refl refl (each input bytes n budget) (made.never_mixed begins input budget bytes) (made.returns_int begins input budget bytes))
