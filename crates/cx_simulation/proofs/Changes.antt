-- What is done behind a part where the meaning or the machine does nothing more.
use Rattle.std.proofs.Common.{◌≡◌, ℕ, List, refl, sym, ◌∙◌, subst, arith}
use Rattle.cx_core.specs.Event.{Event, Answer, ended, going, waiting, not_a_run}
use Rattle.cx_core.specs.Outcome.{Exception, State, Outcome, on, thrown, over, after, either, gives, throws}
use Rattle.cx_simulation.specs.Machine.{Progress, Takes, begins_ahead}
use Rattle.cx_simulation.specs.Parts.{Account, IsSum, Comes, Follows}
use Rattle.cx_simulation.proofs.Parts.{follows_then}

module _ {C : Type 0} (step : C → Progress C) where
  -- a part that no exception leaves; behind it only what no event, no budget and no evaluation is of has changed
  pub follows_changes : {A B : Type 0} (n : ℕ) (s : State) (c : C) (account : Account) (P : A → C → State → Type 0) (Q : B → C → State → Type 0) (changes : Outcome A → Outcome B) (r : Outcome A)
      → ((answer : Answer) (trace : List Event) → changes (over answer trace) ≡ over answer trace)
      → ((v : A) (t : State) (d : C) → P v d t → (w : B) × (u : State) × (changes (on v t) ≡ on w u) × (u.trace ≡ t.trace) × (u.budget ≡ t.budget) × (u.begins ≡ t.begins) × Q w d u)
      → Follows step n s c account P (λ e d t. ⊥) r → Follows step n s c account Q (λ e d t. ⊥) (changes r)
  follows_changes {A} {B} n s c account P Q changes r ends goes a = go r a.comes
    where
      go : (r : Outcome A) → Comes step n s c account P (λ e d t. ⊥) r → Follows step n s c account Q (λ e d t. ⊥) (changes r)
      go (on v t) b =
          let x = goes v t b.to b.stands in
          subst (Follows step n s c account Q (λ e d t. ⊥)) (sym x.2)
          (record {
            comes = record {
              steps = b.steps;
              to = b.to;
              takes = subst (λ trace. Takes step c s.trace b.steps b.to trace) (sym x.3) b.takes;
              stands = x.6;
              told = x.5 ∙ b.told;
              units_paid = omega (arith, b.units_paid, x.4);
              steps_paid = omega (arith, b.steps_paid, x.4);
            };
          })
      go (thrown e t) b = absurd b.stands
      go (over (ended ending) t) b = subst (Follows step n s c account Q (λ e d t. ⊥)) (sym (ends (ended ending) t)) (record { comes = b })
      go (over going t) b = subst (Follows step n s c account Q (λ e d t. ⊥)) (sym (ends going t)) (record { comes = b })
      go (over waiting t) b = subst (Follows step n s c account Q (λ e d t. ⊥)) (sym (ends waiting t)) (record { comes = b })
      go (over not_a_run t) b = absurd b

  after_gives : {A : Type 0} (r : Outcome A) → after r gives throws ≡ r
  unfolding gives throws
  after_gives (on v t) = refl
  after_gives (thrown e t) = refl
  after_gives (over answer t) = refl

  -- behind a part the machine does something more
  pub follows_more : {A : Type 0} (n : ℕ) (s : State) (c : C) (first second both : Account) (P Q : A → C → State → Type 0) (E : Exception → C → State → Type 0) (r : Outcome A)
      → IsSum first second both → Follows step n s c first P E r
      → ((v : A) (t : State) (d : C) (k : ℕ) → P v d t → t.begins ≡ begins_ahead step k d → Follows step k t d second Q E (gives v t))
      → Follows step n s c both Q E r
  unfolding either
  follows_more n s c first second both P Q E r sum follows more = subst (Follows step n s c both Q E) (after_gives r) (follows_then step n s c first second both P Q E (λ _. r) gives sum follows more)
