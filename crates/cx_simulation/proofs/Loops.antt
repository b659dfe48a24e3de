-- What a machine follows loops by: a part has less of its budget left behind it or the same, and then the turns of a loop.
use Rattle.std.proofs.Common.{◌≡◌, ℕ, zero, suc, ◌+◌, ◌-◌, ◌≤◌, Bool, true, false, if◌then◌else◌, None, refl, arith}
use Rattle.cx_core.specs.Event.{ended, going, waiting, not_a_run}
use Rattle.cx_core.specs.Outcome.{Exception, State, Outcome, on, thrown, over, Does, either, gives, throws, ends}
use Rattle.cx_core.specs.Statements.{Completion, on_to_next, break, continue, return, after_turn, turns, loop}
use Rattle.cx_simulation.specs.Machine.{Progress, goes, begins_ahead}
use Rattle.cx_simulation.specs.Parts.{Account, Comes, Follows}
use Rattle.cx_simulation.proofs.Parts.{takes_none, told_on, follows_less, follows_then, follows_gives, follows_spend, follows_step}

-- what a turn's unit is to pay for
abbrev owing : ℕ → Account
owing n = record { saves = 0; owes = n; late = n + 2; hand = 0 }

-- the condition, the body and the step may each ask for one step, a jump
abbrev pub of_part : Account
of_part = record { saves = 0; owes = 1; late = 3; hand = 0 }

-- the first unit of a turn is paid for by the jump that leads to it
abbrev pub of_turns : Account
of_turns = record { saves = 1; owes = 0; late = 0; hand = 1 }

module _ {C : Type 0} (step : C → Progress C) where
  -- a part that goes on has spent some of the budget or none of it
  pub follows_within : {A : Type 0} (n : ℕ) (s : State) (c : C) (account : Account) (Q : A → C → State → Type 0) (E : Exception → C → State → Type 0) (r : Outcome A)
      → account.owes ≤ account.saves + 31 → Follows step n s c account Q E r → Follows step n s c account (λ v d t. Q v d t × (t.budget ≤ s.budget)) E r
  follows_within {A} n s c account Q E r h a = record { comes = go r a.comes }
    where
      go : (r : Outcome A) → Comes step n s c account Q E r → Comes step n s c account (λ v d t. Q v d t × (t.budget ≤ s.budget)) E r
      go (on v t) b =
          record { steps = b.steps; to = b.to; takes = b.takes; stands = (b.stands, omega (arith, b.steps_paid, h)); told = b.told; units_paid = b.units_paid; steps_paid = b.steps_paid }
      go (thrown e t) b = b
      go (over (ended ending) t) b = b
      go (over going t) b = b
      go (over waiting t) b = b
      go (over not_a_run t) b = b

  -- ---- loops: from the top, where the condition is evaluated, to the body, from there to the step, and behind it back by a jump

  module _ (condition : Does Bool) (again body : Does Completion) (AtTop AtBody AtStep AtEnd : C → State → Type 0) (Q : Completion → C → State → Type 0) (E : Exception → C → State → Type 0) where
    -- where the condition is known
    abbrev pub Decided : Bool → C → State → Type 0
    Decided true = AtBody
    Decided false = Q on_to_next

    -- where the body is left
    abbrev pub Turned : Completion → C → State → Type 0
    Turned on_to_next = AtStep
    Turned continue = AtStep
    Turned break = Q on_to_next
    Turned (return v) = Q (return v)

    abbrev pub FollowsFrom : {A : Type 0} → (C → State → Type 0) → (A → C → State → Type 0) → Does A → Type 0
    FollowsFrom At On part = (n : ℕ) (s : State) (c : C) → At c s → s.begins ≡ begins_ahead step n c → Follows step n s c of_part On E (part s)

    module _ (decides : FollowsFrom AtTop Decided condition) (turned : FollowsFrom AtBody Turned body) (steps : FollowsFrom AtStep (λ _. AtEnd) again) (jumps : (c : C) (s : State) → AtEnd c s → (d : C) × (step c ≡ goes d None) × AtTop d s)
        (with_less : (left : ℕ) (c : C) (s : State) → AtTop c s → AtTop c (record s { budget = left })) where
      -- the next turns, behind the step
      abbrev Next : ℕ → Type 0
      Next k = (n : ℕ) (s : State) (c : C) → AtTop c s → s.budget ≤ k → s.begins ≡ begins_ahead step n c → Follows step n s c of_turns Q E (turns k condition again body s)

      again_follows : (k : ℕ) → Next k → (n : ℕ) (s : State) (c : C) → AtStep c s → s.budget ≤ k → s.begins ≡ begins_ahead step n c
          → Follows step n s c of_part Q E (either again (λ _. turns k condition again body) throws s)
      again_follows k next n s c at le told =
          follows_then step n s c of_part (record { saves = 0; owes = 0; late = 1; hand = 0 }) of_part (λ _ d t. AtEnd d t × (t.budget ≤ s.budget)) Q E again (λ _. turns k condition again body)
          (record { goes_on = omega arith; left_first = omega arith; left_second = omega arith; in_hand = omega arith })
          (follows_within n s c of_part (λ _. AtEnd) E (again s) (omega arith) (steps n s c at told))
          (λ _ t d i p told.
          let x = jumps d t p.0 in
          follows_step step i t d x.0 of_turns (record { saves = 0; owes = 0; late = 1; hand = 0 }) Q E (turns k condition again body t) x.1 (omega arith) (omega arith) (omega arith)
          (next (i - 1) t x.0 x.2 (omega (arith, p.1, le)) (told_on step i d x.0 None t.begins t.begins x.1 told refl)))

      turn_follows : (k : ℕ) → Next k → (n : ℕ) (s : State) (c : C) → AtBody c s → s.budget ≤ k → s.begins ≡ begins_ahead step n c
          → Follows step n s c (owing 2) Q E (either body (after_turn again (turns k condition again body)) throws s)
      turn_follows k next n s c at le told =
          follows_then step n s c of_part of_part (owing 2) (λ v d t. Turned v d t × (t.budget ≤ s.budget)) Q E body (after_turn again (turns k condition again body))
          (record { goes_on = omega arith; left_first = omega arith; left_second = omega arith; in_hand = omega arith })
          (follows_within n s c of_part Turned E (body s) (omega arith) (turned n s c at told))
          (λ v t d i p told. behind v t d i p.0 (omega (arith, p.1, le)) told)
        where
          behind : (v : Completion) (t : State) (d : C) (i : ℕ) → Turned v d t → t.budget ≤ k → t.begins ≡ begins_ahead step i d → Follows step i t d of_part Q E (after_turn again (turns k condition again body) v t)
          behind on_to_next t d i at le told = again_follows k next i t d at le told
          behind continue t d i at le told = again_follows k next i t d at le told
          behind break t d i q le told = follows_gives step i t d of_part Q E on_to_next (omega arith) q told
          behind (return v) t d i q le told = follows_gives step i t d of_part Q E (return v) (omega arith) q told

      decided_follows : (k : ℕ) → Next k → (n : ℕ) (s : State) (c : C) → AtTop c s → s.budget ≤ k → s.begins ≡ begins_ahead step n c
          → Follows step n s c (owing 3) Q E (either condition (λ b. if b then either body (after_turn again (turns k condition again body)) throws else gives on_to_next) throws s)
      decided_follows k next n s c at le told =
          follows_then step n s c of_part (owing 2) (owing 3) (λ b d t. Decided b d t × (t.budget ≤ s.budget)) Q E condition (λ b. if b then either body (after_turn again (turns k condition again body)) throws else gives on_to_next)
          (record { goes_on = omega arith; left_first = omega arith; left_second = omega arith; in_hand = omega arith })
          (follows_within n s c of_part Decided E (condition s) (omega arith) (decides n s c at told))
          (λ b t d i p told. behind b t d i p.0 (omega (arith, p.1, le)) told)
        where
          behind : (b : Bool) (t : State) (d : C) (i : ℕ) → Decided b d t → t.budget ≤ k → t.begins ≡ begins_ahead step i d
              → Follows step i t d (owing 2) Q E ((if b then either body (after_turn again (turns k condition again body)) throws else gives on_to_next) t)
          behind true t d i at le told = turn_follows k next i t d at le told
          behind false t d i q le told = follows_gives step i t d (owing 2) Q E on_to_next (omega arith) q told

      turns_follow : (k : ℕ) → Next k
      unfolding turns ends
      turns_follow zero n s c at le told = record { comes = record { steps = 0; to = c; takes = takes_none step c s.trace; enough = omega (arith, le); steps_paid = omega arith } }
      turns_follow (suc k) n s c at le told =
          follows_less step n s c (record { saves = 4; owes = 3; late = 0; hand = 1 }) of_turns Q Q E E (turns (suc k) condition again body s)
          (record { goes_on = omega arith; left = omega arith; in_hand = omega arith }) (λ v d t q. q) (λ e d t f. f)
          (follows_spend step n s c (owing 3) 4 0 Q E (either condition (λ b. if b then either body (after_turn again (turns k condition again body)) throws else gives on_to_next) throws) (omega arith) (omega arith)
          (λ left less. decided_follows k (turns_follow k) n (record s { budget = left }) c (with_less left c s at) (omega (arith, less, le)) told))

      -- the jump that led to the top is in hand
      pub loop_follows : (n : ℕ) (s : State) (c : C) → AtTop c s → s.begins ≡ begins_ahead step n c → Follows step n s c of_turns Q E (loop condition again body s)
      unfolding loop
      loop_follows n s c at told = turns_follow s.budget n s c at (omega arith) told
