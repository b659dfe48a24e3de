-- What several steps of a machine do.
use Rattle.std.proofs.Common.{◌≡◌, ◌≢◌, ℕ, zero, suc, ◌+◌, ◌-◌, ◌<◌, ◌≤◌, List, [], ◌∷◌, ◌++◌, reverse, Option, Some, None, refl, sym, ap, ◌∙◌, subst, arith, inl, inr, append_assoc, append-nil}
use Rattle.std.proofs.lemmas.List.{reverse-append}
use Rattle.std.proofs.lemmas.Bool.{cases_lt}
use Rattle.cx_core.specs.Words.{Ending, StepsSpent}
use Rattle.cx_core.specs.Event.{Evaluation, Event, out, input, input_end, begin, verdict, handler, throw, catch, destroyed, begins_of}
use Rattle.cx_core.specs.Runs.{IsPrefix}
use Rattle.cx_simulation.specs.Machine.{Progress, goes, halts, noted, begun, Came, spent, halted, onwards, exec, Takes, ahead, begins_ahead}

-- the one list of events, the latest first, has the other behind it
abbrev pub Extends : List Event → List Event → Type 0
Extends old new = (more : List Event) × (new ≡ more ++ old)

extends_itself : (t : List Event) → Extends t t
extends_itself t = ([], refl)

extends_on : (t u v : List Event) → Extends t u → Extends u v → Extends t v
extends_on t u v a b = (b.0 ++ a.0, b.1 ∙ ap (λ l. b.0 ++ l) a.1 ∙ sym (append_assoc b.0 a.0 t))

extends_noted : (event : Option Event) (t : List Event) → Extends t (noted event t)
extends_noted None t = ([], refl)
extends_noted (Some e) t = (e ∷ [], refl)

pub prefix_of : (t u : List Event) → Extends t u → IsPrefix (reverse t) (reverse u)
prefix_of t u a = (reverse a.0, sym (ap reverse a.1 ∙ reverse-append a.0 t))

-- ---- the evaluations that begin

begins_on : (events more : List Event) → begins_of (events ++ more) ≡ begins_of events ++ begins_of more
begins_on [] more = refl
begins_on (begin e ∷ events) more = ap (λ l. e ∷ l) (begins_on events more)
begins_on (out b ∷ events) more = begins_on events more
begins_on (input b ∷ events) more = begins_on events more
begins_on (input_end ∷ events) more = begins_on events more
begins_on (verdict v ∷ events) more = begins_on events more
begins_on (handler v ∷ events) more = begins_on events more
begins_on (throw t ∷ events) more = begins_on events more
begins_on (catch t ∷ events) more = begins_on events more
begins_on (destroyed c o l ∷ events) more = begins_on events more

begun_one : (e : Event) (more : List Evaluation) → begins_of (e ∷ []) ++ more ≡ begun (Some e) more
begun_one (begin e) more = refl
begun_one (out b) more = refl
begun_one (input b) more = refl
begun_one input_end more = refl
begun_one (verdict v) more = refl
begun_one (handler v) more = refl
begun_one (throw t) more = refl
begun_one (catch t) more = refl
begun_one (destroyed c o l) more = refl

-- what was begun before an event, and what it and those behind it begin
begun_noted : (event : Option Event) (trace : List Event) (more : List Evaluation) → begins_of (reverse (noted event trace)) ++ more ≡ begins_of (reverse trace) ++ begun event more
begun_noted None trace more = refl
begun_noted (Some e) trace more =
    ap (λ l. begins_of l ++ more) (reverse-append (e ∷ []) trace) ∙ ap (λ l. l ++ more) (begins_on (reverse trace) (e ∷ []))
    ∙ append_assoc (begins_of (reverse trace)) (begins_of (e ∷ [])) more ∙ ap (λ l. begins_of (reverse trace) ++ l) (begun_one e more)

-- no step ends the run as the limit of steps does
abbrev pub HaltsItself : {C : Type 0} → (C → Progress C) → Type 0
HaltsItself {C} step = (c : C) (event : Option Event) → step c ≢ halts StepsSpent event

module _ {C : Type 0} (step : C → Progress C) where
  abbrev pub Grown : List Event → Came C → Type 0
  Grown t (spent d u) = Extends t u
  Grown t (halted ending u) = Extends t u

  grown_on : (t u : List Event) (h : Came C) → Extends t u → Grown u h → Grown t h
  grown_on t u (spent d v) a b = extends_on t u v a b
  grown_on t u (halted ending v) a b = extends_on t u v a b

  pub grows : (n : ℕ) (c : C) (t : List Event) → Grown t (exec step n c t)
  unfolding exec
  grows zero c t = extends_itself t
  grows (suc n) c t = go (grows n) (step c)
    where
      go : ((d : C) (u : List Event) → Grown u (exec step n d u)) → (p : Progress C) → Grown t (onwards step p t (exec step n) halted)
      go more (goes d event) = grown_on t (noted event t) (exec step n d (noted event t)) (extends_noted event t) (more d (noted event t))
      go more (halts ending event) = extends_noted event t

  abbrev pub Begins : List Evaluation → Came C → Type 0
  Begins told (spent d u) = begins_of (reverse u) ≡ told
  Begins told (halted ending u) = begins_of (reverse u) ≡ told

  -- the evaluations that were begun are those that were told
  pub tells : (n : ℕ) (c : C) (t : List Event) → Begins (begins_of (reverse t) ++ begins_ahead step n c) (exec step n c t)
  unfolding exec begins_ahead
  tells zero c t = sym (append-nil (begins_of (reverse t)))
  tells (suc n) c t = go (tells n) (step c)
    where
      go : ((d : C) (u : List Event) → Begins (begins_of (reverse u) ++ begins_ahead step n d) (exec step n d u)) → (p : Progress C)
          → Begins (begins_of (reverse t) ++ ahead step p (begins_ahead step n)) (onwards step p t (exec step n) halted)
      go more (goes d event) =
          subst (λ l. Begins l (exec step n d (noted event t))) (begun_noted event t (begins_ahead step n d)) (more d (noted event t))
      go more (halts ending event) = sym (append-nil (begins_of (reverse (noted event t)))) ∙ begun_noted event t []

  -- more steps go on from where fewer came to
  pub goes_on : (n m : ℕ) (c d : C) (t u : List Event) → exec step n c t ≡ spent d u → exec step (n + m) c t ≡ exec step m d u
  unfolding exec
  goes_on zero m c d t u e =
      let z : 0 + m ≡ m = omega arith in
      let f : c ≡ d = cc in
      let g : t ≡ u = cc in
      ap (λ k. exec step k c t) z ∙ ap (λ x. exec step m x t) f ∙ ap (exec step m d) g
  goes_on (suc n) m c d t u e = let z : suc n + m ≡ suc (n + m) = omega arith in ap (λ k. exec step k c t) z ∙ go (λ x v. goes_on n m x d v u) (step c) e
    where
      go : ((x : C) (v : List Event) → exec step n x v ≡ spent d u → exec step (n + m) x v ≡ exec step m d u) → (p : Progress C)
          → onwards step p t (exec step n) halted ≡ spent d u → onwards step p t (exec step (n + m)) halted ≡ exec step m d u
      go more (goes x event) f = more x (noted event t) f
      go more (halts ending event) f = absurd cc

  -- and an end stays
  pub stays_ended : (n m : ℕ) (c : C) (t : List Event) (ending : Ending) (u : List Event) → exec step n c t ≡ halted ending u → exec step (n + m) c t ≡ halted ending u
  unfolding exec
  stays_ended zero m c t ending u e = absurd cc
  stays_ended (suc n) m c t ending u e = let z : suc n + m ≡ suc (n + m) = omega arith in ap (λ k. exec step k c t) z ∙ go (λ x v. stays_ended n m x v ending u) (step c) e
    where
      go : ((x : C) (v : List Event) → exec step n x v ≡ halted ending u → exec step (n + m) x v ≡ halted ending u) → (p : Progress C)
          → onwards step p t (exec step n) halted ≡ halted ending u → onwards step p t (exec step (n + m)) halted ≡ halted ending u
      go more (goes x event) f = more x (noted event t) f
      go more (halts other event) f = f

  -- j steps that go on, from a start whose first n steps are known
  pub still : (n j : ℕ) (c d e : C) (t u v : List Event) → exec step n c t ≡ spent d u → Takes step c t j e v → n ≤ j → Extends u v
  unfolding exec
  still n j c d e t u v s h le =
      let m : n + (j - n) ≡ j + 0 = omega (arith, le) in
      let f : exec step (j - n) d u ≡ spent e v = sym (goes_on n (j - n) c d t u s) ∙ ap (λ k. exec step k c t) m ∙ h 0 in
      subst (Grown u) f (grows (j - n) d u)

  -- an end, from a start whose first n steps are known
  pub later : (n j : ℕ) (c d : C) (t u : List Event) (ending : Ending) (v : List Event) → exec step n c t ≡ spent d u → exec step j c t ≡ halted ending v → (n ≤ j) × Extends u v
  later n j c d t u ending v s h = elim (cases_lt j n) [ inl lt ↦ absurd (ended_before lt) | inr le ↦ (le, after le) ]
    where
      ended_before : j < n → ⊥
      ended_before lt =
          let m : j + (n - j) ≡ n = omega (arith, lt) in
          let f : halted ending v ≡ spent d u = sym (stays_ended j (n - j) c t ending v h) ∙ ap (λ k. exec step k c t) m ∙ s in
          absurd cc

      after : n ≤ j → Extends u v
      after le =
          let m : n + (j - n) ≡ j = omega (arith, le) in
          let f : exec step (j - n) d u ≡ halted ending v = sym (goes_on n (j - n) c d t u s) ∙ ap (λ k. exec step k c t) m ∙ h in
          subst (Grown u) f (grows (j - n) d u)

  -- where fewer steps came to, from a start whose first n steps are known
  pub earlier : (n j : ℕ) (c d e : C) (t u v : List Event) → exec step n c t ≡ spent d u → Takes step c t j e v → j ≤ n → Extends v u
  earlier n j c d e t u v s h le =
      let m : j + (n - j) ≡ n = omega (arith, le) in
      let f : exec step (n - j) e v ≡ spent d u = sym (h (n - j)) ∙ ap (λ k. exec step k c t) m ∙ s in
      subst (Grown v) f (grows (n - j) e v)
