-- How parts that are followed go together: one after another, after a unit of the budget, and by single steps.
use Rattle.std.proofs.Common.{◌≡◌, ℕ, zero, suc, ◌+◌, ◌-◌, ◌≤◌, List, [], ◌∷◌, Option, Some, None, refl, sym, ap, ◌∙◌, subst, arith}
use Rattle.cx_core.specs.Words.{Ending}
use Rattle.cx_core.specs.Event.{Evaluation, Event, ended, going, waiting, not_a_run, out, input, input_end, begin, verdict, handler, throw, catch, destroyed}
use Rattle.cx_core.specs.Outcome.{Exception, State, Outcome, on, thrown, over, Does, nothing, after, either, gives, throws, spend, spend_of}
use Rattle.cx_simulation.specs.Machine.{Progress, goes, halts, noted, begun, halted, onwards, exec, Takes, ahead, begins_ahead}
use Rattle.cx_simulation.specs.Parts.{Account, IsSum, IsCaught, IsWithin, Leads, Halts, Stays, Comes, Follows, StepsTo, Steps}

module _ {C : Type 0} (step : C → Progress C) where
  -- ---- so many steps

  pub takes_none : (c : C) (t : List Event) → Takes step c t 0 c t
  takes_none c t = λ k. let a : 0 + k ≡ k = omega arith in ap (λ n. exec step n c t) a

  pub takes_one : (c d : C) (event : Option Event) (t : List Event) → step c ≡ goes d event → Takes step c t 1 d (noted event t)
  unfolding exec
  takes_one c d event t e = λ k. let a : 1 + k ≡ suc k = omega arith in ap (λ n. exec step n c t) a ∙ ap (λ p. onwards step p t (exec step k) halted) e

  pub takes_on : (c d e : C) (t u v : List Event) (i j : ℕ) → Takes step c t i d u → Takes step d u j e v → Takes step c t (i + j) e v
  takes_on c d e t u v i j l m = λ k. let a : i + j + k ≡ i + (j + k) = omega arith in ap (λ n. exec step n c t) a ∙ l (j + k) ∙ m k

  pub halts_one : (c : C) (ending : Ending) (event : Option Event) (t : List Event) → step c ≡ halts ending event → exec step 1 c t ≡ halted ending (noted event t)
  unfolding exec
  halts_one c ending event t e = ap (λ p. onwards step p t (exec step 0) halted) e

  -- what is told before a step, and behind it
  pub told_on : (n : ℕ) (c d : C) (event : Option Event) (now later : List Evaluation) → step c ≡ goes d event → now ≡ begins_ahead step n c → now ≡ begun event later → later ≡ begins_ahead step (n - 1) d
  unfolding begins_ahead
  told_on zero c d event now later e told here = none event (sym here ∙ told)
    where
      none : (event : Option Event) → begun event later ≡ [] → later ≡ []
      none None h = h
      none (Some (begin x)) h = absurd (cc)
      none (Some (out b)) h = h
      none (Some (input b)) h = h
      none (Some input_end) h = h
      none (Some (verdict v)) h = h
      none (Some (handler v)) h = h
      none (Some (throw t)) h = h
      none (Some (catch t)) h = h
      none (Some (destroyed x o l)) h = h
  told_on (suc n) c d event now later e told here =
      let m : n ≡ suc n - 1 = omega arith in
      same event (sym here ∙ told ∙ ap (λ p. ahead step p (begins_ahead step n)) e) ∙ ap (λ k. begins_ahead step k d) m
    where
      same : (event : Option Event) → begun event later ≡ begun event (begins_ahead step n d) → later ≡ begins_ahead step n d
      same None h = h
      same (Some (begin x)) h = cc
      same (Some (out b)) h = h
      same (Some (input b)) h = h
      same (Some input_end) h = h
      same (Some (verdict v)) h = h
      same (Some (handler v)) h = h
      same (Some (throw t)) h = h
      same (Some (catch t)) h = h
      same (Some (destroyed x o l)) h = h

  -- ---- what leads on

  leads_then : (n : ℕ) (s : State) (c : C) (saves owes hand saves' owes' hand' saves'' owes'' hand'' : ℕ) → saves'' + owes + owes' ≤ saves + saves' + owes'' → hand + hand' ≤ hand'' → (P Q : C → Type 0) (t u : State)
      → (a : Leads step n s c saves owes hand P t) → Leads step (n - a.steps) t a.to saves' owes' hand' Q u → Leads step n s c saves'' owes'' hand'' Q u
  leads_then n s c saves owes hand saves' owes' hand' saves'' owes'' hand'' h k P Q t u a b =
      let m : n - a.steps - b.steps ≡ n - (a.steps + b.steps) = omega arith in
      record {
        steps = a.steps + b.steps;
        to = b.to;
        takes = takes_on c a.to b.to s.trace t.trace u.trace a.steps b.steps a.takes b.takes;
        stands = b.stands;
        told = b.told ∙ ap (λ i. begins_ahead step i b.to) m;
        units_paid = omega (arith, a.units_paid, b.units_paid, k);
        steps_paid = omega (arith, a.steps_paid, b.steps_paid, h);
      }

  halts_then : (n : ℕ) (s : State) (c : C) (saves owes hand late' late'' : ℕ) → owes + late' ≤ saves + late'' → (P : C → Type 0) (t : State) (ending : Ending) (trace : List Event)
      → (a : Leads step n s c saves owes hand P t) → Halts step t a.to late' ending trace → Halts step s c late'' ending trace
  halts_then n s c saves owes hand late' late'' h P t ending trace a b =
      record { steps = a.steps + b.steps; halts_so = a.takes b.steps ∙ b.halts_so; steps_paid = omega (arith, a.steps_paid, b.steps_paid, h) }

  stays_then : (n : ℕ) (s : State) (c : C) (saves owes hand late' late'' : ℕ) → owes + late' ≤ saves + late'' → (P : C → Type 0) (t : State) (trace : List Event) (R R' : ℕ → Type 0)
      → (a : Leads step n s c saves owes hand P t) → ((j : ℕ) → R j → R' (a.steps + j)) → Stays step t a.to late' R trace → Stays step s c late'' R' trace
  stays_then n s c saves owes hand late' late'' h P t trace R R' a enough b =
      record {
        steps = a.steps + b.steps;
        to = b.to;
        takes = takes_on c a.to b.to s.trace t.trace trace a.steps b.steps a.takes b.takes;
        enough = enough b.steps b.enough;
        steps_paid = omega (arith, a.steps_paid, b.steps_paid, h);
      }

  pub leads_less : (n : ℕ) (s : State) (c : C) (saves owes hand saves' owes' hand' : ℕ) → saves' + owes ≤ saves + owes' → hand ≤ hand' → (P Q : C → Type 0) (t : State) → ((d : C) → P d → Q d) → Leads step n s c saves owes hand P t → Leads step n s c saves' owes' hand' Q t
  leads_less n s c saves owes hand saves' owes' hand' h k P Q t g a =
      record {
        steps = a.steps;
        to = a.to;
        takes = a.takes;
        stands = g a.to a.stands;
        told = a.told;
        units_paid = omega (arith, a.units_paid, k);
        steps_paid = omega (arith, a.steps_paid, h);
      }

  halts_less : (s : State) (c : C) (late late' : ℕ) → late ≤ late' → (ending : Ending) (trace : List Event) → Halts step s c late ending trace → Halts step s c late' ending trace
  halts_less s c late late' h ending trace a = record { steps = a.steps; halts_so = a.halts_so; steps_paid = omega (arith, a.steps_paid, h) }

  stays_less : (s : State) (c : C) (late late' : ℕ) → late ≤ late' → (R R' : ℕ → Type 0) (trace : List Event) → ((j : ℕ) → R j → R' j) → Stays step s c late R trace → Stays step s c late' R' trace
  stays_less s c late late' h R R' trace g a = record { steps = a.steps; to = a.to; takes = a.takes; enough = g a.steps a.enough; steps_paid = omega (arith, a.steps_paid, h) }

  -- ---- parts

  -- less is claimed
  pub follows_less : {A : Type 0} (n : ℕ) (s : State) (c : C) (less more : Account) (P Q : A → C → State → Type 0) (E F : Exception → C → State → Type 0) (r : Outcome A)
      → IsWithin less more → ((v : A) (d : C) (t : State) → P v d t → Q v d t) → ((e : Exception) (d : C) (t : State) → E e d t → F e d t)
      → Follows step n s c less P E r → Follows step n s c more Q F r
  follows_less {A} n s c less more P Q E F r w g f a = record { comes = go r a.comes }
    where
      go : (r : Outcome A) → Comes step n s c less P E r → Comes step n s c more Q F r
      go (on v t) b = leads_less n s c less.saves less.owes less.hand more.saves more.owes more.hand w.goes_on w.in_hand (λ d. P v d t) (λ d. Q v d t) t (λ d. g v d t) b
      go (thrown e t) b = leads_less n s c 0 less.late less.hand 0 more.late more.hand (omega (arith, w.left)) w.in_hand (λ d. E e d t) (λ d. F e d t) t (λ d. f e d t) b
      go (over (ended ending) t) b = λ other. halts_less s c less.late more.late w.left ending t (b other)
      go (over going t) b = stays_less s c less.late more.late w.left _ _ t (λ j h. omega (arith, h, w.in_hand)) b
      go (over waiting t) b = stays_less s c less.late more.late w.left _ _ t (λ j h. h) b
      go (over not_a_run t) b = b

  -- one part after another
  pub follows_then : {A B : Type 0} (n : ℕ) (s : State) (c : C) (first second both : Account) (P : A → C → State → Type 0) (Q : B → C → State → Type 0) (E : Exception → C → State → Type 0) (m : Does A) (next : A → Does B)
      → IsSum first second both → Follows step n s c first P E (m s)
      → ((v : A) (t : State) (d : C) (k : ℕ) → P v d t → t.begins ≡ begins_ahead step k d → Follows step k t d second Q E (next v t))
      → Follows step n s c both Q E (either m next throws s)
  unfolding either throws
  follows_then {A} {B} n s c first second both P Q E m next sum a more = record { comes = go (m s) a.comes }
    where
      join : (v : A) (t : State) (b : Leads step n s c first.saves first.owes first.hand (λ d. P v d t) t) (r : Outcome B) → Comes step (n - b.steps) t b.to second Q E r → Comes step n s c both Q E r
      join v t b (on w u) f = leads_then n s c first.saves first.owes first.hand second.saves second.owes second.hand both.saves both.owes both.hand sum.goes_on sum.in_hand (λ d. P v d t) (λ d. Q w d u) t u b f
      join v t b (thrown e u) f = leads_then n s c first.saves first.owes first.hand 0 second.late second.hand 0 both.late both.hand (omega (arith, sum.left_second)) sum.in_hand (λ d. P v d t) (λ d. E e d u) t u b f
      join v t b (over (ended ending) u) f = λ other. halts_then n s c first.saves first.owes first.hand second.late both.late sum.left_second (λ d. P v d t) t ending u b (f other)
      join v t b (over going u) f =
          stays_then n s c first.saves first.owes first.hand second.late both.late sum.left_second (λ d. P v d t) t u (λ j. t.budget ≤ j + 1 + second.hand) (λ j. s.budget ≤ j + 1 + both.hand) b
          (λ j h. omega (arith, h, b.units_paid, sum.in_hand)) f
      join v t b (over waiting u) f =
          stays_then n s c first.saves first.owes first.hand second.late both.late sum.left_second (λ d. P v d t) t u (λ j. n - b.steps ≤ j) (λ j. n ≤ j) b (λ j h. omega (arith, h)) f
      join v t b (over not_a_run u) f = f

      go : (r : Outcome A) → Comes step n s c first P E r → Comes step n s c both Q E (after r next throws)
      go (on v t) b = join v t b (next v t) (more v t b.to (n - b.steps) b.stands b.told).comes
      go (thrown e t) b = leads_less n s c 0 first.late first.hand 0 both.late both.hand (omega (arith, sum.left_first)) (omega (arith, sum.in_hand)) (λ d. E e d t) (λ d. E e d t) t (λ d h. h) b
      go (over (ended ending) t) b = λ other. halts_less s c first.late both.late sum.left_first ending t (b other)
      go (over going t) b = stays_less s c first.late both.late sum.left_first _ _ t (λ j h. omega (arith, h, sum.in_hand)) b
      go (over waiting t) b = stays_less s c first.late both.late sum.left_first _ _ t (λ j h. h) b
      go (over not_a_run t) b = b

  -- nothing is done
  pub follows_gives : {A : Type 0} (n : ℕ) (s : State) (c : C) (account : Account) (Q : A → C → State → Type 0) (E : Exception → C → State → Type 0) (v : A)
      → account.saves ≤ account.owes → Q v c s → s.begins ≡ begins_ahead step n c → Follows step n s c account Q E (gives v s)
  unfolding gives
  follows_gives n s c account Q E v h q told =
      let m : n ≡ n - 0 = omega arith in
      record {
        comes = record {
          steps = 0;
          to = c;
          takes = takes_none c s.trace;
          stands = q;
          told = told ∙ ap (λ k. begins_ahead step k c) m;
          units_paid = omega arith;
          steps_paid = omega (arith, h);
        };
      }

  -- an exception flies from where it is
  pub follows_throws : {A : Type 0} (n : ℕ) (s : State) (c : C) (account : Account) (Q : A → C → State → Type 0) (E : Exception → C → State → Type 0) (e : Exception)
      → E e c s → s.begins ≡ begins_ahead step n c → Follows step n s c account Q E (throws {A = A} e s)
  unfolding throws
  follows_throws n s c account Q E e q told =
      let m : n ≡ n - 0 = omega arith in
      record {
        comes = record {
          steps = 0;
          to = c;
          takes = takes_none c s.trace;
          stands = q;
          told = told ∙ ap (λ k. begins_ahead step k c) m;
          units_paid = omega arith;
          steps_paid = omega arith;
        };
      }

  -- a unit is spent that a step of before or of behind stands for
  pub follows_spend : {B : Type 0} (n : ℕ) (s : State) (c : C) (account : Account) (saves late : ℕ) (Q : B → C → State → Type 0) (E : Exception → C → State → Type 0) (m : Does B)
      → saves ≤ account.saves + 32 → account.late ≤ late + 32
      → ((left : ℕ) → left + 1 ≤ s.budget → Follows step n (record s { budget = left }) c account Q E (m (record s { budget = left })))
      → Follows step n s c (record { saves = saves; owes = account.owes; late = late; hand = account.hand + 1 }) Q E (either spend (λ _. m) throws s)
  unfolding either spend throws
  follows_spend {B} n s c account saves late Q E m small slow f = record { comes = by_left s.budget refl }
    where
      now : Account
      now = record { saves = saves; owes = account.owes; late = late; hand = account.hand + 1 }

      paid : (l : ℕ) → s.budget ≡ suc (suc l) → (r : Outcome B) → Comes step n (record s { budget = suc l }) c account Q E r → Comes step n s c (record { saves = saves; owes = account.owes; late = late; hand = account.hand + 1 }) Q E r
      paid l e (on v t) a =
          record { steps = a.steps; to = a.to; takes = a.takes; stands = a.stands; told = a.told; units_paid = omega (arith, a.units_paid, e); steps_paid = omega (arith, a.steps_paid, e, small) }
      paid l e (thrown x t) a =
          record { steps = a.steps; to = a.to; takes = a.takes; stands = a.stands; told = a.told; units_paid = omega (arith, a.units_paid, e); steps_paid = omega (arith, a.steps_paid, e, slow) }
      paid l e (over (ended ending) t) a = λ other. let b = a other in record { steps = b.steps; halts_so = b.halts_so; steps_paid = omega (arith, b.steps_paid, e, slow) }
      paid l e (over going t) a = record { steps = a.steps; to = a.to; takes = a.takes; enough = omega (arith, a.enough, e); steps_paid = omega (arith, a.steps_paid, e, slow) }
      paid l e (over waiting t) a = record { steps = a.steps; to = a.to; takes = a.takes; enough = a.enough; steps_paid = omega (arith, a.steps_paid, e, slow) }
      paid l e (over not_a_run t) a = a

      by_left : (l : ℕ) → s.budget ≡ l → Comes step n s c (record { saves = saves; owes = account.owes; late = late; hand = account.hand + 1 }) Q E (after (spend_of l s) (λ _. m) throws)
      by_left zero e = record { steps = 0; to = c; takes = takes_none c s.trace; enough = omega (arith, e); steps_paid = omega arith }
      by_left (suc zero) e = record { steps = 0; to = c; takes = takes_none c s.trace; enough = omega (arith, e); steps_paid = omega arith }
      by_left (suc (suc l)) e = paid l e (m (record s { budget = suc l })) (f (suc l) (omega (arith, e))).comes

  -- a part, and what is done where it goes on and where an exception has left it
  pub follows_either : {A B : Type 0} (n : ℕ) (s : State) (c : C) (first second caught both : Account) (P : A → C → State → Type 0) (Q : B → C → State → Type 0) (E F : Exception → C → State → Type 0) (m : Does A) (next : A → Does B) (catches : Exception → Does B)
      → IsSum first second both → IsCaught first caught both → Follows step n s c first P E (m s)
      → ((v : A) (t : State) (d : C) (k : ℕ) → P v d t → t.begins ≡ begins_ahead step k d → Follows step k t d second Q F (next v t))
      → ((e : Exception) (t : State) (d : C) (k : ℕ) → E e d t → t.begins ≡ begins_ahead step k d → Follows step k t d caught Q F (catches e t))
      → Follows step n s c both Q F (either m next catches s)
  unfolding either
  follows_either {A} {B} n s c first second caught both P Q E F m next catches sum catch_sum a more after_throw = record { comes = go (m s) a.comes }
    where
      join : (saves owes : ℕ) (part : Account) → both.saves + owes + part.owes ≤ saves + part.saves + both.owes → owes + part.late ≤ saves + both.late → first.hand + part.hand ≤ both.hand
          → (R : C → Type 0) (t : State) (b : Leads step n s c saves owes first.hand R t) (r : Outcome B) → Comes step (n - b.steps) t b.to part Q F r → Comes step n s c both Q F r
      join saves owes part h k l R t b (on w u) f = leads_then n s c saves owes first.hand part.saves part.owes part.hand both.saves both.owes both.hand h l R (λ d. Q w d u) t u b f
      join saves owes part h k l R t b (thrown e u) f = leads_then n s c saves owes first.hand 0 part.late part.hand 0 both.late both.hand (omega (arith, k)) l R (λ d. F e d u) t u b f
      join saves owes part h k l R t b (over (ended ending) u) f = λ other. halts_then n s c saves owes first.hand part.late both.late k R t ending u b (f other)
      join saves owes part h k l R t b (over going u) f =
          stays_then n s c saves owes first.hand part.late both.late k R t u (λ j. t.budget ≤ j + 1 + part.hand) (λ j. s.budget ≤ j + 1 + both.hand) b (λ j g. omega (arith, g, b.units_paid, l)) f
      join saves owes part h k l R t b (over waiting u) f =
          stays_then n s c saves owes first.hand part.late both.late k R t u (λ j. n - b.steps ≤ j) (λ j. n ≤ j) b (λ j g. omega (arith, g)) f
      join saves owes part h k l R t b (over not_a_run u) f = f

      go : (r : Outcome A) → Comes step n s c first P E r → Comes step n s c both Q F (after r next catches)
      go (on v t) b = join first.saves first.owes second sum.goes_on sum.left_second sum.in_hand (λ d. P v d t) t b (next v t) (more v t b.to (n - b.steps) b.stands b.told).comes
      go (thrown e t) b =
          join 0 first.late caught (omega (arith, catch_sum.goes_on)) (omega (arith, catch_sum.left)) catch_sum.in_hand (λ d. E e d t) t b (catches e t) (after_throw e t b.to (n - b.steps) b.stands b.told).comes
      go (over (ended ending) t) b = λ other. halts_less s c first.late both.late sum.left_first ending t (b other)
      go (over going t) b = stays_less s c first.late both.late sum.left_first _ _ t (λ j h. omega (arith, h, sum.in_hand)) b
      go (over waiting t) b = stays_less s c first.late both.late sum.left_first _ _ t (λ j h. h) b
      go (over not_a_run t) b = b

  -- ---- single steps

  leads_one : (n : ℕ) (s : State) (c : C) (saves owes hand : ℕ) (Stands : C → Type 0) (t : State) → saves + 1 ≤ owes → s.begins ≡ begins_ahead step n c → StepsTo step s c Stands t → Leads step n s c saves owes hand Stands t
  leads_one n s c saves owes hand Stands t h told a =
      record {
        steps = 1;
        to = a.to;
        takes = subst (λ u. Takes step c s.trace 1 a.to u) (sym a.noted_so) (takes_one c a.to a.event s.trace a.goes_so);
        stands = a.stands;
        told = told_on n c a.to a.event s.begins t.begins a.goes_so told a.begun_so;
        units_paid = omega (arith, a.same_budget);
        steps_paid = omega (arith, a.same_budget, h);
      }

  -- a step for which no unit is spent
  pub follows_one : {A : Type 0} (n : ℕ) (s : State) (c : C) (account : Account) (Q : A → C → State → Type 0) (E : Exception → C → State → Type 0) (r : Outcome A)
      → account.saves + 1 ≤ account.owes → 1 ≤ account.late → s.begins ≡ begins_ahead step n c → Steps step s c Q E r → Follows step n s c account Q E r
  follows_one {A} n s c account Q E r h k told a = record { comes = go r a }
    where
      go : (r : Outcome A) → Steps step s c Q E r → Comes step n s c account Q E r
      go (on v t) b = leads_one n s c account.saves account.owes account.hand (λ d. Q v d t) t h told b
      go (thrown e t) b = leads_one n s c 0 account.late account.hand (λ d. E e d t) t (omega (arith, k)) told b
      go (over (ended ending) t) b = λ other. let x = b other in record { steps = 1; halts_so = halts_one c ending x.event s.trace x.halts_so ∙ ap (halted ending) (sym x.noted_so); steps_paid = omega (arith, k) }
      go (over going t) b = absurd b
      go (over waiting t) b = absurd b
      go (over not_a_run t) b = b

  -- a unit of the budget, and the step that stands for it
  pub follows_unit : {B : Type 0} (n : ℕ) (s : State) (c : C) (account : Account) (Q : B → C → State → Type 0) (E : Exception → C → State → Type 0) (m : Does B)
      → account.saves ≤ account.owes + 31 → s.begins ≡ begins_ahead step n c → ((left : ℕ) → Steps step (record s { budget = left }) c Q E (m (record s { budget = left })))
      → Follows step n s c account Q E (either spend (λ _. m) throws s)
  unfolding either spend throws
  follows_unit {B} n s c account Q E m h told f = record { comes = by_left s.budget refl }
    where
      leads : (l : ℕ) → s.budget ≡ suc (suc l) → (saves owes : ℕ) → saves ≤ owes + 31 → (Stands : C → Type 0) (t : State) → StepsTo step (record s { budget = suc l }) c Stands t → Leads step n s c saves owes account.hand Stands t
      leads l e saves owes small Stands t a =
          record {
            steps = 1;
            to = a.to;
            takes = subst (λ u. Takes step c s.trace 1 a.to u) (sym a.noted_so) (takes_one c a.to a.event s.trace a.goes_so);
            stands = a.stands;
            told = told_on n c a.to a.event s.begins t.begins a.goes_so told a.begun_so;
            units_paid = omega (arith, a.same_budget, e);
            steps_paid = omega (arith, a.same_budget, e, small);
          }

      paid : (l : ℕ) → s.budget ≡ suc (suc l) → (r : Outcome B) → Steps step (record s { budget = suc l }) c Q E r → Comes step n s c account Q E r
      paid l e (on v t) b = leads l e account.saves account.owes h (λ d. Q v d t) t b
      paid l e (thrown x t) b = leads l e 0 account.late (omega arith) (λ d. E x d t) t b
      paid l e (over (ended ending) t) b = λ other. let x = b other in record { steps = 1; halts_so = halts_one c ending x.event s.trace x.halts_so ∙ ap (halted ending) (sym x.noted_so); steps_paid = omega (arith, e) }
      paid l e (over going t) b = absurd b
      paid l e (over waiting t) b = absurd b
      paid l e (over not_a_run t) b = b

      by_left : (l : ℕ) → s.budget ≡ l → Comes step n s c account Q E (after (spend_of l s) (λ _. m) throws)
      by_left zero e = record { steps = 0; to = c; takes = takes_none c s.trace; enough = omega (arith, e); steps_paid = omega arith }
      by_left (suc zero) e = record { steps = 0; to = c; takes = takes_none c s.trace; enough = omega (arith, e); steps_paid = omega arith }
      by_left (suc (suc l)) e = paid l e (m (record s { budget = suc l })) (f (suc l))

  -- a silent step first, which is then in hand
  pub follows_step : {A : Type 0} (n : ℕ) (s : State) (c d : C) (account more : Account) (Q : A → C → State → Type 0) (E : Exception → C → State → Type 0) (r : Outcome A)
      → step c ≡ goes d None → more.saves + account.owes + 1 ≤ account.saves + more.owes → account.late + 1 ≤ more.late → account.hand ≤ more.hand + 1
      → Follows step (n - 1) s d account Q E r → Follows step n s c more Q E r
  follows_step {A} n s c d account more Q E r e h k l a = record { comes = go r a.comes }
    where
      leads : (saves owes saves' owes' : ℕ) → saves' + owes + 1 ≤ saves + owes' → (Stands : C → Type 0) (t : State) → Leads step (n - 1) s d saves owes account.hand Stands t → Leads step n s c saves' owes' more.hand Stands t
      leads saves owes saves' owes' small Stands t b =
          let m : n - 1 - b.steps ≡ n - (1 + b.steps) = omega arith in
          record {
            steps = 1 + b.steps;
            to = b.to;
            takes = takes_on c d b.to s.trace s.trace t.trace 1 b.steps (takes_one c d None s.trace e) b.takes;
            stands = b.stands;
            told = b.told ∙ ap (λ i. begins_ahead step i b.to) m;
            units_paid = omega (arith, b.units_paid, l);
            steps_paid = omega (arith, b.steps_paid, small);
          }

      go : (r : Outcome A) → Comes step (n - 1) s d account Q E r → Comes step n s c more Q E r
      go (on v t) b = leads account.saves account.owes more.saves more.owes h (λ x. Q v x t) t b
      go (thrown x t) b = leads 0 account.late 0 more.late (omega (arith, k)) (λ y. E x y t) t b
      go (over (ended ending) t) b = λ other. let x = b other in record { steps = 1 + x.steps; halts_so = takes_one c d None s.trace e x.steps ∙ x.halts_so; steps_paid = omega (arith, x.steps_paid, k) }
      go (over going t) b =
          record { steps = 1 + b.steps; to = b.to; takes = takes_on c d b.to s.trace s.trace t 1 b.steps (takes_one c d None s.trace e) b.takes; enough = omega (arith, b.enough, l); steps_paid = omega (arith, b.steps_paid, k) }
      go (over waiting t) b =
          record { steps = 1 + b.steps; to = b.to; takes = takes_on c d b.to s.trace s.trace t 1 b.steps (takes_one c d None s.trace e) b.takes; enough = omega (arith, b.enough); steps_paid = omega (arith, b.steps_paid, k) }
      go (over not_a_run t) b = b

  -- ---- parts of which the machine does nothing

  -- the state where a part begins matters by its events and its budget alone
  pub follows_from : {A : Type 0} (n : ℕ) (s t : State) (c : C) (account : Account) (Q : A → C → State → Type 0) (E : Exception → C → State → Type 0) (r : Outcome A)
      → t.trace ≡ s.trace → t.budget ≡ s.budget → Follows step n t c account Q E r → Follows step n s c account Q E r
  follows_from {A} n s t c account Q E r same_trace same_budget a = record { comes = go r a.comes }
    where
      leads : (saves owes hand : ℕ) (Stands : C → Type 0) (u : State) → Leads step n t c saves owes hand Stands u → Leads step n s c saves owes hand Stands u
      leads saves owes hand Stands u b =
          record {
            steps = b.steps;
            to = b.to;
            takes = subst (λ trace. Takes step c trace b.steps b.to u.trace) same_trace b.takes;
            stands = b.stands;
            told = b.told;
            units_paid = omega (arith, b.units_paid, same_budget);
            steps_paid = omega (arith, b.steps_paid, same_budget);
          }

      go : (r : Outcome A) → Comes step n t c account Q E r → Comes step n s c account Q E r
      go (on v u) b = leads account.saves account.owes account.hand (λ d. Q v d u) u b
      go (thrown e u) b = leads 0 account.late account.hand (λ d. E e d u) u b
      go (over (ended ending) u) b =
          λ other. let x = b other in record { steps = x.steps; halts_so = ap (exec step x.steps c) (sym same_trace) ∙ x.halts_so; steps_paid = omega (arith, x.steps_paid, same_budget) }
      go (over going u) b =
          record { steps = b.steps; to = b.to; takes = subst (λ trace. Takes step c trace b.steps b.to u) same_trace b.takes; enough = omega (arith, b.enough, same_budget); steps_paid = omega (arith, b.steps_paid, same_budget) }
      go (over waiting u) b = record { steps = b.steps; to = b.to; takes = subst (λ trace. Takes step c trace b.steps b.to u) same_trace b.takes; enough = b.enough; steps_paid = omega (arith, b.steps_paid, same_budget) }
      go (over not_a_run u) b = b

  -- the meaning goes on in a state with the same events and budget, and is told the same
  pub follows_nothing : {A : Type 0} (n : ℕ) (s u : State) (c : C) (account : Account) (Q : A → C → State → Type 0) (E : Exception → C → State → Type 0) (v : A)
      → account.saves ≤ account.owes → u.trace ≡ s.trace → u.budget ≡ s.budget → u.begins ≡ s.begins → Q v c u → s.begins ≡ begins_ahead step n c → Follows step n s c account Q E (on v u)
  unfolding gives
  follows_nothing n s u c account Q E v h same_trace same_budget same_begins q told =
      follows_from n s u c account Q E (on v u) same_trace same_budget (follows_gives n u c account Q E v h q (same_begins ∙ told))

  -- ---- a step that begins an evaluation

  begins_now : (n : ℕ) (c d : C) (e : Evaluation) → step c ≡ goes d (Some (begin e)) → begins_ahead step (suc n) c ≡ e ∷ begins_ahead step n d
  unfolding begins_ahead
  begins_now n c d e h = ap (λ p. ahead step p (begins_ahead step n)) h

  -- where none is told, no step is
  pub none_told : (n : ℕ) (c d : C) (e : Evaluation) → step c ≡ goes d (Some (begin e)) → [] ≡ begins_ahead step n c → n ≤ 0
  none_told zero c d e h told = omega arith
  none_told (suc n) c d e h told = let now = begins_now n c d e h in let clash : [] ≡ e ∷ begins_ahead step n d = told ∙ now in absurd (cc)

  -- the first that is told is that one
  pub first_told : (n : ℕ) (c d : C) (e x : Evaluation) (more : List Evaluation) → step c ≡ goes d (Some (begin e)) → x ∷ more ≡ begins_ahead step n c → x ≡ e
  unfolding begins_ahead
  first_told zero c d e x more h told = absurd (cc)
  first_told (suc n) c d e x more h told = let same : x ∷ more ≡ e ∷ begins_ahead step n d = told ∙ begins_now n c d e h in cc

  -- the meaning waits where the machine is
  pub follows_waiting : {A : Type 0} (n : ℕ) (s : State) (c : C) (account : Account) (Q : A → C → State → Type 0) (E : Exception → C → State → Type 0) → n ≤ 0 → Follows step n s c account Q E (over waiting s.trace)
  follows_waiting n s c account Q E h = record { comes = record { steps = 0; to = c; takes = takes_none c s.trace; enough = h; steps_paid = omega arith } }

  -- a unit, the step that stands for it, and what is done then
  pub follows_unit_then : {B : Type 0} (n : ℕ) (s : State) (c : C) (first second both : Account) (P : C → State → Type 0) (Q : B → C → State → Type 0) (E : Exception → C → State → Type 0) (rest : Does B)
      → IsSum first second both → first.saves ≤ first.owes + 31 → s.begins ≡ begins_ahead step n c
      → ((left : ℕ) → StepsTo step (record s { budget = left }) c (λ d. P d (record s { budget = left })) (record s { budget = left }))
      → ((t : State) (d : C) (k : ℕ) → P d t → t.begins ≡ begins_ahead step k d → Follows step k t d second Q E (rest t))
      → Follows step n s c both Q E (either spend (λ _. rest) throws s)
  unfolding either spend gives throws
  follows_unit_then {B} n s c first second both P Q E rest sum small told steps more =
      subst (Follows step n s c both Q E) (same s.budget)
      (follows_then n s c first second both (λ _. P) Q E (either spend (λ _. gives nothing) throws) (λ _. rest) sum (follows_unit n s c first (λ _. P) E (gives nothing) small told steps) (λ _ t d k p told. more t d k p told))
    where
      same : (b : ℕ) → after (after (spend_of b s) (λ _. gives nothing) throws) (λ _. rest) throws ≡ after (spend_of b s) (λ _. rest) throws
      same zero = refl
      same (suc zero) = refl
      same (suc (suc l)) = refl

  -- a part of which the machine does nothing, and what is done then
  pub follows_nothing_then : {A B : Type 0} (n : ℕ) (s u : State) (c : C) (account : Account) (Q : B → C → State → Type 0) (E : Exception → C → State → Type 0) (m : Does A) (v : A) (next : A → Does B) (catches : Exception → Does B)
      → m s ≡ on v u → u.trace ≡ s.trace → u.budget ≡ s.budget → Follows step n u c account Q E (next v u) → Follows step n s c account Q E (either m next catches s)
  unfolding either
  follows_nothing_then n s u c account Q E m v next catches e same_trace same_budget f =
      subst (λ r. Follows step n s c account Q E (after r next catches)) (sym e) (follows_from n s u c account Q E (next v u) same_trace same_budget f)

  -- a part that no exception leaves, and then a change of the state of which the machine does nothing
  pub follows_changed : {A B : Type 0} (n : ℕ) (s : State) (c : C) (account : Account) (P : A → C → State → Type 0) (Q : B → C → State → Type 0) (m : Does A) (next : A → Does B) (catches : Exception → Does B)
      → account.owes ≤ account.saves + account.late
      → ((v : A) (t : State) (d : C) → P v d t → (w : B) × (u : State) × (next v t ≡ on w u) × (u.trace ≡ t.trace) × (u.budget ≡ t.budget) × (u.begins ≡ t.begins) × Q w d u)
      → Follows step n s c account P (λ e d t. ⊥) (m s) → Follows step n s c account Q (λ e d t. ⊥) (either m next catches s)
  follows_changed n s c account P Q m next catches h change f =
      follows_either n s c account zero_account (record { saves = account.saves + account.late; owes = 0; late = 0; hand = 0 }) account P Q (λ e d t. ⊥) (λ e d t. ⊥) m next catches
      (record { goes_on = omega arith; left_first = omega arith; left_second = omega (arith, h); in_hand = omega arith }) (record { goes_on = omega arith; left = omega arith; in_hand = omega arith }) f
      (λ v t d k p told. let x = change v t d p in subst (Follows step k t d zero_account Q (λ e d t. ⊥)) (sym x.2) (follows_nothing k t x.1 d zero_account Q (λ e d t. ⊥) x.0 (omega arith) x.3 x.4 x.5 x.6 told))
      (λ e t d k p told. absurd p)
    where
      zero_account : Account
      zero_account = record { saves = 0; owes = 0; late = 0; hand = 0 }
