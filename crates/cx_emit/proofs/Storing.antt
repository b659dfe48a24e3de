-- The machine stores a value in an object as the meaning does.
use Rattle.std.proofs.Common.{◌≡◌, ℕ, ◌+◌, ◌-◌, List, [], ◌∷◌, Option, Some, None, refl, sym, ap, ◌∙◌, subst, arith}
use Rattle.std.specs.Prelude.{Result, Ok, Err}
use Rattle.cx_code.specs.declared.image.Image.{Image}
use Rattle.cx_code.specs.declared.operation.Operation.TheVariants as does
use Rattle.cx_code.specs.declared.run.Kind.TheVariants as kinds
use Rattle.cx_code.specs.declared.run.Value.{Value}
use Rattle.cx_code.specs.declared.run.Value.TheVariants as values
use Rattle.cx_code.specs.Store as memory
use Rattle.cx_code.specs.State.{State}
use Rattle.cx_code.specs.Act as machine
use Rattle.cx_code.specs.Act.{next, on_some}
use Rattle.cx_core.specs.Laws.{IsNumbered}
use Rattle.cx_core.specs.Words.{Kind, Undefined}
use Rattle.cx_core.specs.Event.{Event, Answer, ended}
use Rattle.cx_core.specs.Tree.{Expr, assign, Operand}
use Rattle.cx_core.specs.Program.{Program}
use Rattle.cx_core.specs.Store as store
use Rattle.cx_core.specs.Store.{Address, Store, number, address, null, violation, written}
use Rattle.cx_core.specs.Outcome as source
use Rattle.cx_core.specs.Outcome.{Outcome, on, over, Does, Nothing, nothing, after, either, gives, throws, ends, spend, write, with_store, current_temporaries, set_temporaries}
use Rattle.cx_core.specs.Leaving.{Calls, end_each, full_expression}
use Rattle.cx_core.specs.Operators.{stored, assignment}
use Rattle.cx_core.specs.Meaning.{expr, used}
use Rattle.cx_core.proofs.Numbered.{numbered_with}
use Rattle.cx_simulation.specs.Machine.{Progress, goes, halts, begins_ahead}
use Rattle.cx_simulation.specs.ImageMachine.{progress, image_step}
use Rattle.cx_simulation.specs.Parts.{Account, IsSum, Follows, Steps}
use Rattle.cx_simulation.proofs.Parts.{follows_then, follows_less, follows_from, follows_unit, follows_step, told_on}
use Rattle.cx_simulation.proofs.Changes.{follows_changes}
use Rattle.cx_emit.specs.Values.{IsValue}
use Rattle.cx_emit.specs.Configuration.{running_at, Has, AreKept, Gives}
use Rattle.cx_emit.specs.Statements.{StandsDiscarded}
use Rattle.cx_emit.specs.Laws.{of_operand, of_expression}
use Rattle.cx_emit.proofs.Valuing.{account}
use Rattle.cx_emit.proofs.Expressions.{expr_follows, used_follows}
use Rattle.cx_emit.proofs.Asserting.{Never, never_on, at}
use Rattle.cx_emit.proofs.Objects.{IsAlive, StoresAs, keeps, stored_alike, written_keeps, alive_with}
use Rattle.cx_emit.proofs.Scopes.{IsReady, kept_ready}
use Rattle.cx_emit.proofs.Ending.{of_completion}

-- ---- full-expressions that make no temporary

module _ {C : Type 0} (step : C → Progress C) (program : Program) (calls : Calls) where
  restored : {A : Type 0} (outer : List source.Living) (v : A) (t : source.State) → t.temporaries ≡ []
      → either (either (either current_temporaries (end_each program calls) throws) (λ _. set_temporaries outer) throws) (λ _. gives v) throws t ≡ on v (record t { temporaries = outer })
  unfolding either gives throws current_temporaries set_temporaries
  restored outer v t e = ap (λ l. after (after (end_each program calls l t) (λ _. set_temporaries outer) throws) (λ _. gives v) throws) e

  -- the temporaries around are as before
  pub full_changes : {A : Type 0} (part : Does A) (n : ℕ) (s : source.State) (c : C) (account : Account) (P Q : A → C → source.State → Type 0)
      → ((v : A) (t : source.State) (d : C) → P v d t → (t.temporaries ≡ []) × Q v d (record t { temporaries = s.temporaries }))
      → Follows step n (record s { temporaries = [] }) c account P (λ e d t. ⊥) (part (record s { temporaries = [] })) → Follows step n s c account Q (λ e d t. ⊥) (full_expression program calls part s)
  unfolding either current_temporaries set_temporaries
  full_changes {A} part n s c account P Q restores follows =
      follows_from step n s (record s { temporaries = [] }) c account Q (λ e d t. ⊥) _ refl refl
      (follows_changes step n (record s { temporaries = [] }) c account P Q (λ r. after r (λ v. either last (λ _. gives v) throws) (λ e. either last (λ _. throws e) throws)) (part (record s { temporaries = [] }))
      (λ answer trace. refl)
      (λ v t d p. let x = restores v t d p in (v, record t { temporaries = s.temporaries }, restored s.temporaries v t x.0, refl, refl, refl, x.1))
      follows)
    where
      last : Does Nothing
      last = either (either current_temporaries (end_each program calls) throws) (λ _. set_temporaries s.temporaries) throws

module _ (image : Image) (function : ℕ) where
  pub with_temporaries : (s : source.State) (m : State) (temporaries : List source.Living) → IsReady image function s m → IsReady image function (record s { temporaries = temporaries }) m
  with_temporaries s m temporaries r =
      record {
        agrees = record { in_function = (r.agrees).in_function; same_store = (r.agrees).same_store; same_next = (r.agrees).same_next; same_input = (r.agrees).same_input; same_names = (r.agrees).same_names };
        no_result = r.no_result;
        has_slots = r.has_slots;
        numbered = r.numbered;
      }

  -- a leaf has been written
  pub record Written (place : ℕ) (s : source.State) (m d : State) (t : source.State) : Type 0 where
    pub machine : State
    pub is_there : d ≡ running_at machine place []
    pub ready : IsReady image function t machine
    pub same_frame : t.frame ≡ s.frame
    pub same_living : t.living ≡ s.living
    pub same_temporaries : t.temporaries ≡ s.temporaries
    pub same_slots : machine.frame.slots ≡ m.frame.slots
    pub same_below : machine.below ≡ m.below
    pub same_next : t.next ≡ s.next
    pub still_alive : (n : ℕ) → IsAlive s.store n → IsAlive t.store n

  pub written_on : (place : ℕ) (s t u : source.State) (m d e : State) → AreKept s m t d → Written place t d e u → Written place s m e u
  written_on place s t u m d e k g =
      record {
        machine = g.machine;
        is_there = g.is_there;
        ready = g.ready;
        same_frame = g.same_frame ∙ k.same_frame;
        same_living = g.same_living ∙ k.same_living;
        same_temporaries = g.same_temporaries ∙ k.same_temporaries;
        same_slots = g.same_slots ∙ k.same_slots;
        same_below = g.same_below ∙ k.same_below;
        same_next = g.same_next ∙ k.same_number;
        still_alive = λ n alive. g.still_alive n (alive.0, ap (λ l. store.leaves_of l n) k.same_store ∙ alive.1);
      }

  -- ---- the instruction that stores

  module _ {B : Type 0} (b : B) (behind : Outcome Nothing → Outcome B) (goes_on : (t : source.State) → behind (on nothing t) ≡ on b t) (ends_so : (answer : Answer) (trace : List Event) → behind (over answer trace) ≡ over answer trace)
      (s : source.State) (m : State) (r : IsReady image function s m) (budget from to : ℕ) (h : Has image function from does.Store to) (v : store.Value) (w : Value) (is : IsValue v w) where
    Writes : Value → Outcome B → Type 0
    Writes place o = Steps (image_step image) (record s { budget = budget }) (running_at m from (w ∷ place ∷ [])) (λ (_ : B) d t. Written to s m d t) (Never s m) o

    pub write_steps : (a : Address) → Steps (image_step image) (record s { budget = budget }) (running_at m from (w ∷ values.Address a.object a.leaf ∷ [])) (λ (_ : B) d t. Written to s m d t) (Never s m) (behind (write a (Some v) (record s { budget = budget })))
    unfolding write Writes
    write_steps a = by_result (written s.store a (Some v)) refl (memory.stored m.store a.object a.leaf w) refl (stored_alike s.store m.store (r.agrees).same_store a v w (keeps v w is))
      where
        there : State
        there = running_at m from (w ∷ values.Address a.object a.leaf ∷ [])

        stores : (found : Option memory.Store) → memory.stored m.store a.object a.leaf w ≡ found
            → image_step image (running_at m from (w ∷ values.Address a.object a.leaf ∷ [])) ≡ progress image (on_some found (machine.undefined kinds.Dead) (λ store. next (machine.with_store (running_at m from (w ∷ values.Address a.object a.leaf ∷ [])) store) []))
        stores found e =
            at image function s m from (w ∷ values.Address a.object a.leaf ∷ []) does.Store r.agrees h.here
            ∙ ap (λ l. progress image (on_some l (machine.undefined kinds.Dead) (λ store. next (machine.with_store (running_at m from (w ∷ values.Address a.object a.leaf ∷ [])) store) []))) e

        by_result : (x : Result Store Kind) → written s.store a (Some v) ≡ x → (y : Option memory.Store) → memory.stored m.store a.object a.leaf w ≡ y → StoresAs m.store.next x y
            → Writes (values.Address a.object a.leaf) (behind (with_store x (record s { budget = budget })))
        by_result (Ok later) e (Some new) f same =
            let leaves = written_keeps s.store later a (Some v) e in
            subst (Writes (values.Address a.object a.leaf)) (sym (goes_on (record s { budget = budget; store = later })))
            (record {
              to = running_at (record m { store = new }) (from + 1) [];
              event = None;
              goes_so = stores (Some new) f;
              noted_so = refl;
              begun_so = refl;
              same_budget = refl;
              stands = record {
                machine = record m { store = new };
                is_there = ap (λ p. running_at (record m { store = new }) p []) (sym h.next);
                ready = record {
                  agrees = record {
                    in_function = (r.agrees).in_function;
                    same_store = same.0;
                    same_next = same.1 ∙ (r.agrees).same_next;
                    same_input = (r.agrees).same_input;
                    same_names = (r.agrees).same_names;
                  };
                  no_result = r.no_result;
                  has_slots = r.has_slots;
                  numbered = subst (IsNumbered s.next) (sym leaves.1) (numbered_with s.next s.store a.object leaves.0 r.numbered);
                };
                same_frame = refl;
                same_living = refl;
                same_temporaries = refl;
                same_slots = refl;
                same_below = refl;
                same_next = refl;
                still_alive = λ n alive. subst (λ l. IsAlive l n) (sym leaves.1) (alive_with a.object n s.store leaves.0 alive);
              };
            })
        by_result (Ok later) e None f same = absurd same
        by_result (Err kind) e (Some new) f same = absurd same
        by_result (Err kind) e None f same =
            subst (Writes (values.Address a.object a.leaf)) (sym (ends_so (ended (Undefined kind)) s.trace))
            (λ other. record { event = None; halts_so = stores None f ∙ ap (λ k. halts (Undefined k) None) (sym same); noted_so = refl })

  -- a value, and then a part that stores one
  pub stores_then : {B : Type 0} (first second both : Account) (left : Does store.Value) (next : store.Value → Does B) (from mid to : ℕ) (before below : List Value) → IsSum first second both → (n : ℕ) (s : source.State) (m : State) → IsReady image function s m
      → Follows (image_step image) n s (running_at m from before) first (Gives function mid below s m) (Never s m) (left s)
      → ((v : store.Value) (w : Value) → IsValue v w → (k : ℕ) (t : source.State) (d : State) → IsReady image function t d → t.begins ≡ begins_ahead (image_step image) k (running_at d mid (w ∷ below))
      → Follows (image_step image) k t (running_at d mid (w ∷ below)) second (λ (_ : B) e u. Written to t d e u) (Never t d) (next v t))
      → Follows (image_step image) n s (running_at m from before) both (λ (_ : B) d t. Written to s m d t) (Never s m) (either left next throws s)
  stores_then {B} first second both left next from mid to before below sum n s m r follows more =
      follows_then (image_step image) n s (running_at m from before) first second both (Gives function mid below s m) (λ (_ : B) d t. Written to s m d t) (Never s m) left next sum follows behind
    where
      behind : (v : store.Value) (t : source.State) (d : State) (k : ℕ) → Gives function mid below s m v d t → t.begins ≡ begins_ahead (image_step image) k d
          → Follows (image_step image) k t d second (λ (_ : B) d t. Written to s m d t) (Never s m) (next v t)
      behind v t d k g told =
          subst (λ d. Follows (image_step image) k t d second (λ (_ : B) d t. Written to s m d t) (Never s m) (next v t)) (sym g.is_there)
          (follows_less (image_step image) k t (running_at g.machine mid (g.value ∷ below)) second second (λ (_ : B) d u. Written to t g.machine d u) (λ (_ : B) d t. Written to s m d t) (Never t g.machine) (Never s m) (next v t)
          (record { goes_on = omega arith; left = omega arith; in_hand = omega arith }) (λ _ x y b. written_on to s t y m g.machine x g.kept b) (λ x y z f. f)
          (more v g.value g.same_value k t g.machine (kept_ready image function s t m g.machine r g.kept g.agrees) (told ∙ ap (begins_ahead (image_step image) k) g.is_there)))

  -- ---- assignments

  module _ (program : Program) (calls : Calls) where
    -- behind the place and the value
    assigned_steps : (s : source.State) (m : State) (budget from to : ℕ) → IsReady image function s m → Has image function from does.Store to → (v place : store.Value) (w x : Value) → IsValue v w → IsValue place x
        → Steps (image_step image) (record s { budget = budget }) (running_at m from (w ∷ x ∷ [])) (λ (_ : store.Value) d t. Written to s m d t) (Never s m) (either (stored place v) (λ _. gives place) throws (record s { budget = budget }))
    unfolding either gives throws ends
    assigned_steps s m budget from to r h v (address a) w x is same =
        subst (λ x. Steps (image_step image) (record s { budget = budget }) (running_at m from (w ∷ x ∷ [])) (λ (_ : store.Value) d t. Written to s m d t) (Never s m) (either (stored (address a) v) (λ _. gives (address a)) throws (record s { budget = budget }))) (sym same)
        (write_steps (address a) (λ o. after o (λ _. gives (address a)) throws) (λ t. refl) (λ answer trace. refl) s m r budget from to h v w is a)
    assigned_steps s m budget from to r h v null w x is same =
        λ other. record {
          event = None;
          halts_so = ap (λ x. image_step image (running_at m from (w ∷ x ∷ []))) same ∙ at image function s m from (w ∷ values.Null ∷ []) does.Store r.agrees h.here;
          noted_so = refl;
        }
    assigned_steps s m budget from to r h v (number k) w x is same = λ other. absurd (other refl)
    assigned_steps s m budget from to r h v (store.function k) w x is same = absurd same
    assigned_steps s m budget from to r h v (violation k) w x is same = absurd same

    pub assign_follows : (a : Expr) (b : Operand) (from to : ℕ) → StandsDiscarded image function (assign a b) from to → (n : ℕ) (s : source.State) (m : State) → IsReady image function s m → s.begins ≡ begins_ahead (image_step image) n (running_at m from [])
        → Follows (image_step image) n s (running_at m from []) of_completion (λ (_ : store.Value) d t. Written to s m d t) (Never s m) (assignment (expr program calls a) (used program calls b) s)
    assign_follows a b from to st n s m r told =
        stores_then of_operand (account 40 0 1) of_completion (used program calls b) (λ v. either (expr program calls a) (λ place. either spend (λ _. either (stored place v) (λ _. gives place) throws) throws) throws) from st.0 to [] []
        (record { goes_on = omega arith; left_first = omega arith; left_second = omega arith; in_hand = omega arith }) n s m r
        (used_follows image function Never never_on program calls b from st.0 st.3 n [] s m r.agrees told)
        (λ v w is k t d r told. stores_then of_expression (account 30 0 1) (account 40 0 1) (expr program calls a) (λ place. either spend (λ _. either (stored place v) (λ _. gives place) throws) throws) st.0 st.1 to (w ∷ []) (w ∷ [])
        (record { goes_on = omega arith; left_first = omega arith; left_second = omega arith; in_hand = omega arith }) k t d r
        (expr_follows image function Never never_on program calls a st.0 st.1 st.4 k (w ∷ []) t d r.agrees told)
        (λ place x same i u e r told. swapped v place u e w x i r is same told))
      where
        -- the two values stand in the wrong order
        swapped : (v place : store.Value) (t : source.State) (e : State) (w x : Value) (k : ℕ) → IsReady image function t e → IsValue v w → IsValue place x → t.begins ≡ begins_ahead (image_step image) k (running_at e st.1 (x ∷ w ∷ []))
            → Follows (image_step image) k t (running_at e st.1 (x ∷ w ∷ [])) (account 30 0 1) (λ (_ : store.Value) d u. Written to t e d u) (Never t e) (either spend (λ _. either (stored place v) (λ _. gives place) throws) throws t)
        swapped v place t e w x k ready is same told =
            let goes_so : image_step image (running_at e st.1 (x ∷ w ∷ [])) ≡ goes (running_at e st.2 (w ∷ x ∷ [])) None =
            at image function t e st.1 (x ∷ w ∷ []) does.Swap ready.agrees (st.5).here ∙ ap (λ p. goes (running_at e p (w ∷ x ∷ [])) None) (sym (st.5).next) in
            follows_step (image_step image) k t (running_at e st.1 (x ∷ w ∷ [])) (running_at e st.2 (w ∷ x ∷ [])) (account 31 0 0) (account 30 0 1) (λ (_ : store.Value) d u. Written to t e d u) (Never t e)
            (either spend (λ _. either (stored place v) (λ _. gives place) throws) throws t) goes_so (omega arith) (omega arith) (omega arith)
            (follows_unit (image_step image) (k - 1) t (running_at e st.2 (w ∷ x ∷ [])) (account 31 0 0) (λ (_ : store.Value) d u. Written to t e d u) (Never t e) (either (stored place v) (λ _. gives place) throws) (omega arith)
            (told_on (image_step image) k (running_at e st.1 (x ∷ w ∷ [])) (running_at e st.2 (w ∷ x ∷ [])) None t.begins t.begins goes_so told refl)
            (λ budget. assigned_steps t e budget st.2 to ready st.6 v place w x is same))
