-- The machine ends the objects of a scope as the meaning does.
use Rattle.std.proofs.Common.{◌≡◌, ℕ, ◌+◌, ◌-◌, ◌<◌, ◌≤◌, List, [], ◌∷◌, Some, None, refl, sym, ap, ◌∙◌, subst, arith}
use Rattle.std.specs.Prelude.{slice_get}
use Rattle.cx_code.specs.declared.image.Image.{Image}
use Rattle.cx_code.specs.declared.operation.Operation.TheVariants as does
use Rattle.cx_code.specs.declared.run.Kind.TheVariants as kinds
use Rattle.cx_code.specs.declared.run.Value.{Value}
use Rattle.cx_code.specs.declared.run.Value.TheVariants as values
use Rattle.cx_code.specs.Store as memory
use Rattle.cx_code.specs.State.{State}
use Rattle.cx_code.specs.Act.{next, on_slot, on_some, undefined, with_store}
use Rattle.cx_core.specs.Tree.{ObjectType, scalar, pointer, function_pointer, class}
use Rattle.cx_core.specs.Program.{Program}
use Rattle.cx_core.specs.Store.{without}
use Rattle.cx_core.specs.Outcome as source
use Rattle.cx_core.specs.Outcome.{Does, Living, whole, Nothing, nothing, either, gives, throws, spend, remove, current_living, set_living}
use Rattle.cx_core.specs.Leaving.{Calls, end, end_each, scope}
use Rattle.cx_core.specs.Statements.{Completion}
use Rattle.cx_core.proofs.Numbered.{numbered_without}
use Rattle.cx_simulation.specs.Machine.{goes, begins_ahead}
use Rattle.cx_simulation.specs.ImageMachine.{progress, image_step}
use Rattle.cx_simulation.specs.Parts.{Account, Follows, StepsTo}
use Rattle.cx_simulation.proofs.Parts.{follows_then, follows_either, follows_less, follows_gives, follows_from, follows_unit, follows_step, follows_changed, told_on}
use Rattle.cx_emit.specs.Configuration.{running_at, Has}
use Rattle.cx_emit.specs.Scopes.{StandsEnds}
use Rattle.cx_emit.proofs.Valuing.{account}
use Rattle.cx_emit.proofs.Asserting.{Never, at}
use Rattle.cx_emit.proofs.Objects.{IsAlive, ended_alike, lives_alike, without_other}
use Rattle.cx_emit.proofs.Scopes.{IsSimple, AllSame, all_same, Lives, lives_on, IsReady, IsIn, Completed, Departed}

-- a statement asks for no more steps than its units pay for, but for what comes before its first unit: the jump to a loop, the making of an object, the emptying of a slot
abbrev pub of_completion : Account
of_completion = account 0 0 2

module _ (image : Image) (function : ℕ) where
  -- objects have ended, which had no lower numbers
  pub record Ended (first place : ℕ) (operands : List Value) (s : source.State) (m d : State) (t : source.State) : Type 0 where
    pub machine : State
    pub is_there : d ≡ running_at machine place operands
    pub ready : IsReady image function t machine
    pub same_slots : machine.frame.slots ≡ m.frame.slots
    pub same_below : machine.below ≡ m.below
    pub same_next : t.next ≡ s.next
    pub still_alive : (n : ℕ) → n < first → IsAlive s.store n → IsAlive t.store n

  ended_on : (first later place p : ℕ) (operands : List Value) (s t u : source.State) (m d e : State) → first ≤ later → (a : Ended later p operands s m d t) → Ended first place operands t a.machine e u → Ended first place operands s m e u
  ended_on first later place p operands s t u m d e le a b =
      record {
        machine = b.machine;
        is_there = b.is_there;
        ready = b.ready;
        same_slots = b.same_slots ∙ a.same_slots;
        same_below = b.same_below ∙ a.same_below;
        same_next = b.same_next ∙ a.same_next;
        still_alive = λ n h alive. b.still_alive n h (a.still_alive n (omega (arith, h, le)) alive);
      }

  -- ---- one object

  module _ (object : ℕ) (s : source.State) (m : State) (r : IsReady image function s m) (alive : IsAlive s.store object) (operands : List Value) where
    end_step : (from to : ℕ) → Has image function from does.End to → (budget : ℕ)
        → let t : source.State = record s { budget = budget; store = without s.store object } in
        StepsTo (image_step image) (record s { budget = budget }) (running_at m from (values.Address object 0 ∷ operands)) (λ d. Ended object to operands s m d t) t
    end_step from to h budget =
        let there : State = running_at m from (values.Address object 0 ∷ operands) in
        let lives = lives_alike s.store m.store object (r.agrees).same_store alive in
        record {
          to = running_at (record m { store = memory.ended m.store object }) (from + 1) operands;
          event = None;
          goes_so = at image function s m from (values.Address object 0 ∷ operands) does.End r.agrees h.here
              ∙ ap (λ l. progress image (on_some l (undefined kinds.Dead) (λ leaves. next (with_store there (memory.ended there.store object)) operands))) lives.1;
          noted_so = refl;
          begun_so = refl;
          same_budget = refl;
          stands = record {
            machine = record m { store = memory.ended m.store object };
            is_there = ap (λ p. running_at (record m { store = memory.ended m.store object }) p operands) (sym h.next);
            ready = record {
              agrees = record {
                in_function = (r.agrees).in_function;
                same_store = ended_alike s.next s.store m.store object r.numbered (r.agrees).same_store;
                same_next = (r.agrees).same_next;
                same_input = (r.agrees).same_input;
                same_names = (r.agrees).same_names;
              };
              no_result = r.no_result;
              has_slots = r.has_slots;
              numbered = numbered_without s.next s.store object r.numbered;
            };
            same_slots = refl;
            same_below = refl;
            same_next = refl;
            still_alive = λ n h alive. (alive.0, without_other object n s.store (λ e. absurd (omega (arith, e, h))) ∙ alive.1);
          };
        }

    end_follows : (from mid to slot : ℕ) → Has image function from (does.Get slot) mid → Has image function mid does.End to → slice_get m.frame.slots slot ≡ Some (Some (values.Address object 0))
        → (n : ℕ) → s.begins ≡ begins_ahead (image_step image) n (running_at m from operands)
        → Follows (image_step image) n s (running_at m from operands) of_completion (λ (_ : Nothing) d t. Ended object to operands s m d t) (Never s m) (either spend (λ _. remove object) throws s)
    unfolding remove
    end_follows from mid to slot gets ends found n told =
        let there : image_step image (running_at m from operands) ≡ goes (running_at m mid (values.Address object 0 ∷ operands)) None =
        at image function s m from operands (does.Get slot) r.agrees gets.here ∙ ap (λ x. progress image (on_slot x (λ value. next (running_at m from operands) (value ∷ operands)))) found
        ∙ ap (λ p. goes (running_at m p (values.Address object 0 ∷ operands)) None) (sym gets.next) in
        follows_step (image_step image) n s (running_at m from operands) (running_at m mid (values.Address object 0 ∷ operands)) (account 1 0 0) of_completion (λ (_ : Nothing) d t. Ended object to operands s m d t) (Never s m)
        (either spend (λ _. remove object) throws s) there (omega arith) (omega arith) (omega arith)
        (follows_unit (image_step image) (n - 1) s (running_at m mid (values.Address object 0 ∷ operands)) (account 1 0 0) (λ (_ : Nothing) d t. Ended object to operands s m d t) (Never s m) (remove object) (omega arith)
        (told_on (image_step image) n (running_at m from operands) (running_at m mid (values.Address object 0 ∷ operands)) None s.begins s.begins there told refl)
        (end_step mid to ends))

  module _ (program : Program) (calls : Calls) where
    -- ---- all objects of a scope

    ends_so : (type : ObjectType) (object : ℕ) → IsSimple type → end program calls (whole object type) ≡ either (gives nothing) (λ _. either spend (λ _. remove object) throws) throws
    ends_so (scalar t) object h = refl
    ends_so (pointer t) object h = refl
    ends_so (function_pointer t) object h = refl
    ends_so (class c) object h = absurd h

    ends_follow : (now : List ℕ) (living : List Living) (from to : ℕ) → StandsEnds image function now from to → (first upper : ℕ) (operands : List Value) (n : ℕ) (s : source.State) (m : State) → IsReady image function s m
        → Lives first upper s.store m.frame.slots now living → s.begins ≡ begins_ahead (image_step image) n (running_at m from operands)
        → Follows (image_step image) n s (running_at m from operands) of_completion (λ (_ : Nothing) d t. Ended first to operands s m d t) (Never s m) (end_each program calls living s)
    unfolding either gives
    ends_follow [] [] from to st first upper operands n s m r lives told =
        follows_gives (image_step image) n s (running_at m from operands) of_completion (λ (_ : Nothing) d t. Ended first to operands s m d t) (Never s m) nothing (omega arith)
        (record { machine = m; is_there = ap (λ p. running_at m p operands) (sym st); ready = r; same_slots = refl; same_below = refl; same_next = refl; still_alive = λ n h alive. alive }) told
    ends_follow [] (l ∷ living) from to st first upper operands n s m r lives told = absurd lives
    ends_follow (slot ∷ now) (whole object type ∷ living) from to st first upper operands n s m r lives told =
        subst (λ part. Follows (image_step image) n s (running_at m from operands) of_completion (λ (_ : Nothing) d t. Ended first to operands s m d t) (Never s m) (either part (λ _. end_each program calls living) throws s)) (sym (ends_so type object lives.0))
        (follows_then (image_step image) n s (running_at m from operands) of_completion of_completion of_completion (λ (_ : Nothing) d t. Ended object st.1 operands s m d t) (λ (_ : Nothing) d t. Ended first to operands s m d t) (Never s m)
        (either spend (λ _. remove object) throws) (λ _. end_each program calls living)
        (record { goes_on = omega arith; left_first = omega arith; left_second = omega arith; in_hand = omega arith })
        (end_follows object s m r lives.4 operands from st.0 st.1 slot st.2 st.3 lives.1 n told)
        (λ _ t d k g told. more (λ k t m r lives told. ends_follow now living st.1 to st.4 first object operands k t m r lives told) t d k g told))
      where
        more : ((k : ℕ) (t : source.State) (d : State) → IsReady image function t d → Lives first object t.store d.frame.slots now living → t.begins ≡ begins_ahead (image_step image) k (running_at d st.1 operands)
            → Follows (image_step image) k t (running_at d st.1 operands) of_completion (λ (_ : Nothing) e u. Ended first to operands t d e u) (Never t d) (end_each program calls living t))
            → (t : source.State) (d : State) (k : ℕ) → Ended object st.1 operands s m d t → t.begins ≡ begins_ahead (image_step image) k d
            → Follows (image_step image) k t d of_completion (λ (_ : Nothing) d t. Ended first to operands s m d t) (Never s m) (end_each program calls living t)
        more later t d k g told =
            subst (λ d. Follows (image_step image) k t d of_completion (λ (_ : Nothing) d t. Ended first to operands s m d t) (Never s m) (end_each program calls living t)) (sym g.is_there)
            (follows_less (image_step image) k t (running_at g.machine st.1 operands) of_completion of_completion (λ (_ : Nothing) d u. Ended first to operands t g.machine d u) (λ (_ : Nothing) d t. Ended first to operands s m d t) (Never t g.machine) (Never s m) (end_each program calls living t)
            (record { goes_on = omega arith; left = omega arith; in_hand = omega arith })
            (λ _ e u b. ended_on first object to st.1 operands s t u m d e lives.2 g b) (λ e d t f. f)
            (later k t g.machine g.ready
            (lives_on first object object s.store t.store m.frame.slots (g.machine).frame.slots now living (omega arith) (all_same (now ∷ []) m.frame.slots (g.machine).frame.slots g.same_slots).0 g.still_alive lives.5)
            (told ∙ ap (begins_ahead (image_step image) k) g.is_there)))
    ends_follow (slot ∷ now) living from to st first upper operands n s m r lives told = absurd lives

    -- ---- a scope

    pub with_living : (s : source.State) (m : State) (living : List Living) → IsReady image function s m → IsReady image function (record s { living = living }) m
    with_living s m living r =
        record {
          agrees = record { in_function = (r.agrees).in_function; same_store = (r.agrees).same_store; same_next = (r.agrees).same_next; same_input = (r.agrees).same_input; same_names = (r.agrees).same_names };
          no_result = r.no_result;
          has_slots = r.has_slots;
          numbered = r.numbered;
        }

    module _ (scopes : List (List ℕ)) (Inner : List ℕ → Completion → ℕ → Type 0) (Outer : Completion → ℕ → Type 0) (splits : (now : List ℕ) (c : Completion) (place : ℕ) → Inner now c place → (p : ℕ) × StandsEnds image function now place p × Outer c p) where
      -- how the statements of the scope are left
      abbrev pub Within : ℕ → source.State → State → Completion → State → source.State → Type 0
      Within first s m c d t = (now : List ℕ) × Completed image function first ([] ∷ scopes) now (Inner now) s m c d t

      module _ (s : source.State) (m : State) (r : IsReady image function s m) where
        inner : source.State
        inner = record s { living = [] }

        -- the objects have ended
        outside : (c : Completion) (t u : source.State) (d e : State) (g : Within s.next inner m c d t) → (x : (p : ℕ) × StandsEnds image function g.0 (g.1).place p × Outer c p) → Ended s.next x.0 (g.1).operands t (g.1).machine e u
            → Departed image function scopes Outer s m c e (record u { living = s.living })
        unfolding inner
        outside c t u d e g x b =
            record {
              machine = b.machine;
              place = x.0;
              operands = (g.1).operands;
              is_there = b.is_there;
              carried = (g.1).carried;
              wanted = x.2;
              ready = with_living u b.machine s.living b.ready;
              same_living = refl;
              left = record {
                same_slots = subst (λ slots. AllSame scopes m.frame.slots slots) (sym b.same_slots) (((g.1).left).same_slots).1;
                same_below = b.same_below ∙ ((g.1).left).same_below;
                more_numbers = omega (arith, ((g.1).left).more_numbers, b.same_next);
                still_alive = λ n h alive. b.still_alive n h (((g.1).left).still_alive n h alive);
              };
            }

        closes : (c : Completion) (t : source.State) (d : State) (k : ℕ) → Within s.next inner m c d t → t.begins ≡ begins_ahead (image_step image) k d
            → Follows (image_step image) k t d of_completion (Departed image function scopes Outer s m) (Never s m) (either (either (either current_living (end_each program calls) throws) (λ _. set_living s.living) throws) (λ _. gives c) throws t)
        unfolding either gives throws current_living set_living
        closes c t d k g told =
            let x = splits g.0 c (g.1).place (g.1).wanted in
            subst (λ d. Follows (image_step image) k t d of_completion (Departed image function scopes Outer s m) (Never s m) (either (either (either current_living (end_each program calls) throws) (λ _. set_living s.living) throws) (λ _. gives c) throws t)) (sym (g.1).is_there)
            (follows_changed (image_step image) k t (running_at (g.1).machine (g.1).place (g.1).operands) of_completion (λ (_ : Nothing) d u. Departed image function scopes Outer s m c d u) (Departed image function scopes Outer s m)
            (either (end_each program calls t.living) (λ _. set_living s.living) throws) (λ _. gives c) throws (omega arith)
            (λ _ u e b. (c, u, refl, refl, refl, refl, b))
            (follows_changed (image_step image) k t (running_at (g.1).machine (g.1).place (g.1).operands) of_completion (λ (_ : Nothing) e u. Ended s.next x.0 (g.1).operands t (g.1).machine e u) (λ (_ : Nothing) d u. Departed image function scopes Outer s m c d u)
            (end_each program calls t.living) (λ _. set_living s.living) throws (omega arith)
            (λ _ u e b. (nothing, record u { living = s.living }, refl, refl, refl, refl, outside c t u d e g x b))
            (ends_follow g.0 t.living (g.1).place x.0 x.1 s.next t.next (g.1).operands k t (g.1).machine ((g.1).is_in).ready ((g.1).is_in).lives (told ∙ ap (begins_ahead (image_step image) k) (g.1).is_there))))

        pub scope_follows : (part : Does Completion) (from : ℕ)
            → ((first n : ℕ) (s : source.State) (m : State) → IsIn image function first [] s m → s.begins ≡ begins_ahead (image_step image) n (running_at m from [])
            → Follows (image_step image) n s (running_at m from []) of_completion (Within first s m) (Never s m) (part s))
            → (n : ℕ) → s.begins ≡ begins_ahead (image_step image) n (running_at m from [])
            → Follows (image_step image) n s (running_at m from []) of_completion (Departed image function scopes Outer s m) (Never s m) (scope program calls part s)
        unfolding either current_living set_living inner
        scope_follows part from follows n told =
            follows_from (image_step image) n s inner (running_at m from []) of_completion (Departed image function scopes Outer s m) (Never s m) _ refl refl
            (follows_either (image_step image) n inner (running_at m from []) of_completion of_completion (account 2 0 0) of_completion (Within s.next inner m) (Departed image function scopes Outer s m) (Never inner m) (Never s m) part
            (λ c. either (either (either current_living (end_each program calls) throws) (λ _. set_living s.living) throws) (λ _. gives c) throws)
            (λ e. either (either (either current_living (end_each program calls) throws) (λ _. set_living s.living) throws) (λ _. throws e) throws)
            (record { goes_on = omega arith; left_first = omega arith; left_second = omega arith; in_hand = omega arith }) (record { goes_on = omega arith; left = omega arith; in_hand = omega arith })
            (follows s.next n inner m (record { ready = with_living s m [] r; first_number = omega arith; lives = tt {0} }) told)
            (λ c t d k g told. closes c t d k g told)
            (λ e t d k x told. absurd x))
