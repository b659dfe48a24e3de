-- Where code stands for the declaration of a variable the machine follows it.
use Rattle.std.proofs.Common.{◌≡◌, ◌≢◌, ℕ, zero, suc, ◌+◌, ◌-◌, ◌<◌, nat_eq, length, List, [], ◌∷◌, Option, Some, None, true, false, if◌then◌else◌, inl, inr, refl, sym, ap, ◌∙◌, subst, arith}
use Rattle.std.specs.Prelude.{slice_get, slice_set}
use Rattle.std.proofs.lemmas.Bool.Decides.{eqb_tells}
use Rattle.std.proofs.lemmas.Option.{slice_get-get_or}
use Rattle.std.proofs.Math.ListN.{length-set}
use Rattle.cx_code.specs.declared.image.Image.{Image}
use Rattle.cx_code.specs.declared.operation.Operation.TheVariants as does
use Rattle.cx_code.specs.declared.run.Value.{Value}
use Rattle.cx_code.specs.declared.run.Value.TheVariants as values
use Rattle.cx_code.specs.Store as memory
use Rattle.cx_code.specs.State.{State}
use Rattle.cx_code.specs.Act as machine
use Rattle.cx_code.specs.Act.{next, on_slot, on_some, mixed}
use Rattle.cx_core.specs.Tree.{ObjectType, scalar, pointer, function_pointer, class, Operand, value}
use Rattle.cx_core.specs.Program.{Program}
use Rattle.cx_core.specs.Store as store
use Rattle.cx_core.specs.Store.{Store, address, leaves_of}
use Rattle.cx_core.specs.Outcome as source
use Rattle.cx_core.specs.Outcome.{Outcome, on, over, Does, Nothing, nothing, Living, whole, after, either, gives, throws, spend, spend_of, add, make, write, current_frame, set_frame, current_living, set_living, keep, end_lifetime}
use Rattle.cx_core.specs.Leaving.{Calls, leaves_of_type, full_expression}
use Rattle.cx_core.specs.Operators.{denoted, bind}
use Rattle.cx_core.specs.Statements.{Completion, on_to_next, variable_of}
use Rattle.cx_core.specs.Meaning.{used, init}
use Rattle.cx_core.proofs.Numbered.{free_above, numbered_above}
use Rattle.cx_simulation.specs.Machine.{goes, begins_ahead}
use Rattle.cx_simulation.specs.ImageMachine.{progress, image_step}
use Rattle.cx_simulation.specs.Parts.{Follows}
use Rattle.cx_simulation.proofs.Parts.{follows_then, follows_less, follows_from, follows_one, follows_spend, follows_step, told_on}
use Rattle.cx_simulation.proofs.Changes.{follows_changes}
use Rattle.cx_emit.specs.Values.{IsValue}
use Rattle.cx_emit.specs.Configuration.{running_at, AreNamed, Gives}
use Rattle.cx_emit.specs.Scopes.{IsOther, IsUnused}
use Rattle.cx_emit.specs.Statements.{StandsDeclaration}
use Rattle.cx_emit.specs.Laws.{of_operand}
use Rattle.cx_emit.proofs.Valuing.{account}
use Rattle.cx_emit.proofs.Expressions.{used_follows}
use Rattle.cx_emit.proofs.Asserting.{Never, never_on, at}
use Rattle.cx_emit.proofs.Objects.{IsAlive, made_alike}
use Rattle.cx_emit.proofs.Scopes.{IsSimple, AreSame, AllSame, Lives, lives_on, IsReady, IsIn, Completed, kept_ready}
use Rattle.cx_emit.proofs.Ending.{of_completion, with_living}
use Rattle.cx_emit.proofs.Storing.{full_changes, with_temporaries, Written, written_on, write_steps}

-- ---- slots that are set

get_other : {X : Type 0} (l : List X) (i k : ℕ) (x : X) → k ≢ i → slice_get (slice_set l i x) k ≡ slice_get l k
get_other [] i k x h = refl
get_other (y ∷ l) zero zero x h = absurd (h refl)
get_other (y ∷ l) zero (suc k) x h = refl
get_other (y ∷ l) (suc i) zero x h = refl
get_other (y ∷ l) (suc i) (suc k) x h = get_other l i k x (λ e. h (ap suc e))

get_itself : {X : Type 0} (l : List X) (i : ℕ) (x : X) → i < length l → slice_get (slice_set l i x) i ≡ Some x
get_itself [] i x h = absurd (omega arith)
get_itself (y ∷ l) zero x h = refl
get_itself (y ∷ l) (suc i) x h = get_itself l i x (omega (arith, h))

others_same : (slot : ℕ) (slots : List ℕ) (l : List (Option Value)) (x : Option Value) → IsOther slot slots → AreSame slots l (slice_set l slot x)
others_same slot [] l x h = tt {0}
others_same slot (other ∷ slots) l x h = (get_other l slot other x h.0, others_same slot slots l x h.1)

pub unused_same : (slot : ℕ) (scopes : List (List ℕ)) (l : List (Option Value)) (x : Option Value) → IsUnused slot scopes → AllSame scopes l (slice_set l slot x)
unused_same slot [] l x h = tt {0}
unused_same slot (slots ∷ scopes) l x h = (others_same slot slots l x h.0, unused_same slot scopes l x h.1)

-- the slot's name denotes the value, the others what they did
pub named_on : (slot : ℕ) (now : store.Value) (what : Value) → IsValue now what → (variables : List (ℕ × store.Value)) (slots : List (Option Value)) → slot < length slots → AreNamed variables slots → AreNamed ((slot, now) ∷ variables) (slice_set slots slot (Some what))
named_on slot now what is variables slots h named other v e = elim (eqb_tells slot other) [ inl f ↦ this f.0 f.1 | inr f ↦ that f.0 (λ g. f.1 (sym g)) ]
  where
    is_that : (a b : store.Value) → Some a ≡ Some b → a ≡ b
    is_that a b e = cc

    this : nat_eq slot other ≡ true → slot ≡ other → (w : Value) × (slice_get (slice_set slots slot (Some what)) other ≡ Some (Some w)) × IsValue v w
    this f g =
        let same : Some now ≡ Some v = sym (ap (λ b. if b then Some now else denoted variables other) f) ∙ e in
        (what, ap (slice_get (slice_set slots slot (Some what))) (sym g) ∙ get_itself slots slot (Some what) h, subst (λ v. IsValue v what) (is_that now v same) is)

    that : nat_eq slot other ≡ false → other ≢ slot → (w : Value) × (slice_get (slice_set slots slot (Some what)) other ≡ Some (Some w)) × IsValue v w
    that f g =
        let x = named other v (sym (ap (λ b. if b then Some now else denoted variables other) f) ∙ e) in
        (x.0, get_other slots slot other (Some what) g ∙ x.1, x.2)

-- ---- an object more

alive_itself : (store : Store) (n : ℕ) → IsAlive (record { number = n; leaves = None ∷ [] } ∷ store) n
alive_itself store n = elim (eqb_tells n n) [ inl e ↦ (None ∷ [], ap (λ b. if b then Some (None ∷ []) else leaves_of store n) e.0) | inr e ↦ absurd (e.1 refl) ]

alive_more : (store : Store) (n k : ℕ) → k < n → IsAlive store k → IsAlive (record { number = n; leaves = None ∷ [] } ∷ store) k
alive_more store n k h alive = elim (eqb_tells n k) [ inl e ↦ absurd (omega (arith, h, e.1)) | inr e ↦ (alive.0, ap (λ b. if b then Some (None ∷ []) else leaves_of store k) e.0 ∙ alive.1) ]

module _ (image : Image) (function : ℕ) (program : Program) (calls : Calls) (scopes : List (List ℕ)) (slot : ℕ) (type : ObjectType) (simple : IsSimple type) (a : Operand) (from to : ℕ) (st : StandsDeclaration image function scopes slot a from to) where
  module _ (s : source.State) (m : State) (r : IsReady image function s m) where
    -- where the object is made and its name bound, with so many units left
    bound : ℕ → source.State
    bound left = record s {
      temporaries = [];
      budget = left;
      next = suc s.next;
      store = record { number = s.next; leaves = None ∷ [] } ∷ s.store;
      frame = record (s.frame) { variables = (slot, address (record { object = s.next; leaf = 0 })) ∷ (s.frame).variables };
    }

    with_object : State
    with_object = record m { store = memory.made m.store 1; frame = record (m.frame) { slots = slice_set (m.frame).slots slot (Some (values.Address s.next 0)) } }

    is_within : slot < length (m.frame).slots
    is_within = omega (arith, st.is_slot, r.has_slots)

    bound_ready : (left : ℕ) → IsReady image function (bound left) with_object
    unfolding bound with_object
    bound_ready left = record {
      agrees = record {
        in_function = (r.agrees).in_function;
        same_store = made_alike s.store m.store s.next (r.agrees).same_next (r.agrees).same_store;
        same_next = ap (λ n. n + 1) (r.agrees).same_next ∙ omega arith;
        same_input = (r.agrees).same_input;
        same_names = named_on slot (address (record { object = s.next; leaf = 0 })) (values.Address s.next 0) refl (s.frame).variables (m.frame).slots is_within (r.agrees).same_names;
      };
      no_result = r.no_result;
      has_slots = length-set (m.frame).slots slot (Some (values.Address s.next 0)) ∙ r.has_slots;
      numbered = (omega arith, (free_above s.next s.store s.next (omega arith) r.numbered, numbered_above s.next s.store r.numbered));
    }

    makes_so : image_step image (running_at m from []) ≡ goes (running_at with_object st.made []) None
    unfolding with_object
    makes_so =
        at image function s m from [] (does.Make 1 slot) r.agrees (st.makes).here
        ∙ ap (λ x. progress image (on_some x mixed (λ old. next (machine.with_store (machine.with_slots (running_at m from []) (slice_set (m.frame).slots slot (Some (values.Address m.store.next 0)))) (memory.made m.store 1)) []))) (slice_get-get_or (m.frame).slots slot None is_within)
        ∙ ap (λ n. goes (running_at (record m { store = memory.made m.store 1; frame = record (m.frame) { slots = slice_set (m.frame).slots slot (Some (values.Address n 0)) } }) (from + 1) []) None) (r.agrees).same_next
        ∙ ap (λ p. goes (running_at (record m { store = memory.made m.store 1; frame = record (m.frame) { slots = slice_set (m.frame).slots slot (Some (values.Address s.next 0)) } }) p []) None) (sym (st.makes).next)

    gets_so : image_step image (running_at with_object st.made []) ≡ goes (running_at with_object st.placed (values.Address s.next 0 ∷ [])) None
    unfolding with_object
    gets_so =
        at image function (bound 0) with_object st.made [] (does.Get slot) (bound_ready 0).agrees (st.gets).here
        ∙ ap (λ x. progress image (on_slot x (λ value. next (running_at with_object st.made []) (value ∷ [])))) (get_itself (m.frame).slots slot (Some (values.Address s.next 0)) is_within)
        ∙ ap (λ p. goes (running_at with_object p (values.Address s.next 0 ∷ [])) None) (sym (st.gets).next)

    the_place : store.Address
    the_place = record { object = s.next; leaf = 0 }

    -- the value is stored
    stored_follows : (left : ℕ) (v : store.Value) (t : source.State) (d : State) (k : ℕ) → Gives function st.valued (values.Address s.next 0 ∷ []) (bound left) with_object v d t → t.begins ≡ begins_ahead (image_step image) k d
        → Follows (image_step image) k t d (account 0 1 1) (λ (_ : Nothing) e u. Written image function to (bound left) with_object e u) (Never (bound left) with_object) (write the_place (Some v) t)
    unfolding the_place
    stored_follows left v t d k g told =
        subst (λ d. Follows (image_step image) k t d (account 0 1 1) (λ (_ : Nothing) e u. Written image function to (bound left) with_object e u) (Never (bound left) with_object) (write the_place (Some v) t)) (sym g.is_there)
        (follows_less (image_step image) k t (running_at g.machine st.valued (g.value ∷ values.Address s.next 0 ∷ [])) (account 0 1 1) (account 0 1 1) (λ (_ : Nothing) e u. Written image function to t g.machine e u) (λ (_ : Nothing) e u. Written image function to (bound left) with_object e u)
        (Never t g.machine) (Never (bound left) with_object) _ (record { goes_on = omega arith; left = omega arith; in_hand = omega arith }) (λ _ e u b. written_on image function to (bound left) t u with_object g.machine e g.kept b) (λ x y z f. f)
        (follows_one (image_step image) k t (running_at g.machine st.valued (g.value ∷ values.Address s.next 0 ∷ [])) (account 0 1 1) (λ (_ : Nothing) e u. Written image function to t g.machine e u) (Never t g.machine) _ (omega arith) (omega arith)
        (told ∙ ap (begins_ahead (image_step image) k) g.is_there)
        (write_steps image function nothing (λ o. o) (λ t. refl) (λ answer trace. refl) t g.machine (kept_ready image function (bound left) t with_object g.machine (bound_ready left) g.kept g.agrees) t.budget st.valued to st.stores v g.value g.same_value the_place)))

    -- behind the object's unit the value is evaluated and stored
    valued_follows : (left n : ℕ) → s.begins ≡ begins_ahead (image_step image) n (running_at with_object st.made [])
        → Follows (image_step image) n (bound left) (running_at with_object st.made []) (account 2 0 1) (λ (_ : Nothing) d t. Written image function to (bound left) with_object d t) (Never (bound left) with_object) (either (used program calls a) (λ v. write the_place (Some v)) throws (bound left))
    unfolding bound
    valued_follows left n told =
        let told_placed : s.begins ≡ begins_ahead (image_step image) (n - 1) (running_at with_object st.placed (values.Address s.next 0 ∷ [])) =
        told_on (image_step image) n (running_at with_object st.made []) (running_at with_object st.placed (values.Address s.next 0 ∷ [])) None s.begins s.begins gets_so told refl in
        follows_step (image_step image) n (bound left) (running_at with_object st.made []) (running_at with_object st.placed (values.Address s.next 0 ∷ [])) (account 3 0 0) (account 2 0 1) (λ (_ : Nothing) d t. Written image function to (bound left) with_object d t) (Never (bound left) with_object) _ gets_so (omega arith) (omega arith) (omega arith)
        (follows_then (image_step image) (n - 1) (bound left) (running_at with_object st.placed (values.Address s.next 0 ∷ [])) of_operand (account 0 1 1) (account 3 0 0) (Gives function st.valued (values.Address s.next 0 ∷ []) (bound left) with_object) (λ (_ : Nothing) d t. Written image function to (bound left) with_object d t) (Never (bound left) with_object)
        (used program calls a) (λ v. write the_place (Some v)) (record { goes_on = omega arith; left_first = omega arith; left_second = omega arith; in_hand = omega arith })
        (used_follows image function Never never_on program calls a st.placed st.valued st.stands (n - 1) (values.Address s.next 0 ∷ []) (bound left) with_object (bound_ready left).agrees told_placed)
        (λ v t d k g told. stored_follows left v t d k g told))

    -- ---- what is so behind the declaration

    module _ (first : ℕ) (now : List ℕ) (outer : List (List ℕ)) (same_scopes : scopes ≡ now ∷ outer) (i : IsIn image function first now s m) (Wants : Completion → ℕ → Type 0) (wanted : Wants on_to_next to) where
      the_variable : Living
      the_variable = whole s.next type

      unused : IsUnused slot (now ∷ outer)
      unused = subst (IsUnused slot) same_scopes st.is_unused

      declared : (left : ℕ) (t : source.State) (d : State) → Written image function to (bound left) with_object d t
          → Completed image function first (now ∷ outer) (slot ∷ now) Wants s m on_to_next d (record t { living = the_variable ∷ t.living; temporaries = s.temporaries })
      unfolding bound with_object the_variable
      declared left t d g =
          record {
            machine = g.machine;
            place = to;
            operands = [];
            is_there = g.is_there;
            carried = refl;
            wanted = wanted;
            is_in = record {
              ready = with_temporaries image function (record t { living = whole s.next type ∷ t.living }) g.machine s.temporaries (with_living image function program calls t g.machine (whole s.next type ∷ t.living) g.ready);
              first_number = omega (arith, i.first_number, g.same_next);
              lives = (
                simple,
                ap (λ l. slice_get l slot) g.same_slots ∙ get_itself (m.frame).slots slot (Some (values.Address s.next 0)) is_within,
                i.first_number,
                omega (arith, g.same_next),
                g.still_alive s.next (alive_itself s.store s.next),
                subst (λ living. Lives first s.next t.store (g.machine).frame.slots now living) (sym g.same_living)
                    (lives_on first s.next s.next s.store t.store (m.frame).slots (g.machine).frame.slots now s.living (omega arith)
                    (subst (λ l. AreSame now (m.frame).slots l) (sym g.same_slots) (others_same slot now (m.frame).slots (Some (values.Address s.next 0)) (unused).0))
                    (λ k h alive. g.still_alive k (alive_more s.store s.next k h alive)) i.lives),
              );
            };
            left = record {
              same_slots = subst (λ l. AllSame (now ∷ outer) (m.frame).slots l) (sym g.same_slots) (unused_same slot (now ∷ outer) (m.frame).slots (Some (values.Address s.next 0)) unused);
              same_below = g.same_below;
              more_numbers = omega (arith, g.same_next);
              still_alive = λ n h alive. g.still_alive n (alive_more s.store s.next n h alive);
            };
          }

      -- what is done with the object of this number
      abbrev made_object : ℕ → Does ℕ
      made_object n =
          either (either (either (bind slot (address (record { object = n; leaf = 0 }))) (λ _. init program calls (value a) (record { object = n; leaf = 0 })) throws) gives (λ e. either (end_lifetime n) (λ _. throws e) throws))
          (λ _. either (keep (whole n type)) (λ _. gives n) throws) throws

      abbrev objects : ℕ → Does ℕ
      objects leaves = either (make leaves) made_object throws

      -- what is done behind its unit
      behind_unit : Does Nothing
      behind_unit = either (either (add 1) made_object throws) (λ _. gives nothing) throws

      unit_first : (t : source.State) → either (either (gives 1) objects throws) (λ _. gives nothing) throws t ≡ either spend (λ _. behind_unit) throws t
      unfolding either gives throws spend behind_unit
      unit_first t = by_left t.budget
        where
          by_left : (left : ℕ) → after (after (after (spend_of left t) (λ _. add 1) throws) made_object throws) (λ _. gives nothing) throws ≡ after (spend_of left t) (λ _. behind_unit) throws
          by_left zero = refl
          by_left (suc zero) = refl
          by_left (suc (suc left)) = refl

      abbrev Declares : State → source.State → Type 0
      Declares d t = (t.temporaries ≡ []) × Completed image function first (now ∷ outer) (slot ∷ now) Wants s m on_to_next d (record t { temporaries = s.temporaries })

      -- the object is made, and its unit is paid by that
      behind_unit_follows : (left n : ℕ) → s.begins ≡ begins_ahead (image_step image) n (running_at with_object st.made [])
          → Follows (image_step image) n (record s { temporaries = []; budget = left }) (running_at with_object st.made []) (account 2 0 1) (λ (_ : Nothing) d t. Declares d t) (λ e d t. ⊥) (behind_unit (record s { temporaries = []; budget = left }))
      unfolding init either gives throws add current_frame set_frame current_living set_living bound the_place the_variable behind_unit
      behind_unit_follows left n told =
          follows_from (image_step image) n (record s { temporaries = []; budget = left }) (bound left) (running_at with_object st.made []) (account 2 0 1) (λ (_ : Nothing) d t. Declares d t) (λ e d t. ⊥) _ refl refl
          (follows_changes (image_step image) n (bound left) (running_at with_object st.made []) (account 2 0 1) (λ (_ : Nothing) d t. Written image function to (bound left) with_object d t) (λ (_ : Nothing) d t. Declares d t)
          (λ r. after (after (after r gives (λ e. either (end_lifetime s.next) (λ _. throws e) throws)) (λ _. either (keep (whole s.next type)) (λ _. gives s.next) throws) throws) (λ _. gives nothing) throws)
          (either (used program calls a) (λ v. write the_place (Some v)) throws (bound left))
          (λ answer trace. refl)
          (λ _ t d g. (nothing, record t { living = whole s.next type ∷ t.living }, refl, refl, refl, refl, (g.same_temporaries, declared left t d g)))
          (valued_follows left n told))

      one_leaf_follows : (n : ℕ) → s.begins ≡ begins_ahead (image_step image) n (running_at m from [])
          → Follows (image_step image) n s (running_at m from []) of_completion (λ (_ : Nothing) d t. Completed image function first (now ∷ outer) (slot ∷ now) Wants s m on_to_next d t) (Never s m) (full_expression program calls (either (either (gives 1) objects throws) (λ _. gives nothing) throws) s)
      one_leaf_follows n told =
          full_changes (image_step image) program calls (either (either (gives 1) objects throws) (λ _. gives nothing) throws) n s (running_at m from []) of_completion
          (λ (_ : Nothing) d t. Declares d t) (λ (_ : Nothing) d t. Completed image function first (now ∷ outer) (slot ∷ now) Wants s m on_to_next d t)
          (λ _ t d p. p)
          (subst (Follows (image_step image) n (record s { temporaries = [] }) (running_at m from []) of_completion (λ (_ : Nothing) d t. Declares d t) (λ e d t. ⊥)) (sym (unit_first (record s { temporaries = [] })))
          (follows_step (image_step image) n (record s { temporaries = [] }) (running_at m from []) (running_at with_object st.made []) (record { saves = 1; owes = 0; late = 0; hand = 1 }) of_completion (λ (_ : Nothing) d t. Declares d t) (λ e d t. ⊥) _ makes_so (omega arith) (omega arith) (omega arith)
          (follows_spend (image_step image) (n - 1) (record s { temporaries = [] }) (running_at with_object st.made []) (account 2 0 1) 1 0 (λ (_ : Nothing) d t. Declares d t) (λ e d t. ⊥) behind_unit (omega arith) (omega arith)
          (λ left _. behind_unit_follows left (n - 1) (told_on (image_step image) n (running_at m from []) (running_at with_object st.made []) None s.begins s.begins makes_so told refl)))))

      one_leaf : (type : ObjectType) → IsSimple type → leaves_of_type program calls type ≡ gives 1
      one_leaf (scalar t) h = refl
      one_leaf (pointer t) h = refl
      one_leaf (function_pointer t) h = refl
      one_leaf (class c) h = absurd h

      pub declaration_follows : (n : ℕ) → s.begins ≡ begins_ahead (image_step image) n (running_at m from [])
          → Follows (image_step image) n s (running_at m from []) of_completion (λ (_ : Nothing) d t. Completed image function first (now ∷ outer) (slot ∷ now) Wants s m on_to_next d t) (Never s m) (variable_of program calls slot type (init program calls (value a)) s)
      declaration_follows n told =
          subst (λ leaves. Follows (image_step image) n s (running_at m from []) of_completion (λ (_ : Nothing) d t. Completed image function first (now ∷ outer) (slot ∷ now) Wants s m on_to_next d t) (Never s m) (full_expression program calls (either (either leaves objects throws) (λ _. gives nothing) throws) s))
          (sym (one_leaf type simple)) (one_leaf_follows n told)
