-- Where code stands for the declaration of a reference the machine follows it.
use Rattle.std.proofs.Common.{◌≡◌, ℕ, ◌-◌, ◌<◌, length, List, [], ◌∷◌, Some, None, refl, sym, ap, ◌∙◌, subst, arith}
use Rattle.std.specs.Prelude.{slice_set}
use Rattle.std.proofs.lemmas.Option.{slice_get-get_or}
use Rattle.std.proofs.Math.ListN.{length-set}
use Rattle.cx_code.specs.declared.image.Image.{Image}
use Rattle.cx_code.specs.declared.operation.Operation.TheVariants as does
use Rattle.cx_code.specs.declared.run.Value.{Value}
use Rattle.cx_code.specs.declared.run.Value.TheVariants as values
use Rattle.cx_code.specs.State.{State}
use Rattle.cx_code.specs.Act as machine
use Rattle.cx_code.specs.Act.{next, on_some, mixed}
use Rattle.cx_core.specs.Tree.{Expr}
use Rattle.cx_core.specs.Program.{Program}
use Rattle.cx_core.specs.Store as store
use Rattle.cx_core.specs.Store.{null, leaves_of}
use Rattle.cx_core.specs.Outcome as source
use Rattle.cx_core.specs.Outcome.{on, Does, Nothing, nothing, either, gives, throws, current_frame, set_frame}
use Rattle.cx_core.specs.Leaving.{Calls, full_expression}
use Rattle.cx_core.specs.Operators.{bind}
use Rattle.cx_core.specs.Statements.{Completion, on_to_next, reference_of}
use Rattle.cx_core.specs.Meaning.{expr}
use Rattle.cx_simulation.specs.Machine.{goes, begins_ahead}
use Rattle.cx_simulation.specs.ImageMachine.{progress, image_step}
use Rattle.cx_simulation.specs.Parts.{Follows}
use Rattle.cx_simulation.proofs.Parts.{follows_then, follows_less, follows_from, follows_one, follows_step, told_on}
use Rattle.cx_emit.specs.Values.{IsValue}
use Rattle.cx_emit.specs.Configuration.{running_at, Has, Gives}
use Rattle.cx_emit.specs.Scopes.{IsUnused}
use Rattle.cx_emit.specs.Statements.{StandsReference}
use Rattle.cx_emit.specs.Laws.{of_expression, of_operand}
use Rattle.cx_emit.proofs.Valuing.{account}
use Rattle.cx_emit.proofs.Expressions.{expr_follows}
use Rattle.cx_emit.proofs.Asserting.{Never, never_on, at}
use Rattle.cx_emit.proofs.Evaluating.{full_follows}
use Rattle.cx_emit.proofs.Objects.{IsAlive}
use Rattle.cx_emit.proofs.Scopes.{AllSame, all_same, all_then, Lives, lives_on, IsReady, IsIn, Completed, kept_ready}
use Rattle.cx_emit.proofs.Ending.{of_completion}
use Rattle.cx_emit.proofs.Declaring.{named_on, unused_same}

-- ---- a name that denotes something else

module _ (image : Image) (function slot : ℕ) (s : source.State) (m : State) (v : store.Value) (w : Value) where
  bound : source.State
  bound = record s { frame = record (s.frame) { variables = (slot, v) ∷ (s.frame).variables } }

  set : State
  set = record m { frame = record (m.frame) { slots = slice_set (m.frame).slots slot (Some w) } }

  bound_ready : slot < length (m.frame).slots → IsValue v w → IsReady image function s m → IsReady image function bound set
  unfolding bound set
  bound_ready h is r =
      record {
        agrees = record {
          in_function = (r.agrees).in_function;
          same_store = (r.agrees).same_store;
          same_next = (r.agrees).same_next;
          same_input = (r.agrees).same_input;
          same_names = named_on slot v w is (s.frame).variables (m.frame).slots h (r.agrees).same_names;
        };
        no_result = r.no_result;
        has_slots = length-set (m.frame).slots slot (Some w) ∙ r.has_slots;
        numbered = r.numbered;
      }

  sets_so : (from to : ℕ) → Has image function from (does.Set slot) to → slot < length (m.frame).slots → IsReady image function s m → image_step image (running_at m from (w ∷ [])) ≡ goes (running_at set to []) None
  unfolding set
  sets_so from to h k r =
      at image function s m from (w ∷ []) (does.Set slot) r.agrees h.here
      ∙ ap (λ x. progress image (on_some x mixed (λ old. next (machine.with_slots (running_at m from (w ∷ [])) (slice_set (m.frame).slots slot (Some w))) []))) (slice_get-get_or (m.frame).slots slot None k)
      ∙ ap (λ p. goes (running_at (record m { frame = record (m.frame) { slots = slice_set (m.frame).slots slot (Some w) } }) p []) None) (sym h.next)

module _ (image : Image) (function : ℕ) (program : Program) (calls : Calls) (scopes : List (List ℕ)) (slot : ℕ) (e : Expr) (from to : ℕ) (st : StandsReference image function scopes slot e from to)
    (first : ℕ) (now : List ℕ) (outer : List (List ℕ)) (same_scopes : scopes ≡ now ∷ outer) (Wants : Completion → ℕ → Type 0) (wanted : Wants on_to_next to) where
  unused : IsUnused slot (now ∷ outer)
  unused = subst (IsUnused slot) same_scopes st.is_unused

  module _ (n : ℕ) (s : source.State) (m : State) (i : IsIn image function first now s m) (told : s.begins ≡ begins_ahead (image_step image) n (running_at m from [])) where
    -- the name denotes nothing
    inner : source.State
    inner = bound image function slot s m null values.Null

    emptied : State
    emptied = set image function slot s m null values.Null

    is_within : slot < length (m.frame).slots
    is_within = omega (arith, st.is_slot, (i.ready).has_slots)

    inner_ready : IsReady image function inner emptied
    unfolding inner emptied
    inner_ready = bound_ready image function slot s m null values.Null is_within refl i.ready

    pushes_so : image_step image (running_at m from []) ≡ goes (running_at m st.pushed (values.Null ∷ [])) None
    pushes_so = at image function s m from [] does.PushNull (i.ready).agrees (st.pushes).here ∙ ap (λ p. goes (running_at m p (values.Null ∷ [])) None) (sym (st.pushes).next)

    empties_so : image_step image (running_at m st.pushed (values.Null ∷ [])) ≡ goes (running_at emptied st.emptied []) None
    unfolding emptied
    empties_so = sets_so image function slot s m null values.Null st.pushed st.emptied st.empties is_within i.ready

    abbrev Goal : State → source.State → Type 0
    Goal d t = Completed image function first (now ∷ outer) now Wants s m on_to_next d t

    -- the name denotes the place
    named_so : (v : store.Value) (t : source.State) (d : State) → (g : Gives function st.placed [] inner emptied v d t) → Goal (running_at (set image function slot t g.machine v g.value) to []) (bound image function slot t g.machine v g.value)
    unfolding inner emptied bound set
    named_so v t d g =
        let there = kept_ready image function inner t emptied g.machine inner_ready g.kept g.agrees in
        let within : slot < length (g.machine).frame.slots = omega (arith, st.is_slot, there.has_slots) in
        let same : AllSame (now ∷ outer) (m.frame).slots (slice_set (g.machine).frame.slots slot (Some g.value)) =
        all_then (now ∷ outer) (m.frame).slots (emptied.frame).slots (slice_set (g.machine).frame.slots slot (Some g.value)) (unused_same slot (now ∷ outer) (m.frame).slots (Some values.Null) unused)
        (all_then (now ∷ outer) (emptied.frame).slots (g.machine).frame.slots (slice_set (g.machine).frame.slots slot (Some g.value)) (all_same (now ∷ outer) (emptied.frame).slots (g.machine).frame.slots (g.kept).same_slots)
        (unused_same slot (now ∷ outer) (g.machine).frame.slots (Some g.value) unused)) in
        let alive : (k : ℕ) → k < s.next → IsAlive s.store k → IsAlive t.store k = λ k h alive. (alive.0, ap (λ l. leaves_of l k) (g.kept).same_store ∙ alive.1) in
        record {
          machine = set image function slot t g.machine v g.value;
          place = to;
          operands = [];
          is_there = refl;
          carried = refl;
          wanted = wanted;
          is_in = record {
            ready = bound_ready image function slot t g.machine v g.value within g.same_value there;
            first_number = omega (arith, i.first_number, (g.kept).same_number);
            lives = subst (λ living. Lives first t.next t.store (slice_set (g.machine).frame.slots slot (Some g.value)) now living) (sym (g.kept).same_living)
                (lives_on first s.next t.next s.store t.store (m.frame).slots (slice_set (g.machine).frame.slots slot (Some g.value)) now s.living (omega (arith, (g.kept).same_number)) same.0 alive i.lives);
          };
          left = record { same_slots = same; same_below = (g.kept).same_below; more_numbers = omega (arith, (g.kept).same_number); still_alive = alive };
        }

    binds : (v : store.Value) (t : source.State) (d : State) (k : ℕ) → Gives function st.placed [] inner emptied v d t → t.begins ≡ begins_ahead (image_step image) k d → Follows (image_step image) k t d (account 0 1 1) (λ (_ : Nothing) d t. Goal d t) (Never s m) (bind slot v t)
    unfolding either current_frame set_frame bound
    binds v t d k g told =
        let there = kept_ready image function inner t emptied g.machine inner_ready g.kept g.agrees in
        let within : slot < length (g.machine).frame.slots = omega (arith, st.is_slot, there.has_slots) in
        follows_one (image_step image) k t d (account 0 1 1) (λ (_ : Nothing) d t. Goal d t) (Never s m) (bind slot v t) (omega arith) (omega arith) told
        (record {
          to = running_at (set image function slot t g.machine v g.value) to [];
          event = None;
          goes_so = ap (image_step image) g.is_there ∙ sets_so image function slot t g.machine v g.value st.placed to st.binds within there;
          noted_so = refl;
          begun_so = refl;
          same_budget = refl;
          stands = named_so v t d g;
        })

    pub reference_follows : Follows (image_step image) n s (running_at m from []) of_completion (λ (_ : Nothing) d t. Goal d t) (Never s m) (reference_of program calls slot (expr program calls e) s)
    unfolding either current_frame set_frame inner bound
    reference_follows =
        let told_pushed : s.begins ≡ begins_ahead (image_step image) (n - 1) (running_at m st.pushed (values.Null ∷ [])) = told_on (image_step image) n (running_at m from []) (running_at m st.pushed (values.Null ∷ [])) None s.begins s.begins pushes_so told refl in
        let told_emptied : s.begins ≡ begins_ahead (image_step image) (n - 1 - 1) (running_at emptied st.emptied []) =
        told_on (image_step image) (n - 1) (running_at m st.pushed (values.Null ∷ [])) (running_at emptied st.emptied []) None s.begins s.begins empties_so told_pushed refl in
        follows_from (image_step image) n s inner (running_at m from []) of_completion (λ (_ : Nothing) d t. Goal d t) (Never s m) _ refl refl
        (follows_step (image_step image) n inner (running_at m from []) (running_at m st.pushed (values.Null ∷ [])) (account 2 0 1) of_completion (λ (_ : Nothing) d t. Goal d t) (Never s m) _ pushes_so (omega arith) (omega arith) (omega arith)
        (follows_step (image_step image) (n - 1) inner (running_at m st.pushed (values.Null ∷ [])) (running_at emptied st.emptied []) (account 3 0 0) (account 2 0 1) (λ (_ : Nothing) d t. Goal d t) (Never s m) _ empties_so (omega arith) (omega arith) (omega arith)
        (follows_then (image_step image) (n - 1 - 1) inner (running_at emptied st.emptied []) of_operand (account 0 1 1) (account 3 0 0) (Gives function st.placed [] inner emptied) (λ (_ : Nothing) d t. Goal d t) (Never s m)
        (full_expression program calls (expr program calls e)) (bind slot) (record { goes_on = omega arith; left_first = omega arith; left_second = omega arith; in_hand = omega arith })
        (full_follows image function program calls (expr program calls e) st.emptied st.placed
        (λ n operands s m a told. follows_less (image_step image) n s (running_at m st.emptied operands) of_expression of_operand (Gives function st.placed operands s m) (Gives function st.placed operands s m) (Never s m) (Never s m) (expr program calls e s)
        (record { goes_on = omega arith; left = omega arith; in_hand = omega arith }) (λ v d t g. g) (λ x d t f. f) (expr_follows image function Never never_on program calls e st.emptied st.placed st.stands n operands s m a told))
        (n - 1 - 1) [] inner emptied (inner_ready).agrees told_emptied)
        (λ v t d k g told. binds v t d k g told))))
