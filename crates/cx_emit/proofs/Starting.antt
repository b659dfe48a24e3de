-- An image that stands for a program of `main` alone is faithful to it.
use Rattle.std.proofs.Common.{◌≡◌, ℕ, ◌+◌, ◌-◌, ℤ, pos, List, [], ◌∷◌, length, Option, Some, None, Bool, true, false, ◌&&◌, if◌then◌else◌, refl, sym, ap, ◌∙◌, subst, arith}
use Rattle.std.specs.Prelude.{slice_get, nat_le}
use Rattle.std.proofs.lemmas.List.{length-replicate}
use Rattle.cx_code.specs.declared.image.Image.{Image}
use Rattle.cx_code.specs.declared.image.Function.{Function}
use Rattle.cx_code.specs.declared.operation.Operation.{Operation}
use Rattle.cx_code.specs.declared.operation.Operation.TheVariants as does
use Rattle.cx_code.specs.declared.run.Value.{Value}
use Rattle.cx_code.specs.declared.run.Value.TheVariants as values
use Rattle.cx_code.specs.declared.run.Ending.TheVariants as endings
use Rattle.cx_code.specs.Store.{nothing_made}
use Rattle.cx_code.specs.State.{State, initial, first_frame, frame_of, slots_of, with_globals}
use Rattle.cx_code.specs.Run.{step, acted}
use Rattle.cx_code.specs.Act as machine
use Rattle.cx_code.specs.Act.{act, moved, on_some, mixed, left, returned, return_from, depth, is_too_deep}
use Rattle.cx_core.specs.Words.{Returned}
use Rattle.cx_core.specs.Number.{in_range}
use Rattle.cx_core.specs.declared.number.IntegerType.TheVariants as types
use Rattle.cx_core.specs.Tree.{Stmts, Check}
use Rattle.cx_core.specs.Program.{Program, exit_status}
use Rattle.cx_core.specs.Program as tree
use Rattle.cx_core.specs.Store as store
use Rattle.cx_core.specs.Store.{number, address, null, violation}
use Rattle.cx_core.specs.Outcome as source
use Rattle.cx_core.specs.Outcome.{on, over, Does, Nothing, nothing, after, either, gives, throws, spend, some, undone_by, edge, current_frame, set_frame, current_living, set_living}
use Rattle.cx_core.specs.Leaving.{Call, Calls, edge_if, within, scope}
use Rattle.cx_core.specs.Block.{evaluations}
use Rattle.cx_core.specs.Statements.{Completion, on_to_next, break, continue, return}
use Rattle.cx_core.specs.Calls.{value_given, body, destroy_result}
use Rattle.cx_core.specs.Meaning.{stmts, preconditions, postconditions, function_call, acting, unit_of, active, implicit_within, calls_within, main_call, start, depth_limit}
use Rattle.cx_simulation.specs.Machine.{goes, halts, begins_ahead}
use Rattle.cx_simulation.specs.ImageMachine.{progress, image_step}
use Rattle.cx_simulation.specs.Parts.{Follows, HasReturned, IsUncaught, whole_account}
use Rattle.cx_simulation.proofs.Parts.{follows_then, follows_less, follows_gives, follows_from, follows_changed, follows_nothing_then, follows_unit_then, follows_step, told_on, takes_one, halts_one}
use Rattle.cx_simulation.proofs.MainFollowed.{main_followed}
use Rattle.cx_core.specs.Laws.{IsNumbered}
use Rattle.cx_core.proofs.Numbered.{objects_stay_numbered}
use Rattle.cx_emit.specs.Values.{IsValue, IsStore}
use Rattle.cx_emit.specs.Configuration.{running_at, operation_at, AreNamed, Agrees, IsAt}
use Rattle.cx_emit.specs.Checks.{GoesOn, HaveDefaultHandler}
use Rattle.cx_emit.specs.Scopes.{Loop, around_body, slots_in, StandsEnds}
use Rattle.cx_emit.specs.Units.{IsMain, StandsMain, HaveGlobals, no_checks, ImagesOfMainAreFaithful}
use Rattle.cx_emit.proofs.Valuing.{account}
use Rattle.cx_emit.proofs.Asserting.{Never, at, goes_on}
use Rattle.cx_emit.proofs.Scopes.{IsReady, Departs, Departed}
use Rattle.cx_emit.proofs.Ending.{of_completion, scope_follows}
use Rattle.cx_emit.proofs.Following.{stmts_follows}

-- what stands at a place is done there
acts_at : (image : Image) (function : ℕ) (m : State) (from : ℕ) (operands : List Value) (operation : Operation) → m.frame.function ≡ function → operation_at image function from ≡ Some operation
    → image_step image (running_at m from operands) ≡ progress image (act image operation (running_at m from operands))
unfolding step
acts_at image function m from operands operation a h = ap (λ o. progress image (acted image (running_at m from operands) o)) (ap (λ f. operation_at image f from) a ∙ h)

-- the machine is where the function returns the value
pub record Given (function exit : ℕ) (m : State) (v : store.Value) (d : State) : Type 0 where
  pub machine : State
  pub value : Value
  pub is_there : d ≡ running_at machine exit (value ∷ [])
  pub same_value : IsValue v value
  pub in_function : machine.frame.function ≡ function
  pub same_below : machine.below ≡ m.below

module _ (image : Image) (program : Program) (b : Stmts Check) (default : HaveDefaultHandler image program) (is_main : IsMain program b) (st : StandsMain image b) (calls : Calls) where
  -- ---- the value of the body

  abbrev Gives : State → store.Value → State → source.State → Type 0
  Gives m v d t = Given st.body st.exit m v d

  -- the value goes to the exit
  exit_follows : (v : store.Value) (w : Value) → IsValue v w → (place : ℕ) → GoesOn image st.body place st.exit → (n : ℕ) (s : source.State) (m : State) → Agrees st.body s m → s.begins ≡ begins_ahead (image_step image) n (running_at m place (w ∷ []))
      → Follows (image_step image) n s (running_at m place (w ∷ [])) (account 0 1 1) (Gives m) (Never s m) (gives v s)
  unfolding either gives throws
  exit_follows v w is place onwards n s m a told =
      follows_then (image_step image) n s (running_at m place (w ∷ [])) (account 0 1 1) (account 0 0 0) (account 0 1 1) (λ (_ : Nothing) d t. IsAt st.body st.exit (w ∷ []) s m d t) (Gives m) (Never s m)
      (gives nothing) (λ _. gives v) (record { goes_on = omega arith; left_first = omega arith; left_second = omega arith; in_hand = omega arith })
      (goes_on image st.body place st.exit onwards n (w ∷ []) s m a told)
      (λ _ t d k g told. follows_gives (image_step image) k t d (account 0 0 0) (Gives m) (Never s m) v (omega arith)
      (record { machine = g.machine; value = w; is_there = g.is_there; same_value = is; in_function = (g.agrees).in_function; same_below = (g.kept).same_below }) told)

  -- 0 is returned where the end of the body is reached
  zero_follows : (n : ℕ) (s : source.State) (m : State) → Agrees st.body s m → s.begins ≡ begins_ahead (image_step image) n (running_at m st.end [])
      → Follows (image_step image) n s (running_at m st.end []) (account 0 2 2) (Gives m) (Never s m) (gives (number (pos 0)) s)
  zero_follows n s m a told =
      let there : image_step image (running_at m st.end []) ≡ goes (running_at m st.behind (values.Number (pos 0) ∷ [])) None =
      at image st.body s m st.end [] (does.Push (pos 0)) a (st.ends_with_zero).here ∙ ap (λ p. goes (running_at m p (values.Number (pos 0) ∷ [])) None) (sym (st.ends_with_zero).next) in
      follows_step (image_step image) n s (running_at m st.end []) (running_at m st.behind (values.Number (pos 0) ∷ [])) (account 0 1 1) (account 0 2 2) (Gives m) (Never s m) (gives (number (pos 0)) s) there (omega arith) (omega arith) (omega arith)
      (exit_follows (number (pos 0)) (values.Number (pos 0)) refl st.behind st.then_exits (n - 1) s m a (told_on (image_step image) n (running_at m st.end []) (running_at m st.behind (values.Number (pos 0) ∷ [])) None s.begins s.begins there told refl))

  -- where the scope of the body is left
  Leaves : Completion → ℕ → Type 0
  Leaves on_to_next place = place ≡ st.end
  Leaves (return v) place = GoesOn image st.body place st.exit
  Leaves break place = ⊥
  Leaves continue place = ⊥

  splits : (last : List ℕ) (c : Completion) (place : ℕ) → Departs image st.body (around_body st.exit) last st.end c place → (p : ℕ) × StandsEnds image st.body last place p × Leaves c p
  unfolding Leaves
  splits last on_to_next place h = (st.end, h, refl)
  splits last (return v) place h = h
  splits last break place h = absurd (no_loop h.0 h.1)
    where
      no_loop : (l : Loop) → None ≡ Some l → ⊥
      no_loop l e = cc
  splits last continue place h = absurd (no_loop h.0 h.1)
    where
      no_loop : (l : Loop) → None ≡ Some l → ⊥
      no_loop l e = cc

  value_follows : (n : ℕ) (s : source.State) (m : State) → IsReady image st.body s m → s.begins ≡ begins_ahead (image_step image) n (running_at m 0 [])
      → Follows (image_step image) n s (running_at m 0 []) (account 0 2 2) (Gives m) (Never s m) (body program calls exit_status (stmts program calls b) s)
  unfolding Leaves
  value_follows n s m r told =
      follows_then (image_step image) n s (running_at m 0 []) of_completion (account 0 2 2) (account 0 2 2) (Departed image st.body [] Leaves s m) (Gives m) (Never s m) (scope program calls (stmts program calls b)) (value_given program calls exit_status)
      (record { goes_on = omega arith; left_first = omega arith; left_second = omega arith; in_hand = omega arith })
      (scope_follows image st.body program calls [] (λ last. Departs image st.body (around_body st.exit) last st.end) Leaves splits s m r (stmts program calls b) 0
      (stmts_follows image st.body program calls default b (around_body st.exit) [] 0 st.end st.stands) n told) value
    where
      -- from where the scope was left
      from_it : (v : store.Value) (t : source.State) (d e : State) (k : ℕ) → e.below ≡ m.below → t.begins ≡ begins_ahead (image_step image) k d → (place : ℕ) (operands : List Value) → d ≡ running_at e place operands
          → (t.begins ≡ begins_ahead (image_step image) k (running_at e place operands) → Follows (image_step image) k t (running_at e place operands) (account 0 2 2) (Gives e) (Never t e) (gives v t))
          → Follows (image_step image) k t d (account 0 2 2) (Gives m) (Never s m) (gives v t)
      from_it v t d e k same told place operands there more =
          subst (λ d. Follows (image_step image) k t d (account 0 2 2) (Gives m) (Never s m) (gives v t)) (sym there)
          (follows_less (image_step image) k t (running_at e place operands) (account 0 2 2) (account 0 2 2) (Gives e) (Gives m) (Never t e) (Never s m) (gives v t) (record { goes_on = omega arith; left = omega arith; in_hand = omega arith })
          (λ v d t g. record { machine = g.machine; value = g.value; is_there = g.is_there; same_value = g.same_value; in_function = g.in_function; same_below = g.same_below ∙ same }) (λ e d t f. f)
          (more (told ∙ ap (begins_ahead (image_step image) k) there)))

      value : (c : Completion) (t : source.State) (d : State) (k : ℕ) → Departed image st.body [] Leaves s m c d t → t.begins ≡ begins_ahead (image_step image) k d
          → Follows (image_step image) k t d (account 0 2 2) (Gives m) (Never s m) (value_given program calls exit_status c t)
      value on_to_next t d k g told =
          from_it (number (pos 0)) t d g.machine k (g.left).same_below told st.end [] (g.is_there ∙ ap (λ p. running_at g.machine p g.operands) g.wanted ∙ ap (running_at g.machine st.end) g.carried)
          (λ told. zero_follows k t g.machine (g.ready).agrees told)
      value (return v) t d k g told =
          from_it v t d g.machine k (g.left).same_below told g.place ((g.carried).0 ∷ []) (g.is_there ∙ ap (running_at g.machine g.place) (g.carried).1)
          (λ told. follows_less (image_step image) k t (running_at g.machine g.place ((g.carried).0 ∷ [])) (account 0 1 1) (account 0 2 2) (Gives g.machine) (Gives g.machine) (Never t g.machine) (Never t g.machine) (gives v t)
          (record { goes_on = omega arith; left = omega arith; in_hand = omega arith }) (λ v d t x. x) (λ e d t f. f) (exit_follows v (g.carried).0 (g.carried).2 g.place g.wanted k t g.machine (g.ready).agrees told))
      value break t d k g told = absurd g.wanted
      value continue t d k g told = absurd g.wanted

  -- ---- a call without checks

  abbrev the_function : tree.Function
  the_function = record { definer = is_main.definer; noexcept = is_main.noexcept; result = exit_status; checks = no_checks; body = tree.function b }

  abbrev the_call : Call
  the_call = main_call program

  no_preconditions : (s : source.State) → preconditions program calls the_function the_call s ≡ on nothing s
  unfolding either gives throws current_frame set_frame evaluations
  no_preconditions s = refl

  no_postconditions : (s : source.State) → postconditions program calls the_function the_call s ≡ on nothing s
  unfolding either gives throws current_frame set_frame evaluations
  no_postconditions s = refl

  function_follows : (n : ℕ) (s : source.State) (m : State) → IsReady image st.body s m → s.begins ≡ begins_ahead (image_step image) n (running_at m 0 [])
      → Follows (image_step image) n s (running_at m 0 []) (account 0 2 2) (Gives m) (Never s m) (function_call program calls the_function the_call b s)
  unfolding either gives throws
  function_follows n s m r told =
      follows_nothing_then (image_step image) n s s (running_at m 0 []) (account 0 2 2) (Gives m) (Never s m) (preconditions program calls the_function the_call) nothing
      (λ _. either (body program calls exit_status (stmts program calls b)) (λ v. either (undone_by (postconditions program calls the_function the_call) (destroy_result program calls exit_status None)) (λ _. gives v) throws) throws) throws
      (no_preconditions s) refl refl
      (follows_changed (image_step image) n s (running_at m 0 []) (account 0 2 2) (Gives m) (Gives m) (body program calls exit_status (stmts program calls b))
      (λ v. either (undone_by (postconditions program calls the_function the_call) (destroy_result program calls exit_status None)) (λ _. gives v) throws) throws (omega arith)
      (λ v t d g. (v, t, ap (λ r. after (after r gives (λ e. either (destroy_result program calls exit_status None) (λ _. throws e) throws)) (λ _. gives v) throws) (no_postconditions t), refl, refl, refl, g))
      (value_follows n s m r told))

  -- within `noexcept` or not
  acting_follows : (n : ℕ) (s : source.State) (m : State) → IsReady image st.body s m → s.begins ≡ begins_ahead (image_step image) n (running_at m 0 [])
      → Follows (image_step image) n s (running_at m 0 []) (account 0 2 2) (Gives m) (Never s m) (acting program calls (tree.function b) the_function the_call s)
  unfolding gives
  acting_follows n s m r told = by_edge is_main.noexcept (function_follows n s m r told)
    where
      by_edge : (noexcept : Bool) → Follows (image_step image) n s (running_at m 0 []) (account 0 2 2) (Gives m) (Never s m) (function_call program calls the_function the_call b s)
          → Follows (image_step image) n s (running_at m 0 []) (account 0 2 2) (Gives m) (Never s m) (edge_if noexcept (function_call program calls the_function the_call b) s)
      by_edge false f = f
      by_edge true f =
          follows_changed (image_step image) n s (running_at m 0 []) (account 0 2 2) (Gives m) (Gives m) (function_call program calls the_function the_call b) gives _ (omega arith) (λ v t d g. (v, t, refl, refl, refl, refl, g)) f

  -- in the frame of the call
  within_follows : (n : ℕ) (s : source.State) (m : State) → IsReady image st.body (record s { frame = record { unit = is_main.definer; variables = []; result = None } }) m → s.begins ≡ begins_ahead (image_step image) n (running_at m 0 [])
      → Follows (image_step image) n s (running_at m 0 []) (account 0 2 2) (Gives m) (Never s m) (within (record { unit = is_main.definer; variables = []; result = None }) (acting program calls (tree.function b) the_function the_call) s)
  unfolding either gives throws current_frame set_frame
  within_follows n s m r told =
      follows_from (image_step image) n s inner (running_at m 0 []) (account 0 2 2) (Gives m) (Never s m) _ refl refl
      (follows_changed (image_step image) n inner (running_at m 0 []) (account 0 2 2) (Gives m) (Gives m) (acting program calls (tree.function b) the_function the_call)
      (λ v. either (set_frame s.frame) (λ _. gives v) throws) (λ e. either (set_frame s.frame) (λ _. throws e) throws) (omega arith)
      (λ v t d g. (v, record t { frame = s.frame }, refl, refl, refl, refl, g))
      (acting_follows n inner m r told))
    where
      inner : source.State
      inner = record s { frame = record { unit = is_main.definer; variables = []; result = None } }

-- ---- the machine's start and its end

moved_first : (index : ℕ) (x : Option Function) → moved (first_frame index x) 0 [] ≡ first_frame index x
moved_first index None = refl
moved_first index (Some function) = refl

first_function : (index : ℕ) (x : Option Function) → (first_frame index x).function ≡ index
first_function index None = refl
first_function index (Some function) = refl

module _ (image : Image) (program : Program) (b : Stmts Check) (default : HaveDefaultHandler image program) (is_main : IsMain program b) (st : StandsMain image b) (globals : HaveGlobals image program) (input : List ℕ) where
  m0 : State
  m0 = initial image input

  m1 : State
  m1 = record m0 { frame = frame_of st.body st.code []; below = moved m0.frame 0 [] ∷ [] }

  starts_at : m0 ≡ running_at m0 0 []
  unfolding m0 initial
  starts_at = ap (λ f. record (initial image input) { frame = f }) (sym (moved_first image.main (slice_get image.functions image.main)))

  agrees_first : (s : source.State) → s.store ≡ (start program [] input 0).store → s.next ≡ (start program [] input 0).next → s.input ≡ input → s.frame.variables ≡ [] → Agrees image.main s m0
  unfolding m0 initial
  agrees_first s e f g none =
      record {
        in_function = first_function image.main (slice_get image.functions image.main);
        same_store = subst (λ store. IsStore store (with_globals nothing_made image.globals)) (sym e) globals.same_store;
        same_next = globals.same_next ∙ sym f;
        same_input = sym g;
        same_names = subst (λ variables. AreNamed variables (initial image input).frame.slots) (sym none) (λ slot v h. absurd (cc));
      }

  slots_made : (x : Option Function) → x ≡ Some st.code → length (slots_of (st.code).slots []) ≡ slots_in x
  slots_made x e = length-replicate ((st.code).slots - 0) None ∙ omega arith ∙ sym (ap slots_in e)

  ready_body : (s : source.State) → Agrees image.main s m0 → IsNumbered s.next s.store → IsReady image st.body (record s { frame = record { unit = is_main.definer; variables = []; result = None } }) m1
  unfolding m1
  ready_body s a numbered =
      record {
        agrees = record { in_function = refl; same_store = a.same_store; same_next = a.same_next; same_input = a.same_input; same_names = λ slot v h. absurd (cc) };
        no_result = refl;
        has_slots = slots_made (slice_get image.functions st.body) st.is_body;
        numbered = numbered;
      }

  -- the first function calls the body
  call_step : (s : source.State) → Agrees image.main s m0 → image_step image (running_at m0 0 []) ≡ goes (running_at m1 0 []) None
  unfolding m1 m0 initial
  call_step s a =
      at image image.main s (initial image input) 0 [] (does.Call st.body 0) a st.calls_body
      ∙ ap (λ o. progress image (on_some o mixed (λ function. if is_too_deep image there function then machine.Ends endings.TooDeep None else machine.Goes (entering function) None))) st.is_body
      ∙ ap (λ c. progress image (if c && nat_le 4096 (depth image there) then machine.Ends endings.TooDeep None else machine.Goes (entering st.code) None)) st.is_uncounted
    where
      there : State
      there = running_at (initial image input) 0 []

      entering : Function → State
      entering function = record (running_at (initial image input) 0 []) { frame = frame_of st.body function []; below = moved (initial image input).frame 0 [] ∷ [] }

  -- a value that the body gives is returned twice
  module _ (t : source.State) (d : State) (v : store.Value) (g : Given st.body st.exit m1 v d) where
    after_body : State
    after_body = running_at (record (g.machine) { frame = m0.frame; below = [] }) 1 (g.value ∷ [])

    returns_to_first : image_step image d ≡ goes after_body None
    unfolding after_body m1
    returns_to_first =
        ap (image_step image) g.is_there ∙ acts_at image st.body g.machine st.exit (g.value ∷ []) does.Return g.in_function st.exits
        ∙ ap (λ f. progress image (return_from there (slice_get image.functions f))) g.in_function ∙ ap (λ f. progress image (return_from there f)) st.is_body
        ∙ ap (λ r. progress image (if r then left there there.below (Some g.value) else left there there.below None)) st.body_gives_value
        ∙ ap (λ below. progress image (left there below (Some g.value))) g.same_below
      where
        there : State
        there = running_at g.machine st.exit (g.value ∷ [])

    returns_number : (x : ℤ) → g.value ≡ values.Number x → in_range types.Int x ≡ true → m0.frame.function ≡ image.main → image_step image after_body ≡ halts (Returned x) None
    unfolding after_body
    returns_number x is ranged in_main =
        acts_at image image.main (record (g.machine) { frame = m0.frame; below = [] }) 1 (g.value ∷ []) does.Return in_main st.returns
        ∙ ap (λ f. progress image (return_from there (slice_get image.functions f))) in_main ∙ ap (λ f. progress image (return_from there f)) st.is_first
        ∙ ap (λ r. progress image (if r then returned (Some g.value) else left there [] None)) st.gives_value
        ∙ ap (λ w. progress image (returned (Some w))) is ∙ ap (λ c. progress image (if c then machine.Ends (endings.Returned x) None else mixed)) ranged
      where
        there : State
        there = running_at (record (g.machine) { frame = m0.frame; below = [] }) 1 (g.value ∷ [])

  returned_soon : (t : source.State) (d : State) (v : store.Value) → m0.frame.function ≡ image.main → Given st.body st.exit m1 v d → HasReturned (image_step image) v d t
  returned_soon t d (number x) in_main g =
      λ ranged. record {
        steps = 2;
        halts_so = takes_one (image_step image) d (after_body t d (number x) g) None t.trace (returns_to_first t d (number x) g) 1
            ∙ halts_one (image_step image) (after_body t d (number x) g) (Returned x) None t.trace (returns_number t d (number x) g x g.same_value ranged in_main);
        few = omega arith;
      }
  returned_soon t d (address x) in_main g = tt {0}
  returned_soon t d null in_main g = tt {0}
  returned_soon t d (store.function x) in_main g = tt {0}
  returned_soon t d (violation x) in_main g = tt {0}

  -- the call of main
  abbrev Called : State → source.State → Type 0
  Called d t = (d ≡ running_at m1 0 []) × Agrees image.main t m0 × IsNumbered t.next t.store

  main_follows : (calls : Calls) (n : ℕ) (s : source.State) → Agrees image.main s m0 → IsNumbered s.next s.store → s.begins ≡ begins_ahead (image_step image) n (running_at m0 0 [])
      → Follows (image_step image) n s (running_at m0 0 []) whole_account (HasReturned (image_step image)) (IsUncaught (image_step image)) (active program calls (main_call program) s)
  unfolding gives either throws
  main_follows calls n s a numbered told =
      follows_unit_then (image_step image) n s (running_at m0 0 []) (account 31 0 0) (account 0 2 2) whole_account Called (HasReturned (image_step image)) (IsUncaught (image_step image))
      (either (some (slice_get program.functions program.main)) (λ f. either (gives nothing) (λ _. within (record { unit = unit_of program calls f (main_call program); variables = []; result = None }) (acting program calls f.body f (main_call program))) throws) throws)
      (record { goes_on = omega arith; left_first = omega arith; left_second = omega arith; in_hand = omega arith }) (omega arith) told
      (λ left. record { to = running_at m1 0 []; event = None; goes_so = call_step s a; noted_so = refl; begun_so = refl; same_budget = refl; stands = (refl, record { in_function = a.in_function; same_store = a.same_store; same_next = a.same_next; same_input = a.same_input; same_names = a.same_names }, numbered) })
      (λ t d k p told. called t d k p told)
    where
      called : (t : source.State) (d : State) (k : ℕ) → Called d t → t.begins ≡ begins_ahead (image_step image) k d
          → Follows (image_step image) k t d (account 0 2 2) (HasReturned (image_step image)) (IsUncaught (image_step image))
          (either (some (slice_get program.functions program.main)) (λ f. either (gives nothing) (λ _. within (record { unit = unit_of program calls f (main_call program); variables = []; result = None }) (acting program calls f.body f (main_call program))) throws) throws t)
      called t d k p told =
          follows_nothing_then (image_step image) k t t d (account 0 2 2) (HasReturned (image_step image)) (IsUncaught (image_step image)) (some (slice_get program.functions program.main))
          (record { definer = is_main.definer; noexcept = is_main.noexcept; result = exit_status; checks = no_checks; body = tree.function b })
          (λ f. either (gives nothing) (λ _. within (record { unit = unit_of program calls f (main_call program); variables = []; result = None }) (acting program calls f.body f (main_call program))) throws) throws
          (ap (λ o. some o t) is_main.is_defined) refl refl
          (subst (λ d. Follows (image_step image) k t d (account 0 2 2) (HasReturned (image_step image)) (IsUncaught (image_step image)) (within (record { unit = is_main.definer; variables = []; result = None }) (acting program calls (tree.function b) (record { definer = is_main.definer; noexcept = is_main.noexcept; result = exit_status; checks = no_checks; body = tree.function b }) (main_call program)) t)) (sym p.0)
          (follows_less (image_step image) k t (running_at m1 0 []) (account 0 2 2) (account 0 2 2) (λ v d u. Given st.body st.exit m1 v d) (HasReturned (image_step image)) (Never t m1) (IsUncaught (image_step image)) _
          (record { goes_on = omega arith; left = omega arith; in_hand = omega arith }) (λ v d u g. returned_soon u d v (p.1).in_function g) (λ e d u f. absurd f)
          (within_follows image program b default is_main st calls k t m1 (ready_body t p.1 p.2) (told ∙ ap (begins_ahead (image_step image) k) p.0))))

pub images_of_main : ImagesOfMainAreFaithful
unfolding calls_within initial m0
images_of_main image program b made default is_main st globals =
    main_followed image program made (λ input bytes n budget.
    let c : State = initial image input in
    let s : source.State = start program (begins_ahead (image_step image) n c) input budget in
    let same : c ≡ running_at c 0 [] = starts_at image program b default is_main st globals input in
    subst (λ d. Follows (image_step image) n s d whole_account (HasReturned (image_step image)) (IsUncaught (image_step image)) (calls_within program depth_limit (main_call program) s)) (sym same)
    (main_follows image program b default is_main st globals input (implicit_within program (length program.classes + 1) (calls_within program 4095)) n s (agrees_first image program b default is_main st globals input s refl refl refl refl)
    (objects_stay_numbered.0 program (begins_ahead (image_step image) n c) input budget) (ap (begins_ahead (image_step image) n) same)))
