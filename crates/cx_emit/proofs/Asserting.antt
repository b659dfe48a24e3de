-- Where code stands for a contract assertion the machine follows it.
use Rattle.std.proofs.Common.{◌≡◌, ℕ, ◌+◌, ◌-◌, ◌==◌, pos, List, [], ◌∷◌, ◌++◌, Option, Some, None, Bool, true, false, if◌then◌else◌, inl, inr, refl, sym, ap, ◌∙◌, subst, arith}
use Rattle.cx_code.specs.declared.image.Image.{Image}
use Rattle.cx_code.specs.declared.operation.Operation.{Operation}
use Rattle.cx_code.specs.declared.operation.Operation.TheVariants as does
use Rattle.cx_code.specs.declared.run.Value.{Value}
use Rattle.cx_code.specs.declared.run.Value.TheVariants as values
use Rattle.cx_code.specs.State.{State, Violated}
use Rattle.cx_code.specs.Act as machine
use Rattle.cx_code.specs.Act.{act, on_some, mixed}
use Rattle.cx_code.specs.Run.{step, acted}
use Rattle.cx_core.specs.Words.{Semantic, Ignore, Observe, Enforce, QuickEnforce, Holds, False, DetectionMode, PredicateFalse, ContractTerminated}
use Rattle.cx_core.specs.Number.{truth_number}
use Rattle.cx_core.specs.Event.{Event, verdict, handler, ended}
use Rattle.cx_core.specs.Tree.{Assertion}
use Rattle.cx_core.specs.Program.{Program}
use Rattle.cx_core.specs.Outcome as source
use Rattle.cx_core.specs.Outcome.{on, over, Does, Nothing, nothing, either, gives, throws, ends, spend, append, current_temporaries, set_temporaries}
use Rattle.cx_core.specs.Leaving.{Calls}
use Rattle.cx_core.specs.Check.{truth, handle, violated, verdict_on, verdict_threw, evaluation}
use Rattle.cx_core.specs.Check as check
use Rattle.cx_simulation.specs.Machine.{goes, noted, begun, begins_ahead}
use Rattle.cx_simulation.specs.ImageMachine.{progress, image_step}
use Rattle.cx_simulation.specs.Parts.{Account, Follows, StepsTo}
use Rattle.cx_simulation.proofs.Parts.{follows_then, follows_less, follows_one, follows_unit, follows_gives, follows_step, told_on}
use Rattle.cx_emit.specs.Configuration.{running_at, operation_at, Has, Agrees, AreKept, IsAt}
use Rattle.cx_emit.specs.Checks.{IsAssertion, HaveDefaultHandler, GoesOn, StandsViolated}
use Rattle.cx_emit.proofs.Places.{all_kept, kept_on}
use Rattle.cx_emit.proofs.Valuing.{account}

-- no exception flies
abbrev pub Never : source.State → State → source.Exception → State → source.State → Type 0
Never s m e d t = ⊥

pub never_on : (s t : source.State) (m d : State) → AreKept s m t d → (x : source.Exception) (e : State) (u : source.State) → Never t d x e u → Never s m x e u
never_on s t m d k x e u f = f

pub is_at_on : (function place : ℕ) (operands : List Value) (s t : source.State) (m d : State) → AreKept s m t d → (e : State) (u : source.State) → IsAt function place operands t d e u → IsAt function place operands s m e u
is_at_on function place operands s t m d k e u g = record { machine = g.machine; is_there = g.is_there; agrees = g.agrees; kept = kept_on s t u m d g.machine k g.kept }

module _ (image : Image) (function : ℕ) where
  abbrev there : State → ℕ → List Value → State
  there m place operands = running_at m place operands

  -- one step to a place
  pub step_to : (s t : source.State) (m d : State) (from p to : ℕ) (before operands : List Value) (event : Option Event) → to ≡ p
      → image_step image (running_at m from before) ≡ goes (running_at d p operands) event → t.trace ≡ noted event s.trace → s.begins ≡ begun event t.begins → t.budget ≡ s.budget
      → Agrees function t d → (u : source.State) → AreKept u m t d
      → StepsTo (image_step image) s (running_at m from before) (λ x. IsAt function to operands u m x t) t
  step_to s t m d from p to before operands event e h same_trace same_begins same_budget a u kept =
      record {
        to = running_at d p operands;
        event = event;
        goes_so = h;
        noted_so = same_trace;
        begun_so = same_begins;
        same_budget = same_budget;
        stands = record { machine = d; is_there = ap (λ q. running_at d q operands) (sym e); agrees = a; kept = kept };
      }

  -- what stands at a place is done there
  pub at : (s : source.State) (m : State) (from : ℕ) (operands : List Value) (operation : Operation) → Agrees function s m → operation_at image function from ≡ Some operation
      → image_step image (running_at m from operands) ≡ progress image (act image operation (running_at m from operands))
  unfolding step
  at s m from operands operation a h = ap (λ o. progress image (acted image (running_at m from operands) o)) (ap (λ f. operation_at image f from) a.in_function ∙ h)

  -- with other events behind
  with_trace : (s : source.State) (m : State) (trace : List Event) → Agrees function s m → Agrees function (record s { trace = trace }) m
  with_trace s m trace a = record { in_function = a.in_function; same_store = a.same_store; same_next = a.same_next; same_input = a.same_input; same_names = a.same_names }

  -- the machine goes on at a place where it is, or by a jump
  pub goes_on : (from to : ℕ) → GoesOn image function from to → (n : ℕ) (operands : List Value) (s : source.State) (m : State) → Agrees function s m → s.begins ≡ begins_ahead (image_step image) n (running_at m from operands)
      → Follows (image_step image) n s (running_at m from operands) (account 0 1 1) (λ (_ : Nothing) d t. IsAt function to operands s m d t) (Never s m) (gives nothing s)
  unfolding gives
  goes_on from to (inl e) n operands s m a told =
      follows_gives (image_step image) n s (running_at m from operands) (account 0 1 1) (λ (_ : Nothing) d t. IsAt function to operands s m d t) (Never s m) nothing (omega arith)
      (record { machine = m; is_there = ap (λ q. running_at m q operands) (sym e); agrees = a; kept = all_kept s m }) told
  goes_on from to (inr h) n operands s m a told =
      follows_one (image_step image) n s (running_at m from operands) (account 0 1 1) (λ (_ : Nothing) d t. IsAt function to operands s m d t) (Never s m) (on nothing s) (omega arith) (omega arith) told
      (step_to s s m m from to to operands operands None refl (at s m from operands (does.Jump to) a h) refl refl refl a s (all_kept s m))

  -- what follows from a place that the machine came to
  pub from_place : {A : Type 0} (On : source.State → State → A → State → source.State → Type 0)
      → ((s t : source.State) (m d : State) → AreKept s m t d → (v : A) (e : State) (u : source.State) → On t d v e u → On s m v e u)
      → (p : ℕ) (operands : List Value) (s t : source.State) (m d : State) (k : ℕ) (owing : Account) (r : source.Outcome A) → (g : IsAt function p operands s m d t) → t.begins ≡ begins_ahead (image_step image) k d
      → (Agrees function t g.machine → t.begins ≡ begins_ahead (image_step image) k (running_at g.machine p operands) → Follows (image_step image) k t (running_at g.machine p operands) owing (On t g.machine) (Never t g.machine) r)
      → Follows (image_step image) k t d owing (On s m) (Never s m) r
  from_place {A} On closed p operands s t m d k owing r g told more =
      subst (λ d. Follows (image_step image) k t d owing (On s m) (Never s m) r) (sym g.is_there)
      (follows_less (image_step image) k t (running_at g.machine p operands) owing owing (On t g.machine) (On s m) (Never t g.machine) (Never s m) r
      (record { goes_on = omega arith; left = omega arith; in_hand = omega arith }) (closed s t m g.machine g.kept) (λ e d t f. f)
      (more g.agrees (told ∙ ap (begins_ahead (image_step image) k) g.is_there)))

  -- ---- what follows a false verdict

  module _ (program : Program) (calls : Calls) (default : HaveDefaultHandler image program) (index : ℕ) (a : Assertion) (is : IsAssertion image index a) where
    choose : (h : ℕ) (x y : machine.Step) → h ≡ 0 → (if h == 0 then x else y) ≡ x
    choose h x y e = ap (λ k. if k == 0 then x else y) e

    -- the default handler is called
    handled_step : (mode : DetectionMode) (semantic : Semantic) (from to : ℕ) → Has image function from (does.Violate index mode semantic) to → (operands : List Value) (s : source.State) (m : State) → Agrees function s m → (budget : ℕ)
        → StepsTo (image_step image) (record s { budget = budget }) (running_at m from operands) (λ d. IsAt function to operands s m d (record s { budget = budget; trace = handler (check.violation_of a mode semantic) ∷ s.trace })) (record s { budget = budget; trace = handler (check.violation_of a mode semantic) ∷ s.trace })
    handled_step mode semantic from to h operands s m agrees budget =
        step_to (record s { budget = budget }) (record s { budget = budget; trace = handler (check.violation_of a mode semantic) ∷ s.trace }) m (record m { violations = m.violations ++ violation_made ∷ [] }) from (from + 1) to operands operands (Some (handler (check.violation_of a mode semantic))) h.next
        (at s m from operands (does.Violate index mode semantic) agrees h.here ∙ ap (λ x. progress image x) (choose image.handler _ _ default.in_image) ∙ ap (λ v. goes (running_at (record m { violations = m.violations ++ violation_made ∷ [] }) (from + 1) operands) (Some (handler v))) (is.same_violation mode semantic))
        refl refl refl
        (record { in_function = agrees.in_function; same_store = agrees.same_store; same_next = agrees.same_next; same_input = agrees.same_input; same_names = agrees.same_names }) s
        (record { same_frame = refl; same_store = refl; same_number = refl; same_living = refl; same_temporaries = refl; same_held = refl; same_slots = refl; same_pending = refl; same_below = refl; same_exceptions = refl })
      where
        violation_made : Violated
        violation_made = record { assertion = index; mode = mode; semantic = semantic }

    -- the program ends at a violation
    ends_step : (from : ℕ) → operation_at image function from ≡ Some does.ContractEnd → (n : ℕ) (operands : List Value) (s u : source.State) (m x : State) (to : ℕ) → Agrees function s m → s.begins ≡ begins_ahead (image_step image) n (running_at m from operands)
        → Follows (image_step image) n s (running_at m from operands) (account 0 1 1) (λ (_ : Nothing) d t. IsAt function to operands u x d t) (Never u x) (ends (ended ContractTerminated) s)
    unfolding ends
    ends_step from h n operands s u m x to agrees told =
        follows_one (image_step image) n s (running_at m from operands) (account 0 1 1) (λ (_ : Nothing) d t. IsAt function to operands u x d t) (Never u x) (over (ended ContractTerminated) s.trace) (omega arith) (omega arith) told
        (λ other. record { event = None; halts_so = at s m from operands does.ContractEnd agrees h; noted_so = refl })

    -- the handler is called, and something else is done then
    handled_then : (mode : DetectionMode) (semantic : Semantic) (from p to : ℕ) → Has image function from (does.Violate index mode semantic) p → (rest : Does Nothing)
        → ((n : ℕ) (operands : List Value) (s : source.State) (m : State) → Agrees function s m → s.begins ≡ begins_ahead (image_step image) n (running_at m p operands)
        → Follows (image_step image) n s (running_at m p operands) (account 0 1 1) (λ (_ : Nothing) d t. IsAt function to operands s m d t) (Never s m) (rest s))
        → (n : ℕ) (operands : List Value) (s : source.State) (m : State) → Agrees function s m → s.begins ≡ begins_ahead (image_step image) n (running_at m from operands)
        → Follows (image_step image) n s (running_at m from operands) (account 0 2 2) (λ (_ : Nothing) d t. IsAt function to operands s m d t) (Never s m) (either (handle program calls (check.violation_of a mode semantic)) (λ _. rest) throws s)
    unfolding append
    handled_then mode semantic from p to h rest more n operands s m agrees told =
        subst (λ o. Follows (image_step image) n s (running_at m from operands) (account 0 2 2) (λ (_ : Nothing) d t. IsAt function to operands s m d t) (Never s m) (either (check.handle_by program calls o (check.violation_of a mode semantic)) (λ _. rest) throws s)) (sym default.in_program)
        (follows_then (image_step image) n s (running_at m from operands) (account 0 1 1) (account 0 1 1) (account 0 2 2) (λ (_ : Nothing) d t. IsAt function p operands s m d t) (λ (_ : Nothing) d t. IsAt function to operands s m d t) (Never s m)
        (either spend (λ _. append (handler (check.violation_of a mode semantic))) throws) (λ _. rest) (record { goes_on = omega arith; left_first = omega arith; left_second = omega arith; in_hand = omega arith })
        (follows_unit (image_step image) n s (running_at m from operands) (account 0 1 1) (λ (_ : Nothing) d t. IsAt function p operands s m d t) (Never s m) (append (handler (check.violation_of a mode semantic))) (omega arith) told
        (λ budget. handled_step mode semantic from p h operands s m agrees budget))
        (λ _ t d k g told. from_place (λ s m (_ : Nothing) d t. IsAt function to operands s m d t) (λ s t m d kept _ e u x. is_at_on function to operands s t m d kept e u x) p operands s t m d k (account 0 1 1) (rest t) g told
        (λ agrees told. more k operands t g.machine agrees told)))

    -- the predicate didn't hold
    violated_follows : (semantic : Semantic) (from to : ℕ) → StandsViolated image function index semantic from to → (n : ℕ) (operands : List Value) (s : source.State) (m : State) → Agrees function s m → s.begins ≡ begins_ahead (image_step image) n (running_at m from operands)
        → Follows (image_step image) n s (running_at m from operands) (account 0 2 2) (λ (_ : Nothing) d t. IsAt function to operands s m d t) (Never s m) (violated program calls semantic (handle program calls (check.violation_of a PredicateFalse semantic)) s)
    unfolding either gives throws
    violated_follows Ignore from to st n operands s m agrees told =
        follows_less (image_step image) n s (running_at m from operands) (account 0 1 1) (account 0 2 2) (λ (_ : Nothing) d t. IsAt function to operands s m d t) (λ (_ : Nothing) d t. IsAt function to operands s m d t) (Never s m) (Never s m) (gives nothing s)
        (record { goes_on = omega arith; left = omega arith; in_hand = omega arith }) (λ _ d t g. g) (λ e d t f. f) (goes_on from to st n operands s m agrees told)
    violated_follows Observe from to st n operands s m agrees told =
        nothing_more (handle program calls (check.violation_of a PredicateFalse Observe) s) (handled_then PredicateFalse Observe from st.0 to st.1 (gives nothing) (goes_on st.0 to st.2) n operands s m agrees told)
      where
        nothing_more : (r : source.Outcome Nothing) → Follows (image_step image) n s (running_at m from operands) (account 0 2 2) (λ (_ : Nothing) d t. IsAt function to operands s m d t) (Never s m) (source.after r (λ _. gives nothing) throws)
            → Follows (image_step image) n s (running_at m from operands) (account 0 2 2) (λ (_ : Nothing) d t. IsAt function to operands s m d t) (Never s m) r
        nothing_more (on nothing t) f = f
        nothing_more (source.thrown e t) f = f
        nothing_more (over answer t) f = f
    violated_follows Enforce from to st n operands s m agrees told =
        handled_then PredicateFalse Enforce from st.0 to st.1 (ends (ended ContractTerminated)) (λ n operands s m agrees told. ends_step st.0 st.2 n operands s s m m to agrees told) n operands s m agrees told
    violated_follows QuickEnforce from to st n operands s m agrees told =
        follows_less (image_step image) n s (running_at m from operands) (account 0 1 1) (account 0 2 2) (λ (_ : Nothing) d t. IsAt function to operands s m d t) (λ (_ : Nothing) d t. IsAt function to operands s m d t) (Never s m) (Never s m) (ends (ended ContractTerminated) s)
        (record { goes_on = omega arith; left = omega arith; in_hand = omega arith }) (λ _ d t g. g) (λ e d t f. f) (ends_step from st n operands s s m m to agrees told)

    -- ---- the verdict

    verdict_event : Bool → Event
    verdict_event true = verdict Holds
    verdict_event false = verdict False

    -- the verdict is told, and the number stays
    verdict_step : (b : Bool) (from to : ℕ) → Has image function from (does.Verdict index) to → (operands : List Value) (s : source.State) (m : State) → Agrees function s m
        → StepsTo (image_step image) s (running_at m from (values.Number (truth_number b) ∷ operands)) (λ d. IsAt function to (values.Number (truth_number b) ∷ operands) s m d (record s { trace = verdict_event b ∷ s.trace })) (record s { trace = verdict_event b ∷ s.trace })
    unfolding verdict_event
    verdict_step true from to h operands s m agrees =
        step_to s (record s { trace = verdict Holds ∷ s.trace }) m m from (from + 1) to (values.Number (pos 1) ∷ operands) (values.Number (pos 1) ∷ operands) (Some (verdict Holds)) h.next
        (at s m from (values.Number (pos 1) ∷ operands) (does.Verdict index) agrees h.here) refl refl refl (with_trace s m (verdict Holds ∷ s.trace) agrees) s
        (record { same_frame = refl; same_store = refl; same_number = refl; same_living = refl; same_temporaries = refl; same_held = refl; same_slots = refl; same_pending = refl; same_below = refl; same_exceptions = refl })
    verdict_step false from to h operands s m agrees =
        step_to s (record s { trace = verdict False ∷ s.trace }) m m from (from + 1) to (values.Number (pos 0) ∷ operands) (values.Number (pos 0) ∷ operands) (Some (verdict False)) h.next
        (at s m from (values.Number (pos 0) ∷ operands) (does.Verdict index) agrees h.here) refl refl refl (with_trace s m (verdict False ∷ s.trace) agrees) s
        (record { same_frame = refl; same_store = refl; same_number = refl; same_living = refl; same_temporaries = refl; same_held = refl; same_slots = refl; same_pending = refl; same_below = refl; same_exceptions = refl })

    abbrev Effect : ℕ → List Value → source.State → State → Nothing → State → source.State → Type 0
    Effect to operands s m _ d t = IsAt function to operands s m d t

    effect_on : (to : ℕ) (operands : List Value) (s t : source.State) (m d : State) → AreKept s m t d → (v : Nothing) (e : State) (u : source.State) → Effect to operands t d v e u → Effect to operands s m v e u
    effect_on to operands s t m d kept v e u x = is_at_on function to operands s t m d kept e u x

    -- what the verdict says, from the number on top of the operands
    pub verdict_follows : (semantic : Semantic) (b : Bool) (from r v to : ℕ) → Has image function from (does.Verdict index) r → Has image function r (does.JumpNonzero to) v → StandsViolated image function index semantic v to
        → (n : ℕ) (operands : List Value) (s : source.State) (m : State) → Agrees function s m → s.begins ≡ begins_ahead (image_step image) n (running_at m from (values.Number (truth_number b) ∷ operands))
        → Follows (image_step image) n s (running_at m from (values.Number (truth_number b) ∷ operands)) (account 0 4 4) (Effect to operands s m) (Never s m) (verdict_on program calls a semantic b s)
    unfolding either gives throws append verdict_event
    verdict_follows semantic true from r v to first second third n operands s m agrees told =
        follows_then (image_step image) n s (running_at m from (values.Number (pos 1) ∷ operands)) (account 0 1 1) (account 0 1 1) (account 0 4 4) (Effect r (values.Number (pos 1) ∷ operands) s m) (Effect to operands s m) (Never s m)
        (append (verdict Holds)) (λ _. gives nothing) (record { goes_on = omega arith; left_first = omega arith; left_second = omega arith; in_hand = omega arith })
        (follows_one (image_step image) n s (running_at m from (values.Number (pos 1) ∷ operands)) (account 0 1 1) (Effect r (values.Number (pos 1) ∷ operands) s m) (Never s m) (append (verdict Holds) s) (omega arith) (omega arith) told
        (verdict_step true from r first operands s m agrees))
        (λ _ t d k g told. from_place (Effect to operands) (effect_on to operands) r (values.Number (pos 1) ∷ operands) s t m d k (account 0 1 1) (gives nothing t) g told
        (λ agrees told. follows_one (image_step image) k t (running_at g.machine r (values.Number (pos 1) ∷ operands)) (account 0 1 1) (Effect to operands t g.machine) (Never t g.machine) (on nothing t) (omega arith) (omega arith) told
        (step_to t t g.machine g.machine r to to (values.Number (pos 1) ∷ operands) operands None refl (at t g.machine r (values.Number (pos 1) ∷ operands) (does.JumpNonzero to) agrees second.here) refl refl refl agrees t (all_kept t g.machine))))
    verdict_follows semantic false from r v to first second third n operands s m agrees told =
        follows_then (image_step image) n s (running_at m from (values.Number (pos 0) ∷ operands)) (account 0 1 1) (account 0 3 3) (account 0 4 4) (Effect r (values.Number (pos 0) ∷ operands) s m) (Effect to operands s m) (Never s m)
        (append (verdict False)) (λ _. violated program calls semantic (handle program calls (check.violation_of a PredicateFalse semantic))) (record { goes_on = omega arith; left_first = omega arith; left_second = omega arith; in_hand = omega arith })
        (follows_one (image_step image) n s (running_at m from (values.Number (pos 0) ∷ operands)) (account 0 1 1) (Effect r (values.Number (pos 0) ∷ operands) s m) (Never s m) (append (verdict False) s) (omega arith) (omega arith) told
        (verdict_step false from r first operands s m agrees))
        (λ _ t d k g told. from_place (Effect to operands) (effect_on to operands) r (values.Number (pos 0) ∷ operands) s t m d k (account 0 3 3) (violated program calls semantic (handle program calls (check.violation_of a PredicateFalse semantic)) t) g told
        (λ agrees told. falls k t g.machine agrees told))
      where
        falls : (k : ℕ) (t : source.State) (d : State) → Agrees function t d → t.begins ≡ begins_ahead (image_step image) k (running_at d r (values.Number (pos 0) ∷ operands))
            → Follows (image_step image) k t (running_at d r (values.Number (pos 0) ∷ operands)) (account 0 3 3) (Effect to operands t d) (Never t d) (violated program calls semantic (handle program calls (check.violation_of a PredicateFalse semantic)) t)
        falls k t d agrees told =
            let there : image_step image (running_at d r (values.Number (pos 0) ∷ operands)) ≡ goes (running_at d v operands) None = at t d r (values.Number (pos 0) ∷ operands) (does.JumpNonzero to) agrees second.here ∙ ap (λ p. goes (running_at d p operands) None) (sym second.next) in
            follows_step (image_step image) k t (running_at d r (values.Number (pos 0) ∷ operands)) (running_at d v operands) (account 0 2 2) (account 0 3 3) (Effect to operands t d) (Never t d) (violated program calls semantic (handle program calls (check.violation_of a PredicateFalse semantic)) t)
            there (omega arith) (omega arith) (omega arith)
            (violated_follows semantic v to third (k - 1) operands t d agrees (told_on (image_step image) k (running_at d r (values.Number (pos 0) ∷ operands)) (running_at d v operands) None t.begins t.begins there told refl))
