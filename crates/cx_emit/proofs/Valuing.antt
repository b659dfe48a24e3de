-- A part that gives a value, what takes it from the operands, and an instruction that stands for a unit.
use Rattle.std.proofs.Common.{◌≡◌, ℕ, List, ◌∷◌, None, refl, sym, ap, ◌∙◌, subst, arith}
use Rattle.cx_code.specs.declared.image.Image.{Image}
use Rattle.cx_code.specs.declared.run.Value.{Value}
use Rattle.cx_code.specs.State.{State}
use Rattle.cx_core.specs.Store as store
use Rattle.cx_core.specs.Outcome as source
use Rattle.cx_core.specs.Outcome.{Does, either, throws, spend}
use Rattle.cx_simulation.specs.Machine.{goes, begins_ahead}
use Rattle.cx_simulation.specs.ImageMachine.{image_step}
use Rattle.cx_simulation.specs.Parts.{Account, IsSum, Follows}
use Rattle.cx_simulation.proofs.Parts.{follows_then, follows_less, follows_unit, follows_unit_then}
use Rattle.cx_emit.specs.Values.{IsValue}
use Rattle.cx_emit.specs.Configuration.{running_at, Agrees, AreKept, Gives}
use Rattle.cx_emit.specs.Laws.{of_expression}
use Rattle.cx_emit.proofs.Places.{with_budget, PutsValue, Valued}

abbrev pub account : ℕ → ℕ → ℕ → Account
account saves owes late = record { saves = saves; owes = owes; late = late; hand = 0 }

module _ (image : Image) (function : ℕ) (Fly : source.State → State → source.Exception → State → source.State → Type 0)
    (fly_on : (s t : source.State) (m d : State) → AreKept s m t d → (x : source.Exception) (e : State) (u : source.State) → Fly t d x e u → Fly s m x e u) where
  -- a part that gives a value, and then a part that takes it from the operands
  pub value_then : {B : Type 0} (first second both : Account) (left : Does store.Value) (next : store.Value → Does B) (from mid : ℕ) (On : source.State → State → B → State → source.State → Type 0)
      → IsSum first second both
      → ((s t : source.State) (m d : State) → AreKept s m t d → (v : B) (e : State) (u : source.State) → On t d v e u → On s m v e u)
      → Valued image function Fly first left from mid
      → (operands : List Value)
      → ((v : store.Value) (w : Value) → IsValue v w → (n : ℕ) (s : source.State) (m : State) → Agrees function s m → s.begins ≡ begins_ahead (image_step image) n (running_at m mid (w ∷ operands))
      → Follows (image_step image) n s (running_at m mid (w ∷ operands)) second (On s m) (Fly s m) (next v s))
      → (n : ℕ) (s : source.State) (m : State) → Agrees function s m → s.begins ≡ begins_ahead (image_step image) n (running_at m from operands)
      → Follows (image_step image) n s (running_at m from operands) both (On s m) (Fly s m) (either left next throws s)
  value_then {B} first second both left next from mid On sum closed follows operands more n s m a told =
      follows_then (image_step image) n s (running_at m from operands) first second both (Gives function mid operands s m) (On s m) (Fly s m) left next sum (follows n operands s m a told) then
    where
      there : (v : store.Value) (t : source.State) (e : State) (w : Value) (k : ℕ) (d : State) → AreKept s m t e → Agrees function t e → IsValue v w → d ≡ running_at e mid (w ∷ operands) → t.begins ≡ begins_ahead (image_step image) k d
          → Follows (image_step image) k t d second (On s m) (Fly s m) (next v t)
      there v t e w k d kept agrees is at told =
          subst (λ d. Follows (image_step image) k t d second (On s m) (Fly s m) (next v t)) (sym at)
          (follows_less (image_step image) k t (running_at e mid (w ∷ operands)) second second (On t e) (On s m) (Fly t e) (Fly s m) (next v t) (record { goes_on = omega arith; left = omega arith; in_hand = omega arith })
          (closed s t m e kept) (λ x f u. fly_on s t m e kept x f u)
          (more v w is k t e agrees (told ∙ ap (begins_ahead (image_step image) k) at)))

      then : (v : store.Value) (t : source.State) (d : State) (k : ℕ) → Gives function mid operands s m v d t → t.begins ≡ begins_ahead (image_step image) k d
          → Follows (image_step image) k t d second (On s m) (Fly s m) (next v t)
      then v t d k g told = there v t g.machine g.value k d g.kept g.agrees g.same_value g.is_there told

  -- ---- an instruction behind its operands, which stands for a unit

  pub unit_follows : (part : Does store.Value) (from to : ℕ) (before operands : List Value) (n : ℕ) (s : source.State) (m : State) → s.begins ≡ begins_ahead (image_step image) n (running_at m from before)
      → ((budget : ℕ) → PutsValue image function Fly s m budget from to before operands (part (record s { budget = budget })))
      → Follows (image_step image) n s (running_at m from before) (account 31 0 0) (Gives function to operands s m) (Fly s m) (either spend (λ _. part) throws s)
  unit_follows part from to before operands n s m told steps =
      follows_unit (image_step image) n s (running_at m from before) (account 31 0 0) (Gives function to operands s m) (Fly s m) part (omega arith) told steps

  -- a unit of which more is kept than is asked for
  pub alone_follows : (part : Does store.Value) (from to : ℕ) → ((s : source.State) (m : State) (operands : List Value) → Agrees function s m → (budget : ℕ) → PutsValue image function Fly s m budget from to operands operands (part (record s { budget = budget })))
      → Valued image function Fly of_expression (either spend (λ _. part) throws) from to
  alone_follows part from to steps n operands s m a told =
      follows_less (image_step image) n s (running_at m from operands) (account 31 0 0) of_expression (Gives function to operands s m) (Gives function to operands s m) (Fly s m) (Fly s m) (either spend (λ _. part) throws s)
      (record { goes_on = omega arith; left = omega arith; in_hand = omega arith }) (λ v d t g. g) (λ e d t f. f)
      (unit_follows part from to operands operands n s m told (steps s m operands a))

  -- a unit, the silent instruction that stands for it, and what is done then, whatever is left of the budget
  pub unit_then : {B : Type 0} (On : source.State → State → B → State → source.State → Type 0) → ((s t : source.State) (m d : State) → AreKept s m t d → (v : B) (e : State) (u : source.State) → On t d v e u → On s m v e u)
      → (second both : Account) (rest : Does B) (from place : ℕ) (before later : List Value) → IsSum (account 31 0 0) second both
      → (n : ℕ) (s : source.State) (m : State) → Agrees function s m → s.begins ≡ begins_ahead (image_step image) n (running_at m from before) → image_step image (running_at m from before) ≡ goes (running_at m place later) None
      → ((k : ℕ) (t : source.State) → Agrees function t m → AreKept s m t m → t.begins ≡ begins_ahead (image_step image) k (running_at m place later)
      → Follows (image_step image) k t (running_at m place later) second (On t m) (Fly t m) (rest t))
      → Follows (image_step image) n s (running_at m from before) both (On s m) (Fly s m) (either spend (λ _. rest) throws s)
  unit_then {B} On closed second both rest from place before later sum n s m a told goes_so more =
      follows_unit_then (image_step image) n s (running_at m from before) (account 31 0 0) second both Spent (On s m) (Fly s m) rest sum (omega arith) told
      (λ left. record { to = running_at m place later; event = None; goes_so = goes_so; noted_so = refl; begun_so = refl; same_budget = refl; stands = (left, refl, refl) })
      (λ t d k p told. behind t d k p told)
    where
      Spent : State → source.State → Type 0
      Spent d t = (left : ℕ) × (d ≡ running_at m place later) × (t ≡ record s { budget = left })

      kept : (left : ℕ) → AreKept s m (record s { budget = left }) m
      kept left = record { same_frame = refl; same_store = refl; same_number = refl; same_living = refl; same_temporaries = refl; same_held = refl; same_slots = refl; same_pending = refl; same_below = refl; same_exceptions = refl }

      behind : (t : source.State) (d : State) (k : ℕ) → Spent d t → t.begins ≡ begins_ahead (image_step image) k d → Follows (image_step image) k t d second (On s m) (Fly s m) (rest t)
      behind t d k p told =
          subst (λ d. Follows (image_step image) k t d second (On s m) (Fly s m) (rest t)) (sym p.1)
          (subst (λ t. t.begins ≡ begins_ahead (image_step image) k (running_at m place later) → Follows (image_step image) k t (running_at m place later) second (On s m) (Fly s m) (rest t)) (sym p.2)
          (λ told. follows_less (image_step image) k (record s { budget = p.0 }) (running_at m place later) second second (On (record s { budget = p.0 }) m) (On s m) (Fly (record s { budget = p.0 }) m) (Fly s m) (rest (record s { budget = p.0 }))
          (record { goes_on = omega arith; left = omega arith; in_hand = omega arith }) (λ v e u g. closed s (record s { budget = p.0 }) m m (kept p.0) v e u g) (λ x e u f. fly_on s (record s { budget = p.0 }) m m (kept p.0) x e u f)
          (more k (record s { budget = p.0 }) (with_budget image function Fly s m p.0 a) (kept p.0) told))
          (told ∙ ap (begins_ahead (image_step image) k) p.1))
