-- Where code stands for a statement that chooses or repeats others the machine follows it, as it follows those.
use Rattle.std.proofs.Common.{◌≡◌, ℕ, ◌+◌, ◌-◌, pos, List, [], ◌∷◌, Some, None, Bool, true, false, if◌then◌else◌, inl, inr, refl, sym, ap, ◌∙◌, subst, arith}
use Rattle.cx_code.specs.declared.image.Image.{Image}
use Rattle.cx_code.specs.declared.operation.Operation.TheVariants as does
use Rattle.cx_code.specs.declared.run.Value.TheVariants as values
use Rattle.cx_code.specs.State.{State}
use Rattle.cx_core.specs.Number.{truth_number}
use Rattle.cx_core.specs.Tree.{Condition, always, while, Operand}
use Rattle.cx_core.specs.Program.{Program}
use Rattle.cx_core.specs.Outcome as source
use Rattle.cx_core.specs.Outcome.{on, Does, Nothing, either, gives, throws}
use Rattle.cx_core.specs.Check.{truth}
use Rattle.cx_core.specs.Leaving.{Calls}
use Rattle.cx_core.specs.Statements.{Completion, on_to_next, break, continue, return, loop}
use Rattle.cx_core.specs.Meaning.{evaluated, condition}
use Rattle.cx_simulation.specs.Machine.{goes, begins_ahead}
use Rattle.cx_simulation.specs.ImageMachine.{image_step}
use Rattle.cx_simulation.specs.Parts.{Follows, StepsTo}
use Rattle.cx_simulation.proofs.Parts.{follows_then, follows_less, follows_one, follows_gives, follows_step, told_on}
use Rattle.cx_simulation.proofs.Changes.{follows_more}
use Rattle.cx_simulation.proofs.Loops.{of_part, of_turns, Decided, Turned, loop_follows}
use Rattle.cx_emit.specs.Configuration.{running_at, operation_at, Has, Agrees, AreKept, IsAt}
use Rattle.cx_emit.specs.Checks.{GoesOn}
use Rattle.cx_emit.specs.Scopes.{Loop, Surroundings, in_loop, StandsExit}
use Rattle.cx_emit.specs.Statements.{StandsCondition}
use Rattle.cx_emit.proofs.Places.{all_kept, jumps_to}
use Rattle.cx_emit.proofs.Valuing.{account}
use Rattle.cx_emit.proofs.Asserting.{Never, is_at_on, step_to, at, from_place}
use Rattle.cx_emit.proofs.Evaluating.{truth_follows}
use Rattle.cx_emit.proofs.Scopes.{IsIn, AreLeft, Reaches, Completed, completed_on}
use Rattle.cx_emit.proofs.Ending.{of_completion}
use Rattle.cx_emit.proofs.Completing.{Place, Stated, completed_so, there, place_at, place_unspent, from_there, placed}

module _ (image : Image) (function : ℕ) where
  -- ---- conditions

  -- the machine is where it goes on by a condition
  abbrev pub Judged : (holds fails : ℕ) → source.State → State → Bool → State → source.State → Type 0
  Judged holds fails s m b d t = IsAt function (if b then holds else fails) [] s m d t

  judged_step : (from holds fails : ℕ) → Has image function from (does.JumpZero fails) holds → (b : Bool) (s : source.State) (m : State) → Agrees function s m
      → StepsTo (image_step image) s (running_at m from (values.Number (truth_number b) ∷ [])) (λ d. Judged holds fails s m b d s) s
  judged_step from holds fails h true s m a =
      step_to image function s s m m from (from + 1) holds (values.Number (pos 1) ∷ []) [] None h.next (at image function s m from (values.Number (pos 1) ∷ []) (does.JumpZero fails) a h.here) refl refl refl a s (all_kept s m)
  judged_step from holds fails h false s m a =
      step_to image function s s m m from fails fails (values.Number (pos 0) ∷ []) [] None refl (at image function s m from (values.Number (pos 0) ∷ []) (does.JumpZero fails) a h.here) refl refl refl a s (all_kept s m)

  judged_on : (holds fails : ℕ) (s t : source.State) (m d : State) → AreKept s m t d → (b : Bool) (e : State) (u : source.State) → Judged holds fails t d b e u → Judged holds fails s m b e u
  judged_on holds fails s t m d kept b e u x = is_at_on function (if b then holds else fails) [] s t m d kept e u x

  jumps_so : (from holds fails : ℕ) → Has image function from (does.JumpZero fails) holds → (b : Bool) (k : ℕ) (t : source.State) (d : State) → Agrees function t d → t.begins ≡ begins_ahead (image_step image) k (running_at d from (values.Number (truth_number b) ∷ []))
      → Follows (image_step image) k t (running_at d from (values.Number (truth_number b) ∷ [])) (account 0 1 1) (Judged holds fails t d) (Never t d) (gives b t)
  unfolding gives
  jumps_so from holds fails h b k t d a told = follows_one (image_step image) k t (running_at d from (values.Number (truth_number b) ∷ [])) (account 0 1 1) (Judged holds fails t d) (Never t d) (on b t) (omega arith) (omega arith) told (judged_step from holds fails h b t d a)

  module _ (program : Program) (calls : Calls) where
    pub judged_follows : (c : Operand) (from holds fails : ℕ) → StandsCondition image function (while c) from holds fails → (n : ℕ) (s : source.State) (m : State) → Agrees function s m → s.begins ≡ begins_ahead (image_step image) n (running_at m from [])
        → Follows (image_step image) n s (running_at m from []) (account 10 0 0) (Judged holds fails s m) (Never s m) (either (evaluated program calls c) truth throws s)
    judged_follows c from holds fails st n s m a told =
        follows_more (image_step image) n s (running_at m from []) (account 11 0 0) (account 0 1 1) (account 10 0 0) (λ b d t. IsAt function st.0 (values.Number (truth_number b) ∷ []) s m d t) (Judged holds fails s m) (Never s m)
        (either (evaluated program calls c) truth throws s)
        (record { goes_on = omega arith; left_first = omega arith; left_second = omega arith; in_hand = omega arith })
        (truth_follows image function program calls c from st.0 st.1 n [] s m a told)
        (λ b t d k g told. from_place image function (Judged holds fails) (judged_on holds fails) st.0 (values.Number (truth_number b) ∷ []) s t m d k (account 0 1 1) (gives b t) g told
        (λ agrees told. jumps_so st.0 holds fails st.2 b k t g.machine agrees told))

    pub condition_follows : (c : Condition) (from holds fails : ℕ) → StandsCondition image function c from holds fails → (n : ℕ) (s : source.State) (m : State) → Agrees function s m → s.begins ≡ begins_ahead (image_step image) n (running_at m from [])
        → Follows (image_step image) n s (running_at m from []) of_part (Judged holds fails s m) (Never s m) (condition program calls c s)
    condition_follows always from holds fails st n s m a told =
        follows_gives (image_step image) n s (running_at m from []) of_part (Judged holds fails s m) (Never s m) true (omega arith)
        (record { machine = m; is_there = ap (λ p. running_at m p []) (sym st); agrees = a; kept = all_kept s m }) told
    condition_follows (while c) from holds fails st n s m a told =
        follows_less (image_step image) n s (running_at m from []) (account 10 0 0) of_part (Judged holds fails s m) (Judged holds fails s m) (Never s m) (Never s m) _
        (record { goes_on = omega arith; left = omega arith; in_hand = omega arith }) (λ b d t g. g) (λ e d t f. f) (judged_follows c from holds fails st n s m a told)

  -- ---- a jump where a statement is left

  -- the machine goes on to a place where it is, or by a jump
  pub goes_to : {A : Type 0} (v : A) (On : A → State → source.State → Type 0) (first : ℕ) (scopes : List (List ℕ)) (now : List ℕ) (place to : ℕ) → GoesOn image function place to → (s t : source.State) (m d : State) (k : ℕ)
      → ((e : State) → Place image function first scopes now to s m e t → On v e t) → (g : Place image function first scopes now place s m d t) → t.begins ≡ begins_ahead (image_step image) k d
      → Follows (image_step image) k t d (account 0 1 1) On (Never s m) (gives v t)
  unfolding gives
  goes_to {A} v On first scopes now place to (inl e) s t m d k so g told =
      follows_gives (image_step image) k t d (account 0 1 1) On (Never s m) v (omega arith)
      (so d (record { machine = g.machine; place = g.place; operands = g.operands; is_there = g.is_there; carried = g.carried; wanted = g.wanted ∙ sym e; is_in = g.is_in; left = g.left })) told
  goes_to {A} v On first scopes now place to (inr h) s t m d k so g told =
      follows_one (image_step image) k t d (account 0 1 1) On (Never s m) (on v t) (omega arith) (omega arith) told
      (record {
        to = running_at g.machine to [];
        event = None;
        goes_so = ap (image_step image) (there image function first scopes now place s m d t g) ∙ jumps_to image function Never t g.machine place to [] ((g.is_in).ready).agrees h;
        noted_so = refl;
        begun_so = refl;
        same_budget = refl;
        stands = so (running_at g.machine to []) (record { machine = g.machine; place = to; operands = []; is_there = refl; carried = refl; wanted = refl; is_in = g.is_in; left = g.left });
      })

  module _ (around : Surroundings) (now : List ℕ) where
    abbrev Goal : ℕ → ℕ → source.State → State → Completion → State → source.State → Type 0
    Goal number to s m = Completed image function number (now ∷ around.scopes) now (Reaches image function around now to) s m

    goal_on : (number to : ℕ) (s t : source.State) (m d : State) → AreLeft (now ∷ around.scopes) s m t d → (c : Completion) (e : State) (u : source.State) → Goal number to t d c e u → Goal number to s m c e u
    goal_on number to s t m d k c e u g = completed_on image function number (now ∷ around.scopes) now (Reaches image function around now to) s t u m d e c k g

    -- where the statement ends the machine goes on
    ends_at : (number place to : ℕ) → GoesOn image function place to → (s : source.State) (m : State) (v : Completion) (t : source.State) (d : State) (k : ℕ) → Goal number place s m v d t → t.begins ≡ begins_ahead (image_step image) k d
        → Follows (image_step image) k t d (account 0 1 1) (Goal number to s m) (Never s m) (gives v t)
    unfolding gives
    ends_at number place to h s m on_to_next t d k g told =
        goes_to on_to_next (Goal number to s m) number (now ∷ around.scopes) now place to h s t m d k
        (λ e x. completed_so image function around number (now ∷ around.scopes) now (λ c p. p ≡ to) (Reaches image function around now to) s m e t on_to_next (λ p e. e) x)
        (completed_so image function around number (now ∷ around.scopes) now (Reaches image function around now place) (λ c p. p ≡ place) s m d t on_to_next (λ p e. e) g) told
    ends_at number place to h s m (return v) t d k g told =
        follows_gives (image_step image) k t d (account 0 1 1) (Goal number to s m) (Never s m) (return v) (omega arith)
        (completed_so image function around number (now ∷ around.scopes) now (Reaches image function around now place) (Reaches image function around now to) s m d t (return v) (λ p e. e) g) told
    ends_at number place to h s m break t d k g told =
        follows_gives (image_step image) k t d (account 0 1 1) (Goal number to s m) (Never s m) break (omega arith)
        (completed_so image function around number (now ∷ around.scopes) now (Reaches image function around now place) (Reaches image function around now to) s m d t break (λ p e. e) g) told
    ends_at number place to h s m continue t d k g told =
        follows_gives (image_step image) k t d (account 0 1 1) (Goal number to s m) (Never s m) continue (omega arith)
        (completed_so image function around number (now ∷ around.scopes) now (Reaches image function around now place) (Reaches image function around now to) s m d t continue (λ p e. e) g) told

    -- ---- a choice

    pub choice_follows : (program : Program) (calls : Calls) (c : Operand) (first second : Does Completion) (from holds q fails to : ℕ) → StandsCondition image function (while c) from holds fails → GoesOn image function q to
        → Stated image function around now now first holds q → Stated image function around now now second fails to
        → Stated image function around now now (either (either (evaluated program calls c) truth throws) (λ b. if b then first else second) throws) from to
    choice_follows program calls c first second from holds q fails to st onwards follows more number n s m i told =
        follows_then (image_step image) n s (running_at m from []) (account 10 0 0) (account 0 1 3) of_completion (Judged holds fails s m) (Goal number to s m) (Never s m) (either (evaluated program calls c) truth throws) (λ b. if b then first else second)
        (record { goes_on = omega arith; left_first = omega arith; left_second = omega arith; in_hand = omega arith })
        (judged_follows program calls c from holds fails st n s m (i.ready).agrees told) chosen
      where
        chosen : (b : Bool) (t : source.State) (d : State) (k : ℕ) → Judged holds fails s m b d t → t.begins ≡ begins_ahead (image_step image) k d → Follows (image_step image) k t d (account 0 1 3) (Goal number to s m) (Never s m) ((if b then first else second) t)
        chosen true t d k g told =
            let x = placed image function number around.scopes now holds s m d t i g in
            follows_more (image_step image) k t d of_completion (account 0 1 1) (account 0 1 3) (Goal number q s m) (Goal number to s m) (Never s m) (first t)
            (record { goes_on = omega arith; left_first = omega arith; left_second = omega arith; in_hand = omega arith })
            (from_there image function number (now ∷ around.scopes) now holds (Goal number q) s t m d k of_completion (first t) x told (λ v e u y. goal_on number q s t m x.machine x.left v e u y) (λ told. follows number k t x.machine x.is_in told))
            (ends_at number q to onwards s m)
        chosen false t d k g told =
            let x = placed image function number around.scopes now fails s m d t i g in
            follows_less (image_step image) k t d of_completion (account 0 1 3) (Goal number to s m) (Goal number to s m) (Never s m) (Never s m) (second t)
            (record { goes_on = omega arith; left = omega arith; in_hand = omega arith }) (λ v e u y. y) (λ e d t f. f)
            (from_there image function number (now ∷ around.scopes) now fails (Goal number to) s t m d k of_completion (second t) x told (λ v e u y. goal_on number to s t m x.machine x.left v e u y) (λ told. more number k t x.machine x.is_in told))

    -- ---- a loop

    module _ (top start next end over : ℕ) (test : Does Bool) (again body : Does Completion)
        (tests : (n : ℕ) (s : source.State) (m : State) → Agrees function s m → s.begins ≡ begins_ahead (image_step image) n (running_at m top [])
        → Follows (image_step image) n s (running_at m top []) of_part (Judged start over s m) (Never s m) (test s))
        (turns : Stated image function (in_loop around over next) now now body start next)
        (steps : (first n : ℕ) (s : source.State) (m : State) → IsIn image function first now s m → s.begins ≡ begins_ahead (image_step image) n (running_at m next [])
        → Follows (image_step image) n s (running_at m next []) of_completion (λ _ d t. Place image function first (now ∷ around.scopes) now end s m d t) (Never s m) (again s))
        (back : operation_at image function end ≡ Some (does.Jump top)) where
      module _ (number : ℕ) (s0 : source.State) (m0 : State) where
        -- from the state where the loop began
        abbrev At : ℕ → State → source.State → Type 0
        At p = Place image function number (now ∷ around.scopes) now p s0 m0

        at_on : (p : ℕ) (t u : source.State) (d e : State) → AreLeft (now ∷ around.scopes) s0 m0 t d → Place image function number (now ∷ around.scopes) now p t d e u → At p e u
        at_on p t u d e k g = completed_on image function number (now ∷ around.scopes) now (λ c q. q ≡ p) s0 t u m0 d e on_to_next k g

        reaches_over : (d : State) (t : source.State) → At over d t → Goal number over s0 m0 on_to_next d t
        reaches_over d t g = completed_so image function around number (now ∷ around.scopes) now (λ c p. p ≡ over) (Reaches image function around now over) s0 m0 d t on_to_next (λ p e. e) g

        tested : (b : Bool) (d : State) (t : source.State) → At (if b then start else over) d t → Decided (image_step image) test again body (At top) (At start) (At next) (At end) (Goal number over s0 m0) (Never s0 m0) b d t
        tested true d t g = g
        tested false d t g = reaches_over d t g

        tests_follow : (n : ℕ) (s : source.State) (c : State) → At top c s → s.begins ≡ begins_ahead (image_step image) n c
            → Follows (image_step image) n s c of_part (Decided (image_step image) test again body (At top) (At start) (At next) (At end) (Goal number over s0 m0) (Never s0 m0)) (Never s0 m0) (test s)
        tests_follow n s c g told =
            follows_less (image_step image) n s c of_part of_part (λ b. At (if b then start else over)) (Decided (image_step image) test again body (At top) (At start) (At next) (At end) (Goal number over s0 m0) (Never s0 m0)) (Never s0 m0) (Never s0 m0) (test s)
            (record { goes_on = omega arith; left = omega arith; in_hand = omega arith }) tested (λ e d t f. f)
            (from_there image function number (now ∷ around.scopes) now top (λ s m b. Place image function number (now ∷ around.scopes) now (if b then start else over) s m) s0 s m0 c n of_part (test s) g told
            (λ b e u x. at_on (if b then start else over) s u g.machine e g.left x)
            (λ told. follows_less (image_step image) n s (running_at g.machine top []) of_part of_part (Judged start over s g.machine) (λ b. Place image function number (now ∷ around.scopes) now (if b then start else over) s g.machine) (Never s g.machine) (Never s g.machine) (test s)
            (record { goes_on = omega arith; left = omega arith; in_hand = omega arith }) (λ b d t x. placed image function number around.scopes now (if b then start else over) s g.machine d t g.is_in x) (λ e d t f. f)
            (tests n s g.machine ((g.is_in).ready).agrees told)))

        leaves_loop : (l : Loop) → Some (record { depth = 0; break_to = over; continue_to = next }) ≡ Some l → l ≡ record { depth = 0; break_to = over; continue_to = next }
        leaves_loop l e = cc

        breaks : (place : ℕ) → Reaches image function (in_loop around over next) now next break place → GoesOn image function place over
        breaks place h = subst (λ (l : Loop). StandsExit image function l.depth (now ∷ around.scopes) place l.break_to) (leaves_loop h.0 h.1) h.2

        continues : (place : ℕ) → Reaches image function (in_loop around over next) now next continue place → GoesOn image function place next
        continues place h = subst (λ (l : Loop). StandsExit image function l.depth (now ∷ around.scopes) place l.continue_to) (leaves_loop h.0 h.1) h.2

        abbrev AfterTurn : Completion → State → source.State → Type 0
        AfterTurn = Turned (image_step image) test again body (At top) (At start) (At next) (At end) (Goal number over s0 m0) (Never s0 m0)

        turned : (v : Completion) (t : source.State) (d : State) (k : ℕ) → Completed image function number (now ∷ around.scopes) now (Reaches image function (in_loop around over next) now next) s0 m0 v d t → t.begins ≡ begins_ahead (image_step image) k d
            → Follows (image_step image) k t d (account 0 1 1) AfterTurn (Never s0 m0) (gives v t)
        turned on_to_next t d k g told =
            follows_gives (image_step image) k t d (account 0 1 1) AfterTurn (Never s0 m0) on_to_next (omega arith)
            (completed_so image function around number (now ∷ around.scopes) now (Reaches image function (in_loop around over next) now next) (λ c p. p ≡ next) s0 m0 d t on_to_next (λ p e. e) g) told
        turned (return v) t d k g told =
            follows_gives (image_step image) k t d (account 0 1 1) AfterTurn (Never s0 m0) (return v) (omega arith)
            (completed_so image function around number (now ∷ around.scopes) now (Reaches image function (in_loop around over next) now next) (Reaches image function around now over) s0 m0 d t (return v) (λ p e. e) g) told
        turned break t d k g told =
            goes_to break AfterTurn number (now ∷ around.scopes) now g.place over (breaks g.place g.wanted) s0 t m0 d k (λ e x. reaches_over e t x)
            (record { machine = g.machine; place = g.place; operands = g.operands; is_there = g.is_there; carried = g.carried; wanted = refl; is_in = g.is_in; left = g.left }) told
        turned continue t d k g told =
            goes_to continue AfterTurn number (now ∷ around.scopes) now g.place next (continues g.place g.wanted) s0 t m0 d k (λ e x. x)
            (record { machine = g.machine; place = g.place; operands = g.operands; is_there = g.is_there; carried = g.carried; wanted = refl; is_in = g.is_in; left = g.left }) told

        body_follows : (n : ℕ) (s : source.State) (c : State) → At start c s → s.begins ≡ begins_ahead (image_step image) n c → Follows (image_step image) n s c of_part AfterTurn (Never s0 m0) (body s)
        body_follows n s c g told =
            follows_more (image_step image) n s c of_completion (account 0 1 1) of_part (Completed image function number (now ∷ around.scopes) now (Reaches image function (in_loop around over next) now next) s0 m0) AfterTurn (Never s0 m0) (body s)
            (record { goes_on = omega arith; left_first = omega arith; left_second = omega arith; in_hand = omega arith })
            (from_there image function number (now ∷ around.scopes) now start (Completed image function number (now ∷ around.scopes) now (Reaches image function (in_loop around over next) now next)) s0 s m0 c n of_completion (body s) g told
            (λ v e u x. completed_on image function number (now ∷ around.scopes) now (Reaches image function (in_loop around over next) now next) s0 s u m0 g.machine e v g.left x)
            (λ told. turns number n s g.machine g.is_in told))
            turned

        again_follows : (n : ℕ) (s : source.State) (c : State) → At next c s → s.begins ≡ begins_ahead (image_step image) n c → Follows (image_step image) n s c of_part (λ _. At end) (Never s0 m0) (again s)
        again_follows n s c g told =
            follows_less (image_step image) n s c of_completion of_part (λ _. At end) (λ _. At end) (Never s0 m0) (Never s0 m0) (again s)
            (record { goes_on = omega arith; left = omega arith; in_hand = omega arith }) (λ v d t x. x) (λ e d t f. f)
            (from_there image function number (now ∷ around.scopes) now next (λ s m _. Place image function number (now ∷ around.scopes) now end s m) s0 s m0 c n of_completion (again s) g told
            (λ v e u x. at_on end s u g.machine e g.left x) (λ told. steps number n s g.machine g.is_in told))

        jumps_back : (c : State) (s : source.State) → At end c s → (d : State) × (image_step image c ≡ goes d None) × At top d s
        jumps_back c s g = (
          running_at g.machine top [],
          ap (image_step image) (there image function number (now ∷ around.scopes) now end s0 m0 c s g) ∙ jumps_to image function Never s g.machine end top [] ((g.is_in).ready).agrees back,
          record { machine = g.machine; place = top; operands = []; is_there = refl; carried = refl; wanted = refl; is_in = g.is_in; left = g.left },
        )

        with_less : (left : ℕ) (c : State) (s : source.State) → At top c s → At top c (record s { budget = left })
        with_less left c s g = place_unspent image function number (now ∷ around.scopes) now top s0 m0 c s left g

      pub loop_stated : (from : ℕ) → operation_at image function from ≡ Some (does.Jump top) → Stated image function around now now (loop test again body) from over
      loop_stated from enters number n s m i told =
          let goes_so = jumps_to image function Never s m from top [] (i.ready).agrees enters in
          follows_step (image_step image) n s (running_at m from []) (running_at m top []) of_turns of_completion (Goal number over s m) (Never s m) (loop test again body s) goes_so (omega arith) (omega arith) (omega arith)
          (loop_follows (image_step image) test again body (At number s m top) (At number s m start) (At number s m next) (At number s m end) (Goal number over s m) (Never s m)
          (tests_follow number s m) (body_follows number s m) (again_follows number s m) (jumps_back number s m) (with_less number s m)
          (n - 1) s (running_at m top []) (place_at image function number (now ∷ around.scopes) now top s m i) (told_on (image_step image) n (running_at m from []) (running_at m top []) None s.begins s.begins goes_so told refl))
