-- What stands in the slots of open scopes, what a statement leaves as it was, and where it is left.
use Rattle.std.proofs.Common.{◌≡◌, ℕ, suc, ◌<◌, ◌≤◌, length, List, [], ◌∷◌, Option, Some, None, refl, sym, ap, ◌∙◌, subst, arith}
use Rattle.std.specs.Prelude.{slice_get}
use Rattle.cx_code.specs.declared.image.Image.{Image}
use Rattle.cx_code.specs.declared.run.Value.{Value}
use Rattle.cx_code.specs.declared.run.Value.TheVariants as values
use Rattle.cx_code.specs.State.{State}
use Rattle.cx_core.specs.Laws.{IsNumbered}
use Rattle.cx_core.specs.Tree.{ObjectType, scalar, pointer, function_pointer, class}
use Rattle.cx_core.specs.Store.{Store, leaves_of}
use Rattle.cx_core.specs.Outcome as source
use Rattle.cx_core.specs.Outcome.{Living, whole}
use Rattle.cx_core.specs.Statements.{Completion, on_to_next, break, continue, return}
use Rattle.cx_emit.specs.Values.{IsValue}
use Rattle.cx_emit.specs.Configuration.{running_at, Agrees, AreKept}
use Rattle.cx_emit.specs.Scopes.{Loop, Surroundings, deeper, inside, slot_count, StandsEnds, StandsExit}
use Rattle.cx_emit.proofs.Objects.{IsAlive}

-- ---- slots

abbrev pub AreSame : List ℕ → List (Option Value) → List (Option Value) → Type 0
AreSame [] old new = Unit {0}
AreSame (slot ∷ slots) old new = (slice_get new slot ≡ slice_get old slot) × AreSame slots old new

abbrev pub AllSame : List (List ℕ) → List (Option Value) → List (Option Value) → Type 0
AllSame [] old new = Unit {0}
AllSame (slots ∷ scopes) old new = AreSame slots old new × AllSame scopes old new

same_slots : (slots : List ℕ) (old new : List (Option Value)) → new ≡ old → AreSame slots old new
same_slots [] old new e = tt {0}
same_slots (slot ∷ slots) old new e = (ap (λ l. slice_get l slot) e, same_slots slots old new e)

pub all_same : (scopes : List (List ℕ)) (old new : List (Option Value)) → new ≡ old → AllSame scopes old new
all_same [] old new e = tt {0}
all_same (slots ∷ scopes) old new e = (same_slots slots old new e, all_same scopes old new e)

same_then : (slots : List ℕ) (old mid new : List (Option Value)) → AreSame slots old mid → AreSame slots mid new → AreSame slots old new
same_then [] old mid new a b = tt {0}
same_then (slot ∷ slots) old mid new a b = (b.0 ∙ a.0, same_then slots old mid new a.1 b.1)

pub all_then : (scopes : List (List ℕ)) (old mid new : List (Option Value)) → AllSame scopes old mid → AllSame scopes mid new → AllSame scopes old new
all_then [] old mid new a b = tt {0}
all_then (slots ∷ scopes) old mid new a b = (same_then slots old mid new a.0 b.0, all_then scopes old mid new a.1 b.1)

-- ---- the objects of a scope

-- of one leaf, which nothing is called for where it ends
abbrev pub IsSimple : ObjectType → Type 0
IsSimple (scalar type) = Unit {0}
IsSimple (pointer t) = Unit {0}
IsSimple (function_pointer t) = Unit {0}
IsSimple (class c) = ⊥

-- they live, and their places stand in these slots; each has a greater number than those before it, of which the first one is known
abbrev pub Lives : (first upper : ℕ) → Store → List (Option Value) → List ℕ → List Living → Type 0
Lives first upper store slots [] [] = Unit {0}
Lives first upper store slots [] (l ∷ living) = ⊥
Lives first upper store slots (slot ∷ now) (whole n type ∷ living) =
    IsSimple type × (slice_get slots slot ≡ Some (Some (values.Address n 0))) × (first ≤ n) × (n < upper) × IsAlive store n × Lives first n store slots now living
Lives first upper store slots (slot ∷ now) living = ⊥

pub lives_on : (first upper more : ℕ) (old new : Store) (before after : List (Option Value)) (now : List ℕ) (living : List Living) → upper ≤ more → AreSame now before after → ((n : ℕ) → n < upper → IsAlive old n → IsAlive new n)
    → Lives first upper old before now living → Lives first more new after now living
lives_on first upper more old new before after [] [] le same alive h = tt {0}
lives_on first upper more old new before after [] (l ∷ living) le same alive h = absurd h
lives_on first upper more old new before after (slot ∷ now) (whole n type ∷ living) le same alive h =
    (h.0, same.0 ∙ h.1, h.2, omega (arith, h.3, le), alive n h.3 h.4, lives_on first n n old new before after now living (omega arith) same.1 (λ k l. alive k (omega (arith, l, h.3))) h.5)
lives_on first upper more old new before after (slot ∷ now) living le same alive h = absurd h

-- ---- statements

module _ (image : Image) (function : ℕ) where
  -- where a statement begins or is left: in a frame of the function without a result object
  pub record IsReady (s : source.State) (m : State) : Type 0 where
    pub agrees : Agrees function s m
    pub no_result : s.frame.result ≡ None
    pub has_slots : length m.frame.slots ≡ slot_count image function
    pub numbered : IsNumbered s.next s.store

  -- and in a scope that has declared objects in these slots
  pub record IsIn (first : ℕ) (now : List ℕ) (s : source.State) (m : State) : Type 0 where
    pub ready : IsReady s m
    pub first_number : first ≤ s.next
    pub lives : Lives first s.next s.store m.frame.slots now s.living

-- what it leaves as it was: the slots of the objects of these scopes, and what lived
pub record AreLeft (scopes : List (List ℕ)) (s : source.State) (m : State) (t : source.State) (d : State) : Type 0 where
  pub same_slots : AllSame scopes m.frame.slots d.frame.slots
  pub same_below : d.below ≡ m.below
  pub more_numbers : s.next ≤ t.next
  pub still_alive : (n : ℕ) → n < s.next → IsAlive s.store n → IsAlive t.store n

pub all_left : (scopes : List (List ℕ)) (s : source.State) (m : State) → AreLeft scopes s m s m
all_left scopes s m = record { same_slots = all_same scopes m.frame.slots m.frame.slots refl; same_below = refl; more_numbers = omega arith; still_alive = λ n h a. a }

pub left_on : (scopes : List (List ℕ)) (s t u : source.State) (m d e : State) → AreLeft scopes s m t d → AreLeft scopes t d u e → AreLeft scopes s m u e
left_on scopes s t u m d e a b =
    record {
      same_slots = all_then scopes m.frame.slots d.frame.slots e.frame.slots a.same_slots b.same_slots;
      same_below = b.same_below ∙ a.same_below;
      more_numbers = omega (arith, a.more_numbers, b.more_numbers);
      still_alive = λ n h alive. b.still_alive n (omega (arith, h, a.more_numbers)) (a.still_alive n h alive);
    }

pub kept_left : (scopes : List (List ℕ)) (s t : source.State) (m d : State) → AreKept s m t d → AreLeft scopes s m t d
kept_left scopes s t m d k =
    record {
      same_slots = all_same scopes m.frame.slots d.frame.slots k.same_slots;
      same_below = k.same_below;
      more_numbers = omega (arith, k.same_number);
      still_alive = λ n h alive. (alive.0, ap (λ store. leaves_of store n) k.same_store ∙ alive.1);
    }

some_loop : (a b : Loop) → Some a ≡ Some b → b ≡ a
some_loop a b e = cc

module _ (image : Image) (function : ℕ) where
  pub kept_ready : (s t : source.State) (m d : State) → IsReady image function s m → AreKept s m t d → Agrees function t d → IsReady image function t d
  kept_ready s t m d r k a =
      record {
        agrees = a;
        no_result = ap (λ (f : source.Frame). f.result) k.same_frame ∙ r.no_result;
        has_slots = ap length k.same_slots ∙ r.has_slots;
        numbered = subst (λ next. IsNumbered next t.store) (sym k.same_number) (subst (λ store. IsNumbered s.next store) (sym k.same_store) r.numbered);
      }

  -- where an expression has been evaluated the scope is as it was
  pub kept_in : (first : ℕ) (now : List ℕ) (s t : source.State) (m d : State) → IsIn image function first now s m → AreKept s m t d → Agrees function t d → IsIn image function first now t d
  kept_in first now s t m d i k a =
      let left = kept_left (now ∷ []) s t m d k in
      record {
        ready = kept_ready s t m d i.ready k a;
        first_number = omega (arith, i.first_number, k.same_number);
        lives = subst (λ living. Lives first t.next t.store d.frame.slots now living) (sym k.same_living)
            (lives_on first s.next t.next s.store t.store m.frame.slots d.frame.slots now s.living left.more_numbers left.same_slots.0 left.still_alive i.lives);
      }

  -- ---- where a statement is left

  -- what stands on the operands
  abbrev pub Carries : Completion → List Value → Type 0
  Carries (return v) operands = (w : Value) × (operands ≡ w ∷ []) × IsValue v w
  Carries other operands = operands ≡ []

  -- a place from which the code goes where the statement is to go on
  abbrev pub Reaches : Surroundings → List ℕ → ℕ → Completion → ℕ → Type 0
  Reaches around now to on_to_next place = place ≡ to
  Reaches around now to break place = (l : Loop) × (around.loop ≡ Some l) × StandsExit image function l.depth (now ∷ around.scopes) place l.break_to
  Reaches around now to continue place = (l : Loop) × (around.loop ≡ Some l) × StandsExit image function l.depth (now ∷ around.scopes) place l.continue_to
  Reaches around now to (return v) place = StandsExit image function (suc (length around.scopes)) (now ∷ around.scopes) place around.exit

  -- the same where the scope is left as well
  abbrev pub Departs : Surroundings → List ℕ → ℕ → Completion → ℕ → Type 0
  Departs around now to on_to_next place = StandsEnds image function now place to
  Departs around now to c place = Reaches around now to c place

  -- a statement is left in a scope that has declared objects in these slots
  pub record Completed (first : ℕ) (scopes : List (List ℕ)) (now : List ℕ) (Wants : Completion → ℕ → Type 0) (s : source.State) (m : State) (c : Completion) (d : State) (t : source.State) : Type 0 where
    pub machine : State
    pub place : ℕ
    pub operands : List Value
    pub is_there : d ≡ running_at machine place operands
    pub carried : Carries c operands
    pub wanted : Wants c place
    pub is_in : IsIn image function first now t machine
    pub left : AreLeft scopes s m t machine

  -- a scope is left
  pub record Departed (scopes : List (List ℕ)) (Wants : Completion → ℕ → Type 0) (s : source.State) (m : State) (c : Completion) (d : State) (t : source.State) : Type 0 where
    pub machine : State
    pub place : ℕ
    pub operands : List Value
    pub is_there : d ≡ running_at machine place operands
    pub carried : Carries c operands
    pub wanted : Wants c place
    pub ready : IsReady image function t machine
    pub same_living : t.living ≡ s.living
    pub left : AreLeft scopes s m t machine

  pub completed_on : (first : ℕ) (scopes : List (List ℕ)) (now : List ℕ) (Wants : Completion → ℕ → Type 0) (s t u : source.State) (m d e : State) (c : Completion) → AreLeft scopes s m t d → Completed first scopes now Wants t d c e u → Completed first scopes now Wants s m c e u
  completed_on first scopes now Wants s t u m d e c k g =
      record { machine = g.machine; place = g.place; operands = g.operands; is_there = g.is_there; carried = g.carried; wanted = g.wanted; is_in = g.is_in; left = left_on scopes s t u m d g.machine k g.left }

  -- a scope inside another one is left
  pub departed_in : (first : ℕ) (now : List ℕ) (scopes : List (List ℕ)) (Wants : Completion → ℕ → Type 0) (s t : source.State) (m d : State) (c : Completion) → IsIn image function first now s m
      → Departed (now ∷ scopes) Wants s m c d t → Completed first (now ∷ scopes) now Wants s m c d t
  departed_in first now scopes Wants s t m d c i g =
      record {
        machine = g.machine;
        place = g.place;
        operands = g.operands;
        is_there = g.is_there;
        carried = g.carried;
        wanted = g.wanted;
        is_in = record {
          ready = g.ready;
          first_number = omega (arith, i.first_number, (g.left).more_numbers);
          lives = subst (λ living. Lives first t.next t.store (g.machine).frame.slots now living) (sym g.same_living)
              (lives_on first s.next t.next s.store t.store m.frame.slots (g.machine).frame.slots now s.living (g.left).more_numbers ((g.left).same_slots).0 (g.left).still_alive i.lives);
        };
        left = g.left;
      }

  -- the objects of the scope end first
  pub departs_so : (around : Surroundings) (now last : List ℕ) (to : ℕ) (c : Completion) (place : ℕ) → Departs (inside around now) last to c place → (p : ℕ) × StandsEnds image function last place p × Reaches around now to c p
  departs_so around now last to on_to_next place h = (to, h, refl)
  departs_so around now last to (return v) place h = h
  departs_so around now last to break place h = by_loop around.loop refl h.0 h.1 h.2
    where
      by_loop : (found : Option Loop) → around.loop ≡ found → (l : Loop) → deeper found ≡ Some l → StandsExit image function l.depth (last ∷ now ∷ around.scopes) place l.break_to
          → (p : ℕ) × StandsEnds image function last place p × Reaches around now to break p
      by_loop None e l f h = absurd cc
      by_loop (Some outer) e l f h =
          let x = subst (λ (l : Loop). StandsExit image function l.depth (last ∷ now ∷ around.scopes) place l.break_to) (some_loop (record outer { depth = suc outer.depth }) l f) h in
          (x.0, x.1, (outer, e, x.2))
  departs_so around now last to continue place h = by_loop around.loop refl h.0 h.1 h.2
    where
      by_loop : (found : Option Loop) → around.loop ≡ found → (l : Loop) → deeper found ≡ Some l → StandsExit image function l.depth (last ∷ now ∷ around.scopes) place l.continue_to
          → (p : ℕ) × StandsEnds image function last place p × Reaches around now to continue p
      by_loop None e l f h = absurd cc
      by_loop (Some outer) e l f h =
          let x = subst (λ (l : Loop). StandsExit image function l.depth (last ∷ now ∷ around.scopes) place l.continue_to) (some_loop (record outer { depth = suc outer.depth }) l f) h in
          (x.0, x.1, (outer, e, x.2))
