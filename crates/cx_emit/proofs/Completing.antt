-- What it is that the machine follows a statement, and what goes on from where it was left.
use Rattle.std.proofs.Common.{◌≡◌, ℕ, List, [], ◌∷◌, false, refl, ap, ◌∙◌, sym, subst, arith}
use Rattle.cx_code.specs.declared.image.Image.{Image}
use Rattle.cx_code.specs.State.{State}
use Rattle.cx_core.specs.Tree.{Stmt, variable_declaration, Check}
use Rattle.cx_core.specs.Store as store
use Rattle.cx_core.specs.Outcome as source
use Rattle.cx_core.specs.Outcome.{Does, Nothing}
use Rattle.cx_core.specs.Statements.{Completion, on_to_next, return}
use Rattle.cx_simulation.specs.Machine.{begins_ahead}
use Rattle.cx_simulation.specs.ImageMachine.{image_step}
use Rattle.cx_simulation.specs.Parts.{Account, Follows}
use Rattle.cx_simulation.proofs.Parts.{follows_less}
use Rattle.cx_emit.specs.Configuration.{running_at, IsAt, Gives}
use Rattle.cx_emit.specs.Scopes.{Surroundings}
use Rattle.cx_emit.specs.Statements.{behind, declares}
use Rattle.cx_emit.proofs.Asserting.{Never}
use Rattle.cx_emit.proofs.Scopes.{AllSame, all_same, Lives, lives_on, IsIn, AreLeft, all_left, left_on, kept_left, kept_in, Reaches, Departs, Completed}
use Rattle.cx_emit.proofs.Ending.{of_completion}
use Rattle.cx_emit.proofs.Storing.{Written, with_temporaries}

module _ (image : Image) (function : ℕ) where
  -- the machine is at a place, in a scope that has declared these objects
  abbrev pub Place : (first : ℕ) (scopes : List (List ℕ)) (now : List ℕ) (place : ℕ) → source.State → State → State → source.State → Type 0
  Place first scopes now place s m d t = Completed image function first scopes now (λ c p. p ≡ place) s m on_to_next d t

  module _ (around : Surroundings) where
    -- from the one place to the other, in a scope that has declared the objects `now`, and `after` behind the statement
    abbrev pub Stated : (now after : List ℕ) → Does Completion → ℕ → ℕ → Type 0
    Stated now after part from to =
        (first n : ℕ) (s : source.State) (m : State) → IsIn image function first now s m → s.begins ≡ begins_ahead (image_step image) n (running_at m from [])
        → Follows (image_step image) n s (running_at m from []) of_completion (Completed image function first (now ∷ around.scopes) after (Reaches image function around after to) s m) (Never s m) (part s)

    -- the statements of a scope, whose objects are still to end
    abbrev pub AllCompleted : (first : ℕ) (now : List ℕ) (to : ℕ) → source.State → State → Completion → State → source.State → Type 0
    AllCompleted first now to s m c d t = (last : List ℕ) × Completed image function first (now ∷ around.scopes) last (Departs image function around last to) s m c d t

    abbrev pub AllStated : (now : List ℕ) → Does Completion → ℕ → ℕ → Type 0
    AllStated now part from to =
        (first n : ℕ) (s : source.State) (m : State) → IsIn image function first now s m → s.begins ≡ begins_ahead (image_step image) n (running_at m from [])
        → Follows (image_step image) n s (running_at m from []) of_completion (AllCompleted first now to s m) (Never s m) (part s)

    -- the statement is left as another one that goes on there
    pub completed_so : (first : ℕ) (scopes : List (List ℕ)) (now : List ℕ) (Wants More : Completion → ℕ → Type 0) (s : source.State) (m d : State) (t : source.State) (c : Completion) → ((place : ℕ) → Wants c place → More c place)
        → Completed image function first scopes now Wants s m c d t → Completed image function first scopes now More s m c d t
    completed_so first scopes now Wants More s m d t c f g =
        record { machine = g.machine; place = g.place; operands = g.operands; is_there = g.is_there; carried = g.carried; wanted = f g.place g.wanted; is_in = g.is_in; left = g.left }

  -- it has gone on to a place
  pub there : (first : ℕ) (scopes : List (List ℕ)) (now : List ℕ) (place : ℕ) (s : source.State) (m d : State) (t : source.State) → (g : Place first scopes now place s m d t) → d ≡ running_at g.machine place []
  there first scopes now place s m d t g = g.is_there ∙ ap (λ q. running_at g.machine q g.operands) g.wanted ∙ ap (λ operands. running_at g.machine place operands) g.carried

  pub place_at : (first : ℕ) (scopes : List (List ℕ)) (now : List ℕ) (place : ℕ) (s : source.State) (m : State) → IsIn image function first now s m → Place first scopes now place s m (running_at m place []) s
  place_at first scopes now place s m i = record { machine = m; place = place; operands = []; is_there = refl; carried = refl; wanted = refl; is_in = i; left = all_left scopes s m }

  -- whatever is left of the budget
  pub place_unspent : (first : ℕ) (scopes : List (List ℕ)) (now : List ℕ) (place : ℕ) (s : source.State) (m d : State) (t : source.State) (left : ℕ) → Place first scopes now place s m d t → Place first scopes now place s m d (record t { budget = left })
  place_unspent first scopes now place s m d t left g =
      let r = (g.is_in).ready in
      record {
        machine = g.machine;
        place = g.place;
        operands = g.operands;
        is_there = g.is_there;
        carried = g.carried;
        wanted = g.wanted;
        is_in = record {
          ready = record {
            agrees = record { in_function = (r.agrees).in_function; same_store = (r.agrees).same_store; same_next = (r.agrees).same_next; same_input = (r.agrees).same_input; same_names = (r.agrees).same_names };
            no_result = r.no_result;
            has_slots = r.has_slots;
            numbered = r.numbered;
          };
          first_number = (g.is_in).first_number;
          lives = (g.is_in).lives;
        };
        left = record { same_slots = (g.left).same_slots; same_below = (g.left).same_below; more_numbers = (g.left).more_numbers; still_alive = (g.left).still_alive };
      }

  -- what follows from there
  pub from_there : {A : Type 0} (first : ℕ) (scopes : List (List ℕ)) (now : List ℕ) (place : ℕ) (On : source.State → State → A → State → source.State → Type 0) (s t : source.State) (m d : State) (k : ℕ) (account : Account) (r : source.Outcome A)
      → (g : Place first scopes now place s m d t) → t.begins ≡ begins_ahead (image_step image) k d
      → ((v : A) (e : State) (u : source.State) → On t g.machine v e u → On s m v e u)
      → (t.begins ≡ begins_ahead (image_step image) k (running_at g.machine place []) → Follows (image_step image) k t (running_at g.machine place []) account (On t g.machine) (Never t g.machine) r)
      → Follows (image_step image) k t d account (On s m) (Never s m) r
  from_there {A} first scopes now place On s t m d k account r g told closed more =
      let at : d ≡ running_at g.machine place [] = there first scopes now place s m d t g in
      subst (λ d. Follows (image_step image) k t d account (On s m) (Never s m) r) (sym at)
      (follows_less (image_step image) k t (running_at g.machine place []) account account (On t g.machine) (On s m) (Never t g.machine) (Never s m) r
      (record { goes_on = omega arith; left = omega arith; in_hand = omega arith }) closed (λ e d t f. f)
      (more (told ∙ ap (begins_ahead (image_step image) k) at)))

  -- the machine came to a place by code that leaves the scope as it was
  pub placed : (first : ℕ) (scopes : List (List ℕ)) (now : List ℕ) (place : ℕ) (s : source.State) (m d : State) (t : source.State) → IsIn image function first now s m → IsAt function place [] s m d t → Place first (now ∷ scopes) now place s m d t
  placed first scopes now place s m d t i g =
      record { machine = g.machine; place = place; operands = []; is_there = g.is_there; carried = refl; wanted = refl; is_in = kept_in image function first now s t m g.machine i g.kept g.agrees; left = kept_left (now ∷ scopes) s t m g.machine g.kept }

  -- or by storing a value, in a full-expression
  pub written_there : (first : ℕ) (scopes : List (List ℕ)) (now : List ℕ) (place : ℕ) (s : source.State) (temporaries : List source.Living) (m d : State) (t : source.State) → IsIn image function first now s m
      → Written image function place (record s { temporaries = temporaries }) m d t → Place first (now ∷ scopes) now place s m d (record t { temporaries = s.temporaries })
  written_there first scopes now place s temporaries m d t i g =
      let same : AllSame (now ∷ scopes) m.frame.slots (g.machine).frame.slots = all_same (now ∷ scopes) m.frame.slots (g.machine).frame.slots g.same_slots in
      record {
        machine = g.machine;
        place = place;
        operands = [];
        is_there = g.is_there;
        carried = refl;
        wanted = refl;
        is_in = record {
          ready = with_temporaries image function t g.machine s.temporaries g.ready;
          first_number = omega (arith, i.first_number, g.same_next);
          lives = subst (λ living. Lives first t.next t.store (g.machine).frame.slots now living) (sym g.same_living)
              (lives_on first s.next t.next s.store t.store m.frame.slots (g.machine).frame.slots now s.living (omega (arith, g.same_next)) same.0 (λ n h alive. g.still_alive n alive) i.lives);
        };
        left = record { same_slots = same; same_below = g.same_below; more_numbers = omega (arith, g.same_next); still_alive = λ n h alive. g.still_alive n alive };
      }

  -- or with a value, in a full-expression
  pub given_there : (first : ℕ) (scopes : List (List ℕ)) (now : List ℕ) (Wants : Completion → ℕ → Type 0) (place : ℕ) (s : source.State) (temporaries : List source.Living) (m d : State) (t : source.State) (v : store.Value) → IsIn image function first now s m → Wants (return v) place
      → Gives function place [] (record s { temporaries = temporaries }) m v d t → Completed image function first (now ∷ scopes) now Wants s m (return v) d (record t { temporaries = s.temporaries })
  given_there first scopes now Wants place s temporaries m d t v i wanted g =
      let inner : IsIn image function first now (record s { temporaries = temporaries }) m = record { ready = with_temporaries image function s m temporaries i.ready; first_number = i.first_number; lives = i.lives } in
      let in_there = kept_in image function first now (record s { temporaries = temporaries }) t m g.machine inner g.kept g.agrees in
      let left = kept_left (now ∷ scopes) (record s { temporaries = temporaries }) t m g.machine g.kept in
      record {
        machine = g.machine;
        place = place;
        operands = g.value ∷ [];
        is_there = g.is_there;
        carried = (g.value, refl, g.same_value);
        wanted = wanted;
        is_in = record { ready = with_temporaries image function t g.machine s.temporaries in_there.ready; first_number = in_there.first_number; lives = in_there.lives };
        left = record { same_slots = left.same_slots; same_below = left.same_below; more_numbers = left.more_numbers; still_alive = left.still_alive };
      }

  -- ---- what a statement declares

  pub undeclared : (a : Stmt Check) (now : List ℕ) → declares a ≡ false → behind a now ≡ now
  undeclared (variable_declaration slot type init) now e = absurd cc
  undeclared other now e = refl

  -- what is left as it was behind the statement was so before it
  pub left_before : (a : Stmt Check) (now : List ℕ) (scopes : List (List ℕ)) (s t : source.State) (m d : State) → AreLeft (behind a now ∷ scopes) s m t d → AreLeft (now ∷ scopes) s m t d
  left_before (variable_declaration slot type init) now scopes s t m d k =
      record { same_slots = (k.same_slots.0.1, k.same_slots.1); same_below = k.same_below; more_numbers = k.more_numbers; still_alive = k.still_alive }
  left_before other now scopes s t m d k = k

  pub completed_before : (a : Stmt Check) (first : ℕ) (now : List ℕ) (scopes : List (List ℕ)) (last : List ℕ) (Wants : Completion → ℕ → Type 0) (s t u : source.State) (m d e : State) (c : Completion) → AreLeft (now ∷ scopes) s m t d
      → Completed image function first (behind a now ∷ scopes) last Wants t d c e u → Completed image function first (now ∷ scopes) last Wants s m c e u
  completed_before a first now scopes last Wants s t u m d e c k g =
      record { machine = g.machine; place = g.place; operands = g.operands; is_there = g.is_there; carried = g.carried; wanted = g.wanted; is_in = g.is_in; left = left_on (now ∷ scopes) s t u m d g.machine k (left_before a now scopes t u d g.machine g.left) }
