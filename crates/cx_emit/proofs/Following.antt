-- Where code stands for the statements of a scope the machine follows them: by recursion on the trees.
use Rattle.std.proofs.Common.{◌≡◌, ℕ, List, [], ◌∷◌, Some, false, refl, sym, ap, ◌∙◌, subst, arith}
use Rattle.cx_code.specs.declared.image.Image.{Image}
use Rattle.cx_code.specs.declared.operation.Operation.TheVariants as does
use Rattle.cx_code.specs.State.{State}
use Rattle.cx_core.specs.Tree.{scalar, pointer, Operand, value, Stmt, Stmts, empty, expression, variable_declaration, reference_declaration, block, if_else, while_loop, for_loop, Condition, while, contract_assert, return_value, done, next, Check}
use Rattle.cx_core.specs.Tree as tree
use Rattle.cx_core.specs.Program.{Program}
use Rattle.cx_core.specs.Outcome as source
use Rattle.cx_core.specs.Outcome.{Does, either, gives, throws}
use Rattle.cx_core.specs.Leaving.{Calls}
use Rattle.cx_core.specs.Statements.{Completion, on_to_next, break, continue, return, sequence, loop}
use Rattle.cx_core.specs.Meaning.{condition, stmt, stmts}
use Rattle.cx_simulation.specs.Machine.{begins_ahead}
use Rattle.cx_simulation.specs.ImageMachine.{image_step}
use Rattle.cx_simulation.specs.Parts.{Follows}
use Rattle.cx_simulation.proofs.Parts.{follows_then, follows_less, follows_gives}
use Rattle.cx_emit.specs.Configuration.{running_at, operation_at}
use Rattle.cx_emit.specs.Checks.{HaveDefaultHandler}
use Rattle.cx_emit.specs.Scopes.{Surroundings, inside, in_loop, StandsEnds}
use Rattle.cx_emit.specs.Statements.{behind, declares, StandsCondition, StandsStmt, StandsStmts}
use Rattle.cx_emit.proofs.Asserting.{Never}
use Rattle.cx_emit.proofs.Scopes.{all_left, Reaches, Departs, Completed}
use Rattle.cx_emit.proofs.Ending.{of_completion}
use Rattle.cx_emit.proofs.Completing.{Place, Stated, AllCompleted, AllStated, completed_so, there, place_at, undeclared, completed_before}
use Rattle.cx_emit.proofs.Choosing.{choice_follows, condition_follows, loop_stated}
use Rattle.cx_emit.proofs.Stating.{Gone, GoesOnTo, stated_so, simple_follows, assert_follows, return_follows, left_follows, block_follows}

module _ (image : Image) (function : ℕ) (program : Program) (calls : Calls) (default : HaveDefaultHandler image program) where
  -- ---- one statement after another

  ended_follows : (around : Surroundings) (now : List ℕ) (from to : ℕ) → StandsEnds image function now from to → AllStated image function around now (gives on_to_next) from to
  ended_follows around now from to st first n s m i told =
      follows_gives (image_step image) n s (running_at m from []) of_completion (AllCompleted image function around first now to s m) (Never s m) on_to_next (omega arith)
      (now, record { machine = m; place = from; operands = []; is_there = refl; carried = refl; wanted = st; is_in = i; left = all_left (now ∷ around.scopes) s m }) told

  sequence_follows : (around : Surroundings) (now : List ℕ) (a : Stmt Check) (first second : Does Completion) (from p to : ℕ) → Stated image function around now (behind a now) first from p → AllStated image function around (behind a now) second p to
      → AllStated image function around now (either first (sequence second) throws) from to
  sequence_follows around now a first second from p to follows more number n s m i told =
      follows_then (image_step image) n s (running_at m from []) of_completion of_completion of_completion (Completed image function number (now ∷ around.scopes) (behind a now) (Reaches image function around (behind a now) p) s m) (AllCompleted image function around number now to s m) (Never s m) first (sequence second)
      (record { goes_on = omega arith; left_first = omega arith; left_second = omega arith; in_hand = omega arith }) (follows number n s m i told) on_with
    where
      on_with : (c : Completion) (t : source.State) (d : State) (k : ℕ) → Completed image function number (now ∷ around.scopes) (behind a now) (Reaches image function around (behind a now) p) s m c d t → t.begins ≡ begins_ahead (image_step image) k d
          → Follows (image_step image) k t d of_completion (AllCompleted image function around number now to s m) (Never s m) (sequence second c t)
      on_with on_to_next t d k g told =
          let x = completed_so image function around number (now ∷ around.scopes) (behind a now) (Reaches image function around (behind a now) p) (λ c q. q ≡ p) s m d t on_to_next (λ q e. e) g in
          let at : d ≡ running_at x.machine p [] = there image function number (now ∷ around.scopes) (behind a now) p s m d t x in
          subst (λ d. Follows (image_step image) k t d of_completion (AllCompleted image function around number now to s m) (Never s m) (second t)) (sym at)
          (follows_less (image_step image) k t (running_at x.machine p []) of_completion of_completion (AllCompleted image function around number (behind a now) to t x.machine) (AllCompleted image function around number now to s m) (Never t x.machine) (Never s m) (second t)
          (record { goes_on = omega arith; left = omega arith; in_hand = omega arith })
          (λ c e u y. (y.0, completed_before image function a number now around.scopes y.0 (Departs image function around y.0 to) s t u m x.machine e c x.left y.1)) (λ e d t f. f)
          (more number k t x.machine x.is_in (told ∙ ap (begins_ahead (image_step image) k) at)))
      on_with (return v) t d k g told =
          follows_gives (image_step image) k t d of_completion (AllCompleted image function around number now to s m) (Never s m) (return v) (omega arith)
          (behind a now, completed_so image function around number (now ∷ around.scopes) (behind a now) (Reaches image function around (behind a now) p) (Departs image function around (behind a now) to) s m d t (return v) (λ q e. e) g) told
      on_with break t d k g told =
          follows_gives (image_step image) k t d of_completion (AllCompleted image function around number now to s m) (Never s m) break (omega arith)
          (behind a now, completed_so image function around number (now ∷ around.scopes) (behind a now) (Reaches image function around (behind a now) p) (Departs image function around (behind a now) to) s m d t break (λ q e. e) g) told
      on_with continue t d k g told =
          follows_gives (image_step image) k t d of_completion (AllCompleted image function around number now to s m) (Never s m) continue (omega arith)
          (behind a now, completed_so image function around number (now ∷ around.scopes) (behind a now) (Reaches image function around (behind a now) p) (Departs image function around (behind a now) to) s m d t continue (λ q e. e) g) told

  -- ---- a branch, and the body of a loop

  undeclared_stated : (around : Surroundings) (now : List ℕ) (a : Stmt Check) (part : Does Completion) (from to : ℕ) → declares a ≡ false → Stated image function around now (behind a now) part from to → Stated image function around now now part from to
  undeclared_stated around now a part from to e follows = subst (λ after. Stated image function around now after part from to) (undeclared image function a now e) follows

  while_follows : (around : Surroundings) (now : List ℕ) (c : Operand) (body : Does Completion) (from top p q to : ℕ) → operation_at image function from ≡ Some (does.Jump top) → StandsCondition image function (while c) top p to
      → Stated image function (in_loop around to q) now now body p q → operation_at image function q ≡ Some (does.Jump top)
      → Stated image function around now now (loop (condition program calls (while c)) (gives on_to_next) body) from to
  while_follows around now c body from top p q to enters st follows back =
      loop_stated image function around now top p q q to (condition program calls (while c)) (gives on_to_next) body
      (λ n s m a told. condition_follows image function program calls (while c) top p to st n s m a told) follows
      (λ first n s m i told. follows_gives (image_step image) n s (running_at m q []) of_completion (λ _ d t. Place image function first (now ∷ around.scopes) now q s m d t) (Never s m) on_to_next (omega arith)
      (place_at image function first (now ∷ around.scopes) now q s m i) told)
      back from enters

  -- the objects that a `for` declares end behind its loop
  for_follows : (inner : Surroundings) (init : Stmt Check) (c : Condition) (first step body : Does Completion) (from start top p again end over to : ℕ)
      → GoesOnTo image function program calls default inner [] (behind init []) first from start → operation_at image function start ≡ Some (does.Jump top) → StandsCondition image function c top p over
      → Stated image function (in_loop inner over again) (behind init []) (behind init []) body p again → GoesOnTo image function program calls default inner (behind init []) (behind init []) step again end
      → operation_at image function end ≡ Some (does.Jump top) → StandsEnds image function (behind init []) over to
      → AllStated image function inner [] (either first (λ _. loop (condition program calls c) step body) throws) from to
  for_follows inner init c first step body from start top p again end over to begins enters st follows steps back ends number n s m i told =
      follows_then (image_step image) n s (running_at m from []) of_completion of_completion of_completion (Gone image function program calls default inner [] number (behind init []) start s m) (AllCompleted image function inner number [] to s m) (Never s m) first (λ _. loop (condition program calls c) step body)
      (record { goes_on = omega arith; left_first = omega arith; left_second = omega arith; in_hand = omega arith }) (begins number n s m i told)
      (λ v t d k g told. loops t d k g.1 told)
    where
      departs : (c : Completion) (place : ℕ) → Reaches image function inner (behind init []) over c place → Departs image function inner (behind init []) to c place
      departs on_to_next place e = subst (λ q. StandsEnds image function (behind init []) q to) (sym e) ends
      departs (return v) place h = h
      departs break place h = h
      departs continue place h = h

      the_loop : Stated image function inner (behind init []) (behind init []) (loop (condition program calls c) step body) start over
      the_loop =
          loop_stated image function inner (behind init []) top p again end over (condition program calls c) step body
          (λ n s m a told. condition_follows image function program calls c top p over st n s m a told) follows
          (λ first n s m i told. follows_less (image_step image) n s (running_at m again []) of_completion of_completion (Gone image function program calls default inner (behind init []) first (behind init []) end s m)
          (λ _ d t. Place image function first (behind init [] ∷ inner.scopes) (behind init []) end s m d t) (Never s m) (Never s m) (step s) (record { goes_on = omega arith; left = omega arith; in_hand = omega arith }) (λ c d t g. g.1) (λ e d t f. f)
          (steps first n s m i told))
          back start enters

      loops : (t : source.State) (d : State) (k : ℕ) → Completed image function number ([] ∷ inner.scopes) (behind init []) (λ c p. p ≡ start) s m on_to_next d t → t.begins ≡ begins_ahead (image_step image) k d
          → Follows (image_step image) k t d of_completion (AllCompleted image function inner number [] to s m) (Never s m) (loop (condition program calls c) step body t)
      loops t d k g told =
          let at : d ≡ running_at g.machine start [] = there image function number ([] ∷ inner.scopes) (behind init []) start s m d t g in
          subst (λ d. Follows (image_step image) k t d of_completion (AllCompleted image function inner number [] to s m) (Never s m) (loop (condition program calls c) step body t)) (sym at)
          (follows_less (image_step image) k t (running_at g.machine start []) of_completion of_completion (Completed image function number (behind init [] ∷ inner.scopes) (behind init []) (Reaches image function inner (behind init []) over) t g.machine)
          (AllCompleted image function inner number [] to s m) (Never t g.machine) (Never s m) (loop (condition program calls c) step body t)
          (record { goes_on = omega arith; left = omega arith; in_hand = omega arith })
          (λ c e u y. (
            behind init [],
            completed_so image function inner number ([] ∷ inner.scopes) (behind init []) (Reaches image function inner (behind init []) over) (Departs image function inner (behind init []) to) s m e u c (departs c)
                (completed_before image function init number [] inner.scopes (behind init []) (Reaches image function inner (behind init []) over) s t u m g.machine e c g.left y),
          )) (λ e d t f. f)
          (the_loop number k t g.machine g.is_in (told ∙ ap (begins_ahead (image_step image) k) at)))

  mutual
    unfolding stmt StandsStmt

    pub stmt_follows : (a : Stmt Check) (around : Surroundings) (now : List ℕ) (from to : ℕ) → StandsStmt image function around now a from to → Stated image function around now (behind a now) (stmt program calls a) from to
    stmt_follows empty around now from to st = stated_so image function program calls default around now now (stmt program calls empty) from to (simple_follows image function program calls default around now empty from to refl st)
    stmt_follows (expression e) around now from to st = stated_so image function program calls default around now now (stmt program calls (expression e)) from to (simple_follows image function program calls default around now (expression e) from to refl st)
    stmt_follows (variable_declaration slot (scalar type) (value a)) around now from to st =
        stated_so image function program calls default around now (slot ∷ now) (stmt program calls (variable_declaration slot (scalar type) (value a))) from to
        (simple_follows image function program calls default around now (variable_declaration slot (scalar type) (value a)) from to refl st)
    stmt_follows (variable_declaration slot (pointer t) (value a)) around now from to st =
        stated_so image function program calls default around now (slot ∷ now) (stmt program calls (variable_declaration slot (pointer t) (value a))) from to
        (simple_follows image function program calls default around now (variable_declaration slot (pointer t) (value a)) from to refl st)
    stmt_follows (reference_declaration slot e) around now from to st =
        stated_so image function program calls default around now now (stmt program calls (reference_declaration slot e)) from to (simple_follows image function program calls default around now (reference_declaration slot e) from to refl st)
    stmt_follows (block b) around now from to st = block_follows image function program calls default around now (stmts program calls b) from to (stmts_follows b (inside around now) [] from to st)
    stmt_follows (if_else c a b) around now from to st =
        choice_follows image function around now program calls c (stmt program calls a) (stmt program calls b) from st.2 st.3 st.4 to st.5 st.7
        (undeclared_stated around now a (stmt program calls a) st.2 st.3 st.0 (stmt_follows a around now st.2 st.3 st.6)) (undeclared_stated around now b (stmt program calls b) st.4 to st.1 (stmt_follows b around now st.4 to st.8))
    stmt_follows (while_loop c body) around now from to st =
        while_follows around now c (stmt program calls body) from st.1 st.2 st.3 to st.4 st.5
        (undeclared_stated (in_loop around to st.3) now body (stmt program calls body) st.2 st.3 st.0 (stmt_follows body (in_loop around to st.3) now st.2 st.3 st.6)) st.7
    stmt_follows (for_loop first c step body) around now from to st =
        block_follows image function program calls default around now (either (stmt program calls first) (λ _. loop (condition program calls c) (stmt program calls step) (stmt program calls body)) throws) from to
        (for_follows (inside around now) first c (stmt program calls first) (stmt program calls step) (stmt program calls body) from st.4 st.5 st.6 st.7 st.8 st.9 to
        (simple_follows image function program calls default (inside around now) [] first from st.4 st.0 st.10) st.11 st.12
        (undeclared_stated (in_loop (inside around now) st.9 st.7) (behind first []) body (stmt program calls body) st.6 st.7 st.3 (stmt_follows body (in_loop (inside around now) st.9 st.7) (behind first []) st.6 st.7 st.13))
        (subst (λ after. GoesOnTo image function program calls default (inside around now) (behind first []) after (stmt program calls step) st.7 st.8) (undeclared image function step (behind first []) st.2)
        (simple_follows image function program calls default (inside around now) (behind first []) step st.7 st.8 st.1 st.14))
        st.15 st.16)
    stmt_follows tree.break around now from to st = left_follows image function program calls default around now break from to refl st
    stmt_follows tree.continue around now from to st = left_follows image function program calls default around now continue from to refl st
    stmt_follows (contract_assert c predicate) around now from to st = stated_so image function program calls default around now now (stmt program calls (contract_assert c predicate)) from to (assert_follows image function program calls default around now c predicate from to st)
    stmt_follows (return_value a) around now from to st = return_follows image function program calls default around now a from st.0 st.1 to st.2 st.3 st.4
    stmt_follows (variable_declaration slot type init) around now from to st = absurd st
    stmt_follows other around now from to st = absurd st

    pub stmts_follows : (b : Stmts Check) (around : Surroundings) (now : List ℕ) (from to : ℕ) → StandsStmts image function around now b from to → AllStated image function around now (stmts program calls b) from to
    stmts_follows done around now from to st = ended_follows around now from to st
    stmts_follows (next a rest) around now from to st =
        sequence_follows around now a (stmt program calls a) (stmts program calls rest) from st.0 to (stmt_follows a around now from st.0 st.1) (stmts_follows rest around (behind a now) st.0 to st.2)
