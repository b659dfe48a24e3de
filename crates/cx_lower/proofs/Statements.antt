-- Where the code of typed statements stands, it stands for them.
use Rattle.std.proofs.Common.{◌≡◌, ℕ, ◌+◌, ◌-◌, ◌*◌, ◌≤◌, List, [], ◌∷◌, ◌++◌, length, Some, inr, refl, sym, ap, subst, ◌∙◌, arith, length-append}
use Rattle.cx_code.specs.declared.image.Image.{Image}
use Rattle.cx_code.specs.declared.operation.Operation.TheVariants as does
use Rattle.cx_core.specs.declared.number.IntegerType.TheVariants as types
use Rattle.cx_core.specs.declared.unit.Assertion.{Assertion}
use Rattle.cx_core.specs.Operators.{integer_of}
use Rattle.cx_core.specs.Tree as tree
use Rattle.cx_core.specs.Tree.{scalar, Operand, value, Stmt, Stmts, empty, expression, variable_declaration, block, if_else, while_loop, contract_assert, return_value, done, next, Check}
use Rattle.cx_emit.specs.Checks.{IsAssertion, GoesOn}
use Rattle.cx_emit.specs.Scopes.{Surroundings, inside, in_loop, slot_count, StandsEnds, StandsExit}
use Rattle.cx_emit.specs.Statements.{behind, StandsStmt, StandsStmts}
use Rattle.cx_typed.specs.Typed.{Slots, IsListed, IsTyped, AreTyped, seen_behind, IsTypedWith}
use Rattle.cx_lower.specs.Code.{jump, jump_zero, store, operand_code, truth_code, ends_code, live_behind, stmt_code, stmts_code, stmt_most, stmts_most, check_code}
use Rattle.cx_lower.proofs.Operations.{make_is, get_is, store_is, jump_is, jump_zero_is}
use Rattle.cx_lower.proofs.Parts.{HasCode, front, back}
use Rattle.cx_lower.proofs.Typing.{declared, live_more, seen_length}
use Rattle.cx_lower.proofs.Placed.{length_ends}
use Rattle.cx_lower.proofs.Scopes.{segment, AreSegments, is_unused, ends_stand, earlier, exit_stands}
use Rattle.cx_lower.proofs.Expressions.{operand_stands, truth_stands, discarded_stands, check_stands}

-- a declaration takes the next slot of its scope
behind_segment : (assertions : List Assertion) (slots : Slots) (base count : ℕ) (s : Stmt Check) → base + count ≡ length slots → IsTyped assertions slots s → segment base (live_behind count s) ≡ behind s (segment base count)
unfolding IsTypedWith
behind_segment assertions slots base count (variable_declaration slot (scalar s) (value a)) is typed =
    let d = declared slots slot (integer_of s) a typed in
    let e : base + count ≡ slot = omega (arith, is, d.2) in
    ap (λ (k : ℕ). k ∷ segment base count) e
behind_segment assertions slots base count (variable_declaration slot type i) is typed = absurd typed
behind_segment assertions slots base count s is typed = refl

-- the objects in `most` slots end before the exit
module _ (image : Image) (function : ℕ) (assertions : List Assertion) (index : List ℕ → ℕ) (exit most : ℕ)
    (listed : (a : tree.Assertion) → IsListed assertions a → IsAssertion image (index a.name) a) (enough : most ≤ slot_count image function)
    (fits : 2 * most ≤ exit) (ends : HasCode image function (exit - 2 * most) (ends_code 0 most)) where
  -- a `return` enters where those that are live end
  leaving : (live : ℕ) → live ≤ most → HasCode image function (exit - 2 * live) (ends_code 0 live)
  leaving live few =
      let all : most ≡ live + (most - live) = omega arith in
      let place : exit - 2 * most + 2 * (most - live) ≡ exit - 2 * live = omega (arith, fits) in
      subst (λ (k : ℕ). HasCode image function k (ends_code 0 live)) place (earlier image function live (most - live) (exit - 2 * most) (subst (λ (k : ℕ). HasCode image function (exit - 2 * most) (ends_code 0 k)) all ends))

  exit_from : (scopes : List (List ℕ)) (live to : ℕ) → live ≤ most → AreSegments live scopes → to ≡ exit → StandsExit image function (length scopes) scopes (exit - 2 * live) to
  exit_from scopes live to few are is =
      let e : exit - 2 * live + 2 * live ≡ to = omega (arith, fits) in
      subst (λ (k : ℕ). StandsExit image function (length scopes) scopes (exit - 2 * live) k) e (exit_stands image function scopes live (exit - 2 * live) are (leaving live few))

  mutual
    unfolding StandsStmt stmt_code stmt_most IsTypedWith

    pub stmt_stands : (slots : Slots) (around : Surroundings) (now : List ℕ) (live from : ℕ) (s : Stmt Check) → live ≡ length slots → AreSegments live (now ∷ around.scopes) → around.exit ≡ exit → IsTyped assertions slots s → stmt_most live s ≤ most
        → HasCode image function from (stmt_code (check_code index) exit live from s) → StandsStmt image function around now s from (from + length (stmt_code (check_code index) exit live from s))
    stmt_stands slots around now live from empty is are leaves typed few h = omega arith
    stmt_stands slots around now live from (expression a) is are leaves typed few h = discarded_stands image function slots a from typed h
    stmt_stands slots around now live from (variable_declaration slot (scalar s) (value a)) is are leaves typed few h =
        let d = declared slots slot (integer_of s) a typed in
        let last = store ∷ [] in
        let placed = from + 1 + 1 in
        let valued = placed + length (operand_code a) in
        record {
          is_unused = is_unused slot live (now ∷ around.scopes) (omega (arith, d.2)) are;
          is_slot = omega (arith, d.2, enough);
          made = from + 1;
          placed = placed;
          valued = valued;
          makes = record { here = h.0 ∙ make_is slot; next = refl };
          gets = record { here = h.1.0 ∙ get_is slot; next = refl };
          stands = operand_stands image function (slots ++ d.0 ∷ []) a d.0 placed d.3 (front image function placed (operand_code a) last h.1.1);
          stores = record { here = (back image function placed (operand_code a) last h.1.1).0 ∙ store_is; next = omega (arith, length-append (operand_code a) last) };
        }
    stmt_stands slots around now live from (block b) is are leaves typed few h =
        stmts_stands slots (inside around now) live 0 from b (omega arith) are leaves typed (subst (λ (k : ℕ). stmts_most k b ≤ most) {x = live} (omega arith) few) h
    stmt_stands slots around now live from (if_else c a b) is are leaves typed few h =
        let p = from + length (truth_code c) in
        let then_start = p + 1 in
        let then_code = stmt_code (check_code index) exit live then_start a in
        let q = then_start + length then_code in
        let else_start = q + 1 in
        let else_code = stmt_code (check_code index) exit live else_start b in
        let end = else_start + length else_code in
        let behind_then = jump end ∷ else_code in
        let rest = jump_zero else_start ∷ (then_code ++ behind_then) in
        let to = from + length (truth_code c ++ rest) in
        let same : end ≡ to = omega (arith, length-append (truth_code c) rest, length-append then_code behind_then) in
        let first = back image function from (truth_code c) rest h in
        let second = back image function then_start then_code behind_then first.1 in
        let else_stands = stmt_stands slots around now live else_start b is are leaves typed.4 (omega arith) second.1 in (
          typed.1,
          typed.3,
          then_start,
          q,
          else_start,
          (p, truth_stands image function slots c from typed.0 (front image function from (truth_code c) rest h), record { here = first.0 ∙ jump_zero_is else_start; next = refl }),
          stmt_stands slots around now live then_start a is are leaves typed.2 (omega arith) (front image function then_start then_code behind_then first.1),
          subst (λ (k : ℕ). GoesOn image function q k) same (inr (second.0 ∙ jump_is end)),
          subst (λ (k : ℕ). StandsStmt image function around now b else_start k) same else_stands,
        )
    stmt_stands slots around now live from (while_loop c body) is are leaves typed few h =
        let top = from + 1 in
        let p = top + length (truth_code c) in
        let body_start = p + 1 in
        let body_code = stmt_code (check_code index) exit live body_start body in
        let q = body_start + length body_code in
        let last = jump top ∷ [] in
        let rest = jump_zero (q + 1) ∷ (body_code ++ last) in
        let to = from + length (stmt_code (check_code index) exit live from (while_loop c body)) in
        let same : q + 1 ≡ to = omega (arith, length-append (truth_code c) rest, length-append body_code last) in
        let first = back image function top (truth_code c) rest h.1 in
        let second = back image function body_start body_code last first.1 in
        let leaves_loop = first.0 ∙ jump_zero_is (q + 1) ∙ ap (λ (k : ℕ). Some (does.JumpZero k)) same in (
          typed.1,
          top,
          body_start,
          q,
          h.0 ∙ jump_is top,
          (p, truth_stands image function slots c top typed.0 (front image function top (truth_code c) rest h.1), record { here = leaves_loop; next = refl }),
          stmt_stands slots (in_loop around to q) now live body_start body is are leaves typed.2 few (front image function body_start body_code last first.1),
          second.0 ∙ jump_is top,
        )
    stmt_stands slots around now live from (contract_assert c predicate) is are leaves typed few h = check_stands image function slots c predicate (index c.assertion.name) from typed.0.0 (listed c.assertion typed.0.1) typed.1 h
    stmt_stands slots around now live from (return_value a) is are leaves typed few h =
        let p = from + length (operand_code a) in
        let q = exit - 2 * live in
        let last = jump q ∷ [] in (
          p,
          q,
          operand_stands image function slots a types.Int from typed (front image function from (operand_code a) last h),
          inr ((back image function from (operand_code a) last h).0 ∙ jump_is q),
          exit_from (now ∷ around.scopes) live around.exit few are leaves,
        )
    stmt_stands slots around now live from (variable_declaration slot type i) is are leaves typed few h = absurd typed
    stmt_stands slots around now live from s is are leaves typed few h = absurd typed

    -- the innermost scope has declared so many variables so far
    pub stmts_stands : (slots : Slots) (around : Surroundings) (base count from : ℕ) (b : Stmts Check) → base + count ≡ length slots → AreSegments base around.scopes → around.exit ≡ exit → AreTyped assertions slots b → stmts_most (base + count) b ≤ most
        → HasCode image function from (stmts_code (check_code index) exit base count from b) → StandsStmts image function around (segment base count) b from (from + length (stmts_code (check_code index) exit base count from b))
    stmts_stands slots around base count from done is are leaves typed few h =
        let to : from + 2 * count ≡ from + length (ends_code base count) = omega (arith, length_ends base count) in
        subst (λ (k : ℕ). StandsEnds image function (segment base count) from k) to (ends_stand image function base count from h)
    stmts_stands slots around base count from (next s rest) is are leaves typed few h =
        let code = stmt_code (check_code index) exit (base + count) from s in
        let more_count = live_behind count s in
        let p = from + length code in
        let code_behind = stmts_code (check_code index) exit base more_count p rest in
        let more = live_more base count s in
        let below : stmts_most (live_behind (base + count) s) rest ≤ most = omega arith in
        let visible : base + more_count ≡ length (seen_behind slots s) = omega (arith, more, seen_length assertions slots (base + count) s is typed.0) in
        let to : p + length code_behind ≡ from + length (code ++ code_behind) = omega (arith, length-append code code_behind) in
        let rest_stands = stmts_stands (seen_behind slots s) around base more_count p rest visible are leaves typed.1 (subst (λ (k : ℕ). stmts_most k rest ≤ most) (sym more) below) (back image function from code code_behind h) in
        let moved = subst (λ (k : ℕ). StandsStmts image function around (segment base more_count) rest p k) to rest_stands in (
          p,
          stmt_stands slots around (segment base count) (base + count) from s is (base, count, refl, refl, are) leaves typed.0 (omega arith) (front image function from code code_behind h),
          subst (λ (now : List ℕ). StandsStmts image function around now rest p (from + length (code ++ code_behind))) (behind_segment assertions slots base count s is typed.0) moved,
        )
