-- The length of code doesn't depend on its place and on the place that it exits to.
use Rattle.std.proofs.Common.{◌≡◌, ℕ, zero, suc, ◌+◌, ◌-◌, ◌*◌, List, [], ◌∷◌, ◌++◌, length, None, refl, arith, length-append}
use Rattle.cx_core.specs.Words.{Semantic}
use Rattle.cx_core.specs.Tree.{putchar, Operand, operand, value, Stmt, Stmts, expression, variable_declaration, block, if_else, while_loop, contract_assert, return_value, done, next, Check}
use Rattle.cx_lower.specs.Code.{jump, jump_zero, out, discard, operand_code, truth_code, discarded_code, verdict_code, evaluation_code, times_code, ends_code, live_behind, stmt_code, stmts_code, check_code}

pub length_ends : (base count : ℕ) → length (ends_code base count) ≡ 2 * count
unfolding ends_code
length_ends base zero = refl
length_ends base (suc k) = omega (arith, length_ends base k)

same_discarded_length : (start other : ℕ) (e : Operand) → length (discarded_code start e) ≡ length (discarded_code other e)
same_discarded_length start other (operand None None (putchar a)) =
    let first = jump (start + length (operand_code a) + 1) ∷ out ∷ discard ∷ [] in
    let second = jump (other + length (operand_code a) + 1) ∷ out ∷ discard ∷ [] in
    omega (arith, length-append (operand_code a) first, length-append (operand_code a) second)
same_discarded_length start other e = refl

same_times_length : (times : ℕ) (semantic : Semantic) (start other index : ℕ) (a : Operand) → length (times_code times (evaluation_code semantic start index a)) ≡ length (times_code times (evaluation_code semantic other index a))
same_times_length zero semantic start other index a = refl
same_times_length (suc k) semantic start other index a =
    let first = verdict_code semantic (start + 1 + length (truth_code a)) index in
    let second = verdict_code semantic (other + 1 + length (truth_code a)) index in
    omega (arith, length-append (truth_code a) first, length-append (truth_code a) second)

module _ (index : List ℕ → ℕ) (exit leave : ℕ) where
  mutual
    unfolding stmt_code

    pub same_stmt_length : (live start other : ℕ) (s : Stmt Check) → length (stmt_code (check_code index) exit live start s) ≡ length (stmt_code (check_code index) leave live other s)
    same_stmt_length live start other (expression e) = same_discarded_length start other e
    same_stmt_length live start other (block b) = same_stmts_length live 0 start other b
    same_stmt_length live start other (if_else c a b) =
        let then_start = start + length (truth_code c) + 1 in
        let then_code = stmt_code (check_code index) exit live then_start a in
        let else_start = then_start + length then_code + 1 in
        let else_code = stmt_code (check_code index) exit live else_start b in
        let behind = jump (else_start + length else_code) ∷ else_code in
        let then_other = other + length (truth_code c) + 1 in
        let then_code' = stmt_code (check_code index) leave live then_other a in
        let else_other = then_other + length then_code' + 1 in
        let else_code' = stmt_code (check_code index) leave live else_other b in
        let behind' = jump (else_other + length else_code') ∷ else_code' in
        omega (
          arith,
          same_stmt_length live then_start then_other a,
          same_stmt_length live else_start else_other b,
          length-append (truth_code c) (jump_zero else_start ∷ (then_code ++ behind)),
          length-append (truth_code c) (jump_zero else_other ∷ (then_code' ++ behind')),
          length-append then_code behind,
          length-append then_code' behind',
        )
    same_stmt_length live start other (while_loop c body) =
        let body_start = start + 1 + length (truth_code c) + 1 in
        let body_code = stmt_code (check_code index) exit live body_start body in
        let body_other = other + 1 + length (truth_code c) + 1 in
        let body_code' = stmt_code (check_code index) leave live body_other body in
        omega (
          arith,
          same_stmt_length live body_start body_other body,
          length-append (truth_code c) (jump_zero (body_start + length body_code + 1) ∷ (body_code ++ jump (start + 1) ∷ [])),
          length-append (truth_code c) (jump_zero (body_other + length body_code' + 1) ∷ (body_code' ++ jump (other + 1) ∷ [])),
          length-append body_code (jump (start + 1) ∷ []),
          length-append body_code' (jump (other + 1) ∷ []),
        )
    same_stmt_length live start other (contract_assert c predicate) = same_times_length c.times c.semantic start other (index c.assertion.name) predicate
    same_stmt_length live start other (return_value a) = omega (arith, length-append (operand_code a) (jump (exit - 2 * live) ∷ []), length-append (operand_code a) (jump (leave - 2 * live) ∷ []))
    same_stmt_length live start other (variable_declaration slot type (value a)) = refl
    same_stmt_length live start other s = refl

    pub same_stmts_length : (base count start other : ℕ) (b : Stmts Check) → length (stmts_code (check_code index) exit base count start b) ≡ length (stmts_code (check_code index) leave base count other b)
    same_stmts_length base count start other done = refl
    same_stmts_length base count start other (next s rest) =
        let code = stmt_code (check_code index) exit (base + count) start s in
        let code' = stmt_code (check_code index) leave (base + count) other s in
        omega (
          arith,
          same_stmt_length (base + count) start other s,
          same_stmts_length base (live_behind count s) (start + length code) (other + length code') rest,
          length-append code (stmts_code (check_code index) exit base (live_behind count s) (start + length code) rest),
          length-append code' (stmts_code (check_code index) leave base (live_behind count s) (other + length code') rest),
        )
