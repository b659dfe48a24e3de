-- An `if` or a loop while its code is emitted: what has been put so far fits, and in the end it is the statement's code.
use Rattle.std.proofs.Common.{◌≡◌, ℕ, ◌+◌, ◌*◌, ◌^◌, ◌<◌, ◌≤◌, [], ◌∷◌, ◌++◌, length, ap, ◌∙◌, arith}
use Rattle.std.specs.Prelude.{Box}
use Rattle.std.proofs.Math.ListN.{set}
use Rattle.std.specs.declared.alloc.Global.{Global}
use Rattle.cx_core.specs.declared.expression.Operand.{Operand}
use Rattle.cx_core.specs.declared.statement.Statement.{Statement}
use Rattle.cx_core.specs.declared.statement.Statement.TheVariants as statements
use Rattle.cx_lower.specs.declared.emitter.Emitter.{Emitter}
use Rattle.cx_lower.specs.Code.{jump, jump_zero, stmt_code}
use Rattle.cx_core.specs.View.{stmt_of}
use Rattle.cx_lower.specs.Literals.{StmtFits}
use Rattle.cx_lower.specs.Emitted.{code_of_truth, code_of_statement, asserted_by}
use Rattle.cx_lower.proofs.Joined.{Code, branch_code, loop_code, then_place, else_place, body_place, length_branch, length_loop, length_opened, length_put, length_turned, length_begun, branch_closed, loop_closed}
use Rattle.cx_lower.proofs.Opened.{opened-if, opened-while}

module _ (e : Emitter) (live : ℕ) (s : Statement) (old : Code) where
  abbrev HasRoom : Type 0
  HasRoom = length old + length (code_of_statement e live (length old) s) + 2 * live ≤ 2 ^ 24

  module _ (c : Operand) (a b : Box Statement Global) (is : s ≡ statements.If c a b) where
    abbrev then_at : ℕ → Code
    then_at place = code_of_statement e live place a.value

    abbrev else_at : ℕ → Code
    else_at place = code_of_statement e live place b.value

    if_is : code_of_statement e live (length old) s ≡ branch_code (length old) (code_of_truth c) then_at else_at
    unfolding stmt_code
    if_is = ap (code_of_statement e live (length old)) is ∙ ap (stmt_code (asserted_by e) e.exit live (length old)) (opened-if c a b)

    pub else_literals : StmtFits (stmt_of s) → StmtFits (stmt_of b.value)
    unfolding StmtFits
    else_literals fits = let parts = rw (is, opened-if c a b) at fits in parts.2

    module _ (opened first : Code) (opened_is : opened ≡ old ++ (code_of_truth c ++ jump_zero 0 ∷ [])) (first_is : first ≡ opened ++ code_of_statement e live (length opened) a.value) where
      first_length : length first + 1 ≡ else_place (length old) (code_of_truth c) then_at
      first_length = omega (arith, length_put opened first then_at (then_place (length old) (code_of_truth c)) (length_opened old opened (code_of_truth c) opened_is) first_is)

      pub first_fits : HasRoom → length first < 2 ^ 24
      first_fits room = omega (arith, room, ap length if_is, length_branch (length old) (code_of_truth c) then_at else_at, first_length)

      module _ (turned : Code) (over : ℕ) (turned_is : turned ≡ set (first ++ jump 0 ∷ []) over (jump_zero (length first + 1))) where
        turned_length : length turned ≡ else_place (length old) (code_of_truth c) then_at
        turned_length = omega (arith, length_turned first turned (jump 0) (jump_zero (length first + 1)) over turned_is, first_length)

        pub else_fits : HasRoom → length turned + length (code_of_statement e live (length turned) b.value) + 2 * live ≤ 2 ^ 24
        else_fits room =
            omega (arith, room, ap length if_is, length_branch (length old) (code_of_truth c) then_at else_at, turned_length, ap (λ (p : ℕ). length (else_at p)) turned_length)

        module _ (second : Code) (second_is : second ≡ turned ++ code_of_statement e live (length turned) b.value) where
          pub second_fits : HasRoom → length second ≤ 2 ^ 24
          second_fits room =
              omega (arith, room, ap length if_is, length_branch (length old) (code_of_truth c) then_at else_at, length_put turned second else_at (else_place (length old) (code_of_truth c) then_at) turned_length second_is)

          pub if_emitted : (closed : Code) (past : ℕ) → over ≡ length old + length (code_of_truth c) → past ≡ length first → closed ≡ set second past (jump (length second))
              → closed ≡ old ++ code_of_statement e live (length old) s
          if_emitted closed past over_is past_is closed_is =
              rw if_is (branch_closed old opened first turned second closed (code_of_truth c) then_at else_at over past over_is opened_is first_is past_is turned_is second_is closed_is)

  module _ (c : Operand) (body : Box Statement Global) (is : s ≡ statements.While c body) where
    abbrev body_at : ℕ → Code
    body_at place = code_of_statement e live place body.value

    while_is : code_of_statement e live (length old) s ≡ loop_code (length old) (code_of_truth c) body_at
    unfolding stmt_code
    while_is = ap (code_of_statement e live (length old)) is ∙ ap (stmt_code (asserted_by e) e.exit live (length old)) (opened-while c body)

    pub body_literals : StmtFits (stmt_of s) → StmtFits (stmt_of body.value)
    unfolding StmtFits
    body_literals fits = let parts = rw (is, opened-while c body) at fits in parts.1

    pub loop_fits : HasRoom → length old < 2 ^ 24
    loop_fits room = omega (arith, room, ap length while_is, length_loop (length old) (code_of_truth c) body_at)

    module _ (begun : Code) (begun_is : begun ≡ old ++ jump (length old + 1) ∷ []) where
      pub condition_fits : HasRoom → length begun + length (code_of_truth c) ≤ 2 ^ 24
      condition_fits room =
          omega (arith, room, ap length while_is, length_loop (length old) (code_of_truth c) body_at, length_begun old begun (jump (length old + 1)) begun_is)

      module _ (opened : Code) (opened_is : opened ≡ begun ++ (code_of_truth c ++ jump_zero 0 ∷ [])) where
        opened_length : length opened ≡ body_place (length old) (code_of_truth c)
        opened_length = omega (arith, length_opened begun opened (code_of_truth c) opened_is, length_begun old begun (jump (length old + 1)) begun_is)

        pub body_fits : HasRoom → length opened + length (code_of_statement e live (length opened) body.value) + 2 * live ≤ 2 ^ 24
        body_fits room =
            omega (arith, room, ap length while_is, length_loop (length old) (code_of_truth c) body_at, opened_length, ap (λ (p : ℕ). length (body_at p)) opened_length)

        module _ (put : Code) (put_is : put ≡ opened ++ code_of_statement e live (length opened) body.value) where
          pub put_fits : HasRoom → length put < 2 ^ 24
          put_fits room =
              omega (arith, room, ap length while_is, length_loop (length old) (code_of_truth c) body_at, length_put opened put body_at (body_place (length old) (code_of_truth c)) opened_length put_is)

          pub while_emitted : (closed : Code) (turn over : ℕ) → turn ≡ length old + 1 → over ≡ length begun + length (code_of_truth c) → closed ≡ set (put ++ jump turn ∷ []) over (jump_zero (length put + 1))
              → closed ≡ old ++ code_of_statement e live (length old) s
          while_emitted closed turn over turn_is over_is closed_is =
              rw while_is (loop_closed old begun opened put closed (code_of_truth c) body_at turn over turn_is begun_is over_is opened_is put_is closed_is)
