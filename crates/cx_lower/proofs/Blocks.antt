-- The code of a block, one statement at a time.
use Rattle.std.proofs.Common.{◌≡◌, ℕ, ◌+◌, ◌*◌, ◌^◌, ◌<◌, ◌≤◌, max, List, ◌∷◌, ◌++◌, length, get_or, drop, refl, sym, ap, subst, ◌∙◌, arith, append_assoc, length-append}
use Rattle.std.proofs.lemmas.List.{drop_more, drop_all}
use Rattle.cx_code.specs.declared.code.Instruction.{Instruction}
use Rattle.cx_core.specs.declared.statement.Statement.{Statement}
use Rattle.cx_core.specs.View.{stmt_of, stmts_of}
use Rattle.cx_core.specs.Tree.{Operand, Stmt, Stmts, variable_declaration, done, next}
use Rattle.cx_lower.specs.declared.emitter.Emitter.{Emitter}
use Rattle.cx_lower.specs.Code.{live_behind, stmt_code, stmts_code, ends_code, stmt_most, stmts_most}
use Rattle.cx_lower.specs.Literals.{StmtFits, StmtsFit}
use Rattle.cx_lower.specs.Emitted.{code_of_statement, code_of_statements, asserted_by}
use Rattle.cx_lower.proofs.Joined.{Code}
use Rattle.cx_lower.proofs.Placed.{length_ends}

no_fewer : {A : Type 0} (count : ℕ) (s : Stmt A) → count ≤ live_behind count s
no_fewer count (variable_declaration slot type i) = omega arith
no_fewer count s = omega arith

module _ {A : Type 0} (asserted : ℕ → A → Operand → List Instruction) (exit : ℕ) where
  -- the ends of the variables are among it
  ends_fit : (b : Stmts A) (base count start : ℕ) → 2 * count ≤ length (stmts_code asserted exit base count start b)
  unfolding stmts_code
  ends_fit done base count start = omega (arith, length_ends base count)
  ends_fit (next s rest) base count start =
      let first = stmt_code asserted exit (base + count) start s in
      let place = start + length first in
      omega (arith, no_fewer count s, ends_fit rest base (live_behind count s) place, length-append first (stmts_code asserted exit base (live_behind count s) place rest))

  next_code : (code : Code) (base count : ℕ) (s : Stmt A) (rest : Stmts A)
      → let first = stmt_code asserted exit (base + count) (length code) s in
      code ++ stmts_code asserted exit base count (length code) (next s rest) ≡ (code ++ first) ++ stmts_code asserted exit base (live_behind count s) (length (code ++ first)) rest
  unfolding stmts_code
  next_code code base count s rest =
      let first = stmt_code asserted exit (base + count) (length code) s in
      rw (length-append code first) (sym (append_assoc code first (stmts_code asserted exit base (live_behind count s) (length code + length first) rest)))

  done_code : (base count start : ℕ) → stmts_code asserted exit base count start done ≡ ends_code base count
  unfolding stmts_code
  done_code base count start = refl

-- the statements from an index on
dropped : (b : List Statement) (i : ℕ) (s : Statement) → i < length b → s ≡ get_or b i s → stmts_of (drop i b) ≡ next (stmt_of s) (stmts_of (drop (i + 1) b))
dropped b i s within is = ap stmts_of (drop_more b i s within ∙ ap (λ (x : Statement). x ∷ drop (i + 1) b) (sym is))

pub next_literals : (b : List Statement) (i : ℕ) (s : Statement) → i < length b → s ≡ get_or b i s → StmtsFit (stmts_of (drop i b)) → StmtFits (stmt_of s) × StmtsFit (stmts_of (drop (i + 1) b))
unfolding StmtsFit
next_literals b i s within is fits = subst StmtsFit (dropped b i s within is) fits

-- `code` is what has been put of the block behind `old`, before the statement at an index
module _ (e : Emitter) (old code : Code) (base count i : ℕ) (b : List Statement)
    (so_far : code ++ code_of_statements e base count (length code) (drop i b) ≡ old ++ code_of_statements e base 0 (length old) b)
    (room : length old + length (code_of_statements e base 0 (length old) b) + 2 * base ≤ 2 ^ 24) where
  whole : length code + length (code_of_statements e base count (length code) (drop i b)) + 2 * base ≤ 2 ^ 24
  whole =
      omega (arith, room, ap length so_far, length-append code (code_of_statements e base count (length code) (drop i b)), length-append old (code_of_statements e base 0 (length old) b))

  pub live_fits : 2 * (base + count) ≤ 2 ^ 24
  live_fits = omega (arith, whole, ends_fit (asserted_by e) e.exit (stmts_of (drop i b)) base count (length code))

  module _ (s : Statement) (within : i < length b) (is : s ≡ get_or b i s) where
    step : code ++ code_of_statements e base count (length code) (drop i b)
        ≡ (code ++ code_of_statement e (base + count) (length code) s) ++ code_of_statements e base (live_behind count (stmt_of s)) (length (code ++ code_of_statement e (base + count) (length code) s)) (drop (i + 1) b)
    step =
        ap (λ (x : Stmts ℕ). code ++ stmts_code (asserted_by e) e.exit base count (length code) x) (dropped b i s within is)
        ∙ next_code (asserted_by e) e.exit code base count (stmt_of s) (stmts_of (drop (i + 1) b))

    pub statement_fits : length code + length (code_of_statement e (base + count) (length code) s) + 2 * (base + count) ≤ 2 ^ 24
    statement_fits =
        let first = code_of_statement e (base + count) (length code) s in
        let behind = live_behind count (stmt_of s) in
        omega (
          arith,
          whole,
          ap length step,
          length-append code (code_of_statements e base count (length code) (drop i b)),
          length-append (code ++ first) (code_of_statements e base behind (length (code ++ first)) (drop (i + 1) b)),
          length-append code first,
          ends_fit (asserted_by e) e.exit (stmts_of (drop (i + 1) b)) base behind (length (code ++ first)),
          no_fewer count (stmt_of s),
        )

    pub one_more : (put : Code) (behind : ℕ) → put ≡ code ++ code_of_statement e (base + count) (length code) s → behind ≡ live_behind count (stmt_of s)
        → put ++ code_of_statements e base behind (length put) (drop (i + 1) b) ≡ old ++ code_of_statements e base 0 (length old) b
    one_more put behind put_is behind_is = rw (put_is, behind_is) (sym step ∙ so_far)

  pub all_put : length b ≤ i → code ++ ends_code base count ≡ old ++ code_of_statements e base 0 (length old) b
  all_put past =
      ap (λ (w : Code). code ++ w) (sym (done_code (asserted_by e) e.exit base count (length code)))
      ∙ ap (λ (x : List Statement). code ++ code_of_statements e base count (length code) x) (sym (drop_all i b past))
      ∙ so_far

-- ---- the most variables

pub visible_counted : {A : Type 0} (b : Stmts A) (live : ℕ) → live ≤ stmts_most live b
unfolding stmts_most
visible_counted done live = omega arith
visible_counted (next s rest) live = omega (arith, no_fewer live s, visible_counted rest (live_behind live s))

pub next_most : (live i : ℕ) (b : List Statement) (s : Statement) → i < length b → s ≡ get_or b i s
    → stmts_most live (stmts_of (drop i b)) ≡ max (stmt_most live (stmt_of s)) (stmts_most (live_behind live (stmt_of s)) (stmts_of (drop (i + 1) b)))
unfolding stmts_most
next_most live i b s within is = ap (stmts_most live) (dropped b i s within is)

pub most_so_far : (most first rest all more total : ℕ) → all ≡ max first rest → max most all ≡ total → more ≡ max most first → max more rest ≡ total
most_so_far most first rest all more total all_is so_far more_is = omega (arith, all_is, so_far, more_is)
