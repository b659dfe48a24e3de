-- How long code is: a statement has few instructions for what it weighs.
use Rattle.std.proofs.Common.{◌≡◌, ℕ, zero, suc, ◌+◌, ◌-◌, ◌*◌, ◌≤◌, pos, List, [], ◌∷◌, ◌++◌, length, Option, Some, None, arith, length-append}
use Rattle.cx_code.specs.declared.code.Instruction.{Instruction}
use Rattle.cx_core.specs.declared.number.IntegerType.{IntegerType}
use Rattle.cx_core.specs.declared.number.IntegerType.TheVariants as types
use Rattle.cx_core.specs.declared.unit.Assertion.{Assertion}
use Rattle.cx_core.specs.Numbers.{times_under}
use Rattle.cx_lower.specs.Emitted.{where_listed, asserted_code}
use Rattle.std.specs.Prelude.{slice_get}
use Rattle.cx_core.specs.Words.{Semantic, Ignore, Observe, Enforce, QuickEnforce}
use Rattle.cx_core.specs.Operators.{integer_of}
use Rattle.cx_core.specs.Tree.{ObjectType, scalar, number, Expr, literal, variable, unary, binary, assign, putchar, Operand, operand, value, Check, Stmt, Stmts, expression, variable_declaration, block, if_else, while_loop, contract_assert, return_value, done, next}
use Rattle.cx_typed.specs.Weight.{operand_weight, expr_weight, stmt_weight, stmts_weight}
use Rattle.cx_lower.specs.Code.{unary_instruction, binary_instruction, swap, store, jump, jump_zero, out, discard, convert, returns, conversion_code, load_code, read_code, expr_code, operand_code, truth_code, discarded_code, violated_code, verdict_code, evaluation_code, times_code, check_code, ends_code, live_behind, stmt_code, stmts_code, stmt_most, stmts_most, exit_of, exit_code, body_code}
use Rattle.cx_lower.proofs.Placed.{length_ends}
use Rattle.cx_lower.proofs.ExpressionFlows.{some_weight}

-- ---- codes that are joined

length_evaluation : (semantic : Semantic) (start i : ℕ) (predicate : Operand) → length (evaluation_code semantic start i predicate) ≡ 3 + length (truth_code predicate) + length (violated_code semantic i)
length_evaluation semantic start i predicate = omega (arith, length-append (truth_code predicate) (verdict_code semantic (start + 1 + length (truth_code predicate)) i))

length_if : (c a b : List Instruction) (to over : ℕ) → length (c ++ jump_zero to ∷ (a ++ jump over ∷ b)) ≡ length c + length a + length b + 2
length_if c a b to over = omega (arith, length-append c (jump_zero to ∷ (a ++ jump over ∷ b)), length-append a (jump over ∷ b))

length_while : (c a : List Instruction) (top to again : ℕ) → length (jump top ∷ (c ++ jump_zero to ∷ (a ++ jump again ∷ []))) ≡ length c + length a + 3
length_while c a top to again = omega (arith, length-append c (jump_zero to ∷ (a ++ jump again ∷ [])), length-append a (jump again ∷ []))

-- ---- a few for each expression and statement

short_conversion : (to : Option IntegerType) → length (conversion_code to) ≤ 1
short_conversion None = omega arith
short_conversion (Some type) = omega arith

short_load : (type : Option IntegerType) → length (load_code type) ≤ 2
short_load None = omega arith
short_load (Some types.UnsignedLongLong) = omega arith
short_load (Some type) = omega arith

short_read : (read : Option ObjectType) → length (read_code read) ≤ 2
short_read (Some (scalar s)) = short_load (integer_of s)
short_read other = omega arith

mutual
  unfolding expr_code expr_weight

  pub short_expr : (e : Expr) → length (expr_code e) + 3 ≤ 4 * expr_weight e
  short_expr (literal (number (pos n))) = omega arith
  short_expr (variable slot) = omega arith
  short_expr (unary operator type a) = omega (arith, short_operand a, length-append (operand_code a) (unary_instruction operator type ∷ []))
  short_expr (binary operator type a b) =
      let last = binary_instruction operator type ∷ [] in
      omega (arith, short_operand a, short_operand b, length-append (operand_code a) (operand_code b ++ last), length-append (operand_code b) last)
  short_expr e = omega (arith, some_weight e)

  pub short_operand : (a : Operand) → length (operand_code a) ≤ 4 * operand_weight a
  short_operand (operand read to e) =
      omega (arith, short_expr e, short_read read, short_conversion to, length-append (expr_code e) (read_code read ++ conversion_code to), length-append (read_code read) (conversion_code to))

short_discarded : (start : ℕ) (e : Operand) → length (discarded_code start e) ≤ 4 * operand_weight e + 3
unfolding expr_weight
short_discarded start (operand None None (assign a b)) = omega (arith, short_operand b, short_expr a, length-append (operand_code b) (expr_code a ++ swap ∷ store ∷ []), length-append (expr_code a) (swap ∷ store ∷ []))
short_discarded start (operand None None (putchar a)) = omega (arith, short_operand a, length-append (operand_code a) (jump (start + length (operand_code a) + 1) ∷ out ∷ discard ∷ []))
short_discarded start e = omega arith

short_truth : (a : Operand) → length (truth_code a) ≤ 4 * operand_weight a + 1
short_truth a = omega (arith, short_operand a, length-append (operand_code a) (convert types.Bool ∷ []))

short_violated : (semantic : Semantic) (index : ℕ) → length (violated_code semantic index) ≤ 2
short_violated Ignore index = omega arith
short_violated Observe index = omega arith
short_violated Enforce index = omega arith
short_violated QuickEnforce index = omega arith

short_times : (times most : ℕ) (code : List Instruction) → length code ≤ most → length (times_code times code) ≤ most
short_times zero most code le = omega arith
short_times (suc n) most code le = le

-- where the code of assertions is short
abbrev pub IsShort : {A : Type 0} → (ℕ → A → Operand → List Instruction) → Type 0
IsShort {A} asserted = (start : ℕ) (a : A) (predicate : Operand) → length (asserted start a predicate) ≤ 4 * operand_weight predicate + 6

pub short_check : (index : List ℕ → ℕ) (start : ℕ) (c : Check) (predicate : Operand) → length (check_code index start c predicate) ≤ 4 * operand_weight predicate + 6
short_check index start c predicate =
    let i = index c.assertion.name in
    short_times c.times (4 * operand_weight predicate + 6) (evaluation_code c.semantic start i predicate)
    (omega (arith, length_evaluation c.semantic start i predicate, short_truth predicate, short_violated c.semantic i))

short_listed : (o : Option Assertion) (most : ℕ) (code : List Instruction) → length code ≤ most → length (where_listed o code) ≤ most
short_listed None most code le = omega arith
short_listed (Some a) most code le = le

pub short_asserted : (semantic : Semantic) (assertions : List Assertion) → IsShort (asserted_code semantic assertions)
short_asserted semantic assertions start i predicate =
    short_listed (slice_get assertions i) (4 * operand_weight predicate + 6) _
    (short_times (times_under semantic 0) (4 * operand_weight predicate + 6) (evaluation_code semantic start i predicate)
    (omega (arith, length_evaluation semantic start i predicate, short_truth predicate, short_violated semantic i)))

more_behind : {A : Type 0} (count : ℕ) (s : Stmt A) → live_behind count s ≡ count + live_behind 0 s
more_behind count (variable_declaration slot type i) = omega arith
more_behind count s = omega arith

module _ {A : Type 0} (asserted : ℕ → A → Operand → List Instruction) (short : IsShort asserted) (exit : ℕ) where
  mutual
    unfolding stmt_code stmt_weight

    -- a variable's end counts where it is declared
    pub short_stmt : (s : Stmt A) (live start : ℕ) → length (stmt_code asserted exit live start s) + 2 * live_behind 0 s ≤ 8 * stmt_weight s
    short_stmt (expression a) live start = omega (arith, short_discarded start a)
    short_stmt (variable_declaration slot type (value a)) live start = omega (arith, short_operand a, length-append (operand_code a) (store ∷ []))
    short_stmt (variable_declaration slot type i) live start = omega arith
    short_stmt (block b) live start = omega (arith, short_stmts b live 0 start)
    short_stmt (if_else c a b) live start =
        let p = start + length (truth_code c) + 1 in
        let first = stmt_code asserted exit live p a in
        let q = p + length first + 1 in
        let second = stmt_code asserted exit live q b in
        omega (arith, short_stmt a live p, short_stmt b live q, short_truth c, length_if (truth_code c) first second q (q + length second))
    short_stmt (while_loop c body) live start =
        let p = start + 1 + length (truth_code c) + 1 in
        let first = stmt_code asserted exit live p body in
        omega (arith, short_stmt body live p, short_truth c, length_while (truth_code c) first (start + 1) (p + length first + 1) (start + 1))
    short_stmt (contract_assert c predicate) live start = omega (arith, short start c predicate)
    short_stmt (return_value a) live start = omega (arith, short_operand a, length-append (operand_code a) (jump (exit - 2 * live) ∷ []))
    short_stmt s live start = omega arith

    pub short_stmts : (b : Stmts A) (base count start : ℕ) → length (stmts_code asserted exit base count start b) ≤ 8 * stmts_weight b + 2 * count
    short_stmts done base count start = omega (arith, length_ends base count)
    short_stmts (next s rest) base count start =
        let first = stmt_code asserted exit (base + count) start s in
        let p = start + length first in
        omega (arith, short_stmt s (base + count) start, short_stmts rest base (live_behind count s) p, more_behind count s, length-append first (stmts_code asserted exit base (live_behind count s) p rest))

declared : {A : Type 0} (s : Stmt A) → live_behind 0 s ≤ stmt_weight s
unfolding stmt_weight
declared (variable_declaration slot type i) = omega arith
declared s = omega arith

mutual
  unfolding stmt_most stmt_weight

  few_stmt : {A : Type 0} (s : Stmt A) (live : ℕ) → stmt_most live s ≤ live + stmt_weight s
  few_stmt (variable_declaration slot type i) live = omega arith
  few_stmt (block b) live = omega (arith, few_stmts b live)
  few_stmt (if_else c a b) live = omega (arith, few_stmt a live, few_stmt b live)
  few_stmt (while_loop c body) live = omega (arith, few_stmt body live)
  few_stmt s live = omega arith

  -- a variable has a declaration
  pub few_stmts : {A : Type 0} (b : Stmts A) (live : ℕ) → stmts_most live b ≤ live + stmts_weight b
  few_stmts done live = omega arith
  few_stmts (next s rest) live = omega (arith, few_stmt s live, few_stmts rest (live_behind live s), more_behind live s, declared s)

-- ---- the body

pub length_body : {A : Type 0} (asserted : ℕ → A → Operand → List Instruction) (short : IsShort asserted) (b : Stmts A) → length (body_code asserted b) ≤ 10 * stmts_weight b + 3
unfolding body_code
length_body asserted short b =
    let exit = exit_of asserted b in
    let most = stmts_most 0 b in
    let code = stmts_code asserted exit 0 0 0 b in
    omega (arith, short_stmts asserted short exit b 0 0 0, few_stmts b 0, length_ends 0 most, length-append code (exit_code exit most), length-append (ends_code 0 most) (returns ∷ []))
