-- The statements that are built are typed.
use Rattle.std.proofs.Common.{◌≡◌, option_map, ℕ, ◌+◌, ◌≤◌, ◌&&◌, Bool, true, false, not, List, [], ◌∷◌, ◌++◌, length, Option, Some, None, IfSome, slice_get, refl, sym, ap, ◌∙◌, subst, arith, length-append}
use Rattle.std.proofs.lemmas.Bool.{not-true, true≢false}
use Rattle.std.proofs.lemmas.List.{length-map, map-append}
use Rattle.std.proofs.lemmas.Option.{IfSome_then}
use Rattle.cx_syntax.specs.Tree as grammar
use Rattle.cx_syntax.specs.Tree.{Local, TypeTree, asserts, block, branch, branches, call, args, one, compound, declare, empty, equals, evaluate, leaf, local, more_stmts, no_stmts, returns, while_loop}
use Rattle.cx_syntax.specs.declared.mark.Mark.TheVariants as M
use Rattle.cx_includes.specs.declared.assembled.Assembled.{Assembled}
use Rattle.cx_includes.specs.declared.assembled.Placed.{Placed}
use Rattle.cx_core.specs.declared.number.IntegerType.{IntegerType}
use Rattle.cx_core.specs.declared.number.IntegerType.TheVariants as types
use Rattle.cx_core.specs.declared.unit.Assertion.{Assertion}
use Rattle.cx_core.specs.Tree as core
use Rattle.cx_core.specs.Tree.{Operand, Stmt, Stmts, done, next}
use Rattle.cx_typed.specs.Typed.{Slots, Gives, IsCondition, IsIndex, IsTypedDeclaration, IsTypedWith, AreTypedIn, with_slot, seen_behind}
use Rattle.cx_front.specs.declared.names.Variable.{Variable}
use Rattle.cx_front.specs.declared.names.Slot.{Slot}
use Rattle.cx_front.specs.Front.{Names, Typed, both, only_if, found, as_type, as_condition, expr_in, asserted_at, assigned, target_in, is_assign, is_putchar, argument_in, written, discarded_in, type_in, is_new, may_name, word_at, with_name, declared, initialised_in, of_type, declared_in, with_typed_name, names_behind, is_declaration, entries, assertions_in, all_assertions_in, names_after, with_last, if_of, while_of, return_of, stmt_in, stmts_in}
use Rattle.cx_front.proofs.Options.{both_is, map_is, only_is}
use Rattle.cx_front.proofs.Expressions.{slots_of, IsTypedAs, IsSlot, found_is, integer_is, gives_type, is_condition, expr_is}

-- ---- the last statement of a block

-- what is seen behind statements
pub seen_after : Slots → Stmts ℕ → Slots
seen_after slots done = slots
seen_after slots (next s rest) = seen_after (seen_behind slots s) rest

seen_last : (slots : Slots) (b : Stmts ℕ) (s : Stmt ℕ) → seen_after slots (with_last b s) ≡ seen_behind (seen_after slots b) s
unfolding seen_after
seen_last slots done s = refl
seen_last slots (next a rest) s = seen_last (seen_behind slots a) rest s

last_is_typed : (table : List Assertion) (slots : Slots) (b : Stmts ℕ) (s : Stmt ℕ) → AreTypedIn table slots b → IsTypedWith (IsIndex table) (seen_after slots b) s → AreTypedIn table slots (with_last b s)
unfolding seen_after IsTypedWith
last_is_typed table slots done s h k = (k, tt)
last_is_typed table slots (next a rest) s h k = (h.0, last_is_typed table (seen_behind slots a) rest s h.1 k)

-- ---- declarations

-- the slots behind a declaration
slots_with : (names : Names) (name : ℕ) (type : IntegerType) → slots_of (with_name names name type) ≡ slots_of names ++ type ∷ []
slots_with names name type = map-append (λ (v : Variable). v.of) names (record { name = name; of = type } ∷ [])

abbrev pub is_variable : Stmt ℕ → Bool
is_variable (core.variable_declaration slot type init) = true
is_variable other = false

-- what is known of a statement without assertions of its own
record IsPlain (slots : Slots) (behind : Slots) (declaration : Bool) (s : Stmt ℕ) : Type 0 where
  typed : (table : List Assertion) → IsTypedWith (IsIndex table) slots s
  seen : seen_behind slots s ≡ behind
  scope : is_variable s ≡ declaration

declared_is : (names : Names) (name : ℕ) (type : IntegerType) (e : Typed) → IsTypedAs (slots_of (with_name names name type)) e
    → IsPlain (slots_of names) (slots_of (with_name names name type)) true (declared names type e)
unfolding IsTypedWith
declared_is names name type e h =
    let gives = subst (λ (slots : Slots). Gives slots (as_type type e) type) (slots_with names name type) (gives_type (slots_of (with_name names name type)) type e h) in
    record {
      typed = λ table. subst (λ (o : Option IntegerType). IsTypedDeclaration (slots_of names) (length names) o (as_type type e)) (sym (integer_is type)) (sym (length-map names (λ (v : Variable). v.of)), gives);
      seen = ap (with_slot (slots_of names)) (integer_is type) ∙ sym (slots_with names name type);
      scope = refl;
    }

initialised_is : (list : Assembled) (names : Names) (name : ℕ) (init : grammar.Init) (type : IntegerType)
    → IfSome (initialised_in list names name init type) (IsPlain (slots_of names) (slots_of (with_name names name type)) true)
initialised_is list names name (equals i e) type =
    map_is (IsPlain (slots_of names) (slots_of (with_name names name type)) true) (IsTypedAs (slots_of (with_name names name type))) (declared names type) (expr_in list (with_name names name type) e) (expr_is list (with_name names name type) e)
    (declared_is names name type)
initialised_is list names name other type = tt

of_type_is : (list : Assembled) (names : Names) (name : ℕ) (init : grammar.Init) (type : Option IntegerType)
    → IfSome (of_type (initialised_in list names name init) type) (IsPlain (slots_of names) (slots_of (with_typed_name names name type)) true)
of_type_is list names name init None = tt
of_type_is list names name init (Some type) = initialised_is list names name init type

declared_in_is : (list : Assembled) (base : ℕ) (names : Names) (l : Local) (semicolon : ℕ) → IfSome (declared_in list base names l) (IsPlain (slots_of names) (slots_of (names_behind names (declare l semicolon))) true)
declared_in_is list base names (local type name i init) semicolon =
    only_is (IsPlain (slots_of names) (slots_of (with_typed_name names name (type_in type))) true) (is_new base (found name names) && may_name (word_at list i)) (of_type (initialised_in list names name init) (type_in type))
    (λ _. of_type_is list names name init (type_in type))

-- ---- discarded values

target_is : (names : Names) (t : grammar.Expr) → IfSome (target_in names t) (IsSlot names)
target_is names (leaf i (M.Name n)) = found_is names n
target_is names other = tt

argument_is : (list : Assembled) (names : Names) (a : grammar.Args) → IfSome (argument_in list names a) (IsTypedAs (slots_of names))
argument_is list names (args i (one e) j) = expr_is list names e
argument_is list names other = tt

assigned_is : (names : Names) (s : Slot) (e : Typed) → IsSlot names s → IsTypedAs (slots_of names) e → IsPlain (slots_of names) (slots_of names) false (assigned s e)
unfolding IsTypedWith
assigned_is names s e h k = record { typed = λ table. (s.of, h, gives_type (slots_of names) s.of e k); seen = refl; scope = refl }

written_is : (slots : Slots) (e : Typed) → IsTypedAs slots e → IsPlain slots slots false (written e)
unfolding IsTypedWith
written_is slots e h = record { typed = λ table. gives_type slots types.Int e h; seen = refl; scope = refl }

discarded_is : (list : Assembled) (names : Names) (t : grammar.Expr) → IfSome (discarded_in list names t) (IsPlain (slots_of names) (slots_of names) false)
discarded_is list names (grammar.assign i l p j r) =
    only_is (IsPlain (slots_of names) (slots_of names) false) (is_assign p) (both assigned (target_in names l) (expr_in list names r))
    (λ _. both_is (IsPlain (slots_of names) (slots_of names) false) (IsSlot names) (IsTypedAs (slots_of names)) assigned (target_in names l) (expr_in list names r) (target_is names l) (expr_is list names r) (assigned_is names))
discarded_is list names (call i f a) =
    only_is (IsPlain (slots_of names) (slots_of names) false) (is_putchar list f) (option_map written (argument_in list names a))
    (λ _. map_is (IsPlain (slots_of names) (slots_of names) false) (IsTypedAs (slots_of names)) written (argument_in list names a) (argument_is list names a) (written_is (slots_of names)))
discarded_is list names other = tt

-- ---- statements

-- the table has room for these assertions, from the ordinal on
pub record HasRoom (table : List Assertion) (ordinal : ℕ) (es : List Assertion) : Type 0 where
  pub counted : 1 ≤ ordinal
  pub within : ordinal + length es ≤ length table + 1

asserted_is : (table : List Assertion) (names : Names) (ordinal : ℕ) (word : Placed) (e : Typed) → 1 ≤ ordinal → ordinal ≤ length table → IsTypedAs (slots_of names) e
    → IsTypedWith (IsIndex table) (slots_of names) (asserted_at ordinal word e)
unfolding IsTypedWith
asserted_is table names ordinal word e counted within h = (omega (arith, counted, within), is_condition (slots_of names) e h)

module _ (table : List Assertion) (slots : Slots) where
  loop_is : (c : Operand) (body : Stmt ℕ) → is_variable body ≡ false → IsCondition slots c → IsTypedWith (IsIndex table) slots body → IsTypedWith (IsIndex table) slots (core.while_loop c body)
  unfolding IsTypedWith
  loop_is c (core.variable_declaration slot type init) none h k = absurd (true≢false none)
  loop_is c other none h k = (h, refl, k)

  choice_is : (c : Operand) (a b : Stmt ℕ) → is_variable a ≡ false → is_variable b ≡ false → IsCondition slots c → IsTypedWith (IsIndex table) slots a → IsTypedWith (IsIndex table) slots b → IsTypedWith (IsIndex table) slots (core.if_else c a b)
  unfolding IsTypedWith
  choice_is c a b no_a no_b h f g = (h, (loop_is c a no_a h f).1, f, (loop_is c b no_b h g).1, g)

module _ (list : Assembled) (table : List Assertion) where
  -- what is known of the statement that a tree is, where the first assertion has the ordinal
  pub record IsStatement (names : Names) (ordinal : ℕ) (t : grammar.Stmt) (s : Stmt ℕ) : Type 0 where
    pub typed : HasRoom table ordinal (assertions_in list ordinal t) → IsTypedWith (IsIndex table) (slots_of names) s
    pub seen : seen_behind (slots_of names) s ≡ slots_of (names_behind names t)
    pub scope : is_variable s ≡ is_declaration t

  pub record AreStatements (names : Names) (ordinal : ℕ) (b : grammar.Stmts) (ss : Stmts ℕ) : Type 0 where
    pub typed : HasRoom table ordinal (all_assertions_in list ordinal b) → AreTypedIn table (slots_of names) ss
    pub seen : seen_after (slots_of names) ss ≡ slots_of (names_after names b)

  plain_is : (names : Names) (ordinal : ℕ) (t : grammar.Stmt) (o : Option (Stmt ℕ)) → IfSome o (IsPlain (slots_of names) (slots_of (names_behind names t)) (is_declaration t)) → IfSome o (IsStatement names ordinal t)
  plain_is names ordinal t o h = IfSome_then o h (λ s h. record { typed = λ _. h.typed table; seen = h.seen; scope = h.scope })

  -- what isn't a declaration may be a branch
  branch_is : (names : Names) (ordinal : ℕ) (t : grammar.Stmt) (o : Option (Stmt ℕ)) → IfSome o (IsStatement names ordinal t) → IfSome (only_if (not (is_declaration t)) o) (λ s. IsStatement names ordinal t s × (is_variable s ≡ false))
  branch_is names ordinal t o h =
      only_is (λ s. IsStatement names ordinal t s × (is_variable s ≡ false)) (not (is_declaration t)) o (λ e. IfSome_then o h (λ s h. (h, h.scope ∙ not-true (is_declaration t) e)))

  block_is : (names : Names) (ordinal : ℕ) (i : ℕ) (b : grammar.Stmts) (j : ℕ) (ss : Stmts ℕ) → AreStatements names ordinal b ss → IsStatement names ordinal (compound (block i b j)) (core.block ss)
  unfolding IsTypedWith assertions_in
  block_is names ordinal i b j ss h = record { typed = h.typed; seen = refl; scope = refl }

  if_is : (names : Names) (ordinal : ℕ) (i j : ℕ) (c : grammar.Expr) (k : ℕ) (a : grammar.Stmt) (condition : Option Typed) (o : Option (Stmt ℕ)) → IfSome condition (IsTypedAs (slots_of names))
      → IfSome o (λ s. IsStatement names ordinal a s × (is_variable s ≡ false)) → IfSome (if_of condition o (Some core.empty)) (IsStatement names ordinal (branch i j c k a))
  unfolding IsTypedWith assertions_in
  if_is names ordinal i j c k a None o h f = tt
  if_is names ordinal i j c k a (Some condition) None h f = tt
  if_is names ordinal i j c k a (Some condition) (Some s) h f = record {
    typed = λ room. choice_is table (slots_of names) (as_condition condition) s core.empty f.1 refl (is_condition (slots_of names) condition h) (f.0.typed room) tt;
    seen = refl;
    scope = refl;
  }

  if_else_is : (names : Names) (ordinal : ℕ) (i j : ℕ) (c : grammar.Expr) (k : ℕ) (a : grammar.Stmt) (l : ℕ) (b : grammar.Stmt) (condition : Option Typed) (o p : Option (Stmt ℕ)) → IfSome condition (IsTypedAs (slots_of names))
      → IfSome o (λ s. IsStatement names ordinal a s × (is_variable s ≡ false)) → IfSome p (λ s. IsStatement names (ordinal + length (assertions_in list ordinal a)) b s × (is_variable s ≡ false))
      → IfSome (if_of condition o p) (IsStatement names ordinal (branches i j c k a l b))
  unfolding IsTypedWith assertions_in
  if_else_is names ordinal i j c k a l b None o p h f g = tt
  if_else_is names ordinal i j c k a l b (Some condition) None p h f g = tt
  if_else_is names ordinal i j c k a l b (Some condition) (Some s) None h f g = tt
  if_else_is names ordinal i j c k a l b (Some condition) (Some s) (Some t) h f g = record {
    typed = λ room.
        let first = assertions_in list ordinal a in
        let second = assertions_in list (ordinal + length (assertions_in list ordinal a)) b in
        choice_is table (slots_of names) (as_condition condition) s t f.1 g.1 (is_condition (slots_of names) condition h)
        (f.0.typed (record { counted = room.counted; within = omega (arith, room.within, length-append first second) }))
        (g.0.typed (record { counted = omega (arith, room.counted); within = omega (arith, room.within, length-append first second) }));
    seen = refl;
    scope = refl;
  }

  while_is : (names : Names) (ordinal : ℕ) (i j : ℕ) (c : grammar.Expr) (k : ℕ) (body : grammar.Stmt) (condition : Typed) (s : Stmt ℕ) → IsTypedAs (slots_of names) condition → IsStatement names ordinal body s × (is_variable s ≡ false)
      → IsStatement names ordinal (while_loop i j c k body) (while_of condition s)
  unfolding assertions_in
  while_is names ordinal i j c k body condition s h f = record {
    typed = λ room. loop_is table (slots_of names) (as_condition condition) s f.1 (is_condition (slots_of names) condition h) (f.0.typed room);
    seen = refl;
    scope = refl;
  }

  return_is : (names : Names) (ordinal : ℕ) (i : ℕ) (t : grammar.Expr) (j : ℕ) (e : Typed) → IsTypedAs (slots_of names) e → IsStatement names ordinal (returns i (Some t) j) (return_of e)
  unfolding IsTypedWith
  return_is names ordinal i t j e h = record { typed = λ _. gives_type (slots_of names) types.Int e h; seen = refl; scope = refl }

  assert_is : (names : Names) (ordinal : ℕ) (i j : ℕ) (t : grammar.Expr) (k l : ℕ) (word : Option Placed) (e : Option Typed) → slice_get list.placed i ≡ word → IfSome e (IsTypedAs (slots_of names))
      → IfSome (both (asserted_at ordinal) word e) (IsStatement names ordinal (asserts i j t k l))
  unfolding assertions_in
  assert_is names ordinal i j t k l None e is h = tt
  assert_is names ordinal i j t k l (Some word) None is h = tt
  assert_is names ordinal i j t k l (Some word) (Some e) is h = record {
    typed = λ room.
        let one : length (entries list ordinal t (slice_get list.placed i)) ≡ 1 = ap (λ (o : Option Placed). length (entries list ordinal t o)) is in
        asserted_is table names ordinal word e room.counted (omega (arith, room.within, one)) h;
    seen = refl;
    scope = refl;
  }

  more_is : (names : Names) (ordinal : ℕ) (b : grammar.Stmts) (t : grammar.Stmt) (ss : Stmts ℕ) (s : Stmt ℕ) → AreStatements names ordinal b ss → IsStatement (names_after names b) (ordinal + length (all_assertions_in list ordinal b)) t s
      → AreStatements names ordinal (more_stmts b t) (with_last ss s)
  unfolding assertions_in
  more_is names ordinal b t ss s h k =
      let first = all_assertions_in list ordinal b in
      let second = assertions_in list (ordinal + length (all_assertions_in list ordinal b)) t in
      record {
        typed = λ room.
            last_is_typed table (slots_of names) ss s (h.typed (record { counted = room.counted; within = omega (arith, room.within, length-append first second) }))
            (subst (λ (slots : Slots). IsTypedWith (IsIndex table) slots s) (sym h.seen) (k.typed (record { counted = omega (arith, room.counted); within = omega (arith, room.within, length-append first second) })));
        seen = seen_last (slots_of names) ss s ∙ ap (λ (slots : Slots). seen_behind slots s) h.seen ∙ k.seen;
      }

  mutual
    unfolding stmt_in IsTypedWith seen_after

    pub stmt_is : (ordinal base : ℕ) (names : Names) (t : grammar.Stmt) → IfSome (stmt_in list ordinal base names t) (IsStatement names ordinal t)
    stmt_is ordinal base names (empty i) = record { typed = λ _. tt; seen = refl; scope = refl }
    stmt_is ordinal base names (compound (block i b j)) =
        map_is (IsStatement names ordinal (compound (block i b j))) (AreStatements names ordinal b) core.block (stmts_in list ordinal (length names) names b) (stmts_are ordinal (length names) names b) (block_is names ordinal i b j)
    stmt_is ordinal base names (evaluate e i) = plain_is names ordinal (evaluate e i) (discarded_in list names e) (discarded_is list names e)
    stmt_is ordinal base names (declare l i) = plain_is names ordinal (declare l i) (declared_in list base names l) (declared_in_is list base names l i)
    stmt_is ordinal base names (branch i j c k a) =
        if_is names ordinal i j c k a (expr_in list names c) (only_if (not (is_declaration a)) (stmt_in list ordinal (length names) names a)) (expr_is list names c)
        (branch_is names ordinal a (stmt_in list ordinal (length names) names a) (stmt_is ordinal (length names) names a))
    stmt_is ordinal base names (branches i j c k a l b) =
        let later = ordinal + length (assertions_in list ordinal a) in
        if_else_is names ordinal i j c k a l b (expr_in list names c) (only_if (not (is_declaration a)) (stmt_in list ordinal (length names) names a)) (only_if (not (is_declaration b)) (stmt_in list later (length names) names b)) (expr_is list names c)
        (branch_is names ordinal a (stmt_in list ordinal (length names) names a) (stmt_is ordinal (length names) names a))
        (branch_is names later b (stmt_in list later (length names) names b) (stmt_is later (length names) names b))
    stmt_is ordinal base names (while_loop i j c k body) =
        both_is (IsStatement names ordinal (while_loop i j c k body)) (IsTypedAs (slots_of names)) (λ s. IsStatement names ordinal body s × (is_variable s ≡ false)) while_of
        (expr_in list names c) (only_if (not (is_declaration body)) (stmt_in list ordinal (length names) names body)) (expr_is list names c)
        (branch_is names ordinal body (stmt_in list ordinal (length names) names body) (stmt_is ordinal (length names) names body)) (while_is names ordinal i j c k body)
    stmt_is ordinal base names (returns i (Some e) j) = map_is (IsStatement names ordinal (returns i (Some e) j)) (IsTypedAs (slots_of names)) return_of (expr_in list names e) (expr_is list names e) (return_is names ordinal i e j)
    stmt_is ordinal base names (asserts i j e k l) = assert_is names ordinal i j e k l (slice_get list.placed i) (expr_in list names e) refl (expr_is list names e)
    stmt_is ordinal base names other = tt

    pub stmts_are : (ordinal base : ℕ) (names : Names) (b : grammar.Stmts) → IfSome (stmts_in list ordinal base names b) (AreStatements names ordinal b)
    stmts_are ordinal base names no_stmts = record { typed = λ _. tt; seen = refl }
    stmts_are ordinal base names (more_stmts b s) =
        both_is (AreStatements names ordinal (more_stmts b s)) (AreStatements names ordinal b) (IsStatement (names_after names b) (ordinal + length (all_assertions_in list ordinal b)) s) with_last
        (stmts_in list ordinal base names b) (stmt_in list (ordinal + length (all_assertions_in list ordinal b)) base (names_after names b) s)
        (stmts_are ordinal base names b) (stmt_is (ordinal + length (all_assertions_in list ordinal b)) base (names_after names b) s) (more_is names ordinal b s)
