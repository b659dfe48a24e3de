-- How many tokens a tree has, by what it is made into: its weight, its assertions and their comments.
use Rattle.std.proofs.Common.{◌≡◌, ℕ, suc, ◌+◌, ◌*◌, ◌≤◌, ◌&&◌, true, not, List, [], ◌∷◌, ◌++◌, length, Option, Some, None, IfSome, option_map, slice_get, sum_by, All, refl, arith, length-append}
use Rattle.std.specs.List.{join_with_byte}
use Rattle.std.proofs.lemmas.List.Elements.{All-head, All-tail, All-nil, All-cons, All-append}
use Rattle.std.proofs.lemmas.List.Sums.{sum_by-append}
use Rattle.std.proofs.lemmas.Option.{IfSome_then}
use Rattle.cx_syntax.specs.declared.mark.Mark.{Mark}
use Rattle.cx_syntax.specs.declared.mark.Mark.TheVariants as M
use Rattle.cx_syntax.specs.declared.mark.Punct.{Punct}
use Rattle.cx_syntax.specs.declared.mark.Punct.TheVariants as P
use Rattle.cx_syntax.specs.declared.mark.Word.{Word}
use Rattle.cx_syntax.specs.declared.mark.Word.TheVariants as W
use Rattle.cx_syntax.specs.Tree as grammar
use Rattle.cx_syntax.specs.Tree.{Base, Local, Stars, TypeTree, asserts, block, branch, branches, call, args, one, class_base, compound, declare, empty, equals, evaluate, leaf, library_base, local, long_long, more_stmts, no_stars, no_stmts, paren, returns, star, type_tree, unsigned_int, unsigned_long_long, while_loop, word_base}
use Rattle.cx_syntax.specs.Spell.{Spots, sign, word, name, if_word, if_sign, spell_base, spell_stars, spell_type, spell_expr, spell_args, spell_stmt, spell_stmts}
use Rattle.cx_includes.specs.declared.assembled.Assembled.{Assembled}
use Rattle.cx_includes.specs.declared.assembled.Placed.{Placed}
use Rattle.cx_core.specs.declared.number.IntegerType.{IntegerType}
use Rattle.cx_core.specs.declared.number.IntegerType.TheVariants as types
use Rattle.cx_core.specs.declared.number.BinaryOperator.{BinaryOperator}
use Rattle.cx_core.specs.declared.number.UnaryOperator.{UnaryOperator}
use Rattle.cx_core.specs.declared.unit.Assertion.{Assertion}
use Rattle.cx_core.specs.Tree as core
use Rattle.cx_core.specs.Tree.{Stmt, Stmts, done, next}
use Rattle.cx_typed.specs.Weight.{expr_weight, stmt_weight, stmts_weight}
use Rattle.cx_front.specs.declared.names.Slot.{Slot}
use Rattle.cx_front.specs.Front.{Names, Typed, both, only_if, found, word_at, number_of, truth_of, variable_of, leaf_of, unary_operator, binary_operator, with_operand, with_operands, expr_in, words_in, comment_in, asserted_at, assigned, target_in, is_assign, is_putchar, argument_in, written, discarded_in, type_in, is_new, may_name, with_name, declared, initialised_in, of_type, declared_in, is_declaration, assertions_in, all_assertions_in, names_after, with_last, if_of, while_of, return_of, stmt_in, stmts_in}
use Rattle.cx_front.proofs.Options.{both_is, map_is, only_is, typed_is}

-- ---- words

-- the most bytes of a token with a space behind it
abbrev pub IsShort : List ℕ → Type 0
IsShort word = length word ≤ 1024

joined : (words : List (List ℕ)) → All IsShort words → length (join_with_byte 32 words) ≤ 1025 * length words
joined [] short = omega arith
joined (x ∷ []) short = omega (arith, All-head IsShort x [] short)
joined (x ∷ y ∷ xs) short =
    omega (arith, All-head IsShort x (y ∷ xs) short, joined (y ∷ xs) (All-tail IsShort x (y ∷ xs) short), length-append x (32 ∷ join_with_byte 32 (y ∷ xs)))

module _ (list : Assembled) (short : (i : ℕ) → IsShort (word_at list i)) where
  words_are_short : (t : grammar.Expr) → All IsShort (words_in list t)
  words_are_short (leaf i m) = All-cons IsShort (word_at list i) [] (short i) (All-nil IsShort)
  words_are_short (paren i e j) =
      All-cons IsShort (word_at list i) (words_in list e ++ word_at list j ∷ []) (short i)
      (All-append IsShort (words_in list e) (word_at list j ∷ []) (words_are_short e) (All-cons IsShort (word_at list j) [] (short j) (All-nil IsShort)))
  words_are_short (grammar.unary i p e) = All-cons IsShort (word_at list i) (words_in list e) (short i) (words_are_short e)
  words_are_short (grammar.binary i l p j r) =
      All-append IsShort (words_in list l) (word_at list j ∷ words_in list r) (words_are_short l) (All-cons IsShort (word_at list j) (words_in list r) (short j) (words_are_short r))
  words_are_short other = All-nil IsShort

-- ---- types

if_word_grows : (o : Option ℕ) (k : Word) (w : Spots) → length w ≤ length (if_word o k w)
if_word_grows None k w = omega arith
if_word_grows (Some i) k w = omega arith

if_sign_grows : (o : Option ℕ) (p : Punct) (w : Spots) → length w ≤ length (if_sign o p w)
if_sign_grows None p w = omega arith
if_sign_grows (Some i) p w = omega arith

base_grows : (b : Base) (w : Spots) → length w ≤ length (spell_base b w)
base_grows (word_base k i) w = omega arith
base_grows (unsigned_int i j) w = omega arith
base_grows (long_long i j) w = omega arith
base_grows (unsigned_long_long i j k) w = omega arith
base_grows (class_base n i) w = omega arith
base_grows (library_base i j m k l n a) w = omega arith

stars_grow : (s : Stars) (w : Spots) → length w ≤ length (spell_stars s w)
stars_grow no_stars w = omega arith
stars_grow (star s i c) w = omega (arith, stars_grow s (sign P.Star i (if_word c W.Const w)), if_word_grows c W.Const w)

pub type_grows : (t : TypeTree) (w : Spots) → length w ≤ length (spell_type t w)
type_grows (type_tree c b s r) w =
    let reference = if_sign r P.And w in
    let stars = spell_stars s reference in
    omega (arith, if_word_grows c W.Const (spell_base b stars), base_grows b stars, stars_grow s reference, if_sign_grows r P.And w)

-- ---- expressions

module _ (list : Assembled) where
  -- the tree has at least as many tokens as the expression weighs, and as words
  pub record IsSized (t : grammar.Expr) (e : Typed) : Type 0 where
    weight : (w : Spots) → expr_weight e.of + length w ≤ length (spell_expr t w)
    words : (w : Spots) → length (words_in list t) + length w ≤ length (spell_expr t w)

  number_sized : (i : ℕ) (m : Mark) (type : IntegerType) (value : Option ℕ) → IfSome (number_of type value) (IsSized (leaf i m))
  unfolding expr_weight
  number_sized i m type None = tt
  number_sized i m type (Some n) = record { weight = λ w. omega arith; words = λ w. omega arith }

  truth_sized : (i : ℕ) (m : Mark) (k : Word) → IfSome (truth_of k) (IsSized (leaf i m))
  unfolding expr_weight
  truth_sized i m W.True = record { weight = λ w. omega arith; words = λ w. omega arith }
  truth_sized i m W.False = record { weight = λ w. omega arith; words = λ w. omega arith }
  truth_sized i m other = tt

  variable_sized : (i : ℕ) (m : Mark) (o : Option Slot) → IfSome (option_map variable_of o) (IsSized (leaf i m))
  unfolding expr_weight
  variable_sized i m None = tt
  variable_sized i m (Some s) = record { weight = λ w. omega arith; words = λ w. omega arith }

  leaf_sized : (names : Names) (i : ℕ) (bytes : List ℕ) (m : Mark) → IfSome (leaf_of names bytes m) (IsSized (leaf i m))
  leaf_sized names i bytes M.Number = number_sized i M.Number types.Int _
  leaf_sized names i bytes M.Char = number_sized i M.Char types.Char _
  leaf_sized names i bytes (M.Word k) = truth_sized i (M.Word k) k
  leaf_sized names i bytes (M.Name n) = variable_sized i (M.Name n) (found n names)
  leaf_sized names i bytes other = tt

  paren_sized : (i : ℕ) (t : grammar.Expr) (j : ℕ) (e : Typed) → IsSized t e → IsSized (paren i t j) e
  paren_sized i t j e h = record {
    weight = λ w. omega (arith, h.weight (sign P.CloseParen j w));
    words = λ w. omega (arith, h.words (sign P.CloseParen j w), length-append (words_in list t) (word_at list j ∷ []));
  }

  unary_sized : (i : ℕ) (p : Punct) (t : grammar.Expr) (operator : Option UnaryOperator) (e : Option Typed) → IfSome e (IsSized t) → IfSome (both with_operand operator e) (IsSized (grammar.unary i p t))
  unfolding expr_weight
  unary_sized i p t None e h = tt
  unary_sized i p t (Some operator) None h = tt
  unary_sized i p t (Some operator) (Some e) h = record { weight = λ w. omega (arith, h.weight w); words = λ w. omega (arith, h.words w) }

  binary_sized : (i : ℕ) (l : grammar.Expr) (p : Punct) (j : ℕ) (r : grammar.Expr) (operator : Option BinaryOperator) (a b : Option Typed) → IfSome a (IsSized l) → IfSome b (IsSized r)
      → IfSome (with_operands operator a b) (IsSized (grammar.binary i l p j r))
  unfolding expr_weight
  binary_sized i l p j r None a b h k = tt
  binary_sized i l p j r (Some operator) None b h k = tt
  binary_sized i l p j r (Some operator) (Some a) None h k = tt
  binary_sized i l p j r (Some operator) (Some a) (Some b) h k = record {
    weight = λ w. omega (arith, h.weight (sign p j (spell_expr r w)), k.weight w);
    words = λ w. omega (arith, h.words (sign p j (spell_expr r w)), k.words w, length-append (words_in list l) (word_at list j ∷ words_in list r));
  }

  pub expr_sized : (names : Names) (t : grammar.Expr) → IfSome (expr_in list names t) (IsSized t)
  expr_sized names (leaf i m) = leaf_sized names i (word_at list i) m
  expr_sized names (paren i e j) = IfSome_then (expr_in list names e) (expr_sized names e) (paren_sized i e j)
  expr_sized names (grammar.unary i p e) = unary_sized i p e (unary_operator p) (expr_in list names e) (expr_sized names e)
  expr_sized names (grammar.binary i l p j r) = binary_sized i l p j r (binary_operator p) (expr_in list names l) (expr_in list names r) (expr_sized names l) (expr_sized names r)
  expr_sized names other = tt

-- ---- statements without assertions

-- the tokens of a statement without assertions are at least what it weighs
abbrev HasWeight : grammar.Stmt → Stmt ℕ → Type 0
HasWeight t s = (w : Spots) → stmt_weight s + length w ≤ length (spell_stmt t w)

weight_last : (b : Stmts ℕ) (s : Stmt ℕ) → stmts_weight (with_last b s) ≡ stmts_weight b + stmt_weight s
unfolding stmt_weight
weight_last done s = omega arith
weight_last (next a rest) s = omega (arith, weight_last rest s)

module _ (list : Assembled) where
  declared_sized : (names : Names) (type : TypeTree) (number place at semicolon : ℕ) (t : grammar.Expr) (of : IntegerType) (e : Typed) → IsSized list t e → HasWeight (declare (local type number place (equals at t)) semicolon) (declared names of e)
  unfolding stmt_weight expr_weight
  declared_sized names type number place at semicolon t of e h w =
      let rest = sign P.Semicolon semicolon w in
      omega (arith, type_grows type (name number place (sign P.Assign at (spell_expr t rest))), h.weight rest)

  initialised_sized : (names : Names) (type : TypeTree) (name name_at : ℕ) (init : grammar.Init) (semicolon : ℕ) (of : IntegerType)
      → IfSome (initialised_in list names name init of) (HasWeight (declare (local type name name_at init) semicolon))
  initialised_sized names type name name_at (equals at t) semicolon of =
      map_is (HasWeight (declare (local type name name_at (equals at t)) semicolon)) (IsSized list t) (declared names of) (expr_in list (with_name names name of) t) (expr_sized list (with_name names name of) t)
      (declared_sized names type name name_at at semicolon t of)
  initialised_sized names type name name_at other semicolon of = tt

  declaration_sized : (base : ℕ) (names : Names) (l : Local) (semicolon : ℕ) → IfSome (declared_in list base names l) (HasWeight (declare l semicolon))
  declaration_sized base names (local type name name_at init) semicolon =
      only_is (HasWeight (declare (local type name name_at init) semicolon)) (is_new base (found name names) && may_name (word_at list name_at)) (of_type (initialised_in list names name init) (type_in type))
      (λ _. typed_is (HasWeight (declare (local type name name_at init) semicolon)) (initialised_in list names name init) (type_in type) (initialised_sized names type name name_at init semicolon))

  -- the value that is assigned has at least as many tokens as it weighs, and the name one
  target_sized : (names : Names) (t : grammar.Expr) → IfSome (target_in names t) (λ _. (w : Spots) → suc (length w) ≤ length (spell_expr t w))
  target_sized names (leaf i (M.Name n)) = one_token (found n names)
    where
      one_token : (o : Option Slot) → IfSome o (λ _. (w : Spots) → suc (length w) ≤ length (spell_expr (leaf i (M.Name n)) w))
      one_token None = tt
      one_token (Some s) = λ w. omega arith
  target_sized names other = tt

  assigned_sized : (i : ℕ) (l : grammar.Expr) (p : Punct) (j : ℕ) (r : grammar.Expr) (semicolon : ℕ) (s : Slot) (e : Typed) → ((w : Spots) → suc (length w) ≤ length (spell_expr l w)) → IsSized list r e
      → HasWeight (evaluate (grammar.assign i l p j r) semicolon) (assigned s e)
  unfolding stmt_weight expr_weight
  assigned_sized i l p j r semicolon s e h k w =
      let rest = sign P.Semicolon semicolon w in
      omega (arith, h (sign p j (spell_expr r rest)), k.weight rest)

  -- the name of the function and an argument in parentheses
  called_sized : (i : ℕ) (f : grammar.Expr) (a : grammar.Args) (semicolon : ℕ) (e : Typed) → is_putchar list f ≡ true → ((w : Spots) → expr_weight e.of + suc (suc (length w)) ≤ length (spell_args a w)) → HasWeight (evaluate (call i f a) semicolon) (written e)
  unfolding stmt_weight expr_weight
  called_sized i (leaf k (M.Name n)) a semicolon e is h w = omega (arith, h (sign P.Semicolon semicolon w))
  called_sized i other a semicolon e is h w = absurd (cc)

  argument_sized : (names : Names) (a : grammar.Args) → IfSome (argument_in list names a) (λ e. (w : Spots) → expr_weight e.of + suc (suc (length w)) ≤ length (spell_args a w))
  argument_sized names (args i (one t) j) = IfSome_then (expr_in list names t) (expr_sized list names t) (λ e h w. omega (arith, h.weight (sign P.CloseParen j w)))
  argument_sized names other = tt

  discarded_sized : (names : Names) (t : grammar.Expr) (semicolon : ℕ) → IfSome (discarded_in list names t) (HasWeight (evaluate t semicolon))
  discarded_sized names (grammar.assign i l p j r) semicolon =
      only_is (HasWeight (evaluate (grammar.assign i l p j r) semicolon)) (is_assign p) (both assigned (target_in names l) (expr_in list names r))
      (λ _. both_is (HasWeight (evaluate (grammar.assign i l p j r) semicolon)) (λ _. (w : Spots) → suc (length w) ≤ length (spell_expr l w)) (IsSized list r) assigned (target_in names l) (expr_in list names r) (target_sized names l) (expr_sized list names r)
      (assigned_sized i l p j r semicolon))
  discarded_sized names (call i f a) semicolon =
      only_is (HasWeight (evaluate (call i f a) semicolon)) (is_putchar list f) (option_map written (argument_in list names a))
      (λ is. map_is (HasWeight (evaluate (call i f a) semicolon)) (λ (e : Typed). (w : Spots) → expr_weight e.of + suc (suc (length w)) ≤ length (spell_args a w)) written (argument_in list names a) (argument_sized names a) (λ e. called_sized i f a semicolon e is))
  discarded_sized names other semicolon = tt

-- ---- assertions

-- the bytes of a comment
abbrev pub comment_length : Assertion → ℕ
comment_length a = length a.comment

module _ (list : Assembled) where
  -- the tokens of a statement are at least what it weighs and its assertions, and no token gives more than 1,025 bytes of a comment
  pub record IsSizedStatement (ordinal : ℕ) (t : grammar.Stmt) (s : Stmt ℕ) : Type 0 where
    pub weight : HasWeight t s
    pub count : (w : Spots) → length (assertions_in list ordinal t) + length w ≤ length (spell_stmt t w)
    pub comments : (w : Spots) → sum_by comment_length (assertions_in list ordinal t) + 1025 * length w ≤ 1025 * length (spell_stmt t w)

  pub record AreSizedStatements (ordinal : ℕ) (b : grammar.Stmts) (ss : Stmts ℕ) : Type 0 where
    pub weight : (w : Spots) → stmts_weight ss + length w ≤ length (spell_stmts b w)
    pub count : (w : Spots) → length (all_assertions_in list ordinal b) + length w ≤ length (spell_stmts b w)
    pub comments : (w : Spots) → sum_by comment_length (all_assertions_in list ordinal b) + 1025 * length w ≤ 1025 * length (spell_stmts b w)

  plain_sized : (ordinal : ℕ) (t : grammar.Stmt) (o : Option (Stmt ℕ)) → assertions_in list ordinal t ≡ [] → IfSome o (HasWeight t) → IfSome o (IsSizedStatement ordinal t)
  plain_sized ordinal t o none h =
      IfSome_then o h (λ s weight. record {
        weight = weight;
        count = λ w. rw none (omega (arith, weight w));
        comments = λ w. rw none (omega (arith, weight w));
      })

  block_sized : (ordinal : ℕ) (i : ℕ) (b : grammar.Stmts) (j : ℕ) (ss : Stmts ℕ) → AreSizedStatements ordinal b ss → IsSizedStatement ordinal (compound (block i b j)) (core.block ss)
  unfolding stmt_weight assertions_in
  block_sized ordinal i b j ss h = record {
    weight = λ w. omega (arith, h.weight (sign P.CloseBrace j w));
    count = λ w. omega (arith, h.count (sign P.CloseBrace j w));
    comments = λ w. omega (arith, h.comments (sign P.CloseBrace j w));
  }

  if_sized : (ordinal : ℕ) (i j : ℕ) (c : grammar.Expr) (k : ℕ) (a : grammar.Stmt) (condition : Option Typed) (o : Option (Stmt ℕ)) → IfSome condition (IsSized list c) → IfSome o (IsSizedStatement ordinal a)
      → IfSome (if_of condition o (Some core.empty)) (IsSizedStatement ordinal (branch i j c k a))
  unfolding stmt_weight expr_weight assertions_in
  if_sized ordinal i j c k a None o h f = tt
  if_sized ordinal i j c k a (Some e) None h f = tt
  if_sized ordinal i j c k a (Some e) (Some s) h f = record {
    weight = λ w. omega (arith, h.weight (sign P.CloseParen k (spell_stmt a w)), f.weight w);
    count = λ w. omega (arith, h.weight (sign P.CloseParen k (spell_stmt a w)), f.count w);
    comments = λ w. omega (arith, h.weight (sign P.CloseParen k (spell_stmt a w)), f.comments w);
  }

  if_else_sized : (ordinal : ℕ) (i j : ℕ) (c : grammar.Expr) (k : ℕ) (a : grammar.Stmt) (l : ℕ) (b : grammar.Stmt) (condition : Option Typed) (o p : Option (Stmt ℕ)) → IfSome condition (IsSized list c) → IfSome o (IsSizedStatement ordinal a)
      → IfSome p (IsSizedStatement (ordinal + length (assertions_in list ordinal a)) b) → IfSome (if_of condition o p) (IsSizedStatement ordinal (branches i j c k a l b))
  unfolding stmt_weight expr_weight assertions_in
  if_else_sized ordinal i j c k a l b None o p h f g = tt
  if_else_sized ordinal i j c k a l b (Some e) None p h f g = tt
  if_else_sized ordinal i j c k a l b (Some e) (Some s) None h f g = tt
  if_else_sized ordinal i j c k a l b (Some e) (Some s) (Some t) h f g =
      let first = assertions_in list ordinal a in
      let second = assertions_in list (ordinal + length (assertions_in list ordinal a)) b in
      record {
        weight = λ w.
            let other = word W.Else l (spell_stmt b w) in
            omega (arith, h.weight (sign P.CloseParen k (spell_stmt a other)), f.weight other, g.weight w);
        count = λ w.
            let other = word W.Else l (spell_stmt b w) in
            omega (arith, h.weight (sign P.CloseParen k (spell_stmt a other)), f.count other, g.count w, length-append first second);
        comments = λ w.
            let other = word W.Else l (spell_stmt b w) in
            omega (arith, h.weight (sign P.CloseParen k (spell_stmt a other)), f.comments other, g.comments w, sum_by-append comment_length first second);
      }

  while_sized : (ordinal : ℕ) (i j : ℕ) (c : grammar.Expr) (k : ℕ) (body : grammar.Stmt) (e : Typed) (s : Stmt ℕ) → IsSized list c e → IsSizedStatement ordinal body s → IsSizedStatement ordinal (while_loop i j c k body) (while_of e s)
  unfolding stmt_weight expr_weight assertions_in
  while_sized ordinal i j c k body e s h f = record {
    weight = λ w. omega (arith, h.weight (sign P.CloseParen k (spell_stmt body w)), f.weight w);
    count = λ w. omega (arith, h.weight (sign P.CloseParen k (spell_stmt body w)), f.count w);
    comments = λ w. omega (arith, h.weight (sign P.CloseParen k (spell_stmt body w)), f.comments w);
  }

  return_sized : (ordinal : ℕ) (i : ℕ) (t : grammar.Expr) (j : ℕ) (e : Typed) → IsSized list t e → HasWeight (returns i (Some t) j) (return_of e)
  unfolding stmt_weight expr_weight
  return_sized ordinal i t j e h w = omega (arith, h.weight (sign P.Semicolon j w))

  more_sized : (ordinal : ℕ) (b : grammar.Stmts) (t : grammar.Stmt) (ss : Stmts ℕ) (s : Stmt ℕ) → AreSizedStatements ordinal b ss → IsSizedStatement (ordinal + length (all_assertions_in list ordinal b)) t s → AreSizedStatements ordinal (more_stmts b t) (with_last ss s)
  unfolding assertions_in
  more_sized ordinal b t ss s h k =
      let first = all_assertions_in list ordinal b in
      let second = assertions_in list (ordinal + length (all_assertions_in list ordinal b)) t in
      record {
        weight = λ w. omega (arith, h.weight (spell_stmt t w), k.weight w, weight_last ss s);
        count = λ w. omega (arith, h.count (spell_stmt t w), k.count w, length-append first second);
        comments = λ w. omega (arith, h.comments (spell_stmt t w), k.comments w, sum_by-append comment_length first second);
      }

  module _ (short : (i : ℕ) → IsShort (word_at list i)) where
    comment_sized : (t : grammar.Expr) (e : Typed) (w : Spots) → IsSized list t e → length (comment_in list t) + 1025 * length w ≤ 1025 * length (spell_expr t w)
    comment_sized t e w h = omega (arith, joined (words_in list t) (words_are_short list short t), h.words w)

    assert_sized : (ordinal : ℕ) (i j : ℕ) (t : grammar.Expr) (k l : ℕ) (word : Option Placed) (e : Option Typed) → slice_get list.placed i ≡ word → IfSome e (IsSized list t)
        → IfSome (both (asserted_at ordinal) word e) (IsSizedStatement ordinal (asserts i j t k l))
    unfolding stmt_weight expr_weight assertions_in
    assert_sized ordinal i j t k l None e is h = tt
    assert_sized ordinal i j t k l (Some word) None is h = tt
    assert_sized ordinal i j t k l (Some word) (Some e) is h = record {
      weight = λ w. omega (arith, h.weight (sign P.CloseParen k (sign P.Semicolon l w)));
      count = λ w. rw is (omega (arith, h.weight (sign P.CloseParen k (sign P.Semicolon l w))));
      comments = λ w. rw is (omega (arith, comment_sized t e (sign P.CloseParen k (sign P.Semicolon l w)) h));
    }

    branch_sized : (ordinal : ℕ) (t : grammar.Stmt) (o : Option (Stmt ℕ)) → IfSome o (IsSizedStatement ordinal t) → IfSome (only_if (not (is_declaration t)) o) (IsSizedStatement ordinal t)
    branch_sized ordinal t o h = only_is (IsSizedStatement ordinal t) (not (is_declaration t)) o (λ _. h)

    mutual
      unfolding stmt_in assertions_in stmt_weight

      pub stmt_sized : (ordinal base : ℕ) (names : Names) (t : grammar.Stmt) → IfSome (stmt_in list ordinal base names t) (IsSizedStatement ordinal t)
      stmt_sized ordinal base names (empty i) = plain_sized ordinal (empty i) (Some core.empty) refl (λ w. omega arith)
      stmt_sized ordinal base names (compound (block i b j)) =
          map_is (IsSizedStatement ordinal (compound (block i b j))) (AreSizedStatements ordinal b) core.block (stmts_in list ordinal (length names) names b) (stmts_sized ordinal (length names) names b) (block_sized ordinal i b j)
      stmt_sized ordinal base names (evaluate e i) = plain_sized ordinal (evaluate e i) (discarded_in list names e) refl (discarded_sized list names e i)
      stmt_sized ordinal base names (declare l i) = plain_sized ordinal (declare l i) (declared_in list base names l) refl (declaration_sized list base names l i)
      stmt_sized ordinal base names (branch i j c k a) =
          let inner = stmt_in list ordinal (length names) names a in
          if_sized ordinal i j c k a (expr_in list names c) (only_if (not (is_declaration a)) inner) (expr_sized list names c) (branch_sized ordinal a inner (stmt_sized ordinal (length names) names a))
      stmt_sized ordinal base names (branches i j c k a l b) =
          let later = ordinal + length (assertions_in list ordinal a) in
          let first = stmt_in list ordinal (length names) names a in
          let second = stmt_in list later (length names) names b in
          if_else_sized ordinal i j c k a l b (expr_in list names c) (only_if (not (is_declaration a)) first) (only_if (not (is_declaration b)) second) (expr_sized list names c)
          (branch_sized ordinal a first (stmt_sized ordinal (length names) names a)) (branch_sized later b second (stmt_sized later (length names) names b))
      stmt_sized ordinal base names (while_loop i j c k body) =
          let inner = stmt_in list ordinal (length names) names body in
          both_is (IsSizedStatement ordinal (while_loop i j c k body)) (IsSized list c) (IsSizedStatement ordinal body) while_of (expr_in list names c) (only_if (not (is_declaration body)) inner)
          (expr_sized list names c) (branch_sized ordinal body inner (stmt_sized ordinal (length names) names body)) (while_sized ordinal i j c k body)
      stmt_sized ordinal base names (returns i (Some e) j) =
          plain_sized ordinal (returns i (Some e) j) (option_map return_of (expr_in list names e)) refl
          (map_is (HasWeight (returns i (Some e) j)) (IsSized list e) return_of (expr_in list names e) (expr_sized list names e) (return_sized ordinal i e j))
      stmt_sized ordinal base names (asserts i j e k l) = assert_sized ordinal i j e k l (slice_get list.placed i) (expr_in list names e) refl (expr_sized list names e)
      stmt_sized ordinal base names other = tt

      pub stmts_sized : (ordinal base : ℕ) (names : Names) (b : grammar.Stmts) → IfSome (stmts_in list ordinal base names b) (AreSizedStatements ordinal b)
      stmts_sized ordinal base names no_stmts = record { weight = λ w. omega arith; count = λ w. omega arith; comments = λ w. omega arith }
      stmts_sized ordinal base names (more_stmts b s) =
          let later = ordinal + length (all_assertions_in list ordinal b) in
          both_is (AreSizedStatements ordinal (more_stmts b s)) (AreSizedStatements ordinal b) (IsSizedStatement later s) with_last (stmts_in list ordinal base names b) (stmt_in list later base (names_after names b) s)
          (stmts_sized ordinal base names b) (stmt_sized later base (names_after names b) s) (more_sized ordinal b s)
