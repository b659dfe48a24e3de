-- The machine reads each shaped statement.
use Rattle.std.proofs.Common.{◌≡◌, ℕ, ◌≤◌, true, false, eqb, List, [], ◌∷◌, Option, Some, None, refl, sym, ◌∙◌, ap, subst, inl, inr}
use Rattle.cx_syntax.specs.declared.mark.Punct.{Punct}
use Rattle.cx_syntax.specs.declared.mark.Punct.TheVariants as P
use Rattle.cx_syntax.specs.declared.mark.Word.TheVariants as W
use Rattle.cx_syntax.specs.declared.mark.Mark.{Mark}
use Rattle.cx_syntax.specs.declared.mark.Mark.TheVariants as M
use Rattle.cx_table.specs.declared.symbol.Act.TheVariants.{DoLocal, DoEvaluate, DoDeclare, DoNoStmts, DoOneHandler, DoUnnamed}
use Rattle.cx_table.specs.declared.symbol.Kind.TheVariants.{AName}
use Rattle.cx_table.specs.declared.symbol.Part.TheVariants.{Assign, LocalPart, InitPart, SimplePart, StmtPart, BlockPart, StmtsPart, HandlerPart, HandlersTail, CatchPart, ParamPart, OptName}
use Rattle.cx_table.specs.declared.symbol.Symbol.{Symbol}
use Rattle.cx_table.specs.declared.symbol.Symbol.TheVariants.{Expect, Make, Read}
use Rattle.cx_parser.proofs.Entries.{From, follows, freely_begins, standard_run}
use Rattle.cx_parser.proofs.Expressions.{cond_run, expr_opens, first, front_first, optional_run, several, whole}
use Rattle.cx_parser.proofs.Facts.{Opens, base_facts, free_facts}
use Rattle.cx_parser.proofs.Runs.{Takes, by_step, done, steps, thus}
use Rattle.cx_parser.proofs.Types.{Parts, rest_run, type_run}
use Rattle.cx_parser.specs.Machine.{Config, ahead, config, front, left_as, moved, next}
use Rattle.cx_values.specs.Values.{Values, block_val, catching_val, handler_val, handlers_val, init_val, name_val, param_val, stmt_val, stmts_val, type_val}
use Rattle.cx_syntax.specs.Shaped.{ShapedBlock, ShapedCatching, ShapedFree, ShapedHandler, ShapedHandlers, ShapedInit, ShapedLocal, ShapedParam, ShapedStmt, ShapedStmts, ShapedType, contracts_name, is_named, is_open, is_simple, star_count}
use Rattle.cx_syntax.specs.Spell.{Spots, if_expr, name, sign, spell_block, spell_catching, spell_expr, spell_handler, spell_handlers, spell_init, spell_optional_name, spell_param, spell_stmt, spell_stmts, spell_type, word}
use Rattle.cx_syntax.specs.Tree.{Block, Catching, Expr, Handler, Handlers, Init, OptionalName, Param, Stars, Stmt, Stmts, TypeTree, any_catch, asserts, assign, binary, block, branch, branches, breaks, call, choose, class_base, compound, continues, declare, empty, equals, evaluate, for_loop, handler, library_base, local, long_long, member, more_handlers, more_stmts, named, no_init, no_stmts, one_handler, param, parens, returns, standard, stepped, throws, tries, type_tree, typed_catch, unnamed, unsigned_int, unsigned_long_long, while_loop, word_base}
use Rattle.cx_table.specs.Moves.{name_move, push, s, stmt_move}
use Rattle.cx_table.specs.Sorts.{is_free, is_mark, is_word, loose}

pub init_run : (a : Init) → ShapedInit a → (ks : List Symbol) (vs : Values) (w : Spots) → front w ≡ Some (M.Punct P.Semicolon) → Takes (config (Read InitPart ∷ ks) vs (spell_init a w)) (config ks (init_val a ∷ vs) w)
init_run no_init h ks vs w q = steps 1 (rw q (steps 1 (done _)))
init_run (equals i e) h ks vs w q = steps 1 (thus (whole e h _ _ w (ap loose q)) (steps 1 (done _)))
init_run (parens i l j) h ks vs w q = steps 1 (thus (several l h _ _ (sign P.CloseParen j w) refl) (steps 3 (done _)))

local_end : (t : TypeTree) (n i : ℕ) (a : Init) (j : ℕ) → ShapedInit a → (ks : List Symbol) (vs : Values) (w : Spots) → Takes (config (Expect AName ∷ Read InitPart ∷ Make DoLocal ∷ s P.Semicolon ∷ Make DoDeclare ∷ ks) (type_val t ∷ vs) (name n i (spell_init a (sign P.Semicolon j w)))) (config ks (stmt_val (declare (local t n i a) j) ∷ vs) w)
local_end t n i a j h ks vs w = steps 1 (thus (init_run a h _ _ (sign P.Semicolon j w) refl) (steps 3 (done _)))

local_run : (t : TypeTree) (n i : ℕ) (a : Init) (j : ℕ) → ShapedLocal (local t n i a) → (ks : List Symbol) (vs : Values) (w : Spots) → Takes (config (Read LocalPart ∷ s P.Semicolon ∷ Make DoDeclare ∷ ks) vs (spell_stmt (declare (local t n i a) j) w)) (config ks (stmt_val (declare (local t n i a) j) ∷ vs) w)
local_run t n i a j h ks vs w = steps 1 (thus (type_run t h.0 _ _ (name n i (spell_init a (sign P.Semicolon j w))) (refl, refl, refl, refl)) (local_end t n i a j h.1 ks vs w))

-- a declaration that begins with `std :: contracts`
library_local_run : (m : Mark) → is_named contracts_name m ≡ true → (x y k l c d : ℕ) (p : Stars) (r : Option ℕ) (n i : ℕ) (a : Init) (j : ℕ) → star_count p ≤ 8 → ShapedInit a → (ks : List Symbol) (vs : Values) (w : Spots) → Takes (config (Read SimplePart ∷ ks) vs (spell_stmt (declare (local (type_tree None (library_base x y m k l c d) p r) n i a) j) w)) (config ks (stmt_val (declare (local (type_tree None (library_base x y m k l c d) p r) n i a) j) ∷ vs) w)
library_local_run (M.Name z) h x y k l c d p r n i a j lp ha ks vs w =
    steps 3 (rw h (steps 4 (thus (rest_run None r (library_base x y (M.Name z) k l c d) p _ _ (name n i (spell_init a (sign P.Semicolon j w))) lp (refl, refl, refl, refl)) (local_end (type_tree None (library_base x y (M.Name z) k l c d) p r) n i a j ha ks vs w))))
library_local_run (M.Class z) h x y k l c d p r n i a j lp ha ks vs w =
    steps 3 (rw h (steps 4 (thus (rest_run None r (library_base x y (M.Class z) k l c d) p _ _ (name n i (spell_init a (sign P.Semicolon j w))) lp (refl, refl, refl, refl)) (local_end (type_tree None (library_base x y (M.Class z) k l c d) p r) n i a j ha ks vs w))))
library_local_run _ h x y k l c d p r n i a j lp ha ks vs w = absurd (cc)

declare_run : (t : TypeTree) (n i : ℕ) (a : Init) (j : ℕ) → ShapedLocal (local t n i a) → (ks : List Symbol) (vs : Values) (w : Spots) → Takes (config (Read SimplePart ∷ ks) vs (spell_stmt (declare (local t n i a) j) w)) (config ks (stmt_val (declare (local t n i a) j) ∷ vs) w)
declare_run (type_tree (Some x) b p r) n i a j h ks vs w = steps 1 (local_run (type_tree (Some x) b p r) n i a j h ks vs w)
declare_run (type_tree None (word_base k x) p r) n i a j h ks vs w = steps 1 (rw ((base_facts k h.0.0).3) (local_run (type_tree None (word_base k x) p r) n i a j h ks vs w))
declare_run (type_tree None (unsigned_int x y) p r) n i a j h ks vs w = steps 1 (local_run (type_tree None (unsigned_int x y) p r) n i a j h ks vs w)
declare_run (type_tree None (long_long x y) p r) n i a j h ks vs w = steps 1 (local_run (type_tree None (long_long x y) p r) n i a j h ks vs w)
declare_run (type_tree None (unsigned_long_long x y z) p r) n i a j h ks vs w = steps 1 (local_run (type_tree None (unsigned_long_long x y z) p r) n i a j h ks vs w)
declare_run (type_tree None (class_base c x) p r) n i a j h ks vs w = steps 1 (local_run (type_tree None (class_base c x) p r) n i a j h ks vs w)
declare_run (type_tree None (library_base x y m k l c d) p r) n i a j h ks vs w = library_local_run m h.0.0 x y k l c d p r n i a j h.0.1 h.1 ks vs w

-- an expression where a declaration may stand too
evaluate_run : (e : Expr) (j : ℕ) → ShapedFree e → (ks : List Symbol) (vs : Values) (w : Spots) → Takes (config (Read SimplePart ∷ ks) vs (spell_stmt (evaluate e j) w)) (config ks (stmt_val (evaluate e j) ∷ vs) w)
evaluate_run e j h ks vs w = elim (freely_begins e h.0 h.1) [ inl f ↦ plain_run f | inr g ↦ by_std g.0 g.1 g.2 g.3 g.4 g.5 ]
  where
    u : Spots
    u = sign P.Semicolon j w

    entered : (m : Mark) → front (spell_expr e u) ≡ Some m → is_free m ≡ true → next (config (Read SimplePart ∷ ks) vs (spell_expr e u)) ≡ config (Read Assign ∷ s P.Semicolon ∷ Make DoEvaluate ∷ ks) vs (spell_expr e u)
    entered m q f = rw (q, f) refl

    plain_run : is_free (first e) ≡ true → Takes (config (Read SimplePart ∷ ks) vs (spell_expr e (sign P.Semicolon j w))) (config ks (stmt_val (evaluate e j) ∷ vs) w)
    plain_run f = by_step (entered (first e) (front_first e u) f) (thus (whole e h.1 _ _ u refl) (steps 2 (done _)))

    by_std : (i k n l : ℕ) → From (standard i k n l) e → eqb n 0 ≡ false → Takes (config (Read SimplePart ∷ ks) vs (spell_expr e (sign P.Semicolon j w))) (config ks (stmt_val (evaluate e j) ∷ vs) w)
    by_std i k n l f z =
        let g = follows (standard i k n l) e f h.1 u refl in
        let Q : Spots → Type 0 = λ x. Takes (config (Read SimplePart ∷ ks) vs x) (config ks (stmt_val (evaluate e j) ∷ vs) w) in
        subst Q (sym g.1)
        (steps 3 (rw z (thus (standard_run i k n l e f h.1 (s P.Semicolon ∷ Make DoEvaluate ∷ ks) vs u g.0 refl g.1) (steps 2 (done _)))))

pub simple_run : (t : Stmt) → is_simple t ≡ true → ShapedStmt t → (ks : List Symbol) (vs : Values) (w : Spots) → Takes (config (Read SimplePart ∷ ks) vs (spell_stmt t w)) (config ks (stmt_val t ∷ vs) w)
simple_run (empty i) y h ks vs w = steps 2 (done _)
simple_run (evaluate e j) y h ks vs w = evaluate_run e j h ks vs w
simple_run (declare (local t n i a) j) y h ks vs w = declare_run t n i a j h ks vs w
simple_run _ y h ks vs w = absurd (cc)

-- how a type begins
pub type_opens : (t : TypeTree) (w : Spots) → ShapedType t → Opens (front (spell_type t w))
type_opens (type_tree (Some x) b p r) w h = (refl, refl, refl, refl)
type_opens (type_tree None (word_base k x) p r) w h = (base_facts k h.0).1
type_opens (type_tree None (unsigned_int x y) p r) w h = (refl, refl, refl, refl)
type_opens (type_tree None (long_long x y) p r) w h = (refl, refl, refl, refl)
type_opens (type_tree None (unsigned_long_long x y z) p r) w h = (refl, refl, refl, refl)
type_opens (type_tree None (class_base c x) p r) w h = (refl, refl, refl, refl)
type_opens (type_tree None (library_base x y m k l c d) p r) w h = (refl, refl, refl, refl)

-- a declaration is read as a simple statement
type_simple : (t : TypeTree) (w : Spots) → ShapedType t → stmt_move (front (spell_type t w)) ≡ push (Read SimplePart ∷ [])
type_simple (type_tree (Some x) b p r) w h = refl
type_simple (type_tree None (word_base k x) p r) w h = (base_facts k h.0).2
type_simple (type_tree None (unsigned_int x y) p r) w h = refl
type_simple (type_tree None (long_long x y) p r) w h = refl
type_simple (type_tree None (unsigned_long_long x y z) p r) w h = refl
type_simple (type_tree None (class_base c x) p r) w h = refl
type_simple (type_tree None (library_base x y m k l c d) p r) w h = refl

evaluate_simple : (e : Expr) (w : Spots) → ShapedFree e → stmt_move (front (spell_expr e w)) ≡ push (Read SimplePart ∷ [])
evaluate_simple e w h = elim (freely_begins e h.0 h.1) [ inl f ↦ subst (λ o. stmt_move o ≡ push (Read SimplePart ∷ [])) (sym (front_first e w)) (free_facts (first e) f) | inr g ↦ by_std g.0 g.1 g.2 g.3 g.4 ]
  where
    std_first : (e : Expr) (i k n l : ℕ) → From (standard i k n l) e → first e ≡ M.Std
    std_first (member i e o j m k) x y n l f = std_first e x y n l f
    std_first (call i e a) x y n l f = std_first e x y n l f
    std_first (stepped i e o j) x y n l f = std_first e x y n l f
    std_first (binary i l o j r) x y n z f = std_first l x y n z f
    std_first (choose i c j a k b) x y n l f = std_first c x y n l f
    std_first (assign i l o j r) x y n z f = std_first l x y n z f
    std_first (standard i j m k) x y n l f = refl
    std_first _ x y n l f = ap first f

    by_std : (i k n l : ℕ) → From (standard i k n l) e → stmt_move (front (spell_expr e w)) ≡ push (Read SimplePart ∷ [])
    by_std i k n l f = subst (λ o. stmt_move o ≡ push (Read SimplePart ∷ [])) (sym (front_first e w ∙ ap Some (std_first e i k n l f))) refl

-- what no statement begins with
abbrev Starts : Option Mark → Type 0
Starts o = (is_word W.Else o ≡ false) × (is_mark P.CloseBrace o ≡ false) × (is_word W.Catch o ≡ false)

starts_of : (o : Option Mark) → Opens o → Starts o
starts_of o h = (h.1, h.2, h.3)

stmt_starts : (t : Stmt) (w : Spots) → ShapedStmt t → Starts (front (spell_stmt t w))
stmt_starts (evaluate e j) w h = starts_of (front (spell_expr e (sign P.Semicolon j w))) (expr_opens e (sign P.Semicolon j w) h.1)
stmt_starts (declare (local t n i a) j) w h = starts_of (front (spell_type t (name n i (spell_init a (sign P.Semicolon j w))))) (type_opens t (name n i (spell_init a (sign P.Semicolon j w))) h.0)
stmt_starts (compound (block i b j)) w h = (refl, refl, refl)
stmt_starts _ w h = (refl, refl, refl)

stmts_start : (b : Stmts) (w : Spots) → ShapedStmts b → (is_word W.Else (front w) ≡ false) × (is_word W.Catch (front w) ≡ false) → (is_word W.Else (front (spell_stmts b w)) ≡ false) × (is_word W.Catch (front (spell_stmts b w)) ≡ false)
stmts_start no_stmts w h q = q
stmts_start (more_stmts b t) w h q = stmts_start b (spell_stmt t w) h.0 ((stmt_starts t w h.1).0, (stmt_starts t w h.1).2)

-- what may not follow a statement: the `else` of an open one, a further handler of `try`
abbrev pub Closes : Stmt → Option Mark → Type 0
Closes t o = (is_open t ≡ true → is_word W.Else o ≡ false) × (is_word W.Catch o ≡ false)

by_simple : (ks : List Symbol) (vs : Values) (w : Spots) (c : Config) → stmt_move (front w) ≡ push (Read SimplePart ∷ []) → Takes (config (Read SimplePart ∷ ks) vs w) c → Takes (config (Read StmtPart ∷ ks) vs w) c
by_simple ks vs w c q a = by_step (ap (λ v. left_as (moved v ks vs (ahead w)) (Read StmtPart ∷ ks) vs w) q) a

pub optional_name_run : (n : OptionalName) (ks : List Symbol) (vs : Values) (w : Spots) → name_move (front w) ≡ push (Make DoUnnamed ∷ []) → Takes (config (Read OptName ∷ ks) vs (spell_optional_name n w)) (config ks (name_val n ∷ vs) w)
optional_name_run (named n i) ks vs w q = steps 2 (done _)
optional_name_run unnamed ks vs w q = by_step (ap (λ v. left_as (moved v ks vs (ahead w)) (Read OptName ∷ ks) vs w) q) (steps 1 (done _))

-- what may not follow a parameter
abbrev pub EndsParam : Option Mark → Type 0
EndsParam o = Parts o × (name_move o ≡ push (Make DoUnnamed ∷ []))

name_parts : (n : OptionalName) (w : Spots) → EndsParam (front w) → Parts (front (spell_optional_name n w))
name_parts (named n i) w h = (refl, refl, refl, refl)
name_parts unnamed w h = h.0

pub param_run : (p : Param) → ShapedParam p → (ks : List Symbol) (vs : Values) (w : Spots) → EndsParam (front w) → Takes (config (Read ParamPart ∷ ks) vs (spell_param p w)) (config ks (param_val p ∷ vs) w)
param_run (param t n) h ks vs w q = steps 1 (thus (type_run t h _ _ (spell_optional_name n w) (name_parts n w q)) (thus (optional_name_run n _ _ w q.1) (steps 1 (done _))))

type_catch : (t : TypeTree) (w : Spots) → ShapedType t → is_mark P.Ellipsis (front (spell_type t w)) ≡ false
type_catch (type_tree (Some x) b p r) w h = refl
type_catch (type_tree None (word_base k x) p r) w h = refl
type_catch (type_tree None (unsigned_int x y) p r) w h = refl
type_catch (type_tree None (long_long x y) p r) w h = refl
type_catch (type_tree None (unsigned_long_long x y z) p r) w h = refl
type_catch (type_tree None (class_base c x) p r) w h = refl
type_catch (type_tree None (library_base x y m k l c d) p r) w h = refl

catch_run : (c : Catching) → ShapedCatching c → (ks : List Symbol) (vs : Values) (w : Spots) → EndsParam (front w) → Takes (config (Read CatchPart ∷ ks) vs (spell_catching c w)) (config ks (catching_val c ∷ vs) w)
catch_run (any_catch i) h ks vs w q = steps 2 (done _)
catch_run (typed_catch (param t n)) h ks vs w q = steps 1 (rw (type_catch t (spell_optional_name n w) h) (thus (param_run (param t n) h _ _ w q) (steps 1 (done _))))

mutual
  pub block_run : (b : Block) → ShapedBlock b → (ks : List Symbol) (vs : Values) (w : Spots) → Takes (config (Read BlockPart ∷ ks) vs (spell_block b w)) (config ks (block_val b ∷ vs) w)
  block_run (block i b j) h ks vs w = steps 2 (thus (stmts_run b h _ _ (sign P.CloseBrace j w) (refl, refl)) (steps 3 (done _)))

  pub stmt_run : (t : Stmt) → ShapedStmt t → (ks : List Symbol) (vs : Values) (w : Spots) → Closes t (front w) → Takes (config (Read StmtPart ∷ ks) vs (spell_stmt t w)) (config ks (stmt_val t ∷ vs) w)
  stmt_run (compound (block i b j)) h ks vs w o = steps 3 (thus (stmts_run b h _ _ (sign P.CloseBrace j w) (refl, refl)) (steps 4 (done _)))
  stmt_run (empty i) h ks vs w o = steps 3 (done _)
  stmt_run (evaluate e j) h ks vs w o = by_simple ks vs (spell_stmt (evaluate e j) w) _ (evaluate_simple e (sign P.Semicolon j w) h) (simple_run (evaluate e j) refl h ks vs w)
  stmt_run (declare (local t n i a) j) h ks vs w o = by_simple ks vs (spell_stmt (declare (local t n i a) j) w) _ (type_simple t (name n i (spell_init a (sign P.Semicolon j w))) h.0) (simple_run (declare (local t n i a) j) refl h ks vs w)
  stmt_run (branch i j c k t) h ks vs w o = steps 2 (thus (whole c h.0 _ _ (sign P.CloseParen k (spell_stmt t w)) refl) (steps 1 (thus (stmt_run t h.1 _ _ w (λ _. o.0 refl, o.1)) (steps 1 (rw (o.0 refl) (steps 1 (done _)))))))
  stmt_run (branches i j c k t l f) h ks vs w o = steps 2 (thus (whole c h.0 _ _ (sign P.CloseParen k (spell_stmt t (word W.Else l (spell_stmt f w)))) refl) (steps 1 (thus (stmt_run t h.1 _ _ (word W.Else l (spell_stmt f w)) (λ y. absurd (cc), refl)) (steps 1 (thus (stmt_run f h.3 _ _ w o) (steps 1 (done _)))))))
  stmt_run (while_loop i j c k t) h ks vs w o = steps 2 (thus (whole c h.0 _ _ (sign P.CloseParen k (spell_stmt t w)) refl) (steps 1 (thus (stmt_run t h.1 _ _ w o) (steps 1 (done _)))))
  stmt_run (for_loop i j f c k e l t) h ks vs w o =
      steps 2 (thus (simple_run f h.0 h.1 _ _ (if_expr c (sign P.Semicolon k (if_expr e (sign P.CloseParen l (spell_stmt t w))))))
      (thus (optional_run c h.2 _ _ (sign P.Semicolon k (if_expr e (sign P.CloseParen l (spell_stmt t w)))) refl refl)
      (steps 1 (thus (optional_run e h.3 _ _ (sign P.CloseParen l (spell_stmt t w)) refl refl) (steps 1 (thus (stmt_run t h.4 _ _ w o) (steps 1 (done _))))))))
  stmt_run (returns i e j) h ks vs w o = steps 1 (thus (optional_run e h _ _ (sign P.Semicolon j w) refl refl) (steps 2 (done _)))
  stmt_run (breaks i j) h ks vs w o = steps 3 (done _)
  stmt_run (continues i j) h ks vs w o = steps 3 (done _)
  stmt_run (throws i e j) h ks vs w o = steps 1 (thus (optional_run e h _ _ (sign P.Semicolon j w) refl refl) (steps 2 (done _)))
  stmt_run (tries i b z) h ks vs w o = steps 1 (thus (block_run b h.0 _ _ (spell_handlers z w)) (thus (handlers_run z h.1 _ _ w) (steps 1 (rw o.1 (steps 1 (done _))))))
  stmt_run (asserts i j e k l) h ks vs w o = steps 2 (thus (cond_run e h _ _ (sign P.CloseParen k (sign P.Semicolon l w)) refl) (steps 3 (done _)))

  pub stmts_run : (b : Stmts) → ShapedStmts b → (ks : List Symbol) (vs : Values) (w : Spots) → (is_word W.Else (front w) ≡ false) × (is_word W.Catch (front w) ≡ false) → Takes (config (Make DoNoStmts ∷ Read StmtsPart ∷ ks) vs (spell_stmts b w)) (config (Read StmtsPart ∷ ks) (stmts_val b ∷ vs) w)
  stmts_run no_stmts h ks vs w q = steps 1 (done _)
  stmts_run (more_stmts b t) h ks vs w q =
      let g = stmt_starts t w h.1 in
      thus (stmts_run b h.0 ks vs (spell_stmt t w) (g.0, g.2))
      (steps 1 (rw g.1 (thus (stmt_run t h.1 _ _ w (λ _. q.0, q.1)) (steps 1 (done _)))))

  handler_run : (z : Handler) → ShapedHandler z → (ks : List Symbol) (vs : Values) (w : Spots) → Takes (config (Read HandlerPart ∷ ks) vs (spell_handler z w)) (config ks (handler_val z ∷ vs) w)
  handler_run (handler i j c k b) h ks vs w = steps 3 (thus (catch_run c h.0 _ _ (sign P.CloseParen k (spell_block b w)) ((refl, refl, refl, refl), refl)) (steps 1 (thus (block_run b h.1 _ _ w) (steps 1 (done _)))))

  handlers_run : (z : Handlers) → ShapedHandlers z → (ks : List Symbol) (vs : Values) (w : Spots) → Takes (config (Read HandlerPart ∷ Make DoOneHandler ∷ Read HandlersTail ∷ ks) vs (spell_handlers z w)) (config (Read HandlersTail ∷ ks) (handlers_val z ∷ vs) w)
  handlers_run (one_handler z) h ks vs w = thus (handler_run z h _ _ w) (steps 1 (done _))
  handlers_run (more_handlers r (handler i j c k b)) h ks vs w =
      thus (handlers_run r h.0 ks vs (spell_handler (handler i j c k b) w))
      (steps 1 (thus (handler_run (handler i j c k b) h.1 _ _ w) (steps 1 (done _))))
