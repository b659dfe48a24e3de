-- Each move of a type, a local variable or a statement keeps what the stacks promise.
use Rattle.std.proofs.Common.{◌≡◌, ℕ, zero, suc, Bool, true, false, cond, eqb, List, [], ◌∷◌, ◌++◌, Option, Some, None, refl, sym, ◌∙◌, ap, arith}
use Rattle.cx_syntax.specs.declared.mark.Punct.{Punct}
use Rattle.cx_syntax.specs.declared.mark.Punct.TheVariants as P
use Rattle.cx_syntax.specs.declared.mark.Word.{Word}
use Rattle.cx_syntax.specs.declared.mark.Word.TheVariants as W
use Rattle.cx_syntax.specs.declared.mark.Mark.{Mark}
use Rattle.cx_syntax.specs.declared.mark.Mark.TheVariants as M
use Rattle.cx_table.specs.declared.symbol.Act.TheVariants.{DoStandard, DoOne, DoStar, DoFlag, DoNoFlag, DoBare, DoEquals, DoParens, DoEvaluate, DoDeclare, DoBranch, DoBranches, DoMoreStmts, DoMoreHandlers, DoAnyCatch, DoTypedCatch}
use Rattle.cx_table.specs.declared.symbol.Part.TheVariants.{Assign, AssignTail, SeveralTail, TypePart, BasePart, UnsignedTail, StarTail, OptWord, OptSign, LocalPart, InitPart, SimplePart, SimpleStd, StmtPart, BlockPart, StmtsPart, ElseTail, HandlerPart, HandlersTail, CatchPart, ParamPart}
use Rattle.cx_table.specs.declared.symbol.Symbol.{Symbol}
use Rattle.cx_table.specs.declared.symbol.Symbol.TheVariants.{Make, Read}
use Rattle.cx_parser.proofs.Expressions.{first}
use Rattle.cx_parser.proofs.Facts.{cast_facts}
use Rattle.cx_parser.proofs.KeepsExpressions.{tails_typed}
use Rattle.cx_parser.proofs.Kept.{Kept, kept_either, kept_sign, kept_word}
use Rattle.cx_parser.proofs.Typed.{Fn, SimpleComes, Typed}
use Rattle.cx_values.specs.Values.{Values, base_val, expr_val, handlers_val, mark_val, pointers_val, stmt_val, stmts_val}
use Rattle.cx_syntax.specs.Shaped.{Shaped, begins_type, contracts_name, is_named, is_open, is_simple}
use Rattle.cx_syntax.specs.Spell.{Spots, class_name, if_expr, if_sign, if_word, name, sign, spell_base, spell_block, spell_handler, spell_handlers, spell_init, spell_stmt, spot, standard_contracts, word}
use Rattle.cx_syntax.specs.Tree.{Expr, Stmt, any_catch, asserts, assign, binary, block, branch, branches, breaks, call, choose, class_base, compound, continues, declare, empty, equals, evaluate, for_loop, handler, leaf, library, library_base, local, long_long, member, no_init, paren, parens, returns, standard, static_cast, stepped, temporary, throws, tries, type_tree, typed_catch, unary, unsigned_int, unsigned_long_long, while_loop, word_base, word_cast}
use Rattle.cx_table.specs.Moves.{eat, halt, library_local, move, push, s, simple_other, tails}
use Rattle.cx_table.specs.Sorts.{is_free, is_mark, is_type_start, is_word}

free_first : (e : Expr) → Shaped e → is_free (first e) ≡ true → begins_type e ≡ false
free_first (leaf i m) h f = refl
free_first (paren i e j) h f = refl
free_first (temporary i n a) h f = absurd (cc)
free_first (word_cast i k j e l) h f = let g = (cast_facts k h.0).1 in absurd (cc)
free_first (static_cast i j t k l e z) h f = refl
free_first (standard i j n k) h f = absurd (cc)
free_first (library i j m k l t a z n b) h f = absurd (cc)
free_first (member i e p j n k) h f = free_first e h.2 f
free_first (call i e a) h f = free_first e h.1 f
free_first (stepped i e p j) h f = free_first e h.2 f
free_first (unary i p e) h f = refl
free_first (binary i l p j r) h f = free_first l h.4 f
free_first (choose i c j a k b) h f = free_first c h.1 f
free_first (assign i l p j r) h f = free_first l h.2 f

pub not_both : (a b : Bool) → (a ≡ true → b ≡ false) → b ≡ true → a ≡ false
not_both true b f h = let g = f refl in absurd (cc)
not_both false b f h = refl

simple_closed : (t : Stmt) → is_simple t ≡ true → is_open t ≡ false
simple_closed (empty i) h = refl
simple_closed (evaluate e i) h = refl
simple_closed (declare l i) h = refl
simple_closed _ h = absurd (cc)

module _ (k : List Symbol) where
  pub k_type : (o : Option Mark) (vs : Values) (c : Fn) → Typed (Read TypePart ∷ k) o vs c → Kept (move TypePart o) k o vs c
  k_type o vs c h = λ f o1 d q b o2 d2 sb q2. (_, refl, (c, (λ w. q2 w ∙ q (spell_base b w)), omega arith, λ p o3 d3 sp q3 r o4 d4 q4. (_, refl, h (type_tree f b p r) o4 d4 (sb, sp) (λ w. q4 w ∙ q3 (if_sign r P.And w)))))

  pub k_base : (o : Option Mark) (vs : Values) (c : Fn) → Typed (Read BasePart ∷ k) o vs c → Kept (move BasePart o) k o vs c
  k_base (Some (M.Class n)) vs c h = λ i o. (_, refl, h (class_base n i) o (λ w. c (class_name n i w)) (tt {0}) (λ w. refl))
  k_base (Some M.Std) vs c h = λ i o j o1 m x o2 y l o3 n z o4. (_, refl, h (library_base i j m x l n z) o4 (λ w. c (standard_contracts i j m x l (name n z w))) y (λ w. refl))
  k_base (Some (M.Word W.Unsigned)) vs c h = λ i o. (c, (λ w. refl), refl, h)
  k_base (Some (M.Word W.Long)) vs c h = λ i o j o1. (_, refl, h (long_long i j) o1 (λ w. c (word W.Long i (word W.Long j w))) (tt {0}) (λ w. refl))
  k_base (Some (M.Word W.Void)) vs c h = λ i o. (_, refl, h (word_base W.Void i) o (λ w. c (word W.Void i w)) refl (λ w. refl))
  k_base (Some (M.Word W.Bool)) vs c h = λ i o. (_, refl, h (word_base W.Bool i) o (λ w. c (word W.Bool i w)) refl (λ w. refl))
  k_base (Some (M.Word W.Char)) vs c h = λ i o. (_, refl, h (word_base W.Char i) o (λ w. c (word W.Char i w)) refl (λ w. refl))
  k_base (Some (M.Word W.Int)) vs c h = λ i o. (_, refl, h (word_base W.Int i) o (λ w. c (word W.Int i w)) refl (λ w. refl))
  k_base _ vs c h = tt {0}

  pub k_unsigned : (o : Option Mark) (vs : Values) (c : Fn) → Typed (Read UnsignedTail ∷ k) o vs c → Kept (move UnsignedTail o) k o vs c
  k_unsigned (Some (M.Word W.Int)) (mark_val (M.Word x) i ∷ us) c h = λ j o. (_, refl, h.3 (unsigned_int i j) o (λ w. c (word W.Int j w)) (tt {0}) (λ w. h.1 (word W.Int j w)))
  k_unsigned (Some (M.Word W.Long)) (mark_val (M.Word x) i ∷ us) c h = λ j o y o1. (_, refl, h.3 (unsigned_long_long i j y) o1 (λ w. c (word W.Long j (word W.Long y w))) (tt {0}) (λ w. h.1 (word W.Long j (word W.Long y w))))
  k_unsigned o (mark_val (M.Word x) i ∷ us) c h = (base_val (word_base W.Unsigned i) ∷ us, rw (sym h.2) refl, h.3 (word_base W.Unsigned i) o c refl h.1)
  k_unsigned o _ c h = absurd h

  pub k_star : (n : ℕ) (o : Option Mark) (vs : Values) (c : Fn) → Typed (Read (StarTail n) ∷ k) o vs c → Kept (move (StarTail n) o) k o vs c
  k_star zero o (pointers_val f b p ∷ us) c h = h.3 p o c (omega (arith, h.2)) h.1
  k_star (suc n) o (pointers_val f b p ∷ us) c h =
      kept_sign P.Star (Read (OptWord W.Const) ∷ Make DoStar ∷ Read (StarTail n) ∷ []) (push []) k o (pointers_val f b p ∷ us) c
      (λ i o1 y o2 d q. (_, refl, (h.0, (λ w. q w ∙ h.1 (sign P.Star i (if_word y W.Const w))), omega (arith, h.2), h.3)))
      (h.3 p o c (omega (arith, h.2)) h.1)
  k_star _ o _ c h = absurd h

  pub k_opt_word : (j : Word) (o : Option Mark) (vs : Values) (c : Fn) → Typed (Read (OptWord j) ∷ k) o vs c → Kept (move (OptWord j) o) k o vs c
  k_opt_word j o vs c h = kept_word j (Make DoFlag ∷ []) (push (Make DoNoFlag ∷ [])) k o vs c
      (λ y i o1. (_, refl, h (Some i) o1 (λ w. c (word j i w)) (λ w. refl)))
      (λ y. (_, refl, h None o c (λ w. refl)))

  pub k_opt_sign : (p : Punct) (o : Option Mark) (vs : Values) (c : Fn) → Typed (Read (OptSign p) ∷ k) o vs c → Kept (move (OptSign p) o) k o vs c
  k_opt_sign p o vs c h = kept_sign p (Make DoFlag ∷ []) (push (Make DoNoFlag ∷ [])) k o vs c
      (λ i o1. (_, refl, h (Some i) o1 (λ w. c (sign p i w)) (λ w. refl)))
      (_, refl, h None o c (λ w. refl))

  pub k_local : (o : Option Mark) (vs : Values) (c : Fn) → Typed (Read LocalPart ∷ k) o vs c → Kept (move LocalPart o) k o vs c
  k_local o vs c h = λ t o1 d st f n i o2 a o3 d2 sa f2. (_, refl, h (local t n i a) o3 d2 (st, sa) (λ w. f2 w ∙ f (name n i (spell_init a w))))

  pub k_init : (o : Option Mark) (vs : Values) (c : Fn) → Typed (Read InitPart ∷ k) o vs c → Kept (move InitPart o) k o vs c
  k_init o vs c h =
      kept_sign P.Assign (Read Assign ∷ Make DoEquals ∷ []) (cond (is_mark P.OpenParen o) (eat (Read Assign ∷ Make DoOne ∷ Read SeveralTail ∷ s P.CloseParen ∷ Make DoParens ∷ [])) (push (Make DoBare ∷ []))) k o vs c
      (λ i o1 e o2 d z q f. (_, refl, h (equals i e) o2 d z f))
      (kept_sign P.OpenParen (Read Assign ∷ Make DoOne ∷ Read SeveralTail ∷ s P.CloseParen ∷ Make DoParens ∷ []) (push (Make DoBare ∷ [])) k o vs c
      (λ i o1 e o2 d z q f. (_, refl, ((λ w. c (sign P.OpenParen i w)), f, z, λ a o3 d2 sa f2 j o4. (_, refl, h (parens i a j) o4 (λ w. d2 (sign P.CloseParen j w)) sa (λ w. f2 (sign P.CloseParen j w))))))
      (_, refl, h no_init o c (tt {0}) (λ w. refl)))

  pub k_simple : (o : Option Mark) (vs : Values) (c : Fn) → Typed (Read SimplePart ∷ k) o vs c → Kept (move SimplePart o) k o vs c
  k_simple None vs c h = tt {0}
  k_simple (Some m) vs c h = go (is_free m) refl
    where
      other : (m : Mark) → Kept (simple_other m) k (Some m) vs c
      other M.Std = λ i o j o1. (c, (λ w. refl), h)
      other (M.Punct P.Semicolon) = λ i o. (_, refl, h (empty i) o (λ w. c (sign P.Semicolon i w)) refl (tt {0}) (λ w. refl))
      other _ = tt {0}

      typed : (b : Bool) → Kept (cond b (push (Read LocalPart ∷ s P.Semicolon ∷ Make DoDeclare ∷ [])) (simple_other m)) k (Some m) vs c
      typed true = λ l o1 d sl f i o2. (_, refl, h (declare l i) o2 (λ w. d (sign P.Semicolon i w)) refl sl (λ w. f (sign P.Semicolon i w)))
      typed false = other m

      go : (b : Bool) → is_free m ≡ b → Kept (cond b (push (Read Assign ∷ s P.Semicolon ∷ Make DoEvaluate ∷ [])) (cond (is_type_start m) (push (Read LocalPart ∷ s P.Semicolon ∷ Make DoDeclare ∷ [])) (simple_other m))) k (Some m) vs c
      go true g = λ e o1 d z q f i o2. (_, refl, h (evaluate e i) o2 (λ w. d (sign P.Semicolon i w)) refl (free_first e z (let x : first e ≡ m = cc in ap is_free x ∙ g), z) (λ w. f (sign P.Semicolon i w)))
      go false g = typed (is_type_start m)

  k_library_local : (m : Mark) → is_named contracts_name m ≡ true → (i j y : ℕ) (x z : Mark) (vs : Values) (c b : Fn) → ((w : Spots) → c w ≡ b (spot M.Std i ∷ sign P.Scope j (spot m y ∷ w))) → SimpleComes (Typed k) vs b
      → (o : Option Mark) → Typed (library_local ++ k) o (mark_val m y ∷ mark_val x j ∷ mark_val z i ∷ vs) c
  k_library_local m g i j y _ _ vs c b q h o = λ l o1 n z o2. (
    _,
    refl,
    (
      _,
      refl,
      (
        b,
        (λ w. q (sign P.Scope l (name n z w))),
        omega arith,
        λ p o3 d3 sp f3 r o4 d4 f4. (_, refl, λ x v o5 a o6 d5 sa f5. (_, refl, λ e o7. (_, refl, h (declare (local (type_tree None (library_base i j m y l n z) p r) x v a) e) o7 (λ w. d5 (sign P.Semicolon e w)) refl ((g, sp), sa) (λ w. f5 (sign P.Semicolon e w) ∙ (f4 (name x v (spell_init a (sign P.Semicolon e w))) ∙ f3 (if_sign r P.And (name x v (spell_init a (sign P.Semicolon e w))))))))),
      ),
    ),
  )

  pub k_simple_std : (o : Option Mark) (vs : Values) (c : Fn) → Typed (Read SimpleStd ∷ k) o vs c → Kept (move SimpleStd o) k o vs c
  k_simple_std (Some (M.Name n)) (mark_val x j ∷ mark_val m i ∷ vs) c h = go (eqb n contracts_name) refl
    where
      go : (b : Bool) → eqb n contracts_name ≡ b → Kept (cond b (eat library_local) (eat (Make DoStandard ∷ tails 10 (Read AssignTail ∷ s P.Semicolon ∷ Make DoEvaluate ∷ [])))) k (Some (M.Name n)) (mark_val x j ∷ mark_val m i ∷ vs) c
      go true g = λ y o. k_library_local (M.Name n) g i j y x m vs (λ w. c (name n y w)) h.0 (λ w. h.1 (name n y w)) h.2 o
      go false g = λ y o. (
        _,
        refl,
        tails_typed k 10 (Read AssignTail ∷ s P.Semicolon ∷ Make DoEvaluate ∷ k) (standard i j n y) vs o (λ w. c (name n y w)) h.0 (omega arith) (λ w. h.1 (name n y w)) refl (tt {0})
            (λ e o1 a s1 r1 t1 y1 f1. ((h.0, f1, tt {0}, s1, λ e2 o2 a2 s2 z2 t2 y2 f2 l o3. (_, refl, h.2 (evaluate e2 l) o3 (λ w. a2 (sign P.Semicolon l w)) refl ((y2 ∙ y1) ∙ g, s2) (λ w. f2 (sign P.Semicolon l w)))), r1)),
      )
  k_simple_std (Some (M.Class n)) (mark_val x j ∷ mark_val m i ∷ vs) c h = go (eqb n contracts_name) refl
    where
      go : (b : Bool) → eqb n contracts_name ≡ b → Kept (cond b (eat library_local) halt) k (Some (M.Class n)) (mark_val x j ∷ mark_val m i ∷ vs) c
      go true g = λ y o. k_library_local (M.Class n) g i j y x m vs (λ w. c (class_name n y w)) h.0 (λ w. h.1 (class_name n y w)) h.2 o
      go false g = tt {0}
  k_simple_std _ (mark_val x j ∷ mark_val m i ∷ vs) c h = tt {0}
  k_simple_std _ _ c h = absurd h

  pub k_stmt : (o : Option Mark) (vs : Values) (c : Fn) → Typed (Read StmtPart ∷ k) o vs c → Kept (move StmtPart o) k o vs c
  k_stmt (Some (M.Word W.If)) vs c h = λ i o j o1 e o2 d z q f l o3 t o4 d2 st ot f2. (c, (λ w. f2 w ∙ f (sign P.CloseParen l (spell_stmt t w))), z, st, ot, h)
  k_stmt (Some (M.Word W.While)) vs c h = λ i o j o1 e o2 d z q f l o3 t o4 d2 st ot f2. (_, refl, h (while_loop i j e l t) o4 d2 (z, st) ot (λ w. f2 w ∙ f (sign P.CloseParen l (spell_stmt t w))))
  k_stmt (Some (M.Word W.For)) vs c h = λ i o j o1 a o2 d y sa f e o3 d2 se f2 l o4 e2 o5 d3 se2 f3 x o6 t o7 d4 st ot f4. (
    _,
    refl,
    h (for_loop i j a e l e2 x t) o7 d4 (y, sa, se, se2, st) ot
        (λ w. f4 w ∙ (f3 (sign P.CloseParen x (spell_stmt t w)) ∙ (f2 (sign P.Semicolon l (if_expr e2 (sign P.CloseParen x (spell_stmt t w)))) ∙ f (if_expr e (sign P.Semicolon l (if_expr e2 (sign P.CloseParen x (spell_stmt t w)))))))),
  )
  k_stmt (Some (M.Word W.Return)) vs c h = λ i o e o1 d se f j o2. (_, refl, h (returns i e j) o2 (λ w. d (sign P.Semicolon j w)) se (λ y. absurd (cc)) (λ w. f (sign P.Semicolon j w)))
  k_stmt (Some (M.Word W.Throw)) vs c h = λ i o e o1 d se f j o2. (_, refl, h (throws i e j) o2 (λ w. d (sign P.Semicolon j w)) se (λ y. absurd (cc)) (λ w. f (sign P.Semicolon j w)))
  k_stmt (Some (M.Word W.Break)) vs c h = λ i o j o1. (_, refl, h (breaks i j) o1 (λ w. c (word W.Break i (sign P.Semicolon j w))) (tt {0}) (λ y. absurd (cc)) (λ w. refl))
  k_stmt (Some (M.Word W.Continue)) vs c h = λ i o j o1. (_, refl, h (continues i j) o1 (λ w. c (word W.Continue i (sign P.Semicolon j w))) (tt {0}) (λ y. absurd (cc)) (λ w. refl))
  k_stmt (Some (M.Word W.Try)) vs c h = λ i o b o1 d sb f z o2 d2 sz f2. (_, refl, ((λ w. d w), f2, sz, λ l o3 d3 sl f3. (_, refl, h (tries i b l) o3 d3 (sb, sl) (λ y. absurd (cc)) (λ w. f3 w ∙ f (spell_handlers l w)))))
  k_stmt (Some (M.Word W.ContractAssert)) vs c h = λ i o j o1 e o2 d z q f l o3 x o4. (_, refl, h (asserts i j e l x) o4 (λ w. d (sign P.CloseParen l (sign P.Semicolon x w))) (q, z) (λ y. absurd (cc)) (λ w. f (sign P.CloseParen l (sign P.Semicolon x w))))
  k_stmt (Some (M.Punct P.OpenBrace)) vs c h = λ b o1 d sb f. (_, refl, h (compound b) o1 d sb (λ y. absurd (cc)) f)
  k_stmt _ vs c h = λ t o1 d y st f. h t o1 d st (λ z. let x = simple_closed t y in absurd (cc)) f

  pub k_block : (o : Option Mark) (vs : Values) (c : Fn) → Typed (Read BlockPart ∷ k) o vs c → Kept (move BlockPart o) k o vs c
  k_block o vs c h = λ i o1. (_, refl, ((λ w. c (sign P.OpenBrace i w)), (λ w. refl), tt {0}, λ b o2 d sb f j o3. (_, refl, h (block i b j) o3 (λ w. d (sign P.CloseBrace j w)) sb (λ w. f (sign P.CloseBrace j w)))))

  pub k_stmts : (o : Option Mark) (vs : Values) (c : Fn) → Typed (Read StmtsPart ∷ k) o vs c → Kept (move StmtsPart o) k o vs c
  k_stmts o (stmts_val l ∷ us) c h = kept_either (is_mark P.CloseBrace o) (push []) (push (Read StmtPart ∷ Make DoMoreStmts ∷ Read StmtsPart ∷ [])) k o (stmts_val l ∷ us) c
      (h.3 l o c h.2 h.1)
      (λ t o1 d st ot f. (_, refl, (h.0, (λ w. f w ∙ h.1 (spell_stmt t w)), (h.2, st), h.3)))
  k_stmts o _ c h = absurd h

  pub k_else : (o : Option Mark) (vs : Values) (c : Fn) → Typed (Read ElseTail ∷ k) o vs c → Kept (move ElseTail o) k o vs c
  k_else o (stmt_val t ∷ mark_val x l ∷ expr_val e ∷ mark_val y j ∷ mark_val z i ∷ us) c h =
      kept_word W.Else (Read StmtPart ∷ Make DoBranches ∷ []) (push (Make DoBranch ∷ [])) k o (stmt_val t ∷ mark_val x l ∷ expr_val e ∷ mark_val y j ∷ mark_val z i ∷ us) c
      (λ g v o1 r o2 d sr or fr. (_, refl, h.5 (branches i j e l t v r) o2 d (h.2, h.3, not_both (is_open t) (is_word W.Else o) h.4 g, sr) or (λ w. fr w ∙ h.1 (word W.Else v (spell_stmt r w)))))
      (λ g. (_, refl, h.5 (branch i j e l t) o c (h.2, h.3) (λ _. g) h.1))
  k_else o _ c h = absurd h

  pub k_handler : (o : Option Mark) (vs : Values) (c : Fn) → Typed (Read HandlerPart ∷ k) o vs c → Kept (move HandlerPart o) k o vs c
  k_handler o vs c h = λ i o1 j o2 a o3 d sa f l o4 b o5 d2 sb f2. (_, refl, h (handler i j a l b) o5 d2 (sa, sb) (λ w. f2 w ∙ f (sign P.CloseParen l (spell_block b w))))

  pub k_handlers : (o : Option Mark) (vs : Values) (c : Fn) → Typed (Read HandlersTail ∷ k) o vs c → Kept (move HandlersTail o) k o vs c
  k_handlers o (handlers_val l ∷ us) c h = kept_either (is_word W.Catch o) (push (Read HandlerPart ∷ Make DoMoreHandlers ∷ Read HandlersTail ∷ [])) (push []) k o (handlers_val l ∷ us) c
      (λ t o1 d st f. (_, refl, (h.0, (λ w. f w ∙ h.1 (spell_handler t w)), (h.2, st), h.3)))
      (h.3 l o c h.2 h.1)
  k_handlers o _ c h = absurd h

  pub k_catch : (o : Option Mark) (vs : Values) (c : Fn) → Typed (Read CatchPart ∷ k) o vs c → Kept (move CatchPart o) k o vs c
  k_catch o vs c h = kept_sign P.Ellipsis (Make DoAnyCatch ∷ []) (push (Read ParamPart ∷ Make DoTypedCatch ∷ [])) k o vs c
      (λ i o1. (_, refl, h (any_catch i) o1 (λ w. c (sign P.Ellipsis i w)) (tt {0}) (λ w. refl)))
      (λ p o1 d sp f. (_, refl, h (typed_catch p) o1 d sp f))
