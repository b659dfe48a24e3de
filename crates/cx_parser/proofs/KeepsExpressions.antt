-- Each move of an expression keeps what the stacks promise.
use Rattle.std.proofs.Common.{◌≡◌, ℕ, zero, suc, ◌≤◌, Bool, true, false, cond, eqb, List, [], ◌∷◌, Option, Some, None, refl, sym, ◌∙◌, ap, arith}
use Rattle.cx_syntax.specs.declared.mark.Punct.{Punct}
use Rattle.cx_syntax.specs.declared.mark.Punct.TheVariants as P
use Rattle.cx_syntax.specs.declared.mark.Word.{Word}
use Rattle.cx_syntax.specs.declared.mark.Word.TheVariants as W
use Rattle.cx_syntax.specs.declared.mark.Mark.{Mark}
use Rattle.cx_syntax.specs.declared.mark.Mark.TheVariants as M
use Rattle.cx_table.specs.declared.symbol.Act.TheVariants.{DoLeaf, DoParen, DoWordCast, DoStandard, DoLibrary, DoMember, DoCall, DoStepped, DoUnary, DoBinary, DoChoose, DoAssign, DoNoArgs, DoArgs, DoOne, DoAlso, DoAbsent, DoPresent}
use Rattle.cx_table.specs.declared.symbol.Kind.TheVariants.{AName}
use Rattle.cx_table.specs.declared.symbol.Part.TheVariants.{Assign, AssignTail, Cond, CondTail, Operand, LevelTail, Primary, PostTail, StdRest, StdMore, ArgsRest, SeveralTail, OptExpr}
use Rattle.cx_table.specs.declared.symbol.Symbol.{Symbol}
use Rattle.cx_table.specs.declared.symbol.Symbol.TheVariants.{Expect, Make, Read}
use Rattle.cx_parser.proofs.Expressions.{first}
use Rattle.cx_parser.proofs.Facts.{question_facts}
use Rattle.cx_parser.proofs.Kept.{Kept, kept_either, kept_sign}
use Rattle.cx_parser.proofs.Runs.{eqb_above, equal_eqb}
use Rattle.cx_parser.proofs.Same.{punct_same}
use Rattle.cx_parser.proofs.Typed.{Fn, Typed}
use Rattle.cx_values.specs.Values.{Values, expr_val, list_val, mark_val}
use Rattle.cx_syntax.specs.Same.{same_punct}
use Rattle.cx_syntax.specs.Shaped.{Shaped, at_of, begins_type, contracts_name, is_assign, is_cast, is_cond, is_leaf, is_member, is_postfix, is_step, looseness, rank}
use Rattle.cx_syntax.specs.Spell.{Spots, class_name, name, sign, spell_args, spell_expr, spell_several, spot, word}
use Rattle.cx_syntax.specs.Tree.{Expr, args, assign, binary, choose, leaf, library, no_args, paren, standard, static_cast, temporary, unary, word_cast}
use Rattle.cx_table.specs.Moves.{assign_move, eat, halt, in_parens, move, post_move, primary_move, push, s, static_move, tails}
use Rattle.cx_table.specs.Sorts.{is_end, is_prefix_mark}

pub cond_rank : (e : Expr) → rank e ≤ 10 → is_cond e ≡ true
cond_rank (assign i l p j r) h = absurd (omega arith)
cond_rank _ h = refl

pub postfix_rank : (e : Expr) → is_postfix e ≡ true → rank e ≡ 0
postfix_rank (unary i p e) h = absurd (cc)
postfix_rank (binary i l p j r) h = absurd (cc)
postfix_rank (choose i c j a k b) h = absurd (cc)
postfix_rank (assign i l p j r) h = absurd (cc)
postfix_rank _ h = refl

module _ (k : List Symbol) where
  pub k_assign : (o : Option Mark) (vs : Values) (c : Fn) → Typed (Read Assign ∷ k) o vs c → Kept (move Assign o) k o vs c
  k_assign o vs c h = (omega arith, λ e o1 d z q f. ((c, f, tt {0}, z, λ e2 o2 d2 s2 y2 t2 b2 f2. h e2 o2 d2 s2 (ap Some t2 ∙ q.1) f2), q.0))

  pub k_assign_tail : (o : Option Mark) (vs : Values) (c : Fn) → Typed (Read AssignTail ∷ k) o vs c → Kept (move AssignTail o) k o vs c
  k_assign_tail (Some (M.Punct p)) (expr_val l ∷ us) c (h, r) = go (eqb (looseness p) 11) refl
    where
      sort : (b : Bool) → eqb (looseness p) 11 ≡ true → is_assign p ≡ b → Kept (cond b (eat (Read Assign ∷ Make DoAssign ∷ [])) (eat (Read Assign ∷ s P.Colon ∷ Read Assign ∷ Make DoChoose ∷ []))) k (Some (M.Punct p)) (expr_val l ∷ us) c
      sort true g y = λ i o e o1 d z q f. (_, refl, h.4 (assign (at_of l) l p i e) o1 d (y, r, h.3, z, refl) (tt {0}) refl refl (λ w. f w ∙ h.1 (sign p i (spell_expr e w))))
      sort false g y = λ i o e o1 d z q f j o2 e2 o3 d2 s2 q2 f2. (
        _,
        refl,
        h.4 (choose (at_of l) l i e j e2) o3 d2 (r, h.3, z, s2, refl) (tt {0}) refl refl
            (λ w. f2 w ∙ (f (sign P.Colon j (spell_expr e2 w)) ∙ (ap (λ x. c (sign x i (spell_expr e (sign P.Colon j (spell_expr e2 w))))) (sym (question_facts p g y)) ∙ h.1 (sign P.Question i (spell_expr e (sign P.Colon j (spell_expr e2 w))))))),
      )

      go : (b : Bool) → eqb (looseness p) 11 ≡ b → Kept (cond b (assign_move (Some (M.Punct p))) (push [])) k (Some (M.Punct p)) (expr_val l ∷ us) c
      go true g = sort (is_assign p) g refl
      go false g = h.4 l (Some (M.Punct p)) c h.3 (tt {0}) refl refl h.1
  k_assign_tail o (expr_val l ∷ us) c (h, r) = h.4 l o c h.3 (tt {0}) refl refl h.1
  k_assign_tail o _ c h = absurd h

  pub k_cond : (o : Option Mark) (vs : Values) (c : Fn) → Typed (Read Cond ∷ k) o vs c → Kept (move Cond o) k o vs c
  k_cond o vs c h = (omega arith, λ e o1 d z q f. ((c, f, cond_rank e q.0, z, λ e2 o2 d2 s2 i2 t2 b2 f2. h e2 o2 d2 s2 i2 f2), q.0))

  pub k_cond_tail : (o : Option Mark) (vs : Values) (c : Fn) → Typed (Read CondTail ∷ k) o vs c → Kept (move CondTail o) k o vs c
  k_cond_tail o (expr_val l ∷ us) c (h, r) =
      kept_sign P.Question (Read Assign ∷ s P.Colon ∷ Read Assign ∷ Make DoChoose ∷ []) (push []) k o (expr_val l ∷ us) c
      (λ i o e o1 d z q f j o2 e2 o3 d2 s2 q2 f2. (
        _,
        refl,
        h.4 (choose (at_of l) l i e j e2) o3 d2 (r, h.3, z, s2, refl) refl refl refl
            (λ w. f2 w ∙ (f (sign P.Colon j (spell_expr e2 w)) ∙ h.1 (sign P.Question i (spell_expr e (sign P.Colon j (spell_expr e2 w)))))),
      ))
      (h.4 l o c h.3 h.2 refl refl h.1)
  k_cond_tail o _ c h = absurd h

  pub k_unary : (o : Option Mark) (vs : Values) (c : Fn) → Typed (Read (Operand zero) ∷ k) o vs c → Kept (move (Operand zero) o) k o vs c
  k_unary o vs c h = go o (is_prefix_mark o) refl h
    where
      go : (o : Option Mark) (b : Bool) → is_prefix_mark o ≡ b → Typed (Read (Operand zero) ∷ k) o vs c → Kept (cond b (eat (Read (Operand zero) ∷ Make DoUnary ∷ [])) (push (Read Primary ∷ Read PostTail ∷ []))) k o vs c
      go (Some (M.Punct p)) true y h = λ i o. (omega arith, λ e o1 d z q f. (_, refl, h.1 (unary i p e) o1 d (y, omega (arith, q.0), z) (omega arith, refl) f))
      go (Some _) true y h = absurd (cc)
      go None true y h = absurd (cc)
      go o false y h = λ e o1 d z q f. (c, f, q.0, z, λ e2 o2 d2 s2 p2 t2 b2 f2. h.1 e2 o2 d2 s2 (omega (arith, postfix_rank e2 p2), ap Some t2 ∙ q.1) f2)

  pub k_operand : (n : ℕ) (o : Option Mark) (vs : Values) (c : Fn) → Typed (Read (Operand (suc n)) ∷ k) o vs c → Kept (move (Operand (suc n)) o) k o vs c
  k_operand n o vs c h = (omega arith, λ e o1 d z q f. (h.0, (c, f, omega (arith, q.0), z, λ e2 o2 d2 s2 r2 t2 b2 f2. h.1 e2 o2 d2 s2 (r2, ap Some t2 ∙ q.1) f2)))

  pub k_tail : (n : ℕ) (o : Option Mark) (vs : Values) (c : Fn) → Typed (Read (LevelTail (suc n)) ∷ k) o vs c → Kept (move (LevelTail (suc n)) o) k o vs c
  k_tail n (Some (M.Punct p)) (expr_val l ∷ us) c h = go (eqb (looseness p) (suc n)) refl
    where
      go : (b : Bool) → eqb (looseness p) (suc n) ≡ b → Kept (cond b (eat (Read (Operand n) ∷ Make DoBinary ∷ Read (LevelTail (suc n)) ∷ [])) (push [])) k (Some (M.Punct p)) (expr_val l ∷ us) c
      go true g =
          let e0 : looseness p ≡ suc n = equal_eqb (looseness p) (suc n) g in
          λ i o. (omega arith, λ e o1 d z q f. (_, refl, (h.0, (h.1.0, (λ w. f w ∙ h.1.1 (sign p i (spell_expr e w))), omega (arith, e0), (omega (arith, e0), omega (arith, e0, h.0), omega (arith, e0, h.1.2), omega (arith, e0, q.0), h.1.3, z, refl), h.1.4))))
      go false g = h.1.4 l (Some (M.Punct p)) c h.1.3 h.1.2 refl refl h.1.1
  k_tail n o (expr_val l ∷ us) c h = rw (eqb_above 12 (suc n) (omega (arith, h.0))) (h.1.4 l o c h.1.3 h.1.2 refl refl h.1.1)
  k_tail n o _ c h = absurd h

  pub k_primary : (o : Option Mark) (vs : Values) (c : Fn) → Typed (Read Primary ∷ k) o vs c → Kept (move Primary o) k o vs c
  k_primary None vs c h = tt {0}
  k_primary (Some (M.Class n)) vs c h = λ i o j o1. ((λ w. c (class_name n i w)), (λ w. refl), λ a o2 d sa f. (_, refl, h (temporary i n a) o2 d sa (refl, refl) f))
  k_primary (Some M.Std) vs c h = λ i o j o1. (c, (λ w. refl), λ e o2 d z q f. h e o2 d z (q.0, ap Some q.1) f)
  k_primary (Some (M.Punct p)) vs c h = go (same_punct P.OpenParen p) refl
    where
      go : (b : Bool) → same_punct P.OpenParen p ≡ b → Kept (cond b (eat (Read Assign ∷ s P.CloseParen ∷ Make DoParen ∷ [])) halt) k (Some (M.Punct p)) vs c
      go true g = λ i o e o1 d z q f j o2. (_, refl, h (paren i e j) o2 (λ w. d (sign P.CloseParen j w)) z (refl, ap (λ x. Some (M.Punct x)) (punct_same P.OpenParen p g)) (λ w. f (sign P.CloseParen j w) ∙ ap (λ x. c (sign x i (spell_expr e (sign P.CloseParen j w)))) (sym (punct_same P.OpenParen p g))))
      go false g = tt {0}
  k_primary (Some (M.Word j)) vs c h = go (is_leaf (M.Word j)) refl
    where
      static : (j : Word) → Typed (Read Primary ∷ k) (Some (M.Word j)) vs c → Kept (static_move j) k (Some (M.Word j)) vs c
      static W.StaticCast h = λ i o i1 o1 t o2 d st f i2 o3 i3 o4 e o5 d2 z q f2 i4 o6. (_, refl, h (static_cast i i1 t i2 i3 e i4) o6 (λ w. d2 (sign P.CloseParen i4 w)) (st, z) (refl, refl) (λ w. f2 (sign P.CloseParen i4 w) ∙ f (sign P.Greater i2 (sign P.OpenParen i3 (spell_expr e (sign P.CloseParen i4 w))))))
      static _ h = tt {0}

      cast : (b : Bool) → is_cast j ≡ b → Kept (cond b (eat (in_parens (Make DoWordCast ∷ []))) (static_move j)) k (Some (M.Word j)) vs c
      cast true g = λ i o i1 o1 e o2 d z q f i2 o3. (_, refl, h (word_cast i j i1 e i2) o3 (λ w. d (sign P.CloseParen i2 w)) (g, z) (refl, refl) (λ w. f (sign P.CloseParen i2 w)))
      cast false g = static j h

      go : (b : Bool) → is_leaf (M.Word j) ≡ b → Kept (cond b (eat (Make DoLeaf ∷ [])) (primary_move (M.Word j))) k (Some (M.Word j)) vs c
      go true g = λ i o. (_, refl, h (leaf i (M.Word j)) o (λ w. c (word j i w)) g (refl, refl) (λ w. refl))
      go false g = cast (is_cast j) refl
  k_primary (Some m) vs c h = λ i o. (_, refl, h (leaf i m) o (λ w. c (spot m i ∷ w)) refl (refl, refl) (λ w. refl))

  pub k_post : (o : Option Mark) (vs : Values) (c : Fn) → Typed (Read PostTail ∷ k) o vs c → Kept (move PostTail o) k o vs c
  k_post (Some (M.Punct p)) (expr_val l ∷ us) c h = go (eqb (looseness p) 0) refl
    where
      called : Kept (cond (same_punct P.OpenParen p) (eat (Read ArgsRest ∷ Make DoCall ∷ Read PostTail ∷ [])) halt) k (Some (M.Punct p)) (expr_val l ∷ us) c
      called = kept_sign P.OpenParen (Read ArgsRest ∷ Make DoCall ∷ Read PostTail ∷ []) halt k (Some (M.Punct p)) (expr_val l ∷ us) c
          (λ i o. (c, (λ w. refl), λ a o1 d sa f. (_, refl, (h.0, (λ w. f w ∙ h.1 (spell_args a w)), refl, (h.2, h.3, sa, refl), h.4)))) (tt {0})

      of : (b : Bool) → is_member p ≡ b → Kept (cond b (eat (Expect AName ∷ Make DoMember ∷ Read PostTail ∷ [])) (cond (same_punct P.OpenParen p) (eat (Read ArgsRest ∷ Make DoCall ∷ Read PostTail ∷ [])) halt)) k (Some (M.Punct p)) (expr_val l ∷ us) c
      of true g = λ i o n j o1. (_, refl, (h.0, (λ w. h.1 (sign p i (name n j w))), refl, (g, h.2, h.3, refl), h.4))
      of false g = called

      stepping : (b : Bool) → is_step p ≡ b → Kept (cond b (eat (Make DoStepped ∷ Read PostTail ∷ [])) (cond (is_member p) (eat (Expect AName ∷ Make DoMember ∷ Read PostTail ∷ [])) (cond (same_punct P.OpenParen p) (eat (Read ArgsRest ∷ Make DoCall ∷ Read PostTail ∷ [])) halt))) k (Some (M.Punct p)) (expr_val l ∷ us) c
      stepping true g = λ i o. (_, refl, (h.0, (λ w. h.1 (sign p i w)), refl, (g, h.2, h.3, refl), h.4))
      stepping false g = of (is_member p) refl

      go : (b : Bool) → eqb (looseness p) 0 ≡ b → Kept (cond b (post_move (Some (M.Punct p))) (push [])) k (Some (M.Punct p)) (expr_val l ∷ us) c
      go true g = stepping (is_step p) refl
      go false g = h.4 l (Some (M.Punct p)) c h.3 h.2 refl refl h.1
  k_post o (expr_val l ∷ us) c h = h.4 l o c h.3 h.2 refl refl h.1
  k_post o _ c h = absurd h

  pub k_std_rest : (o : Option Mark) (vs : Values) (c : Fn) → Typed (Read StdRest ∷ k) o vs c → Kept (move StdRest o) k o vs c
  k_std_rest (Some (M.Name n)) (mark_val z j ∷ mark_val m i ∷ us) c h = go (eqb n contracts_name) refl
    where
      go : (b : Bool) → eqb n contracts_name ≡ b → Kept (cond b (eat (Read StdMore ∷ [])) (eat (Make DoStandard ∷ []))) k (Some (M.Name n)) (mark_val z j ∷ mark_val m i ∷ us) c
      go true g = λ y o. (h.0, (λ w. h.1 (name n y w)), g, h.2)
      go false g = λ y o. (_, refl, h.2 (standard i j n y) o (λ w. c (name n y w)) (tt {0}) (refl, refl) (λ w. h.1 (name n y w)))
  k_std_rest (Some (M.Class n)) (mark_val z j ∷ mark_val m i ∷ us) c h = go (eqb n contracts_name) refl
    where
      go : (b : Bool) → eqb n contracts_name ≡ b → Kept (cond b (eat (s P.Scope ∷ Expect AName ∷ s P.Scope ∷ Expect AName ∷ Make DoLibrary ∷ [])) halt) k (Some (M.Class n)) (mark_val z j ∷ mark_val m i ∷ us) c
      go true g = λ y o y1 o1 t y2 o2 y3 o3 v y4 o4. (_, refl, h.2 (library i j (M.Class n) y y1 t y2 y3 v y4) o4 (λ w. c (class_name n y (sign P.Scope y1 (name t y2 (sign P.Scope y3 (name v y4 w)))))) g (refl, refl) (λ w. h.1 (class_name n y (sign P.Scope y1 (name t y2 (sign P.Scope y3 (name v y4 w)))))))
      go false g = tt {0}
  k_std_rest _ (mark_val z j ∷ mark_val m i ∷ us) c h = tt {0}
  k_std_rest _ _ c h = absurd h

  pub k_std_more : (o : Option Mark) (vs : Values) (c : Fn) → Typed (Read StdMore ∷ k) o vs c → Kept (move StdMore o) k o vs c
  k_std_more o (mark_val (M.Name n) y ∷ mark_val z j ∷ mark_val m i ∷ us) c h =
      kept_sign P.Scope (Expect AName ∷ s P.Scope ∷ Expect AName ∷ Make DoLibrary ∷ []) (push (Make DoStandard ∷ [])) k o (mark_val (M.Name n) y ∷ mark_val z j ∷ mark_val m i ∷ us) c
      (λ y1 o1 t y2 o2 y3 o3 v y4 o4. (_, refl, h.3 (library i j (M.Name n) y y1 t y2 y3 v y4) o4 (λ w. c (sign P.Scope y1 (name t y2 (sign P.Scope y3 (name v y4 w))))) h.2 (refl, refl) (λ w. h.1 (sign P.Scope y1 (name t y2 (sign P.Scope y3 (name v y4 w)))))))
      (_, refl, h.3 (standard i j n y) o c (tt {0}) (refl, refl) h.1)
  k_std_more o _ c h = absurd h

  pub k_args : (o : Option Mark) (vs : Values) (c : Fn) → Typed (Read ArgsRest ∷ k) o vs c → Kept (move ArgsRest o) k o vs c
  k_args o (mark_val m i ∷ us) c h =
      kept_sign P.CloseParen (Make DoNoArgs ∷ []) (push (Read Assign ∷ Make DoOne ∷ Read SeveralTail ∷ s P.CloseParen ∷ Make DoArgs ∷ [])) k o (mark_val m i ∷ us) c
      (λ j o1. (_, refl, h.2 (no_args i j) o1 (λ w. c (sign P.CloseParen j w)) (tt {0}) (λ w. h.1 (sign P.CloseParen j w))))
      (λ e o1 d z q f. (_, refl, (c, f, z, λ a o2 d2 sa f2 j o3. (_, refl, h.2 (args i a j) o3 (λ w. d2 (sign P.CloseParen j w)) sa (λ w. f2 (sign P.CloseParen j w) ∙ h.1 (spell_several a (sign P.CloseParen j w)))))))
  k_args o _ c h = absurd h

  pub k_several : (o : Option Mark) (vs : Values) (c : Fn) → Typed (Read SeveralTail ∷ k) o vs c → Kept (move SeveralTail o) k o vs c
  k_several o (list_val l ∷ us) c h =
      kept_sign P.Comma (Read Assign ∷ Make DoAlso ∷ Read SeveralTail ∷ []) (push []) k o (list_val l ∷ us) c
      (λ i o e o1 d z q f. (_, refl, (h.0, (λ w. f w ∙ h.1 (sign P.Comma i (spell_expr e w))), (h.2, z), h.3)))
      (h.3 l o c h.2 h.1)
  k_several o _ c h = absurd h

  pub k_optional : (o : Option Mark) (vs : Values) (c : Fn) → Typed (Read OptExpr ∷ k) o vs c → Kept (move OptExpr o) k o vs c
  k_optional o vs c h = kept_either (is_end o) (push (Make DoAbsent ∷ [])) (push (Read Assign ∷ Make DoPresent ∷ [])) k o vs c
      (_, refl, h None o c (tt {0}) (λ w. refl))
      (λ e o1 d z q f. (_, refl, h (Some e) o1 d z f))

  -- what may follow an operand at a level and below
  pub tails_typed : (d : ℕ) (j : List Symbol) (l : Expr) (us : Values) (o : Option Mark) (c b : Fn) → d ≤ 10 → ((w : Spots) → c w ≡ b (spell_expr l w)) → is_postfix l ≡ true → Shaped l
      → ((e : Expr) (o : Option Mark) (a : Fn) → Shaped e → rank e ≤ d → first e ≡ first l → begins_type e ≡ begins_type l → ((w : Spots) → a w ≡ b (spell_expr e w)) → Typed j o (expr_val e ∷ us) a)
      → Typed (tails d j) o (expr_val l ∷ us) c
  tails_typed zero j l us o c b x q p z g = (b, q, p, z, λ e o1 a s1 p1 t1 y1 f1. g e o1 a s1 (omega (arith, postfix_rank e p1)) t1 y1 f1)
  tails_typed (suc d) j l us o c b x q p z g =
      tails_typed d (Read (LevelTail (suc d)) ∷ j) l us o c b (omega arith) q p z
      (λ e o1 a s1 r1 t1 y1 f1. (x, (b, f1, omega (arith, r1), s1, λ e2 o2 a2 s2 r2 t2 y2 f2. g e2 o2 a2 s2 r2 (t2 ∙ t1) (y2 ∙ y1) f2)))
