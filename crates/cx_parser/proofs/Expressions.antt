-- The machine reads each shaped expression.
use Rattle.std.proofs.Common.{◌≡◌, ℕ, zero, suc, Bool, true, false, cond, List, ◌∷◌, Option, Some, None, refl, sym, subst, arith}
use Rattle.cx_syntax.specs.declared.mark.Punct.{Punct}
use Rattle.cx_syntax.specs.declared.mark.Punct.TheVariants as P
use Rattle.cx_syntax.specs.declared.mark.Word.{Word}
use Rattle.cx_syntax.specs.declared.mark.Word.TheVariants as W
use Rattle.cx_syntax.specs.declared.mark.Mark.{Mark}
use Rattle.cx_syntax.specs.declared.mark.Mark.TheVariants as M
use Rattle.cx_table.specs.declared.symbol.Act.TheVariants.{DoOne}
use Rattle.cx_table.specs.declared.symbol.Part.TheVariants.{Assign, Cond, Operand, LevelTail, PostTail, SeveralTail, OptExpr}
use Rattle.cx_table.specs.declared.symbol.Symbol.{Symbol}
use Rattle.cx_table.specs.declared.symbol.Symbol.TheVariants.{Make, Read}
use Rattle.cx_parser.proofs.Facts.{Opens, cast_facts, cast_opens, leaf_opens, prefix_opens}
use Rattle.cx_parser.proofs.Runs.{Takes, by_step, done, eqb_above, steps, thus}
use Rattle.cx_parser.proofs.Spine.{Good, Listed, Whole, assign_good, binary_good, call_post, choose_good, full_good, member_post, open_args, postfix_good, stepped_post}
use Rattle.cx_parser.proofs.Types.{type_run}
use Rattle.cx_parser.specs.Machine.{Config, config, front}
use Rattle.cx_values.specs.Values.{Values, expr_val, list_val, maybe_val}
use Rattle.cx_syntax.specs.Same.{same_punct}
use Rattle.cx_syntax.specs.Shaped.{IfShaped, Shaped, ShapedArgs, ShapedCond, ShapedSeveral, contracts_name, is_leaf, is_named}
use Rattle.cx_syntax.specs.Spell.{Spots, if_expr, name, sign, spell_args, spell_expr, spell_several}
use Rattle.cx_syntax.specs.Tree.{Args, Expr, Several, also, args, assign, binary, call, choose, leaf, library, member, no_args, one, paren, standard, static_cast, stepped, temporary, unary, word_cast}
use Rattle.cx_table.specs.Sorts.{is_end, is_mark, is_prefix_mark, loose}

-- its first mark
abbrev pub first : Expr → Mark
first (leaf i m) = m
first (paren i e j) = M.Punct P.OpenParen
first (temporary i n a) = M.Class n
first (word_cast i k j e l) = M.Word k
first (static_cast i j t k l e z) = M.Word W.StaticCast
first (standard i j n k) = M.Std
first (library i j m k l t a z n b) = M.Std
first (member i e p j n k) = first e
first (call i e a) = first e
first (stepped i e p j) = first e
first (unary i p e) = M.Punct p
first (binary i l p j r) = first l
first (choose i c j a k b) = first c
first (assign i l p j r) = first l

pub front_first : (e : Expr) (w : Spots) → front (spell_expr e w) ≡ Some (first e)
front_first (leaf i m) w = refl
front_first (paren i e j) w = refl
front_first (temporary i n a) w = refl
front_first (word_cast i k j e l) w = refl
front_first (static_cast i j t k l e z) w = refl
front_first (standard i j n k) w = refl
front_first (library i j m k l t a z n b) w = refl
front_first (member i e p j n k) w = front_first e (sign p j (name n k w))
front_first (call i e a) w = front_first e (spell_args a w)
front_first (stepped i e p j) w = front_first e (sign p j w)
front_first (unary i p e) w = refl
front_first (binary i l p j r) w = front_first l (sign p j (spell_expr r w))
front_first (choose i c j a k b) w = front_first c (sign P.Question j (spell_expr a (sign P.Colon k (spell_expr b w))))
front_first (assign i l p j r) w = front_first l (sign p j (spell_expr r w))

pub first_opens : (e : Expr) → Shaped e → Opens (Some (first e))
first_opens (leaf i m) h = leaf_opens m h
first_opens (paren i e j) h = (refl, refl, refl, refl)
first_opens (temporary i n a) h = (refl, refl, refl, refl)
first_opens (word_cast i k j e l) h = cast_opens k h.0
first_opens (static_cast i j t k l e z) h = (refl, refl, refl, refl)
first_opens (standard i j n k) h = (refl, refl, refl, refl)
first_opens (library i j m k l t a z n b) h = (refl, refl, refl, refl)
first_opens (member i e p j n k) h = first_opens e h.2
first_opens (call i e a) h = first_opens e h.1
first_opens (stepped i e p j) h = first_opens e h.2
first_opens (unary i p e) h = prefix_opens p h.0
first_opens (binary i l p j r) h = first_opens l h.4
first_opens (choose i c j a k b) h = first_opens c h.1
first_opens (assign i l p j r) h = first_opens l h.2

pub expr_opens : (e : Expr) (w : Spots) → Shaped e → Opens (front (spell_expr e w))
expr_opens e w h = subst Opens (sym (front_first e w)) (first_opens e h)

several_opens : (l : Several) (w : Spots) → ShapedSeveral l → Opens (front (spell_several l w))
several_opens (one e) w h = expr_opens e w h
several_opens (also l i e) w h = several_opens l (sign P.Comma i (spell_expr e w)) h.0

pub no_close : (o : Option Mark) → is_end o ≡ false → is_mark P.CloseParen o ≡ false
no_close (Some (M.Punct p)) h = go (same_punct P.CloseParen p) refl h
  where
    go : (b : Bool) → same_punct P.CloseParen p ≡ b → cond b true (same_punct P.Semicolon p) ≡ false → same_punct P.CloseParen p ≡ false
    go true e g = absurd (cc)
    go false e g = e
no_close (Some _) h = refl
no_close None h = refl

leaf_prefix : (m : Mark) → is_leaf m ≡ true → is_prefix_mark (Some m) ≡ false
leaf_prefix (M.Punct p) h = absurd (cc)
leaf_prefix _ h = refl

abbrev pub E0 : ℕ → List Symbol → Values → Spots → Config
E0 d ks vs u = config (Read (Operand d) ∷ ks) vs u

pub down0 : (d : ℕ) (ks : List Symbol) (vs : Values) (u : Spots) → Takes (E0 (suc d) ks vs u) (E0 d (Read (LevelTail (suc d)) ∷ ks) vs u)
down0 d ks vs u = steps 1 (done _)

primary_standard : (i j n k : ℕ) (ks : List Symbol) (vs : Values) (w : Spots) → is_mark P.Scope (front w) ≡ false → Takes (config (Read (Operand 0) ∷ ks) vs (spell_expr (standard i j n k) w)) (config (Read PostTail ∷ ks) (expr_val (standard i j n k) ∷ vs) w)
primary_standard i j zero k ks vs w c = steps 4 (steps 1 (rw c (steps 1 (done _))))
primary_standard i j (suc n) k ks vs w c = steps 4 (rw (eqb_above (suc n) 0 (omega arith)) (steps 1 (done _)))

library_run : (m : Mark) → is_named contracts_name m ≡ true → (i j k l t a z n b : ℕ) (ks : List Symbol) (vs : Values) (w : Spots) → Takes (config (Read (Operand 0) ∷ ks) vs (spell_expr (library i j m k l t a z n b) w)) (config (Read PostTail ∷ ks) (expr_val (library i j m k l t a z n b) ∷ vs) w)
library_run (M.Name c) h i j k l t a z n b ks vs w = steps 4 (rw h (steps 5 (done _)))
library_run (M.Class c) h i j k l t a z n b ks vs w = steps 4 (rw h (steps 5 (done _)))
library_run _ h i j k l t a z n b ks vs w = absurd (cc)

-- the parts of an expression, read
whole_of : (e : Expr) → Good E0 down0 e → Whole e
whole_of e g ks vs w l = steps 1 (g.2 ks vs w l)

mutual
  pub good : (e : Expr) → Shaped e → Good E0 down0 e
  good (leaf i m) h = postfix_good E0 down0 (leaf i m) refl (λ ks vs w _. steps 1 (rw (leaf_prefix m h) (steps 1 (rw h (steps 1 (done _))))))
  good (paren i e j) h = postfix_good E0 down0 (paren i e j) refl (λ ks vs w _. steps 2 (thus (whole_of e (good e h) _ _ (sign P.CloseParen j w) refl) (steps 2 (done _))))
  good (temporary i n a) h = postfix_good E0 down0 (temporary i n a) refl (λ ks vs w _. steps 2 (by_step (open_args a _ _ w) (thus (listed a h _ _ w) (steps 1 (done _)))))
  good (word_cast i k j e l) h = postfix_good E0 down0 (word_cast i k j e l) refl (λ ks vs w _. steps 2 (rw ((cast_facts k h.0).0, h.0) (steps 1 (thus (whole_of e (good e h.1) _ _ (sign P.CloseParen l w) refl) (steps 2 (done _))))))
  good (static_cast i j t k l e z) h = postfix_good E0 down0 (static_cast i j t k l e z) refl (λ ks vs w _. steps 3 (thus (type_run t h.0 _ _ (sign P.Greater k (sign P.OpenParen l (spell_expr e (sign P.CloseParen z w)))) (refl, refl, refl, refl)) (steps 2 (thus (whole_of e (good e h.1) _ _ (sign P.CloseParen z w) refl) (steps 2 (done _))))))
  good (standard i j n k) h = postfix_good E0 down0 (standard i j n k) refl (primary_standard i j n k)
  good (library i j m k l t a z n b) h = postfix_good E0 down0 (library i j m k l t a z n b) refl (λ ks vs w _. library_run m h i j k l t a z n b ks vs w)
  good (member i e p j n k) h = postfix_good E0 down0 (member i e p j n k) refl (member_post E0 down0 i e p j n k h.0 h.3 ((good e h.2).0 h.1))
  good (call i e a) h = postfix_good E0 down0 (call i e a) refl (call_post E0 down0 i e a h.3 (listed a h.2) ((good e h.1).0 h.0))
  good (stepped i e p j) h = postfix_good E0 down0 (stepped i e p j) refl (stepped_post E0 down0 i e p j h.0 h.3 ((good e h.2).0 h.1))
  good (unary i p e) h = full_good E0 down0 (unary i p e) refl refl (λ ks vs w l. steps 1 (rw h.0 (thus (((good e h.2).1 (omega arith)).0 0 (omega arith) _ _ w l) (steps 1 (done _)))))
  good (binary i l p j r) h = binary_good E0 down0 i l p j r h.0 h.1 h.2 h.6 (good l h.4) (λ d q. ((good r h.5).1 (omega arith)).0 d (omega arith))
  good (choose i c j a k b) h = choose_good E0 down0 i c j a k b h.0 h.4 (good c h.1) (whole_of a (good a h.2)) (whole_of b (good b h.3))
  good (assign i l p j r) h = assign_good E0 down0 i l p j r h.0 h.1 h.4 (good l h.2) (whole_of r (good r h.3))

  pub listed : (a : Args) → ShapedArgs a → Listed a
  listed (no_args i j) h ks vs w = steps 2 (done _)
  listed (args i l j) h ks vs w =
      steps 1 (rw (no_close (front (spell_several l (sign P.CloseParen j w))) (several_opens l (sign P.CloseParen j w) h).0) (thus (several l h _ _ (sign P.CloseParen j w) refl) (steps 3 (done _))))

  pub several : (l : Several) → ShapedSeveral l → (ks : List Symbol) (vs : Values) (w : Spots) → loose (front w) ≡ 12 → Takes (config (Read Assign ∷ Make DoOne ∷ Read SeveralTail ∷ ks) vs (spell_several l w)) (config (Read SeveralTail ∷ ks) (list_val l ∷ vs) w)
  several (one e) h ks vs w l = thus (whole_of e (good e h) _ _ w l) (steps 1 (done _))
  several (also r i e) h ks vs w l = thus (several r h.0 _ _ (sign P.Comma i (spell_expr e w)) refl) (steps 1 (thus (whole_of e (good e h.1) _ _ w l) (steps 1 (done _))))

pub whole : (e : Expr) → Shaped e → Whole e
whole e h = whole_of e (good e h)

-- a `cond`
pub cond_run : (e : Expr) → ShapedCond e → (ks : List Symbol) (vs : Values) (w : Spots) → loose (front w) ≡ 12 → Takes (config (Read Cond ∷ ks) vs (spell_expr e w)) (config ks (expr_val e ∷ vs) w)
cond_run e h ks vs w l = steps 1 ((good e h.1).3 h.0 ks vs w l)

pub optional_run : (e : Option Expr) → IfShaped e → (ks : List Symbol) (vs : Values) (w : Spots) → loose (front w) ≡ 12 → is_end (front w) ≡ true → Takes (config (Read OptExpr ∷ ks) vs (if_expr e w)) (config ks (maybe_val e ∷ vs) w)
optional_run None h ks vs w l c = steps 1 (rw c (steps 1 (done _)))
optional_run (Some e) h ks vs w l c = steps 1 (rw (expr_opens e w h).0 (thus (whole e h _ _ w l) (steps 1 (done _))))
