-- Whatever the stacks promise after a token was taken can be completed by tokens, where a class name is known or the stack needs none.
use Rattle.std.proofs.Common.{◌≡◌, ℕ, suc, ◌&&◌, Bool, true, false, eqb, List, [], ◌∷◌, ◌++◌, length, Option, Some, None, refl, ap, ◌∙◌, subst, arith, append_assoc, length-append}
use Rattle.std.specs.Prelude.{codes}
use Rattle.std.proofs.lemmas.Bool.{and_parts}
use Rattle.cx_syntax.specs.declared.token.TokenKind.TheVariants as T
use Rattle.cx_syntax.specs.declared.mark.Punct.{Punct}
use Rattle.cx_syntax.specs.declared.mark.Punct.TheVariants as P
use Rattle.cx_syntax.specs.declared.mark.Word.TheVariants as W
use Rattle.cx_syntax.specs.declared.mark.Mark.{Mark}
use Rattle.cx_syntax.specs.declared.mark.Mark.TheVariants as M
use Rattle.cx_table.specs.declared.symbol.Act.{Act}
use Rattle.cx_table.specs.declared.symbol.Kind.{Kind}
use Rattle.cx_table.specs.declared.symbol.Kind.TheVariants.{Sign, Keyword, AName, AClass, ANumber, TheContracts}
use Rattle.cx_table.specs.declared.symbol.Part.{Part}
use Rattle.cx_table.specs.declared.symbol.Part.TheVariants.{Assign, AssignTail, Cond, CondTail, Operand, LevelTail, Primary, PostTail, StdRest, StdMore, ArgsRest, SeveralTail, TypePart, BasePart, UnsignedTail, StarTail, OptWord, OptSign, LocalPart, InitPart, OptExpr, SimplePart, SimpleStd, StmtPart, BlockPart, StmtsPart, ElseTail, HandlerPart, HandlersTail, CatchPart, ParamPart, OptName, ParamsRest, ParamsTail, SuffixPart, SpecsPart, PostRest, PostName, TailPart, MakingPart, InitsPart, MemberInitPart, InitsTail, MembersPart, MemberPart, MemberRest, MemberClass, MemberName, VirtualRest, ItemsPart, ItemPart, ClassRest, Declaration, AfterClass, Special, AfterType, AfterName, ConstantPart}
use Rattle.cx_table.specs.declared.symbol.Symbol.{Symbol}
use Rattle.cx_table.specs.declared.symbol.Symbol.TheVariants.{Expect, Make, Read}
use Rattle.cx_parser.proofs.KeepsStatements.{not_both}
use Rattle.cx_parser.proofs.Typed.{Fn, Typed}
use Rattle.cx_values.specs.Values.{Values, expr_val, flag_val, handlers_val, init_row_val, list_val, mark_val, members_val, pointers_val, row_val, specs_val, stmt_val, stmts_val, type_val, unit_val}
use Rattle.cx_syntax.specs.Shaped.{ShapedUnit, contracts_name, is_open}
use Rattle.cx_syntax.specs.Spell.{Marks, name, numbered, sign, spell, spot, word}
use Rattle.cx_syntax.specs.Tree.{Suffix, TypeTree, UnitTree, access, after, any_catch, block, branches, class_base, class_named, constructor, declared, empty, evaluate, field, function, global, handler, leaf, local, member_init, method, no_args, no_init, no_inits, no_params, no_specs, no_stars, no_stmts, outer_constructor, param, plain, standard, suffix, type_tree, unmade, unnamed, without, word_base}
use Rattle.cx_syntax.specs.Shaped.{is_named}
use Rattle.cx_marks.specs.declared.spelled.Spelled.{Spelled}
use Rattle.cx_marks.specs.Marks.{Tokens, is_after_key, is_class_key, mark_at, marks_from, number}
use Rattle.cx_marks.specs.Place.{AreTokens}
use Rattle.cx_marks.proofs.Fronts.{mark_front}
use Rattle.cx_grammar.proofs.Good.{good, goods}
use Rattle.cx_marks.specs.Place.{IsToken}
use Rattle.cx_grammar.proofs.Realize.{HasClass, HasName, class_again, class_kept, contracts_mark, contracts_token, is_plain, key_next, name_again, name_kept, named, plain_is_token, plain_mark, plain_no_key, plain_token}

-- tokens that complete what `c` puts in front, from the place `n` on, behind the tokens `ts`
abbrev pub Completion : Tokens → ℕ → Fn → Type 0
Completion ts n c = (y : Tokens) × AreTokens y × (u : UnitTree) × ShapedUnit u × (c (numbered n (marks_from (ts ++ y) n y)) ≡ spell u)

pub before_token : (t : Spelled) (m : Mark) (n : ℕ) (c : Fn) (ts : Tokens) → length ts ≡ n → IsToken t → mark_at (ts ++ t ∷ []) n t.kind t.bytes.now ≡ m → Completion (ts ++ t ∷ []) (suc n) (λ w. c (spot m n ∷ w)) → Completion ts n c
unfolding marks_from
before_token t m n c ts e is marked f =
    let y : Tokens = f.0 in
    let a : (ts ++ t ∷ []) ++ y ≡ ts ++ (t ∷ y) = append_assoc ts (t ∷ []) y in
    let one : mark_at ((ts ++ t ∷ []) ++ y) n t.kind t.bytes.now ≡ m = subst (λ k. mark_at ((ts ++ t ∷ []) ++ y) k t.kind t.bytes.now ≡ mark_at (ts ++ t ∷ []) k t.kind t.bytes.now) e (mark_front ts t [] y t.kind refl) ∙ marked in
    let whole : mark_at (ts ++ (t ∷ y)) n t.kind t.bytes.now ≡ m = subst (λ x. mark_at x n t.kind t.bytes.now ≡ m) a one in
    let rest : c (spot m n ∷ numbered (suc n) (marks_from (ts ++ (t ∷ y)) (suc n) y)) ≡ spell f.2 = subst (λ x. c (spot m n ∷ numbered (suc n) (marks_from x (suc n) y)) ≡ spell f.2) a f.4 in
    (t ∷ y, (is, f.1), f.2, f.3, ap (λ x. c (spot x n ∷ numbered (suc n) (marks_from (ts ++ (t ∷ y)) (suc n) y))) whole ∙ rest)

-- what is known of the tokens so far
abbrev pub Knows : Bool → Tokens → Type 0
Knows b ts = (is_after_key ts (length ts) ≡ false) × (b ≡ true → HasClass ts) × HasName ts

longer : (ts : Tokens) (t : Spelled) (n : ℕ) → length ts ≡ n → length (ts ++ t ∷ []) ≡ suc n
longer ts t n e = length-append ts (t ∷ []) ∙ omega (arith, e)

knows_more : (b : Bool) (ts : Tokens) (t : Spelled) → is_class_key t ≡ false → Knows b ts → Knows b (ts ++ t ∷ [])
knows_more b ts t h k = (key_next ts t ∙ h, (λ e. class_kept ts t (k.1 e)), name_kept ts t k.0 k.2)

-- marks at their places in front of a list
abbrev put : ℕ → Marks → Fn
put n [] w = w
put n (m ∷ z) w = spot m n ∷ put (suc n) z w

-- the place after so many marks
abbrev past : ℕ → Marks → ℕ
past n [] = n
past n (m ∷ z) = past (suc n) z

abbrev all_plain : Marks → Bool
all_plain [] = true
all_plain (m ∷ z) = is_plain m && all_plain z

-- the tokens and parts of completions
abbrev a_sign : Punct → Mark
a_sign p = M.Punct p

abbrev second : ℕ → ℕ
second n = suc n

abbrev third : ℕ → ℕ
third n = suc (suc n)

abbrev fourth : ℕ → ℕ
fourth n = suc (suc (suc n))

abbrev fifth : ℕ → ℕ
fifth n = suc (suc (suc (suc n)))

abbrev sixth : ℕ → ℕ
sixth n = suc (suc (suc (suc (suc n))))

abbrev int_type : ℕ → TypeTree
int_type i = type_tree None (word_base W.Int i) no_stars None

abbrev no_suffix : Suffix
no_suffix = suffix None no_specs

module _ (b : Bool) where
  abbrev pub Completed : ℕ → Fn → Type 0
  Completed n c = (ts : Tokens) → length ts ≡ n → Knows b ts → Completion ts n c

  before1 : (m : Mark) → is_plain m ≡ true → (n : ℕ) (c : Fn) → Completed (suc n) (λ w. c (spot m n ∷ w)) → Completed n c
  before1 m p n c f ts e k = before_token (plain_token m) m n c ts e (plain_is_token m p) (plain_mark m (ts ++ plain_token m ∷ []) n p) (f (ts ++ plain_token m ∷ []) (longer ts (plain_token m) n e) (knows_more b ts (plain_token m) (plain_no_key m p) k))

  before_name : (n : ℕ) (c : Fn) → ((i : ℕ) → eqb i contracts_name ≡ false → Completed (suc n) (λ w. c (name i n w))) → Completed n c
  before_name n c f ts e k =
      let h : HasName ts = k.2 in
      let t : Spelled = named h.0 in
      let i : ℕ = number (ts ++ t ∷ []) h.0 in
      before_token t (M.Name i) n c ts e h.1 (subst (λ j. mark_at (ts ++ t ∷ []) j T.Name h.0 ≡ M.Name i) e (name_again ts h k.0)) (f i (h.3 (ts ++ t ∷ [])) (ts ++ t ∷ []) (longer ts t n e) (knows_more b ts t refl k))

  before_class : b ≡ true → (n : ℕ) (c : Fn) → ((i : ℕ) → Completed (suc n) (λ w. c (spot (M.Class i) n ∷ w))) → Completed n c
  before_class q n c f ts e k =
      let h : HasClass ts = k.1 q in
      let t : Spelled = named h.0 in
      let i : ℕ = number (ts ++ t ∷ []) h.0 in
      before_token t (M.Class i) n c ts e h.1 (subst (λ j. mark_at (ts ++ t ∷ []) j T.Name h.0 ≡ M.Class i) e (class_again ts h)) (f i (ts ++ t ∷ []) (longer ts t n e) (knows_more b ts t refl k))

  before_contracts : (n : ℕ) (c : Fn) → ((m : Mark) → is_named contracts_name m ≡ true → Completed (suc n) (λ w. c (spot m n ∷ w))) → Completed n c
  before_contracts n c f ts e k =
      let t : Spelled = named (codes "contracts") in
      let m : Mark = mark_at (ts ++ t ∷ []) n T.Name (codes "contracts") in
      before_token t m n c ts e contracts_token refl (f m (contracts_mark (ts ++ t ∷ []) n) (ts ++ t ∷ []) (longer ts t n e) (knows_more b ts t refl k))

  before_all : (z : Marks) → all_plain z ≡ true → (n : ℕ) (c : Fn) → Completed (past n z) (λ w. c (put n z w)) → Completed n c
  before_all [] p n c f = f
  before_all (m ∷ z) p n c f = let q = and_parts (is_plain m) (all_plain z) p in before1 m q.0 n c (before_all z q.1 (suc n) (λ w. c (spot m n ∷ w)) f)

  -- with a name between others
  before_named : (z : Marks) → all_plain z ≡ true → (y : Marks) → all_plain y ≡ true → (n : ℕ) (c : Fn) → ((i : ℕ) → eqb i contracts_name ≡ false → Completed (past (suc (past n z)) y) (λ w. c (put n z (name i (past n z) (put (suc (past n z)) y w))))) → Completed n c
  before_named z p y q n c f = before_all z p n c (before_name (past n z) (λ w. c (put n z w)) (λ i e. before_all y q (suc (past n z)) (λ w. c (put n z (name i (past n z) w))) (f i e)))

  module _ (k : List Symbol) (more : (vs : Values) (c : Fn) (n : ℕ) → ((o : Option Mark) → Typed k o vs c) → Completed n c) where
    c_part : (x : Part) → good b (Read x) ≡ true → (vs : Values) (c : Fn) (n : ℕ) → ((o : Option Mark) → Typed (Read x ∷ k) o vs c) → Completed n c
    c_part Assign q vs c n h = before1 M.Number refl n c (more _ _ (second n) (λ o. h (Some M.Number) (leaf n M.Number) o _ refl refl (λ w. refl)))
    c_part Cond q vs c n h = before1 M.Number refl n c (more _ _ (second n) (λ o. h None (leaf n M.Number) o _ refl refl (λ w. refl)))
    c_part (Operand d) q vs c n h = before1 M.Number refl n c (more _ _ (second n) (λ o. (h (Some M.Number)).1 (leaf n M.Number) o _ refl (omega arith, refl) (λ w. refl)))
    c_part Primary q vs c n h = before1 M.Number refl n c (more _ _ (second n) (λ o. h (Some M.Number) (leaf n M.Number) o _ refl (refl, refl) (λ w. refl)))
    c_part AssignTail q (expr_val l ∷ us) c n h = let g = (h None).0 in more _ _ n (λ o. g.4 l o c g.3 (tt {0}) refl refl g.1)
    c_part CondTail q (expr_val l ∷ us) c n h = let g = (h None).0 in more _ _ n (λ o. g.4 l o c g.3 g.2 refl refl g.1)
    c_part (LevelTail d) q (expr_val l ∷ us) c n h = let g = h None in more _ _ n (λ o. g.1.4 l o c g.1.3 g.1.2 refl refl g.1.1)
    c_part PostTail q (expr_val l ∷ us) c n h = let g = h None in more _ _ n (λ o. g.4 l o c g.3 g.2 refl refl g.1)
    c_part StdRest q (mark_val z j ∷ mark_val m i ∷ us) c n h = let g = h None in before_name n c (λ nm ne. more _ _ (second n) (λ o. g.2 (standard i j nm n) o (λ w. c (name nm n w)) (tt {0}) (refl, refl) (λ w. g.1 (name nm n w))))
    c_part StdMore q (mark_val (M.Name x) y ∷ mark_val z j ∷ mark_val m i ∷ us) c n h = let g = h None in more _ _ n (λ o. g.3 (standard i j x y) o c (tt {0}) (refl, refl) g.1)
    c_part ArgsRest q (mark_val m i ∷ us) c n h = let g = h None in before1 (M.Punct P.CloseParen) refl n c (more _ _ (second n) (λ o. g.2 (no_args i n) o (λ w. c (sign P.CloseParen n w)) (tt {0}) (λ w. g.1 (sign P.CloseParen n w))))
    c_part SeveralTail q (list_val l ∷ us) c n h = let g = h None in more _ _ n (λ o. g.3 l o c g.2 g.1)
    c_part TypePart q vs c n h = before1 (M.Word W.Int) refl n c (more _ _ (second n) (λ o. h None (int_type n) o _ (refl, omega arith) (λ w. refl)))
    c_part BasePart q vs c n h = before1 (M.Word W.Int) refl n c (more _ _ (second n) (λ o. h None (word_base W.Int n) o _ refl (λ w. refl)))
    c_part UnsignedTail q (mark_val (M.Word x) i ∷ us) c n h = let g = h None in more _ _ n (λ o. g.3 (word_base W.Unsigned i) o c refl g.1)
    c_part (StarTail d) q (pointers_val f b p ∷ us) c n h = let g = h None in more _ _ n (λ o. g.3 p o c (omega (arith, g.2)) g.1)
    c_part (OptWord j) q vs c n h = more _ _ n (λ o. h None None o c (λ w. refl))
    c_part (OptSign p) q vs c n h = more _ _ n (λ o. h None None o c (λ w. refl))
    c_part LocalPart q vs c n h = before_named ((M.Word W.Int) ∷ []) refl [] refl n c (λ nm ne. more _ _ (third n) (λ o. h None (local (int_type n) nm (second n) no_init) o _ ((refl, omega arith), tt {0}) (λ w. refl)))
    c_part InitPart q vs c n h = more _ _ n (λ o. h None no_init o c (tt {0}) (λ w. refl))
    c_part OptExpr q vs c n h = more _ _ n (λ o. h None None o c (tt {0}) (λ w. refl))
    c_part SimplePart q vs c n h = before1 (a_sign P.Semicolon) refl n c (more _ _ (second n) (λ o. h None (empty n) o _ refl (tt {0}) (λ w. refl)))
    c_part SimpleStd q (mark_val z j ∷ mark_val m i ∷ us) c n h =
        let g = h None in
        before_named [] refl ((a_sign P.Semicolon) ∷ []) refl n c (λ nm ne. more _ _ (third n) (λ o. g.2 (evaluate (standard i j nm n) (second n)) o (λ w. c (name nm n (sign P.Semicolon (second n) w))) refl (ne, tt {0}) (λ w. g.1 (name nm n (sign P.Semicolon (second n) w)))))
    c_part StmtPart q vs c n h = before1 (a_sign P.Semicolon) refl n c (more _ _ (second n) (λ o. h None (empty n) o _ (tt {0}) (λ y. absurd (cc)) (λ w. refl)))
    c_part BlockPart q vs c n h = before_all ((M.Punct P.OpenBrace) ∷ (M.Punct P.CloseBrace) ∷ []) refl n c (more _ _ (third n) (λ o. h None (block n no_stmts (second n)) o _ (tt {0}) (λ w. refl)))
    c_part StmtsPart q (stmts_val l ∷ us) c n h = let g = h None in more _ _ n (λ o. g.3 l o c g.2 g.1)
    c_part ElseTail q (stmt_val t ∷ mark_val x l ∷ expr_val e ∷ mark_val y j ∷ mark_val z i ∷ us) c n h =
        let g = h (Some (M.Word W.Else)) in
        before_all ((M.Word W.Else) ∷ (a_sign P.Semicolon) ∷ []) refl n c (more _ _ (third n) (λ o. g.5 (branches i j e l t n (empty (second n))) o (λ w. c (word W.Else n (sign P.Semicolon (second n) w))) (g.2, g.3, not_both (is_open t) true g.4 refl, tt {0}) (λ y. absurd (cc)) (λ w. g.1 (word W.Else n (sign P.Semicolon (second n) w)))))
    c_part HandlersTail q (handlers_val l ∷ us) c n h = let g = h None in more _ _ n (λ o. g.3 l o c g.2 g.1)
    c_part CatchPart q vs c n h = before1 (M.Punct P.Ellipsis) refl n c (more _ _ (second n) (λ o. h None (any_catch n) o _ (tt {0}) (λ w. refl)))
    c_part ParamPart q vs c n h = before1 (M.Word W.Int) refl n c (more _ _ (second n) (λ o. h None (param (int_type n) unnamed) o _ (refl, omega arith) (λ w. refl)))
    c_part OptName q vs c n h = more _ _ n (λ o. h None unnamed o c (tt {0}) (λ w. refl))
    c_part ParamsRest q (mark_val m i ∷ us) c n h = let g = h None in before1 (M.Punct P.CloseParen) refl n c (more _ _ (second n) (λ o. g.2 (no_params i n) o (λ w. c (sign P.CloseParen n w)) (tt {0}) (λ w. g.1 (sign P.CloseParen n w))))
    c_part ParamsTail q (row_val l ∷ us) c n h = let g = h None in more _ _ n (λ o. g.3 l o c g.2 g.1)
    c_part SuffixPart q vs c n h = more _ _ n (λ o. h None (suffix None no_specs) o c (tt {0}) (λ w. refl))
    c_part SpecsPart q (specs_val l ∷ us) c n h = let g = h None in more _ _ n (λ o. g.3 l o c g.2 g.1)
    c_part PostRest q (mark_val z j ∷ mark_val m i ∷ us) c n h =
        let g = h None in
        before_all (M.Number ∷ a_sign P.CloseParen ∷ []) refl n c (more _ _ (third n) (λ o. g.3 (after m i j (leaf n M.Number) (second n)) o (λ w. c (spot M.Number n ∷ sign P.CloseParen (second n) w)) (g.2, (refl, refl)) (λ w. g.1 (spot M.Number n ∷ sign P.CloseParen (second n) w))))
    c_part PostName q (mark_val (M.Name x) y ∷ mark_val z j ∷ mark_val m i ∷ us) c n h =
        let g = h None in
        before1 (M.Punct P.CloseParen) refl n c (more _ _ (second n) (λ o. g.3 (after m i j (leaf y (M.Name x)) n) o (λ w. c (sign P.CloseParen n w)) (g.2, (refl, refl)) (λ w. g.1 (sign P.CloseParen n w))))
    c_part TailPart q vs c n h = before1 (a_sign P.Semicolon) refl n c (more _ _ (second n) (λ o. h None (declared n) o _ (tt {0}) (λ w. refl)))
    c_part MakingPart q vs c n h = before1 (a_sign P.Semicolon) refl n c (more _ _ (second n) (λ o. h None (unmade n) o _ (tt {0}) (λ w. refl)))
    c_part InitsPart q vs c n h = more _ _ n (λ o. h None no_inits o c (tt {0}) (λ w. refl))
    c_part MemberInitPart q vs c n h = before_named [] refl ((M.Punct P.OpenParen) ∷ (M.Punct P.CloseParen) ∷ []) refl n c (λ nm ne. more _ _ (fourth n) (λ o. h None (member_init nm n (no_args (second n) (third n))) o _ (tt {0}) (λ w. refl)))
    c_part InitsTail q (init_row_val l ∷ us) c n h = let g = h None in more _ _ n (λ o. g.3 l o c g.2 g.1)
    c_part MembersPart q (members_val l ∷ us) c n h = let g = h None in more _ _ n (λ o. g.3 l o c g.2 g.1)
    c_part MemberPart q vs c n h = before_all ((M.Word W.Public) ∷ (M.Punct P.Colon) ∷ []) refl n c (more _ _ (third n) (λ o. h None (access n W.Public (second n)) o _ refl (λ w. refl)))
    c_part ItemsPart q (unit_val l ∷ us) c n h = let g = h None in more _ _ n (λ o. g.3 l o c g.2 g.1)
    c_part ItemPart q vs c n h = before_named ((M.Word W.Int) ∷ []) refl ((a_sign P.Semicolon) ∷ []) refl n c (λ nm ne. more _ _ (fourth n) (λ o. h None (global (int_type n) nm (second n) without (third n)) o _ ((refl, omega arith), tt {0}) (λ w. refl)))
    c_part ClassRest q (mark_val (M.Class x) j ∷ mark_val (M.Word y) i ∷ us) c n h = let g = h None in before1 (a_sign P.Semicolon) refl n c (more _ _ (second n) (λ o. g.3 (class_named i y x j n) o (λ w. c (sign P.Semicolon n w)) g.2 (λ w. g.1 (sign P.Semicolon n w))))
    c_part ConstantPart q vs c n h = before1 M.Number refl n c (more _ _ (second n) (λ o. h None (plain n M.Number) o _ refl (λ w. refl)))
    c_part HandlerPart q vs c n h =
        before_all (M.Word W.Catch ∷ a_sign P.OpenParen ∷ a_sign P.Ellipsis ∷ a_sign P.CloseParen ∷ a_sign P.OpenBrace ∷ a_sign P.CloseBrace ∷ []) refl n c
        (more _ _ (suc (sixth n)) (λ o. h None (handler n (second n) (any_catch (third n)) (fourth n) (block (fifth n) no_stmts (sixth n))) o _ (tt {0}, tt {0}) (λ w. refl)))
    c_part MemberRest q (flag_val None ∷ us) c n h =
        before_named (M.Word W.Int ∷ []) refl (a_sign P.Semicolon ∷ []) refl n c (λ nm ne. more _ _ (fourth n) (λ o. h None (field (int_type n) nm (second n) (third n)) o _ (refl, omega arith) (λ w. refl)))
    c_part MemberClass q (mark_val (M.Class x) i ∷ flag_val None ∷ us) c n h =
        let g = h None in
        let z : Marks = a_sign P.OpenParen ∷ a_sign P.CloseParen ∷ a_sign P.Semicolon ∷ [] in
        before_all z refl n c (more _ _ (fourth n) (λ o. g.2 (constructor None x i (no_params n (second n)) no_suffix (unmade (third n))) o _ (tt {0}, tt {0}, tt {0}) (λ w. g.1 (put n z w))))
    c_part MemberName q (mark_val (M.Name x) i ∷ type_val t ∷ flag_val None ∷ us) c n h =
        let g = h None in
        before1 (a_sign P.Semicolon) refl n c (more _ _ (second n) (λ o. g.3 (field t x i n) o (λ w. c (sign P.Semicolon n w)) g.2 (λ w. g.1 (sign P.Semicolon n w))))
    c_part VirtualRest q (flag_val v ∷ us) c n h =
        let g = h None in
        before_named (M.Word W.Int ∷ []) refl (a_sign P.OpenParen ∷ a_sign P.CloseParen ∷ a_sign P.Semicolon ∷ []) refl n c (λ nm ne. let z : Marks = M.Word W.Int ∷ M.Name nm ∷ a_sign P.OpenParen ∷ a_sign P.CloseParen ∷ a_sign P.Semicolon ∷ [] in more _ _ (sixth n) (λ o. g.2 (method v (int_type n) nm (second n) (no_params (third n) (fourth n)) None no_suffix (declared (fifth n))) o _ ((refl, omega arith), tt {0}, tt {0}, tt {0}) (λ w. g.1 (put n z w))))
    c_part (Declaration x) q (flag_val l ∷ us) c n h =
        let g = h None in
        before_named (M.Word W.Int ∷ []) refl (a_sign P.OpenParen ∷ a_sign P.CloseParen ∷ a_sign P.Semicolon ∷ []) refl n c (λ nm ne. let z : Marks = M.Word W.Int ∷ M.Name nm ∷ a_sign P.OpenParen ∷ a_sign P.CloseParen ∷ a_sign P.Semicolon ∷ [] in more _ _ (sixth n) (λ o. g.3 (function l (int_type n) nm (second n) (no_params (third n) (fourth n)) no_suffix (declared (fifth n))) o _ ((refl, omega arith), tt {0}, tt {0}, tt {0}) (λ w. g.1 (put n z w))))
    c_part (AfterClass x) q (mark_val (M.Class y) i ∷ flag_val l ∷ us) c n h =
        let g = h None in
        before_named [] refl (a_sign P.OpenParen ∷ a_sign P.CloseParen ∷ a_sign P.Semicolon ∷ []) refl n c (λ nm ne. let z : Marks = M.Name nm ∷ a_sign P.OpenParen ∷ a_sign P.CloseParen ∷ a_sign P.Semicolon ∷ [] in more _ _ (fifth n) (λ o. g.3 (function l (type_tree None (class_base y i) no_stars None) nm n (no_params (second n) (third n)) no_suffix (declared (fourth n))) o _ ((tt {0}, omega arith), tt {0}, tt {0}, tt {0}) (λ w. g.1 (put n z w))))
    c_part Special q (mark_val x j ∷ mark_val (M.Class y) i ∷ flag_val l ∷ us) c n h =
        let g = h None in
        before_class q n c (λ nm.
        let z : Marks = M.Class nm ∷ a_sign P.OpenParen ∷ a_sign P.CloseParen ∷ a_sign P.OpenBrace ∷ a_sign P.CloseBrace ∷ [] in
        before_all (a_sign P.OpenParen ∷ a_sign P.CloseParen ∷ a_sign P.OpenBrace ∷ a_sign P.CloseBrace ∷ []) refl (suc n) (λ w. c (spot (M.Class nm) n ∷ w)) (more _ _ (sixth n) (λ o. g.2 (outer_constructor l y i j nm n (no_params (second n) (third n)) no_suffix no_inits (block (fourth n) no_stmts (fifth n))) o _ (tt {0}, tt {0}, tt {0}, tt {0}) (λ w. g.1 (put n z w)))))
    c_part (AfterType x) q (type_val t ∷ flag_val l ∷ us) c n h =
        let g = h None in
        before_named [] refl (a_sign P.OpenParen ∷ a_sign P.CloseParen ∷ a_sign P.Semicolon ∷ []) refl n c (λ nm ne. let z : Marks = M.Name nm ∷ a_sign P.OpenParen ∷ a_sign P.CloseParen ∷ a_sign P.Semicolon ∷ [] in more _ _ (fifth n) (λ o. g.4 (function l t nm n (no_params (second n) (third n)) no_suffix (declared (fourth n))) o _ (g.3, tt {0}, tt {0}, tt {0}) (λ w. g.1 (put n z w))))
    c_part (AfterName x) q (mark_val (M.Name y) i ∷ type_val t ∷ flag_val l ∷ us) c n h =
        let g = h None in
        let z : Marks = a_sign P.OpenParen ∷ a_sign P.CloseParen ∷ a_sign P.Semicolon ∷ [] in
        before_all z refl n c (more _ _ (fourth n) (λ o. g.4 (function l t y i (no_params n (second n)) no_suffix (declared (third n))) o _ (g.3, tt {0}, tt {0}, tt {0}) (λ w. g.1 (put n z w))))
    c_part _ q _ c n h = absurd (h None)

    c_token : (t : Kind) → good b (Expect t) ≡ true → (vs : Values) (c : Fn) (n : ℕ) → ((o : Option Mark) → Typed (Expect t ∷ k) o vs c) → Completed n c
    c_token (Sign p) q vs c n h = before1 (M.Punct p) refl n c (more _ _ (suc n) (h None n))
    c_token (Keyword j) q vs c n h = before1 (M.Word j) q n c (more _ _ (suc n) (h None n))
    c_token AName q vs c n h = before_name n c (λ i ne. more _ _ (suc n) (h None i n))
    c_token AClass q vs c n h = before_class q n c (λ i. more _ _ (suc n) (h None i n))
    c_token ANumber q vs c n h = before1 M.Number refl n c (more _ _ (suc n) (h None n))
    c_token TheContracts q vs c n h = before_contracts n c (λ m e. more _ _ (suc n) (λ o. h None m n o e))

    c_act : (a : Act) (vs : Values) (c : Fn) (n : ℕ) → ((o : Option Mark) → Typed (Make a ∷ k) o vs c) → Completed n c
    c_act a vs c n h =
        let g = h None in
        more g.0 c n (λ o. let x = h o in let e : x.0 ≡ g.0 = cc in subst (λ v. Typed k o v c) e x.2)

  complete_none : (vs : Values) (c : Fn) (n : ℕ) → ((o : Option Mark) → Typed [] o vs c) → Completed n c
  unfolding marks_from
  complete_none vs c n h ts e k = let g = h None in ([], tt {0}, g.0, g.2, g.3 [])

  pub complete : (k : List Symbol) → goods b k ≡ true → (vs : Values) (c : Fn) (n : ℕ) → ((o : Option Mark) → Typed k o vs c) → Completed n c
  complete [] p vs c n h = complete_none vs c n h
  complete (Expect t ∷ k) p vs c n h = let q = and_parts (good b (Expect t)) (goods b k) p in c_token k (complete k q.1) t q.0 vs c n h
  complete (Make a ∷ k) p vs c n h = let q = and_parts (good b (Make a)) (goods b k) p in c_act k (complete k q.1) a vs c n h
  complete (Read x ∷ k) p vs c n h = let q = and_parts (good b (Read x)) (goods b k) p in c_part k (complete k q.1) x q.0 vs c n h
