-- Whatever the stacks promise after a token was taken can be completed.
use Rattle.std.proofs.Common.{◌≡◌, ℕ, suc, true, List, [], ◌∷◌, Option, Some, None, refl, subst, arith}
use Rattle.cx_syntax.specs.declared.mark.Punct.{Punct}
use Rattle.cx_syntax.specs.declared.mark.Punct.TheVariants as P
use Rattle.cx_syntax.specs.declared.mark.Word.{Word}
use Rattle.cx_syntax.specs.declared.mark.Word.TheVariants as W
use Rattle.cx_syntax.specs.declared.mark.Mark.{Mark}
use Rattle.cx_syntax.specs.declared.mark.Mark.TheVariants as M
use Rattle.cx_table.specs.declared.symbol.Act.{Act}
use Rattle.cx_table.specs.declared.symbol.Kind.{Kind}
use Rattle.cx_table.specs.declared.symbol.Kind.TheVariants.{Sign, Keyword, AName, AClass, ANumber, TheContracts}
use Rattle.cx_table.specs.declared.symbol.Part.{Part}
use Rattle.cx_table.specs.declared.symbol.Part.TheVariants.{Assign, AssignTail, Cond, CondTail, Operand, LevelTail, Primary, PostTail, StdRest, StdMore, ArgsRest, SeveralTail, TypePart, BasePart, UnsignedTail, StarTail, OptWord, OptSign, LocalPart, InitPart, OptExpr, SimplePart, SimpleStd, StmtPart, BlockPart, StmtsPart, ElseTail, HandlerPart, HandlersTail, CatchPart, ParamPart, OptName, ParamsRest, ParamsTail, SuffixPart, SpecsPart, PostRest, PostName, TailPart, MakingPart, InitsPart, MemberInitPart, InitsTail, MembersPart, MemberPart, MemberRest, MemberClass, MemberName, VirtualRest, ItemsPart, ItemPart, ClassRest, Declaration, AfterClass, Special, AfterType, AfterName, ConstantPart}
use Rattle.cx_table.specs.declared.symbol.Symbol.{Symbol}
use Rattle.cx_table.specs.declared.symbol.Symbol.TheVariants.{Expect, Make, Read}
use Rattle.cx_parser.proofs.KeepsStatements.{not_both}
use Rattle.cx_parser.proofs.Typed.{Fn, Typed}
use Rattle.cx_values.specs.Values.{Values, expr_val, flag_val, handlers_val, init_row_val, list_val, mark_val, members_val, pointers_val, row_val, specs_val, stmt_val, stmts_val, type_val, unit_val}
use Rattle.cx_syntax.specs.Shaped.{ShapedUnit, contracts_name, is_open}
use Rattle.cx_syntax.specs.Spell.{Marks, name, numbered, sign, spell, spot, word}
use Rattle.cx_syntax.specs.Tree.{Suffix, TypeTree, UnitTree, access, after, any_catch, block, branches, class_base, class_named, constructor, declared, empty, evaluate, field, function, global, handler, leaf, local, member_init, method, no_args, no_init, no_inits, no_params, no_specs, no_stars, no_stmts, outer_constructor, param, plain, standard, suffix, type_tree, unmade, unnamed, without, word_base}

-- what completes a list that `c` puts in front, from the place `n` on
abbrev pub Completed : ℕ → Fn → Type 0
Completed n c = (z : Marks) × (u : UnitTree) × ShapedUnit u × (c (numbered n z) ≡ spell u)

before1 : (m : Mark) (n : ℕ) (c : Fn) → Completed (suc n) (λ w. c (spot m n ∷ w)) → Completed n c
before1 m n c f = (m ∷ f.0, f.1, f.2, f.3)

-- marks at their places in front of a list
abbrev put : ℕ → Marks → Fn
put n [] w = w
put n (m ∷ z) w = spot m n ∷ put (suc n) z w

-- the place after so many marks
abbrev past : ℕ → Marks → ℕ
past n [] = n
past n (m ∷ z) = past (suc n) z

before_all : (z : Marks) (n : ℕ) (c : Fn) → Completed (past n z) (λ w. c (put n z w)) → Completed n c
before_all [] n c f = f
before_all (m ∷ z) n c f = before1 m n c (before_all z (suc n) (λ w. c (spot m n ∷ w)) f)

-- the tokens and parts of completions
abbrev a_name : Mark
a_name = M.Name 3

abbrev a_sign : Punct → Mark
a_sign p = M.Punct p

abbrev second : ℕ → ℕ
second n = suc n

abbrev third : ℕ → ℕ
third n = suc (suc n)

abbrev fourth : ℕ → ℕ
fourth n = suc (suc (suc n))

abbrev fifth : ℕ → ℕ
fifth n = suc (suc (suc (suc n)))

abbrev sixth : ℕ → ℕ
sixth n = suc (suc (suc (suc (suc n))))

abbrev int_type : ℕ → TypeTree
int_type i = type_tree None (word_base W.Int i) no_stars None

abbrev no_suffix : Suffix
no_suffix = suffix None no_specs

module _ (k : List Symbol) (more : (vs : Values) (c : Fn) (n : ℕ) → ((o : Option Mark) → Typed k o vs c) → Completed n c) where
  c_part : (x : Part) (vs : Values) (c : Fn) (n : ℕ) → ((o : Option Mark) → Typed (Read x ∷ k) o vs c) → Completed n c
  c_part Assign vs c n h = before1 M.Number n c (more _ _ (second n) (λ o. h (Some M.Number) (leaf n M.Number) o _ refl refl (λ w. refl)))
  c_part Cond vs c n h = before1 M.Number n c (more _ _ (second n) (λ o. h None (leaf n M.Number) o _ refl refl (λ w. refl)))
  c_part (Operand d) vs c n h = before1 M.Number n c (more _ _ (second n) (λ o. (h (Some M.Number)).1 (leaf n M.Number) o _ refl (omega arith, refl) (λ w. refl)))
  c_part Primary vs c n h = before1 M.Number n c (more _ _ (second n) (λ o. h (Some M.Number) (leaf n M.Number) o _ refl (refl, refl) (λ w. refl)))
  c_part AssignTail (expr_val l ∷ us) c n h = let g = (h None).0 in more _ _ n (λ o. g.4 l o c g.3 (tt {0}) refl refl g.1)
  c_part CondTail (expr_val l ∷ us) c n h = let g = (h None).0 in more _ _ n (λ o. g.4 l o c g.3 g.2 refl refl g.1)
  c_part (LevelTail d) (expr_val l ∷ us) c n h = let g = h None in more _ _ n (λ o. g.1.4 l o c g.1.3 g.1.2 refl refl g.1.1)
  c_part PostTail (expr_val l ∷ us) c n h = let g = h None in more _ _ n (λ o. g.4 l o c g.3 g.2 refl refl g.1)
  c_part StdRest (mark_val z j ∷ mark_val m i ∷ us) c n h = let g = h None in before1 a_name n c (more _ _ (second n) (λ o. g.2 (standard i j 3 n) o (λ w. c (name 3 n w)) (tt {0}) (refl, refl) (λ w. g.1 (name 3 n w))))
  c_part StdMore (mark_val (M.Name x) y ∷ mark_val z j ∷ mark_val m i ∷ us) c n h = let g = h None in more _ _ n (λ o. g.3 (standard i j x y) o c (tt {0}) (refl, refl) g.1)
  c_part ArgsRest (mark_val m i ∷ us) c n h = let g = h None in before1 (M.Punct P.CloseParen) n c (more _ _ (second n) (λ o. g.2 (no_args i n) o (λ w. c (sign P.CloseParen n w)) (tt {0}) (λ w. g.1 (sign P.CloseParen n w))))
  c_part SeveralTail (list_val l ∷ us) c n h = let g = h None in more _ _ n (λ o. g.3 l o c g.2 g.1)
  c_part TypePart vs c n h = before1 (M.Word W.Int) n c (more _ _ (second n) (λ o. h None (int_type n) o _ (refl, omega arith) (λ w. refl)))
  c_part BasePart vs c n h = before1 (M.Word W.Int) n c (more _ _ (second n) (λ o. h None (word_base W.Int n) o _ refl (λ w. refl)))
  c_part UnsignedTail (mark_val (M.Word x) i ∷ us) c n h = let g = h None in more _ _ n (λ o. g.3 (word_base W.Unsigned i) o c refl g.1)
  c_part (StarTail d) (pointers_val f b p ∷ us) c n h = let g = h None in more _ _ n (λ o. g.3 p o c (omega (arith, g.2)) g.1)
  c_part (OptWord j) vs c n h = more _ _ n (λ o. h None None o c (λ w. refl))
  c_part (OptSign p) vs c n h = more _ _ n (λ o. h None None o c (λ w. refl))
  c_part LocalPart vs c n h = before_all ((M.Word W.Int) ∷ a_name ∷ []) n c (more _ _ (third n) (λ o. h None (local (int_type n) 3 (second n) no_init) o _ ((refl, omega arith), tt {0}) (λ w. refl)))
  c_part InitPart vs c n h = more _ _ n (λ o. h None no_init o c (tt {0}) (λ w. refl))
  c_part OptExpr vs c n h = more _ _ n (λ o. h None None o c (tt {0}) (λ w. refl))
  c_part SimplePart vs c n h = before1 (a_sign P.Semicolon) n c (more _ _ (second n) (λ o. h None (empty n) o _ refl (tt {0}) (λ w. refl)))
  c_part SimpleStd (mark_val z j ∷ mark_val m i ∷ us) c n h =
      let g = h None in
      before_all (a_name ∷ (a_sign P.Semicolon) ∷ []) n c (more _ _ (third n) (λ o. g.2 (evaluate (standard i j 3 n) (second n)) o (λ w. c (name 3 n (sign P.Semicolon (second n) w))) refl (refl, tt {0}) (λ w. g.1 (name 3 n (sign P.Semicolon (second n) w)))))
  c_part StmtPart vs c n h = before1 (a_sign P.Semicolon) n c (more _ _ (second n) (λ o. h None (empty n) o _ (tt {0}) (λ y. absurd (cc)) (λ w. refl)))
  c_part BlockPart vs c n h = before_all ((M.Punct P.OpenBrace) ∷ (M.Punct P.CloseBrace) ∷ []) n c (more _ _ (third n) (λ o. h None (block n no_stmts (second n)) o _ (tt {0}) (λ w. refl)))
  c_part StmtsPart (stmts_val l ∷ us) c n h = let g = h None in more _ _ n (λ o. g.3 l o c g.2 g.1)
  c_part ElseTail (stmt_val t ∷ mark_val x l ∷ expr_val e ∷ mark_val y j ∷ mark_val z i ∷ us) c n h =
      let g = h (Some (M.Word W.Else)) in
      before_all ((M.Word W.Else) ∷ (a_sign P.Semicolon) ∷ []) n c (more _ _ (third n) (λ o. g.5 (branches i j e l t n (empty (second n))) o (λ w. c (word W.Else n (sign P.Semicolon (second n) w))) (g.2, g.3, not_both (is_open t) true g.4 refl, tt {0}) (λ y. absurd (cc)) (λ w. g.1 (word W.Else n (sign P.Semicolon (second n) w)))))
  c_part HandlersTail (handlers_val l ∷ us) c n h = let g = h None in more _ _ n (λ o. g.3 l o c g.2 g.1)
  c_part CatchPart vs c n h = before1 (M.Punct P.Ellipsis) n c (more _ _ (second n) (λ o. h None (any_catch n) o _ (tt {0}) (λ w. refl)))
  c_part ParamPart vs c n h = before1 (M.Word W.Int) n c (more _ _ (second n) (λ o. h None (param (int_type n) unnamed) o _ (refl, omega arith) (λ w. refl)))
  c_part OptName vs c n h = more _ _ n (λ o. h None unnamed o c (tt {0}) (λ w. refl))
  c_part ParamsRest (mark_val m i ∷ us) c n h = let g = h None in before1 (M.Punct P.CloseParen) n c (more _ _ (second n) (λ o. g.2 (no_params i n) o (λ w. c (sign P.CloseParen n w)) (tt {0}) (λ w. g.1 (sign P.CloseParen n w))))
  c_part ParamsTail (row_val l ∷ us) c n h = let g = h None in more _ _ n (λ o. g.3 l o c g.2 g.1)
  c_part SuffixPart vs c n h = more _ _ n (λ o. h None (suffix None no_specs) o c (tt {0}) (λ w. refl))
  c_part SpecsPart (specs_val l ∷ us) c n h = let g = h None in more _ _ n (λ o. g.3 l o c g.2 g.1)
  c_part PostRest (mark_val z j ∷ mark_val m i ∷ us) c n h =
      let g = h None in
      before_all (M.Number ∷ a_sign P.CloseParen ∷ []) n c (more _ _ (third n) (λ o. g.3 (after m i j (leaf n M.Number) (second n)) o (λ w. c (spot M.Number n ∷ sign P.CloseParen (second n) w)) (g.2, (refl, refl)) (λ w. g.1 (spot M.Number n ∷ sign P.CloseParen (second n) w))))
  c_part PostName (mark_val (M.Name x) y ∷ mark_val z j ∷ mark_val m i ∷ us) c n h =
      let g = h None in
      before1 (M.Punct P.CloseParen) n c (more _ _ (second n) (λ o. g.3 (after m i j (leaf y (M.Name x)) n) o (λ w. c (sign P.CloseParen n w)) (g.2, (refl, refl)) (λ w. g.1 (sign P.CloseParen n w))))
  c_part TailPart vs c n h = before1 (a_sign P.Semicolon) n c (more _ _ (second n) (λ o. h None (declared n) o _ (tt {0}) (λ w. refl)))
  c_part MakingPart vs c n h = before1 (a_sign P.Semicolon) n c (more _ _ (second n) (λ o. h None (unmade n) o _ (tt {0}) (λ w. refl)))
  c_part InitsPart vs c n h = more _ _ n (λ o. h None no_inits o c (tt {0}) (λ w. refl))
  c_part MemberInitPart vs c n h = before_all (a_name ∷ (M.Punct P.OpenParen) ∷ (M.Punct P.CloseParen) ∷ []) n c (more _ _ (fourth n) (λ o. h None (member_init 3 n (no_args (second n) (third n))) o _ (tt {0}) (λ w. refl)))
  c_part InitsTail (init_row_val l ∷ us) c n h = let g = h None in more _ _ n (λ o. g.3 l o c g.2 g.1)
  c_part MembersPart (members_val l ∷ us) c n h = let g = h None in more _ _ n (λ o. g.3 l o c g.2 g.1)
  c_part MemberPart vs c n h = before_all ((M.Word W.Public) ∷ (M.Punct P.Colon) ∷ []) n c (more _ _ (third n) (λ o. h None (access n W.Public (second n)) o _ refl (λ w. refl)))
  c_part ItemsPart (unit_val l ∷ us) c n h = let g = h None in more _ _ n (λ o. g.3 l o c g.2 g.1)
  c_part ItemPart vs c n h = before_all ((M.Word W.Int) ∷ a_name ∷ (a_sign P.Semicolon) ∷ []) n c (more _ _ (fourth n) (λ o. h None (global (int_type n) 3 (second n) without (third n)) o _ ((refl, omega arith), tt {0}) (λ w. refl)))
  c_part ClassRest (mark_val (M.Class x) j ∷ mark_val (M.Word y) i ∷ us) c n h = let g = h None in before1 (a_sign P.Semicolon) n c (more _ _ (second n) (λ o. g.3 (class_named i y x j n) o (λ w. c (sign P.Semicolon n w)) g.2 (λ w. g.1 (sign P.Semicolon n w))))
  c_part ConstantPart vs c n h = before1 M.Number n c (more _ _ (second n) (λ o. h None (plain n M.Number) o _ refl (λ w. refl)))
  c_part HandlerPart vs c n h =
      before_all (M.Word W.Catch ∷ a_sign P.OpenParen ∷ a_sign P.Ellipsis ∷ a_sign P.CloseParen ∷ a_sign P.OpenBrace ∷ a_sign P.CloseBrace ∷ []) n c
      (more _ _ (suc (sixth n)) (λ o. h None (handler n (second n) (any_catch (third n)) (fourth n) (block (fifth n) no_stmts (sixth n))) o _ (tt {0}, tt {0}) (λ w. refl)))
  c_part MemberRest (flag_val None ∷ us) c n h =
      before_all (M.Word W.Int ∷ a_name ∷ a_sign P.Semicolon ∷ []) n c
      (more _ _ (fourth n) (λ o. h None (field (int_type n) 3 (second n) (third n)) o _ (refl, omega arith) (λ w. refl)))
  c_part MemberClass (mark_val (M.Class x) i ∷ flag_val None ∷ us) c n h =
      let g = h None in
      let z : Marks = a_sign P.OpenParen ∷ a_sign P.CloseParen ∷ a_sign P.Semicolon ∷ [] in
      before_all z n c (more _ _ (fourth n) (λ o. g.2 (constructor None x i (no_params n (second n)) no_suffix (unmade (third n))) o _ (tt {0}, tt {0}, tt {0}) (λ w. g.1 (put n z w))))
  c_part MemberName (mark_val (M.Name x) i ∷ type_val t ∷ flag_val None ∷ us) c n h =
      let g = h None in
      before1 (a_sign P.Semicolon) n c (more _ _ (second n) (λ o. g.3 (field t x i n) o (λ w. c (sign P.Semicolon n w)) g.2 (λ w. g.1 (sign P.Semicolon n w))))
  c_part VirtualRest (flag_val v ∷ us) c n h =
      let g = h None in
      let z : Marks = M.Word W.Int ∷ a_name ∷ a_sign P.OpenParen ∷ a_sign P.CloseParen ∷ a_sign P.Semicolon ∷ [] in
      before_all z n c (more _ _ (sixth n) (λ o. g.2 (method v (int_type n) 3 (second n) (no_params (third n) (fourth n)) None no_suffix (declared (fifth n))) o _ ((refl, omega arith), tt {0}, tt {0}, tt {0}) (λ w. g.1 (put n z w))))
  c_part (Declaration x) (flag_val l ∷ us) c n h =
      let g = h None in
      let z : Marks = M.Word W.Int ∷ a_name ∷ a_sign P.OpenParen ∷ a_sign P.CloseParen ∷ a_sign P.Semicolon ∷ [] in
      before_all z n c (more _ _ (sixth n) (λ o. g.3 (function l (int_type n) 3 (second n) (no_params (third n) (fourth n)) no_suffix (declared (fifth n))) o _ ((refl, omega arith), tt {0}, tt {0}, tt {0}) (λ w. g.1 (put n z w))))
  c_part (AfterClass x) (mark_val (M.Class y) i ∷ flag_val l ∷ us) c n h =
      let g = h None in
      let z : Marks = a_name ∷ a_sign P.OpenParen ∷ a_sign P.CloseParen ∷ a_sign P.Semicolon ∷ [] in
      before_all z n c (more _ _ (fifth n) (λ o. g.3 (function l (type_tree None (class_base y i) no_stars None) 3 n (no_params (second n) (third n)) no_suffix (declared (fourth n))) o _ ((tt {0}, omega arith), tt {0}, tt {0}, tt {0}) (λ w. g.1 (put n z w))))
  c_part Special (mark_val x j ∷ mark_val (M.Class y) i ∷ flag_val l ∷ us) c n h =
      let g = h None in
      let z : Marks = M.Class y ∷ a_sign P.OpenParen ∷ a_sign P.CloseParen ∷ a_sign P.OpenBrace ∷ a_sign P.CloseBrace ∷ [] in
      before_all z n c (more _ _ (sixth n) (λ o. g.2 (outer_constructor l y i j y n (no_params (second n) (third n)) no_suffix no_inits (block (fourth n) no_stmts (fifth n))) o _ (tt {0}, tt {0}, tt {0}, tt {0}) (λ w. g.1 (put n z w))))
  c_part (AfterType x) (type_val t ∷ flag_val l ∷ us) c n h =
      let g = h None in
      let z : Marks = a_name ∷ a_sign P.OpenParen ∷ a_sign P.CloseParen ∷ a_sign P.Semicolon ∷ [] in
      before_all z n c (more _ _ (fifth n) (λ o. g.4 (function l t 3 n (no_params (second n) (third n)) no_suffix (declared (fourth n))) o _ (g.3, tt {0}, tt {0}, tt {0}) (λ w. g.1 (put n z w))))
  c_part (AfterName x) (mark_val (M.Name y) i ∷ type_val t ∷ flag_val l ∷ us) c n h =
      let g = h None in
      let z : Marks = a_sign P.OpenParen ∷ a_sign P.CloseParen ∷ a_sign P.Semicolon ∷ [] in
      before_all z n c (more _ _ (fourth n) (λ o. g.4 (function l t y i (no_params n (second n)) no_suffix (declared (third n))) o _ (g.3, tt {0}, tt {0}, tt {0}) (λ w. g.1 (put n z w))))
  c_part _ _ c n h = absurd (h None)

  c_token : (t : Kind) (vs : Values) (c : Fn) (n : ℕ) → ((o : Option Mark) → Typed (Expect t ∷ k) o vs c) → Completed n c
  c_token (Sign p) vs c n h = before1 (M.Punct p) n c (more _ _ (suc n) (h None n))
  c_token (Keyword j) vs c n h = before1 (M.Word j) n c (more _ _ (suc n) (h None n))
  c_token AName vs c n h = before1 a_name n c (more _ _ (suc n) (h None 3 n))
  c_token AClass vs c n h = before1 (M.Class 3) n c (more _ _ (suc n) (h None 3 n))
  c_token ANumber vs c n h = before1 M.Number n c (more _ _ (suc n) (h None n))
  c_token TheContracts vs c n h = before1 (M.Name contracts_name) n c (more _ _ (suc n) (λ o. h None (M.Name contracts_name) n o refl))

  c_act : (a : Act) (vs : Values) (c : Fn) (n : ℕ) → ((o : Option Mark) → Typed (Make a ∷ k) o vs c) → Completed n c
  c_act a vs c n h =
      let g = h None in
      more g.0 c n (λ o. let x = h o in let e : x.0 ≡ g.0 = cc in subst (λ v. Typed k o v c) e x.2)

pub complete : (k : List Symbol) (vs : Values) (c : Fn) (n : ℕ) → ((o : Option Mark) → Typed k o vs c) → Completed n c
complete [] vs c n h = let g = h None in ([], g.0, g.2, g.3 [])
complete (Expect t ∷ k) vs c n h = c_token k (complete k) t vs c n h
complete (Make a ∷ k) vs c n h = c_act k (complete k) a vs c n h
complete (Read x ∷ k) vs c n h = c_part k (complete k) x vs c n h
