-- Each move of parameters, specifiers and the ends of functions keeps what the stacks promise.
use Rattle.std.proofs.Common.{◌≡◌, ℕ, Bool, true, false, cond, eqb, List, [], ◌∷◌, Option, Some, refl, sym, ◌∙◌, arith}
use Rattle.cx_syntax.specs.declared.mark.Punct.TheVariants as P
use Rattle.cx_syntax.specs.declared.mark.Mark.{Mark}
use Rattle.cx_syntax.specs.declared.mark.Mark.TheVariants as M
use Rattle.cx_table.specs.declared.symbol.Act.TheVariants.{DoLeaf, DoOneParam, DoMoreParams, DoNoParams, DoParams, DoMoreSpecs, DoPre, DoPost, DoPostNamed, DoDeclared, DoDefined, DoUnmade, DoMade, DoNoInits, DoInits, DoOneInit, DoMoreInits}
use Rattle.cx_table.specs.declared.symbol.Part.TheVariants.{Cond, CondTail, BlockPart, ParamPart, OptName, ParamsRest, ParamsTail, SuffixPart, SpecsPart, PostRest, PostName, TailPart, MakingPart, InitsPart, MemberInitPart, InitsTail}
use Rattle.cx_table.specs.declared.symbol.Symbol.{Symbol}
use Rattle.cx_table.specs.declared.symbol.Symbol.TheVariants.{Make, Read}
use Rattle.cx_parser.proofs.KeepsExpressions.{cond_rank, tails_typed}
use Rattle.cx_parser.proofs.Kept.{Kept, kept_sign}
use Rattle.cx_parser.proofs.Typed.{Fn, Typed}
use Rattle.cx_values.specs.Values.{Values, init_row_val, mark_val, row_val, specs_val}
use Rattle.cx_syntax.specs.Shaped.{is_named, post_name, pre_name}
use Rattle.cx_syntax.specs.Spell.{name, sign, spell_block, spell_expr, spell_member_init, spell_optional_name, spell_param, spell_row, spell_spec, spell_specs, spot}
use Rattle.cx_syntax.specs.Tree.{Specs, after, after_named, before, declared, defined, inits, leaf, made, member_init, named, no_inits, no_params, param, params, suffix, unmade, unnamed}
use Rattle.cx_table.specs.Moves.{eat, move, push, s, specs_move, tails}

module _ (k : List Symbol) where
  pub k_param : (o : Option Mark) (vs : Values) (c : Fn) → Typed (Read ParamPart ∷ k) o vs c → Kept (move ParamPart o) k o vs c
  k_param o vs c h = λ t o1 d st f n o2 d2 sn f2. (_, refl, h (param t n) o2 d2 st (λ w. f2 w ∙ f (spell_optional_name n w)))

  pub k_name : (o : Option Mark) (vs : Values) (c : Fn) → Typed (Read OptName ∷ k) o vs c → Kept (move OptName o) k o vs c
  k_name (Some (M.Name n)) vs c h = λ i o. (_, refl, h (named n i) o (λ w. c (name n i w)) (tt {0}) (λ w. refl))
  k_name o vs c h = (_, refl, h unnamed o c (tt {0}) (λ w. refl))

  pub k_params : (o : Option Mark) (vs : Values) (c : Fn) → Typed (Read ParamsRest ∷ k) o vs c → Kept (move ParamsRest o) k o vs c
  k_params o (mark_val m i ∷ us) c h =
      kept_sign P.CloseParen (Make DoNoParams ∷ []) (push (Read ParamPart ∷ Make DoOneParam ∷ Read ParamsTail ∷ s P.CloseParen ∷ Make DoParams ∷ [])) k o (mark_val m i ∷ us) c
      (λ j o1. (_, refl, h.2 (no_params i j) o1 (λ w. c (sign P.CloseParen j w)) (tt {0}) (λ w. h.1 (sign P.CloseParen j w))))
      (λ p o1 d z f. (_, refl, (c, f, z, λ a o2 d2 sa f2 j o3. (_, refl, h.2 (params i a j) o3 (λ w. d2 (sign P.CloseParen j w)) sa (λ w. f2 (sign P.CloseParen j w) ∙ h.1 (spell_row a (sign P.CloseParen j w)))))))
  k_params o _ c h = absurd h

  pub k_row : (o : Option Mark) (vs : Values) (c : Fn) → Typed (Read ParamsTail ∷ k) o vs c → Kept (move ParamsTail o) k o vs c
  k_row o (row_val l ∷ us) c h =
      kept_sign P.Comma (Read ParamPart ∷ Make DoMoreParams ∷ Read ParamsTail ∷ []) (push []) k o (row_val l ∷ us) c
      (λ i o1 p o2 d z f. (_, refl, (h.0, (λ w. f w ∙ h.1 (sign P.Comma i (spell_param p w))), (h.2, z), h.3)))
      (h.3 l o c h.2 h.1)
  k_row o _ c h = absurd h

  pub k_suffix : (o : Option Mark) (vs : Values) (c : Fn) → Typed (Read SuffixPart ∷ k) o vs c → Kept (move SuffixPart o) k o vs c
  k_suffix o vs c h = λ x o1 d f. (_, refl, (d, (λ w. refl), tt {0}, λ l o2 d2 sl f2. (_, refl, h (suffix x l) o2 d2 sl (λ w. f2 w ∙ f (spell_specs l w)))))

  k_spec : (m : Mark) (n : ℕ) → ((z : ℕ) → eqb n z ≡ is_named z m) → (vs : Values) (c : Fn) (l : Specs) → Typed (Read SpecsPart ∷ k) (Some m) (specs_val l ∷ vs) c → Kept (specs_move (Some n)) k (Some m) (specs_val l ∷ vs) c
  k_spec m n e vs c l h = go (eqb n pre_name) refl
    where
      post : (b : Bool) → eqb n post_name ≡ b → Kept (cond b (eat (s P.OpenParen ∷ Read PostRest ∷ Make DoMoreSpecs ∷ Read SpecsPart ∷ [])) (push [])) k (Some m) (specs_val l ∷ vs) c
      post true g = λ i o j o1. (c, (λ w. refl), sym (e post_name) ∙ g, λ t o2 d st f. (_, refl, (h.0, (λ w. f w ∙ h.1 (spell_spec t w)), (h.2, st), h.3)))
      post false g = h.3 l (Some m) c h.2 h.1

      go : (b : Bool) → eqb n pre_name ≡ b → Kept (cond b (eat (s P.OpenParen ∷ Read Cond ∷ s P.CloseParen ∷ Make DoPre ∷ Make DoMoreSpecs ∷ Read SpecsPart ∷ [])) (cond (eqb n post_name) (eat (s P.OpenParen ∷ Read PostRest ∷ Make DoMoreSpecs ∷ Read SpecsPart ∷ [])) (push []))) k (Some m) (specs_val l ∷ vs) c
      go true g = λ i o j o1 x o2 d z q f y o3. (_, refl, (_, refl, (h.0, (λ w. f (sign P.CloseParen y w) ∙ h.1 (spell_spec (before m i j x y) w)), (h.2, (sym (e pre_name) ∙ g, (q, z))), h.3)))
      go false g = post (eqb n post_name) refl

  pub k_specs : (o : Option Mark) (vs : Values) (c : Fn) → Typed (Read SpecsPart ∷ k) o vs c → Kept (move SpecsPart o) k o vs c
  k_specs (Some (M.Name n)) (specs_val l ∷ us) c h = k_spec (M.Name n) n (λ z. refl) us c l h
  k_specs (Some (M.Class n)) (specs_val l ∷ us) c h = k_spec (M.Class n) n (λ z. refl) us c l h
  k_specs o (specs_val l ∷ us) c h = h.3 l o c h.2 h.1
  k_specs o _ c h = absurd h

  pub k_post_rest : (o : Option Mark) (vs : Values) (c : Fn) → Typed (Read PostRest ∷ k) o vs c → Kept (move PostRest o) k o vs c
  k_post_rest (Some (M.Name n)) (mark_val x j ∷ mark_val m i ∷ us) c h = λ a o. (h.0, (λ w. h.1 (name n a w)), h.2, h.3)
  k_post_rest o (mark_val x j ∷ mark_val m i ∷ us) c h = λ e o1 d z q f y o2. (_, refl, h.3 (after m i j e y) o2 (λ w. d (sign P.CloseParen y w)) (h.2, (q, z)) (λ w. f (sign P.CloseParen y w) ∙ h.1 (spell_expr e (sign P.CloseParen y w))))
  k_post_rest o _ c h = absurd h

  pub k_post_name : (o : Option Mark) (vs : Values) (c : Fn) → Typed (Read PostName ∷ k) o vs c → Kept (move PostName o) k o vs c
  k_post_name o (mark_val (M.Name n) a ∷ mark_val x j ∷ mark_val m i ∷ us) c h =
      kept_sign P.Colon (Read Cond ∷ s P.CloseParen ∷ Make DoPostNamed ∷ []) (push (Make DoLeaf ∷ tails 10 (Read CondTail ∷ s P.CloseParen ∷ Make DoPost ∷ []))) k o (mark_val (M.Name n) a ∷ mark_val x j ∷ mark_val m i ∷ us) c
      (λ l o1 e o2 d z q f y o3. (_, refl, h.3 (after_named m i j n a l e y) o3 (λ w. d (sign P.CloseParen y w)) (h.2, (q, z)) (λ w. f (sign P.CloseParen y w) ∙ h.1 (sign P.Colon l (spell_expr e (sign P.CloseParen y w)))))) (
        _,
        refl,
        tails_typed k 10 (Read CondTail ∷ s P.CloseParen ∷ Make DoPost ∷ k) (leaf a (M.Name n)) (mark_val x j ∷ mark_val m i ∷ us) o c (λ w. h.0 (spot m i ∷ sign P.OpenParen j w)) (omega arith) h.1 refl refl
            (λ e o1 d s1 r1 t1 y1 f1. (((λ w. h.0 (spot m i ∷ sign P.OpenParen j w)), f1, cond_rank e r1, s1, λ e2 o2 d2 s2 q2 t2 y2 f2 y o3. (_, refl, h.3 (after m i j e2 y) o3 (λ w. d2 (sign P.CloseParen y w)) (h.2, (q2, s2)) (λ w. f2 (sign P.CloseParen y w)))), r1)),
      )
  k_post_name o _ c h = absurd h

  pub k_tail_part : (o : Option Mark) (vs : Values) (c : Fn) → Typed (Read TailPart ∷ k) o vs c → Kept (move TailPart o) k o vs c
  k_tail_part o vs c h = kept_sign P.Semicolon (Make DoDeclared ∷ []) (push (Read BlockPart ∷ Make DoDefined ∷ [])) k o vs c
      (λ i o1. (_, refl, h (declared i) o1 (λ w. c (sign P.Semicolon i w)) (tt {0}) (λ w. refl)))
      (λ b o1 d sb f. (_, refl, h (defined b) o1 d sb f))

  pub k_making : (o : Option Mark) (vs : Values) (c : Fn) → Typed (Read MakingPart ∷ k) o vs c → Kept (move MakingPart o) k o vs c
  k_making o vs c h = kept_sign P.Semicolon (Make DoUnmade ∷ []) (push (Read InitsPart ∷ Read BlockPart ∷ Make DoMade ∷ [])) k o vs c
      (λ i o1. (_, refl, h (unmade i) o1 (λ w. c (sign P.Semicolon i w)) (tt {0}) (λ w. refl)))
      (λ a o1 d sa f b o2 d2 sb f2. (_, refl, h (made a b) o2 d2 (sa, sb) (λ w. f2 w ∙ f (spell_block b w))))

  pub k_inits : (o : Option Mark) (vs : Values) (c : Fn) → Typed (Read InitsPart ∷ k) o vs c → Kept (move InitsPart o) k o vs c
  k_inits o vs c h = kept_sign P.Colon (Read MemberInitPart ∷ Make DoOneInit ∷ Read InitsTail ∷ Make DoInits ∷ []) (push (Make DoNoInits ∷ [])) k o vs c
      (λ i o1 a o2 d sa f. (_, refl, ((λ w. c (sign P.Colon i w)), f, sa, λ l o3 d2 sl f2. (_, refl, h (inits i l) o3 d2 sl f2))))
      (_, refl, h no_inits o c (tt {0}) (λ w. refl))

  pub k_member_init : (o : Option Mark) (vs : Values) (c : Fn) → Typed (Read MemberInitPart ∷ k) o vs c → Kept (move MemberInitPart o) k o vs c
  k_member_init o vs c h = λ n i o1 j o2. ((λ w. c (name n i w)), (λ w. refl), λ a o3 d sa f. (_, refl, h (member_init n i a) o3 d sa f))

  pub k_init_row : (o : Option Mark) (vs : Values) (c : Fn) → Typed (Read InitsTail ∷ k) o vs c → Kept (move InitsTail o) k o vs c
  k_init_row o (init_row_val l ∷ us) c h =
      kept_sign P.Comma (Read MemberInitPart ∷ Make DoMoreInits ∷ Read InitsTail ∷ []) (push []) k o (init_row_val l ∷ us) c
      (λ i o1 p o2 d z f. (_, refl, (h.0, (λ w. f w ∙ h.1 (sign P.Comma i (spell_member_init p w))), (h.2, z), h.3)))
      (h.3 l o c h.2 h.1)
  k_init_row o _ c h = absurd h
