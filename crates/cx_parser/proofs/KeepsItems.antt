-- Each move of a member or an item keeps what the stacks promise.
use Rattle.std.proofs.Common.{◌≡◌, ℕ, Bool, true, false, List, [], ◌∷◌, ◌++◌, Option, Some, None, refl, ◌∙◌, arith}
use Rattle.cx_syntax.specs.declared.mark.Punct.{Punct}
use Rattle.cx_syntax.specs.declared.mark.Punct.TheVariants as P
use Rattle.cx_syntax.specs.declared.mark.Word.{Word}
use Rattle.cx_syntax.specs.declared.mark.Word.TheVariants as W
use Rattle.cx_syntax.specs.declared.mark.Mark.{Mark}
use Rattle.cx_syntax.specs.declared.mark.Mark.TheVariants as M
use Rattle.cx_table.specs.declared.symbol.Act.TheVariants.{DoClassBase, DoField, DoDestructor, DoMoreMembers, DoWithout, DoWithValue, DoGlobal, DoFunction}
use Rattle.cx_table.specs.declared.symbol.Kind.TheVariants.{AName, AClass}
use Rattle.cx_table.specs.declared.symbol.Part.TheVariants.{Assign, TypePart, ParamsRest, SuffixPart, TailPart, MembersPart, MemberPart, MemberRest, MemberClass, MemberName, VirtualRest, ItemsPart, ItemPart, ClassRest, Declaration, AfterClass, Special, AfterType, AfterName, ConstantPart}
use Rattle.cx_table.specs.declared.symbol.Symbol.{Symbol}
use Rattle.cx_table.specs.declared.symbol.Symbol.TheVariants.{Expect, Make, Read}
use Rattle.cx_parser.proofs.Kept.{Kept, kept_either, kept_sign}
use Rattle.cx_parser.proofs.Typed.{Fn, MemberComes, Typed}
use Rattle.cx_values.specs.Values.{Values, flag_val, mark_val, members_val, type_val, unit_val}
use Rattle.cx_syntax.specs.Shaped.{ShapedType}
use Rattle.cx_syntax.specs.Spell.{Spots, class_name, if_sign, if_word, name, sign, spell_block, spell_constant, spell_inits, spell_item, spell_making, spell_member, spell_members, spell_params, spell_suffix, spell_tail, spell_type, spot, word}
use Rattle.cx_syntax.specs.Tree.{TypeTree, access, class_defined, class_named, constructor, destructor, external, field, function, global, method, negative, outer_constructor, outer_destructor, outer_method, plain, with_value, without}
use Rattle.cx_table.specs.Moves.{constructor_rest, global_move, method_rest, move, plain_type, push, s}
use Rattle.cx_table.specs.Sorts.{is_mark}

module _ (k : List Symbol) where
  pub k_members : (o : Option Mark) (vs : Values) (c : Fn) → Typed (Read MembersPart ∷ k) o vs c → Kept (move MembersPart o) k o vs c
  k_members o (members_val l ∷ us) c h = kept_either (is_mark P.CloseBrace o) (push []) (push (Read MemberPart ∷ Make DoMoreMembers ∷ Read MembersPart ∷ [])) k o (members_val l ∷ us) c
      (h.3 l o c h.2 h.1)
      (λ t o1 d st f. (_, refl, (h.0, (λ w. f w ∙ h.1 (spell_member t w)), (h.2, st), h.3)))
  k_members o _ c h = absurd h

  -- a constructor after its `(`
  made_constructor : (x : Option ℕ) (n i : ℕ) (vs : Values) (c b : Fn) → ((w : Spots) → c w ≡ b (if_word x W.Explicit (class_name n i w))) → MemberComes (Typed k) vs b → (j : ℕ) (o : Option Mark)
      → Typed (constructor_rest ++ k) o (mark_val (M.Punct P.OpenParen) j ∷ mark_val (M.Class n) i ∷ flag_val x ∷ vs) (λ w. c (sign P.OpenParen j w))
  made_constructor x n i vs c b q h j o = (c, (λ w. refl), λ p o1 d sp f z o2 d2 sz f2 m o3 d3 sm f3. (_, refl, h (constructor x n i p z m) o3 d3 (sp, sz, sm) (λ w. f3 w ∙ (f2 (spell_making m w) ∙ (f (spell_suffix z (spell_making m w)) ∙ q (spell_params p (spell_suffix z (spell_making m w))))))))

  -- a method after its `(`
  made_method : (v : Option ℕ) (t : TypeTree) (n i : ℕ) → ShapedType t → (vs : Values) (c b : Fn) → ((w : Spots) → c w ≡ b (if_word v W.Virtual (spell_type t (name n i w)))) → MemberComes (Typed k) vs b → (j : ℕ) (o : Option Mark)
      → Typed (method_rest ++ k) o (mark_val (M.Punct P.OpenParen) j ∷ mark_val (M.Name n) i ∷ type_val t ∷ flag_val v ∷ vs) (λ w. c (sign P.OpenParen j w))
  made_method v t n i st vs c b q h j o = (
    c,
    (λ w. refl),
    λ p o1 d sp f x o2 d2 f2 z o3 d3 sz f3 e o4 d4 se f4. (
      _,
      refl,
      h (method v t n i p x z e) o4 d4 (st, sp, sz, se)
          (λ w. f4 w ∙ (f3 (spell_tail e w) ∙ (f2 (spell_suffix z (spell_tail e w)) ∙ (f (if_word x W.Const (spell_suffix z (spell_tail e w))) ∙ q (spell_params p (if_word x W.Const (spell_suffix z (spell_tail e w)))))))),
    ),
  )

  pub k_member : (o : Option Mark) (vs : Values) (c : Fn) → Typed (Read MemberPart ∷ k) o vs c → Kept (move MemberPart o) k o vs c
  k_member (Some (M.Word W.Public)) vs c h = λ i o j o1. (_, refl, h (access i W.Public j) o1 (λ w. c (word W.Public i (sign P.Colon j w))) refl (λ w. refl))
  k_member (Some (M.Word W.Private)) vs c h = λ i o j o1. (_, refl, h (access i W.Private j) o1 (λ w. c (word W.Private i (sign P.Colon j w))) refl (λ w. refl))
  k_member (Some (M.Word W.Virtual)) vs c h = λ i o. (_, refl, (c, (λ w. refl), h))
  k_member (Some (M.Word W.Explicit)) vs c h = λ x o. (_, refl, λ n i o1. made_constructor (Some x) n i vs (λ w. c (word W.Explicit x (class_name n i w))) c (λ w. refl) h)
  k_member (Some (M.Punct P.Tilde)) vs c h = (_, refl, (c, (λ w. refl), h))
  k_member o vs c h = (_, refl, h)

  pub k_member_rest : (o : Option Mark) (vs : Values) (c : Fn) → Typed (Read MemberRest ∷ k) o vs c → Kept (move MemberRest o) k o vs c
  k_member_rest (Some (M.Class n)) (flag_val None ∷ us) c h = λ i o. (c, (λ w. refl), h)
  k_member_rest o (flag_val None ∷ us) c h = λ t o1 d st f n i o2. (c, (λ w. f (name n i w)), st, h)
  k_member_rest o _ c h = absurd h

  pub k_member_class : (o : Option Mark) (vs : Values) (c : Fn) → Typed (Read MemberClass ∷ k) o vs c → Kept (move MemberClass o) k o vs c
  k_member_class o (mark_val (M.Class n) i ∷ flag_val None ∷ us) c h =
      kept_sign P.OpenParen constructor_rest (push (Make DoClassBase ∷ plain_type (Expect AName ∷ Read MemberName ∷ []))) k o (mark_val (M.Class n) i ∷ flag_val None ∷ us) c
      (made_constructor None n i us c h.0 h.1 h.2)
      (_, refl, (_, refl, (h.0, h.1, omega arith, λ p o3 d3 sp f3 r o4 d4 f4. (_, refl, λ x v o5. (h.0, (λ w. f4 (name x v w) ∙ f3 (if_sign r P.And (name x v w))), (tt {0}, sp), h.2)))))
  k_member_class o _ c h = absurd h

  pub k_member_name : (o : Option Mark) (vs : Values) (c : Fn) → Typed (Read MemberName ∷ k) o vs c → Kept (move MemberName o) k o vs c
  k_member_name o (mark_val (M.Name n) i ∷ type_val t ∷ flag_val None ∷ us) c h =
      kept_sign P.OpenParen method_rest (push (s P.Semicolon ∷ Make DoField ∷ [])) k o (mark_val (M.Name n) i ∷ type_val t ∷ flag_val None ∷ us) c
      (made_method None t n i h.2 us c h.0 h.1 h.3)
      (λ j o1. (_, refl, h.3 (field t n i j) o1 (λ w. c (sign P.Semicolon j w)) h.2 (λ w. h.1 (sign P.Semicolon j w))))
  k_member_name o _ c h = absurd h

  pub k_virtual : (o : Option Mark) (vs : Values) (c : Fn) → Typed (Read VirtualRest ∷ k) o vs c → Kept (move VirtualRest o) k o vs c
  k_virtual o (flag_val v ∷ us) c h =
      kept_sign P.Tilde (Expect AClass ∷ s P.OpenParen ∷ s P.CloseParen ∷ Read SuffixPart ∷ Read TailPart ∷ Make DoDestructor ∷ []) (push (Read TypePart ∷ Expect AName ∷ s P.OpenParen ∷ method_rest)) k o (flag_val v ∷ us) c
      (λ y o1 n i o2 j o3 l o4 z o5 d sz f e o6 d2 se f2. (_, refl, h.2 (destructor v y n i j l z e) o6 d2 (sz, se) (λ w. f2 w ∙ (f (spell_tail e w) ∙ h.1 (sign P.Tilde y (class_name n i (sign P.OpenParen j (sign P.CloseParen l (spell_suffix z (spell_tail e w))))))))))
      (λ t o1 d st f n i o2. made_method v t n i st us (λ w. d (name n i w)) h.0 (λ w. f (name n i w) ∙ h.1 (spell_type t (name n i w))) h.2)
  k_virtual o _ c h = absurd h

  pub k_items : (o : Option Mark) (vs : Values) (c : Fn) → Typed (Read ItemsPart ∷ k) o vs c → Kept (move ItemsPart o) k o vs c
  k_items None (unit_val l ∷ us) c h = h.3 l None c h.2 h.1
  k_items (Some m) (unit_val l ∷ us) c h = λ t o1 d st f. (_, refl, (h.0, (λ w. f w ∙ h.1 (spell_item t w)), (h.2, st), h.3))
  k_items o _ c h = absurd h

  pub k_item : (o : Option Mark) (vs : Values) (c : Fn) → Typed (Read ItemPart ∷ k) o vs c → Kept (move ItemPart o) k o vs c
  k_item (Some (M.Word W.Class)) vs c h = λ i o n j o1. (c, (λ w. refl), refl, h)
  k_item (Some (M.Word W.Struct)) vs c h = λ i o n j o1. (c, (λ w. refl), refl, h)
  k_item (Some (M.Word W.Extern)) vs c h = λ i o t o1 d st f n j o2 l o3. (_, refl, h (external i t n j l) o3 (λ w. d (name n j (sign P.Semicolon l w))) st (λ w. f (name n j (sign P.Semicolon l w))))
  k_item (Some (M.Word W.Inline)) vs c h = λ i o. (_, refl, (c, (λ w. refl), tt {0}, h))
  k_item o vs c h = (_, refl, (c, (λ w. refl), refl, h))

  pub k_class : (o : Option Mark) (vs : Values) (c : Fn) → Typed (Read ClassRest ∷ k) o vs c → Kept (move ClassRest o) k o vs c
  k_class (Some (M.Punct P.Semicolon)) (mark_val (M.Class n) j ∷ mark_val (M.Word x) i ∷ us) c h = λ l o. (_, refl, h.3 (class_named i x n j l) o (λ w. c (sign P.Semicolon l w)) h.2 (λ w. h.1 (sign P.Semicolon l w)))
  k_class (Some (M.Punct P.OpenBrace)) (mark_val (M.Class n) j ∷ mark_val (M.Word x) i ∷ us) c h = λ l o. (
    _,
    refl,
    ((λ w. c (sign P.OpenBrace l w)), (λ w. refl), tt {0}, λ m o1 d sm f y o2 z o3. (_, refl, h.3 (class_defined i x n j l m y z) o3 (λ w. d (sign P.CloseBrace y (sign P.Semicolon z w))) (h.2, sm) (λ w. f (sign P.CloseBrace y (sign P.Semicolon z w)) ∙ h.1 (sign P.OpenBrace l (spell_members m (sign P.CloseBrace y (sign P.Semicolon z w))))))),
  )
  k_class _ (mark_val (M.Class n) j ∷ mark_val (M.Word x) i ∷ us) c h = tt {0}
  k_class o _ c h = absurd h

  pub k_declaration : (g : Bool) (o : Option Mark) (vs : Values) (c : Fn) → Typed (Read (Declaration g) ∷ k) o vs c → Kept (move (Declaration g) o) k o vs c
  k_declaration g (Some (M.Class n)) (flag_val l ∷ us) c h = λ i o. (h.0, (λ w. h.1 (class_name n i w)), h.2, h.3)
  k_declaration g o (flag_val l ∷ us) c h = λ t o1 d st f. (h.0, (λ w. f w ∙ h.1 (spell_type t w)), h.2, st, h.3)
  k_declaration g o _ c h = absurd h

  pub k_after_class : (g : Bool) (o : Option Mark) (vs : Values) (c : Fn) → Typed (Read (AfterClass g) ∷ k) o vs c → Kept (move (AfterClass g) o) k o vs c
  k_after_class g o (mark_val (M.Class n) i ∷ flag_val l ∷ us) c h =
      kept_sign P.Scope (Read Special ∷ []) (push (Make DoClassBase ∷ plain_type (Read (AfterType g) ∷ []))) k o (mark_val (M.Class n) i ∷ flag_val l ∷ us) c
      (λ j o1. (h.0, (λ w. h.1 (sign P.Scope j w)), h.3))
      (_, refl, (_, refl, ((λ w. h.0 (if_word l W.Inline w)), h.1, omega arith, λ p o3 d3 sp f3 r o4 d4 f4. (_, refl, (h.0, (λ w. f4 w ∙ f3 (if_sign r P.And w)), h.2, (tt {0}, sp), h.3)))))
  k_after_class g o _ c h = absurd h

  pub k_special : (o : Option Mark) (vs : Values) (c : Fn) → Typed (Read Special ∷ k) o vs c → Kept (move Special o) k o vs c
  k_special (Some (M.Class m)) (mark_val x y ∷ mark_val (M.Class n) i ∷ flag_val l ∷ us) c h = λ j o v o1. (
    (λ w. c (class_name m j w)),
    (λ w. refl),
    λ p o2 d sp f z o3 d2 sz f2 a o4 d3 sa f3 b o5 d4 sb f4. (
      _,
      refl,
      h.2 (outer_constructor l n i y m j p z a b) o5 d4 (sp, sz, sa, sb)
          (λ w. f4 w ∙ (f3 (spell_block b w) ∙ (f2 (spell_inits a (spell_block b w)) ∙ (f (spell_suffix z (spell_inits a (spell_block b w))) ∙ h.1 (class_name m j (spell_params p (spell_suffix z (spell_inits a (spell_block b w))))))))),
    ),
  )
  k_special (Some (M.Punct P.Tilde)) (mark_val x y ∷ mark_val (M.Class n) i ∷ flag_val l ∷ us) c h = λ t o m j o1 u o2 v o3 z o4 d sz f b o5 d2 sb f2. (
    _,
    refl,
    h.2 (outer_destructor l n i y t m j u v z b) o5 d2 (sz, sb)
        (λ w. f2 w ∙ (f (spell_block b w) ∙ h.1 (sign P.Tilde t (class_name m j (sign P.OpenParen u (sign P.CloseParen v (spell_suffix z (spell_block b w)))))))),
  )
  k_special _ (mark_val x y ∷ mark_val (M.Class n) i ∷ flag_val l ∷ us) c h = tt {0}
  k_special o _ c h = absurd h

  pub k_after_type : (g : Bool) (o : Option Mark) (vs : Values) (c : Fn) → Typed (Read (AfterType g) ∷ k) o vs c → Kept (move (AfterType g) o) k o vs c
  k_after_type g (Some (M.Name n)) (type_val t ∷ flag_val l ∷ us) c h = λ i o. (h.0, (λ w. h.1 (name n i w)), h.2, h.3, h.4)
  k_after_type g (Some (M.Class m)) (type_val t ∷ flag_val l ∷ us) c h = λ j o y o1 n i o2 v o3. (
    (λ w. c (class_name m j (sign P.Scope y (name n i w)))),
    (λ w. refl),
    λ p o4 d sp f x o5 d2 f2 z o6 d3 sz f3 b o7 d4 sb f4. (
      _,
      refl,
      h.4 (outer_method l t m j y n i p x z b) o7 d4 (h.3, sp, sz, sb)
          (λ w. f4 w ∙ (f3 (spell_block b w) ∙ (f2 (spell_suffix z (spell_block b w)) ∙ (f (if_word x W.Const (spell_suffix z (spell_block b w))) ∙ h.1 (class_name m j (sign P.Scope y (name n i (spell_params p (if_word x W.Const (spell_suffix z (spell_block b w))))))))))),
    ),
  )
  k_after_type g _ (type_val t ∷ flag_val l ∷ us) c h = tt {0}
  k_after_type g o _ c h = absurd h

  k_global : (g : Bool) (o : Option Mark) (n i : ℕ) (t : TypeTree) (l : Option ℕ) (vs : Values) (c : Fn) → Typed (Read (AfterName g) ∷ k) o (mark_val (M.Name n) i ∷ type_val t ∷ flag_val l ∷ vs) c → Kept (global_move g o) k o (mark_val (M.Name n) i ∷ type_val t ∷ flag_val l ∷ vs) c
  k_global false o n i t l vs c h = tt {0}
  k_global true o n i t None vs c h =
      kept_sign P.Assign (Read ConstantPart ∷ Make DoWithValue ∷ s P.Semicolon ∷ Make DoGlobal ∷ []) (push (Make DoWithout ∷ s P.Semicolon ∷ Make DoGlobal ∷ [])) k o (mark_val (M.Name n) i ∷ type_val t ∷ flag_val None ∷ vs) c
      (λ j o1 a o2 d sa f. (_, refl, λ y o3. (_, refl, h.4 (global t n i (with_value j a) y) o3 (λ w. d (sign P.Semicolon y w)) (h.3, sa) (λ w. f (sign P.Semicolon y w) ∙ h.1 (sign P.Assign j (spell_constant a (sign P.Semicolon y w)))))))
      (_, refl, λ y o3. (_, refl, h.4 (global t n i without y) o3 (λ w. c (sign P.Semicolon y w)) (h.3, tt {0}) (λ w. h.1 (sign P.Semicolon y w))))
  k_global true o n i t (Some x) vs c h = absurd (let q = h.2 in cc)

  pub k_after_name : (g : Bool) (o : Option Mark) (vs : Values) (c : Fn) → Typed (Read (AfterName g) ∷ k) o vs c → Kept (move (AfterName g) o) k o vs c
  k_after_name g o (mark_val (M.Name n) i ∷ type_val t ∷ flag_val l ∷ us) c h =
      kept_sign P.OpenParen (Read ParamsRest ∷ Read SuffixPart ∷ Read TailPart ∷ Make DoFunction ∷ []) (global_move g o) k o (mark_val (M.Name n) i ∷ type_val t ∷ flag_val l ∷ us) c
      (λ j o1. (c, (λ w. refl), λ p o2 d sp f z o3 d2 sz f2 b o4 d3 sb f3. (_, refl, h.4 (function l t n i p z b) o4 d3 (h.3, sp, sz, sb) (λ w. f3 w ∙ (f2 (spell_tail b w) ∙ (f (spell_suffix z (spell_tail b w)) ∙ h.1 (spell_params p (spell_suffix z (spell_tail b w)))))))))
      (k_global g o n i t l us c h)
  k_after_name g o _ c h = absurd h

  pub k_constant : (o : Option Mark) (vs : Values) (c : Fn) → Typed (Read ConstantPart ∷ k) o vs c → Kept (move ConstantPart o) k o vs c
  k_constant (Some (M.Punct P.Minus)) vs c h = λ i o j o1. (_, refl, h (negative i j) o1 (λ w. c (sign P.Minus i (spot M.Number j ∷ w))) (tt {0}) (λ w. refl))
  k_constant (Some M.Number) vs c h = λ i o. (_, refl, h (plain i M.Number) o (λ w. c (spot M.Number i ∷ w)) refl (λ w. refl))
  k_constant (Some M.Char) vs c h = λ i o. (_, refl, h (plain i M.Char) o (λ w. c (spot M.Char i ∷ w)) refl (λ w. refl))
  k_constant (Some (M.Word W.True)) vs c h = λ i o. (_, refl, h (plain i (M.Word W.True)) o (λ w. c (word W.True i w)) refl (λ w. refl))
  k_constant (Some (M.Word W.False)) vs c h = λ i o. (_, refl, h (plain i (M.Word W.False)) o (λ w. c (word W.False i w)) refl (λ w. refl))
  k_constant (Some (M.Word W.Nullptr)) vs c h = λ i o. (_, refl, h (plain i (M.Word W.Nullptr)) o (λ w. c (word W.Nullptr i w)) refl (λ w. refl))
  k_constant _ vs c h = tt {0}
