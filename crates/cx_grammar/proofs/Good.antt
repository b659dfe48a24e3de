-- Where a class name has to have been taken: what the stack holds before one was, and after `class` or `struct`.
use Rattle.std.proofs.Common.{◌≡◌, ℕ, zero, suc, ◌&&◌, Bool, true, false, not, cond, eqb, ltb, List, [], ◌∷◌, ◌++◌, Option, Some, None, refl, sym, subst, arith}
use Rattle.std.proofs.lemmas.Bool.{and_from, and_parts, ltb-true}
use Rattle.std.proofs.lemmas.Grind.{common_steps}
use Rattle.cx_syntax.specs.declared.mark.Punct.{Punct}
use Rattle.cx_syntax.specs.declared.mark.Punct.TheVariants as P
use Rattle.cx_syntax.specs.declared.mark.Word.{Word}
use Rattle.cx_syntax.specs.declared.mark.Word.TheVariants as W
use Rattle.cx_syntax.specs.declared.mark.Mark.{Mark}
use Rattle.cx_syntax.specs.declared.mark.Mark.TheVariants as M
use Rattle.cx_table.specs.declared.symbol.Act.TheVariants.{DoLeaf, DoStandard, DoLibrary, DoBinary, DoChoose, DoNoArgs, DoArgs, DoOne, DoAlso, DoClassBase, DoStar, DoFlag, DoNoFlag, DoBare, DoEquals, DoParens, DoAbsent, DoPresent, DoEvaluate, DoBranch, DoBranches, DoMoreStmts, DoMoreHandlers, DoAnyCatch, DoTypedCatch, DoOneParam, DoMoreParams, DoNoParams, DoParams, DoMoreSpecs, DoPre, DoPost, DoPostNamed, DoDeclared, DoDefined, DoUnmade, DoMade, DoNoInits, DoInits, DoOneInit, DoMoreInits, DoField, DoDestructor, DoMoreMembers, DoWithout, DoWithValue, DoGlobal, DoFunction}
use Rattle.cx_table.specs.declared.symbol.Kind.TheVariants.{Keyword, AName, AClass}
use Rattle.cx_table.specs.declared.symbol.Part.{Part}
use Rattle.cx_table.specs.declared.symbol.Part.TheVariants.{Assign, AssignTail, Cond, CondTail, Operand, LevelTail, Primary, PostTail, StdRest, StdMore, ArgsRest, SeveralTail, TypePart, BasePart, UnsignedTail, StarTail, OptWord, OptSign, LocalPart, InitPart, OptExpr, SimplePart, SimpleStd, StmtPart, BlockPart, StmtsPart, ElseTail, HandlerPart, HandlersTail, CatchPart, ParamPart, OptName, ParamsRest, ParamsTail, SuffixPart, SpecsPart, PostRest, PostName, TailPart, MakingPart, InitsPart, MemberInitPart, InitsTail, MembersPart, MemberPart, MemberRest, MemberClass, MemberName, VirtualRest, ItemsPart, ItemPart, ClassRest, Declaration, AfterClass, Special, AfterType, AfterName, ConstantPart}
use Rattle.cx_table.specs.declared.symbol.Symbol.{Symbol}
use Rattle.cx_table.specs.declared.symbol.Symbol.TheVariants.{Expect, Make, Read}
use Rattle.cx_syntax.specs.Same.{same_punct, same_word}
use Rattle.cx_syntax.specs.Shaped.{contracts_name, is_class_key, looseness, post_name, pre_name}
use Rattle.cx_parser.proofs.Runs.{eqb_above}
use Rattle.cx_parser.proofs.Same.{word_same}
use Rattle.cx_table.specs.Moves.{Move, constructor_rest, library_local, method_rest, plain_type, s, tails, assign_move, class_move, declaration_move, eat, global_move, halt, member_move, member_rest, move, name_move, post_rest, push, simple_std, special_move, specs_move, std_move, stmt_move, type_move}
use Rattle.cx_table.specs.Sorts.{is_end, is_mark, is_word, loose}

-- may stand where a class name was taken before, or where none was
abbrev pub good : Bool → Symbol → Bool
good b (Expect (Keyword j)) = not (is_class_key j)
good b (Expect AClass) = b
good b (Read (OptWord j)) = not (is_class_key j)
good b (Read (Operand d)) = ltb d 12
good b (Read (LevelTail d)) = ltb d 12
good b (Read ClassRest) = b
good b (Read MembersPart) = b
good b (Read MemberPart) = b
good b (Read VirtualRest) = b
good b (Read Special) = b
good b (Read (AfterClass g)) = b
good b _ = true

abbrev pub goods : Bool → List Symbol → Bool
goods b [] = true
goods b (x ∷ k) = good b x && goods b k

abbrev pub is_key : Mark → Bool
is_key (M.Word k) = is_class_key k
is_key _ = false

-- a class name was taken, with this mark or before it
abbrev pub known_after : Bool → Mark → Bool
known_after b (M.Class n) = true
known_after b _ = b

-- what `class` and `struct` leave to come
abbrev pub is_class_stack : List Symbol → Bool
is_class_stack (Expect AClass ∷ Read ClassRest ∷ []) = true
is_class_stack _ = false

abbrev pub good_move : Bool → Option Mark → Move → Bool
good_move b o (push k) = goods b k
good_move b None (eat k) = true
good_move b (Some m) (eat k) = cond (is_key m) (is_class_stack k) (goods (known_after b m) k)
good_move b o halt = true

either_good : (t b : Bool) (o : Option Mark) (v w : Move) → good_move b o v ≡ true → good_move b o w ≡ true → good_move b o (cond t v w) ≡ true
either_good true b o v w g h = g
either_good false b o v w g h = h

sign_good : (p : Punct) (b : Bool) (o : Option Mark) (k : List Symbol) (v : Move) → goods b k ≡ true → good_move b o v ≡ true → good_move b o (cond (is_mark p o) (eat k) v) ≡ true
sign_good p b None k v g h = h
sign_good p b (Some (M.Punct q)) k v g h = either_good (same_punct p q) b (Some (M.Punct q)) (eat k) v g h
sign_good p b (Some _) k v g h = h

word_good : (j : Word) (b : Bool) (o : Option Mark) (k : List Symbol) (v : Move) → is_class_key j ≡ false → goods b k ≡ true → good_move b o v ≡ true → good_move b o (cond (is_word j o) (eat k) v) ≡ true
word_good j b None k v f g h = h
word_good j b (Some (M.Word q)) k v f g h = go (same_word j q) refl
  where
    go : (t : Bool) → same_word j q ≡ t → good_move b (Some (M.Word q)) (cond t (eat k) v) ≡ true
    go true e = subst (λ x. good_move b (Some (M.Word x)) (eat k) ≡ true) (word_same j q e) (rw f g)
    go false e = h
word_good j b (Some _) k v f g h = h

pub no_key : (j : Word) → not (is_class_key j) ≡ true → is_class_key j ≡ false
no_key j h = by (is_class_key j) h
  where
    by : (b : Bool) → not b ≡ true → b ≡ false
    by true h = cc
    by false h = refl

below_less : (d : ℕ) → ltb (suc d) 12 ≡ true → ltb d 12 ≡ true
below_less d h = let e = ltb-true (suc d) 12 h in grind (arith, common_steps, e)

module _ (b : Bool) where
  assign_good : (o : Option Mark) → good_move b o (assign_move o) ≡ true
  assign_good (Some (M.Punct P.OpenBrace)) = refl
  assign_good (Some (M.Word W.Class)) = refl
  assign_good _ = refl

  prefix_good : (o : Option Mark) → good_move b o (move (Operand zero) o) ≡ true
  prefix_good (Some (M.Punct P.OpenBrace)) = refl
  prefix_good (Some (M.Word W.Class)) = refl
  prefix_good _ = refl

  post_good : (o : Option Mark) → good_move b o (move PostTail o) ≡ true
  post_good (Some (M.Punct P.OpenBrace)) = refl
  post_good (Some (M.Word W.Class)) = refl
  post_good _ = refl

  primary_good : (o : Option Mark) → good_move b o (move Primary o) ≡ true
  primary_good (Some (M.Punct P.OpenBrace)) = refl
  primary_good (Some (M.Word W.Class)) = refl
  primary_good _ = refl

  base_good : (o : Option Mark) → good_move b o (move BasePart o) ≡ true
  base_good (Some (M.Punct P.OpenBrace)) = refl
  base_good (Some (M.Word W.Class)) = refl
  base_good _ = refl

  unsigned_good : (o : Option Mark) → good_move b o (move UnsignedTail o) ≡ true
  unsigned_good (Some (M.Punct P.OpenBrace)) = refl
  unsigned_good (Some (M.Word W.Class)) = refl
  unsigned_good _ = refl

  simple_good : (o : Option Mark) → good_move b o (move SimplePart o) ≡ true
  simple_good (Some (M.Punct P.OpenBrace)) = refl
  simple_good (Some (M.Word W.Class)) = refl
  simple_good _ = refl

  stmt_good : (o : Option Mark) → good_move b o (stmt_move o) ≡ true
  stmt_good (Some (M.Punct P.OpenBrace)) = refl
  stmt_good (Some (M.Word W.Class)) = refl
  stmt_good _ = refl

  name_good : (o : Option Mark) → good_move b o (name_move o) ≡ true
  name_good (Some (M.Punct P.OpenBrace)) = refl
  name_good (Some (M.Word W.Class)) = refl
  name_good _ = refl

  rest_good : (o : Option Mark) → good_move b o (post_rest o) ≡ true
  rest_good (Some (M.Punct P.OpenBrace)) = refl
  rest_good (Some (M.Word W.Class)) = refl
  rest_good _ = refl

  item_good : (o : Option Mark) → good_move b o (move ItemPart o) ≡ true
  item_good (Some (M.Punct P.OpenBrace)) = refl
  item_good (Some (M.Word W.Class)) = refl
  item_good _ = refl

  constant_good : (o : Option Mark) → good_move b o (move ConstantPart o) ≡ true
  constant_good (Some (M.Punct P.OpenBrace)) = refl
  constant_good (Some (M.Word W.Class)) = refl
  constant_good _ = refl

  member_r_good : (o : Option Mark) → good_move b o (member_rest o) ≡ true
  member_r_good (Some (M.Punct P.OpenBrace)) = refl
  member_r_good (Some (M.Word W.Class)) = refl
  member_r_good _ = refl

  declaration_good : (g : Bool) (o : Option Mark) → good_move b o (declaration_move g o) ≡ true
  declaration_good g (Some (M.Punct P.OpenBrace)) = refl
  declaration_good g (Some (M.Word W.Class)) = refl
  declaration_good g _ = refl

  types_good : (g : Bool) (o : Option Mark) → good_move b o (type_move g o) ≡ true
  types_good g (Some (M.Punct P.OpenBrace)) = refl
  types_good g (Some (M.Word W.Class)) = refl
  types_good g _ = refl

  level_good : (d : ℕ) (o : Option Mark) → ltb (suc d) 12 ≡ true → good_move b o (move (LevelTail (suc d)) o) ≡ true
  level_good d (Some (M.Punct p)) h = either_good (eqb (looseness p) (suc d)) b (Some (M.Punct p)) (eat (Read (Operand d) ∷ Make DoBinary ∷ Read (LevelTail (suc d)) ∷ [])) (push []) (rw (below_less d h, h) refl) refl
  level_good d _ h = let e : eqb 12 (suc d) ≡ false = eqb_above 12 (suc d) (ltb-true (suc d) 12 h) in rw e refl

  std_good : (o : Option Mark) → good_move b o (std_move o) ≡ true
  std_good (Some (M.Name n)) = either_good (eqb n contracts_name) b (Some (M.Name n)) (eat (Read StdMore ∷ [])) (eat (Make DoStandard ∷ [])) refl refl
  std_good (Some (M.Class n)) = either_good (eqb n contracts_name) b (Some (M.Class n)) (eat (s P.Scope ∷ Expect AName ∷ s P.Scope ∷ Expect AName ∷ Make DoLibrary ∷ [])) halt refl refl
  std_good _ = refl

  simple_std_good : (o : Option Mark) → good_move b o (simple_std o) ≡ true
  simple_std_good (Some (M.Name n)) = either_good (eqb n contracts_name) b (Some (M.Name n)) (eat library_local) (eat (Make DoStandard ∷ tails 10 (Read AssignTail ∷ s P.Semicolon ∷ Make DoEvaluate ∷ []))) refl refl
  simple_std_good (Some (M.Class n)) = either_good (eqb n contracts_name) b (Some (M.Class n)) (eat library_local) halt refl refl
  simple_std_good _ = refl

  pre_good : (m : Mark) (n : ℕ) → is_key m ≡ false → good_move b (Some m) (specs_move (Some n)) ≡ true
  pre_good m n h =
      either_good (eqb n pre_name) b (Some m) (eat (s P.OpenParen ∷ Read Cond ∷ s P.CloseParen ∷ Make DoPre ∷ Make DoMoreSpecs ∷ Read SpecsPart ∷ [])) (cond (eqb n post_name) (eat (s P.OpenParen ∷ Read PostRest ∷ Make DoMoreSpecs ∷ Read SpecsPart ∷ [])) (push [])) (rw h refl)
      (either_good (eqb n post_name) b (Some m) (eat (s P.OpenParen ∷ Read PostRest ∷ Make DoMoreSpecs ∷ Read SpecsPart ∷ [])) (push []) (rw h refl) refl)

  specs_good : (o : Option Mark) → good_move b o (move SpecsPart o) ≡ true
  specs_good (Some (M.Name n)) = pre_good (M.Name n) n refl
  specs_good (Some (M.Class n)) = pre_good (M.Class n) n refl
  specs_good _ = refl

  global_good : (g : Bool) (o : Option Mark) → good_move b o (global_move g o) ≡ true
  global_good true o = sign_good P.Assign b o (Read ConstantPart ∷ Make DoWithValue ∷ s P.Semicolon ∷ Make DoGlobal ∷ []) (push (Make DoWithout ∷ s P.Semicolon ∷ Make DoGlobal ∷ [])) refl refl
  global_good false o = refl

  push_either : (t : Bool) (o : Option Mark) (j k : List Symbol) → goods b j ≡ true → goods b k ≡ true → good_move b o (cond t (push j) (push k)) ≡ true
  push_either t o j k g h = either_good t b o (push j) (push k) g h

class_good : (o : Option Mark) → good_move true o (class_move o) ≡ true
class_good (Some (M.Punct P.OpenBrace)) = refl
class_good (Some (M.Word W.Class)) = refl
class_good _ = refl

member_good : (o : Option Mark) → good_move true o (member_move o) ≡ true
member_good (Some (M.Punct P.OpenBrace)) = refl
member_good (Some (M.Word W.Class)) = refl
member_good _ = refl

special_good : (o : Option Mark) → good_move true o (special_move o) ≡ true
special_good (Some (M.Punct P.OpenBrace)) = refl
special_good (Some (M.Word W.Class)) = refl
special_good _ = refl

class_known : (P : Bool → Type 0) (b : Bool) → b ≡ true → P true → P b
class_known P b e h = subst P (sym e) h

pub part_good : (x : Part) (b : Bool) (o : Option Mark) → good b (Read x) ≡ true → good_move b o (move x o) ≡ true
part_good Assign b o h = refl
part_good AssignTail b o h = either_good (eqb (loose o) 11) b o (assign_move o) (push []) (assign_good b o) refl
part_good Cond b o h = refl
part_good CondTail b o h = sign_good P.Question b o (Read Assign ∷ s P.Colon ∷ Read Assign ∷ Make DoChoose ∷ []) (push []) refl (refl)
part_good (Operand zero) b o h = prefix_good b o
part_good (Operand (suc d)) b o h = rw (below_less d h, h) refl
part_good (LevelTail zero) b o h = refl
part_good (LevelTail (suc d)) b o h = level_good b d o h
part_good PostTail b o h = post_good b o
part_good Primary b o h = primary_good b o
part_good StdRest b o h = std_good b o
part_good StdMore b o h = sign_good P.Scope b o (Expect AName ∷ s P.Scope ∷ Expect AName ∷ Make DoLibrary ∷ []) (push (Make DoStandard ∷ [])) refl (refl)
part_good ArgsRest b o h = sign_good P.CloseParen b o (Make DoNoArgs ∷ []) (push (Read Assign ∷ Make DoOne ∷ Read SeveralTail ∷ s P.CloseParen ∷ Make DoArgs ∷ [])) refl (refl)
part_good SeveralTail b o h = sign_good P.Comma b o (Read Assign ∷ Make DoAlso ∷ Read SeveralTail ∷ []) (push []) refl (refl)
part_good TypePart b o h = refl
part_good BasePart b o h = base_good b o
part_good UnsignedTail b o h = unsigned_good b o
part_good (StarTail zero) b o h = refl
part_good (StarTail (suc d)) b o h = sign_good P.Star b o (Read (OptWord W.Const) ∷ Make DoStar ∷ Read (StarTail d) ∷ []) (push []) refl (refl)
part_good (OptWord k) b o h = word_good k b o (Make DoFlag ∷ []) (push (Make DoNoFlag ∷ [])) (no_key k h) refl (refl)
part_good (OptSign p) b o h = sign_good p b o (Make DoFlag ∷ []) (push (Make DoNoFlag ∷ [])) refl (refl)
part_good LocalPart b o h = refl
part_good InitPart b o h = sign_good P.Assign b o (Read Assign ∷ Make DoEquals ∷ []) (cond (is_mark P.OpenParen o) (eat (Read Assign ∷ Make DoOne ∷ Read SeveralTail ∷ s P.CloseParen ∷ Make DoParens ∷ [])) (push (Make DoBare ∷ []))) refl (sign_good P.OpenParen b o (Read Assign ∷ Make DoOne ∷ Read SeveralTail ∷ s P.CloseParen ∷ Make DoParens ∷ []) (push (Make DoBare ∷ [])) refl (refl))
part_good OptExpr b o h = push_either b (is_end o) o (Make DoAbsent ∷ []) (Read Assign ∷ Make DoPresent ∷ []) refl refl
part_good SimplePart b o h = simple_good b o
part_good SimpleStd b o h = simple_std_good b o
part_good StmtPart b o h = stmt_good b o
part_good BlockPart b o h = refl
part_good StmtsPart b o h = push_either b (is_mark P.CloseBrace o) o [] (Read StmtPart ∷ Make DoMoreStmts ∷ Read StmtsPart ∷ []) refl refl
part_good ElseTail b o h = word_good W.Else b o (Read StmtPart ∷ Make DoBranches ∷ []) (push (Make DoBranch ∷ [])) refl refl (refl)
part_good HandlerPart b o h = refl
part_good HandlersTail b o h = push_either b (is_word W.Catch o) o (Read HandlerPart ∷ Make DoMoreHandlers ∷ Read HandlersTail ∷ []) [] refl refl
part_good CatchPart b o h = sign_good P.Ellipsis b o (Make DoAnyCatch ∷ []) (push (Read ParamPart ∷ Make DoTypedCatch ∷ [])) refl refl
part_good ParamPart b o h = refl
part_good OptName b o h = name_good b o
part_good ParamsRest b o h = sign_good P.CloseParen b o (Make DoNoParams ∷ []) (push (Read ParamPart ∷ Make DoOneParam ∷ Read ParamsTail ∷ s P.CloseParen ∷ Make DoParams ∷ [])) refl (refl)
part_good ParamsTail b o h = sign_good P.Comma b o (Read ParamPart ∷ Make DoMoreParams ∷ Read ParamsTail ∷ []) (push []) refl (refl)
part_good SuffixPart b o h = refl
part_good SpecsPart b o h = specs_good b o
part_good PostRest b o h = rest_good b o
part_good PostName b o h = sign_good P.Colon b o (Read Cond ∷ s P.CloseParen ∷ Make DoPostNamed ∷ []) (push (Make DoLeaf ∷ tails 10 (Read CondTail ∷ s P.CloseParen ∷ Make DoPost ∷ []))) refl (refl)
part_good TailPart b o h = sign_good P.Semicolon b o (Make DoDeclared ∷ []) (push (Read BlockPart ∷ Make DoDefined ∷ [])) refl (refl)
part_good MakingPart b o h = sign_good P.Semicolon b o (Make DoUnmade ∷ []) (push (Read InitsPart ∷ Read BlockPart ∷ Make DoMade ∷ [])) refl (refl)
part_good InitsPart b o h = sign_good P.Colon b o (Read MemberInitPart ∷ Make DoOneInit ∷ Read InitsTail ∷ Make DoInits ∷ []) (push (Make DoNoInits ∷ [])) refl (refl)
part_good MemberInitPart b o h = refl
part_good InitsTail b o h = sign_good P.Comma b o (Read MemberInitPart ∷ Make DoMoreInits ∷ Read InitsTail ∷ []) (push []) refl (refl)
part_good MembersPart b o h = class_known (λ b. good_move b o (move MembersPart o) ≡ true) b h (push_either true (is_mark P.CloseBrace o) o [] (Read MemberPart ∷ Make DoMoreMembers ∷ Read MembersPart ∷ []) refl refl)
part_good MemberPart b o h = class_known (λ b. good_move b o (member_move o) ≡ true) b h (member_good o)
part_good MemberRest b o h = member_r_good b o
part_good MemberClass b o h = sign_good P.OpenParen b o constructor_rest (push (Make DoClassBase ∷ plain_type (Expect AName ∷ Read MemberName ∷ []))) refl (refl)
part_good MemberName b o h = sign_good P.OpenParen b o method_rest (push (s P.Semicolon ∷ Make DoField ∷ [])) refl (refl)
part_good VirtualRest b o h = class_known (λ b. good_move b o (move VirtualRest o) ≡ true) b h (sign_good P.Tilde true o (Expect AClass ∷ s P.OpenParen ∷ s P.CloseParen ∷ Read SuffixPart ∷ Read TailPart ∷ Make DoDestructor ∷ []) (push (Read TypePart ∷ Expect AName ∷ s P.OpenParen ∷ method_rest)) refl (refl))
part_good ItemsPart b None h = refl
part_good ItemsPart b (Some m) h = refl
part_good ItemPart b o h = item_good b o
part_good ClassRest b o h = class_known (λ b. good_move b o (class_move o) ≡ true) b h (class_good o)
part_good (Declaration g) b o h = declaration_good b g o
part_good (AfterClass g) b o h = class_known (λ b. good_move b o (move (AfterClass g) o) ≡ true) b h (sign_good P.Scope true o (Read Special ∷ []) (push (Make DoClassBase ∷ plain_type (Read (AfterType g) ∷ []))) refl (refl))
part_good Special b o h = class_known (λ b. good_move b o (special_move o) ≡ true) b h (special_good o)
part_good (AfterType g) b o h = types_good b g o
part_good (AfterName g) b o h = sign_good P.OpenParen b o (Read ParamsRest ∷ Read SuffixPart ∷ Read TailPart ∷ Make DoFunction ∷ []) (global_move g o) refl (global_good b g o)
part_good ConstantPart b o h = constant_good b o

-- what stays good where a class name was taken since
known_good : (b c : Bool) (x : Symbol) → (b ≡ true → c ≡ true) → good b x ≡ true → good c x ≡ true
known_good true c x f h = subst (λ d. good d x ≡ true) (sym (f refl)) h
known_good false true (Expect AClass) f h = refl
known_good false true (Expect _) f h = h
known_good false true (Make a) f h = h
known_good false true (Read x) f h = by x h
  where
    by : (x : Part) → good false (Read x) ≡ true → good true (Read x) ≡ true
    by ClassRest h = refl
    by MembersPart h = refl
    by MemberPart h = refl
    by VirtualRest h = refl
    by Special h = refl
    by (AfterClass g) h = refl
    by _ h = h
known_good false false x f h = h

pub known_goods : (b c : Bool) (k : List Symbol) → (b ≡ true → c ≡ true) → goods b k ≡ true → goods c k ≡ true
known_goods b c [] f h = refl
known_goods b c (x ∷ k) f h = let p = and_parts (good b x) (goods b k) h in and_from (good c x) (goods c k) (known_good b c x f p.0) (known_goods b c k f p.1)

pub known_still : (b : Bool) (m : Mark) → b ≡ true → known_after b m ≡ true
known_still b (M.Class n) h = refl
known_still b _ h = h

pub goods_append : (b : Bool) (j k : List Symbol) → goods b j ≡ true → goods b k ≡ true → goods b (j ++ k) ≡ true
goods_append b [] k h g = g
goods_append b (x ∷ j) k h g = let p = and_parts (good b x) (goods b j) h in and_from (good b x) (goods b (j ++ k)) p.0 (goods_append b j k p.1 g)
