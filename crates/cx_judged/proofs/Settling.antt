-- The parser's stack comes to the next token that it takes, to its end, or to where it stands.
use Rattle.std.proofs.Common.{◌≡◌, ℕ, zero, suc, ◌+◌, ◌<◌, Bool, true, false, cond, eqb, List, [], ◌∷◌, ◌++◌, Option, Some, None, refl, ◌∙◌, ap, subst, arith}
use Rattle.cx_syntax.specs.declared.mark.Mark.{Mark}
use Rattle.cx_syntax.specs.declared.mark.Mark.TheVariants as M
use Rattle.cx_syntax.specs.declared.mark.Punct.TheVariants as P
use Rattle.cx_syntax.specs.declared.mark.Word.{Word}
use Rattle.cx_syntax.specs.declared.mark.Word.TheVariants as W
use Rattle.cx_parser.specs.declared.recognizer.Settled.{Settled}
use Rattle.cx_parser.specs.declared.recognizer.Settled.TheVariants.{Ate, Ended, Stuck}
use Rattle.cx_parser.specs.Reads.{Settles, Silent, bare_exec, gone}
use Rattle.cx_parser.proofs.Waits.{silent_none}
use Rattle.cx_table.specs.declared.symbol.Part.{Part}
use Rattle.cx_table.specs.declared.symbol.Part.TheVariants.{Assign, AssignTail, Cond, CondTail, Operand, LevelTail, Primary, PostTail, StdRest, StdMore, ArgsRest, SeveralTail, TypePart, BasePart, UnsignedTail, StarTail, OptWord, OptSign, LocalPart, InitPart, OptExpr, SimplePart, SimpleStd, StmtPart, BlockPart, StmtsPart, ElseTail, HandlerPart, HandlersTail, CatchPart, ParamPart, OptName, ParamsRest, ParamsTail, SuffixPart, SpecsPart, PostRest, PostName, TailPart, MakingPart, InitsPart, MemberInitPart, InitsTail, MembersPart, MemberPart, MemberRest, MemberClass, MemberName, VirtualRest, ItemsPart, ItemPart, ClassRest, Declaration, AfterClass, Special, AfterType, AfterName, ConstantPart}
use Rattle.cx_table.specs.declared.symbol.Symbol.{Symbol}
use Rattle.cx_table.specs.declared.symbol.Symbol.TheVariants.{Expect, Make, Read}
use Rattle.cx_table.specs.Moves.{Move, assign_move, base_move, class_move, constant_move, declaration_move, eat, global_move, halt, item_move, item_word, member_move, member_rest, member_word, move, name_move, post_move, post_rest, primary_move, push, simple_move, simple_other, simple_std, special_move, specs_move, static_move, std_move, stmt_move, type_move, unsigned_move}
use Rattle.cx_table.specs.Sorts.{fits, is_end, is_free, is_mark, is_prefix_mark, is_type_start, is_word, loose, name_number}
use Rattle.cx_table.specs.declared.symbol.Act.TheVariants.{DoPlainConstant, DoWordBase}
use Rattle.cx_syntax.specs.Same.{same_punct}
use Rattle.cx_syntax.specs.Shaped.{contracts_name, is_assign, is_cast, is_constant, is_leaf, is_member, is_step, is_word_base, post_name, pre_name}
use Rattle.cx_table.specs.Steps.{Bare, bare, bare_eats, bare_goes, bare_moved, bare_stays, wait}

-- ---- what takes the place of a part without a token waits for less

data Falls (k : List Symbol) (w : ℕ) : Move → Type 0 where
  falls : {b : List Symbol} → wait (b ++ k) < w → Falls k w (push b)
  eats : {b : List Symbol} → Falls k w (eat b)
  halts : Falls k w halt

by_test : {k : List Symbol} {w : ℕ} (b : Bool) (u v : Move) → Falls k w u → Falls k w v → Falls k w (cond b u v)
by_test true u v x y = x
by_test false u v x y = y

module _ (k : List Symbol) (w : ℕ) where
  assign_falls : (o : Option Mark) → Falls k w (assign_move o)
  assign_falls (Some (M.Punct p)) = by_test (is_assign p) _ _ Falls.eats Falls.eats
  assign_falls other = Falls.halts

  post_falls : (o : Option Mark) → Falls k w (post_move o)
  post_falls (Some (M.Punct p)) = by_test (is_step p) _ _ Falls.eats (by_test (is_member p) _ _ Falls.eats (by_test (same_punct P.OpenParen p) _ _ Falls.eats Falls.halts))
  post_falls other = Falls.halts

  static_falls : (word : Word) → Falls k w (static_move word)
  static_falls W.StaticCast = Falls.eats
  static_falls other = Falls.halts

  primary_falls : (m : Mark) → Falls k w (primary_move m)
  primary_falls (M.Class n) = Falls.eats
  primary_falls M.Std = Falls.eats
  primary_falls (M.Word word) = by_test (is_cast word) _ _ Falls.eats (static_falls word)
  primary_falls (M.Punct p) = by_test (same_punct P.OpenParen p) _ _ Falls.eats Falls.halts
  primary_falls other = Falls.halts

  std_falls : (o : Option Mark) → Falls k w (std_move o)
  std_falls (Some (M.Name n)) = by_test (eqb n contracts_name) _ _ Falls.eats Falls.eats
  std_falls (Some (M.Class n)) = by_test (eqb n contracts_name) _ _ Falls.eats Falls.halts
  std_falls other = Falls.halts

  base_falls : (o : Option Mark) → Falls k w (base_move o)
  base_falls (Some (M.Class n)) = Falls.eats
  base_falls (Some M.Std) = Falls.eats
  base_falls (Some (M.Word W.Unsigned)) = Falls.eats
  base_falls (Some (M.Word W.Long)) = Falls.eats
  base_falls (Some (M.Word word)) = base (is_word_base word)
    where
      base : (b : Bool) → Falls k w (cond b (eat (Make DoWordBase ∷ [])) halt)
      base true = Falls.eats
      base false = Falls.halts
  base_falls other = Falls.halts

  simple_std_falls : (o : Option Mark) → Falls k w (simple_std o)
  simple_std_falls (Some (M.Name n)) = by_test (eqb n contracts_name) _ _ Falls.eats Falls.eats
  simple_std_falls (Some (M.Class n)) = by_test (eqb n contracts_name) _ _ Falls.eats Falls.halts
  simple_std_falls other = Falls.halts

  simple_other_falls : (m : Mark) → Falls k w (simple_other m)
  simple_other_falls M.Std = Falls.eats
  simple_other_falls (M.Punct P.Semicolon) = Falls.eats
  simple_other_falls other = Falls.halts

  class_falls : (o : Option Mark) → Falls k w (class_move o)
  class_falls (Some (M.Punct P.Semicolon)) = Falls.eats
  class_falls (Some (M.Punct P.OpenBrace)) = Falls.eats
  class_falls other = Falls.halts

  special_falls : (o : Option Mark) → Falls k w (special_move o)
  special_falls (Some (M.Class n)) = Falls.eats
  special_falls (Some (M.Punct P.Tilde)) = Falls.eats
  special_falls other = Falls.halts

  type_falls : (b : Bool) (o : Option Mark) → Falls k w (type_move b o)
  type_falls b (Some (M.Name n)) = Falls.eats
  type_falls b (Some (M.Class n)) = Falls.eats
  type_falls b other = Falls.halts

  constant_falls : (o : Option Mark) → Falls k w (constant_move o)
  constant_falls (Some (M.Punct P.Minus)) = Falls.eats
  constant_falls (Some m) = plain (is_constant m)
    where
      plain : (b : Bool) → Falls k w (cond b (eat (Make DoPlainConstant ∷ [])) halt)
      plain true = Falls.eats
      plain false = Falls.halts
  constant_falls None = Falls.halts

module _ (k : List Symbol) where
  unsigned_falls : (o : Option Mark) → Falls k (4 + wait k) (unsigned_move o)
  unsigned_falls (Some (M.Word W.Int)) = Falls.eats
  unsigned_falls (Some (M.Word W.Long)) = Falls.eats
  unsigned_falls other = Falls.falls (omega arith)

  simple_falls : (m : Mark) → Falls k 15 (simple_move m)
  simple_falls m = by_test (is_free m) _ _ (Falls.falls (omega arith)) (by_test (is_type_start m) _ _ (Falls.falls (omega arith)) (simple_other_falls k 15 m))

  stmt_falls : (o : Option Mark) → Falls k 16 (stmt_move o)
  stmt_falls (Some (M.Word W.If)) = Falls.eats
  stmt_falls (Some (M.Word W.While)) = Falls.eats
  stmt_falls (Some (M.Word W.For)) = Falls.eats
  stmt_falls (Some (M.Word W.Return)) = Falls.eats
  stmt_falls (Some (M.Word W.Break)) = Falls.eats
  stmt_falls (Some (M.Word W.Continue)) = Falls.eats
  stmt_falls (Some (M.Word W.Throw)) = Falls.eats
  stmt_falls (Some (M.Word W.Try)) = Falls.eats
  stmt_falls (Some (M.Word W.ContractAssert)) = Falls.eats
  stmt_falls (Some (M.Punct P.OpenBrace)) = Falls.falls (omega arith)
  stmt_falls other = Falls.falls (omega arith)

  name_falls : (o : Option Mark) → Falls k (4 + wait k) (name_move o)
  name_falls (Some (M.Name n)) = Falls.eats
  name_falls other = Falls.falls (omega arith)

  specs_falls : (o : Option ℕ) → Falls k (4 + wait k) (specs_move o)
  specs_falls (Some n) = by_test (eqb n pre_name) _ _ Falls.eats (by_test (eqb n post_name) _ _ Falls.eats (Falls.falls (omega arith)))
  specs_falls None = Falls.falls (omega arith)

  post_rest_falls : (o : Option Mark) → Falls k 15 (post_rest o)
  post_rest_falls (Some (M.Name n)) = Falls.eats
  post_rest_falls other = Falls.falls (omega arith)

  member_word_falls : (word : Word) → Falls k 10 (member_word word)
  member_word_falls W.Public = Falls.eats
  member_word_falls W.Private = Falls.eats
  member_word_falls W.Virtual = Falls.eats
  member_word_falls W.Explicit = Falls.eats
  member_word_falls other = Falls.falls (omega arith)

  member_falls : (o : Option Mark) → Falls k 10 (member_move o)
  member_falls (Some (M.Word word)) = member_word_falls word
  member_falls (Some (M.Punct P.Tilde)) = Falls.falls (omega arith)
  member_falls other = Falls.falls (omega arith)

  member_rest_falls : (o : Option Mark) → Falls k 8 (member_rest o)
  member_rest_falls (Some (M.Class n)) = Falls.eats
  member_rest_falls other = Falls.falls (omega arith)

  item_word_falls : (word : Word) → Falls k 10 (item_word word)
  item_word_falls W.Class = Falls.eats
  item_word_falls W.Struct = Falls.eats
  item_word_falls W.Extern = Falls.eats
  item_word_falls W.Inline = Falls.eats
  item_word_falls other = Falls.falls (omega arith)

  item_falls : (o : Option Mark) → Falls k 10 (item_move o)
  item_falls (Some (M.Word word)) = item_word_falls word
  item_falls other = Falls.falls (omega arith)

  declaration_falls : (b : Bool) (o : Option Mark) → Falls k 8 (declaration_move b o)
  declaration_falls b (Some (M.Class n)) = Falls.eats
  declaration_falls b other = Falls.falls (omega arith)

  global_falls : (b : Bool) (o : Option Mark) → Falls k 4 (global_move b o)
  global_falls true o = by_test (is_mark P.Assign o) _ _ Falls.eats (Falls.falls (omega arith))
  global_falls false o = Falls.halts

  part_falls : (x : Part) (o : Option Mark) → Falls k (wait (Read x ∷ k)) (move x o)
  part_falls Assign o = Falls.falls (omega arith)
  part_falls AssignTail o = by_test (eqb (loose o) 11) _ _ (assign_falls k (4 + wait k) o) (Falls.falls (omega arith))
  part_falls Cond o = Falls.falls (omega arith)
  part_falls CondTail o = by_test (is_mark P.Question o) _ _ Falls.eats (Falls.falls (omega arith))
  part_falls (Operand zero) o = by_test (is_prefix_mark o) _ _ Falls.eats (Falls.falls (omega arith))
  part_falls (Operand (suc d)) o = Falls.falls (omega arith)
  part_falls (LevelTail zero) o = Falls.halts
  part_falls (LevelTail (suc d)) o = by_test (eqb (loose o) (suc d)) _ _ Falls.eats (Falls.falls (omega arith))
  part_falls PostTail o = by_test (eqb (loose o) 0) _ _ (post_falls k (4 + wait k) o) (Falls.falls (omega arith))
  part_falls Primary None = Falls.halts
  part_falls Primary (Some m) = by_test (is_leaf m) _ _ Falls.eats (primary_falls k 2 m)
  part_falls StdRest o = std_falls k 2 o
  part_falls StdMore o = by_test (is_mark P.Scope o) _ _ Falls.eats (Falls.falls (omega arith))
  part_falls ArgsRest o = by_test (is_mark P.CloseParen o) _ _ Falls.eats (Falls.falls (omega arith))
  part_falls SeveralTail o = by_test (is_mark P.Comma o) _ _ Falls.eats (Falls.falls (omega arith))
  part_falls TypePart o = Falls.falls (omega arith)
  part_falls BasePart o = base_falls k 2 o
  part_falls UnsignedTail o = unsigned_falls o
  part_falls (StarTail zero) o = Falls.falls (omega arith)
  part_falls (StarTail (suc d)) o = by_test (is_mark P.Star o) _ _ Falls.eats (Falls.falls (omega arith))
  part_falls (OptWord word) o = by_test (is_word word o) _ _ Falls.eats (Falls.falls (omega arith))
  part_falls (OptSign p) o = by_test (is_mark p o) _ _ Falls.eats (Falls.falls (omega arith))
  part_falls LocalPart o = Falls.falls (omega arith)
  part_falls InitPart o = by_test (is_mark P.Assign o) _ _ Falls.eats (by_test (is_mark P.OpenParen o) _ _ Falls.eats (Falls.falls (omega arith)))
  part_falls OptExpr o = by_test (is_end o) _ _ (Falls.falls (omega arith)) (Falls.falls (omega arith))
  part_falls SimplePart None = Falls.halts
  part_falls SimplePart (Some m) = simple_falls m
  part_falls SimpleStd o = simple_std_falls k 2 o
  part_falls StmtPart o = stmt_falls o
  part_falls BlockPart o = Falls.falls (omega arith)
  part_falls StmtsPart o = by_test (is_mark P.CloseBrace o) _ _ (Falls.falls (omega arith)) (Falls.falls (omega arith))
  part_falls ElseTail o = by_test (is_word W.Else o) _ _ Falls.eats (Falls.falls (omega arith))
  part_falls HandlerPart o = Falls.falls (omega arith)
  part_falls HandlersTail o = by_test (is_word W.Catch o) _ _ (Falls.falls (omega arith)) (Falls.falls (omega arith))
  part_falls CatchPart o = by_test (is_mark P.Ellipsis o) _ _ Falls.eats (Falls.falls (omega arith))
  part_falls ParamPart o = Falls.falls (omega arith)
  part_falls OptName o = name_falls o
  part_falls ParamsRest o = by_test (is_mark P.CloseParen o) _ _ Falls.eats (Falls.falls (omega arith))
  part_falls ParamsTail o = by_test (is_mark P.Comma o) _ _ Falls.eats (Falls.falls (omega arith))
  part_falls SuffixPart o = Falls.falls (omega arith)
  part_falls SpecsPart o = specs_falls (name_number o)
  part_falls PostRest o = post_rest_falls o
  part_falls PostName o = by_test (is_mark P.Colon o) _ _ Falls.eats (Falls.falls (omega arith))
  part_falls TailPart o = by_test (is_mark P.Semicolon o) _ _ Falls.eats (Falls.falls (omega arith))
  part_falls MakingPart o = by_test (is_mark P.Semicolon o) _ _ Falls.eats (Falls.falls (omega arith))
  part_falls InitsPart o = by_test (is_mark P.Colon o) _ _ Falls.eats (Falls.falls (omega arith))
  part_falls MemberInitPart o = Falls.falls (omega arith)
  part_falls InitsTail o = by_test (is_mark P.Comma o) _ _ Falls.eats (Falls.falls (omega arith))
  part_falls MembersPart o = by_test (is_mark P.CloseBrace o) _ _ (Falls.falls (omega arith)) (Falls.falls (omega arith))
  part_falls MemberPart o = member_falls o
  part_falls MemberRest o = member_rest_falls o
  part_falls MemberClass o = by_test (is_mark P.OpenParen o) _ _ Falls.eats (Falls.falls (omega arith))
  part_falls MemberName o = by_test (is_mark P.OpenParen o) _ _ Falls.eats (Falls.falls (omega arith))
  part_falls VirtualRest o = by_test (is_mark P.Tilde o) _ _ Falls.eats (Falls.falls (omega arith))
  part_falls ItemsPart None = Falls.falls (omega arith)
  part_falls ItemsPart (Some m) = Falls.falls (omega arith)
  part_falls ItemPart o = item_falls o
  part_falls ClassRest o = class_falls k 2 o
  part_falls (Declaration b) o = declaration_falls b o
  part_falls (AfterClass b) o = by_test (is_mark P.Scope o) _ _ Falls.eats (Falls.falls (omega arith))
  part_falls Special o = special_falls k 2 o
  part_falls (AfterType b) o = type_falls k 2 b o
  part_falls (AfterName b) o = by_test (is_mark P.OpenParen o) _ _ Falls.eats (global_falls b o)
  part_falls ConstantPart o = constant_falls k 2 o

-- ---- a step without a token waits for less

of_move : (v : Move) (k j : List Symbol) (o : Option Mark) (w : ℕ) → Falls k w v → bare_moved v k o ≡ bare_goes j → wait j < w
of_move (push b) k j o w (Falls.falls below) is = let same : b ++ k ≡ j = cc in subst (λ l. wait l < w) same below
of_move (eat b) k j None w fall is = absurd (cc)
of_move (eat b) k j (Some m) w fall is = absurd (cc)
of_move halt k j o w fall is = absurd (cc)

no_token_taken : (b : Bool) (k j : List Symbol) → cond b (bare_eats k) bare_stays ≡ bare_goes j → ⊥
no_token_taken true k j is = cc
no_token_taken false k j is = cc

goes_less : (k j : List Symbol) (o : Option Mark) → bare k o ≡ bare_goes j → wait j < wait k
goes_less [] j o is = absurd (cc)
goes_less (Expect t ∷ k) j None is = absurd (cc)
goes_less (Expect t ∷ k) j (Some m) is = absurd (no_token_taken (fits t m) k j is)
goes_less (Make a ∷ k) j o is = let same : k ≡ j = cc in subst (λ l. wait l < 1 + wait k) same (omega arith)
goes_less (Read x ∷ k) j o is = of_move (move x o) k j o (wait (Read x ∷ k)) (part_falls k x o) is

-- ---- where the stack settles

abbrev Settling : List Symbol → Option Mark → Type 0
Settling k o = (r : Settled) × (j : List Symbol) × Settles r o k j

silent_first : (k i j : List Symbol) (o : Option Mark) → bare k o ≡ bare_goes i → Silent i j o → Silent k j o
unfolding Silent bare_exec
silent_first k i j o is more = (suc more.0, ap (λ b. bare_exec more.0 (gone b k) o) is ∙ more.1)

settled_first : (r : Settled) (k i j : List Symbol) (o : Option Mark) → bare k o ≡ bare_goes i → Settles r o i j → Settles r o k j
settled_first Ate k i j o is it = (it.0, silent_first k i it.0 o is it.1, it.2)
settled_first Ended k i j o is it = silent_first k i [] o is it
settled_first Stuck k i j o is it = (it.0, silent_first k i it.0 o is it.1, it.2, it.3)

at_rest : (k : List Symbol) (o : Option Mark) → bare k o ≡ bare_stays → Settling k o
at_rest [] o is = (Ended, [], silent_none [] o)
at_rest (x ∷ k) o is = (Stuck, [], (x ∷ k, silent_none (x ∷ k) o, is, λ none. cc))

abbrev SettleWithin : ℕ → Type 0
SettleWithin n = (k : List Symbol) (o : Option Mark) → wait k < n → Settling k o

by_step : (n : ℕ) → SettleWithin n → (k : List Symbol) (o : Option Mark) → wait k < suc n → (b : Bare) → bare k o ≡ b → Settling k o
by_step n on k o within bare_stays is = at_rest k o is
by_step n on k o within (bare_eats j) is = (Ate, j, (k, silent_none k o, is))
by_step n on k o within (bare_goes i) is =
    let below = goes_less k i o is in
    let more = on i o (omega arith) in
    (more.0, more.1, settled_first more.0 k i more.1 o is more.2)

settle_within : (n : ℕ) → SettleWithin n
settle_within zero = λ k o within. absurd (omega arith)
settle_within (suc n) = λ k o within. by_step n (settle_within n) k o within (bare k o) refl

pub settles : (k : List Symbol) (o : Option Mark) → (r : Settled) × (j : List Symbol) × Settles r o k j
settles k o = settle_within (suc (wait k)) k o (omega arith)
