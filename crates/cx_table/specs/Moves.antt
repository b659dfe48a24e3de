-- The table of the grammar: what takes the place of a part on top of the stack, by the token that comes next; [gram] factored to the left.
use Rattle.std.specs.Prelude.{ℕ, zero, suc, Bool, true, false, cond, eqb, List, [], ◌∷◌, Option, Some, None}
use Rattle.cx_syntax.specs.declared.mark.Punct.{Punct}
use Rattle.cx_syntax.specs.declared.mark.Punct.TheVariants as P
use Rattle.cx_syntax.specs.declared.mark.Word.{Word}
use Rattle.cx_syntax.specs.declared.mark.Word.TheVariants as W
use Rattle.cx_syntax.specs.declared.mark.Mark.{Mark}
use Rattle.cx_syntax.specs.declared.mark.Mark.TheVariants as M
use Rattle.cx_table.specs.declared.symbol.Act.TheVariants.{DoLeaf, DoParen, DoTemporary, DoWordCast, DoStaticCast, DoStandard, DoLibrary, DoMember, DoCall, DoStepped, DoUnary, DoBinary, DoChoose, DoAssign, DoNoArgs, DoArgs, DoOne, DoAlso, DoWordBase, DoUnsignedInt, DoLongLong, DoUnsignedLongLong, DoClassBase, DoLibraryBase, DoPointers, DoPlain, DoStar, DoType, DoFlag, DoNoFlag, DoBare, DoEquals, DoParens, DoLocal, DoAbsent, DoPresent, DoEmpty, DoEvaluate, DoDeclare, DoBlock, DoCompound, DoBranch, DoBranches, DoWhile, DoFor, DoReturn, DoThrow, DoBreak, DoContinue, DoTry, DoAssert, DoNoStmts, DoMoreStmts, DoHandler, DoOneHandler, DoMoreHandlers, DoAnyCatch, DoTypedCatch, DoUnnamed, DoNamed, DoParam, DoOneParam, DoMoreParams, DoNoParams, DoParams, DoNoSpecs, DoMoreSpecs, DoPre, DoPost, DoPostNamed, DoSuffix, DoDeclared, DoDefined, DoUnmade, DoMade, DoNoInits, DoInits, DoMemberInit, DoOneInit, DoMoreInits, DoAccess, DoField, DoMethod, DoConstructor, DoDestructor, DoNoMembers, DoMoreMembers, DoPlainConstant, DoNegative, DoWithout, DoWithValue, DoClassNamed, DoClassDefined, DoExternal, DoGlobal, DoFunction, DoOuterMethod, DoOuterConstructor, DoOuterDestructor, DoMoreItems}
use Rattle.cx_table.specs.declared.symbol.Kind.TheVariants.{Sign, Keyword, AName, AClass, ANumber, TheContracts}
use Rattle.cx_table.specs.declared.symbol.Part.{Part}
use Rattle.cx_table.specs.declared.symbol.Part.TheVariants.{Assign, AssignTail, Cond, CondTail, Operand, LevelTail, Primary, PostTail, StdRest, StdMore, ArgsRest, SeveralTail, TypePart, BasePart, UnsignedTail, StarTail, OptWord, OptSign, LocalPart, InitPart, OptExpr, SimplePart, SimpleStd, StmtPart, BlockPart, StmtsPart, ElseTail, HandlerPart, HandlersTail, CatchPart, ParamPart, OptName, ParamsRest, ParamsTail, SuffixPart, SpecsPart, PostRest, PostName, TailPart, MakingPart, InitsPart, MemberInitPart, InitsTail, MembersPart, MemberPart, MemberRest, MemberClass, MemberName, VirtualRest, ItemsPart, ItemPart, ClassRest, Declaration, AfterClass, Special, AfterType, AfterName, ConstantPart}
use Rattle.cx_table.specs.declared.symbol.Symbol.{Symbol}
use Rattle.cx_table.specs.declared.symbol.Symbol.TheVariants.{Expect, Make, Read}
use Rattle.cx_syntax.specs.Same.{same_punct}
use Rattle.cx_syntax.specs.Shaped.{contracts_name, is_assign, is_cast, is_constant, is_leaf, is_member, is_step, is_word_base, post_name, pre_name}
use Rattle.cx_table.specs.Sorts.{is_end, is_free, is_mark, is_prefix_mark, is_type_start, is_word, loose, name_number}

-- the body takes the place of the part; or first the next token is taken; or the part can't begin with it
pub data Move : Type 0 where
  push eat : List Symbol → Move
  halt : Move

-- short names for the table
abbrev pub s : Punct → Symbol
s p = Expect (Sign p)

-- ( assign )
abbrev pub in_parens : List Symbol → List Symbol
in_parens k = s P.OpenParen ∷ Read Assign ∷ s P.CloseParen ∷ k

-- what may follow an operand at a level and at those below it
abbrev pub tails : ℕ → List Symbol → List Symbol
tails zero k = Read PostTail ∷ k
tails (suc d) k = tails d (Read (LevelTail (suc d)) ∷ k)

-- what may follow a base without `const`
abbrev pub plain_type : List Symbol → List Symbol
plain_type k = Make DoPlain ∷ Read (StarTail 8) ∷ Read (OptSign P.And) ∷ Make DoType ∷ k

abbrev pub assign_move : Option Mark → Move
assign_move (Some (M.Punct p)) = cond (is_assign p) (eat (Read Assign ∷ Make DoAssign ∷ [])) (eat (Read Assign ∷ s P.Colon ∷ Read Assign ∷ Make DoChoose ∷ []))
assign_move _ = halt

abbrev pub post_move : Option Mark → Move
post_move (Some (M.Punct p)) =
    cond (is_step p) (eat (Make DoStepped ∷ Read PostTail ∷ []))
    (cond (is_member p) (eat (Expect AName ∷ Make DoMember ∷ Read PostTail ∷ []))
    (cond (same_punct P.OpenParen p) (eat (Read ArgsRest ∷ Make DoCall ∷ Read PostTail ∷ [])) halt))
post_move _ = halt

abbrev pub static_move : Word → Move
static_move W.StaticCast = eat (s P.Less ∷ Read TypePart ∷ s P.Greater ∷ in_parens (Make DoStaticCast ∷ []))
static_move _ = halt

abbrev pub primary_move : Mark → Move
primary_move (M.Class n) = eat (s P.OpenParen ∷ Read ArgsRest ∷ Make DoTemporary ∷ [])
primary_move M.Std = eat (s P.Scope ∷ Read StdRest ∷ [])
primary_move (M.Word k) = cond (is_cast k) (eat (in_parens (Make DoWordCast ∷ []))) (static_move k)
primary_move (M.Punct p) = cond (same_punct P.OpenParen p) (eat (Read Assign ∷ s P.CloseParen ∷ Make DoParen ∷ [])) halt
primary_move _ = halt

-- `std ::` was taken
abbrev pub std_move : Option Mark → Move
std_move (Some (M.Name n)) = cond (eqb n contracts_name) (eat (Read StdMore ∷ [])) (eat (Make DoStandard ∷ []))
std_move (Some (M.Class n)) = cond (eqb n contracts_name) (eat (s P.Scope ∷ Expect AName ∷ s P.Scope ∷ Expect AName ∷ Make DoLibrary ∷ [])) halt
std_move _ = halt

abbrev pub base_move : Option Mark → Move
base_move (Some (M.Class n)) = eat (Make DoClassBase ∷ [])
base_move (Some M.Std) = eat (s P.Scope ∷ Expect TheContracts ∷ s P.Scope ∷ Expect AName ∷ Make DoLibraryBase ∷ [])
base_move (Some (M.Word W.Unsigned)) = eat (Read UnsignedTail ∷ [])
base_move (Some (M.Word W.Long)) = eat (Expect (Keyword W.Long) ∷ Make DoLongLong ∷ [])
base_move (Some (M.Word k)) = cond (is_word_base k) (eat (Make DoWordBase ∷ [])) halt
base_move _ = halt

abbrev pub unsigned_move : Option Mark → Move
unsigned_move (Some (M.Word W.Int)) = eat (Make DoUnsignedInt ∷ [])
unsigned_move (Some (M.Word W.Long)) = eat (Expect (Keyword W.Long) ∷ Make DoUnsignedLongLong ∷ [])
unsigned_move _ = push (Make DoWordBase ∷ [])

-- a simple statement that begins with no free mark and no type
abbrev pub simple_other : Mark → Move
simple_other M.Std = eat (s P.Scope ∷ Read SimpleStd ∷ [])
simple_other (M.Punct P.Semicolon) = eat (Make DoEmpty ∷ [])
simple_other _ = halt

abbrev pub simple_move : Mark → Move
simple_move m =
    cond (is_free m) (push (Read Assign ∷ s P.Semicolon ∷ Make DoEvaluate ∷ []))
    (cond (is_type_start m) (push (Read LocalPart ∷ s P.Semicolon ∷ Make DoDeclare ∷ [])) (simple_other m))

-- a declaration that begins with `std :: contracts`
abbrev pub library_local : List Symbol
library_local = s P.Scope ∷ Expect AName ∷ Make DoLibraryBase ∷ plain_type (Expect AName ∷ Read InitPart ∷ Make DoLocal ∷ s P.Semicolon ∷ Make DoDeclare ∷ [])

abbrev pub simple_std : Option Mark → Move
simple_std (Some (M.Name n)) = cond (eqb n contracts_name) (eat library_local) (eat (Make DoStandard ∷ tails 10 (Read AssignTail ∷ s P.Semicolon ∷ Make DoEvaluate ∷ [])))
simple_std (Some (M.Class n)) = cond (eqb n contracts_name) (eat library_local) halt
simple_std _ = halt

abbrev pub stmt_move : Option Mark → Move
stmt_move (Some (M.Word W.If)) = eat (in_parens (Read StmtPart ∷ Read ElseTail ∷ []))
stmt_move (Some (M.Word W.While)) = eat (in_parens (Read StmtPart ∷ Make DoWhile ∷ []))
stmt_move (Some (M.Word W.For)) = eat (s P.OpenParen ∷ Read SimplePart ∷ Read OptExpr ∷ s P.Semicolon ∷ Read OptExpr ∷ s P.CloseParen ∷ Read StmtPart ∷ Make DoFor ∷ [])
stmt_move (Some (M.Word W.Return)) = eat (Read OptExpr ∷ s P.Semicolon ∷ Make DoReturn ∷ [])
stmt_move (Some (M.Word W.Break)) = eat (s P.Semicolon ∷ Make DoBreak ∷ [])
stmt_move (Some (M.Word W.Continue)) = eat (s P.Semicolon ∷ Make DoContinue ∷ [])
stmt_move (Some (M.Word W.Throw)) = eat (Read OptExpr ∷ s P.Semicolon ∷ Make DoThrow ∷ [])
stmt_move (Some (M.Word W.Try)) = eat (Read BlockPart ∷ Read HandlerPart ∷ Make DoOneHandler ∷ Read HandlersTail ∷ Make DoTry ∷ [])
stmt_move (Some (M.Word W.ContractAssert)) = eat (s P.OpenParen ∷ Read Cond ∷ s P.CloseParen ∷ s P.Semicolon ∷ Make DoAssert ∷ [])
stmt_move (Some (M.Punct P.OpenBrace)) = push (Read BlockPart ∷ Make DoCompound ∷ [])
stmt_move _ = push (Read SimplePart ∷ [])

abbrev pub catch_move : Option Mark → Move
catch_move o = cond (is_mark P.Ellipsis o) (eat (Make DoAnyCatch ∷ [])) (push (Read ParamPart ∷ Make DoTypedCatch ∷ []))

abbrev pub name_move : Option Mark → Move
name_move (Some (M.Name n)) = eat (Make DoNamed ∷ [])
name_move _ = push (Make DoUnnamed ∷ [])

-- `pre` and `post` are taken by their letters, class names or not
abbrev pub specs_move : Option ℕ → Move
specs_move (Some n) =
    cond (eqb n pre_name) (eat (s P.OpenParen ∷ Read Cond ∷ s P.CloseParen ∷ Make DoPre ∷ Make DoMoreSpecs ∷ Read SpecsPart ∷ []))
    (cond (eqb n post_name) (eat (s P.OpenParen ∷ Read PostRest ∷ Make DoMoreSpecs ∷ Read SpecsPart ∷ [])) (push []))
specs_move None = push []

-- `post (` was taken
abbrev pub post_rest : Option Mark → Move
post_rest (Some (M.Name n)) = eat (Read PostName ∷ [])
post_rest _ = push (Read Cond ∷ s P.CloseParen ∷ Make DoPost ∷ [])

-- what follows the parameters of a constructor in its class
abbrev pub constructor_rest : List Symbol
constructor_rest = Read ParamsRest ∷ Read SuffixPart ∷ Read MakingPart ∷ Make DoConstructor ∷ []

abbrev pub method_rest : List Symbol
method_rest = Read ParamsRest ∷ Read (OptWord W.Const) ∷ Read SuffixPart ∷ Read TailPart ∷ Make DoMethod ∷ []

abbrev pub member_word : Word → Move
member_word W.Public = eat (s P.Colon ∷ Make DoAccess ∷ [])
member_word W.Private = eat (s P.Colon ∷ Make DoAccess ∷ [])
member_word W.Virtual = eat (Make DoFlag ∷ Read VirtualRest ∷ [])
member_word W.Explicit = eat (Make DoFlag ∷ Expect AClass ∷ s P.OpenParen ∷ constructor_rest)
member_word _ = push (Make DoNoFlag ∷ Read MemberRest ∷ [])

abbrev pub member_move : Option Mark → Move
member_move (Some (M.Word k)) = member_word k
member_move (Some (M.Punct P.Tilde)) = push (Make DoNoFlag ∷ Read VirtualRest ∷ [])
member_move _ = push (Make DoNoFlag ∷ Read MemberRest ∷ [])

abbrev pub member_rest : Option Mark → Move
member_rest (Some (M.Class n)) = eat (Read MemberClass ∷ [])
member_rest _ = push (Read TypePart ∷ Expect AName ∷ Read MemberName ∷ [])

abbrev pub item_word : Word → Move
item_word W.Class = eat (Expect AClass ∷ Read ClassRest ∷ [])
item_word W.Struct = eat (Expect AClass ∷ Read ClassRest ∷ [])
item_word W.Extern = eat (Read TypePart ∷ Expect AName ∷ s P.Semicolon ∷ Make DoExternal ∷ [])
item_word W.Inline = eat (Make DoFlag ∷ Read (Declaration false) ∷ [])
item_word _ = push (Make DoNoFlag ∷ Read (Declaration true) ∷ [])

abbrev pub item_move : Option Mark → Move
item_move (Some (M.Word k)) = item_word k
item_move _ = push (Make DoNoFlag ∷ Read (Declaration true) ∷ [])

abbrev pub class_move : Option Mark → Move
class_move (Some (M.Punct P.Semicolon)) = eat (Make DoClassNamed ∷ [])
class_move (Some (M.Punct P.OpenBrace)) = eat (Make DoNoMembers ∷ Read MembersPart ∷ s P.CloseBrace ∷ s P.Semicolon ∷ Make DoClassDefined ∷ [])
class_move _ = halt

abbrev pub declaration_move : Bool → Option Mark → Move
declaration_move b (Some (M.Class n)) = eat (Read (AfterClass b) ∷ [])
declaration_move b _ = push (Read TypePart ∷ Read (AfterType b) ∷ [])

-- CNAME :: was taken
abbrev pub special_move : Option Mark → Move
special_move (Some (M.Class n)) = eat (s P.OpenParen ∷ Read ParamsRest ∷ Read SuffixPart ∷ Read InitsPart ∷ Read BlockPart ∷ Make DoOuterConstructor ∷ [])
special_move (Some (M.Punct P.Tilde)) = eat (Expect AClass ∷ s P.OpenParen ∷ s P.CloseParen ∷ Read SuffixPart ∷ Read BlockPart ∷ Make DoOuterDestructor ∷ [])
special_move _ = halt

abbrev pub type_move : Bool → Option Mark → Move
type_move b (Some (M.Name n)) = eat (Read (AfterName b) ∷ [])
type_move b (Some (M.Class n)) = eat (s P.Scope ∷ Expect AName ∷ s P.OpenParen ∷ Read ParamsRest ∷ Read (OptWord W.Const) ∷ Read SuffixPart ∷ Read BlockPart ∷ Make DoOuterMethod ∷ [])
type_move b _ = halt

abbrev pub global_move : Bool → Option Mark → Move
global_move true o = cond (is_mark P.Assign o) (eat (Read ConstantPart ∷ Make DoWithValue ∷ s P.Semicolon ∷ Make DoGlobal ∷ [])) (push (Make DoWithout ∷ s P.Semicolon ∷ Make DoGlobal ∷ []))
global_move false o = halt

abbrev pub constant_move : Option Mark → Move
constant_move (Some (M.Punct P.Minus)) = eat (Expect ANumber ∷ Make DoNegative ∷ [])
constant_move (Some m) = cond (is_constant m) (eat (Make DoPlainConstant ∷ [])) halt
constant_move None = halt

abbrev pub move : Part → Option Mark → Move
move Assign o = push (Read (Operand 10) ∷ Read AssignTail ∷ [])
move AssignTail o = cond (eqb (loose o) 11) (assign_move o) (push [])
move Cond o = push (Read (Operand 10) ∷ Read CondTail ∷ [])
move CondTail o = cond (is_mark P.Question o) (eat (Read Assign ∷ s P.Colon ∷ Read Assign ∷ Make DoChoose ∷ [])) (push [])
move (Operand zero) o = cond (is_prefix_mark o) (eat (Read (Operand zero) ∷ Make DoUnary ∷ [])) (push (Read Primary ∷ Read PostTail ∷ []))
move (Operand (suc d)) o = push (Read (Operand d) ∷ Read (LevelTail (suc d)) ∷ [])
move (LevelTail zero) o = halt
move (LevelTail (suc d)) o = cond (eqb (loose o) (suc d)) (eat (Read (Operand d) ∷ Make DoBinary ∷ Read (LevelTail (suc d)) ∷ [])) (push [])
move PostTail o = cond (eqb (loose o) 0) (post_move o) (push [])
move Primary None = halt
move Primary (Some m) = cond (is_leaf m) (eat (Make DoLeaf ∷ [])) (primary_move m)
move StdRest o = std_move o
move StdMore o = cond (is_mark P.Scope o) (eat (Expect AName ∷ s P.Scope ∷ Expect AName ∷ Make DoLibrary ∷ [])) (push (Make DoStandard ∷ []))
move ArgsRest o = cond (is_mark P.CloseParen o) (eat (Make DoNoArgs ∷ [])) (push (Read Assign ∷ Make DoOne ∷ Read SeveralTail ∷ s P.CloseParen ∷ Make DoArgs ∷ []))
move SeveralTail o = cond (is_mark P.Comma o) (eat (Read Assign ∷ Make DoAlso ∷ Read SeveralTail ∷ [])) (push [])
move TypePart o = push (Read (OptWord W.Const) ∷ Read BasePart ∷ Make DoPointers ∷ Read (StarTail 8) ∷ Read (OptSign P.And) ∷ Make DoType ∷ [])
move BasePart o = base_move o
move UnsignedTail o = unsigned_move o
move (StarTail zero) o = push []
move (StarTail (suc d)) o = cond (is_mark P.Star o) (eat (Read (OptWord W.Const) ∷ Make DoStar ∷ Read (StarTail d) ∷ [])) (push [])
move (OptWord k) o = cond (is_word k o) (eat (Make DoFlag ∷ [])) (push (Make DoNoFlag ∷ []))
move (OptSign p) o = cond (is_mark p o) (eat (Make DoFlag ∷ [])) (push (Make DoNoFlag ∷ []))
move LocalPart o = push (Read TypePart ∷ Expect AName ∷ Read InitPart ∷ Make DoLocal ∷ [])
move InitPart o =
    cond (is_mark P.Assign o) (eat (Read Assign ∷ Make DoEquals ∷ []))
    (cond (is_mark P.OpenParen o) (eat (Read Assign ∷ Make DoOne ∷ Read SeveralTail ∷ s P.CloseParen ∷ Make DoParens ∷ [])) (push (Make DoBare ∷ [])))
move OptExpr o = cond (is_end o) (push (Make DoAbsent ∷ [])) (push (Read Assign ∷ Make DoPresent ∷ []))
move SimplePart None = halt
move SimplePart (Some m) = simple_move m
move SimpleStd o = simple_std o
move StmtPart o = stmt_move o
move BlockPart o = push (s P.OpenBrace ∷ Make DoNoStmts ∷ Read StmtsPart ∷ s P.CloseBrace ∷ Make DoBlock ∷ [])
move StmtsPart o = cond (is_mark P.CloseBrace o) (push []) (push (Read StmtPart ∷ Make DoMoreStmts ∷ Read StmtsPart ∷ []))
move ElseTail o = cond (is_word W.Else o) (eat (Read StmtPart ∷ Make DoBranches ∷ [])) (push (Make DoBranch ∷ []))
move HandlerPart o = push (Expect (Keyword W.Catch) ∷ s P.OpenParen ∷ Read CatchPart ∷ s P.CloseParen ∷ Read BlockPart ∷ Make DoHandler ∷ [])
move HandlersTail o = cond (is_word W.Catch o) (push (Read HandlerPart ∷ Make DoMoreHandlers ∷ Read HandlersTail ∷ [])) (push [])
move CatchPart o = catch_move o
move ParamPart o = push (Read TypePart ∷ Read OptName ∷ Make DoParam ∷ [])
move OptName o = name_move o
move ParamsRest o = cond (is_mark P.CloseParen o) (eat (Make DoNoParams ∷ [])) (push (Read ParamPart ∷ Make DoOneParam ∷ Read ParamsTail ∷ s P.CloseParen ∷ Make DoParams ∷ []))
move ParamsTail o = cond (is_mark P.Comma o) (eat (Read ParamPart ∷ Make DoMoreParams ∷ Read ParamsTail ∷ [])) (push [])
move SuffixPart o = push (Read (OptWord W.Noexcept) ∷ Make DoNoSpecs ∷ Read SpecsPart ∷ Make DoSuffix ∷ [])
move SpecsPart o = specs_move (name_number o)
move PostRest o = post_rest o
move PostName o = cond (is_mark P.Colon o) (eat (Read Cond ∷ s P.CloseParen ∷ Make DoPostNamed ∷ [])) (push (Make DoLeaf ∷ tails 10 (Read CondTail ∷ s P.CloseParen ∷ Make DoPost ∷ [])))
move TailPart o = cond (is_mark P.Semicolon o) (eat (Make DoDeclared ∷ [])) (push (Read BlockPart ∷ Make DoDefined ∷ []))
move MakingPart o = cond (is_mark P.Semicolon o) (eat (Make DoUnmade ∷ [])) (push (Read InitsPart ∷ Read BlockPart ∷ Make DoMade ∷ []))
move InitsPart o = cond (is_mark P.Colon o) (eat (Read MemberInitPart ∷ Make DoOneInit ∷ Read InitsTail ∷ Make DoInits ∷ [])) (push (Make DoNoInits ∷ []))
move MemberInitPart o = push (Expect AName ∷ s P.OpenParen ∷ Read ArgsRest ∷ Make DoMemberInit ∷ [])
move InitsTail o = cond (is_mark P.Comma o) (eat (Read MemberInitPart ∷ Make DoMoreInits ∷ Read InitsTail ∷ [])) (push [])
move MembersPart o = cond (is_mark P.CloseBrace o) (push []) (push (Read MemberPart ∷ Make DoMoreMembers ∷ Read MembersPart ∷ []))
move MemberPart o = member_move o
move MemberRest o = member_rest o
move MemberClass o = cond (is_mark P.OpenParen o) (eat constructor_rest) (push (Make DoClassBase ∷ plain_type (Expect AName ∷ Read MemberName ∷ [])))
move MemberName o = cond (is_mark P.OpenParen o) (eat method_rest) (push (s P.Semicolon ∷ Make DoField ∷ []))
move VirtualRest o = cond (is_mark P.Tilde o) (eat (Expect AClass ∷ s P.OpenParen ∷ s P.CloseParen ∷ Read SuffixPart ∷ Read TailPart ∷ Make DoDestructor ∷ [])) (push (Read TypePart ∷ Expect AName ∷ s P.OpenParen ∷ method_rest))
move ItemsPart None = push []
move ItemsPart (Some m) = push (Read ItemPart ∷ Make DoMoreItems ∷ Read ItemsPart ∷ [])
move ItemPart o = item_move o
move ClassRest o = class_move o
move (Declaration b) o = declaration_move b o
move (AfterClass b) o = cond (is_mark P.Scope o) (eat (Read Special ∷ [])) (push (Make DoClassBase ∷ plain_type (Read (AfterType b) ∷ [])))
move Special o = special_move o
move (AfterType b) o = type_move b o
move (AfterName b) o = cond (is_mark P.OpenParen o) (eat (Read ParamsRest ∷ Read SuffixPart ∷ Read TailPart ∷ Make DoFunction ∷ [])) (global_move b o)
move ConstantPart o = constant_move o
