-- One step of the parser's stack by the token that comes next, without the values, and how long it can go on before a token is taken; this project's own.
use Rattle.std.specs.Prelude.{◌≡◌, ℕ, ◌+◌, ◌<◌, cond, List, [], ◌∷◌, ◌++◌, Option, Some, None}
use Rattle.cx_syntax.specs.declared.mark.Mark.{Mark}
use Rattle.cx_table.specs.declared.symbol.Part.{Part}
use Rattle.cx_table.specs.declared.symbol.Part.TheVariants.{Assign, Cond, Operand, Primary, StdRest, ArgsRest, TypePart, BasePart, LocalPart, OptExpr, SimplePart, SimpleStd, StmtPart, BlockPart, StmtsPart, HandlerPart, CatchPart, ParamPart, ParamsRest, SuffixPart, PostRest, PostName, TailPart, MakingPart, MemberInitPart, MembersPart, MemberPart, MemberRest, MemberClass, MemberName, VirtualRest, ItemsPart, ItemPart, ClassRest, Declaration, AfterClass, Special, AfterType, AfterName, ConstantPart}
use Rattle.cx_table.specs.declared.symbol.Symbol.{Symbol}
use Rattle.cx_table.specs.declared.symbol.Symbol.TheVariants.{Expect, Make, Read}
use Rattle.cx_table.specs.declared.table.Advance.{Advance}
use Rattle.cx_table.specs.declared.table.Advance.TheVariants.{Goes, Eats, Stays}
use Rattle.cx_table.specs.Moves.{Move, eat, move, push}
use Rattle.cx_table.specs.Sorts.{fits}

-- it stands; or the stack changes, without a token or with the next one
pub data Bare : Type 0 where
  bare_stays : Bare
  bare_goes bare_eats : List Symbol → Bare

abbrev pub bare_moved : Move → List Symbol → Option Mark → Bare
bare_moved (push b) k o = bare_goes (b ++ k)
bare_moved (eat b) k (Some m) = bare_eats (b ++ k)
bare_moved _ k o = bare_stays

abbrev pub bare : List Symbol → Option Mark → Bare
bare [] o = bare_stays
bare (Expect t ∷ k) None = bare_stays
bare (Expect t ∷ k) (Some m) = cond (fits t m) (bare_eats k) bare_stays
bare (Make a ∷ k) o = bare_goes k
bare (Read x ∷ k) o = bare_moved (move x o) k o

-- at least the steps before the next token is taken
abbrev pub wait : List Symbol → ℕ
wait [] = 0
wait (Expect t ∷ k) = 1
wait (Make a ∷ k) = 1 + wait k
wait (Read Assign ∷ k) = 14
wait (Read Cond ∷ k) = 14
wait (Read (Operand n) ∷ k) = 3 + n
wait (Read Primary ∷ k) = 2
wait (Read StdRest ∷ k) = 2
wait (Read ArgsRest ∷ k) = 15
wait (Read TypePart ∷ k) = 7
wait (Read BasePart ∷ k) = 2
wait (Read LocalPart ∷ k) = 8
wait (Read OptExpr ∷ k) = 16 + wait k
wait (Read SimplePart ∷ k) = 15
wait (Read SimpleStd ∷ k) = 2
wait (Read StmtPart ∷ k) = 16
wait (Read BlockPart ∷ k) = 2
wait (Read StmtsPart ∷ k) = 18 + wait k
wait (Read HandlerPart ∷ k) = 2
wait (Read CatchPart ∷ k) = 9
wait (Read ParamPart ∷ k) = 8
wait (Read ParamsRest ∷ k) = 10
wait (Read SuffixPart ∷ k) = 11 + wait k
wait (Read PostRest ∷ k) = 15
wait (Read PostName ∷ k) = 60
wait (Read TailPart ∷ k) = 3
wait (Read MakingPart ∷ k) = 8
wait (Read MemberInitPart ∷ k) = 2
wait (Read MembersPart ∷ k) = 12 + wait k
wait (Read MemberPart ∷ k) = 10
wait (Read MemberRest ∷ k) = 8
wait (Read MemberClass ∷ k) = 16
wait (Read MemberName ∷ k) = 2
wait (Read VirtualRest ∷ k) = 8
wait (Read ItemsPart ∷ k) = 12 + wait k
wait (Read ItemPart ∷ k) = 10
wait (Read ClassRest ∷ k) = 2
wait (Read (Declaration b) ∷ k) = 8
wait (Read (AfterClass b) ∷ k) = 16
wait (Read Special ∷ k) = 2
wait (Read (AfterType b) ∷ k) = 2
wait (Read (AfterName b) ∷ k) = 4
wait (Read ConstantPart ∷ k) = 2
wait (Read x ∷ k) = 4 + wait k

-- what one step of the symbol on top does
abbrev pub Acts : Advance → Symbol → Option Mark → List Symbol → List Symbol → Type 0
Acts Goes x o k j = (bare (x ∷ k) o ≡ bare_goes j) × (wait j < wait (x ∷ k))
Acts Eats x o k j = bare (x ∷ k) o ≡ bare_eats j
Acts Stays x o k j = bare (x ∷ k) o ≡ bare_stays

abbrev pub Expands : Advance → Part → Option Mark → List Symbol → List Symbol → Type 0
Expands r x o k j = Acts r (Read x) o k j
