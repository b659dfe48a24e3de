-- What the stacks promise: whatever the parts to come are made of, a shaped tree comes out that spells what was taken and them.
-- `c` puts what was taken in front of a list, `o` is the token that comes next.
use Rattle.std.proofs.Common.{◌≡◌, ℕ, ◌+◌, ◌≤◌, Bool, true, false, eqb, List, [], ◌∷◌, Option, Some, None}
use Rattle.cx_syntax.specs.declared.mark.Punct.{Punct}
use Rattle.cx_syntax.specs.declared.mark.Punct.TheVariants as P
use Rattle.cx_syntax.specs.declared.mark.Word.{Word}
use Rattle.cx_syntax.specs.declared.mark.Word.TheVariants as W
use Rattle.cx_syntax.specs.declared.mark.Mark.{Mark}
use Rattle.cx_syntax.specs.declared.mark.Mark.TheVariants as M
use Rattle.cx_table.specs.declared.symbol.Kind.{Kind}
use Rattle.cx_table.specs.declared.symbol.Kind.TheVariants.{Sign, Keyword, AName, AClass, ANumber, TheContracts}
use Rattle.cx_table.specs.declared.symbol.Part.{Part}
use Rattle.cx_table.specs.declared.symbol.Part.TheVariants.{Assign, AssignTail, Cond, CondTail, Operand, LevelTail, Primary, PostTail, StdRest, StdMore, ArgsRest, SeveralTail, TypePart, BasePart, UnsignedTail, StarTail, OptWord, OptSign, LocalPart, InitPart, OptExpr, SimplePart, SimpleStd, StmtPart, BlockPart, StmtsPart, ElseTail, HandlerPart, HandlersTail, CatchPart, ParamPart, OptName, ParamsRest, ParamsTail, SuffixPart, SpecsPart, PostRest, PostName, TailPart, MakingPart, InitsPart, MemberInitPart, InitsTail, MembersPart, MemberPart, MemberRest, MemberClass, MemberName, VirtualRest, ItemsPart, ItemPart, ClassRest, Declaration, AfterClass, Special, AfterType, AfterName, ConstantPart}
use Rattle.cx_table.specs.declared.symbol.Symbol.{Symbol}
use Rattle.cx_table.specs.declared.symbol.Symbol.TheVariants.{Expect, Make, Read}
use Rattle.cx_parser.proofs.Expressions.{first}
use Rattle.cx_values.specs.Values.{Value, Values, args_val, base_val, block_val, catching_val, constant_val, expr_val, flag_val, handler_val, handlers_val, init_row_val, init_val, inits_val, item_val, list_val, local_val, making_val, mark_val, maybe_val, member_init_val, member_val, members_val, name_val, param_val, params_val, pointers_val, reduce, row_val, spec_val, specs_val, stmt_val, stmts_val, suffix_val, tail_val, type_val, unit_val}
use Rattle.cx_syntax.specs.Shaped.{IfShaped, Shaped, ShapedArgs, ShapedBase, ShapedBlock, ShapedCatching, ShapedConstant, ShapedHandler, ShapedHandlers, ShapedInit, ShapedInitRow, ShapedInits, ShapedItem, ShapedLocal, ShapedMaking, ShapedMember, ShapedMemberInit, ShapedMembers, ShapedParam, ShapedParams, ShapedRow, ShapedSeveral, ShapedSpec, ShapedSpecs, ShapedStmt, ShapedStmts, ShapedSuffix, ShapedTail, ShapedType, ShapedUnit, begins_type, contracts_name, is_class_key, is_cond, is_named, is_open, is_postfix, is_simple, post_name, rank, star_count}
use Rattle.cx_syntax.specs.Spell.{Spots, class_name, if_expr, if_sign, if_word, name, sign, spell_args, spell_base, spell_block, spell_catching, spell_constant, spell_expr, spell_handler, spell_handlers, spell_init, spell_init_row, spell_inits, spell_item, spell_items, spell_local, spell_making, spell_member, spell_member_init, spell_members, spell_optional_name, spell_param, spell_params, spell_row, spell_several, spell_spec, spell_specs, spell_stars, spell_stmt, spell_stmts, spell_suffix, spell_tail, spell_type, spot, word}
use Rattle.cx_syntax.specs.Tree.{Args, Base, Block, Catching, Constant, Expr, Handler, Handlers, Init, InitRow, Inits, Item, Local, Making, Member, MemberInit, Members, OptionalName, Param, ParamRow, Params, Several, Spec, Specs, Stars, Stmt, Stmts, Suffix, Tail, TypeTree, UnitTree, branch}
use Rattle.cx_table.specs.Moves.{s}
use Rattle.cx_table.specs.Sorts.{is_word}

abbrev pub Fn : Type 0
Fn = Spots → Spots

abbrev pub After : Type 1
After = Option Mark → Values → Fn → Type 0

-- any shaped part that comes goes on top of the values
abbrev pub Gives : (X : Type 0) → (X → Type 0) → (X → Fn) → (X → Value) → After → Values → Fn → Type 0
Gives X S p v K vs c = (x : X) (o : Option Mark) (d : Fn) → S x → ((w : Spots) → d w ≡ c (p x w)) → K o (v x ∷ vs) d

-- so does any shaped part that goes on from the one on top
abbrev pub Grows : (X : Type 0) → (X → Type 0) → (X → Fn) → (X → Value) → After → X → Values → Fn → Type 0
Grows X S p v K l vs c = (b : Fn) × ((w : Spots) → c w ≡ b (p l w)) × S l × Gives X S p v K vs b

-- an expression to come; one that goes on from `l`
abbrev pub Comes : (Expr → Type 0) → After → Values → Fn → Type 0
Comes Q K vs c = (e : Expr) (o : Option Mark) (d : Fn) → Shaped e → Q e → ((w : Spots) → d w ≡ c (spell_expr e w)) → K o (expr_val e ∷ vs) d

abbrev pub GoesOn : (Expr → Type 0) → After → Expr → Values → Fn → Type 0
GoesOn Q K l vs c =
    (b : Fn) × ((w : Spots) → c w ≡ b (spell_expr l w)) × Q l × Shaped l
    × ((e : Expr) (o : Option Mark) (d : Fn) → Shaped e → Q e → first e ≡ first l → begins_type e ≡ begins_type l → ((w : Spots) → d w ≡ b (spell_expr e w)) → K o (expr_val e ∷ vs) d)

abbrev pub StmtComes : After → Values → Fn → Type 0
StmtComes K vs c = (t : Stmt) (o : Option Mark) (d : Fn) → ShapedStmt t → (is_open t ≡ true → is_word W.Else o ≡ false) → ((w : Spots) → d w ≡ c (spell_stmt t w)) → K o (stmt_val t ∷ vs) d

abbrev pub SimpleComes : After → Values → Fn → Type 0
SimpleComes K vs c = (t : Stmt) (o : Option Mark) (d : Fn) → is_simple t ≡ true → ShapedStmt t → ((w : Spots) → d w ≡ c (spell_stmt t w)) → K o (stmt_val t ∷ vs) d

abbrev pub pointed : Option ℕ → Base → Stars → Fn
pointed f b p w = if_word f W.Const (spell_base b (spell_stars p w))

abbrev pub StarsCome : After → Option ℕ → Base → Values → Fn → Type 0
StarsCome K f b vs c = (p : Stars) (o : Option Mark) (d : Fn) → star_count p ≤ 8 → ((w : Spots) → d w ≡ c (pointed f b p w)) → K o (pointers_val f b p ∷ vs) d

abbrev pub BaseComes : After → Values → Fn → Type 0
BaseComes = Gives Base ShapedBase spell_base base_val

abbrev pub TypeComes : After → Values → Fn → Type 0
TypeComes = Gives TypeTree ShapedType spell_type type_val

abbrev pub SpecComes : After → Values → Fn → Type 0
SpecComes = Gives Spec ShapedSpec spell_spec spec_val

abbrev pub MemberComes : After → Values → Fn → Type 0
MemberComes = Gives Member ShapedMember spell_member member_val

abbrev pub ItemComes : After → Values → Fn → Type 0
ItemComes = Gives Item ShapedItem spell_item item_val

-- a global is declared without `inline`
abbrev pub Global : Bool → Option ℕ → Type 0
Global true l = l ≡ None
Global false l = Unit {0}

abbrev pub Need : Part → After → Option Mark → Values → Fn → Type 0
Need Assign K o vs c = Comes (λ e. Some (first e) ≡ o) K vs c
Need AssignTail K o (expr_val l ∷ vs) c = GoesOn (λ e. Unit {0}) K l vs c × (rank l ≤ 10)
Need Cond K o vs c = Comes (λ e. is_cond e ≡ true) K vs c
Need CondTail K o (expr_val l ∷ vs) c = GoesOn (λ e. is_cond e ≡ true) K l vs c × (rank l ≤ 10)
Need (Operand n) K o vs c = (n ≤ 10) × Comes (λ e. (rank e ≤ n) × (Some (first e) ≡ o)) K vs c
Need (LevelTail n) K o (expr_val l ∷ vs) c = (n ≤ 10) × GoesOn (λ e. rank e ≤ n) K l vs c
Need Primary K o vs c = Comes (λ e. (is_postfix e ≡ true) × (Some (first e) ≡ o)) K vs c
Need PostTail K o (expr_val l ∷ vs) c = GoesOn (λ e. is_postfix e ≡ true) K l vs c
Need StdRest K o (mark_val s j ∷ mark_val m i ∷ vs) c = (b : Fn) × ((w : Spots) → c w ≡ b (spot M.Std i ∷ sign P.Scope j w)) × Comes (λ e. (is_postfix e ≡ true) × (first e ≡ M.Std)) K vs b
Need StdMore K o (mark_val (M.Name n) k ∷ mark_val s j ∷ mark_val m i ∷ vs) c =
    (b : Fn) × ((w : Spots) → c w ≡ b (spot M.Std i ∷ sign P.Scope j (name n k w))) × (eqb n contracts_name ≡ true) × Comes (λ e. (is_postfix e ≡ true) × (first e ≡ M.Std)) K vs b
Need ArgsRest K o (mark_val m i ∷ vs) c = (b : Fn) × ((w : Spots) → c w ≡ b (sign P.OpenParen i w)) × Gives Args ShapedArgs spell_args args_val K vs b
Need SeveralTail K o (list_val l ∷ vs) c = Grows Several ShapedSeveral spell_several list_val K l vs c
Need TypePart K o vs c = TypeComes K vs c
Need BasePart K o vs c = BaseComes K vs c
Need UnsignedTail K o (mark_val (M.Word k) i ∷ vs) c = (b : Fn) × ((w : Spots) → c w ≡ b (word W.Unsigned i w)) × (W.Unsigned ≡ k) × BaseComes K vs b
Need (StarTail n) K o (pointers_val f b p ∷ vs) c = (a : Fn) × ((w : Spots) → c w ≡ a (pointed f b p w)) × (star_count p + n ≤ 8) × StarsCome K f b vs a
Need (OptWord k) K o vs c = (f : Option ℕ) (o : Option Mark) (d : Fn) → ((w : Spots) → d w ≡ c (if_word f k w)) → K o (flag_val f ∷ vs) d
Need (OptSign p) K o vs c = (f : Option ℕ) (o : Option Mark) (d : Fn) → ((w : Spots) → d w ≡ c (if_sign f p w)) → K o (flag_val f ∷ vs) d
Need LocalPart K o vs c = Gives Local ShapedLocal spell_local local_val K vs c
Need InitPart K o vs c = Gives Init ShapedInit spell_init init_val K vs c
Need OptExpr K o vs c = Gives (Option Expr) IfShaped if_expr maybe_val K vs c
Need SimplePart K o vs c = SimpleComes K vs c
Need SimpleStd K o (mark_val s j ∷ mark_val m i ∷ vs) c = (b : Fn) × ((w : Spots) → c w ≡ b (spot M.Std i ∷ sign P.Scope j w)) × SimpleComes K vs b
Need StmtPart K o vs c = StmtComes K vs c
Need BlockPart K o vs c = Gives Block ShapedBlock spell_block block_val K vs c
Need StmtsPart K o (stmts_val l ∷ vs) c = Grows Stmts ShapedStmts spell_stmts stmts_val K l vs c
Need ElseTail K o (stmt_val t ∷ mark_val x k ∷ expr_val e ∷ mark_val y j ∷ mark_val z i ∷ vs) c =
    (b : Fn) × ((w : Spots) → c w ≡ b (spell_stmt (branch i j e k t) w)) × Shaped e × ShapedStmt t × (is_open t ≡ true → is_word W.Else o ≡ false) × StmtComes K vs b
Need HandlerPart K o vs c = Gives Handler ShapedHandler spell_handler handler_val K vs c
Need HandlersTail K o (handlers_val l ∷ vs) c = Grows Handlers ShapedHandlers spell_handlers handlers_val K l vs c
Need CatchPart K o vs c = Gives Catching ShapedCatching spell_catching catching_val K vs c
Need ParamPart K o vs c = Gives Param ShapedParam spell_param param_val K vs c
Need OptName K o vs c = Gives OptionalName (λ n. Unit {0}) spell_optional_name name_val K vs c
Need ParamsRest K o (mark_val m i ∷ vs) c = (b : Fn) × ((w : Spots) → c w ≡ b (sign P.OpenParen i w)) × Gives Params ShapedParams spell_params params_val K vs b
Need ParamsTail K o (row_val l ∷ vs) c = Grows ParamRow ShapedRow spell_row row_val K l vs c
Need SuffixPart K o vs c = Gives Suffix ShapedSuffix spell_suffix suffix_val K vs c
Need SpecsPart K o (specs_val l ∷ vs) c = Grows Specs ShapedSpecs spell_specs specs_val K l vs c
Need PostRest K o (mark_val s j ∷ mark_val m i ∷ vs) c = (b : Fn) × ((w : Spots) → c w ≡ b (spot m i ∷ sign P.OpenParen j w)) × (is_named post_name m ≡ true) × SpecComes K vs b
Need PostName K o (mark_val (M.Name n) a ∷ mark_val s j ∷ mark_val m i ∷ vs) c = (b : Fn) × ((w : Spots) → c w ≡ b (spot m i ∷ sign P.OpenParen j (name n a w))) × (is_named post_name m ≡ true) × SpecComes K vs b
Need TailPart K o vs c = Gives Tail ShapedTail spell_tail tail_val K vs c
Need MakingPart K o vs c = Gives Making ShapedMaking spell_making making_val K vs c
Need InitsPart K o vs c = Gives Inits ShapedInits spell_inits inits_val K vs c
Need MemberInitPart K o vs c = Gives MemberInit ShapedMemberInit spell_member_init member_init_val K vs c
Need InitsTail K o (init_row_val l ∷ vs) c = Grows InitRow ShapedInitRow spell_init_row init_row_val K l vs c
Need MembersPart K o (members_val l ∷ vs) c = Grows Members ShapedMembers spell_members members_val K l vs c
Need MemberPart K o vs c = MemberComes K vs c
Need MemberRest K o (flag_val None ∷ vs) c = MemberComes K vs c
Need MemberClass K o (mark_val (M.Class n) i ∷ flag_val None ∷ vs) c = (b : Fn) × ((w : Spots) → c w ≡ b (class_name n i w)) × MemberComes K vs b
Need MemberName K o (mark_val (M.Name n) i ∷ type_val t ∷ flag_val None ∷ vs) c = (b : Fn) × ((w : Spots) → c w ≡ b (spell_type t (name n i w))) × ShapedType t × MemberComes K vs b
Need VirtualRest K o (flag_val f ∷ vs) c = (b : Fn) × ((w : Spots) → c w ≡ b (if_word f W.Virtual w)) × MemberComes K vs b
Need ItemsPart K o (unit_val l ∷ vs) c = Grows UnitTree ShapedUnit spell_items unit_val K l vs c
Need ItemPart K o vs c = ItemComes K vs c
Need ClassRest K o (mark_val (M.Class n) j ∷ mark_val (M.Word k) i ∷ vs) c = (b : Fn) × ((w : Spots) → c w ≡ b (word k i (class_name n j w))) × (is_class_key k ≡ true) × ItemComes K vs b
Need (Declaration g) K o (flag_val l ∷ vs) c = (b : Fn) × ((w : Spots) → c w ≡ b (if_word l W.Inline w)) × Global g l × ItemComes K vs b
Need (AfterClass g) K o (mark_val (M.Class n) i ∷ flag_val l ∷ vs) c = (b : Fn) × ((w : Spots) → c w ≡ b (if_word l W.Inline (class_name n i w))) × Global g l × ItemComes K vs b
Need Special K o (mark_val s k ∷ mark_val (M.Class n) i ∷ flag_val l ∷ vs) c = (b : Fn) × ((w : Spots) → c w ≡ b (if_word l W.Inline (class_name n i (sign P.Scope k w)))) × ItemComes K vs b
Need (AfterType g) K o (type_val t ∷ flag_val l ∷ vs) c = (b : Fn) × ((w : Spots) → c w ≡ b (if_word l W.Inline (spell_type t w))) × Global g l × ShapedType t × ItemComes K vs b
Need (AfterName g) K o (mark_val (M.Name n) i ∷ type_val t ∷ flag_val l ∷ vs) c = (b : Fn) × ((w : Spots) → c w ≡ b (if_word l W.Inline (spell_type t (name n i w)))) × Global g l × ShapedType t × ItemComes K vs b
Need ConstantPart K o vs c = Gives Constant ShapedConstant spell_constant constant_val K vs c
Need _ K o vs c = ⊥

abbrev pub Token : Kind → After → Values → Fn → Type 0
Token (Sign p) K vs c = (i : ℕ) (o : Option Mark) → K o (mark_val (M.Punct p) i ∷ vs) (λ w. c (sign p i w))
Token (Keyword k) K vs c = (i : ℕ) (o : Option Mark) → K o (mark_val (M.Word k) i ∷ vs) (λ w. c (word k i w))
Token AName K vs c = (n i : ℕ) (o : Option Mark) → K o (mark_val (M.Name n) i ∷ vs) (λ w. c (name n i w))
Token AClass K vs c = (n i : ℕ) (o : Option Mark) → K o (mark_val (M.Class n) i ∷ vs) (λ w. c (class_name n i w))
Token ANumber K vs c = (i : ℕ) (o : Option Mark) → K o (mark_val M.Number i ∷ vs) (λ w. c (spot M.Number i ∷ w))
Token TheContracts K vs c = (m : Mark) (i : ℕ) (o : Option Mark) → is_named contracts_name m ≡ true → K o (mark_val m i ∷ vs) (λ w. c (spot m i ∷ w))

abbrev pub Typed : List Symbol → After
Typed [] o vs c = (u : UnitTree) × (vs ≡ unit_val u ∷ []) × ShapedUnit u × ((w : Spots) → c w ≡ spell_items u w)
Typed (Expect t ∷ k) o vs c = Token t (Typed k) vs c
Typed (Make a ∷ k) o vs c = (v : Values) × (reduce a vs ≡ Some v) × Typed k o v c
Typed (Read x ∷ k) o vs c = Need x (Typed k) o vs c
