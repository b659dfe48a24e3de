-- What the parser makes of the values on top of its second stack: one clause a production, in the order of the trees; [gram] read from the right.
use Rattle.std.specs.Prelude.{ℕ, List, ◌∷◌, Option, Some, None}
use Rattle.cx_syntax.specs.declared.mark.Punct.{Punct}
use Rattle.cx_syntax.specs.declared.mark.Word.{Word}
use Rattle.cx_syntax.specs.declared.mark.Mark.{Mark}
use Rattle.cx_syntax.specs.declared.mark.Mark.TheVariants as M
use Rattle.cx_table.specs.declared.symbol.Act.{Act}
use Rattle.cx_table.specs.declared.symbol.Act.TheVariants.{DoLeaf, DoParen, DoTemporary, DoWordCast, DoStaticCast, DoStandard, DoLibrary, DoMember, DoCall, DoStepped, DoUnary, DoBinary, DoChoose, DoAssign, DoNoArgs, DoArgs, DoOne, DoAlso, DoWordBase, DoUnsignedInt, DoLongLong, DoUnsignedLongLong, DoClassBase, DoLibraryBase, DoPointers, DoPlain, DoStar, DoType, DoFlag, DoNoFlag, DoBare, DoEquals, DoParens, DoLocal, DoAbsent, DoPresent, DoEmpty, DoEvaluate, DoDeclare, DoBlock, DoCompound, DoBranch, DoBranches, DoWhile, DoFor, DoReturn, DoThrow, DoBreak, DoContinue, DoTry, DoAssert, DoNoStmts, DoMoreStmts, DoHandler, DoOneHandler, DoMoreHandlers, DoAnyCatch, DoTypedCatch, DoUnnamed, DoNamed, DoParam, DoOneParam, DoMoreParams, DoNoParams, DoParams, DoNoSpecs, DoMoreSpecs, DoPre, DoPost, DoPostNamed, DoSuffix, DoDeclared, DoDefined, DoUnmade, DoMade, DoNoInits, DoInits, DoMemberInit, DoOneInit, DoMoreInits, DoAccess, DoField, DoMethod, DoConstructor, DoDestructor, DoNoMembers, DoMoreMembers, DoPlainConstant, DoNegative, DoWithout, DoWithValue, DoClassNamed, DoClassDefined, DoExternal, DoGlobal, DoFunction, DoOuterMethod, DoOuterConstructor, DoOuterDestructor, DoNoItems, DoMoreItems}
use Rattle.cx_syntax.specs.Shaped.{at_of}
use Rattle.cx_syntax.specs.Tree.{Args, Base, Block, Catching, Constant, Expr, GlobalInit, Handler, Handlers, Init, InitRow, Inits, Item, Local, Making, Member, MemberInit, Members, OptionalName, Param, ParamRow, Params, Several, Spec, Specs, Stars, Stmt, Stmts, Suffix, Tail, TypeTree, UnitTree, access, after, after_named, also, any_catch, args, asserts, assign, before, binary, block, branch, branches, breaks, call, choose, class_base, class_defined, class_named, compound, constructor, continues, declare, declared, defined, destructor, empty, equals, evaluate, external, field, for_loop, function, global, handler, inits, leaf, library, library_base, local, long_long, made, member, member_init, method, more_handlers, more_inits, more_items, more_members, more_params, more_specs, more_stmts, named, negative, no_args, no_init, no_inits, no_items, no_members, no_params, no_specs, no_stars, no_stmts, one, one_handler, one_init, one_param, outer_constructor, outer_destructor, outer_method, param, params, paren, parens, plain, returns, standard, star, static_cast, stepped, suffix, temporary, throws, tries, type_tree, typed_catch, unary, unmade, unnamed, unsigned_int, unsigned_long_long, while_loop, with_value, without, word_base, word_cast}
use Rattle.cx_table.specs.Moves.{s}

-- what stands on the second stack
pub data Value : Type 0 where
  mark_val : Mark → ℕ → Value
  expr_val : Expr → Value
  args_val : Args → Value
  list_val : Several → Value
  base_val : Base → Value
  flag_val : Option ℕ → Value
  pointers_val : Option ℕ → Base → Stars → Value
  type_val : TypeTree → Value
  init_val : Init → Value
  local_val : Local → Value
  maybe_val : Option Expr → Value
  block_val : Block → Value
  stmt_val : Stmt → Value
  stmts_val : Stmts → Value
  handler_val : Handler → Value
  handlers_val : Handlers → Value
  catching_val : Catching → Value
  name_val : OptionalName → Value
  param_val : Param → Value
  row_val : ParamRow → Value
  params_val : Params → Value
  spec_val : Spec → Value
  specs_val : Specs → Value
  suffix_val : Suffix → Value
  tail_val : Tail → Value
  making_val : Making → Value
  member_init_val : MemberInit → Value
  init_row_val : InitRow → Value
  inits_val : Inits → Value
  constant_val : Constant → Value
  global_init_val : GlobalInit → Value
  member_val : Member → Value
  members_val : Members → Value
  item_val : Item → Value
  unit_val : UnitTree → Value

abbrev pub Values : Type 0
Values = List Value

abbrev pub reduce : Act → Values → Option Values
reduce DoLeaf (mark_val m i ∷ vs) = Some (expr_val (leaf i m) ∷ vs)
reduce DoParen (mark_val _ j ∷ expr_val e ∷ mark_val _ i ∷ vs) = Some (expr_val (paren i e j) ∷ vs)
reduce DoTemporary (args_val a ∷ mark_val (M.Class n) i ∷ vs) = Some (expr_val (temporary i n a) ∷ vs)
reduce DoWordCast (mark_val _ l ∷ expr_val e ∷ mark_val _ j ∷ mark_val (M.Word k) i ∷ vs) = Some (expr_val (word_cast i k j e l) ∷ vs)
reduce DoStaticCast (mark_val _ z ∷ expr_val e ∷ mark_val _ l ∷ mark_val _ k ∷ type_val t ∷ mark_val _ j ∷ mark_val _ i ∷ vs) = Some (expr_val (static_cast i j t k l e z) ∷ vs)
reduce DoStandard (mark_val (M.Name n) k ∷ mark_val _ j ∷ mark_val _ i ∷ vs) = Some (expr_val (standard i j n k) ∷ vs)
reduce DoLibrary (mark_val (M.Name n) b ∷ mark_val _ z ∷ mark_val (M.Name t) a ∷ mark_val _ l ∷ mark_val m k ∷ mark_val _ j ∷ mark_val _ i ∷ vs) = Some (expr_val (library i j m k l t a z n b) ∷ vs)
reduce DoMember (mark_val (M.Name n) k ∷ mark_val (M.Punct p) j ∷ expr_val e ∷ vs) = Some (expr_val (member (at_of e) e p j n k) ∷ vs)
reduce DoCall (args_val a ∷ expr_val e ∷ vs) = Some (expr_val (call (at_of e) e a) ∷ vs)
reduce DoStepped (mark_val (M.Punct p) j ∷ expr_val e ∷ vs) = Some (expr_val (stepped (at_of e) e p j) ∷ vs)
reduce DoUnary (expr_val e ∷ mark_val (M.Punct p) i ∷ vs) = Some (expr_val (unary i p e) ∷ vs)
reduce DoBinary (expr_val r ∷ mark_val (M.Punct p) j ∷ expr_val l ∷ vs) = Some (expr_val (binary (at_of l) l p j r) ∷ vs)
reduce DoChoose (expr_val b ∷ mark_val _ k ∷ expr_val a ∷ mark_val _ j ∷ expr_val c ∷ vs) = Some (expr_val (choose (at_of c) c j a k b) ∷ vs)
reduce DoAssign (expr_val r ∷ mark_val (M.Punct p) j ∷ expr_val l ∷ vs) = Some (expr_val (assign (at_of l) l p j r) ∷ vs)
reduce DoNoArgs (mark_val _ j ∷ mark_val _ i ∷ vs) = Some (args_val (no_args i j) ∷ vs)
reduce DoArgs (mark_val _ j ∷ list_val s ∷ mark_val _ i ∷ vs) = Some (args_val (args i s j) ∷ vs)
reduce DoOne (expr_val e ∷ vs) = Some (list_val (one e) ∷ vs)
reduce DoAlso (expr_val e ∷ mark_val _ i ∷ list_val s ∷ vs) = Some (list_val (also s i e) ∷ vs)
reduce DoWordBase (mark_val (M.Word k) i ∷ vs) = Some (base_val (word_base k i) ∷ vs)
reduce DoUnsignedInt (mark_val _ j ∷ mark_val _ i ∷ vs) = Some (base_val (unsigned_int i j) ∷ vs)
reduce DoLongLong (mark_val _ j ∷ mark_val _ i ∷ vs) = Some (base_val (long_long i j) ∷ vs)
reduce DoUnsignedLongLong (mark_val _ k ∷ mark_val _ j ∷ mark_val _ i ∷ vs) = Some (base_val (unsigned_long_long i j k) ∷ vs)
reduce DoClassBase (mark_val (M.Class n) i ∷ vs) = Some (base_val (class_base n i) ∷ vs)
reduce DoLibraryBase (mark_val (M.Name n) a ∷ mark_val _ l ∷ mark_val m k ∷ mark_val _ j ∷ mark_val _ i ∷ vs) = Some (base_val (library_base i j m k l n a) ∷ vs)
reduce DoPointers (base_val b ∷ flag_val c ∷ vs) = Some (pointers_val c b no_stars ∷ vs)
reduce DoPlain (base_val b ∷ vs) = Some (pointers_val None b no_stars ∷ vs)
reduce DoStar (flag_val c ∷ mark_val _ i ∷ pointers_val f b p ∷ vs) = Some (pointers_val f b (star p i c) ∷ vs)
reduce DoType (flag_val r ∷ pointers_val f b p ∷ vs) = Some (type_val (type_tree f b p r) ∷ vs)
reduce DoFlag (mark_val _ i ∷ vs) = Some (flag_val (Some i) ∷ vs)
reduce DoNoFlag vs = Some (flag_val None ∷ vs)
reduce DoBare vs = Some (init_val no_init ∷ vs)
reduce DoEquals (expr_val e ∷ mark_val _ i ∷ vs) = Some (init_val (equals i e) ∷ vs)
reduce DoParens (mark_val _ j ∷ list_val s ∷ mark_val _ i ∷ vs) = Some (init_val (parens i s j) ∷ vs)
reduce DoLocal (init_val a ∷ mark_val (M.Name n) i ∷ type_val t ∷ vs) = Some (local_val (local t n i a) ∷ vs)
reduce DoAbsent vs = Some (maybe_val None ∷ vs)
reduce DoPresent (expr_val e ∷ vs) = Some (maybe_val (Some e) ∷ vs)
reduce DoEmpty (mark_val _ i ∷ vs) = Some (stmt_val (empty i) ∷ vs)
reduce DoEvaluate (mark_val _ i ∷ expr_val e ∷ vs) = Some (stmt_val (evaluate e i) ∷ vs)
reduce DoDeclare (mark_val _ i ∷ local_val l ∷ vs) = Some (stmt_val (declare l i) ∷ vs)
reduce DoBlock (mark_val _ j ∷ stmts_val b ∷ mark_val _ i ∷ vs) = Some (block_val (block i b j) ∷ vs)
reduce DoCompound (block_val b ∷ vs) = Some (stmt_val (compound b) ∷ vs)
reduce DoBranch (stmt_val t ∷ mark_val _ k ∷ expr_val c ∷ mark_val _ j ∷ mark_val _ i ∷ vs) = Some (stmt_val (branch i j c k t) ∷ vs)
reduce DoBranches (stmt_val f ∷ mark_val _ l ∷ stmt_val t ∷ mark_val _ k ∷ expr_val c ∷ mark_val _ j ∷ mark_val _ i ∷ vs) = Some (stmt_val (branches i j c k t l f) ∷ vs)
reduce DoWhile (stmt_val t ∷ mark_val _ k ∷ expr_val c ∷ mark_val _ j ∷ mark_val _ i ∷ vs) = Some (stmt_val (while_loop i j c k t) ∷ vs)
reduce DoFor (stmt_val t ∷ mark_val _ l ∷ maybe_val e ∷ mark_val _ k ∷ maybe_val c ∷ stmt_val f ∷ mark_val _ j ∷ mark_val _ i ∷ vs) = Some (stmt_val (for_loop i j f c k e l t) ∷ vs)
reduce DoReturn (mark_val _ j ∷ maybe_val e ∷ mark_val _ i ∷ vs) = Some (stmt_val (returns i e j) ∷ vs)
reduce DoThrow (mark_val _ j ∷ maybe_val e ∷ mark_val _ i ∷ vs) = Some (stmt_val (throws i e j) ∷ vs)
reduce DoBreak (mark_val _ j ∷ mark_val _ i ∷ vs) = Some (stmt_val (breaks i j) ∷ vs)
reduce DoContinue (mark_val _ j ∷ mark_val _ i ∷ vs) = Some (stmt_val (continues i j) ∷ vs)
reduce DoTry (handlers_val h ∷ block_val b ∷ mark_val _ i ∷ vs) = Some (stmt_val (tries i b h) ∷ vs)
reduce DoAssert (mark_val _ l ∷ mark_val _ k ∷ expr_val e ∷ mark_val _ j ∷ mark_val _ i ∷ vs) = Some (stmt_val (asserts i j e k l) ∷ vs)
reduce DoNoStmts vs = Some (stmts_val no_stmts ∷ vs)
reduce DoMoreStmts (stmt_val t ∷ stmts_val b ∷ vs) = Some (stmts_val (more_stmts b t) ∷ vs)
reduce DoHandler (block_val b ∷ mark_val _ k ∷ catching_val c ∷ mark_val _ j ∷ mark_val _ i ∷ vs) = Some (handler_val (handler i j c k b) ∷ vs)
reduce DoOneHandler (handler_val h ∷ vs) = Some (handlers_val (one_handler h) ∷ vs)
reduce DoMoreHandlers (handler_val h ∷ handlers_val s ∷ vs) = Some (handlers_val (more_handlers s h) ∷ vs)
reduce DoAnyCatch (mark_val _ i ∷ vs) = Some (catching_val (any_catch i) ∷ vs)
reduce DoTypedCatch (param_val p ∷ vs) = Some (catching_val (typed_catch p) ∷ vs)
reduce DoUnnamed vs = Some (name_val unnamed ∷ vs)
reduce DoNamed (mark_val (M.Name n) i ∷ vs) = Some (name_val (named n i) ∷ vs)
reduce DoParam (name_val n ∷ type_val t ∷ vs) = Some (param_val (param t n) ∷ vs)
reduce DoOneParam (param_val p ∷ vs) = Some (row_val (one_param p) ∷ vs)
reduce DoMoreParams (param_val p ∷ mark_val _ i ∷ row_val s ∷ vs) = Some (row_val (more_params s i p) ∷ vs)
reduce DoNoParams (mark_val _ j ∷ mark_val _ i ∷ vs) = Some (params_val (no_params i j) ∷ vs)
reduce DoParams (mark_val _ j ∷ row_val s ∷ mark_val _ i ∷ vs) = Some (params_val (params i s j) ∷ vs)
reduce DoNoSpecs vs = Some (specs_val no_specs ∷ vs)
reduce DoMoreSpecs (spec_val t ∷ specs_val s ∷ vs) = Some (specs_val (more_specs s t) ∷ vs)
reduce DoPre (mark_val _ k ∷ expr_val e ∷ mark_val _ j ∷ mark_val m i ∷ vs) = Some (spec_val (before m i j e k) ∷ vs)
reduce DoPost (mark_val _ k ∷ expr_val e ∷ mark_val _ j ∷ mark_val m i ∷ vs) = Some (spec_val (after m i j e k) ∷ vs)
reduce DoPostNamed (mark_val _ k ∷ expr_val e ∷ mark_val _ l ∷ mark_val (M.Name n) a ∷ mark_val _ j ∷ mark_val m i ∷ vs) = Some (spec_val (after_named m i j n a l e k) ∷ vs)
reduce DoSuffix (specs_val s ∷ flag_val x ∷ vs) = Some (suffix_val (suffix x s) ∷ vs)
reduce DoDeclared (mark_val _ i ∷ vs) = Some (tail_val (declared i) ∷ vs)
reduce DoDefined (block_val b ∷ vs) = Some (tail_val (defined b) ∷ vs)
reduce DoUnmade (mark_val _ i ∷ vs) = Some (making_val (unmade i) ∷ vs)
reduce DoMade (block_val b ∷ inits_val a ∷ vs) = Some (making_val (made a b) ∷ vs)
reduce DoNoInits vs = Some (inits_val no_inits ∷ vs)
reduce DoInits (init_row_val s ∷ mark_val _ i ∷ vs) = Some (inits_val (inits i s) ∷ vs)
reduce DoMemberInit (args_val a ∷ mark_val (M.Name n) i ∷ vs) = Some (member_init_val (member_init n i a) ∷ vs)
reduce DoOneInit (member_init_val a ∷ vs) = Some (init_row_val (one_init a) ∷ vs)
reduce DoMoreInits (member_init_val a ∷ mark_val _ i ∷ init_row_val s ∷ vs) = Some (init_row_val (more_inits s i a) ∷ vs)
reduce DoAccess (mark_val _ j ∷ mark_val (M.Word k) i ∷ vs) = Some (member_val (access i k j) ∷ vs)
reduce DoField (mark_val _ j ∷ mark_val (M.Name n) i ∷ type_val t ∷ flag_val None ∷ vs) = Some (member_val (field t n i j) ∷ vs)
reduce DoMethod (tail_val b ∷ suffix_val s ∷ flag_val c ∷ params_val p ∷ mark_val (M.Name n) i ∷ type_val t ∷ flag_val v ∷ vs) = Some (member_val (method v t n i p c s b) ∷ vs)
reduce DoConstructor (making_val b ∷ suffix_val s ∷ params_val p ∷ mark_val (M.Class n) i ∷ flag_val x ∷ vs) = Some (member_val (constructor x n i p s b) ∷ vs)
reduce DoDestructor (tail_val b ∷ suffix_val s ∷ mark_val _ k ∷ mark_val _ j ∷ mark_val (M.Class n) i ∷ mark_val _ h ∷ flag_val v ∷ vs) = Some (member_val (destructor v h n i j k s b) ∷ vs)
reduce DoNoMembers vs = Some (members_val no_members ∷ vs)
reduce DoMoreMembers (member_val t ∷ members_val s ∷ vs) = Some (members_val (more_members s t) ∷ vs)
reduce DoPlainConstant (mark_val m i ∷ vs) = Some (constant_val (plain i m) ∷ vs)
reduce DoNegative (mark_val _ j ∷ mark_val _ i ∷ vs) = Some (constant_val (negative i j) ∷ vs)
reduce DoWithout vs = Some (global_init_val without ∷ vs)
reduce DoWithValue (constant_val c ∷ mark_val _ i ∷ vs) = Some (global_init_val (with_value i c) ∷ vs)
reduce DoClassNamed (mark_val _ l ∷ mark_val (M.Class n) j ∷ mark_val (M.Word k) i ∷ vs) = Some (item_val (class_named i k n j l) ∷ vs)
reduce DoClassDefined (mark_val _ z ∷ mark_val _ y ∷ members_val s ∷ mark_val _ l ∷ mark_val (M.Class n) j ∷ mark_val (M.Word k) i ∷ vs) = Some (item_val (class_defined i k n j l s y z) ∷ vs)
reduce DoExternal (mark_val _ k ∷ mark_val (M.Name n) j ∷ type_val t ∷ mark_val _ i ∷ vs) = Some (item_val (external i t n j k) ∷ vs)
reduce DoGlobal (mark_val _ j ∷ global_init_val v ∷ mark_val (M.Name n) i ∷ type_val t ∷ flag_val None ∷ vs) = Some (item_val (global t n i v j) ∷ vs)
reduce DoFunction (tail_val b ∷ suffix_val s ∷ params_val p ∷ mark_val (M.Name n) i ∷ type_val t ∷ flag_val l ∷ vs) = Some (item_val (function l t n i p s b) ∷ vs)
reduce DoOuterMethod (block_val b ∷ suffix_val s ∷ flag_val x ∷ params_val p ∷ mark_val (M.Name n) i ∷ mark_val _ k ∷ mark_val (M.Class c) j ∷ type_val t ∷ flag_val l ∷ vs) = Some (item_val (outer_method l t c j k n i p x s b) ∷ vs)
reduce DoOuterConstructor (block_val b ∷ inits_val a ∷ suffix_val s ∷ params_val p ∷ mark_val (M.Class n) i ∷ mark_val _ k ∷ mark_val (M.Class c) j ∷ flag_val l ∷ vs) = Some (item_val (outer_constructor l c j k n i p s a b) ∷ vs)
reduce DoOuterDestructor (block_val b ∷ suffix_val s ∷ mark_val _ z ∷ mark_val _ y ∷ mark_val (M.Class n) i ∷ mark_val _ h ∷ mark_val _ k ∷ mark_val (M.Class c) j ∷ flag_val l ∷ vs) = Some (item_val (outer_destructor l c j k h n i y z s b) ∷ vs)
reduce DoNoItems vs = Some (unit_val no_items ∷ vs)
reduce DoMoreItems (item_val t ∷ unit_val s ∷ vs) = Some (unit_val (more_items s t) ∷ vs)
reduce _ _ = None
