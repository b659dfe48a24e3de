-- Which trees are of the grammar: places, sorts of tokens, levels of operands, the nearest `else`, and what no statement begins with, after [gram.expr], [gram.stmt] and [stmt.ambig].
use Rattle.std.specs.Prelude.{◌≡◌, ℕ, ◌+◌, ◌<◌, ◌≤◌, Bool, true, false, eqb, Option, Some, None}
use Rattle.cx_syntax.specs.declared.mark.Punct.{Punct}
use Rattle.cx_syntax.specs.declared.mark.Punct.TheVariants as P
use Rattle.cx_syntax.specs.declared.mark.Word.{Word}
use Rattle.cx_syntax.specs.declared.mark.Word.TheVariants as W
use Rattle.cx_syntax.specs.declared.mark.Mark.{Mark}
use Rattle.cx_syntax.specs.declared.mark.Mark.TheVariants as M
use Rattle.cx_syntax.specs.Tree.{Args, Base, Block, Catching, Constant, Expr, GlobalInit, Handler, Handlers, Init, InitRow, Inits, Item, Local, Making, Member, MemberInit, Members, Param, ParamRow, Params, Several, Spec, Specs, Stars, Stmt, Stmts, Suffix, Tail, TypeTree, UnitTree, access, after, after_named, also, any_catch, args, asserts, assign, before, binary, block, branch, branches, breaks, call, choose, class_defined, class_named, compound, constructor, continues, declare, declared, defined, destructor, empty, equals, evaluate, external, field, for_loop, function, global, handler, inits, leaf, library, library_base, local, made, member, member_init, method, more_handlers, more_inits, more_items, more_members, more_params, more_specs, more_stmts, negative, no_args, no_init, no_inits, no_items, no_members, no_params, no_specs, no_stars, no_stmts, one, one_handler, one_init, one_param, outer_constructor, outer_destructor, outer_method, param, params, paren, parens, plain, returns, standard, star, static_cast, stepped, suffix, temporary, throws, tries, type_tree, typed_catch, unary, unmade, while_loop, with_value, without, word_base, word_cast}

-- a mark that is an expression by itself
abbrev pub is_leaf : Mark → Bool
is_leaf (M.Name n) = true
is_leaf M.Number = true
is_leaf M.Char = true
is_leaf M.Text = true
is_leaf (M.Word W.True) = true
is_leaf (M.Word W.False) = true
is_leaf (M.Word W.Nullptr) = true
is_leaf (M.Word W.This) = true
is_leaf _ = false

abbrev pub is_constant : Mark → Bool
is_constant M.Number = true
is_constant M.Char = true
is_constant (M.Word W.True) = true
is_constant (M.Word W.False) = true
is_constant (M.Word W.Nullptr) = true
is_constant _ = false

abbrev pub is_prefix : Punct → Bool
is_prefix P.Minus = true
is_prefix P.Plus = true
is_prefix P.Not = true
is_prefix P.Tilde = true
is_prefix P.Star = true
is_prefix P.And = true
is_prefix P.Increment = true
is_prefix P.Decrement = true
is_prefix _ = false

abbrev pub is_step : Punct → Bool
is_step P.Increment = true
is_step P.Decrement = true
is_step _ = false

abbrev pub is_member : Punct → Bool
is_member P.Dot = true
is_member P.Arrow = true
is_member _ = false

-- `bool`, `char`, `int`, `unsigned`
abbrev pub is_cast : Word → Bool
is_cast W.Bool = true
is_cast W.Char = true
is_cast W.Int = true
is_cast W.Unsigned = true
is_cast _ = false

abbrev pub is_word_base : Word → Bool
is_word_base W.Void = true
is_word_base k = is_cast k

-- how loosely what begins with a mark binds to an operand before it: 0 closest, after a postfix expression (`::` follows none);
-- 1, `* / %`, to 10, `||`; 11 `?` and assignment; 12 it doesn't
abbrev pub looseness : Punct → ℕ
looseness P.Dot = 0
looseness P.Arrow = 0
looseness P.OpenParen = 0
looseness P.Increment = 0
looseness P.Decrement = 0
looseness P.Scope = 0
looseness P.Star = 1
looseness P.Slash = 1
looseness P.Percent = 1
looseness P.Plus = 2
looseness P.Minus = 2
looseness P.ShiftLeft = 3
looseness P.ShiftRight = 3
looseness P.Less = 4
looseness P.Greater = 4
looseness P.LessEqual = 4
looseness P.GreaterEqual = 4
looseness P.Equal = 5
looseness P.NotEqual = 5
looseness P.And = 6
looseness P.Xor = 7
looseness P.Or = 8
looseness P.Both = 9
looseness P.Either = 10
looseness P.Question = 11
looseness P.Assign = 11
looseness P.PlusAssign = 11
looseness P.MinusAssign = 11
looseness P.StarAssign = 11
looseness P.SlashAssign = 11
looseness P.PercentAssign = 11
looseness P.AndAssign = 11
looseness P.OrAssign = 11
looseness P.XorAssign = 11
looseness P.ShiftLeftAssign = 11
looseness P.ShiftRightAssign = 11
looseness _ = 12

abbrev pub is_assign : Punct → Bool
is_assign P.Assign = true
is_assign P.PlusAssign = true
is_assign P.MinusAssign = true
is_assign P.StarAssign = true
is_assign P.SlashAssign = true
is_assign P.PercentAssign = true
is_assign P.AndAssign = true
is_assign P.OrAssign = true
is_assign P.XorAssign = true
is_assign P.ShiftLeftAssign = true
is_assign P.ShiftRightAssign = true
is_assign _ = false

-- the names that the grammar takes by their letters, class names or not
abbrev pub is_named : ℕ → Mark → Bool
is_named k (M.Name n) = eqb n k
is_named k (M.Class n) = eqb n k
is_named k _ = false

abbrev pub contracts_name : ℕ
contracts_name = 0

abbrev pub pre_name : ℕ
pre_name = 1

abbrev pub post_name : ℕ
post_name = 2

-- the place of the first token
abbrev pub at_of : Expr → ℕ
at_of (leaf i m) = i
at_of (paren i e j) = i
at_of (temporary i n a) = i
at_of (word_cast i k j e l) = i
at_of (static_cast i j t k l e z) = i
at_of (standard i j n k) = i
at_of (library i j m k l t a z n b) = i
at_of (member i e p j n k) = i
at_of (call i e a) = i
at_of (stepped i e p j) = i
at_of (unary i p e) = i
at_of (binary i l p j r) = i
at_of (choose i c j a k b) = i
at_of (assign i l p j r) = i

-- 0: unary and what binds closer; 1 to 10: a binary level; 11: `?:` and assignment
abbrev pub rank : Expr → ℕ
rank (binary i l p j r) = looseness p
rank (choose i c j a k b) = 11
rank (assign i l p j r) = 11
rank _ = 0

abbrev pub is_postfix : Expr → Bool
is_postfix (unary i p e) = false
is_postfix (binary i l p j r) = false
is_postfix (choose i c j a k b) = false
is_postfix (assign i l p j r) = false
is_postfix _ = true

-- a `cond`
abbrev pub is_cond : Expr → Bool
is_cond (assign i l p j r) = false
is_cond _ = true

-- it begins with a class name, a base type word, `const` or `std :: contracts`
abbrev pub begins_type : Expr → Bool
begins_type (leaf i m) = false
begins_type (paren i e j) = false
begins_type (temporary i n a) = true
begins_type (word_cast i k j e l) = true
begins_type (static_cast i j t k l e z) = false
begins_type (standard i j n k) = eqb n contracts_name
begins_type (library i j m k l t a z n b) = true
begins_type (member i e p j n k) = begins_type e
begins_type (call i e a) = begins_type e
begins_type (stepped i e p j) = begins_type e
begins_type (unary i p e) = false
begins_type (binary i l p j r) = begins_type l
begins_type (choose i c j a k b) = begins_type c
begins_type (assign i l p j r) = begins_type l

abbrev pub ShapedBase : Base → Type 0
ShapedBase (word_base k i) = is_word_base k ≡ true
ShapedBase (library_base i j m k l n a) = is_named contracts_name m ≡ true
ShapedBase _ = Unit {0}

abbrev pub star_count : Stars → ℕ
star_count no_stars = 0
star_count (star s i c) = star_count s + 1

abbrev pub ShapedType : TypeTree → Type 0
ShapedType (type_tree c b s r) = ShapedBase b × (star_count s ≤ 8)

abbrev mutual
  pub Shaped : Expr → Type 0
  Shaped (leaf i m) = is_leaf m ≡ true
  Shaped (paren i e j) = Shaped e
  Shaped (temporary i n a) = ShapedArgs a
  Shaped (word_cast i k j e l) = (is_cast k ≡ true) × Shaped e
  Shaped (static_cast i j t k l e z) = ShapedType t × Shaped e
  Shaped (standard i j n k) = Unit {0}
  Shaped (library i j m k l t a z n b) = is_named contracts_name m ≡ true
  Shaped (member i e p j n k) = (is_member p ≡ true) × (is_postfix e ≡ true) × Shaped e × (i ≡ at_of e)
  Shaped (call i e a) = (is_postfix e ≡ true) × Shaped e × ShapedArgs a × (i ≡ at_of e)
  Shaped (stepped i e p j) = (is_step p ≡ true) × (is_postfix e ≡ true) × Shaped e × (i ≡ at_of e)
  Shaped (unary i p e) = (is_prefix p ≡ true) × (rank e ≡ 0) × Shaped e
  Shaped (binary i l p j r) = (1 ≤ looseness p) × (looseness p ≤ 10) × (rank l ≤ looseness p) × (rank r < looseness p) × Shaped l × Shaped r × (i ≡ at_of l)
  Shaped (choose i c j a k b) = (rank c ≤ 10) × Shaped c × Shaped a × Shaped b × (i ≡ at_of c)
  Shaped (assign i l p j r) = (is_assign p ≡ true) × (rank l ≤ 10) × Shaped l × Shaped r × (i ≡ at_of l)

  pub ShapedArgs : Args → Type 0
  ShapedArgs (no_args i j) = Unit {0}
  ShapedArgs (args i s j) = ShapedSeveral s

  pub ShapedSeveral : Several → Type 0
  ShapedSeveral (one e) = Shaped e
  ShapedSeveral (also s i e) = ShapedSeveral s × Shaped e

abbrev pub IfShaped : Option Expr → Type 0
IfShaped None = Unit {0}
IfShaped (Some e) = Shaped e

abbrev pub ShapedCond : Expr → Type 0
ShapedCond e = (is_cond e ≡ true) × Shaped e

-- an expression where a declaration may stand too
abbrev pub ShapedFree : Expr → Type 0
ShapedFree e = (begins_type e ≡ false) × Shaped e

abbrev pub ShapedInit : Init → Type 0
ShapedInit no_init = Unit {0}
ShapedInit (equals i e) = Shaped e
ShapedInit (parens i s j) = ShapedSeveral s

abbrev pub ShapedLocal : Local → Type 0
ShapedLocal (local t n i a) = ShapedType t × ShapedInit a

abbrev pub ShapedParam : Param → Type 0
ShapedParam (param t n) = ShapedType t

abbrev pub ShapedCatching : Catching → Type 0
ShapedCatching (any_catch i) = Unit {0}
ShapedCatching (typed_catch p) = ShapedParam p

-- an `else` after it would be its own
abbrev pub is_open : Stmt → Bool
is_open (branch i j c k t) = true
is_open (branches i j c k t l f) = is_open f
is_open (while_loop i j c k t) = is_open t
is_open (for_loop i j f c k e l t) = is_open t
is_open _ = false

-- an empty statement, an expression statement or a declaration
abbrev pub is_simple : Stmt → Bool
is_simple (empty i) = true
is_simple (evaluate e i) = true
is_simple (declare l i) = true
is_simple _ = false

abbrev mutual
  pub ShapedBlock : Block → Type 0
  ShapedBlock (block i b j) = ShapedStmts b

  pub ShapedStmt : Stmt → Type 0
  ShapedStmt (compound b) = ShapedBlock b
  ShapedStmt (empty i) = Unit {0}
  ShapedStmt (evaluate e i) = ShapedFree e
  ShapedStmt (declare l i) = ShapedLocal l
  ShapedStmt (branch i j c k t) = Shaped c × ShapedStmt t
  ShapedStmt (branches i j c k t l f) = Shaped c × ShapedStmt t × (is_open t ≡ false) × ShapedStmt f
  ShapedStmt (while_loop i j c k t) = Shaped c × ShapedStmt t
  ShapedStmt (for_loop i j f c k e l t) = (is_simple f ≡ true) × ShapedStmt f × IfShaped c × IfShaped e × ShapedStmt t
  ShapedStmt (returns i e j) = IfShaped e
  ShapedStmt (breaks i j) = Unit {0}
  ShapedStmt (continues i j) = Unit {0}
  ShapedStmt (throws i e j) = IfShaped e
  ShapedStmt (tries i b h) = ShapedBlock b × ShapedHandlers h
  ShapedStmt (asserts i j e k l) = ShapedCond e

  pub ShapedStmts : Stmts → Type 0
  ShapedStmts no_stmts = Unit {0}
  ShapedStmts (more_stmts s t) = ShapedStmts s × ShapedStmt t

  pub ShapedHandler : Handler → Type 0
  ShapedHandler (handler i j c k b) = ShapedCatching c × ShapedBlock b

  pub ShapedHandlers : Handlers → Type 0
  ShapedHandlers (one_handler h) = ShapedHandler h
  ShapedHandlers (more_handlers s h) = ShapedHandlers s × ShapedHandler h

abbrev pub ShapedSpec : Spec → Type 0
ShapedSpec (before m i j e k) = (is_named pre_name m ≡ true) × ShapedCond e
ShapedSpec (after m i j e k) = (is_named post_name m ≡ true) × ShapedCond e
ShapedSpec (after_named m i j n a l e k) = (is_named post_name m ≡ true) × ShapedCond e

abbrev pub ShapedSpecs : Specs → Type 0
ShapedSpecs no_specs = Unit {0}
ShapedSpecs (more_specs s t) = ShapedSpecs s × ShapedSpec t

abbrev pub ShapedSuffix : Suffix → Type 0
ShapedSuffix (suffix x s) = ShapedSpecs s

abbrev pub ShapedRow : ParamRow → Type 0
ShapedRow (one_param p) = ShapedParam p
ShapedRow (more_params s i p) = ShapedRow s × ShapedParam p

abbrev pub ShapedParams : Params → Type 0
ShapedParams (no_params i j) = Unit {0}
ShapedParams (params i s j) = ShapedRow s

abbrev pub ShapedMemberInit : MemberInit → Type 0
ShapedMemberInit (member_init n i a) = ShapedArgs a

abbrev pub ShapedInitRow : InitRow → Type 0
ShapedInitRow (one_init a) = ShapedMemberInit a
ShapedInitRow (more_inits s i a) = ShapedInitRow s × ShapedMemberInit a

abbrev pub ShapedInits : Inits → Type 0
ShapedInits no_inits = Unit {0}
ShapedInits (inits i s) = ShapedInitRow s

abbrev pub ShapedTail : Tail → Type 0
ShapedTail (declared i) = Unit {0}
ShapedTail (defined b) = ShapedBlock b

abbrev pub ShapedMaking : Making → Type 0
ShapedMaking (unmade i) = Unit {0}
ShapedMaking (made a b) = ShapedInits a × ShapedBlock b

abbrev pub ShapedConstant : Constant → Type 0
ShapedConstant (plain i m) = is_constant m ≡ true
ShapedConstant (negative i j) = Unit {0}

abbrev pub ShapedGlobalInit : GlobalInit → Type 0
ShapedGlobalInit without = Unit {0}
ShapedGlobalInit (with_value i c) = ShapedConstant c

abbrev pub is_access : Word → Bool
is_access W.Public = true
is_access W.Private = true
is_access _ = false

abbrev pub is_class_key : Word → Bool
is_class_key W.Class = true
is_class_key W.Struct = true
is_class_key _ = false

abbrev pub ShapedMember : Member → Type 0
ShapedMember (access i k j) = is_access k ≡ true
ShapedMember (field t n i j) = ShapedType t
ShapedMember (method v t n i p c s b) = ShapedType t × ShapedParams p × ShapedSuffix s × ShapedTail b
ShapedMember (constructor x n i p s b) = ShapedParams p × ShapedSuffix s × ShapedMaking b
ShapedMember (destructor v h n i j k s b) = ShapedSuffix s × ShapedTail b

abbrev pub ShapedMembers : Members → Type 0
ShapedMembers no_members = Unit {0}
ShapedMembers (more_members s t) = ShapedMembers s × ShapedMember t

abbrev pub ShapedItem : Item → Type 0
ShapedItem (class_named i k n j l) = is_class_key k ≡ true
ShapedItem (class_defined i k n j l s y z) = (is_class_key k ≡ true) × ShapedMembers s
ShapedItem (external i t n j k) = ShapedType t
ShapedItem (global t n i v j) = ShapedType t × ShapedGlobalInit v
ShapedItem (function l t n i p s b) = ShapedType t × ShapedParams p × ShapedSuffix s × ShapedTail b
ShapedItem (outer_method l t c j k n i p x s b) = ShapedType t × ShapedParams p × ShapedSuffix s × ShapedBlock b
ShapedItem (outer_constructor l c j k n i p s a b) = ShapedParams p × ShapedSuffix s × ShapedInits a × ShapedBlock b
ShapedItem (outer_destructor l c j k h n i y z s b) = ShapedSuffix s × ShapedBlock b

abbrev pub ShapedUnit : UnitTree → Type 0
ShapedUnit no_items = Unit {0}
ShapedUnit (more_items s t) = ShapedUnit s × ShapedItem t
