-- The plain trees of specs/Tree that the trees of the program stand for.
use Rattle.std.specs.Prelude.{ℕ, List, fold, map, Option, option_map}
use Rattle.cx_syntax.specs.Tree as tree
use Rattle.cx_syntax.specs.Tree.{access, after, after_named, also, any_catch, args, asserts, assign, before, binary, block, branch, branches, breaks, call, choose, class_base, class_defined, class_named, compound, constructor, continues, declare, declared, defined, destructor, empty, equals, evaluate, external, field, for_loop, function, global, handler, inits, leaf, library, library_base, local, long_long, made, member, member_init, method, more_handlers, more_inits, more_items, more_members, more_params, more_specs, more_stmts, named, negative, no_args, no_init, no_inits, no_items, no_members, no_params, no_specs, no_stars, no_stmts, one, one_handler, one_init, one_param, outer_constructor, outer_destructor, outer_method, param, params, paren, parens, plain, returns, standard, star, static_cast, stepped, suffix, temporary, throws, tries, type_tree, typed_catch, unary, unmade, unnamed, unsigned_int, unsigned_long_long, while_loop, with_value, without, word_base, word_cast}
use Rattle.cx_syntax.specs.declared.tree.types.Base.{Base}
use Rattle.cx_syntax.specs.declared.tree.types.Base.TheVariants as B
use Rattle.cx_syntax.specs.declared.tree.types.Star.{Star}
use Rattle.cx_syntax.specs.declared.tree.types.TypeTree.{TypeTree}
use Rattle.cx_syntax.specs.declared.tree.expression.Expr.{Expr, fold-Expr}
use Rattle.cx_syntax.specs.declared.tree.expression.Args.{Args, fold-Args}
use Rattle.cx_syntax.specs.declared.tree.expression.Several.{Several, fold-Several}
use Rattle.cx_syntax.specs.declared.tree.expression.Another.{Another, fold-Another}
use Rattle.cx_syntax.specs.declared.tree.expression.Args.TheOpen.{Another-F, Args-F, Expr-F, Several-F}
use Rattle.cx_syntax.specs.declared.tree.statement.Init.{Init}
use Rattle.cx_syntax.specs.declared.tree.statement.Init.TheVariants as I
use Rattle.cx_syntax.specs.declared.tree.statement.Local.{Local}
use Rattle.cx_syntax.specs.declared.tree.statement.Catching.{Catching}
use Rattle.cx_syntax.specs.declared.tree.statement.Catching.TheVariants as C
use Rattle.cx_syntax.specs.declared.tree.statement.Stmt.{Stmt, fold-Stmt}
use Rattle.cx_syntax.specs.declared.tree.statement.Block.{Block, fold-Block}
use Rattle.cx_syntax.specs.declared.tree.statement.Handler.{Handler, fold-Handler}
use Rattle.cx_syntax.specs.declared.tree.statement.Handlers.{Handlers, fold-Handlers}
use Rattle.cx_syntax.specs.declared.tree.statement.Stmt.TheOpen.{Block-F, Handler-F, Handlers-F, Stmt-F}
use Rattle.cx_syntax.specs.declared.tree.function.OptionalName.{OptionalName}
use Rattle.cx_syntax.specs.declared.tree.function.OptionalName.TheVariants as N
use Rattle.cx_syntax.specs.declared.tree.function.Param.{Param}
use Rattle.cx_syntax.specs.declared.tree.function.AnotherParam.{AnotherParam}
use Rattle.cx_syntax.specs.declared.tree.function.ParamRow.{ParamRow}
use Rattle.cx_syntax.specs.declared.tree.function.Params.{Params}
use Rattle.cx_syntax.specs.declared.tree.function.Params.TheVariants as P
use Rattle.cx_syntax.specs.declared.tree.function.Spec.{Spec}
use Rattle.cx_syntax.specs.declared.tree.function.Spec.TheVariants as S
use Rattle.cx_syntax.specs.declared.tree.function.Suffix.{Suffix}
use Rattle.cx_syntax.specs.declared.tree.function.Tail.{Tail}
use Rattle.cx_syntax.specs.declared.tree.function.Tail.TheVariants as T
use Rattle.cx_syntax.specs.declared.tree.member.MemberInit.{MemberInit}
use Rattle.cx_syntax.specs.declared.tree.member.AnotherInit.{AnotherInit}
use Rattle.cx_syntax.specs.declared.tree.member.InitRow.{InitRow}
use Rattle.cx_syntax.specs.declared.tree.member.Inits.{Inits}
use Rattle.cx_syntax.specs.declared.tree.member.Inits.TheVariants as L
use Rattle.cx_syntax.specs.declared.tree.member.Making.{Making}
use Rattle.cx_syntax.specs.declared.tree.member.Making.TheVariants as K
use Rattle.cx_syntax.specs.declared.tree.member.Member.{Member}
use Rattle.cx_syntax.specs.declared.tree.member.Member.TheVariants as M
use Rattle.cx_syntax.specs.declared.tree.item.Constant.{Constant}
use Rattle.cx_syntax.specs.declared.tree.item.Constant.TheVariants as V
use Rattle.cx_syntax.specs.declared.tree.item.GlobalInit.{GlobalInit}
use Rattle.cx_syntax.specs.declared.tree.item.GlobalInit.TheVariants as G
use Rattle.cx_syntax.specs.declared.tree.item.Item.{Item}
use Rattle.cx_syntax.specs.declared.tree.item.Item.TheVariants as D
use Rattle.cx_syntax.specs.declared.tree.item.UnitTree.{UnitTree}

abbrev pub base_of : Base → tree.Base
base_of (B.Word k i) = word_base k i
base_of (B.UnsignedInt i j) = unsigned_int i j
base_of (B.LongLong i j) = long_long i j
base_of (B.UnsignedLongLong i j k) = unsigned_long_long i j k
base_of (B.Class n i) = class_base n i
base_of (B.Library i j m k l n a) = library_base i j m k l n a

abbrev pub with_star : tree.Stars → Star → tree.Stars
with_star s x = star s x.at x.constant

abbrev pub stars_of : List Star → tree.Stars
stars_of list = fold with_star no_stars list

abbrev pub type_of : TypeTree → tree.TypeTree
type_of t = type_tree t.constant (base_of t.base) (stars_of t.stars.items) t.reference

-- a comma and what stands after it
abbrev pub with_expr : tree.Several → ℕ × tree.Expr → tree.Several
with_expr s x = also s x.0 x.1

-- one layer of each, with the trees of its parts
abbrev pub another_step : Another-F tree.Args tree.Expr (ℕ × tree.Expr) tree.Several → ℕ × tree.Expr
another_step x = (x.comma, x.value)

abbrev pub args_step : Args-F tree.Args tree.Expr (ℕ × tree.Expr) tree.Several → tree.Args
args_step (Args-F.Empty i j) = no_args i j
args_step (Args-F.List i s j) = args i s j

abbrev pub several_step : Several-F tree.Args tree.Expr (ℕ × tree.Expr) tree.Several → tree.Several
several_step s = fold with_expr (one s.first.value) s.more.items

abbrev pub expr_step : Expr-F tree.Args tree.Expr (ℕ × tree.Expr) tree.Several → tree.Expr
expr_step (Expr-F.Leaf i m) = leaf i m
expr_step (Expr-F.Paren i e j) = paren i e.value j
expr_step (Expr-F.Temporary i n a) = temporary i n a
expr_step (Expr-F.WordCast i k j e l) = word_cast i k j e.value l
expr_step (Expr-F.StaticCast i j t k l e z) = static_cast i j (type_of t.value) k l e.value z
expr_step (Expr-F.Standard i j n k) = standard i j n k
expr_step (Expr-F.Library i j m k l t a z n b) = library i j m k l t a z n b
expr_step (Expr-F.Member i e p j n k) = member i e.value p j n k
expr_step (Expr-F.Call i e a) = call i e.value a
expr_step (Expr-F.Stepped i e p j) = stepped i e.value p j
expr_step (Expr-F.Unary i p e) = unary i p e.value
expr_step (Expr-F.Binary i l p j r) = binary i l.value p j r.value
expr_step (Expr-F.Choose i c j a k b) = choose i c.value j a.value k b.value
expr_step (Expr-F.Assign i l p j r) = assign i l.value p j r.value

abbrev pub expr_of : Expr → tree.Expr
expr_of = fold-Expr tree.Args tree.Expr (ℕ × tree.Expr) tree.Several args_step expr_step another_step several_step

abbrev pub args_of : Args → tree.Args
args_of = fold-Args tree.Args tree.Expr (ℕ × tree.Expr) tree.Several args_step expr_step another_step several_step

abbrev pub several_of : Several → tree.Several
several_of = fold-Several tree.Args tree.Expr (ℕ × tree.Expr) tree.Several args_step expr_step another_step several_step

abbrev pub another_of : Another → ℕ × tree.Expr
another_of = fold-Another tree.Args tree.Expr (ℕ × tree.Expr) tree.Several args_step expr_step another_step several_step

abbrev pub init_of : Init → tree.Init
init_of I.Nothing = no_init
init_of (I.Equals i e) = equals i (expr_of e)
init_of (I.Parens i s j) = parens i (several_of s) j

abbrev pub local_of : Local → tree.Local
local_of l = local (type_of l.of) l.name l.name_at (init_of l.init)

abbrev pub optional_name_of : OptionalName → tree.OptionalName
optional_name_of N.Unnamed = unnamed
optional_name_of (N.Named n i) = named n i

abbrev pub param_of : Param → tree.Param
param_of p = param (type_of p.of) (optional_name_of p.name)

abbrev pub catching_of : Catching → tree.Catching
catching_of (C.Any i) = any_catch i
catching_of (C.Typed p) = typed_catch (param_of p)

abbrev pub stmt_list : List tree.Stmt → tree.Stmts
stmt_list = fold more_stmts no_stmts

abbrev pub stmt_step : Stmt-F tree.Stmt tree.Block tree.Handler tree.Handlers → tree.Stmt
stmt_step (Stmt-F.Compound b) = compound b
stmt_step (Stmt-F.Empty i) = empty i
stmt_step (Stmt-F.Evaluate e i) = evaluate (expr_of e) i
stmt_step (Stmt-F.Declare l i) = declare (local_of l) i
stmt_step (Stmt-F.Branch i j c k t) = branch i j (expr_of c) k t.value
stmt_step (Stmt-F.Branches i j c k t l f) = branches i j (expr_of c) k t.value l f.value
stmt_step (Stmt-F.While i j c k t) = while_loop i j (expr_of c) k t.value
stmt_step (Stmt-F.For i j f c k e l t) = for_loop i j f.value (option_map expr_of c) k (option_map expr_of e) l t.value
stmt_step (Stmt-F.Return i e j) = returns i (option_map expr_of e) j
stmt_step (Stmt-F.Break i j) = breaks i j
stmt_step (Stmt-F.Continue i j) = continues i j
stmt_step (Stmt-F.Throw i e j) = throws i (option_map expr_of e) j
stmt_step (Stmt-F.Try i b h) = tries i b h
stmt_step (Stmt-F.Assert i j e k l) = asserts i j (expr_of e) k l

abbrev pub block_step : Block-F tree.Stmt tree.Block tree.Handler tree.Handlers → tree.Block
block_step b = block b.at (stmt_list b.statements.items) b.close

abbrev pub handler_step : Handler-F tree.Stmt tree.Block tree.Handler tree.Handlers → tree.Handler
handler_step h = handler h.at h.open_at (catching_of h.catching) h.close h.body

abbrev pub handlers_step : Handlers-F tree.Stmt tree.Block tree.Handler tree.Handlers → tree.Handlers
handlers_step h = fold more_handlers (one_handler h.first.value) h.more.items

abbrev pub stmt_of : Stmt → tree.Stmt
stmt_of = fold-Stmt tree.Stmt tree.Block tree.Handler tree.Handlers stmt_step block_step handler_step handlers_step

abbrev pub block_of : Block → tree.Block
block_of = fold-Block tree.Stmt tree.Block tree.Handler tree.Handlers stmt_step block_step handler_step handlers_step

abbrev pub handler_of : Handler → tree.Handler
handler_of = fold-Handler tree.Stmt tree.Block tree.Handler tree.Handlers stmt_step block_step handler_step handlers_step

abbrev pub handlers_of : Handlers → tree.Handlers
handlers_of = fold-Handlers tree.Stmt tree.Block tree.Handler tree.Handlers stmt_step block_step handler_step handlers_step

abbrev pub stmts_of : List Stmt → tree.Stmts
stmts_of list = stmt_list (map stmt_of list)

abbrev pub spec_of : Spec → tree.Spec
spec_of (S.Before m i j e k) = before m i j (expr_of e) k
spec_of (S.After m i j e k) = after m i j (expr_of e) k
spec_of (S.AfterNamed m i j n a l e k) = after_named m i j n a l (expr_of e) k

abbrev pub with_spec : tree.Specs → Spec → tree.Specs
with_spec s x = more_specs s (spec_of x)

abbrev pub specs_of : List Spec → tree.Specs
specs_of list = fold with_spec no_specs list

abbrev pub suffix_of : Suffix → tree.Suffix
suffix_of s = suffix s.noexcept (specs_of s.specs.items)

abbrev pub with_param : tree.ParamRow → AnotherParam → tree.ParamRow
with_param s x = more_params s x.comma (param_of x.param)

abbrev pub row_of : ParamRow → tree.ParamRow
row_of s = fold with_param (one_param (param_of s.first)) s.more.items

abbrev pub params_of : Params → tree.Params
params_of (P.Empty i j) = no_params i j
params_of (P.Row i s j) = params i (row_of s) j

abbrev pub member_init_of : MemberInit → tree.MemberInit
member_init_of a = member_init a.name a.at (args_of a.arguments)

abbrev pub with_init : tree.InitRow → AnotherInit → tree.InitRow
with_init s x = more_inits s x.comma (member_init_of x.init)

abbrev pub init_row_of : InitRow → tree.InitRow
init_row_of s = fold with_init (one_init (member_init_of s.first)) s.more.items

abbrev pub inits_of : Inits → tree.Inits
inits_of L.Nothing = no_inits
inits_of (L.Row i s) = inits i (init_row_of s)

abbrev pub tail_of : Tail → tree.Tail
tail_of (T.Declared i) = declared i
tail_of (T.Defined b) = defined (block_of b)

abbrev pub making_of : Making → tree.Making
making_of (K.Unmade i) = unmade i
making_of (K.Made a b) = made (inits_of a) (block_of b)

abbrev pub constant_of : Constant → tree.Constant
constant_of (V.Plain i m) = plain i m
constant_of (V.Negative i j) = negative i j

abbrev pub global_init_of : GlobalInit → tree.GlobalInit
global_init_of G.Nothing = without
global_init_of (G.Value i c) = with_value i (constant_of c)

abbrev pub member_of : Member → tree.Member
member_of (M.Access i k j) = access i k j
member_of (M.Field t n i j) = field (type_of t) n i j
member_of (M.Method v t n i p c s b) = method v (type_of t) n i (params_of p) c (suffix_of s) (tail_of b)
member_of (M.Constructor x n i p s b) = constructor x n i (params_of p) (suffix_of s) (making_of b)
member_of (M.Destructor v h n i j k s b) = destructor v h n i j k (suffix_of s) (tail_of b)

abbrev pub with_member : tree.Members → Member → tree.Members
with_member s x = more_members s (member_of x)

abbrev pub members_of : List Member → tree.Members
members_of list = fold with_member no_members list

abbrev pub item_of : Item → tree.Item
item_of (D.ClassNamed i k n j l) = class_named i k n j l
item_of (D.ClassDefined i k n j l s y z) = class_defined i k n j l (members_of s.items) y z
item_of (D.External i t n j k) = external i (type_of t) n j k
item_of (D.Global t n i v j) = global (type_of t) n i (global_init_of v) j
item_of (D.Function l t n i p s b) = function l (type_of t) n i (params_of p) (suffix_of s) (tail_of b)
item_of (D.OuterMethod l t c j k n i p x s b) = outer_method l (type_of t) c j k n i (params_of p) x (suffix_of s) (block_of b)
item_of (D.OuterConstructor l c j k n i p s a b) = outer_constructor l c j k n i (params_of p) (suffix_of s) (inits_of a) (block_of b)
item_of (D.OuterDestructor l c j k h n i y z s b) = outer_destructor l c j k h n i y z (suffix_of s) (block_of b)

abbrev pub with_item : tree.UnitTree → Item → tree.UnitTree
with_item s x = more_items s (item_of x)

abbrev pub items_of : List Item → tree.UnitTree
items_of list = fold with_item no_items list

-- the plain tree of a unit
abbrev pub unit_of : UnitTree → tree.UnitTree
unit_of u = items_of u.items.items
