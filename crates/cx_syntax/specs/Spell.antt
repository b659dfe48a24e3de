-- The tokens of a tree, each with its place, in front of those that follow it: the productions of the grammar read from left to right, after [gram].
use Rattle.std.specs.Prelude.{ℕ, suc, List, [], ◌∷◌, Option, Some, None}
use Rattle.cx_syntax.specs.declared.mark.Punct.{Punct}
use Rattle.cx_syntax.specs.declared.mark.Punct.TheVariants as P
use Rattle.cx_syntax.specs.declared.mark.Word.{Word}
use Rattle.cx_syntax.specs.declared.mark.Word.TheVariants as W
use Rattle.cx_syntax.specs.declared.mark.Mark.{Mark}
use Rattle.cx_syntax.specs.declared.mark.Mark.TheVariants as M
use Rattle.cx_syntax.specs.Tree.{Args, Base, Block, Catching, Constant, Expr, GlobalInit, Handler, Handlers, Init, InitRow, Inits, Item, Local, Making, Member, MemberInit, Members, OptionalName, Param, ParamRow, Params, Several, Spec, Specs, Stars, Stmt, Stmts, Suffix, Tail, TypeTree, UnitTree, access, after, after_named, also, any_catch, args, asserts, assign, before, binary, block, branch, branches, breaks, call, choose, class_base, class_defined, class_named, compound, constructor, continues, declare, declared, defined, destructor, empty, equals, evaluate, external, field, for_loop, function, global, handler, inits, leaf, library, library_base, local, long_long, made, member, member_init, method, more_handlers, more_inits, more_items, more_members, more_params, more_specs, more_stmts, named, negative, no_args, no_init, no_inits, no_items, no_members, no_params, no_specs, no_stars, no_stmts, one, one_handler, one_init, one_param, outer_constructor, outer_destructor, outer_method, param, params, paren, parens, plain, returns, standard, star, static_cast, stepped, suffix, temporary, throws, tries, type_tree, typed_catch, unary, unmade, unnamed, unsigned_int, unsigned_long_long, while_loop, with_value, without, word_base, word_cast}

abbrev pub Marks : Type 0
Marks = List Mark

-- a mark and the place that a tree gives it
pub data Spot : Type 0 where
  spot : Mark → ℕ → Spot

abbrev pub Spots : Type 0
Spots = List Spot

-- the marks of a list at their places, the first one at `n`
abbrev pub numbered : ℕ → Marks → Spots
numbered n [] = []
numbered n (m ∷ w) = spot m n ∷ numbered (suc n) w

-- a token of each sort
abbrev pub sign : Punct → ℕ → Spots → Spots
sign p i w = spot (M.Punct p) i ∷ w

abbrev pub word : Word → ℕ → Spots → Spots
word k i w = spot (M.Word k) i ∷ w

abbrev pub name : ℕ → ℕ → Spots → Spots
name n i w = spot (M.Name n) i ∷ w

abbrev pub class_name : ℕ → ℕ → Spots → Spots
class_name n i w = spot (M.Class n) i ∷ w

-- std :: contracts ::
abbrev pub standard_contracts : ℕ → ℕ → Mark → ℕ → ℕ → Spots → Spots
standard_contracts i j m k l w = spot M.Std i ∷ sign P.Scope j (spot m k ∷ sign P.Scope l w)

abbrev pub if_word : Option ℕ → Word → Spots → Spots
if_word None k w = w
if_word (Some i) k w = word k i w

abbrev pub if_sign : Option ℕ → Punct → Spots → Spots
if_sign None p w = w
if_sign (Some i) p w = sign p i w

abbrev pub spell_base : Base → Spots → Spots
spell_base (word_base k i) w = word k i w
spell_base (unsigned_int i j) w = word W.Unsigned i (word W.Int j w)
spell_base (long_long i j) w = word W.Long i (word W.Long j w)
spell_base (unsigned_long_long i j k) w = word W.Unsigned i (word W.Long j (word W.Long k w))
spell_base (class_base n i) w = class_name n i w
spell_base (library_base i j m k l n a) w = standard_contracts i j m k l (name n a w)

abbrev pub spell_stars : Stars → Spots → Spots
spell_stars no_stars w = w
spell_stars (star s i c) w = spell_stars s (sign P.Star i (if_word c W.Const w))

abbrev pub spell_type : TypeTree → Spots → Spots
spell_type (type_tree c b s r) w = if_word c W.Const (spell_base b (spell_stars s (if_sign r P.And w)))

abbrev mutual
  pub spell_expr : Expr → Spots → Spots
  spell_expr (leaf i m) w = spot m i ∷ w
  spell_expr (paren i e j) w = sign P.OpenParen i (spell_expr e (sign P.CloseParen j w))
  spell_expr (temporary i n a) w = class_name n i (spell_args a w)
  spell_expr (word_cast i k j e l) w = word k i (sign P.OpenParen j (spell_expr e (sign P.CloseParen l w)))
  spell_expr (static_cast i j t k l e z) w = word W.StaticCast i (sign P.Less j (spell_type t (sign P.Greater k (sign P.OpenParen l (spell_expr e (sign P.CloseParen z w))))))
  spell_expr (standard i j n k) w = spot M.Std i ∷ sign P.Scope j (name n k w)
  spell_expr (library i j m k l t a z n b) w = standard_contracts i j m k l (name t a (sign P.Scope z (name n b w)))
  spell_expr (member i e p j n k) w = spell_expr e (sign p j (name n k w))
  spell_expr (call i e a) w = spell_expr e (spell_args a w)
  spell_expr (stepped i e p j) w = spell_expr e (sign p j w)
  spell_expr (unary i p e) w = sign p i (spell_expr e w)
  spell_expr (binary i l p j r) w = spell_expr l (sign p j (spell_expr r w))
  spell_expr (choose i c j a k b) w = spell_expr c (sign P.Question j (spell_expr a (sign P.Colon k (spell_expr b w))))
  spell_expr (assign i l p j r) w = spell_expr l (sign p j (spell_expr r w))

  pub spell_args : Args → Spots → Spots
  spell_args (no_args i j) w = sign P.OpenParen i (sign P.CloseParen j w)
  spell_args (args i s j) w = sign P.OpenParen i (spell_several s (sign P.CloseParen j w))

  pub spell_several : Several → Spots → Spots
  spell_several (one e) w = spell_expr e w
  spell_several (also s i e) w = spell_several s (sign P.Comma i (spell_expr e w))

abbrev pub if_expr : Option Expr → Spots → Spots
if_expr None w = w
if_expr (Some e) w = spell_expr e w

abbrev pub spell_init : Init → Spots → Spots
spell_init no_init w = w
spell_init (equals i e) w = sign P.Assign i (spell_expr e w)
spell_init (parens i s j) w = sign P.OpenParen i (spell_several s (sign P.CloseParen j w))

abbrev pub spell_local : Local → Spots → Spots
spell_local (local t n i a) w = spell_type t (name n i (spell_init a w))

abbrev pub spell_optional_name : OptionalName → Spots → Spots
spell_optional_name unnamed w = w
spell_optional_name (named n i) w = name n i w

abbrev pub spell_param : Param → Spots → Spots
spell_param (param t n) w = spell_type t (spell_optional_name n w)

abbrev pub spell_catching : Catching → Spots → Spots
spell_catching (any_catch i) w = sign P.Ellipsis i w
spell_catching (typed_catch p) w = spell_param p w

abbrev mutual
  pub spell_block : Block → Spots → Spots
  spell_block (block i b j) w = sign P.OpenBrace i (spell_stmts b (sign P.CloseBrace j w))

  pub spell_stmt : Stmt → Spots → Spots
  spell_stmt (compound b) w = spell_block b w
  spell_stmt (empty i) w = sign P.Semicolon i w
  spell_stmt (evaluate e i) w = spell_expr e (sign P.Semicolon i w)
  spell_stmt (declare l i) w = spell_local l (sign P.Semicolon i w)
  spell_stmt (branch i j c k t) w = word W.If i (sign P.OpenParen j (spell_expr c (sign P.CloseParen k (spell_stmt t w))))
  spell_stmt (branches i j c k t l f) w = word W.If i (sign P.OpenParen j (spell_expr c (sign P.CloseParen k (spell_stmt t (word W.Else l (spell_stmt f w))))))
  spell_stmt (while_loop i j c k t) w = word W.While i (sign P.OpenParen j (spell_expr c (sign P.CloseParen k (spell_stmt t w))))
  spell_stmt (for_loop i j f c k e l t) w = word W.For i (sign P.OpenParen j (spell_stmt f (if_expr c (sign P.Semicolon k (if_expr e (sign P.CloseParen l (spell_stmt t w)))))))
  spell_stmt (returns i e j) w = word W.Return i (if_expr e (sign P.Semicolon j w))
  spell_stmt (breaks i j) w = word W.Break i (sign P.Semicolon j w)
  spell_stmt (continues i j) w = word W.Continue i (sign P.Semicolon j w)
  spell_stmt (throws i e j) w = word W.Throw i (if_expr e (sign P.Semicolon j w))
  spell_stmt (tries i b h) w = word W.Try i (spell_block b (spell_handlers h w))
  spell_stmt (asserts i j e k l) w = word W.ContractAssert i (sign P.OpenParen j (spell_expr e (sign P.CloseParen k (sign P.Semicolon l w))))

  pub spell_stmts : Stmts → Spots → Spots
  spell_stmts no_stmts w = w
  spell_stmts (more_stmts s t) w = spell_stmts s (spell_stmt t w)

  pub spell_handler : Handler → Spots → Spots
  spell_handler (handler i j c k b) w = word W.Catch i (sign P.OpenParen j (spell_catching c (sign P.CloseParen k (spell_block b w))))

  pub spell_handlers : Handlers → Spots → Spots
  spell_handlers (one_handler h) w = spell_handler h w
  spell_handlers (more_handlers s h) w = spell_handlers s (spell_handler h w)

abbrev pub spell_spec : Spec → Spots → Spots
spell_spec (before m i j e k) w = spot m i ∷ sign P.OpenParen j (spell_expr e (sign P.CloseParen k w))
spell_spec (after m i j e k) w = spot m i ∷ sign P.OpenParen j (spell_expr e (sign P.CloseParen k w))
spell_spec (after_named m i j n a l e k) w = spot m i ∷ sign P.OpenParen j (name n a (sign P.Colon l (spell_expr e (sign P.CloseParen k w))))

abbrev pub spell_specs : Specs → Spots → Spots
spell_specs no_specs w = w
spell_specs (more_specs s t) w = spell_specs s (spell_spec t w)

abbrev pub spell_suffix : Suffix → Spots → Spots
spell_suffix (suffix x s) w = if_word x W.Noexcept (spell_specs s w)

abbrev pub spell_row : ParamRow → Spots → Spots
spell_row (one_param p) w = spell_param p w
spell_row (more_params s i p) w = spell_row s (sign P.Comma i (spell_param p w))

abbrev pub spell_params : Params → Spots → Spots
spell_params (no_params i j) w = sign P.OpenParen i (sign P.CloseParen j w)
spell_params (params i s j) w = sign P.OpenParen i (spell_row s (sign P.CloseParen j w))

abbrev pub spell_member_init : MemberInit → Spots → Spots
spell_member_init (member_init n i a) w = name n i (spell_args a w)

abbrev pub spell_init_row : InitRow → Spots → Spots
spell_init_row (one_init a) w = spell_member_init a w
spell_init_row (more_inits s i a) w = spell_init_row s (sign P.Comma i (spell_member_init a w))

abbrev pub spell_inits : Inits → Spots → Spots
spell_inits no_inits w = w
spell_inits (inits i s) w = sign P.Colon i (spell_init_row s w)

abbrev pub spell_tail : Tail → Spots → Spots
spell_tail (declared i) w = sign P.Semicolon i w
spell_tail (defined b) w = spell_block b w

abbrev pub spell_making : Making → Spots → Spots
spell_making (unmade i) w = sign P.Semicolon i w
spell_making (made a b) w = spell_inits a (spell_block b w)

abbrev pub spell_constant : Constant → Spots → Spots
spell_constant (plain i m) w = spot m i ∷ w
spell_constant (negative i j) w = sign P.Minus i (spot M.Number j ∷ w)

abbrev pub spell_global_init : GlobalInit → Spots → Spots
spell_global_init without w = w
spell_global_init (with_value i c) w = sign P.Assign i (spell_constant c w)

abbrev pub spell_member : Member → Spots → Spots
spell_member (access i k j) w = word k i (sign P.Colon j w)
spell_member (field t n i j) w = spell_type t (name n i (sign P.Semicolon j w))
spell_member (method v t n i p c s b) w = if_word v W.Virtual (spell_type t (name n i (spell_params p (if_word c W.Const (spell_suffix s (spell_tail b w))))))
spell_member (constructor x n i p s b) w = if_word x W.Explicit (class_name n i (spell_params p (spell_suffix s (spell_making b w))))
spell_member (destructor v h n i j k s b) w = if_word v W.Virtual (sign P.Tilde h (class_name n i (sign P.OpenParen j (sign P.CloseParen k (spell_suffix s (spell_tail b w))))))

abbrev pub spell_members : Members → Spots → Spots
spell_members no_members w = w
spell_members (more_members s t) w = spell_members s (spell_member t w)

abbrev pub spell_item : Item → Spots → Spots
spell_item (class_named i k n j l) w = word k i (class_name n j (sign P.Semicolon l w))
spell_item (class_defined i k n j l s y z) w = word k i (class_name n j (sign P.OpenBrace l (spell_members s (sign P.CloseBrace y (sign P.Semicolon z w)))))
spell_item (external i t n j k) w = word W.Extern i (spell_type t (name n j (sign P.Semicolon k w)))
spell_item (global t n i v j) w = spell_type t (name n i (spell_global_init v (sign P.Semicolon j w)))
spell_item (function l t n i p s b) w = if_word l W.Inline (spell_type t (name n i (spell_params p (spell_suffix s (spell_tail b w)))))
spell_item (outer_method l t c j k n i p x s b) w = if_word l W.Inline (spell_type t (class_name c j (sign P.Scope k (name n i (spell_params p (if_word x W.Const (spell_suffix s (spell_block b w))))))))
spell_item (outer_constructor l c j k n i p s a b) w = if_word l W.Inline (class_name c j (sign P.Scope k (class_name n i (spell_params p (spell_suffix s (spell_inits a (spell_block b w)))))))
spell_item (outer_destructor l c j k h n i y z s b) w = if_word l W.Inline (class_name c j (sign P.Scope k (sign P.Tilde h (class_name n i (sign P.OpenParen y (sign P.CloseParen z (spell_suffix s (spell_block b w))))))))

abbrev pub spell_items : UnitTree → Spots → Spots
spell_items no_items w = w
spell_items (more_items s t) w = spell_items s (spell_item t w)

-- the tokens of a unit
abbrev pub spell : UnitTree → Spots
spell u = spell_items u []
