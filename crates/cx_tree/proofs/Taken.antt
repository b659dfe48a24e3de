-- What an act takes off the second stack: where it makes something of the values, those of its sorts are on top.
use Rattle.std.proofs.Common.{◌≡◌, ℕ, List, [], ◌∷◌, Option, Some, None}
use Rattle.cx_syntax.specs.declared.mark.Punct.{Punct}
use Rattle.cx_syntax.specs.declared.mark.Word.{Word}
use Rattle.cx_syntax.specs.declared.mark.Mark.{Mark}
use Rattle.cx_syntax.specs.declared.mark.Mark.TheVariants as M
use Rattle.cx_syntax.specs.Tree.{Args, Base, Block, Catching, Constant, Expr, GlobalInit, Handler, Handlers, Init, InitRow, Inits, Item, Local, Making, Member, MemberInit, Members, OptionalName, Param, ParamRow, Params, Several, Spec, Specs, Stars, Stmt, Stmts, Suffix, Tail, TypeTree, UnitTree}
use Rattle.cx_values.specs.Sorts.{Sort, Top, Tops, under, a_base, a_block, a_catching, a_class, a_constant, a_flag, a_global_init, a_handler, a_list, a_local, a_making, a_mark, a_maybe, a_member, a_member_init, a_name, a_param, a_punct, a_row, a_spec, a_statement, a_suffix, a_tail, a_type, a_unit, a_word, an_expression, an_init, an_init_row, an_item, an_optional_name, arguments, handlers, inits, members, no_flag, params, pointers, specs, statements}
use Rattle.cx_values.specs.Values.{Values, args_val, base_val, block_val, catching_val, constant_val, expr_val, flag_val, global_init_val, handler_val, handlers_val, init_row_val, init_val, inits_val, item_val, list_val, local_val, making_val, mark_val, maybe_val, member_init_val, member_val, members_val, name_val, param_val, params_val, pointers_val, row_val, spec_val, specs_val, stmt_val, stmts_val, suffix_val, tail_val, type_val, unit_val}

-- a function of the parts of a value of the sort
abbrev pub Parts : Sort → Type 0 → Type 0
Parts a_mark R = Mark → ℕ → R
Parts a_name R = ℕ → ℕ → R
Parts a_class R = ℕ → ℕ → R
Parts a_word R = Word → ℕ → R
Parts a_punct R = Punct → ℕ → R
Parts no_flag R = R
Parts an_expression R = Expr → R
Parts arguments R = Args → R
Parts a_list R = Several → R
Parts a_base R = Base → R
Parts a_flag R = Option ℕ → R
Parts pointers R = Option ℕ → Base → Stars → R
Parts a_type R = TypeTree → R
Parts an_init R = Init → R
Parts a_local R = Local → R
Parts a_maybe R = Option Expr → R
Parts a_block R = Block → R
Parts a_statement R = Stmt → R
Parts statements R = Stmts → R
Parts a_handler R = Handler → R
Parts handlers R = Handlers → R
Parts a_catching R = Catching → R
Parts an_optional_name R = OptionalName → R
Parts a_param R = Param → R
Parts a_row R = ParamRow → R
Parts params R = Params → R
Parts a_spec R = Spec → R
Parts specs R = Specs → R
Parts a_suffix R = Suffix → R
Parts a_tail R = Tail → R
Parts a_making R = Making → R
Parts a_member_init R = MemberInit → R
Parts an_init_row R = InitRow → R
Parts inits R = Inits → R
Parts a_constant R = Constant → R
Parts a_global_init R = GlobalInit → R
Parts a_member R = Member → R
Parts members R = Members → R
Parts an_item R = Item → R
Parts a_unit R = UnitTree → R

-- what is made of the parts of the value on top and of the values under it, if that one is of the sort
abbrev pub of_top : (s : Sort) (R : Type 0) → (R → Values → Option Values) → Parts s R → Values → Option Values
of_top a_mark R go f (mark_val m i ∷ vs) = go (f m i) vs
of_top a_name R go f (mark_val (M.Name n) i ∷ vs) = go (f n i) vs
of_top a_class R go f (mark_val (M.Class n) i ∷ vs) = go (f n i) vs
of_top a_word R go f (mark_val (M.Word k) i ∷ vs) = go (f k i) vs
of_top a_punct R go f (mark_val (M.Punct p) i ∷ vs) = go (f p i) vs
of_top no_flag R go f (flag_val None ∷ vs) = go f vs
of_top an_expression R go f (expr_val x ∷ vs) = go (f x) vs
of_top arguments R go f (args_val x ∷ vs) = go (f x) vs
of_top a_list R go f (list_val x ∷ vs) = go (f x) vs
of_top a_base R go f (base_val x ∷ vs) = go (f x) vs
of_top a_flag R go f (flag_val x ∷ vs) = go (f x) vs
of_top pointers R go f (pointers_val c b p ∷ vs) = go (f c b p) vs
of_top a_type R go f (type_val x ∷ vs) = go (f x) vs
of_top an_init R go f (init_val x ∷ vs) = go (f x) vs
of_top a_local R go f (local_val x ∷ vs) = go (f x) vs
of_top a_maybe R go f (maybe_val x ∷ vs) = go (f x) vs
of_top a_block R go f (block_val x ∷ vs) = go (f x) vs
of_top a_statement R go f (stmt_val x ∷ vs) = go (f x) vs
of_top statements R go f (stmts_val x ∷ vs) = go (f x) vs
of_top a_handler R go f (handler_val x ∷ vs) = go (f x) vs
of_top handlers R go f (handlers_val x ∷ vs) = go (f x) vs
of_top a_catching R go f (catching_val x ∷ vs) = go (f x) vs
of_top an_optional_name R go f (name_val x ∷ vs) = go (f x) vs
of_top a_param R go f (param_val x ∷ vs) = go (f x) vs
of_top a_row R go f (row_val x ∷ vs) = go (f x) vs
of_top params R go f (params_val x ∷ vs) = go (f x) vs
of_top a_spec R go f (spec_val x ∷ vs) = go (f x) vs
of_top specs R go f (specs_val x ∷ vs) = go (f x) vs
of_top a_suffix R go f (suffix_val x ∷ vs) = go (f x) vs
of_top a_tail R go f (tail_val x ∷ vs) = go (f x) vs
of_top a_making R go f (making_val x ∷ vs) = go (f x) vs
of_top a_member_init R go f (member_init_val x ∷ vs) = go (f x) vs
of_top an_init_row R go f (init_row_val x ∷ vs) = go (f x) vs
of_top inits R go f (inits_val x ∷ vs) = go (f x) vs
of_top a_constant R go f (constant_val x ∷ vs) = go (f x) vs
of_top a_global_init R go f (global_init_val x ∷ vs) = go (f x) vs
of_top a_member R go f (member_val x ∷ vs) = go (f x) vs
of_top members R go f (members_val x ∷ vs) = go (f x) vs
of_top an_item R go f (item_val x ∷ vs) = go (f x) vs
of_top a_unit R go f (unit_val x ∷ vs) = go (f x) vs
of_top _ R go f _ = None

-- a function of the parts of values of the sorts, and of those under them
abbrev pub Made : List Sort → Type 0
Made [] = Values → Option Values
Made (s ∷ b) = Parts s (Made b)

-- what it makes of the values on top, if they are of the sorts
abbrev pub taken : (b : List Sort) → Made b → Values → Option Values
taken [] f vs = f vs
taken (s ∷ b) f vs = of_top s (Made b) (taken b) f vs

top_is : (s : Sort) (R : Type 0) (go : R → Values → Option Values) (f : Parts s R) (vs ws : Values) → of_top s R go f vs ≡ Some ws → Top s vs × (r : R) × (go r (under vs) ≡ Some ws)
unfolding Top
top_is a_mark R go f (mark_val m i ∷ vs) ws h = (tt {0}, f m i, h)
top_is a_name R go f (mark_val (M.Name n) i ∷ vs) ws h = (tt {0}, f n i, h)
top_is a_class R go f (mark_val (M.Class n) i ∷ vs) ws h = (tt {0}, f n i, h)
top_is a_word R go f (mark_val (M.Word k) i ∷ vs) ws h = (tt {0}, f k i, h)
top_is a_punct R go f (mark_val (M.Punct p) i ∷ vs) ws h = (tt {0}, f p i, h)
top_is no_flag R go f (flag_val None ∷ vs) ws h = (tt {0}, f, h)
top_is an_expression R go f (expr_val x ∷ vs) ws h = (tt {0}, f x, h)
top_is arguments R go f (args_val x ∷ vs) ws h = (tt {0}, f x, h)
top_is a_list R go f (list_val x ∷ vs) ws h = (tt {0}, f x, h)
top_is a_base R go f (base_val x ∷ vs) ws h = (tt {0}, f x, h)
top_is a_flag R go f (flag_val x ∷ vs) ws h = (tt {0}, f x, h)
top_is pointers R go f (pointers_val c b p ∷ vs) ws h = (tt {0}, f c b p, h)
top_is a_type R go f (type_val x ∷ vs) ws h = (tt {0}, f x, h)
top_is an_init R go f (init_val x ∷ vs) ws h = (tt {0}, f x, h)
top_is a_local R go f (local_val x ∷ vs) ws h = (tt {0}, f x, h)
top_is a_maybe R go f (maybe_val x ∷ vs) ws h = (tt {0}, f x, h)
top_is a_block R go f (block_val x ∷ vs) ws h = (tt {0}, f x, h)
top_is a_statement R go f (stmt_val x ∷ vs) ws h = (tt {0}, f x, h)
top_is statements R go f (stmts_val x ∷ vs) ws h = (tt {0}, f x, h)
top_is a_handler R go f (handler_val x ∷ vs) ws h = (tt {0}, f x, h)
top_is handlers R go f (handlers_val x ∷ vs) ws h = (tt {0}, f x, h)
top_is a_catching R go f (catching_val x ∷ vs) ws h = (tt {0}, f x, h)
top_is an_optional_name R go f (name_val x ∷ vs) ws h = (tt {0}, f x, h)
top_is a_param R go f (param_val x ∷ vs) ws h = (tt {0}, f x, h)
top_is a_row R go f (row_val x ∷ vs) ws h = (tt {0}, f x, h)
top_is params R go f (params_val x ∷ vs) ws h = (tt {0}, f x, h)
top_is a_spec R go f (spec_val x ∷ vs) ws h = (tt {0}, f x, h)
top_is specs R go f (specs_val x ∷ vs) ws h = (tt {0}, f x, h)
top_is a_suffix R go f (suffix_val x ∷ vs) ws h = (tt {0}, f x, h)
top_is a_tail R go f (tail_val x ∷ vs) ws h = (tt {0}, f x, h)
top_is a_making R go f (making_val x ∷ vs) ws h = (tt {0}, f x, h)
top_is a_member_init R go f (member_init_val x ∷ vs) ws h = (tt {0}, f x, h)
top_is an_init_row R go f (init_row_val x ∷ vs) ws h = (tt {0}, f x, h)
top_is inits R go f (inits_val x ∷ vs) ws h = (tt {0}, f x, h)
top_is a_constant R go f (constant_val x ∷ vs) ws h = (tt {0}, f x, h)
top_is a_global_init R go f (global_init_val x ∷ vs) ws h = (tt {0}, f x, h)
top_is a_member R go f (member_val x ∷ vs) ws h = (tt {0}, f x, h)
top_is members R go f (members_val x ∷ vs) ws h = (tt {0}, f x, h)
top_is an_item R go f (item_val x ∷ vs) ws h = (tt {0}, f x, h)
top_is a_unit R go f (unit_val x ∷ vs) ws h = (tt {0}, f x, h)
top_is _ R go f _ ws h = absurd (cc)

pub taken_tops : (b : List Sort) (f : Made b) (vs ws : Values) → taken b f vs ≡ Some ws → Tops b vs
taken_tops [] f vs ws h = tt {0}
taken_tops (s ∷ b) f vs ws h = let t = top_is s (Made b) (taken b) f vs ws h in (t.0, taken_tops b t.1 (under vs) ws t.2)
