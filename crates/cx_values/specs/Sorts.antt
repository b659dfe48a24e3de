-- The sorts of values on top of the second stack.
use Rattle.std.specs.Prelude.{List, [], ◌∷◌, Some, None}
use Rattle.cx_syntax.specs.declared.mark.Mark.TheVariants as M
use Rattle.cx_values.specs.Values.{Value, Values, args_val, base_val, block_val, catching_val, constant_val, expr_val, flag_val, global_init_val, handler_val, handlers_val, init_row_val, init_val, inits_val, item_val, list_val, local_val, making_val, mark_val, maybe_val, member_init_val, member_val, members_val, name_val, param_val, params_val, pointers_val, row_val, spec_val, specs_val, stmt_val, stmts_val, suffix_val, tail_val, type_val, unit_val}

pub data Sort : Type 0 where
  -- a mark: any, or one of a sort
  a_mark a_name a_class a_word a_punct : Sort
  -- a flag that isn't set
  no_flag : Sort
  an_expression arguments a_list a_base a_flag pointers a_type an_init a_local a_maybe a_block a_statement statements a_handler handlers a_catching an_optional_name a_param a_row params a_spec specs a_suffix a_tail a_making a_member_init an_init_row inits a_constant a_global_init a_member members an_item a_unit : Sort

abbrev pub Is : Sort → Value → Type 0
Is a_mark (mark_val m i) = Unit {0}
Is a_name (mark_val (M.Name n) i) = Unit {0}
Is a_class (mark_val (M.Class n) i) = Unit {0}
Is a_word (mark_val (M.Word k) i) = Unit {0}
Is a_punct (mark_val (M.Punct p) i) = Unit {0}
Is no_flag (flag_val None) = Unit {0}
Is an_expression (expr_val x) = Unit {0}
Is arguments (args_val x) = Unit {0}
Is a_list (list_val x) = Unit {0}
Is a_base (base_val x) = Unit {0}
Is a_flag (flag_val x) = Unit {0}
Is pointers (pointers_val c b s) = Unit {0}
Is a_type (type_val x) = Unit {0}
Is an_init (init_val x) = Unit {0}
Is a_local (local_val x) = Unit {0}
Is a_maybe (maybe_val x) = Unit {0}
Is a_block (block_val x) = Unit {0}
Is a_statement (stmt_val x) = Unit {0}
Is statements (stmts_val x) = Unit {0}
Is a_handler (handler_val x) = Unit {0}
Is handlers (handlers_val x) = Unit {0}
Is a_catching (catching_val x) = Unit {0}
Is an_optional_name (name_val x) = Unit {0}
Is a_param (param_val x) = Unit {0}
Is a_row (row_val x) = Unit {0}
Is params (params_val x) = Unit {0}
Is a_spec (spec_val x) = Unit {0}
Is specs (specs_val x) = Unit {0}
Is a_suffix (suffix_val x) = Unit {0}
Is a_tail (tail_val x) = Unit {0}
Is a_making (making_val x) = Unit {0}
Is a_member_init (member_init_val x) = Unit {0}
Is an_init_row (init_row_val x) = Unit {0}
Is inits (inits_val x) = Unit {0}
Is a_constant (constant_val x) = Unit {0}
Is a_global_init (global_init_val x) = Unit {0}
Is a_member (member_val x) = Unit {0}
Is members (members_val x) = Unit {0}
Is an_item (item_val x) = Unit {0}
Is a_unit (unit_val x) = Unit {0}
Is _ _ = ⊥

-- the value on top is of the sort
unfoldable pub Top : Sort → Values → Type 0
Top s [] = ⊥
Top s (x ∷ vs) = Is s x

-- the stack without the value on top
abbrev pub under : Values → Values
under [] = []
under (x ∷ vs) = vs

-- those on top are of the sorts, the topmost first
abbrev pub Tops : List Sort → Values → Type 0
Tops [] vs = Unit {0}
Tops (s ∷ b) vs = Top s vs × Tops b (under vs)
