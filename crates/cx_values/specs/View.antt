-- The plain values that the values of the program stand for.
use Rattle.std.specs.Prelude.{List, map, reverse, option_map}
use Rattle.cx_syntax.specs.View.{args_of, base_of, block_of, catching_of, constant_of, expr_of, global_init_of, handler_of, handlers_of, init_of, init_row_of, inits_of, item_of, local_of, making_of, member_init_of, member_of, members_of, optional_name_of, param_of, params_of, row_of, several_of, spec_of, specs_of, stars_of, stmt_of, stmts_of, suffix_of, tail_of, type_of, unit_of}
use Rattle.cx_values.specs.declared.value.Value.{Value}
use Rattle.cx_values.specs.declared.value.Value.TheVariants as V
use Rattle.cx_values.specs.Values as plain
use Rattle.cx_values.specs.Values.{Values, args_val, base_val, block_val, catching_val, constant_val, expr_val, flag_val, global_init_val, handler_val, handlers_val, init_row_val, init_val, inits_val, item_val, list_val, local_val, making_val, mark_val, maybe_val, member_init_val, member_val, members_val, name_val, param_val, params_val, pointers_val, row_val, spec_val, specs_val, stmt_val, stmts_val, suffix_val, tail_val, type_val, unit_val}

abbrev pub value_of : Value → plain.Value
value_of (V.Mark m) = mark_val m.mark m.at
value_of (V.Expression x) = expr_val (expr_of x)
value_of (V.Arguments x) = args_val (args_of x)
value_of (V.List x) = list_val (several_of x)
value_of (V.Base x) = base_val (base_of x)
value_of (V.Flag x) = flag_val x
value_of (V.Pointers x) = pointers_val x.constant (base_of x.base) (stars_of x.stars.items)
value_of (V.Type x) = type_val (type_of x)
value_of (V.Init x) = init_val (init_of x)
value_of (V.Local x) = local_val (local_of x)
value_of (V.Maybe x) = maybe_val (option_map expr_of x)
value_of (V.Block x) = block_val (block_of x)
value_of (V.Statement x) = stmt_val (stmt_of x)
value_of (V.Statements x) = stmts_val (stmts_of x.items)
value_of (V.Handler x) = handler_val (handler_of x)
value_of (V.Handlers x) = handlers_val (handlers_of x)
value_of (V.Catching x) = catching_val (catching_of x)
value_of (V.Name x) = name_val (optional_name_of x)
value_of (V.Param x) = param_val (param_of x)
value_of (V.ParamRow x) = row_val (row_of x)
value_of (V.Params x) = params_val (params_of x)
value_of (V.Spec x) = spec_val (spec_of x)
value_of (V.Specs x) = specs_val (specs_of x.items)
value_of (V.Suffix x) = suffix_val (suffix_of x)
value_of (V.Tail x) = tail_val (tail_of x)
value_of (V.Making x) = making_val (making_of x)
value_of (V.MemberInit x) = member_init_val (member_init_of x)
value_of (V.InitRow x) = init_row_val (init_row_of x)
value_of (V.Inits x) = inits_val (inits_of x)
value_of (V.Constant x) = constant_val (constant_of x)
value_of (V.GlobalInit x) = global_init_val (global_init_of x)
value_of (V.Member x) = member_val (member_of x)
value_of (V.Members x) = members_val (members_of x.items)
value_of (V.Item x) = item_val (item_of x)
value_of (V.Unit x) = unit_val (unit_of x)

-- the stack of the program, from its top
unfoldable pub values_of : List Value → Values
values_of list = reverse (map value_of list)
