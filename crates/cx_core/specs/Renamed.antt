-- Trees in which functions, their types, classes and globals have other numbers, and other things stand for the assertions; this project's own form of what linking does to a unit.
use Rattle.std.specs.Prelude.{ℕ, map, Option, Some, None}
use Rattle.cx_core.specs.Tree.{ObjectType, pointer, function_pointer, class, Expr, global, function_name, unary, binary, logical_and, logical_or, conditional, cast, assign, compound_assign, prefix_step, postfix_step, indirection, member, call, call_through, temporary, temporary_through, putchar, puts_comment, query, Operand, operand, Init, value, construct, zero_first, result_of, result_through, Args, no_more, by_reference, by_value, Specifier, CatchParameter, object, Condition, always, while, Stmt, empty, expression, variable_declaration, reference_declaration, block, if_else, while_loop, for_loop, break, continue, return, return_value, return_reference, return_object, contract_assert, throw, rethrow, try, Stmts, done, next, Handlers, none, catch_all, catch}
use Rattle.cx_core.specs.Program.{FieldInit, Body, function, constructor, destructor, implicit_constructor, implicit_copy_constructor, implicit_destructor, ResultKind, class_object, Field, Class}

-- the number of each function, type of functions, class and global
pub record Names : Type 0 where
  pub function_number : ℕ → ℕ
  pub function_type_number : ℕ → ℕ
  pub class_number : ℕ → ℕ
  pub global_number : ℕ → ℕ

module _ (names : Names) where
  abbrev pub renamed_type : ObjectType → ObjectType
  renamed_type (class c) = class (names.class_number c)
  renamed_type (pointer to) = pointer (renamed_type to)
  renamed_type (function_pointer type) = function_pointer (names.function_type_number type)
  renamed_type other = other

  abbrev pub renamed_type_or_none : Option ObjectType → Option ObjectType
  renamed_type_or_none None = None
  renamed_type_or_none (Some type) = Some (renamed_type type)

  unfoldable mutual
    pub renamed_expr : Expr → Expr
    renamed_expr (global i) = global (names.global_number i)
    renamed_expr (function_name f) = function_name (names.function_number f)
    renamed_expr (call f a) = call (names.function_number f) (renamed_args a)
    renamed_expr (temporary type i) = temporary (renamed_type type) (renamed_init i)
    renamed_expr (temporary_through c p a) = temporary_through (names.class_number c) (renamed_operand p) (renamed_args a)
    -- every other clause copies
    renamed_expr (unary operator type a) = unary operator type (renamed_operand a)
    renamed_expr (binary operator type a b) = binary operator type (renamed_operand a) (renamed_operand b)
    renamed_expr (logical_and a b) = logical_and (renamed_operand a) (renamed_operand b)
    renamed_expr (logical_or a b) = logical_or (renamed_operand a) (renamed_operand b)
    renamed_expr (conditional a b c) = conditional (renamed_operand a) (renamed_operand b) (renamed_operand c)
    renamed_expr (cast a) = cast (renamed_operand a)
    renamed_expr (assign a b) = assign (renamed_expr a) (renamed_operand b)
    renamed_expr (compound_assign operator computed kept a b) = compound_assign operator computed kept (renamed_expr a) (renamed_operand b)
    renamed_expr (prefix_step operator type a) = prefix_step operator type (renamed_expr a)
    renamed_expr (postfix_step operator type a) = postfix_step operator type (renamed_expr a)
    renamed_expr (indirection a) = indirection (renamed_operand a)
    renamed_expr (member leaf a) = member leaf (renamed_expr a)
    renamed_expr (call_through kind p a) = call_through kind (renamed_operand p) (renamed_args a)
    renamed_expr (putchar a) = putchar (renamed_operand a)
    renamed_expr (puts_comment a) = puts_comment (renamed_expr a)
    renamed_expr (query q a) = query q (renamed_expr a)
    renamed_expr other = other

    pub renamed_operand : Operand → Operand
    renamed_operand (operand read to e) = operand (renamed_type_or_none read) to (renamed_expr e)

    pub renamed_init : Init → Init
    renamed_init (construct f a) = construct (names.function_number f) (renamed_args a)
    renamed_init (zero_first c i) = zero_first (names.class_number c) (renamed_init i)
    renamed_init (result_of f a) = result_of (names.function_number f) (renamed_args a)
    renamed_init (value a) = value (renamed_operand a)
    renamed_init (result_through p a) = result_through (renamed_operand p) (renamed_args a)

    pub renamed_args : Args → Args
    renamed_args no_more = no_more
    renamed_args (by_reference a rest) = by_reference (renamed_expr a) (renamed_args rest)
    renamed_args (by_value type i rest) = by_value (renamed_type type) (renamed_init i) (renamed_args rest)

  abbrev pub renamed_parameter : CatchParameter → CatchParameter
  renamed_parameter (object slot is_named i) = object slot is_named (renamed_init i)
  renamed_parameter other = other

  abbrev pub renamed_condition : Condition → Condition
  renamed_condition always = always
  renamed_condition (while a) = while (renamed_operand a)

  abbrev pub renamed_result : ResultKind → ResultKind
  renamed_result (class_object c) = class_object (names.class_number c)
  renamed_result other = other

  abbrev pub renamed_field_init : FieldInit → FieldInit
  renamed_field_init f = record { leaf = f.leaf; type = renamed_type f.type; init = renamed_init f.init }

  abbrev pub renamed_field : Field → Field
  renamed_field f = record { leaf = f.leaf; type = renamed_type f.type }

  abbrev pub renamed_function_or_none : Option ℕ → Option ℕ
  renamed_function_or_none None = None
  renamed_function_or_none (Some f) = Some (names.function_number f)

  abbrev pub renamed_class : Class → Class
  renamed_class c = record {
    name = c.name;
    fields = map renamed_field c.fields;
    leaves = c.leaves;
    objects = c.objects;
    default_constructor = renamed_function_or_none c.default_constructor;
    copy_constructor = names.function_number c.copy_constructor;
    destructor = names.function_number c.destructor;
  }

-- what stands for each assertion
module _ {A B : Type 0} (names : Names) (assertion : A → B) where
  unfoldable mutual
    pub renamed_stmt : Stmt A → Stmt B
    renamed_stmt (variable_declaration slot type i) = variable_declaration slot (renamed_type names type) (renamed_init names i)
    renamed_stmt (contract_assert a predicate) = contract_assert (assertion a) (renamed_operand names predicate)
    renamed_stmt (throw type i) = throw (renamed_type names type) (renamed_init names i)
    -- every other clause copies
    renamed_stmt empty = empty
    renamed_stmt (expression a) = expression (renamed_operand names a)
    renamed_stmt (reference_declaration slot e) = reference_declaration slot (renamed_expr names e)
    renamed_stmt (block b) = block (renamed_stmts b)
    renamed_stmt (if_else c a b) = if_else (renamed_operand names c) (renamed_stmt a) (renamed_stmt b)
    renamed_stmt (while_loop c body) = while_loop (renamed_operand names c) (renamed_stmt body)
    renamed_stmt (for_loop first c step body) = for_loop (renamed_stmt first) (renamed_condition names c) (renamed_stmt step) (renamed_stmt body)
    renamed_stmt break = break
    renamed_stmt continue = continue
    renamed_stmt return = return
    renamed_stmt (return_value a) = return_value (renamed_operand names a)
    renamed_stmt (return_reference e) = return_reference (renamed_expr names e)
    renamed_stmt (return_object i) = return_object (renamed_init names i)
    renamed_stmt rethrow = rethrow
    renamed_stmt (try b h) = try (renamed_stmts b) (renamed_handlers h)

    pub renamed_stmts : Stmts A → Stmts B
    renamed_stmts done = done
    renamed_stmts (next s rest) = next (renamed_stmt s) (renamed_stmts rest)

    pub renamed_handlers : Handlers A → Handlers B
    renamed_handlers none = none
    renamed_handlers (catch_all b rest) = catch_all (renamed_stmts b) (renamed_handlers rest)
    renamed_handlers (catch type parameter b rest) =
        catch (renamed_type names type) (renamed_parameter names parameter) (renamed_stmts b) (renamed_handlers rest)

  abbrev pub renamed_specifier : Specifier A → Specifier B
  renamed_specifier s = record { of = assertion s.of; predicate = renamed_operand names s.predicate }

  abbrev pub renamed_body : Body A → Body B
  renamed_body (function b) = function (renamed_stmts b)
  renamed_body (constructor fields b) = constructor (map (renamed_field_init names) fields) (renamed_stmts b)
  renamed_body (destructor c b) = destructor (names.class_number c) (renamed_stmts b)
  renamed_body (implicit_constructor c) = implicit_constructor (names.class_number c)
  renamed_body (implicit_copy_constructor c) = implicit_copy_constructor (names.class_number c)
  renamed_body (implicit_destructor c) = implicit_destructor (names.class_number c)
