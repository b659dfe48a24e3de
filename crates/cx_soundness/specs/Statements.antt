-- Which statements are typed, in a function with a result: [stmt], [except.handle] and [stmt.contract.assert] of the C++ draft; that a variable's slot is the number of variables that are visible before it is this project's own.
use Rattle.std.specs.Prelude.{Bool, true, false, ◌&&◌, nat_eq, pos, List, [], ◌∷◌, ◌++◌, Option, Some, None, length}
use Rattle.cx_core.specs.declared.number.IntegerType.TheVariants as types
use Rattle.cx_types.specs.declared.value_type.Scalar.TheVariants as scalars
use Rattle.cx_core.specs.Number.{in_range}
use Rattle.cx_core.specs.Tree as tree
use Rattle.cx_core.specs.Tree.{ObjectType, scalar, pointer, function_pointer, class, Expr, Operand, Init, Assertion, Check, Specifier, CatchParameter, unnamed, reference, object, Condition, always, while, Stmt, empty, expression, variable_declaration, reference_declaration, block, if_else, while_loop, for_loop, contract_assert, try, return_value, return_reference, return_object, rethrow, Stmts, done, next, Handlers, none, catch_all}
use Rattle.cx_soundness.specs.Types.{Result, no_result, scalar_result, class_result, reference_result, status, Declared, Given, refers, null_reference, Context}
use Rattle.cx_soundness.specs.Given.{where_given, leaf_types, is_whole, accepts, denotes, is_truth}
use Rattle.cx_soundness.specs.Expressions.{expr_given, used_given, is_typed}

abbrev pub with_slot : Context → Given → Context
with_slot context v = record context { slots = context.slots ++ v ∷ [] }

abbrev pub is_given : Option Given → Bool
is_given None = false
is_given (Some v) = true

-- what a reference may denote
abbrev pub is_place : Given → Bool
is_place (refers leaves) = true
is_place null_reference = true
is_place other = false

abbrev pub with_place : Context → Option Given → Context
with_place context None = context
with_place context (Some v) = with_slot context v

-- the type of an exception that a handler may catch by its type: no pointer
abbrev pub is_caught : ObjectType → Bool
is_caught (scalar s) = true
is_caught (class c) = true
is_caught (pointer to) = false
is_caught (function_pointer type) = false

-- what a violation tells of an assertion's place is a number of `unsigned`
abbrev pub is_placed : Assertion → Bool
is_placed a = in_range types.Unsigned (pos a.line) && in_range types.Unsigned (pos a.column)

abbrev pub is_placed_check : Check → Bool
is_placed_check c = is_placed c.assertion

module _ (declared : Declared) where
  abbrev pub object_slot : Context → ObjectType → Context
  object_slot context type = with_slot context (refers (leaf_types declared type))

  abbrev pub is_condition : Context → Operand → Bool
  is_condition context a = where_given (used_given declared context a) (is_truth)

  abbrev pub is_condition_or_absent : Context → Condition → Bool
  is_condition_or_absent context always = true
  is_condition_or_absent context (while a) = is_condition context a

  -- ---- results

  abbrev pub returns_value : Result → Given → Bool
  returns_value (scalar_result type) v = accepts declared type v
  returns_value status v = accepts declared (scalar scalars.Int) v
  returns_value other v = false

  abbrev pub returns_reference : Result → Given → Bool
  returns_reference (reference_result to) v = denotes (refers (leaf_types declared to)) v
  returns_reference other v = false

  abbrev pub returns_object : Context → Result → Init → Bool
  returns_object context (class_result c) i = is_typed declared context (class c) i
  returns_object context other i = false

  abbrev pub returns_none : Result → Bool
  returns_none no_result = true
  returns_none other = false

  -- ---- what is visible behind a statement

  abbrev pub behind : {A : Type 0} → Context → Stmt A → Context
  behind context (variable_declaration slot type i) = object_slot context type
  behind context (reference_declaration slot e) = with_place context (expr_given declared (with_slot context null_reference) e)
  behind context other = context

  -- ---- the parameter of a handler

  abbrev pub is_typed_parameter : Context → ObjectType → CatchParameter → Bool
  is_typed_parameter context type unnamed = true
  is_typed_parameter context type (reference slot) = nat_eq slot (length context.slots)
  is_typed_parameter context type (object slot is_named i) =
      nat_eq slot (length context.slots) && is_whole declared type && is_typed declared (record (object_slot context type) { caught = Some type }) type i

  abbrev pub behind_parameter : Context → ObjectType → CatchParameter → Context
  behind_parameter context type unnamed = context
  behind_parameter context type (reference slot) = object_slot context type
  behind_parameter context type (object slot is_named i) = object_slot context type

  -- ---- trees; a variable and a reference are visible in their own initialisers, where the reference refers to nothing yet [basic.scope.pdecl]

  module _ {A : Type 0} (placed : A → Bool) where
    -- an assertion whose place is told right, and its predicate
    abbrev pub is_typed_check_by : Context → Specifier A → Bool
    is_typed_check_by context s = placed s.of && is_condition context s.predicate

    abbrev pub are_typed_checks_by : Context → List (Specifier A) → Bool
    are_typed_checks_by context [] = true
    are_typed_checks_by context (s ∷ checks) = is_typed_check_by context s && are_typed_checks_by context checks

    module _ (result : Result) where
      unfoldable mutual
        pub is_typed_stmt_by : Context → Stmt A → Bool
        is_typed_stmt_by context empty = true
        is_typed_stmt_by context (expression a) = is_given (used_given declared context a)
        is_typed_stmt_by context (variable_declaration slot type i) = nat_eq slot (length context.slots) && is_whole declared type && is_typed declared (object_slot context type) type i
        is_typed_stmt_by context (reference_declaration slot e) = nat_eq slot (length context.slots) && where_given (expr_given declared (with_slot context null_reference) e) is_place
        is_typed_stmt_by context (block b) = are_typed_stmts_by context b
        is_typed_stmt_by context (if_else c a b) = is_condition context c && is_typed_stmt_by context a && is_typed_stmt_by context b
        is_typed_stmt_by context (while_loop c body) = is_condition context c && is_typed_stmt_by context body
        is_typed_stmt_by context (for_loop first c step body) =
            is_typed_stmt_by context first && is_condition_or_absent (behind context first) c && is_typed_stmt_by (behind context first) step && is_typed_stmt_by (behind context first) body
        is_typed_stmt_by context tree.break = true
        is_typed_stmt_by context tree.continue = true
        is_typed_stmt_by context tree.return = returns_none result
        is_typed_stmt_by context (return_value a) = where_given (used_given declared context a) (returns_value result)
        is_typed_stmt_by context (return_reference e) = where_given (expr_given declared context e) (returns_reference result)
        is_typed_stmt_by context (return_object i) = returns_object context result i
        is_typed_stmt_by context (contract_assert c predicate) = is_typed_check_by context (record { of = c; predicate = predicate })
        is_typed_stmt_by context (tree.throw type i) = is_whole declared type && is_typed declared context type i
        is_typed_stmt_by context rethrow = true
        is_typed_stmt_by context (try b h) = are_typed_stmts_by context b && are_typed_handlers_by context h

        pub are_typed_stmts_by : Context → Stmts A → Bool
        are_typed_stmts_by context done = true
        are_typed_stmts_by context (next s rest) = is_typed_stmt_by context s && are_typed_stmts_by (behind context s) rest

        pub are_typed_handlers_by : Context → Handlers A → Bool
        are_typed_handlers_by context none = true
        are_typed_handlers_by context (catch_all b rest) = are_typed_stmts_by context b && are_typed_handlers_by context rest
        are_typed_handlers_by context (tree.catch type parameter b rest) =
            is_caught type && is_typed_parameter context type parameter && are_typed_stmts_by (behind_parameter context type parameter) b && are_typed_handlers_by context rest

  -- ---- in a program a check stands for each assertion

  abbrev pub is_typed_check : Context → Specifier Check → Bool
  is_typed_check = is_typed_check_by is_placed_check

  abbrev pub are_typed_checks : Context → List (Specifier Check) → Bool
  are_typed_checks = are_typed_checks_by is_placed_check

  abbrev pub is_typed_stmt : Result → Context → Stmt Check → Bool
  is_typed_stmt = is_typed_stmt_by is_placed_check

  abbrev pub are_typed_stmts : Result → Context → Stmts Check → Bool
  are_typed_stmts = are_typed_stmts_by is_placed_check

  abbrev pub are_typed_handlers : Result → Context → Handlers Check → Bool
  are_typed_handlers = are_typed_handlers_by is_placed_check
