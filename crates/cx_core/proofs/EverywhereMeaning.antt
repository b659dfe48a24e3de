-- What holds of the primitives holds of each tree, of each call at each depth, and so of the run of a program.
use Rattle.std.proofs.Common.{ℕ, zero, suc, ◌+◌, Bool, true, false, List, [], ◌∷◌, length, map, Option, Some, None}
use Rattle.cx_core.specs.Words.{Party, Definer, Caller, Violation}
use Rattle.cx_core.specs.Tree.{ObjectType, scalar, pointer, function_pointer, class, Expr, literal, variable, global, this, function_name, result_name, exception_object, unary, binary, logical_and, logical_or, conditional, cast, assign, compound_assign, prefix_step, postfix_step, indirection, member, call, call_through, temporary, temporary_through, putchar, getchar, puts, puts_comment, query, Operand, operand, Init, value, construct, zero_first, result_of, result_through, Args, no_more, by_reference, by_value, Check, Specifier, CatchParameter, unnamed, Condition, always, while, Stmt, empty, expression, variable_declaration, reference_declaration, block, if_else, while_loop, for_loop, contract_assert, try, return_value, return_reference, return_object, rethrow, Stmts, done, next, Handlers, none, catch_all}
use Rattle.cx_core.specs.Tree as tree
use Rattle.cx_core.specs.Program.{Checks, FieldInit, Body, function, constructor, destructor, implicit_constructor, implicit_copy_constructor, implicit_destructor, Function, Field, Program}
use Rattle.cx_core.specs.Store.{Address, Value, address, null, place_in}
use Rattle.cx_core.specs.Event.{destroyed, handler}
use Rattle.cx_core.specs.Outcome.{Exception, Does, Nothing, nothing, ◌>>=◌, edge, keep, keep_temporary}
use Rattle.cx_core.specs.Check.{truth}
use Rattle.cx_core.specs.Operators.{named}
use Rattle.cx_core.specs.Leaving.{Call, Calls}
use Rattle.cx_core.specs.Statements.{Completion, on_to_next, completed, same_type}
use Rattle.cx_core.specs.Calls.{by_name, by_pointer}
use Rattle.cx_core.specs.Meaning as meaning
use Rattle.cx_core.specs.Meaning.{held_object, implicit_within, calls_within, is_implicit_at}
use Rattle.cx_core.proofs.Everywhere.{IsClosed, AllKept}
use Rattle.cx_core.proofs.Everywhere as every

module _ (K : (A : Type 0) → Does A → Type 0) (c : IsClosed K) where
  held_object_of : (held : List Exception) → K Value (held_object held)
  held_object_of [] = c.of_ends _
  held_object_of (e ∷ held) = c.of_gives _

  named_of : (slot : ℕ) → K Value (named slot)
  named_of slot = every.then_of K c _ _ c.of_current_frame (λ frame. every.some_of K c _)

  module _ (program : Program) (calls : Calls) (calls_of : (call : Call) → K Value (calls call)) where
    mutual
      unfolding meaning.expr

      pub expr_of : (e : Expr) → K Value (meaning.expr program calls e)
      expr_of (literal l) = every.seq_of K c _ _ c.of_spend (c.of_gives _)
      expr_of (variable slot) = every.seq_of K c _ _ c.of_spend (named_of slot)
      expr_of (global i) = every.seq_of K c _ _ c.of_spend (c.of_gives _)
      expr_of this = every.seq_of K c _ _ c.of_spend (named_of 0)
      expr_of (function_name f) = every.seq_of K c _ _ c.of_spend (c.of_gives _)
      expr_of result_name = every.then_of K c _ _ (every.seq_of K c _ _ c.of_spend c.of_current_frame) (λ frame. every.some_of K c _)
      expr_of exception_object = every.then_of K c _ _ c.of_current_held held_object_of
      expr_of (unary operator type a) = every.unary_operation_of K c operator type _ (used_of a)
      expr_of (binary operator type a b) = every.binary_operation_of K c operator type _ _ (used_of a) (used_of b)
      expr_of (logical_and a b) = every.logical_operation_of K c false _ _ (used_of a) (used_of b)
      expr_of (logical_or a b) = every.logical_operation_of K c true _ _ (used_of a) (used_of b)
      expr_of (conditional a b d) = every.conditional_operation_of K c _ _ _ (used_of a) (used_of b) (used_of d)
      expr_of (cast a) = every.cast_operation_of K c _ (used_of a)
      expr_of (assign a b) = every.assignment_of K c _ _ (expr_of a) (used_of b)
      expr_of (compound_assign operator computed kept a b) = every.compound_assignment_of K c operator computed kept _ _ (expr_of a) (used_of b)
      expr_of (prefix_step operator type a) = every.prefix_operation_of K c operator type _ (expr_of a)
      expr_of (postfix_step operator type a) = every.postfix_operation_of K c operator type _ (expr_of a)
      expr_of (indirection a) = every.indirection_of_of K c _ (used_of a)
      expr_of (member leaf a) = every.member_of_of K c leaf _ (expr_of a)
      expr_of (call f a) = every.then_of K c _ _ (every.then_of K c _ _ (every.some_of K c _) (λ definition. c.of_gives _)) (λ kind. every.call_giving_of K c program calls calls_of kind f _ (args_of a))
      expr_of (call_through kind p a) = every.then_of K c _ _ (used_of p) (λ v. every.call_through_giving_of K c program calls calls_of kind v _ (args_of a))
      expr_of (temporary type i) = every.then_of K c _ _ (every.object_of K c program calls calls_of keep_temporary type _ (every.keep_temporary_of K c) (init_of i)) (λ n. c.of_gives _)
      expr_of (temporary_through t p a) = every.then_of K c _ _ (used_of p) (λ v. every.temporary_of_call_of K c program calls calls_of t v _ (args_of a))
      expr_of (putchar a) = every.putchar_call_of K c _ (used_of a)
      expr_of getchar = every.getchar_call_of K c
      expr_of (puts text) = every.puts_call_of K c text
      expr_of (puts_comment a) = every.puts_comment_call_of K c _ (expr_of a)
      expr_of (query q a) = every.query_call_of K c q _ (expr_of a)

      pub used_of : (a : Operand) → K Value (meaning.used program calls a)
      used_of (operand read to e) = every.converted_of K c read to _ (expr_of e)

      pub init_of : (i : Init) (place : Address) → K Nothing (meaning.init program calls i place)
      init_of (value a) place = every.then_of K c _ _ (used_of a) (λ v. c.of_write place _)
      init_of (construct f a) place = every.seq_of K c _ _ (every.call_of_of K c program calls calls_of (by_name f) _ None (every.then_of K c _ _ (args_of a) (λ vs. c.of_gives _))) (c.of_gives _)
      init_of (zero_first t i) place = every.seq_of K c _ _ (every.zero_object_of K c program calls calls_of t place) (init_of i place)
      init_of (result_of f a) place = every.seq_of K c _ _ (every.call_of_of K c program calls calls_of (by_name f) _ (Some (address place)) (args_of a)) (c.of_gives _)
      init_of (result_through p a) place = every.then_of K c _ _ (used_of p) (λ v. every.seq_of K c _ _ (every.call_of_of K c program calls calls_of (by_pointer v) _ (Some (address place)) (args_of a)) (c.of_gives _))

      pub args_of : (a : Args) → K (List Value) (meaning.args program calls a)
      args_of no_more = c.of_gives _
      args_of (by_reference a rest) = every.then_of K c _ _ (expr_of a) (λ v. every.then_of K c _ _ (args_of rest) (λ vs. c.of_gives _))
      args_of (by_value type i rest) =
          every.then_of K c _ _ (every.object_of K c program calls calls_of keep type _ (every.keep_of K c) (init_of i))
          (λ n. every.then_of K c _ _ (args_of rest) (λ vs. c.of_gives _))

    pub evaluated_of : (a : Operand) → K Value (meaning.evaluated program calls a)
    evaluated_of a = every.full_expression_of K c program calls calls_of _ (used_of a)

    condition_of : (a : Condition) → K Bool (meaning.condition program calls a)
    condition_of always = c.of_gives _
    condition_of (while a) = every.then_of K c _ _ (evaluated_of a) (every.truth_of K c)

    all_owed : (party : Party) (checks : List (Specifier Check)) → AllKept K c (map (meaning.owed program calls party) checks)
    all_owed party [] = tt {0}
    all_owed party (check ∷ checks) =
        (every.evaluation_of K c program calls calls_of check.of _ (evaluated_of check.predicate), all_owed party checks)

    pub checked_of : (party : Party) (checks : List (Specifier Check)) → K Nothing (meaning.checked program calls party checks)
    checked_of party checks = every.evaluations_of K c _ _ (all_owed party checks)

    catch_parameter_of : (parameter : CatchParameter) (e : Exception) → K Nothing (meaning.catch_parameter program calls parameter e)
    catch_parameter_of unnamed e = c.of_gives _
    catch_parameter_of (tree.reference slot) e = every.bind_of K c slot _
    catch_parameter_of (tree.object slot is_named i) e = every.variable_of_of K c program calls calls_of slot e.type _ (init_of i)

    completed_of : (m : Does Nothing) → K Nothing m → K Completion (completed m)
    completed_of m h = every.seq_of K c _ _ h (c.of_gives on_to_next)

    truly : (a : Operand) → K Bool (meaning.evaluated program calls a >>= truth)
    truly a = every.then_of K c _ _ (evaluated_of a) (every.truth_of K c)

    mutual
      unfolding meaning.stmt

      pub stmt_of : (s : Stmt Check) → K Completion (meaning.stmt program calls s)
      stmt_of empty = c.of_gives _
      stmt_of (expression a) = completed_of _ (every.seq_of K c _ _ (evaluated_of a) (c.of_gives nothing))
      stmt_of (variable_declaration slot type i) = completed_of _ (every.variable_of_of K c program calls calls_of slot type _ (init_of i))
      stmt_of (reference_declaration slot e) = completed_of _ (every.reference_of_of K c program calls calls_of slot _ (expr_of e))
      stmt_of (block b) = every.scope_of K c program calls calls_of _ (stmts_of b)
      stmt_of (if_else a x y) = every.then_of K c _ _ (truly a) (λ b. every.if_of K c b _ _ (stmt_of x) (stmt_of y))
      stmt_of (while_loop a body) = c.of_loop _ _ _ (truly a) (c.of_gives on_to_next) (stmt_of body)
      stmt_of (for_loop first a step body) =
          every.scope_of K c program calls calls_of _ (every.seq_of K c _ _ (stmt_of first) (c.of_loop _ _ _ (condition_of a) (stmt_of step) (stmt_of body)))
      stmt_of tree.break = c.of_gives _
      stmt_of tree.continue = c.of_gives _
      stmt_of tree.return = c.of_gives _
      stmt_of (return_value a) = every.then_of K c _ _ (every.returned_of K c program calls calls_of _ (used_of a)) (λ v. c.of_gives _)
      stmt_of (return_reference e) = every.then_of K c _ _ (every.full_expression_of K c program calls calls_of _ (expr_of e)) (λ v. c.of_gives _)
      stmt_of (return_object i) = every.seq_of K c _ _ (every.returned_object_of K c program calls calls_of _ (init_of i)) (c.of_gives _)
      stmt_of (contract_assert check predicate) = completed_of _ (checked_of Definer (record { of = check; predicate = predicate } ∷ []))
      stmt_of (tree.throw type i) = every.full_expression_of K c program calls calls_of _ (every.throw_of_of K c program calls calls_of type _ (init_of i))
      stmt_of rethrow = every.rethrown_of K c program calls calls_of
      stmt_of (try b h) = c.of_either _ _ _ (every.scope_of K c program calls calls_of _ (stmts_of b)) (λ completion. c.of_gives completion) (handlers_of h)

      pub stmts_of : (b : Stmts Check) → K Completion (meaning.stmts program calls b)
      stmts_of done = c.of_gives _
      stmts_of (next s rest) = every.then_of K c _ _ (stmt_of s) (λ completion. every.sequence_of K c program calls calls_of _ completion (stmts_of rest))

      pub handlers_of : (h : Handlers Check) (e : Exception) → K Completion (meaning.handlers program calls h e)
      handlers_of none e = c.of_throws e
      handlers_of (catch_all b rest) e = every.seq_of K c _ _ c.of_spend (every.handled_of K c program calls calls_of e _ _ (c.of_gives nothing) (stmts_of b))
      handlers_of (tree.catch type parameter b rest) e = every.seq_of K c _ _ c.of_spend
          (every.if_of K c (same_type e.type type) _ _
          (every.handled_of K c program calls calls_of e _ _ (catch_parameter_of parameter e) (stmts_of b)) (handlers_of rest e))

    -- ---- calls

    caller_row_of : (of : Checks → List (Specifier Check)) (caller : Option ℕ) (f : ℕ) → K Nothing (meaning.caller_row program calls of caller f)
    caller_row_of of None f = c.of_gives _
    caller_row_of of (Some unit) f = every.in_unit_of K c unit _ (checked_of Caller _)

    preconditions_of : (f : Function) (made : Call) → K Nothing (meaning.preconditions program calls f made)
    preconditions_of f made = every.seq_of K c _ _ (caller_row_of (λ checks. checks.preconditions) made.caller made.function) (checked_of Definer f.checks.preconditions)

    postconditions_of : (f : Function) (made : Call) → K Nothing (meaning.postconditions program calls f made)
    postconditions_of f made = every.seq_of K c _ _ (checked_of Definer f.checks.postconditions) (caller_row_of (λ checks. checks.postconditions) made.caller made.function)

    edge_of : {A : Type 0} (m : Does A) → K A m → K A (edge m)
    edge_of m h = c.of_either _ _ _ h (λ a. c.of_gives a) (λ e. c.of_ends _)

    function_call_of : (f : Function) (made : Call) (b : Stmts Check) → K Value (meaning.function_call program calls f made b)
    function_call_of f made b = every.checked_body_of K c program calls calls_of _ _ _ _ _ (preconditions_of f made) (stmts_of b) (postconditions_of f made)

    field_inits_of : (fields : List FieldInit) → K Nothing (meaning.field_inits program calls fields)
    field_inits_of [] = c.of_gives _
    field_inits_of (f ∷ fields) = every.seq_of K c _ _ (every.field_of_of K c program calls calls_of f.leaf f.type _ (init_of f.init)) (field_inits_of fields)

    constructor_call_of : (f : Function) (made : Call) (fields : List FieldInit) (b : Stmts Check) → K Value (meaning.constructor_call program calls f made fields b)
    constructor_call_of f made fields b = every.constructing_of K c program calls calls_of _
        (every.seq_of K c _ _ (preconditions_of f made) (every.seq_of K c _ _ (field_inits_of fields)
        (every.seq_of K c _ _ (every.scope_of K c program calls calls_of _ (stmts_of b))
        (every.seq_of K c _ _ (postconditions_of f made) (c.of_gives null)))))

    destructor_call_of : (f : Function) (t : ℕ) (b : Stmts Check) → K Value (meaning.destructor_call program calls f t b)
    destructor_call_of f t b = every.then_of K c _ _ (every.this_place_of K c program calls calls_of) (λ place.
        every.then_of K c _ _ (every.some_of K c _) (λ definition.
        every.seq_of K c _ _ (edge_of _ (every.seq_of K c _ _ (checked_of Definer f.checks.preconditions) (every.scope_of K c program calls calls_of _ (stmts_of b))))
        (every.seq_of K c _ _ (every.destroy_fields_of K c program calls calls_of t place)
        (every.seq_of K c _ _ (edge_of _ (checked_of Definer f.checks.postconditions))
        (every.seq_of K c _ _ (c.of_append (destroyed definition.name place.object place.leaf) (tt {0})) (c.of_gives null))))))

    reported_of : (v : Option Violation) → K Nothing (meaning.reported program calls v)
    reported_of None = c.of_gives _
    reported_of (Some v) = c.of_append (handler v) (tt {0})

    default_field_of : (leaf : ℕ) (type : ObjectType) → K Nothing (meaning.default_field program calls leaf type)
    default_field_of leaf (class t) = every.then_of K c _ _ (every.some_of K c _) (λ definition. every.then_of K c _ _ (every.some_of K c _)
        (λ default. every.field_of_of K c program calls calls_of leaf (class t) _ (λ a. every.construct_at_of K c program calls calls_of default a [])))
    default_field_of leaf (scalar s) = c.of_gives _
    default_field_of leaf (pointer t) = c.of_gives _
    default_field_of leaf (function_pointer t) = c.of_gives _

    default_fields_of : (fields : List Field) → K Nothing (meaning.default_fields program calls fields)
    default_fields_of [] = c.of_gives _
    default_fields_of (f ∷ fields) = every.seq_of K c _ _ (default_field_of f.leaf f.type) (default_fields_of fields)

    copy_leaf_of : (from to : Address) → K Nothing (meaning.copy_leaf program calls from to)
    copy_leaf_of from to = every.then_of K c _ _ (every.seq_of K c _ _ c.of_spend (every.then_of K c _ _ c.of_current_store (λ store. every.defined_of K c _))) (c.of_write to)

    copy_object_of : (type : ObjectType) (from to : Address) → K Nothing (meaning.copy_object program calls type from to)
    copy_object_of (class t) from to = every.then_of K c _ _ (every.some_of K c _) (λ definition. every.construct_at_of K c program calls calls_of _ to _)
    copy_object_of (scalar s) from to = copy_leaf_of from to
    copy_object_of (pointer t) from to = copy_leaf_of from to
    copy_object_of (function_pointer t) from to = copy_leaf_of from to

    copy_fields_of : (from : Address) (fields : List Field) → K Nothing (meaning.copy_fields program calls from fields)
    copy_fields_of from [] = c.of_gives _
    copy_fields_of from (f ∷ fields) = every.seq_of K c _ _
        (every.field_of_of K c program calls calls_of f.leaf f.type _ (copy_object_of f.type (place_in from f.leaf))) (copy_fields_of from fields)

    copy_members_of : (fields : List Field) (from to : Address) → K Nothing (meaning.copy_members program calls fields from to)
    copy_members_of [] from to = copy_leaf_of from to
    copy_members_of (f ∷ fields) from to = copy_fields_of from (f ∷ fields)

    implicit_copy_of : (t : ℕ) → K Value (meaning.implicit_copy program calls t)
    implicit_copy_of t = every.constructing_of K c program calls calls_of _
        (every.then_of K c _ _ (every.some_of K c _) (λ definition. every.then_of K c _ _ (every.this_place_of K c program calls calls_of)
        (λ to. every.then_of K c _ _ (every.then_of K c _ _ (named_of 1) (every.place_of_of K c))
        (λ from. every.seq_of K c _ _ (copy_members_of definition.fields from to) (c.of_gives null)))))

    implicit_default_of : (t : ℕ) → K Value (meaning.implicit_default program calls t)
    implicit_default_of t = every.constructing_of K c program calls calls_of _
        (every.then_of K c _ _ (every.some_of K c _) (λ definition. every.seq_of K c _ _ (default_fields_of definition.fields) (c.of_gives null)))

    acting_of : (b : Body Check) (f : Function) (made : Call) → K Value (meaning.acting program calls b f made)
    acting_of (function b) f made = every.edge_if_of K c f.noexcept _ (function_call_of f made b)
    acting_of (constructor fields b) f made = every.edge_if_of K c f.noexcept _ (constructor_call_of f made fields b)
    acting_of (destructor t b) f made = destructor_call_of f t b
    acting_of (implicit_constructor t) f made = implicit_default_of t
    acting_of (implicit_copy_constructor t) f made = implicit_copy_of t
    acting_of (implicit_destructor t) f made = destructor_call_of f t done

    pub active_of : (made : Call) → K Value (meaning.active program calls made)
    active_of made = every.seq_of K c _ _ c.of_spend (every.then_of K c _ _ (every.some_of K c _) (λ f. every.seq_of K c _ _ (reported_of made.reports) (every.within_of K c _ _ (acting_of f.body f made))))

  pub implicit_within_of : (program : Program) (n : ℕ) (counted : Calls) → ((made : Call) → K Value (counted made)) → (made : Call) → K Value (implicit_within program n counted made)
  unfolding implicit_within
  implicit_within_of program zero counted h made = c.of_ends _
  implicit_within_of program (suc n) counted h made =
      every.if_of K c (is_implicit_at program made.function) _ _
      (active_of program (implicit_within program n counted) (implicit_within_of program n counted h) made) (h made)

  pub calls_within_of : (program : Program) (depth : ℕ) (made : Call) → K Value (calls_within program depth made)
  unfolding calls_within
  calls_within_of program zero made = c.of_ends _
  calls_within_of program (suc n) made =
      active_of program _ (implicit_within_of program (length program.classes + 1) (calls_within program n) (calls_within_of program n)) made
