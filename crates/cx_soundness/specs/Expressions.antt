-- The types of the expressions of typed trees, and which initialisers and arguments are typed: [expr], [dcl.init] and [expr.call] of the C++ draft, const aside.
use Rattle.std.specs.Prelude.{ℕ, Bool, true, false, ◌&&◌, List, [], ◌∷◌, Option, Some, None, slice_get}
use Rattle.cx_core.specs.declared.number.IntegerType.TheVariants as types
use Rattle.cx_core.specs.Tree.{ObjectType, class, Expr, literal, variable, global, this, function_name, result_name, exception_object, unary, binary, logical_and, logical_or, conditional, cast, assign, compound_assign, prefix_step, postfix_step, indirection, member, call, call_through, temporary, temporary_through, putchar, getchar, puts, puts_comment, query, Operand, operand, Init, value, construct, zero_first, result_of, result_through, Args, no_more, by_reference, by_value, PointedResult}
use Rattle.cx_soundness.specs.Types.{Parameter, Result, no_result, class_result, Signature, Declared, Given, refers, functions, ResultName, no_name, unnamed, named, Context}
use Rattle.cx_soundness.specs.Given.{signature_at, type_at, only, then_given, where_given, given_if, begins, leaf_types, is_whole, functions_of, accepts, parameter_given, denotes, operand_given, constant_given, unary_given, binary_given, logical_given, conditional_given, assigned_given, compound_given, prefix_given, postfix_given, indirection_given, member_given, call_given, is_pointed, putchar_given, comment_given, query_given}

abbrev pub both_given : Option Given → Option Given → (Given → Given → Option Given) → Option Given
both_given a b next = then_given a (λ v. then_given b (next v))

abbrev pub named_given : ResultName → Option Given
named_given no_name = None
named_given (unnamed v) = None
named_given (named v) = Some v

module _ (declared : Declared) where
  abbrev pub place_given : Option ObjectType → Option Given
  place_given None = None
  place_given (Some type) = Some (refers (leaf_types declared type))

  -- ---- calls, given whether their arguments are typed by parameters

  abbrev pub called_given : Option Signature → (List Parameter → Bool) → Option Given
  called_given None are_typed = None
  called_given (Some signature) are_typed = given_if (are_typed signature.parameters) (call_given declared signature.result)

  abbrev pub through_given : PointedResult → Given → (List Parameter → Bool) → Option Given
  through_given kind (functions signature) are_typed = given_if (is_pointed kind signature.result && are_typed signature.parameters) (call_given declared signature.result)
  through_given kind other are_typed = None

  -- an object of the type is constructed
  abbrev pub is_constructed : ObjectType → List Parameter → (List Parameter → Bool) → Bool
  is_constructed type [] are_typed = false
  is_constructed type (p ∷ parameters) are_typed = denotes (parameter_given declared p) (refers (leaf_types declared type)) && are_typed parameters

  abbrev pub gives_none : Result → Bool
  gives_none no_result = true
  gives_none other = false

  abbrev pub constructs : Option Signature → ObjectType → (List Parameter → Bool) → Bool
  constructs None type are_typed = false
  constructs (Some signature) type are_typed = gives_none signature.result && is_constructed type signature.parameters are_typed

  -- a class object of the type is what a call gives
  abbrev pub is_object_of : ObjectType → Result → Bool
  is_object_of type (class_result c) = begins (leaf_types declared (class c)) (leaf_types declared type)
  is_object_of type other = false

  abbrev pub makes : Option Signature → ObjectType → (List Parameter → Bool) → Bool
  makes None type are_typed = false
  makes (Some signature) type are_typed = is_object_of type signature.result && are_typed signature.parameters

  abbrev pub makes_through : Given → ObjectType → (List Parameter → Bool) → Bool
  makes_through (functions signature) type are_typed = is_object_of type signature.result && are_typed signature.parameters
  makes_through other type are_typed = false

  -- the object is a temporary
  abbrev pub temporary_given : (class : ℕ) → Given → (List Parameter → Bool) → Option Given
  temporary_given c v are_typed = given_if (is_whole declared (class c) && makes_through v (class c) are_typed) (Some (refers (leaf_types declared (class c))))

  -- ---- trees

  module _ (context : Context) where
    unfoldable mutual
      pub expr_given : Expr → Option Given
      expr_given (literal c) = Some (constant_given c)
      expr_given (variable slot) = slice_get context.slots slot
      expr_given (global i) = place_given (type_at declared.globals i)
      expr_given this = slice_get context.slots 0
      expr_given (function_name f) = functions_of (signature_at declared.functions f)
      expr_given result_name = named_given context.result
      expr_given exception_object = place_given context.caught
      expr_given (unary operator type a) = then_given (used_given a) (unary_given operator type)
      expr_given (binary operator type a b) = both_given (used_given a) (used_given b) (binary_given operator type)
      expr_given (logical_and a b) = both_given (used_given a) (used_given b) (logical_given)
      expr_given (logical_or a b) = both_given (used_given a) (used_given b) (logical_given)
      expr_given (conditional a b c) = then_given (used_given a) (λ v. both_given (used_given b) (used_given c) (conditional_given v))
      expr_given (cast a) = used_given a
      expr_given (assign a b) = both_given (expr_given a) (used_given b) (assigned_given declared)
      expr_given (compound_assign operator computed kept a b) = both_given (expr_given a) (used_given b) (compound_given operator computed kept)
      expr_given (prefix_step operator type a) = then_given (expr_given a) (prefix_given operator type)
      expr_given (postfix_step operator type a) = then_given (expr_given a) (postfix_given operator type)
      expr_given (indirection a) = then_given (used_given a) (indirection_given)
      expr_given (member leaf a) = then_given (expr_given a) (member_given leaf)
      expr_given (call f a) = called_given (signature_at declared.functions f) (are_typed a)
      expr_given (call_through kind p a) = then_given (used_given p) (λ v. through_given kind v (are_typed a))
      expr_given (temporary type i) = given_if (is_whole declared type && is_typed type i) (Some (refers (leaf_types declared type)))
      expr_given (temporary_through c p a) = then_given (used_given p) (λ v. temporary_given c v (are_typed a))
      expr_given (putchar a) = then_given (used_given a) (putchar_given)
      expr_given getchar = Some (only types.Int)
      expr_given (puts text) = Some (only types.Int)
      expr_given (puts_comment a) = then_given (expr_given a) (comment_given)
      expr_given (query q a) = then_given (expr_given a) (query_given q)

      pub used_given : Operand → Option Given
      used_given (operand read to e) = operand_given declared read to (expr_given e)

      -- an object of the type is initialised
      pub is_typed : ObjectType → Init → Bool
      is_typed type (value a) = where_given (used_given a) (accepts declared type)
      is_typed type (construct f a) = constructs (signature_at declared.functions f) type (are_typed a)
      is_typed type (zero_first c i) = is_whole declared (class c) && begins (leaf_types declared (class c)) (leaf_types declared type) && is_typed type i
      is_typed type (result_of f a) = makes (signature_at declared.functions f) type (are_typed a)
      is_typed type (result_through p a) = where_given (used_given p) (λ v. makes_through v type (are_typed a))

      pub are_typed : Args → List Parameter → Bool
      are_typed no_more [] = true
      are_typed no_more (p ∷ parameters) = false
      are_typed (by_reference e rest) [] = false
      are_typed (by_reference e rest) (p ∷ parameters) = where_given (expr_given e) (denotes (parameter_given declared p)) && are_typed rest parameters
      are_typed (by_value type i rest) [] = false
      are_typed (by_value type i rest) (p ∷ parameters) =
          (is_whole declared type && is_typed type i && denotes (parameter_given declared p) (refers (leaf_types declared type))) && are_typed rest parameters
