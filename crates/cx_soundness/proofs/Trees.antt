-- Each typed expression keeps a state typed and gives what its type says; so do operands, initialisers and arguments.
use Rattle.std.proofs.Common.{◌≡◌, refl, true, false, List, [], ◌∷◌}
use Rattle.std.specs.Prelude.{slice_get}
use Rattle.cx_core.specs.Tree.{ObjectType, Expr, literal, variable, global, this, function_name, result_name, exception_object, unary, binary, logical_and, logical_or, conditional, cast, assign, compound_assign, prefix_step, postfix_step, indirection, member, call, call_through, temporary, temporary_through, putchar, getchar, puts, puts_comment, query, Operand, operand, Init, value, construct, zero_first, result_of, result_through, Args, no_more, by_reference, by_value}
use Rattle.cx_core.specs.Program.{Program}
use Rattle.cx_core.specs.Leaving.{Calls}
use Rattle.cx_core.specs.Meaning.{expr, used, init, args}
use Rattle.cx_soundness.specs.Given.{signature_at, type_at}
use Rattle.cx_soundness.specs.Types.{Parameter, Declared, Context}
use Rattle.cx_soundness.specs.Expressions.{expr_given, used_given, is_typed, are_typed}
use Rattle.cx_soundness.proofs.Same.{both_left, both_right}
use Rattle.cx_soundness.proofs.Lives.{Facts, most, CallsKeep}
use Rattle.cx_soundness.proofs.Operations.{Sound, used_sound, unary_sound, binary_sound, cast_sound, assignment_sound, compound_sound, prefix_sound, postfix_sound, indirection_sound, member_sound}
use Rattle.cx_soundness.proofs.Choices.{logical_sound, conditional_sound, literal_sound, variable_sound, global_sound, function_sound, result_sound, exception_sound, putchar_sound, getchar_sound, puts_sound, query_sound, comment_sound}
use Rattle.cx_soundness.proofs.Initials.{ArgsSound, InitSound, call_sound, through_sound, temporary_sound, value_sound}
use Rattle.cx_soundness.proofs.Makings.{construct_sound, zero_sound, result_of_sound, result_through_sound, temporary_through_sound, no_args_sound, reference_sound, object_sound}

module _ (declared : Declared) (program : Program) (facts : Facts declared program) (calls : Calls) (keep : CallsKeep declared program (most declared program) calls) (context : Context) where
  mutual
    unfolding expr expr_given

    pub expr_keeps : (e : Expr) → Sound declared program context (expr_given declared context e) (expr program calls e)
    expr_keeps (literal c) = literal_sound declared program context c
    expr_keeps (variable slot) = variable_sound declared program context slot (slice_get context.slots slot) refl
    expr_keeps (global i) = global_sound declared program context i (type_at declared.globals i) refl
    expr_keeps this = variable_sound declared program context 0 (slice_get context.slots 0) refl
    expr_keeps (function_name f) = function_sound declared program context f (signature_at declared.functions f) refl
    expr_keeps result_name = result_sound declared program context context.result refl
    expr_keeps exception_object = exception_sound declared program context context.caught refl
    expr_keeps (unary operator type a) = unary_sound declared program context operator type _ _ (used_keeps a)
    expr_keeps (binary operator type a b) = binary_sound declared program context operator type _ _ _ _ (used_keeps a) (used_keeps b)
    expr_keeps (logical_and a b) = logical_sound declared program context false _ _ _ _ (used_keeps a) (used_keeps b)
    expr_keeps (logical_or a b) = logical_sound declared program context true _ _ _ _ (used_keeps a) (used_keeps b)
    expr_keeps (conditional a b c) = conditional_sound declared program context _ _ _ _ _ _ (used_keeps a) (used_keeps b) (used_keeps c)
    expr_keeps (cast a) = cast_sound declared program context _ _ (used_keeps a)
    expr_keeps (assign a b) = assignment_sound declared program context _ _ _ _ (expr_keeps a) (used_keeps b)
    expr_keeps (compound_assign operator computed kept a b) = compound_sound declared program context operator computed kept _ _ _ _ (expr_keeps a) (used_keeps b)
    expr_keeps (prefix_step operator type a) = prefix_sound declared program context operator type _ _ (expr_keeps a)
    expr_keeps (postfix_step operator type a) = postfix_sound declared program context operator type _ _ (expr_keeps a)
    expr_keeps (indirection a) = indirection_sound declared program context _ _ (used_keeps a)
    expr_keeps (member leaf a) = member_sound declared program context leaf _ _ (expr_keeps a)
    expr_keeps (call f a) = call_sound declared program facts calls keep context f (signature_at declared.functions f) (are_typed declared context a) _ refl (args_keep a)
    expr_keeps (call_through kind p a) = through_sound declared program facts calls keep context kind _ (are_typed declared context a) _ _ (used_keeps p) (args_keep a)
    expr_keeps (temporary type i) = temporary_sound declared program facts calls keep context type (is_typed declared context type i) _ (init_keeps i type)
    expr_keeps (temporary_through c p a) = temporary_through_sound declared program facts calls keep context c _ (are_typed declared context a) _ _ (used_keeps p) (args_keep a)
    expr_keeps (putchar a) = putchar_sound declared program context _ _ (used_keeps a)
    expr_keeps getchar = getchar_sound declared program context
    expr_keeps (puts text) = puts_sound declared program context text
    expr_keeps (puts_comment a) = comment_sound declared program context _ _ (expr_keeps a)
    expr_keeps (query q a) = query_sound declared program context q _ _ (expr_keeps a)

    pub used_keeps : (a : Operand) → Sound declared program context (used_given declared context a) (used program calls a)
    used_keeps (operand read to e) = used_sound declared program context read to _ _ (expr_keeps e)

    pub init_keeps : (i : Init) (type : ObjectType) → is_typed declared context type i ≡ true → InitSound declared program facts calls keep context type (init program calls i)
    init_keeps (value a) type h = value_sound declared program facts calls keep context type _ _ h (used_keeps a)
    init_keeps (construct f a) type h = construct_sound declared program facts calls keep context f type (signature_at declared.functions f) (are_typed declared context a) _ refl h (args_keep a)
    init_keeps (zero_first c i) type h = zero_sound declared program facts calls keep context c type (is_typed declared context type i) _ h (init_keeps i type)
    init_keeps (result_of f a) type h = result_of_sound declared program facts calls keep context f type (signature_at declared.functions f) (are_typed declared context a) _ refl h (args_keep a)
    init_keeps (result_through q a) type h = result_through_sound declared program facts calls keep context type _ (are_typed declared context a) _ _ h (used_keeps q) (args_keep a)

    pub args_keep : (a : Args) (parameters : List Parameter) → are_typed declared context a parameters ≡ true → ArgsSound declared program facts calls keep context parameters (args program calls a)
    args_keep no_more [] h = no_args_sound declared program facts calls keep context
    args_keep no_more (p ∷ parameters) h = absurd cc
    args_keep (by_reference e rest) [] h = absurd cc
    args_keep (by_reference e rest) (p ∷ parameters) h = reference_sound declared program facts calls keep context p parameters _ _ _ (both_left _ _ h) (expr_keeps e) (args_keep rest parameters (both_right _ _ h))
    args_keep (by_value type i rest) [] h = absurd cc
    args_keep (by_value type i rest) (p ∷ parameters) h =
        let first = both_left _ _ h in
        object_sound declared program facts calls keep context p parameters type _ _ (both_left _ _ (both_left _ _ first)) (both_right _ _ first) (init_keeps i type (both_right _ _ (both_left _ _ first))) (args_keep rest parameters (both_right _ _ h))
