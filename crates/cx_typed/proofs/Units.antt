-- The program of a unit that defines `main` and nothing else.
use Rattle.std.proofs.Common.{◌≡◌, refl, sym, subst, List, [], ◌∷◌, Option, Some, None}
use Rattle.std.specs.Prelude.{ℕ, codes}
use Rattle.cx_core.specs.declared.unit.CoreUnit.{CoreUnit}
use Rattle.cx_core.specs.declared.unit.Class.{Class}
use Rattle.cx_core.specs.declared.unit.Global.{Global}
use Rattle.cx_core.specs.declared.unit.Function.{Function}
use Rattle.cx_core.specs.declared.unit.Specifier.{Specifier}
use Rattle.cx_core.specs.declared.unit.Body.{Body}
use Rattle.cx_core.specs.declared.unit.Body.TheVariants as bodies
use Rattle.cx_core.specs.declared.unit.ResultKind.{ResultKind}
use Rattle.cx_core.specs.declared.unit.ResultKind.TheVariants as results
use Rattle.cx_core.specs.declared.statement.Statement.{Statement}
use Rattle.cx_core.specs.Words.{Semantic}
use Rattle.cx_core.specs.Linked.{linked_with}
use Rattle.cx_emit.specs.Units.{IsMain}
use Rattle.cx_typed.specs.Unit.{program_of, body_of, HasStatements}
use Rattle.cx_typed.specs.Laws.{UnitsOfMainHaveItsProgram}

abbrev HasProgram : Semantic → CoreUnit → List Statement → Type 0
HasProgram semantic unit statements = IsMain (program_of semantic unit) (body_of semantic unit statements) × ((program_of semantic unit).handler ≡ None) × ((program_of semantic unit).globals ≡ [])

module _ (semantic : Semantic) (unit : CoreUnit) (main : Function) where
  abbrev with_parts : List Class → List Global → List Function → CoreUnit
  with_parts classes globals functions = record unit { classes = classes; globals = globals; functions = functions }

  abbrev function_with : List ℕ → ResultKind → (preconditions postconditions : List Specifier) → Option Body → Function
  function_with name result preconditions postconditions body = record main { name = name; result = result; preconditions = preconditions; postconditions = postconditions; body = body }

  abbrev main_with : Option Body → Function
  main_with body = function_with (codes "main") results.ExitStatus [] [] body

  of_body : (body : Option Body) (statements : List Statement) → HasStatements body statements → HasProgram semantic (with_parts [] [] (main_with body ∷ [])) statements
  unfolding linked_with
  of_body (Some (bodies.Function b)) statements e =
      subst (HasProgram semantic (with_parts [] [] (main_with (Some (bodies.Function b)) ∷ []))) e
      (record { definer = 0; noexcept = main.noexcept; is_defined = refl }, refl, refl)
  of_body other statements e = absurd e

  of_main : (statements : List Statement) → main.name ≡ codes "main" → main.result ≡ results.ExitStatus → main.preconditions ≡ [] → main.postconditions ≡ [] → HasStatements main.body statements
      → HasProgram semantic (with_parts [] [] (main ∷ [])) statements
  of_main statements is_named gives_status no_preconditions no_postconditions is_defined =
      let Of : List ℕ → ResultKind → (preconditions postconditions : List Specifier) → Type 0 = λ name result preconditions postconditions. HasProgram semantic (with_parts [] [] (function_with name result preconditions postconditions main.body ∷ [])) statements in
      subst (λ name. Of name main.result main.preconditions main.postconditions) (sym is_named)
      (subst (λ result. Of (codes "main") result main.preconditions main.postconditions) (sym gives_status)
      (subst (λ preconditions. Of (codes "main") results.ExitStatus preconditions main.postconditions) (sym no_preconditions)
      (subst (Of (codes "main") results.ExitStatus []) (sym no_postconditions) (of_body main.body statements is_defined))))

pub have_program : UnitsOfMainHaveItsProgram
have_program semantic unit statements is =
    let Of : List Class → List Global → List Function → Type 0 = λ classes globals functions. HasProgram semantic (record unit { classes = classes; globals = globals; functions = functions }) statements in
    subst (λ classes. Of classes unit.globals unit.functions) (sym is.no_classes)
    (subst (λ globals. Of [] globals unit.functions) (sym is.no_globals)
    (subst (Of [] []) (sym is.alone) (of_main semantic unit is.main statements is.is_named is.gives_status is.no_preconditions is.no_postconditions is.is_defined)))
