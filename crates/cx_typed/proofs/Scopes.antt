-- What is kept by the parts of a scope or a full-expression is kept where it is left and its objects end.
use Rattle.std.proofs.Common.{ℕ, List, [], ◌∷◌}
use Rattle.std.specs.List.{All}
use Rattle.std.proofs.lemmas.List.Elements.{All-nil, All-head, All-tail}
use Rattle.cx_core.specs.Tree.{scalar, pointer, function_pointer, class}
use Rattle.cx_core.specs.Outcome.{Living, whole, field, State, Does, Nothing, nothing, throws, remove, end_lifetime, ◌>>=◌, ◌>>◌, current_living, set_living, current_temporaries, set_temporaries, finally}
use Rattle.cx_core.specs.Program.{Program}
use Rattle.cx_core.specs.Leaving.{Calls, end, end_each, scope, full_expression}
use Rattle.cx_typed.proofs.Comes.{Comes, With, Always, then_comes, gives_comes, spend_comes}
use Rattle.cx_typed.proofs.States.{IsScalar, IsInvariant}

-- a list of scalars, in a state where I holds
abbrev Scalars : List Living → Type 0
Scalars living = All IsScalar living

module _ (I : State → Type 0) (is : IsInvariant I) where
  remove_comes : (n : ℕ) → Comes I (With Always I) (remove n)
  unfolding remove
  remove_comes n = record { comes = λ s i. (tt {0}, is.with_end s n i) }

  pub end_lifetime_comes : (n : ℕ) → Comes I (With Always I) (end_lifetime n)
  end_lifetime_comes n = then_comes I Always throws (spend_comes I is.of_objects) (λ _ _. remove_comes n)

  current_living_comes : Comes I (With Scalars I) current_living
  unfolding current_living
  current_living_comes = record { comes = λ s i. (is.living s i, i) }

  set_living_comes : (living : List Living) → Scalars living → Comes I (With Always I) (set_living living)
  unfolding set_living
  set_living_comes living are = record { comes = λ s i. (tt {0}, is.with_living s living are i) }

  current_temporaries_come : Comes I (With Scalars I) current_temporaries
  unfolding current_temporaries
  current_temporaries_come = record { comes = λ s i. (is.temporaries s i, i) }

  set_temporaries_comes : (temporaries : List Living) → Scalars temporaries → Comes I (With Always I) (set_temporaries temporaries)
  unfolding set_temporaries
  set_temporaries_comes temporaries are = record { comes = λ s i. (tt {0}, is.with_temporaries s temporaries are i) }

  module _ (program : Program) (calls : Calls) where
    end_comes : (l : Living) → IsScalar l → Comes I (With Always I) (end program calls l)
    end_comes (whole n (scalar s)) h = then_comes I Always throws (gives_comes I Always nothing (tt {0})) (λ _ _. end_lifetime_comes n)
    end_comes (whole n (pointer t)) h = absurd h
    end_comes (whole n (function_pointer t)) h = absurd h
    end_comes (whole n (class c)) h = absurd h
    end_comes (field a c) h = absurd h

    end_each_comes : (living : List Living) → Scalars living → Comes I (With Always I) (end_each program calls living)
    end_each_comes [] are = gives_comes I Always nothing (tt {0})
    end_each_comes (l ∷ living) are = then_comes I Always throws (end_comes l (All-head IsScalar l living are)) (λ _ _. end_each_comes living (All-tail IsScalar l living are))

    scope_ends : (outer : List Living) → Scalars outer → Comes I (With Always I) ((current_living >>= end_each program calls) >> set_living outer)
    scope_ends outer are = then_comes I Always throws (then_comes I Scalars throws current_living_comes end_each_comes) (λ _ _. set_living_comes outer are)

    expression_ends : (outer : List Living) → Scalars outer → Comes I (With Always I) ((current_temporaries >>= end_each program calls) >> set_temporaries outer)
    expression_ends outer are = then_comes I Always throws (then_comes I Scalars throws current_temporaries_come end_each_comes) (λ _ _. set_temporaries_comes outer are)

-- what is done last
module _ (I N : State → Type 0) where
  pub finally_comes : {A : Type 0} (P : A → Type 0) (m : Does A) (last : Does Nothing) → Comes I (With P N) m → Comes N (With Always N) last → Comes I (With P N) (finally m last)
  finally_comes P m last h k = then_comes N P _ h (λ a p. then_comes N Always throws k (λ _ _. gives_comes N P a p))

module _ (I N : State → Type 0) (before : IsInvariant I) (behind : IsInvariant N) (program : Program) (calls : Calls) where
  pub scope_comes : {A : Type 0} (P : A → Type 0) (m : Does A) → Comes I (With P N) m → Comes I (With P N) (scope program calls m)
  scope_comes P m h =
      then_comes I Scalars throws (current_living_comes I before)
      (λ outer are. then_comes I Always throws (set_living_comes I before [] (All-nil IsScalar)) (λ _ _. finally_comes I N P m _ h (scope_ends N behind program calls outer are)))

  pub full_expression_comes : {A : Type 0} (P : A → Type 0) (m : Does A) → Comes I (With P N) m → Comes I (With P N) (full_expression program calls m)
  full_expression_comes P m h =
      then_comes I Scalars throws (current_temporaries_come I before)
      (λ outer are. then_comes I Always throws (set_temporaries_comes I before [] (All-nil IsScalar)) (λ _ _. finally_comes I N P m _ h (expression_ends N behind program calls outer are)))
