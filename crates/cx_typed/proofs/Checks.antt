-- The evaluations of typed contract assertions go on or end the run by a contract, and leave a typed state typed.
use Rattle.std.proofs.Common.{◌≡◌, ℕ, zero, suc, Bool, true, false, if◌then◌else◌, List, [], ◌∷◌, Option, Some, None}
use Rattle.std.specs.List.{All}
use Rattle.std.proofs.lemmas.List.Elements.{All-nil, All-cons, All-head, All-tail}
use Rattle.cx_core.specs.declared.number.IntegerType.{IntegerType}
use Rattle.cx_core.specs.Words.{Party, Semantic, Ignore, Observe, Enforce, QuickEnforce, False, Holds, PredicateFalse, Violation, ContractTerminated}
use Rattle.cx_core.specs.Tree.{Check, Specifier, Assertion, Operand}
use Rattle.cx_core.specs.Event.{Evaluation, Event, same_evaluation, verdict, handler, Answer, ended, not_a_run}
use Rattle.cx_core.specs.Outcome.{Does, Nothing, nothing, skip, ◌>>=◌, ◌>>◌, spend, append, ends}
use Rattle.cx_core.specs.Block.{Owed, Continued, has_stood, once_less, behind, continued, if_permitted, begin_told, evaluations}
use Rattle.cx_core.specs.Check.{truth, handle_by, handle, violated, verdict_on, verdict_threw, evaluation, violation_of}
use Rattle.cx_core.specs.Program.{Program}
use Rattle.cx_core.specs.Leaving.{Calls}
use Rattle.cx_core.specs.Meaning.{evaluated, owed, checked}
use Rattle.cx_typed.specs.Typed.{Slots, Gives, IsCondition}
use Rattle.cx_typed.proofs.Comes.{IsEnd, With, Always, then_comes, ends_come, append_comes, next_told_comes, begin_told_comes}
use Rattle.cx_typed.proofs.Objects.{Types, IsIn}
use Rattle.cx_typed.proofs.States.{TypedBy, typed_by}
use Rattle.cx_typed.proofs.Scopes.{full_expression_comes}
use Rattle.cx_typed.proofs.Expressions.{Keeps, then_keeps, gives_keeps, spend_keeps, truth_keeps, used_keeps}

module _ (types : Types) (slots : Slots) where
  abbrev Kept : {A : Type 0} → Does A → Type 0
  Kept m = Keeps types slots Always m

  then_kept : {A B : Type 0} {m : Does A} {next : A → Does B} → Kept m → ((a : A) → Kept (next a)) → Kept (m >>= next)
  then_kept h k = then_keeps types slots Always h (λ a _. k a)

  skip_kept : Kept skip
  skip_kept = gives_keeps types slots Always nothing (tt {0})

  append_kept : (event : Event) → Kept (append event)
  append_kept event = append_comes (TypedBy types slots) (typed_by types slots).of_objects event

  end_kept : (answer : Answer) → IsEnd answer → Kept {A = Nothing} (ends answer)
  end_kept answer h = ends_come (TypedBy types slots) (With Always (TypedBy types slots)) answer h

  -- ---- rows

  abbrev IsKept : Owed → Type 0
  IsKept o = Kept o.check

  abbrev AreKept : Option Continued → Type 0
  AreKept None = Unit {0}
  AreKept (Some c) = Kept c.0 × All IsKept c.1

  once_less_kept : (left : ℕ) (o : Owed) (owed : List Owed) → IsKept o → All IsKept owed → AreKept (once_less left o owed)
  once_less_kept zero o owed h all = tt {0}
  once_less_kept (suc left) o owed h all = (h, All-cons IsKept (record o { left = left }) owed h all)

  behind_kept : (o : Owed) (c : Option Continued) → IsKept o → AreKept c → AreKept (behind o c)
  behind_kept o None h k = tt {0}
  behind_kept o (Some c) h k = (k.0, All-cons IsKept o c.1 h k.1)

  chosen_kept : (b : Bool) (c d : Option Continued) → AreKept c → AreKept d → AreKept (if b then c else d)
  chosen_kept true c d h k = h
  chosen_kept false c d h k = k

  continued_kept : (e : Evaluation) (owed : List Owed) → All IsKept owed → AreKept (continued e owed)
  continued_kept e [] all = tt {0}
  continued_kept e (o ∷ owed) all =
      let h = All-head IsKept o owed all in
      let others = All-tail IsKept o owed all in
      chosen_kept (same_evaluation e o.evaluation) (once_less o.left o owed) _ (once_less_kept o.left o owed h others)
      (chosen_kept (has_stood o) (behind o (continued e owed)) None (behind_kept o (continued e owed) h (continued_kept e owed others)) (tt {0}))

  permitted_kept : (n : ℕ) → ((more : List Owed) → All IsKept more → Kept (evaluations n more)) → (c : Option Continued) → AreKept c
      → Kept (if_permitted c (λ check more. spend >> begin_told >> check >> evaluations n more))
  permitted_kept n more None are = end_kept not_a_run (tt {0})
  permitted_kept n more (Some c) are =
      then_kept (then_kept (then_kept (spend_keeps types slots) (λ _. begin_told_comes (TypedBy types slots) (typed_by types slots).of_objects)) (λ _. are.0)) (λ _. more c.1 are.1)

  evaluations_kept : (n : ℕ) (owed : List Owed) → All IsKept owed → Kept (evaluations n owed)
  unfolding evaluations
  evaluations_kept zero owed all = skip_kept
  evaluations_kept (suc n) owed all =
      then_kept (next_told_comes (TypedBy types slots) (typed_by types slots).of_objects)
      (λ e. permitted_kept n (evaluations_kept n) (continued e owed) (continued_kept e owed all))

  -- ---- an evaluation under the default handler

  module _ (program : Program) (calls : Calls) (default : program.handler ≡ None) where
    handled_kept : (f : Option ℕ) → f ≡ None → (v : Violation) → Kept (handle_by program calls f v)
    handled_kept None e v = then_kept (spend_keeps types slots) (λ _. append_kept (handler v))
    handled_kept (Some f) e v = absurd cc

    violated_kept : (semantic : Semantic) (v : Violation) → Kept (violated program calls semantic (handle program calls v))
    violated_kept Ignore v = skip_kept
    violated_kept Observe v = handled_kept program.handler default v
    violated_kept Enforce v = then_kept (handled_kept program.handler default v) (λ _. end_kept (ended ContractTerminated) (tt {0}))
    violated_kept QuickEnforce v = end_kept (ended ContractTerminated) (tt {0})

    verdict_kept : (a : Assertion) (semantic : Semantic) (holds : Bool) → Kept (verdict_on program calls a semantic holds)
    verdict_kept a semantic true = append_kept (verdict Holds)
    verdict_kept a semantic false = then_kept (append_kept (verdict False)) (λ _. violated_kept semantic (violation_of a PredicateFalse semantic))

    pub evaluated_keeps : (a : Operand) (type : IntegerType) → Gives slots a type → Keeps types slots (IsIn type) (evaluated program calls a)
    evaluated_keeps a type h =
        full_expression_comes (TypedBy types slots) (TypedBy types slots) (typed_by types slots) (typed_by types slots) program calls (IsIn type) _ (used_keeps types slots program calls a type h)

    pub condition_keeps : (a : Operand) → IsCondition slots a → Kept (evaluated program calls a >>= truth)
    condition_keeps a h = then_keeps types slots (IsIn h.0) (evaluated_keeps a h.0 h.1) (truth_keeps types slots h.0)

    evaluation_kept : (c : Check) (predicate : Operand) → IsCondition slots predicate → Kept (evaluation program calls c (evaluated program calls predicate))
    evaluation_kept c predicate h =
        then_comes (TypedBy types slots) Always (verdict_threw program calls c.assertion c.semantic) (condition_keeps predicate h) (λ holds _. verdict_kept c.assertion c.semantic holds)

    pub check_keeps : (party : Party) (s : Specifier Check) → IsCondition slots s.predicate → Keeps types slots Always (checked program calls party (s ∷ []))
    check_keeps party s h = evaluations_kept _ (owed program calls party s ∷ []) (All-cons IsKept (owed program calls party s) [] (evaluation_kept s.of s.predicate h) (All-nil IsKept))
