-- A program of `main` alone with typed statements is well made.
use Rattle.std.proofs.Common.{◌≡◌, ◌≢◌, refl, sym, subst, ℕ, ◌+◌, ℤ, pos, Bool, true, false, List, [], length, Option, Some, None}
use Rattle.std.specs.Prelude.{slice_get}
use Rattle.std.specs.List.{All}
use Rattle.std.proofs.lemmas.List.Elements.{All-nil}
use Rattle.cx_core.specs.declared.number.IntegerType.{IntegerType}
use Rattle.cx_core.specs.declared.number.IntegerType.TheVariants as integers
use Rattle.cx_core.specs.declared.unit.Assertion.{Assertion}
use Rattle.cx_core.specs.Words.{Returned, Undefined, Mixed}
use Rattle.cx_core.specs.Number.{in_range}
use Rattle.cx_core.specs.Tree.{Check, Stmts, Constant}
use Rattle.cx_core.specs.Store.{Value, number, address, null, function, violation}
use Rattle.cx_core.specs.Event.{Evaluation, ended}
use Rattle.cx_core.specs.Outcome.{nothing, Frame, State, Outcome, on, thrown, over, Does, ◌>>=◌, ◌>>◌, gives, throws, skip, some, current_frame, set_frame}
use Rattle.cx_core.specs.Block.{evaluations}
use Rattle.cx_core.specs.Program as source
use Rattle.cx_core.specs.Program.{Program, Function, Checks, exit_status}
use Rattle.cx_core.specs.Leaving.{Calls, edge_if, within}
use Rattle.cx_core.specs.Statements.{Completion, on_to_next, break, continue, return}
use Rattle.cx_core.specs.Meaning.{meaning_of, mean, mean_within, start, main_call, globals_from, calls_within, implicit_within, active, acting, function_call, preconditions, postconditions, stmts, unit_of}
use Rattle.cx_core.specs.Calls.{body, value_given}
use Rattle.cx_emit.specs.Units.{IsMain, no_checks}
use Rattle.cx_typed.specs.Typed.{AreTyped}
use Rattle.cx_typed.specs.Laws.{TypedProgramsAreWellMade}
use Rattle.cx_typed.proofs.Comes.{IsEnd, Comes, ComesTo, With, Always, comes_less, then_comes, gives_comes, spend_comes}
use Rattle.cx_typed.proofs.Objects.{Types, IsIn, IsObjectOf}
use Rattle.cx_typed.proofs.States.{IsScalar, Typed, typed}
use Rattle.cx_typed.proofs.Scopes.{finally_comes, scope_comes}
use Rattle.cx_typed.proofs.Statements.{IsLeft, Leads, then_leads, stmts_lead}

-- no variable is visible
abbrev Keeps : {A : Type 0} → (A → Type 0) → Does A → Type 0
Keeps P m = Leads P [] [] m

then_keeps : {A B : Type 0} {P : B → Type 0} {m : Does A} {next : A → Does B} (Q : A → Type 0) → Keeps Q m → ((a : A) → Q a → Keeps P (next a)) → Keeps P (m >>= next)
then_keeps Q h k = then_leads [] [] [] Q h k

gives_keeps : {A : Type 0} (P : A → Type 0) (a : A) → P a → Keeps P (gives a)
gives_keeps P a h = gives_comes (Typed []) P a h

no_slot : (slot : ℕ) (type : IntegerType) → slice_get [] slot ≡ Some type → ⊥
no_slot slot type e = cc

-- ---- without preconditions and postconditions

none_keep : Keeps Always (evaluations 0 [])
unfolding evaluations
none_keep = gives_keeps Always nothing (tt {0})

-- ---- the frame of a call

abbrev Anywhere : State → Type 0
Anywhere s = Unit {0}

frame_keeps : Keeps Always current_frame
unfolding current_frame
frame_keeps = record { comes = λ s i. (tt {0}, i) }

frame_set : (frame : Frame) → frame.result ≡ None → Keeps Always (set_frame frame)
unfolding set_frame
frame_set frame none =
    record {
      comes = λ s i. (
        tt {0},
        (
          i.0,
          record {
            no_result = none;
            variables = λ slot type e. absurd (no_slot slot type e);
            objects = i.1.objects;
            are_scalars = i.1.are_scalars;
            temporaries_are_scalars = i.1.temporaries_are_scalars;
          },
        ),
      );
    }

frame_set_back : (frame : Frame) → Comes Anywhere (With Always Anywhere) (set_frame frame)
unfolding set_frame
frame_set_back frame = record { comes = λ s i. (tt {0}, tt {0}) }

-- without a result object
within_comes : (P : Value → Type 0) (frame : Frame) (m : Does Value) → frame.result ≡ None → Keeps P m → Comes (Typed []) (With P Anywhere) (within frame m)
within_comes P frame m none h =
    then_comes (Typed []) Always throws frame_keeps
    (λ outer _. then_comes (Typed []) Always throws (frame_set frame none)
    (λ _ _. finally_comes (Typed []) Anywhere P m (set_frame outer) (comes_less (Typed []) (Typed []) (With P (Typed [])) (With P Anywhere) m (λ s i. i) (λ v t i. (i.0, tt {0})) h) (frame_set_back outer)))

-- ---- the call of `main`

edge_keeps : (P : Value → Type 0) (noexcept : Bool) (m : Does Value) → Keeps P m → Keeps P (edge_if noexcept m)
edge_keeps P true m h = then_comes (Typed []) P _ h (λ v p. gives_keeps P v p)
edge_keeps P false m h = h

module _ (program : Program) (assertions : List Assertion) (b : Stmts Check) (is : IsMain program b) (default : program.handler ≡ None) (are_typed : AreTyped assertions [] b) (calls : Calls) where
  abbrev main : Function
  main = record { definer = is.definer; noexcept = is.noexcept; result = exit_status; checks = no_checks; body = source.function b }

  given_keeps : (completion : Completion) → IsLeft completion → Keeps (IsIn integers.Int) (value_given program calls exit_status completion)
  given_keeps (return v) h = gives_keeps (IsIn integers.Int) v h
  given_keeps on_to_next h = gives_keeps (IsIn integers.Int) (number (pos 0)) refl
  given_keeps break h = absurd h
  given_keeps continue h = absurd h

  body_keeps : Keeps (IsIn integers.Int) (body program calls exit_status (stmts program calls b))
  body_keeps = then_keeps IsLeft (scope_comes (Typed []) (Typed []) (typed []) (typed []) program calls IsLeft _ (stmts_lead program calls default assertions b [] are_typed)) given_keeps

  preconditions_keep : Keeps Always (preconditions program calls main (main_call program))
  preconditions_keep = then_keeps Always (gives_keeps Always nothing (tt {0})) (λ _ _. none_keep)

  postconditions_keep : Keeps Always (postconditions program calls main (main_call program))
  postconditions_keep = then_keeps Always none_keep (λ _ _. gives_keeps Always nothing (tt {0}))

  call_keeps : Keeps (IsIn integers.Int) (function_call program calls main (main_call program) b)
  call_keeps =
      then_keeps Always preconditions_keep
      (λ _ _. then_keeps (IsIn integers.Int) body_keeps
      (λ v is_in. then_keeps Always (then_comes (Typed []) Always _ postconditions_keep (λ n _. gives_keeps Always n (tt {0})))
      (λ _ _. gives_keeps (IsIn integers.Int) v is_in)))

  abbrev IsTheMain : Function → Type 0
  IsTheMain f = f ≡ main

  main_found : Keeps IsTheMain (some (slice_get program.functions program.main))
  main_found = subst (λ (o : Option Function). Keeps IsTheMain (some o)) (sym is.is_defined) (gives_comes (Typed []) IsTheMain main refl)

  abbrev in_frame : Function → Does Value
  in_frame f = skip >> within (record { unit = unit_of program calls f (main_call program); variables = []; result = None }) (acting program calls f.body f (main_call program))

  main_comes : Comes (Typed []) (With (IsIn integers.Int) Anywhere) (active program calls (main_call program))
  main_comes =
      then_comes (Typed []) Always throws (spend_comes (Typed []) (typed []).of_objects)
      (λ _ _. then_comes (Typed []) IsTheMain throws main_found
      (λ f found. subst (λ (g : Function). Comes (Typed []) (With (IsIn integers.Int) Anywhere) (in_frame g)) (sym found)
      (then_comes (Typed []) Always throws (gives_keeps Always nothing (tt {0})) (λ _ _. within_comes (IsIn integers.Int) _ _ refl (edge_keeps (IsIn integers.Int) is.noexcept _ call_keeps)))))

-- ---- what the call of `main` comes to

never_mixed : (o : Outcome Value) → ComesTo (With (IsIn integers.Int) Anywhere) o → (meaning_of o).answer ≢ ended (Undefined Mixed)
never_mixed (on (number n) t) h e = absurd cc
never_mixed (on (address a) t) h e = absurd h.0
never_mixed (on null t) h e = absurd h.0
never_mixed (on (function v) t) h e = absurd h.0
never_mixed (on (violation v) t) h e = absurd h.0
never_mixed (thrown x t) h e = absurd h
never_mixed (over answer trace) h e = subst IsEnd e h

the_same : (m n : ℤ) → ended (Returned m) ≡ ended (Returned n) → m ≡ n
the_same m n e = cc

returns_int : (o : Outcome Value) (n : ℤ) → ComesTo (With (IsIn integers.Int) Anywhere) o → (meaning_of o).answer ≡ ended (Returned n) → in_range integers.Int n ≡ true
returns_int (on (number m) t) n h e = subst (λ x. in_range integers.Int x ≡ true) (the_same m n e) h.0
returns_int (on (address a) t) n h e = absurd h.0
returns_int (on null t) n h e = absurd h.0
returns_int (on (function v) t) n h e = absurd h.0
returns_int (on (violation v) t) n h e = absurd h.0
returns_int (thrown x t) n h e = absurd h
returns_int (over answer trace) n h e = absurd (subst IsEnd e h)

started : (program : Program) (begins : List Evaluation) (input : List ℕ) (budget : ℕ) → program.globals ≡ [] → Typed [] (start program begins input budget)
started program begins input budget none = (
  types,
  record {
    no_result = refl;
    variables = λ slot type e. absurd (no_slot slot type e);
    objects = subst (λ (globals : List Constant). All (IsObjectOf types (length globals + 1)) (globals_from 1 globals)) (sym none) (All-nil (IsObjectOf types 1));
    are_scalars = All-nil IsScalar;
    temporaries_are_scalars = All-nil IsScalar;
  },
)
  where
    types : Types
    types n = integers.Int

pub well_made : TypedProgramsAreWellMade
unfolding mean mean_within calls_within
well_made program assertions b is default none are_typed = record {
  never_mixed = λ begins input budget _. never_mixed _ (comes begins input budget);
  returns_int = λ begins input budget _ n. returns_int _ n (comes begins input budget);
}
  where
    calls : Calls
    calls = implicit_within program (length program.classes + 1) (calls_within program 4095)

    comes : (begins : List Evaluation) (input : List ℕ) (budget : ℕ) → ComesTo (With (IsIn integers.Int) Anywhere) (active program calls (main_call program) (start program begins input budget))
    comes begins input budget = (main_comes program assertions b is default are_typed calls).comes (start program begins input budget) (started program begins input budget none)
