-- A larger budget changes no ending, and only adds events.
use Rattle.std.proofs.Common.{◌≡◌, ◌≢◌, refl, sym, ap, ◌∙◌, ℕ, ◌+◌, List, [], ◌++◌, reverse}
use Rattle.std.proofs.lemmas.List.{append-nil, reverse-append}
use Rattle.cx_core.specs.Program.{Program}
use Rattle.cx_core.specs.Store.{Value, number, address, null, function, violation}
use Rattle.cx_core.specs.Event.{Evaluation, Event, ended, going, waiting, not_a_run}
use Rattle.cx_core.specs.Outcome.{Outcome, on, thrown, over}
use Rattle.cx_core.specs.Meaning.{Meaning, mean, mean_within, running, meaning_of, calls_within, main_call, start, depth_limit}
use Rattle.cx_core.specs.Laws.{LargerBudgetChangesNoEnding, LargerBudgetOnlyAddsEvents, NoBudgetSaysNothing}
use Rattle.cx_core.proofs.EverywhereMeaning.{calls_within_of}
use Rattle.cx_core.proofs.LargerBudget.{Extends, Grows, Grown, Lasts, everything_lasts}

-- the same meaning, but where the budget of the first is spent
same_meaning : (d : ℕ) (o o' : Outcome Value) → Extends d o o' → (meaning_of o).answer ≢ going → meaning_of o' ≡ meaning_of o
same_meaning d (on (number n) s) o' h k = ap meaning_of h
same_meaning d (on (address a) s) o' h k = ap meaning_of h
same_meaning d (on null s) o' h k = ap meaning_of h
same_meaning d (on (function f) s) o' h k = ap meaning_of h
same_meaning d (on (violation v) s) o' h k = ap meaning_of h
same_meaning d (thrown e s) o' h k = ap meaning_of h
same_meaning d (over going trace) o' h k = absurd (k refl)
same_meaning d (over (ended ending) trace) o' h k = ap meaning_of h
same_meaning d (over waiting trace) o' h k = ap meaning_of h
same_meaning d (over not_a_run trace) o' h k = ap meaning_of h

abbrev Continues : Meaning → Meaning → Type 0
Continues m n = (rest : List Event) × (m.trace ++ rest ≡ n.trace)

same_continues : (m n : Meaning) → n ≡ m → Continues m n
same_continues m n e = ([], append-nil m.trace ∙ sym (ap (λ x. x.trace) e))

grown_reversed : (trace later : List Event) → Grown trace later → (rest : List Event) × (reverse trace ++ rest ≡ reverse later)
grown_reversed trace later h = (reverse h.0, sym (ap reverse h.1 ∙ reverse-append h.0 trace))

grown_continues : (trace : List Event) (o : Outcome Value) → Grows trace o → (rest : List Event) × (reverse trace ++ rest ≡ (meaning_of o).trace)
grown_continues trace (on (number n) s) h = grown_reversed trace s.trace h
grown_continues trace (on (address a) s) h = grown_reversed trace s.trace h
grown_continues trace (on null s) h = grown_reversed trace s.trace h
grown_continues trace (on (function f) s) h = grown_reversed trace s.trace h
grown_continues trace (on (violation v) s) h = grown_reversed trace s.trace h
grown_continues trace (thrown e s) h = grown_reversed trace s.trace h
grown_continues trace (over answer later) h = grown_reversed trace later h

events_continue : (d : ℕ) (o o' : Outcome Value) → Extends d o o' → Continues (meaning_of o) (meaning_of o')
events_continue d (on (number n) s) o' h = same_continues _ _ (ap meaning_of h)
events_continue d (on (address a) s) o' h = same_continues _ _ (ap meaning_of h)
events_continue d (on null s) o' h = same_continues _ _ (ap meaning_of h)
events_continue d (on (function f) s) o' h = same_continues _ _ (ap meaning_of h)
events_continue d (on (violation v) s) o' h = same_continues _ _ (ap meaning_of h)
events_continue d (thrown e s) o' h = same_continues _ _ (ap meaning_of h)
events_continue d (over going trace) o' h = grown_continues trace o' h
events_continue d (over (ended ending) trace) o' h = same_continues _ _ (ap meaning_of h)
events_continue d (over waiting trace) o' h = same_continues _ _ (ap meaning_of h)
events_continue d (over not_a_run trace) o' h = same_continues _ _ (ap meaning_of h)

run_of : Program → List Evaluation → List ℕ → ℕ → Outcome Value
run_of program begins bytes budget = calls_within program depth_limit (main_call program) (start program begins bytes budget)

run_extends : (program : Program) (begins : List Evaluation) (bytes : List ℕ) (budget d : ℕ)
    → Extends d (run_of program begins bytes budget) (run_of program begins bytes (budget + d))
unfolding run_of
run_extends program begins bytes budget d =
    (calls_within_of Lasts everything_lasts program depth_limit (main_call program)).1.1 d (start program begins bytes budget)

pub larger_budget_changes_no_ending : LargerBudgetChangesNoEnding
unfolding mean mean_within run_of
larger_budget_changes_no_ending program begins bytes budget d h =
    same_meaning d (run_of program begins bytes budget) (run_of program begins bytes (budget + d)) (run_extends program begins bytes budget d) h

pub larger_budget_only_adds_events : LargerBudgetOnlyAddsEvents
unfolding mean mean_within run_of
larger_budget_only_adds_events program begins bytes budget d =
    events_continue d (run_of program begins bytes budget) (run_of program begins bytes (budget + d)) (run_extends program begins bytes budget d)

pub no_budget_says_nothing : NoBudgetSaysNothing
unfolding running
no_budget_says_nothing program begins bytes = refl
