-- What it is for a machine to follow a part of a run: where the part goes on or is left by an exception, the machine comes to a configuration that stands for the meaning's state, and where the run ends, the machine ends alike; the steps and the units of the budget pay for each other. This is this project's own.
use Rattle.std.specs.Prelude.{◌≡◌, ◌≢◌, ℕ, ◌+◌, ◌-◌, ◌*◌, ◌≤◌, ℤ, List, Option, true}
use Rattle.cx_core.specs.Words.{Ending, Returned, Terminated, Undefined, Mixed}
use Rattle.cx_core.specs.Event.{Evaluation, Event, ended, going, waiting, not_a_run}
use Rattle.cx_core.specs.Outcome.{Exception, State, Outcome, on, thrown, over}
use Rattle.cx_core.specs.Program.{Program}
use Rattle.cx_core.specs.Store.{Value, number, address, null, function, violation}
use Rattle.cx_core.specs.declared.number.IntegerType.TheVariants as types
use Rattle.cx_core.specs.Number.{in_range}
use Rattle.cx_core.specs.Meaning.{mean, start, main_call, calls_within, depth_limit}
use Rattle.cx_core.specs.Runs.{AreBytes, IsFaithful}
use Rattle.cx_code.specs.declared.image.Image.{Image}
use Rattle.cx_code.specs.State.{initial}
use Rattle.cx_simulation.specs.Machine.{Progress, goes, halts, noted, begun, halted, exec, Takes, begins_ahead}
use Rattle.cx_simulation.specs.ImageMachine.{image_step, image_run}
use Rattle.cx_simulation.specs.Laws.{pay}

-- how far the steps of a part and its units of the budget may differ; a unit pays for `pay` steps, and a step for a unit
pub record Account : Type 0 where
  -- where the part goes on, so many steps fewer were made than its units pay for
  pub saves : ℕ
  -- or so many more
  pub owes : ℕ
  -- where it is left otherwise, so many more
  pub late : ℕ
  -- so many of its units are paid for by steps that were made before it
  pub hand : ℕ

-- one part and then another
pub record IsSum (first second both : Account) : Type 0 where
  pub goes_on : both.saves + first.owes + second.owes ≤ first.saves + second.saves + both.owes
  pub left_first : first.late ≤ both.late
  pub left_second : first.owes + second.late ≤ first.saves + both.late
  pub in_hand : first.hand + second.hand ≤ both.hand

-- a part, and what is done where an exception has left it
pub record IsCaught (part handler both : Account) : Type 0 where
  pub goes_on : both.saves + part.late + handler.owes ≤ handler.saves + both.owes
  pub left : part.late + handler.late ≤ both.late
  pub in_hand : part.hand + handler.hand ≤ both.hand

-- the one account allows no more than the other
pub record IsWithin (less more : Account) : Type 0 where
  pub goes_on : more.saves + less.owes ≤ less.saves + more.owes
  pub left : less.late ≤ more.late
  pub in_hand : less.hand ≤ more.hand

module _ {C : Type 0} (step : C → Progress C) where
  -- from c, which stands for the state s, so many steps lead to a configuration that stands for the state t;
  -- s and t are told the evaluations of the next steps
  pub record Leads (n : ℕ) (s : State) (c : C) (saves owes hand : ℕ) (Stands : C → Type 0) (t : State) : Type 0 where
    pub steps : ℕ
    pub to : C
    pub takes : Takes step c s.trace steps to t.trace
    pub stands : Stands to
    pub told : t.begins ≡ begins_ahead step (n - steps) to
    pub units_paid : s.budget ≤ t.budget + steps + hand
    pub steps_paid : steps + saves + pay * t.budget ≤ pay * s.budget + owes

  -- the machine ends so
  pub record Halts (s : State) (c : C) (late : ℕ) (ending : Ending) (trace : List Event) : Type 0 where
    pub steps : ℕ
    pub halts_so : exec step steps c s.trace ≡ halted ending trace
    pub steps_paid : steps ≤ pay * s.budget + late

  -- the machine goes on where the meaning says no more; the steps are enough for that
  pub record Stays (s : State) (c : C) (late : ℕ) (AreEnough : ℕ → Type 0) (trace : List Event) : Type 0 where
    pub steps : ℕ
    pub to : C
    pub takes : Takes step c s.trace steps to trace
    pub enough : AreEnough steps
    pub steps_paid : steps ≤ pay * s.budget + late

  module _ {A : Type 0} (n : ℕ) (s : State) (c : C) (account : Account) (On : A → C → State → Type 0) (Flies : Exception → C → State → Type 0) where
    -- by what the part comes to; nothing is asked where the meaning is undefined as no well made program is
    abbrev pub Comes : Outcome A → Type 0
    Comes (on v t) = Leads n s c account.saves account.owes account.hand (λ d. On v d t) t
    Comes (thrown e t) = Leads n s c 0 account.late account.hand (λ d. Flies e d t) t
    Comes (over (ended ending) trace) = ending ≢ Undefined Mixed → Halts s c account.late ending trace
    Comes (over going trace) = Stays s c account.late (λ steps. s.budget ≤ steps + 1 + account.hand) trace
    Comes (over waiting trace) = Stays s c account.late (λ steps. n ≤ steps) trace
    Comes (over not_a_run trace) = ⊥

    -- the machine at c, told the evaluations of its next n steps, follows what a part comes to from the state s:
    -- On says which configurations stand for a state where the part goes on, the operands below included, and Flies
    -- which ones do where an exception flies, with the regions that are still to be tried
    pub record Follows (outcome : Outcome A) : Type 0 where
      pub comes : Comes outcome

  -- what one step does: no unit is spent, and the step begins at most the evaluation that is told
  pub record StepsTo (s : State) (c : C) (Stands : C → Type 0) (t : State) : Type 0 where
    pub to : C
    pub event : Option Event
    pub goes_so : step c ≡ goes to event
    pub noted_so : t.trace ≡ noted event s.trace
    pub begun_so : s.begins ≡ begun event t.begins
    pub same_budget : t.budget ≡ s.budget
    pub stands : Stands to

  pub record StepHalts (s : State) (c : C) (ending : Ending) (trace : List Event) : Type 0 where
    pub event : Option Event
    pub halts_so : step c ≡ halts ending event
    pub noted_so : trace ≡ noted event s.trace

  abbrev pub Steps : {A : Type 0} → State → C → (A → C → State → Type 0) → (Exception → C → State → Type 0) → Outcome A → Type 0
  Steps s c On Flies (on v t) = StepsTo s c (λ d. On v d t) t
  Steps s c On Flies (thrown e t) = StepsTo s c (λ d. Flies e d t) t
  Steps s c On Flies (over (ended ending) trace) = ending ≢ Undefined Mixed → StepHalts s c ending trace
  Steps s c On Flies (over going trace) = ⊥
  Steps s c On Flies (over waiting trace) = ⊥
  Steps s c On Flies (over not_a_run trace) = ⊥

  -- ---- a whole program

  -- the machine ends so in a few steps more
  pub record EndsSoon (ending : Ending) (d : C) (t : State) : Type 0 where
    pub steps : ℕ
    pub halts_so : exec step steps d t.trace ≡ halted ending t.trace
    pub few : steps ≤ pay

  -- where `main` has given its value
  abbrev pub HasReturned : Value → C → State → Type 0
  HasReturned (number v) d t = in_range types.Int v ≡ true → EndsSoon (Returned v) d t
  HasReturned (address a) d t = Unit {0}
  HasReturned null d t = Unit {0}
  HasReturned (function f) d t = Unit {0}
  HasReturned (violation v) d t = Unit {0}

  -- where an exception has left it
  abbrev pub IsUncaught : Exception → C → State → Type 0
  IsUncaught e d t = EndsSoon Terminated d t

-- the steps of a whole run and its units, before the last steps
abbrev pub whole_account : Account
whole_account = record { saves = 0; owes = 31; late = 31; hand = 0 }

-- a well made program comes to no undefined behaviour of the kind that only others have, and returns a number of `int`
pub record IsWellMade (program : Program) : Type 0 where
  pub never_mixed : (begins : List Evaluation) (input : List ℕ) (budget : ℕ) → AreBytes input → (mean program begins input budget).answer ≢ ended (Undefined Mixed)
  pub returns_int : (begins : List Evaluation) (input : List ℕ) (budget : ℕ) → AreBytes input → (n : ℤ) → (mean program begins input budget).answer ≡ ended (Returned n) → in_range types.Int n ≡ true

-- the image's machine follows the call of `main`
abbrev pub FollowsMain : Image → Program → List ℕ → Type 0
FollowsMain image program input =
    let c = initial image input in
    (n budget : ℕ) → let s = start program (begins_ahead (image_step image) n c) input budget in
    Follows (image_step image) n s c whole_account (HasReturned (image_step image)) (IsUncaught (image_step image)) (calls_within program depth_limit (main_call program) s)

-- an image whose machine follows the call of `main` on each input is faithful to the program
abbrev pub FollowedCallsOfMainArePermitted : Type 0
FollowedCallsOfMainArePermitted =
    (image : Image) (program : Program) → IsWellMade program → ((input : List ℕ) → AreBytes input → FollowsMain image program input) → IsFaithful (image_run image) program
