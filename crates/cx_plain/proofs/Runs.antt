-- The machine computes the meaning: each step keeps what a run comes to.
use Rattle.std.proofs.Common.{◌≡◌, refl, sym, ap, ◌∙◌, ℕ, zero, suc, List, [], ◌∷◌, ◌++◌}
use Rattle.cx_core.specs.Program.{Program}
use Rattle.cx_core.specs.Store.{Value}
use Rattle.cx_core.specs.Event.{Evaluation, Event, Answer}
use Rattle.cx_core.specs.Outcome.{State, Outcome, on, thrown as thrown', over, Exception, Does, after, either, ◌>>=◌, gives, throws}
use Rattle.cx_core.specs.Meaning.{mean, mean_within, meaning_of, start, main_call, calls_within, depth_limit}
use Rattle.cx_plain.specs.Task as task
use Rattle.cx_plain.specs.Task.{Left, given, thrown, Task, Frame, Next, go}
use Rattle.cx_plain.specs.Step.{on_value, step_task, step_given, step_thrown}
use Rattle.cx_plain.specs.Run.{Config, running, passing, placed, settled, step_config, steps_from, first}
use Rattle.cx_plain.specs.Laws.{ValueIsTheMeaning, ExceptionIsTheMeaning, EndIsTheMeaning}
use Rattle.cx_plain.proofs.Flow.{flow, flow_either}
use Rattle.cx_plain.proofs.Denoted.{Rest, task_means, given_means, thrown_means, under, next_means, left_means}
use Rattle.cx_plain.proofs.CallSteps.{task_steps}
use Rattle.cx_plain.proofs.FrameSteps.{given_steps, thrown_steps}

module _ (program : Program) where
  -- what comes after everything
  abbrev pub end : Rest
  end = record { on_given = λ g. on_value g gives; on_thrown = throws }

  abbrev pub config_means : Config → Does Value
  config_means (running t frames) = task_means program t (under program frames end)
  config_means (passing left frames) = left_means left (under program frames end)

  under_append : (more frames : List Frame) (k : Rest) → under program (more ++ frames) k ≡ under program more (under program frames k)
  under_append [] frames k = refl
  under_append (f ∷ more) frames k = λ i. record {
    on_given = λ g. given_means program f g (under_append more frames k i);
    on_thrown = λ e. thrown_means program f e (under_append more frames k i);
  }

  placed_means : (frames : List Frame) (n : Next) → config_means (placed frames n) ≡ next_means program n (under program frames end)
  placed_means frames (task.give g) = refl
  placed_means frames (go t more) = ap (task_means program t) (under_append more frames end)

  settled_means : (frames : List Frame) (next : Does Next)
      → either (settled frames next) config_means throws ≡ either next (λ n. next_means program n (under program frames end)) (under program frames end).on_thrown
  unfolding either gives throws
  settled_means frames next = flow_either next (λ n. gives (placed frames n)) (λ e. gives (passing (thrown e) frames)) config_means throws
      ∙ (λ i. either next (λ n. placed_means frames n i) (under program frames end).on_thrown)

  pub config_steps : (c : Config) → config_means c ≡ step_config program c >>= config_means
  unfolding either gives throws
  config_steps (running t frames) = task_steps program t (under program frames end) ∙ sym (settled_means frames (step_task program t))
  config_steps (passing left []) = refl
  config_steps (passing (given g) (f ∷ frames)) = given_steps program f g (under program frames end) ∙ sym (settled_means frames (step_given program f g))
  config_steps (passing (thrown e) (f ∷ frames)) = thrown_steps program f e (under program frames end) ∙ sym (settled_means frames (step_thrown program f e))

  pub steps_mean : (n : ℕ) (c : Config) → config_means c ≡ steps_from program n c >>= config_means
  unfolding steps_from either gives throws
  steps_mean zero c = refl
  steps_mean (suc n) c = config_steps c
      ∙ (λ i. either (step_config program c) (λ d. steps_mean n d i) throws)
      ∙ sym (flow (step_config program c) (steps_from program n) config_means throws)

  given_back : (o : Outcome Value) → after o gives throws ≡ o
  unfolding gives throws
  given_back (on v s) = refl
  given_back (thrown' e s) = refl
  given_back (over answer trace) = refl

  first_means : config_means (first program) ≡ calls_within program depth_limit (main_call program)
  unfolding either gives throws
  first_means = λ i s. given_back (calls_within program depth_limit (main_call program) s) i

  -- after any number of steps from the call of `main`, what is left to do comes to what the program means
  pub machine_means : (begins : List Evaluation) (bytes : List ℕ) (budget n : ℕ)
      → mean program begins bytes budget ≡ meaning_of ((steps_from program n (first program) >>= config_means) (start program begins bytes budget))
  unfolding mean mean_within
  machine_means begins bytes budget n =
      λ i. meaning_of ((sym first_means ∙ steps_mean n (first program)) i (start program begins bytes budget))

  -- ---- for a program that takes the steps

  -- the meaning is what the first configuration comes to
  pub mean_is : (begins : List Evaluation) (bytes : List ℕ) (budget : ℕ)
      → mean program begins bytes budget ≡ meaning_of (config_means (first program) (start program begins bytes budget))
  unfolding mean mean_within
  mean_is begins bytes budget = λ i. meaning_of (sym first_means i (start program begins bytes budget))

  -- a step that goes on leaves it to the next configuration
  pub step_means : (c d : Config) (s t : State) → step_config program c s ≡ on d t → config_means c s ≡ config_means d t
  unfolding either
  step_means c d s t h = (λ i. config_steps c i s) ∙ ap (λ o. after o config_means throws) h

  -- after the end nothing comes
  pub step_is_over : (c : Config) (answer : Answer) (s : State) (trace : List Event) → step_config program c s ≡ over answer trace → config_means c s ≡ over answer trace
  unfolding either
  step_is_over c answer s trace h = (λ i. config_steps c i s) ∙ ap (λ o. after o config_means throws) h

  -- what a run without frames has come to
  pub given_means_value : (v : Value) (s : State) → config_means (passing (given (task.value v)) []) s ≡ on v s
  unfolding gives
  given_means_value v s = refl

  pub thrown_means_exception : (e : Exception) (s : State) → config_means (passing (thrown e) []) s ≡ thrown' e s
  unfolding throws
  thrown_means_exception e s = refl

  -- what the machine comes to is the meaning
  pub comes_to : (begins : List Evaluation) (bytes : List ℕ) (budget n : ℕ) (o : Outcome Config) → steps_from program n (first program) (start program begins bytes budget) ≡ o
      → mean program begins bytes budget ≡ meaning_of (after o config_means throws)
  unfolding either
  comes_to begins bytes budget n o h = machine_means begins bytes budget n ∙ ap (λ p. meaning_of (after p config_means throws)) h

-- the laws, at each program
pub value_is_the_meaning : ValueIsTheMeaning
unfolding gives
value_is_the_meaning program begins bytes budget n v s h = comes_to program begins bytes budget n (on (passing (given (task.value v)) []) s) h

pub exception_is_the_meaning : ExceptionIsTheMeaning
unfolding throws
exception_is_the_meaning program begins bytes budget n e s h = comes_to program begins bytes budget n (on (passing (thrown e) []) s) h

pub end_is_the_meaning : EndIsTheMeaning
end_is_the_meaning program begins bytes budget n answer trace h = comes_to program begins bytes budget n (over answer trace) h
