use Rattle.std.proofs.Common.{◌≡◌, ℕ, List}
use Rattle.cx_core.specs.Event.{Evaluation}
use Rattle.cx_core.specs.Meaning.{mean, meaning_of, start}
use Rattle.cx_plain.proofs.Runs.{config_means}
use Rattle.cx_plain_state.specs.Seen.{state_of}
use Rattle.cx_mean_parts.specs.Seen.{table_of, program_of}
use Rattle.cx_mean.specs.Runs.{config_of}
use Rattle.cx_mean.proofs.run.run.Given as goal

-- what is left to do comes to what the program means
abbrev pub invariant-loop-step : goal.invariant-loop-step
invariant-loop-step l = let p = program_of l.machine.program.now in (begins : List Evaluation) (input : List ℕ) (budget : ℕ) →
    state_of l.fn.state ≡ start p begins input budget →
    mean p begins input budget ≡ meaning_of (config_means p (config_of (table_of l.machine.program.now) l.at l.stack.items) (state_of l.state))
