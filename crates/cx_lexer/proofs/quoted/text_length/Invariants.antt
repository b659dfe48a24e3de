use Rattle.std.proofs.Common.{◌≡◌, ◌≤◌, ◌+◌, ◌-◌, length, drop}
use Rattle.cx_lexer.specs.Scan.{text_step, text_length}
use Rattle.cx_lexer.proofs.quoted.text_length.Given as goal

abbrev pub invariant-loop-step : goal.invariant-loop-step
invariant-loop-step l = record {
  within : l.at + l.step ≤ length l.rest;
  step : l.step ≡ text_step (drop l.at l.rest);
  tail : l.at + text_length (drop l.at l.rest) ≡ text_length l.rest;
}

abbrev pub decreases-loop-step : goal.decreases-loop-step
decreases-loop-step l = length l.rest - l.at
