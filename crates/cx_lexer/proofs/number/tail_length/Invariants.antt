use Rattle.std.proofs.Common.{◌≡◌, ◌≤◌, ◌+◌, ◌-◌, length, drop}
use Rattle.cx_lexer.specs.Scan.{digit_length, tail_length}
use Rattle.cx_lexer.proofs.number.tail_length.Given as goal

abbrev pub invariant-loop-step : goal.invariant-loop-step
invariant-loop-step l = record {
  within : l.at + l.step ≤ length l.rest;
  step : l.step ≡ digit_length l.base (drop l.at l.rest);
  tail : l.at + tail_length l.base (drop l.at l.rest) ≡ tail_length l.base l.rest;
}

abbrev pub decreases-loop-step : goal.decreases-loop-step
decreases-loop-step l = length l.rest - l.at
