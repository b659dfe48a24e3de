use Rattle.std.proofs.Common.{◌≡◌, drop, max}
use Rattle.cx_includes.specs.OpenTokens.{most_from, most_open_tokens}
use Rattle.cx_includes.specs.Counting.{counts_of, shapes_of, CountsUpTo}
use Rattle.cx_includes.proofs.depth.open_tokens.Given as goal

abbrev pub invariant-loop-at : goal.invariant-loop-at
invariant-loop-at l = record {
  few : CountsUpTo l.counting l.at;
  most : max l.most (most_from (counts_of l.counting) (drop l.at (shapes_of l.unit))) ≡ most_open_tokens (shapes_of l.unit);
}
