use Rattle.std.proofs.Common.{◌≡◌, drop, length}
use Rattle.std.specs.Prelude.{nat_le}
use Rattle.std.specs.List.{list_all}
use Rattle.cx_includes.specs.declared.assembled.Placed.{Placed}
use Rattle.cx_includes.specs.Assembled.{bytes_of_placed}
use Rattle.cx_front.specs.Front.{has_short_tokens, longest_token}
use Rattle.cx_front.proofs.token.has_short_tokens.Given as goal

abbrev pub invariant-loop-placed : goal.invariant-loop-placed
invariant-loop-placed l = list_all (λ (placed : Placed). nat_le (length (bytes_of_placed l.list placed)) longest_token) (drop l.placed-index l.list.placed) ≡ has_short_tokens l.list
