-- Runs that take no token.
use Rattle.std.proofs.Common.{◌≡◌, ℕ, zero, suc, List, Option, refl, ◌∙◌, ap}
use Rattle.cx_syntax.specs.declared.mark.Mark.{Mark}
use Rattle.cx_table.specs.declared.symbol.Symbol.{Symbol}
use Rattle.cx_parser.specs.Reads.{Silent, bare_exec, gone}
use Rattle.cx_table.specs.Steps.{bare, bare_goes}

exec_more : (n : ℕ) (k j i : List Symbol) (o : Option Mark) → bare_exec n k o ≡ j → bare j o ≡ bare_goes i → bare_exec (suc n) k o ≡ i
unfolding bare_exec
exec_more zero k j i o h g = ap (λ x. gone x k) (ap (λ x. bare x o) h ∙ g)
exec_more (suc n) k j i o h g = exec_more n (gone (bare k o) k) j i o h g

pub silent_none : (k : List Symbol) (o : Option Mark) → Silent k k o
unfolding Silent bare_exec
silent_none k o = (0, refl)

pub silent_more : (k j i : List Symbol) (o : Option Mark) → Silent k j o → bare j o ≡ bare_goes i → Silent k i o
unfolding Silent
silent_more k j i o h g = (suc h.0, exec_more h.0 k j i o h.1 g)
