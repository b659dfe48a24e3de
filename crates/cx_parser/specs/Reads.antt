-- What the parser says of a list of marks: how far its stack is, and at its end the grammar's answer; this project's own.
use Rattle.std.specs.Prelude.{◌≡◌, ◌≢◌, ℕ, zero, suc, ◌+◌, ◌<◌, List, [], ◌++◌, length, Option}
use Rattle.cx_syntax.specs.declared.mark.Mark.{Mark}
use Rattle.cx_table.specs.declared.symbol.Symbol.{Symbol}
use Rattle.cx_table.specs.declared.table.Advance.TheVariants.{Goes, Eats, Stays}
use Rattle.cx_parser.specs.declared.recognizer.Progress.{Progress}
use Rattle.cx_parser.specs.declared.recognizer.Progress.TheVariants.{Of, Nothing}
use Rattle.cx_parser.specs.declared.recognizer.Settled.{Settled}
use Rattle.cx_parser.specs.declared.recognizer.Settled.TheVariants.{Ate, Ended, Stuck}
use Rattle.cx_parser.specs.declared.recognizer.ParseFault.{ParseFault}
use Rattle.cx_parser.specs.declared.recognizer.ParseFault.TheVariants.{OutOfMemory, SyntaxAt}
use Rattle.cx_parser.specs.Machine.{config, exec, start}
use Rattle.cx_values.specs.Values.{Values}
use Rattle.cx_syntax.specs.Place.{Grammatical, IsPlace}
use Rattle.cx_syntax.specs.Spell.{Marks, numbered}
use Rattle.cx_table.specs.Steps.{Bare, bare, bare_eats, bare_goes, bare_stays, wait}

abbrev pub gone : Bare → List Symbol → List Symbol
gone (bare_goes j) k = j
gone _ k = k

-- so many steps that take no token
unfoldable pub bare_exec : ℕ → List Symbol → Option Mark → List Symbol
bare_exec zero k o = k
bare_exec (suc n) k o = bare_exec n (gone (bare k o) k) o

-- so many steps that take no token lead from the one stack to the other
unfoldable pub Silent : List Symbol → List Symbol → Option Mark → Type 0
Silent k j o = (n : ℕ) × (bare_exec n k o ≡ j)

abbrev pub Steps : Progress → Option Mark → List Symbol → List Symbol → Type 0
Steps (Of Goes) o k j = (bare k o ≡ bare_goes j) × (wait j < wait k)
Steps (Of Eats) o k j = bare k o ≡ bare_eats j
Steps (Of Stays) o k j = (bare k o ≡ bare_stays) × (k ≢ [])
Steps Nothing o k j = k ≡ []

-- what is reached before a token is taken
abbrev pub Settles : Settled → Option Mark → List Symbol → List Symbol → Type 0
Settles Ate o k j = (i : List Symbol) × Silent k i o × (bare i o ≡ bare_eats j)
Settles Ended o k j = Silent k [] o
Settles Stuck o k j = (i : List Symbol) × Silent k i o × (bare i o ≡ bare_stays) × (i ≢ [])

-- the machine comes to this stack with the marks `w` left of `u ++ w`
unfoldable pub At : Marks → Marks → List Symbol → Type 0
At u w k = (n : ℕ) × (vs : Values) × (exec n (start (numbered 0 (u ++ w))) ≡ config k vs (numbered (length u) w))

-- so it does with so many marks of the list taken
unfoldable pub Stands : Marks → ℕ → List Symbol → Type 0
Stands ts p k = (u : Marks) × (w : Marks) × (u ++ w ≡ ts) × (length u ≡ p) × At u w k

abbrev pub Reads : Settled → Marks → ℕ → List Symbol → Type 0
Reads Ate ts p k = Stands ts (p + 1) k
Reads Ended ts p k = IsPlace ts p
Reads Stuck ts p k = IsPlace ts p

abbrev pub ReadsEnd : Settled → Marks → Type 0
ReadsEnd Ended ts = Grammatical ts
ReadsEnd Ate ts = IsPlace ts (length ts)
ReadsEnd Stuck ts = IsPlace ts (length ts)

abbrev pub IsFault : Marks → ParseFault → Type 0
IsFault ts OutOfMemory = Unit {0}
IsFault ts (SyntaxAt p) = IsPlace ts p
