-- The largest number of each counted quantity, and the text that names it. This project's own.
use Rattle.std.specs.Prelude.{ℕ, List, codes}
use Rattle.cx_outside.specs.declared.limit.Limit.{Limit}
use Rattle.cx_outside.specs.declared.limit.Limit.TheVariants as limits

abbrev pub number_of : Limit → ℕ
number_of limits.UnitText = 1048576
number_of limits.Units = 64
number_of limits.Name = 1024
number_of limits.OpenTokens = 1024
number_of limits.FunctionTokens = 4096
number_of limits.Leaves = 256
number_of limits.Functions = 4096
number_of limits.Assertions = 4096
number_of limits.Weight = 100000
number_of limits.Plan = 1048576
number_of limits.Input = 16777216
number_of limits.JournalText = 134217728
number_of limits.File = 134217728

abbrev pub text_of : Limit → List ℕ
text_of limits.UnitText = codes "unit-text"
text_of limits.Units = codes "units"
text_of limits.Name = codes "name"
text_of limits.OpenTokens = codes "open-tokens"
text_of limits.FunctionTokens = codes "function-tokens"
text_of limits.Leaves = codes "leaves"
text_of limits.Functions = codes "functions"
text_of limits.Assertions = codes "assertions"
text_of limits.Weight = codes "weight"
text_of limits.Plan = codes "plan"
text_of limits.Input = codes "input"
text_of limits.JournalText = codes "journal"
text_of limits.File = codes "file"
