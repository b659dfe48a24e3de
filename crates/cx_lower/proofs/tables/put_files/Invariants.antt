use Rattle.std.proofs.Common.{◌≡◌, ◌++◌, drop}
use Rattle.cx_lower.specs.Tables.{other_files}
use Rattle.cx_lower.proofs.tables.put_files.Given as goal

abbrev pub invariant-loop-assertion : goal.invariant-loop-assertion
invariant-loop-assertion l = l.texts ++ other_files l.unit_name (drop l.assertion-index l.assertions) ≡ l.fn.texts ++ other_files l.unit_name l.assertions
