use Rattle.std.proofs.Common.{◌≡◌, ◌++◌, drop}
use Rattle.cx_lower.specs.Tables.{comments_of}
use Rattle.cx_lower.proofs.tables.put_comments.Given as goal

abbrev pub invariant-loop-assertion : goal.invariant-loop-assertion
invariant-loop-assertion l = l.texts ++ comments_of (drop l.assertion-index l.assertions) ≡ l.fn.texts ++ comments_of l.assertions
