-- Which units are lowered; the limits are this project's own.
use Rattle.std.specs.Prelude.{ℕ, ◌≤◌, [], List, length, sum_by}
use Rattle.std.specs.List.{All}
use Rattle.cx_core.specs.declared.unit.CoreUnit.{CoreUnit}
use Rattle.cx_core.specs.declared.unit.Assertion.{Assertion}
use Rattle.cx_core.specs.declared.statement.Statement.{Statement}
use Rattle.cx_core.specs.View.{stmts_of}
use Rattle.cx_typed.specs.Typed.{AreTypedIn}
use Rattle.cx_typed.specs.Weight.{stmts_weight}
use Rattle.cx_typed.specs.Unit.{IsMainAlone, AreNumbered}

-- the most expressions and statements of a unit, which also bounds the depth of its operands
abbrev pub most_weight : ℕ
most_weight = 4096

-- the most bytes of all comments
abbrev pub most_comments : ℕ
most_comments = 8388608

abbrev pub longest_name : ℕ
longest_name = 1024

-- a unit of `main` alone with typed statements, within the limits
pub record IsBuilt (unit : CoreUnit) (statements : List Statement) : Type 0 where
  pub alone : IsMainAlone unit statements
  pub typed : AreTypedIn unit.assertions [] (stmts_of statements)
  pub light : stmts_weight (stmts_of statements) ≤ most_weight
  pub numbered : AreNumbered 1 unit.assertions
  pub few_assertions : length unit.assertions ≤ most_weight
  pub short_comments : sum_by (λ (a : Assertion). length a.comment) unit.assertions ≤ most_comments
  pub short_files : All (λ (a : Assertion). length a.file ≤ longest_name) unit.assertions
  pub short_name : length unit.name ≤ longest_name
