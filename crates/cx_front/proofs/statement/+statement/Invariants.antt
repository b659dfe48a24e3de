use Rattle.std.proofs.Common.{◌≡◌, ◌+◌, ◌++◌, Some, length, take}
use Rattle.cx_syntax.specs.View.{stmts_of}
use Rattle.cx_core.specs.View.{stmts_of as cores_of}
use Rattle.cx_front.specs.Front.{all_assertions_in, names_after, stmts_in}
use Rattle.cx_front.proofs.statement.+statement.Given as goal

abbrev pub invariant-statements_in-loop-statement : goal.invariant-statements_in-loop-statement
invariant-statements_in-loop-statement l = record {
  stands : Some (cores_of l.told.items) ≡ stmts_in l.list (length l.initial.assertions + 1) l.base l.initial.names.items (stmts_of (take l.statement-index l.statements));
  visible : l.names.items ≡ names_after l.initial.names.items (stmts_of (take l.statement-index l.statements));
  added : l.assertions ≡ l.initial.assertions ++ all_assertions_in l.list (length l.initial.assertions + 1) (stmts_of (take l.statement-index l.statements));
}
