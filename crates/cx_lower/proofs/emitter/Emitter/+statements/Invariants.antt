use Rattle.std.proofs.Common.{◌≡◌, ◌++◌, length, drop}
use Rattle.cx_core.specs.View.{stmts_of}
use Rattle.cx_lower.specs.Literals.{StmtsFit}
use Rattle.cx_lower.specs.Emitted.{code_of_statements}
use Rattle.cx_lower.proofs.emitter.Emitter.+statements.Given as goal

abbrev pub invariant-put_statements-loop-s : goal.invariant-put_statements-loop-s
invariant-put_statements-loop-s l = record {
  code : l.code ++ code_of_statements l.self l.base l.count (length l.code) (drop l.s-index l.b) ≡ l.fn.code ++ code_of_statements l.self l.base 0 (length l.fn.code) l.b;
  literals : StmtsFit (stmts_of (drop l.s-index l.b));
}
