-- The code that stands for the unit's statements, as they are emitted: this project's own.
use Rattle.std.specs.Prelude.{ℕ, List, [], Option, Some, None, slice_get}
use Rattle.cx_code.specs.declared.code.Instruction.{Instruction}
use Rattle.cx_core.specs.declared.expression.Operand.{Operand}
use Rattle.cx_core.specs.declared.unit.Assertion.{Assertion}
use Rattle.cx_core.specs.declared.statement.Statement.{Statement}
use Rattle.cx_core.specs.Words.{Semantic}
use Rattle.cx_core.specs.Tree as tree
use Rattle.cx_core.specs.Numbers.{times_under}
use Rattle.cx_core.specs.View.{operand_of, stmt_of, stmts_of}
use Rattle.cx_lower.specs.declared.emitter.Emitter.{Emitter}
use Rattle.cx_lower.specs.Code.{operand_code, truth_code, discarded_code, times_code, evaluation_code, stmt_code, stmts_code}

-- the code of an assertion that is in the table
abbrev pub where_listed : Option Assertion → List Instruction → List Instruction
where_listed None code = []
where_listed (Some a) code = code

-- an assertion of the unit's table, by its index, where all have one semantic
abbrev pub asserted_code : Semantic → List Assertion → (start index : ℕ) → (predicate : tree.Operand) → List Instruction
asserted_code semantic assertions start index predicate =
    where_listed (slice_get assertions index) (times_code (times_under semantic 0) (evaluation_code semantic start index predicate))

abbrev pub asserted_by : Emitter → (start index : ℕ) → (predicate : tree.Operand) → List Instruction
asserted_by e = asserted_code e.semantic e.unit.now.assertions

abbrev pub code_of_operand : Operand → List Instruction
code_of_operand a = operand_code (operand_of a)

abbrev pub code_of_truth : Operand → List Instruction
code_of_truth a = truth_code (operand_of a)

abbrev pub code_of_discarded : (start : ℕ) → Operand → List Instruction
code_of_discarded start a = discarded_code start (operand_of a)

abbrev pub code_of_evaluation : Emitter → (start index : ℕ) → Operand → List Instruction
code_of_evaluation e start index predicate = evaluation_code e.semantic start index (operand_of predicate)

abbrev pub code_of_evaluations : Emitter → (start index : ℕ) → Operand → List Instruction
code_of_evaluations e start index predicate = times_code (times_under e.semantic 0) (code_of_evaluation e start index predicate)

abbrev pub code_of_check : Emitter → (start index : ℕ) → Operand → List Instruction
code_of_check e start index predicate = asserted_by e start index (operand_of predicate)

abbrev pub code_of_statement : Emitter → (live start : ℕ) → Statement → List Instruction
code_of_statement e live start s = stmt_code (asserted_by e) e.exit live start (stmt_of s)

abbrev pub code_of_statements : Emitter → (base count start : ℕ) → List Statement → List Instruction
code_of_statements e base count start b = stmts_code (asserted_by e) e.exit base count start (stmts_of b)
