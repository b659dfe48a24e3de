use Rattle.cx_core.specs.Outcome.{either}
use Rattle.cx_mean_parts.specs.Seen.{table_of}
use Rattle.cx_mean_expressions.proofs.Opened.{opened-literal, opened-variable, opened-global, opened-function_name, opened-this, opened-result_name, opened-exception_object, opened-getchar, opened-puts}
use Rattle.cx_mean_expressions.proofs.expression.expression.Goals as goal

pub returns-in-Literal : goal.returns-in-Literal
unfolding either
returns-in-Literal c = rw (c.in-Literal.is, opened-literal c.in-Literal.c) (c.valued.ensures (table_of c.args.machine.now.program.now) _ _ c.literal.ensures)

pub returns-in-Variable : goal.returns-in-Variable
unfolding either
returns-in-Variable c = rw (c.in-Variable.is, opened-variable c.in-Variable.slot) (c.valued-in-Variable.ensures (table_of c.args.machine.now.program.now) _ _ c.variable.ensures)

pub returns-in-Global : goal.returns-in-Global
unfolding either
returns-in-Global c = rw (c.in-Global.is, opened-global c.in-Global.index) (c.valued-in-Global.ensures (table_of c.args.machine.now.program.now) _ _ c.global.ensures)

pub returns-in-This : goal.returns-in-This
unfolding either
returns-in-This c = rw (c.in-This.is, opened-this) (c.valued-in-This.ensures (table_of c.args.machine.now.program.now) _ _ c.variable-in-This.ensures)

pub returns-in-FunctionName : goal.returns-in-FunctionName
unfolding either
returns-in-FunctionName c = rw (c.in-FunctionName.is, opened-function_name c.in-FunctionName.function) (c.valued-in-FunctionName.ensures (table_of c.args.machine.now.program.now) _ _ c.function_name.ensures)

pub returns-in-ResultName : goal.returns-in-ResultName
unfolding either
returns-in-ResultName c = rw (c.in-ResultName.is, opened-result_name) (c.valued-in-ResultName.ensures (table_of c.args.machine.now.program.now) _ _ c.result_name.ensures)

pub returns-in-ExceptionObject : goal.returns-in-ExceptionObject
unfolding either
returns-in-ExceptionObject c = rw (c.in-ExceptionObject.is, opened-exception_object) (c.valued-in-ExceptionObject.ensures (table_of c.args.machine.now.program.now) _ _ c.exception_object.ensures)

pub returns-in-Getchar : goal.returns-in-Getchar
unfolding either
returns-in-Getchar c = rw (c.in-Getchar.is, opened-getchar) (c.valued-in-Getchar.ensures (table_of c.args.machine.now.program.now) _ _ c.getchar.ensures)

pub returns-in-Puts : goal.returns-in-Puts
unfolding either
returns-in-Puts c = rw (c.in-Puts.is, opened-puts c.in-Puts.text) (c.valued-in-Puts.ensures (table_of c.args.machine.now.program.now) _ _ (rw c.bytes.ensures at c.puts_literal.ensures))
