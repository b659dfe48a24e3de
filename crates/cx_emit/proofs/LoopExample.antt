-- The relation between code and trees holds of an image for
--     int main() {
--         int x = 0;
--         while (x < 3) { int y = x + 1; if (2 < y) return y; putchar(y); x = y; }
--         for (int z = 0; z < 2; ++z) { if (z) continue; break; }
--     }
use Rattle.std.proofs.Common.{ℕ, pos, [], ◌∷◌, Some, None, true, false, inl, inr, refl, arith}
use Rattle.std.specs.Prelude.{codes}
use Rattle.cx_code.specs.declared.code.Instruction.{Instruction}
use Rattle.cx_code.specs.declared.image.Image.{Image}
use Rattle.cx_code.specs.declared.image.Function.{Function}
use Rattle.cx_code.specs.Operation.{operation_of}
use Rattle.cx_types.specs.declared.value_type.Scalar.TheVariants as scalars
use Rattle.cx_core.specs.declared.number.IntegerType.TheVariants as types
use Rattle.cx_core.specs.declared.number.BinaryOperator.TheVariants as operators
use Rattle.cx_core.specs.Tree.{scalar, Stmt, Stmts, next, done, empty, expression, variable_declaration, block, if_else, while_loop, for_loop, while, break, continue, return_value, Operand, operand, Expr, literal, variable, binary, assign, prefix_step, putchar, value, number, Check}
use Rattle.cx_core.specs.Program.{Program, exit_status}
use Rattle.cx_core.specs.Program as tree
use Rattle.cx_emit.specs.Checks.{HaveDefaultHandler}
use Rattle.cx_emit.specs.Stands.{StandsExpr}
use Rattle.cx_emit.specs.Scopes.{Surroundings, around_body, inside, in_loop}
use Rattle.cx_emit.specs.Statements.{StandsCondition, StandsStmt}
use Rattle.cx_emit.specs.Units.{IsMain, StandsMain, HaveGlobals, no_checks}

abbrev plain : Expr → Operand
plain e = operand None None e

abbrev read : ℕ → Operand
read slot = operand (Some (scalar scalars.Int)) None (variable slot)

abbrev int : ℕ → Operand
int n = plain (literal (number (pos n)))

abbrev less : Operand → Operand → Operand
less a b = plain (binary operators.Less types.Int a b)

abbrev declare : ℕ → Operand → Stmt Check
declare slot a = variable_declaration slot (scalar scalars.Int) (value a)

abbrev set : ℕ → Operand → Stmt Check
set slot a = expression (plain (assign (variable slot) a))

abbrev counting : Stmts Check
counting =
    next (declare 1 (plain (binary operators.Add types.Int (read 0) (int 1))))
    (next (if_else (less (int 2) (read 1)) (return_value (read 1)) empty)
    (next (expression (plain (putchar (read 1))))
    (next (set 0 (read 1)) done)))

abbrev leaving : Stmts Check
leaving = next (if_else (read 1) continue empty) (next break done)

abbrev body : Stmts Check
body =
    next (declare 0 (int 0))
    (next (while_loop (less (read 0) (int 3)) (block counting))
    (next (for_loop (declare 1 (int 0)) (while (less (read 1) (int 2))) (expression (plain (prefix_step operators.Add types.Int (variable 1)))) (block leaving)) done))

abbrev program : Program
program = record {
  functions = record { definer = 0; noexcept = false; result = exit_status; checks = no_checks; body = tree.function body } ∷ [];
  classes = [];
  globals = [];
  callers = [];
  main = 0;
  handler = None;
}

abbrev i : ℕ → ℕ → ℕ → Instruction
i code a b = record { code = code; a = a; b = b }

abbrev shell : Function
shell = record { name = codes "main"; counted = true; parameters = 0; slots = 0; result = true; code = i 38 1 0 ∷ i 39 0 0 ∷ []; regions = [] }

abbrev code : Function
code = record {
  name = codes "main!";
  counted = false;
  parameters = 0;
  slots = 2;
  result = true;
  code =
      -- x is declared
      i 9 1 0 ∷ i 7 0 0 ∷ i 1 0 0 ∷ i 12 0 0
      -- x < 3
      ∷ i 35 5 0 ∷ i 7 0 0 ∷ i 11 0 0 ∷ i 1 0 3 ∷ i 30 0 0 ∷ i 34 1 0 ∷ i 36 44 0
      -- y is declared
      ∷ i 9 1 1 ∷ i 7 1 0 ∷ i 7 0 0 ∷ i 11 0 0 ∷ i 1 0 1 ∷ i 18 3 0 ∷ i 12 0 0
      -- 2 < y
      ∷ i 1 0 2 ∷ i 7 1 0 ∷ i 11 0 0 ∷ i 30 0 0 ∷ i 34 1 0 ∷ i 36 31 0
      -- y is returned, after y and x have ended
      ∷ i 7 1 0 ∷ i 11 0 0 ∷ i 7 1 0 ∷ i 10 0 0 ∷ i 7 0 0 ∷ i 10 0 0 ∷ i 35 75 0
      -- y is written
      ∷ i 7 1 0 ∷ i 11 0 0 ∷ i 35 34 0 ∷ i 41 0 0 ∷ i 5 0 0
      -- x is set
      ∷ i 7 1 0 ∷ i 11 0 0 ∷ i 7 0 0 ∷ i 6 0 0 ∷ i 12 0 0
      -- y ends, and the next turn begins
      ∷ i 7 1 0 ∷ i 10 0 0 ∷ i 35 5 0
      -- z is declared
      ∷ i 9 1 1 ∷ i 7 1 0 ∷ i 1 0 0 ∷ i 12 0 0
      -- z < 2
      ∷ i 35 49 0 ∷ i 7 1 0 ∷ i 11 0 0 ∷ i 1 0 2 ∷ i 30 0 0 ∷ i 34 1 0 ∷ i 36 70 0
      -- z is tested, the loop continued or left
      ∷ i 7 1 0 ∷ i 11 0 0 ∷ i 34 1 0 ∷ i 36 60 0 ∷ i 35 61 0 ∷ i 35 70 0
      -- ++z, and the next turn begins
      ∷ i 7 1 0 ∷ i 4 0 0 ∷ i 11 0 0 ∷ i 34 3 0 ∷ i 1 0 1 ∷ i 18 3 0 ∷ i 34 3 0 ∷ i 12 0 0 ∷ i 35 49 0
      -- z and x end, and 0 is returned
      ∷ i 7 1 0 ∷ i 10 0 0 ∷ i 7 0 0 ∷ i 10 0 0 ∷ i 1 0 0 ∷ i 39 0 0 ∷ [];
  regions = [];
}

abbrev image : Image
image = record { texts = []; types = []; globals = []; functions = shell ∷ code ∷ []; assertions = []; main = 0; handler = 0 }

-- the body of the first loop, and of the second
abbrev in_while : Surroundings
in_while = in_loop (around_body 75) 44 43

abbrev in_for : Surroundings
in_for = in_loop (inside (around_body 75) (0 ∷ [])) 70 61

x_declared : StandsStmt image 1 (around_body 75) [] (declare 0 (int 0)) 0 4
unfolding StandsStmt StandsExpr operation_of
x_declared = record { is_unused = (tt {0}, tt {0}); is_slot = omega arith; made = 1; placed = 2; valued = 3; makes = record { here = refl; next = refl }; gets = record { here = refl; next = refl }; stands = (3, 3, inl (record { here = refl; next = refl }), refl, refl); stores = record { here = refl; next = refl } }

x_compared : StandsCondition image 1 (while (less (read 0) (int 3))) 5 11 44
unfolding StandsStmt StandsExpr operation_of
x_compared = (10, (9, (9, 9, (7, 8, (6, 7, record { here = refl; next = refl }, record { here = refl; next = refl }, refl), (8, 8, inl (record { here = refl; next = refl }), refl, refl), record { here = refl; next = refl }), refl, refl), record { here = refl; next = refl }), record { here = refl; next = refl })

y_declared : StandsStmt image 1 (inside in_while (0 ∷ [])) [] (declare 1 (plain (binary operators.Add types.Int (read 0) (int 1)))) 11 18
unfolding StandsStmt StandsExpr operation_of
y_declared = record { is_unused = (tt {0}, (((λ e. absurd (omega (arith, e))), tt {0}), tt {0})); is_slot = omega arith; made = 12; placed = 13; valued = 17; makes = record { here = refl; next = refl }; gets = record { here = refl; next = refl }; stands = (17, 17, (15, 16, (14, 15, record { here = refl; next = refl }, record { here = refl; next = refl }, refl), (16, 16, inl (record { here = refl; next = refl }), refl, refl), record { here = refl; next = refl }), refl, refl); stores = record { here = refl; next = refl } }

y_compared : StandsCondition image 1 (while (less (int 2) (read 1))) 18 24 31
unfolding StandsStmt StandsExpr operation_of
y_compared = (23, (22, (22, 22, (19, 21, (19, 19, inl (record { here = refl; next = refl }), refl, refl), (20, 21, record { here = refl; next = refl }, record { here = refl; next = refl }, refl), record { here = refl; next = refl }), refl, refl), record { here = refl; next = refl }), record { here = refl; next = refl })

-- y and x end below the value
y_returned : StandsStmt image 1 (inside in_while (0 ∷ [])) (1 ∷ []) (return_value (read 1)) 24 31
unfolding StandsStmt StandsExpr operation_of
y_returned = (26, 26, (25, 26, record { here = refl; next = refl }, record { here = refl; next = refl }, refl), inl refl, (28, (27, 28, record { here = refl; next = refl }, record { here = refl; next = refl }, refl), (30, (29, 30, record { here = refl; next = refl }, record { here = refl; next = refl }, refl), inr refl)))

y_written : StandsStmt image 1 (inside in_while (0 ∷ [])) (1 ∷ []) (expression (plain (putchar (read 1)))) 31 36
unfolding StandsStmt StandsExpr operation_of
y_written = (35, (33, 34, (32, 33, record { here = refl; next = refl }, record { here = refl; next = refl }, refl), refl, record { here = refl; next = refl }), record { here = refl; next = refl })

x_set : StandsStmt image 1 (inside in_while (0 ∷ [])) (1 ∷ []) (set 0 (read 1)) 36 41
unfolding StandsStmt StandsExpr operation_of
x_set = (38, 39, 40, (37, 38, record { here = refl; next = refl }, record { here = refl; next = refl }, refl), record { here = refl; next = refl }, record { here = refl; next = refl }, record { here = refl; next = refl })

counts : StandsStmt image 1 (around_body 75) (0 ∷ []) (while_loop (less (read 0) (int 3)) (block counting)) 4 44
unfolding StandsStmt StandsExpr operation_of
counts = (refl, 5, 11, 43, refl, x_compared, (18, y_declared, (31, (refl, refl, 24, 31, 31, y_compared, y_returned, inl refl, refl), (36, y_written, (41, x_set, (42, 43, record { here = refl; next = refl }, record { here = refl; next = refl }, refl))))), refl)

z_declared : StandsStmt image 1 (inside (around_body 75) (0 ∷ [])) [] (declare 1 (int 0)) 44 48
unfolding StandsStmt StandsExpr operation_of
z_declared = record { is_unused = (tt {0}, (((λ e. absurd (omega (arith, e))), tt {0}), tt {0})); is_slot = omega arith; made = 45; placed = 46; valued = 47; makes = record { here = refl; next = refl }; gets = record { here = refl; next = refl }; stands = (47, 47, inl (record { here = refl; next = refl }), refl, refl); stores = record { here = refl; next = refl } }

z_compared : StandsCondition image 1 (while (less (read 1) (int 2))) 49 55 70
unfolding StandsStmt StandsExpr operation_of
z_compared = (54, (53, (53, 53, (51, 52, (50, 51, record { here = refl; next = refl }, record { here = refl; next = refl }, refl), (52, 52, inl (record { here = refl; next = refl }), refl, refl), record { here = refl; next = refl }), refl, refl), record { here = refl; next = refl }), record { here = refl; next = refl })

z_tested : StandsCondition image 1 (while (read 1)) 55 59 60
unfolding StandsStmt StandsExpr operation_of
z_tested = (58, (57, (56, 57, record { here = refl; next = refl }, record { here = refl; next = refl }, refl), record { here = refl; next = refl }), record { here = refl; next = refl })

z_continued : StandsStmt image 1 (inside in_for (1 ∷ [])) [] continue 59 60
unfolding StandsStmt StandsExpr operation_of
z_continued = (record { depth = 1; break_to = 70; continue_to = 61 }, refl, (59, refl, inr refl))

z_left : StandsStmt image 1 (inside in_for (1 ∷ [])) [] break 60 61
unfolding StandsStmt StandsExpr operation_of
z_left = (record { depth = 1; break_to = 70; continue_to = 61 }, refl, (60, refl, inr refl))

z_stepped : StandsStmt image 1 (inside (around_body 75) (0 ∷ [])) (1 ∷ []) (expression (plain (prefix_step operators.Add types.Int (variable 1)))) 61 69
unfolding StandsStmt StandsExpr operation_of
z_stepped = (62, record { here = refl; next = refl }, (63, 64, 65, 66, 67, 68, record { here = refl; next = refl }, record { here = refl; next = refl }, record { here = refl; next = refl }, record { here = refl; next = refl }, record { here = refl; next = refl }, record { here = refl; next = refl }, record { here = refl; next = refl }))

repeats : StandsStmt image 1 (around_body 75) (0 ∷ []) (for_loop (declare 1 (int 0)) (while (less (read 1) (int 2))) (expression (plain (prefix_step operators.Add types.Int (variable 1)))) (block leaving)) 44 72
unfolding StandsStmt StandsExpr operation_of
repeats = (refl, refl, refl, refl, 48, 49, 55, 61, 69, 70, z_declared, refl, z_compared, (60, (refl, refl, 59, 60, 60, z_tested, z_continued, inl refl, refl), (61, z_left, refl)), z_stepped, refl, (71, 72, record { here = refl; next = refl }, record { here = refl; next = refl }, refl))

stands_main : StandsMain image body
unfolding StandsStmt StandsExpr operation_of
stands_main = record {
  shell = shell;
  is_first = refl;
  gives_value = refl;
  body = 1;
  calls_body = refl;
  returns = refl;
  code = code;
  is_body = refl;
  is_uncounted = refl;
  body_gives_value = refl;
  end = 74;
  behind = 75;
  exit = 75;
  stands = (4, x_declared, (44, counts, (72, repeats, (73, 74, record { here = refl; next = refl }, record { here = refl; next = refl }, refl))));
  ends_with_zero = record { here = refl; next = refl };
  then_exits = inl refl;
  exits = refl;
}

is_main : IsMain program body
is_main = record { definer = 0; noexcept = false; is_defined = refl }

default_handler : HaveDefaultHandler image program
default_handler = record { in_image = refl; in_program = refl }

have_globals : HaveGlobals image program
have_globals = record { same_store = λ n. tt {0}; same_next = refl }
