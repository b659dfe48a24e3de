-- The relation between code and trees holds of an image for `int main() { contract_assert(1 < 2); return 0; }`.
use Rattle.std.proofs.Common.{ℕ, pos, [], ◌∷◌, None, true, false, inl, inr, refl}
use Rattle.std.specs.Prelude.{codes}
use Rattle.std.specs.Fmt.{digits}
use Rattle.cx_code.specs.declared.code.Instruction.{Instruction}
use Rattle.cx_code.specs.declared.image.Image.{Image}
use Rattle.cx_code.specs.declared.image.Function.{Function}
use Rattle.cx_code.specs.Operation.{operation_of}
use Rattle.cx_core.specs.declared.number.IntegerType.TheVariants as types
use Rattle.cx_core.specs.declared.number.BinaryOperator.TheVariants as operators
use Rattle.cx_core.specs.Words.{Assert, Enforce}
use Rattle.cx_core.specs.Tree.{Stmts, next, done, contract_assert, return_value, Operand, operand, Expr, literal, binary, number, Check}
use Rattle.cx_core.specs.Program.{Program, exit_status}
use Rattle.cx_core.specs.Program as tree
use Rattle.cx_emit.specs.Checks.{HaveDefaultHandler}
use Rattle.cx_emit.specs.Stands.{StandsExpr}
use Rattle.cx_emit.specs.Statements.{StandsStmt}
use Rattle.cx_emit.specs.Units.{IsMain, StandsMain, HaveGlobals, no_checks}

abbrev plain : Expr → Operand
plain e = operand None None e

abbrev check : Check
check = record {
  assertion = record { kind = Assert; name = codes "main#assert1"; file = codes "t.cpp"; line = 1; column = 14; comment = codes "1 < 2" };
  semantic = Enforce;
  times = 1;
}

abbrev less : Operand
less = plain (binary operators.Less types.Int (plain (literal (number (pos 1)))) (plain (literal (number (pos 2)))))

abbrev body : Stmts Check
body = next (contract_assert check less) (next (return_value (plain (literal (number (pos 0))))) done)

abbrev program : Program
program = record {
  functions = record { definer = 0; noexcept = false; result = exit_status; checks = no_checks; body = tree.function body } ∷ [];
  classes = [];
  globals = [];
  callers = [];
  main = 0;
  handler = None;
}

abbrev i : ℕ → ℕ → ℕ → Instruction
i code a b = record { code = code; a = a; b = b }

abbrev shell : Function
shell = record { name = codes "main"; counted = true; parameters = 0; slots = 0; result = true; code = i 38 1 0 ∷ i 39 0 0 ∷ []; regions = [] }

abbrev code : Function
code = record {
  name = codes "main!";
  counted = false;
  parameters = 0;
  slots = 0;
  result = true;
  code =
      i 44 0 3 ∷ i 1 0 1 ∷ i 1 0 2 ∷ i 30 0 0 ∷ i 34 1 0 ∷ i 45 0 0 ∷ i 37 9 0 ∷ i 46 0 11 ∷ i 48 0 0
      ∷ i 1 0 0 ∷ i 39 0 0
      ∷ i 1 0 0 ∷ i 35 10 0 ∷ [];
  regions = [];
}

abbrev image : Image
image = record {
  texts = codes "t.cpp" ∷ codes "1 < 2" ∷ [];
  types = [];
  globals = [];
  functions = shell ∷ code ∷ [];
  assertions = record { function = 0; kind = Assert; ordinal = 1; file = 0; comment = 1; line = 1; column = 14 } ∷ [];
  main = 0;
  handler = 0;
}

stands_main : StandsMain image body
unfolding StandsStmt StandsExpr operation_of digits
stands_main = record {
  shell = shell;
  is_first = refl;
  gives_value = refl;
  body = 1;
  calls_body = refl;
  returns = refl;
  code = code;
  is_body = refl;
  is_uncounted = refl;
  body_gives_value = refl;
  end = 11;
  behind = 12;
  exit = 10;
  stands = (
    9,
    inr (
      refl,
      0,
      record { same_name = refl; same_violation = λ mode semantic. refl },
      (
        1,
        5,
        6,
        7,
        record { here = refl; next = refl },
        (4, (4, 4, (2, 3, (2, 2, inl (record { here = refl; next = refl }), refl, refl), (3, 3, inl (record { here = refl; next = refl }), refl, refl), record { here = refl; next = refl }), refl, refl), record { here = refl; next = refl }),
        record { here = refl; next = refl },
        record { here = refl; next = refl },
        (8, record { here = refl; next = refl }, refl),
      ),
    ),
    (11, (10, 10, (10, 10, inl (record { here = refl; next = refl }), refl, refl), inl refl, (10, refl, inl refl)), refl),
  );
  ends_with_zero = record { here = refl; next = refl };
  then_exits = inr refl;
  exits = refl;
}

is_main : IsMain program body
is_main = record { definer = 0; noexcept = false; is_defined = refl }

default_handler : HaveDefaultHandler image program
default_handler = record { in_image = refl; in_program = refl }

have_globals : HaveGlobals image program
have_globals = record { same_store = λ n. tt {0}; same_next = refl }
