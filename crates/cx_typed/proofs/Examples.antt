-- Statements that are typed, and some that aren't, and what a program of typed ones means, computed: of
--     int main() {
--         int x = 0;
--         while (x < 2) { contract_assert(x < 2); char y = x + 65; putchar(y); x = y - 64; }
--         return x;
--     }
use Rattle.std.proofs.Common.{◌≡◌, ℕ, pos, false, [], ◌∷◌, Some, None, inr, refl, arith}
use Rattle.std.specs.Prelude.{codes}
use Rattle.cx_types.specs.declared.value_type.Scalar.{Scalar}
use Rattle.cx_types.specs.declared.value_type.Scalar.TheVariants as scalars
use Rattle.cx_core.specs.declared.number.IntegerType.{IntegerType}
use Rattle.cx_core.specs.declared.number.IntegerType.TheVariants as types
use Rattle.cx_core.specs.declared.number.BinaryOperator.TheVariants as operators
use Rattle.cx_core.specs.declared.unit.Assertion.{Assertion}
use Rattle.cx_core.specs.Words.{Assert, Definer, Enforce, Holds, Returned, Undefined, Unset}
use Rattle.cx_core.specs.Event.{Evaluation, out, begin, verdict, ended}
use Rattle.cx_core.specs.Tree.{scalar, Check, Stmts, next, done, expression, variable_declaration, block, while_loop, contract_assert, return_value, Operand, operand, Expr, literal, variable, binary, assign, putchar, value, number}
use Rattle.cx_core.specs.Program.{Program, function, exit_status}
use Rattle.cx_core.specs.Meaning.{mean, running}
use Rattle.cx_core.specs.View.{assertion_of}
use Rattle.cx_emit.specs.Units.{no_checks}
use Rattle.cx_typed.specs.Typed.{Gives, IsCondition, AreTypedWith, AreTyped}

abbrev plain : Expr → Operand
plain e = operand None None e

abbrev read : Scalar → ℕ → Operand
read s slot = operand (Some (scalar s)) None (variable slot)

abbrev int : ℕ → Operand
int n = plain (literal (number (pos n)))

abbrev x_is_less : Operand
x_is_less = plain (binary operators.Less types.Int (read scalars.Int 0) (int 2))

abbrev assertion : Assertion
assertion = record { kind = Assert; name = codes "main#assert1"; file = codes "a.cpp"; line = 3; column = 25; comment = codes "x < 2" }

abbrev body_of_loop : Stmts Check
body_of_loop =
    next (contract_assert (record { assertion = assertion_of assertion; semantic = Enforce; times = 1 }) x_is_less)
    (next (variable_declaration 1 (scalar scalars.Char) (value (operand None (Some types.Char) (binary operators.Add types.Int (read scalars.Int 0) (int 65)))))
    (next (expression (plain (putchar (operand (Some (scalar scalars.Char)) (Some types.Int) (variable 1)))))
    (next (expression (plain (assign (variable 0) (plain (binary operators.Subtract types.Int (operand (Some (scalar scalars.Char)) (Some types.Int) (variable 1)) (int 64)))))) done)))

abbrev body : Stmts Check
body = next (variable_declaration 0 (scalar scalars.Int) (value (int 0))) (next (while_loop x_is_less (block body_of_loop)) (next (return_value (read scalars.Int 0)) done))

abbrev program_with : Stmts Check → Program
program_with b = record {
  functions = record { definer = 0; noexcept = false; result = exit_status; checks = no_checks; body = function b } ∷ [];
  classes = [];
  globals = [];
  callers = [];
  main = 0;
  handler = None;
}

-- ---- it is typed

x_is_compared : IsCondition (types.Int ∷ []) x_is_less
unfolding Gives
x_is_compared = (types.Bool, (types.Bool, (refl, refl, (types.Int, (refl, refl), refl), (types.Int, (omega arith, refl), refl)), refl))

loop_is_typed : AreTyped (assertion ∷ []) (types.Int ∷ []) body_of_loop
unfolding AreTypedWith Gives
loop_is_typed = (
  ((inr refl, (0, assertion, refl, refl)), x_is_compared),
  (
    (refl, (types.Int, (refl, refl, (types.Int, (refl, refl), refl), (types.Int, (omega arith, refl), refl)), refl)),
    (
      (types.Char, (refl, refl), refl),
      (
        (types.Int, refl, (types.Int, (refl, refl, (types.Char, (refl, refl), refl), (types.Int, (omega arith, refl), refl)), refl)),
        tt {0},
      ),
    ),
  ),
)

is_typed : AreTyped (assertion ∷ []) [] body
unfolding AreTypedWith Gives
is_typed = ((refl, (types.Int, (omega arith, refl), refl)), ((x_is_compared, refl, loop_is_typed), ((types.Int, (refl, refl), refl), tt {0})))

-- ---- and what it means

abbrev told : Evaluation
told = record { assertion = codes "main#assert1"; party = Definer; semantic = Enforce }

it_writes_and_returns :
    mean (program_with body) (told ∷ told ∷ []) [] 64
    ≡ record { trace = begin told ∷ verdict Holds ∷ out 65 ∷ begin told ∷ verdict Holds ∷ out 66 ∷ []; answer = ended (Returned (pos 2)) }
unfolding running
it_writes_and_returns = refl

-- ---- a variable is visible in its own initialiser, where it is unset: int main(){ int x = x; }

abbrev itself : Stmts Check
itself = next (variable_declaration 0 (scalar scalars.Int) (value (read scalars.Int 0))) done

itself_is_typed : AreTyped [] [] itself
unfolding AreTypedWith Gives
itself_is_typed = ((refl, (types.Int, (refl, refl), refl)), tt {0})

it_is_read_unset : mean (program_with itself) [] [] 64 ≡ record { trace = []; answer = ended (Undefined Unset) }
unfolding running
it_is_read_unset = refl

-- ---- what isn't typed

-- a variable of a block that has ended
unseen : AreTyped [] [] (next (block itself) (next (return_value (read scalars.Int 0)) done)) → ⊥
unfolding AreTypedWith Gives
unseen h = not_there h.1.0.0 h.1.0.1.1
  where
    not_there : (type : IntegerType) → None ≡ Some type → ⊥
    not_there type e = cc

-- a variable that is read as an object of another type
otherwise_read : Gives (types.Char ∷ []) (read scalars.Int 0) types.Int → ⊥
unfolding Gives
otherwise_read h = apart h.0 h.1.0 h.1.1
  where
    apart : (type : IntegerType) → Some types.Int ≡ Some type → Some types.Char ≡ Some type → ⊥
    apart type e f = cc
