-- The image of a unit stands for the body of its program.
use Rattle.std.proofs.Common.{◌≡◌, ℕ, ◌+◌, ◌-◌, ◌*◌, ◌≤◌, [], ◌∷◌, length, Some, inr, refl, subst, ◌∙◌, arith}
use Rattle.cx_code.specs.declared.operation.Operation.TheVariants as does
use Rattle.cx_core.specs.declared.unit.CoreUnit.{CoreUnit}
use Rattle.cx_core.specs.Tree.{Stmts, Check}
use Rattle.cx_emit.specs.Configuration.{operation_at}
use Rattle.cx_emit.specs.Units.{StandsMain}
use Rattle.cx_typed.specs.Built.{most_weight}
use Rattle.cx_typed.specs.Typed.{AreTyped}
use Rattle.cx_typed.specs.Unit.{AreNumbered}
use Rattle.cx_lower.specs.Code.{returns, ends_code, stmts_code, stmts_most, exit_code, exit_of, body_code, check_code}
use Rattle.cx_lower.specs.Tables.{index_of, main_function, body_function, image_of, image_with}
use Rattle.cx_lower.proofs.Operations.{push_is, jump_is, call_is, returns_is}
use Rattle.cx_lower.proofs.Parts.{HasCode, front, back, from_places}
use Rattle.cx_lower.proofs.Placed.{length_ends, same_stmts_length}
use Rattle.cx_lower.proofs.Statements.{stmts_stands}
use Rattle.cx_lower.proofs.Assertions.{listed_is}

has_body : (unit : CoreUnit) (b : Stmts Check) → HasCode (image_of unit b) 1 0 (body_code (check_code (index_of unit.assertions)) b)
unfolding image_with
has_body unit b = from_places (image_of unit b) 1 0 (body_code (check_code (index_of unit.assertions)) b) (λ j. let e : 0 + j ≡ j = omega arith in rw e refl)

-- the table is short, since the names of more than 10^64 assertions repeat
pub body_stands : (unit : CoreUnit) (b : Stmts Check) → AreTyped unit.assertions [] b → AreNumbered 1 unit.assertions → length unit.assertions ≤ most_weight → StandsMain (image_of unit b) b
unfolding image_with body_code
body_stands unit b typed numbered few =
    let image = image_of unit b in
    let index = index_of unit.assertions in
    let most = stmts_most 0 b in
    let exit = exit_of (check_code index) b in
    let code = stmts_code (check_code index) exit 0 0 0 b in
    let ends = ends_code 0 most in
    let end = 0 + length code in
    let whole = has_body unit b in
    let last = back image 1 0 code (exit_code exit most) whole in
    let same = same_stmts_length index 0 exit 0 0 0 0 b in
    let before : end + 1 + 1 ≡ exit - 2 * most = omega (arith, same) in
    let there : end + 1 + 1 + length ends ≡ exit = omega (arith, same, length_ends 0 most) in
    let ending = subst (λ (k : ℕ). HasCode image 1 k ends) before (front image 1 (end + 1 + 1) ends (returns ∷ []) last.1.1) in
    let exits = back image 1 (end + 1 + 1) ends (returns ∷ []) last.1.1 in
    record {
      shell = main_function;
      is_first = refl;
      gives_value = refl;
      body = 1;
      calls_body = call_is 1;
      returns = returns_is;
      code = body_function (check_code index) b;
      is_body = refl;
      is_uncounted = refl;
      body_gives_value = refl;
      end = end;
      behind = end + 1;
      exit = exit;
      stands = stmts_stands image 1 unit.assertions index exit most (listed_is unit b numbered few) (omega arith) (omega arith) ending [] _ 0 0 0 b refl refl refl typed (omega arith) (front image 1 0 code (exit_code exit most) whole);
      ends_with_zero = record { here = last.0 ∙ push_is 0 (omega arith); next = refl };
      then_exits = inr (last.1.0 ∙ jump_is exit);
      exits = subst (λ (k : ℕ). operation_at image 1 k ≡ Some does.Return) there (exits.0 ∙ returns_is);
    }

pub no_handler : (unit : CoreUnit) (b : Stmts Check) → (image_of unit b).handler ≡ 0
unfolding image_with
no_handler unit b = refl

pub no_globals : (unit : CoreUnit) (b : Stmts Check) → (image_of unit b).globals ≡ []
unfolding image_with
no_globals unit b = refl
