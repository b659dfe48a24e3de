-- The image of a typed unit within the limits is valid.
use Rattle.std.proofs.Common.{◌+◌, ◌<◌, ◌≤◌, [], ◌∷◌, length, All, refl, arith}
use Rattle.std.specs.Prelude.{sum_by}
use Rattle.std.proofs.lemmas.List.Elements.{All-from_recursion, recursion_from_All, All-nil}
use Rattle.cx_code.specs.declared.image.Function.{Function}
use Rattle.cx_code.specs.declared.image.TypeEntry.{TypeEntry}
use Rattle.cx_code.specs.Operation.{operation_of}
use Rattle.cx_code.specs.Rules.{IsValid, IsValidFunction, HasDropper, IsHookAt}
use Rattle.cx_core.specs.declared.unit.CoreUnit.{CoreUnit}
use Rattle.cx_core.specs.declared.unit.Assertion.{Assertion}
use Rattle.cx_core.specs.Tree as tree
use Rattle.cx_core.specs.Tree.{Stmts, Check}
use Rattle.cx_typed.specs.Typed.{AreTyped, IsListed}
use Rattle.cx_typed.specs.Unit.{AreNumbered}
use Rattle.cx_typed.specs.Weight.{stmts_weight}
use Rattle.cx_typed.specs.Built.{most_weight, most_comments, longest_name}
use Rattle.cx_lower.specs.Code.{check_code}
use Rattle.cx_lower.specs.Tables.{index_of, main_function, body_function, image_of, image_with}
use Rattle.cx_lower.proofs.Indices.{listed_below}
use Rattle.cx_lower.proofs.Functions.{main_valid, main_droppers, body_valid, body_droppers}
use Rattle.cx_lower.proofs.Stored.{length_entries, is_storable}

pub image_is_valid : (unit : CoreUnit) (b : Stmts Check) → AreTyped unit.assertions [] b → AreNumbered 1 unit.assertions → stmts_weight b ≤ most_weight
    → length unit.assertions ≤ most_weight → sum_by (λ (a : Assertion). length a.comment) unit.assertions ≤ most_comments
    → All (λ (a : Assertion). length a.file ≤ longest_name) unit.assertions → length unit.name ≤ longest_name → IsValid (image_of unit b)
unfolding image_with
image_is_valid unit b typed numbered light few comments files name =
    let image = image_of unit b in
    let index = index_of unit.assertions in
    let functions = main_function ∷ body_function (check_code index) b ∷ [] in
    let listed : (a : tree.Assertion) → IsListed unit.assertions a → index a.name < length image.assertions =
    λ a is. omega (arith, listed_below unit.assertions a is, length_entries unit.name (length unit.assertions + 1) 1 unit.assertions) in
    record {
      storable = is_storable unit b (record { light = light; few_assertions = few; comments = comments; files = recursion_from_All (λ (a : Assertion). length a.file ≤ longest_name) unit.assertions files; name = name });
      each_function = All-from_recursion (IsValidFunction image) functions (main_valid image (body_function (check_code index) b) refl refl refl, (body_valid image unit.assertions index listed b typed light, tt));
      main = record { parameters = refl; result = refl };
      handler = λ some. absurd (omega arith);
      droppers = All-nil (λ (entry : TypeEntry). IsHookAt image entry.dropper);
      thrown = All-from_recursion (λ (function : Function). All (λ i. HasDropper image (operation_of i)) function.code) functions (main_droppers image (body_function (check_code index) b) refl refl refl, (body_droppers image unit.assertions index listed b typed light, tt));
    }
