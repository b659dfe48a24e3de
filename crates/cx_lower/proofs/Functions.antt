-- The two functions of the image of a unit are valid.
use Rattle.std.proofs.Common.{◌≡◌, ℕ, zero, suc, ◌+◌, ◌-◌, ◌*◌, ◌<◌, ◌≤◌, List, [], ◌∷◌, ◌++◌, length, true, Some, All, refl, sym, subst, arith, inl, inr, pos}
use Rattle.std.proofs.lemmas.Bool.{cases_lt}
use Rattle.std.specs.Prelude.{slice_get}
use Rattle.std.proofs.lemmas.Option.{slice_get_within}
use Rattle.cx_code.specs.declared.code.Instruction.{Instruction}
use Rattle.cx_code.specs.declared.image.Image.{Image}
use Rattle.cx_code.specs.declared.image.Function.{Function}
use Rattle.cx_code.specs.declared.operation.Operation.TheVariants as does
use Rattle.cx_code.specs.Operation.{operation_of}
use Rattle.cx_code.specs.Reached.{depth_after}
use Rattle.cx_code.specs.Rules.{IsValidFunction, HasDropper}
use Rattle.cx_core.specs.declared.unit.Assertion.{Assertion}
use Rattle.cx_core.specs.Tree as tree
use Rattle.cx_core.specs.Tree.{Stmts, Check}
use Rattle.cx_typed.specs.Typed.{IsListed, AreTyped}
use Rattle.cx_typed.specs.Weight.{stmts_weight}
use Rattle.cx_lower.specs.Code.{returns, ends_code, stmts_code, stmts_most, exit_of, exit_code, body_code, check_code}
use Rattle.cx_lower.specs.Tables.{main_function, body_function}
use Rattle.cx_lower.proofs.Operations.{push_is, get_is, end_is, jump_is, call_is, returns_is}
use Rattle.cx_lower.proofs.Depths.{At, AreAt, at_front, at_back, all_there, AreLocal, local_append}
use Rattle.cx_lower.proofs.Reached.{HasPlacesAt, droppers, is_valid_function}
use Rattle.cx_lower.proofs.Flows.{Flow, Exits}
use Rattle.cx_lower.proofs.StatementFlows.{stmts_flow}
use Rattle.cx_lower.proofs.Placed.{same_stmts_length}

-- ---- the code behind the statements

-- where objects end above the value that is returned
abbrev ends_depths : ℕ → List ℕ
ends_depths zero = []
ends_depths (suc n) = 1 ∷ 2 ∷ ends_depths n

length_depths : (n : ℕ) → length (ends_depths n) ≡ 2 * n
length_depths zero = refl
length_depths (suc n) = omega (arith, length_depths n)

-- at each object's end there is that one operand
ends_at : (depths : List ℕ) (n live start : ℕ) → live ≤ n → AreAt depths start (ends_depths n) → At depths (start + 2 * n) 1 → At depths (start + 2 * (n - live)) 1
ends_at depths zero live start le at behind = let e : start + 2 * 0 ≡ start + 2 * (0 - live) = omega arith in subst (λ (n : ℕ). At depths n 1) e behind
ends_at depths (suc n) live start le at behind =
    let e : start + 2 * suc n ≡ start + 1 + 1 + 2 * n = omega arith in
    elim (cases_lt live (suc n)) [
      | inl lt ↦
          let there : start + 1 + 1 + 2 * (n - live) ≡ start + 2 * (suc n - live) = omega arith in
          subst (λ (n : ℕ). At depths n 1) there (ends_at depths n live (start + 1 + 1) (omega arith) at.1.1 (subst (λ (n : ℕ). At depths n 1) e behind))
      | inr ge ↦ let here : start ≡ start + 2 * (suc n - live) = omega arith in subst (λ (n : ℕ). At depths n 1) here at.0
    ]

ends_local : (image : Image) (function : Function) (depths : List ℕ) (base n start : ℕ) → base + n ≤ function.slots → AreAt depths start (ends_depths n) → At depths (start + 2 * n) 1 → At depths start 1 × AreLocal image function depths start (ends_code base n) (ends_depths n)
unfolding ends_code
ends_local image function depths base zero start room at behind = let e : start + 2 * 0 ≡ start = omega arith in (subst (λ (n : ℕ). At depths n 1) e behind, tt)
ends_local image function depths base (suc n) start room at behind =
    let e : start + 2 * suc n ≡ start + 1 + 1 + 2 * n = omega arith in
    let rest = ends_local image function depths base n (start + 1 + 1) (omega arith) at.1.1 (subst (λ (n : ℕ). At depths n 1) e behind) in (
      at.0,
      (
        (does.Get (base + n), get_is (base + n), record { enough = omega arith; shallow = omega arith; ours = omega arith; onto = λ next follows. subst (λ (n : ℕ). At depths n 2) (sym follows) at.1.0 }),
        ((does.End, end_is, record { enough = omega arith; shallow = omega arith; ours = tt; onto = λ next follows. subst (λ (n : ℕ). At depths n 1) (sym follows) rest.0 }), rest.1),
      ),
    )

-- ---- the function with the body

module _ (image : Image) (assertions : List Assertion) (index : List ℕ → ℕ) (listed : (a : tree.Assertion) → IsListed assertions a → index a.name < length image.assertions) (b : Stmts Check) (typed : AreTyped assertions [] b) (light : stmts_weight b ≤ 4096) where
  abbrev function : Function
  function = body_function (check_code index) b

  body_has : HasPlacesAt image function
  unfolding body_code
  body_has =
      let exit = exit_of (check_code index) b in
      let most = stmts_most 0 b in
      let code = stmts_code (check_code index) exit 0 0 0 b in
      let ends = ends_code 0 most in
      let flow : Flow image function exit most 0 0 code 0 = stmts_flow image function exit most assertions index listed (omega arith) b [] 0 0 0 refl typed light (omega arith) in
      let behind = 0 ∷ 1 ∷ (ends_depths most ++ 1 ∷ []) in
      let depths = flow.made ++ behind in
      let start = 0 + length code in
      let at = all_there depths in
      let many : 0 + length flow.made ≡ start = omega (arith, flow.many) in
      let at_behind = subst (λ (n : ℕ). AreAt depths n behind) many (at_back depths 0 flow.made behind at) in
      let at_ends = at_front depths (start + 1 + 1) (ends_depths most) (1 ∷ []) at_behind.1.1 in
      let over : start + 1 + 1 + length (ends_depths most) ≡ start + 1 + 1 + 2 * most = omega (arith, length_depths most) in
      let at_return = subst (λ (n : ℕ). At depths n 1) over (at_back depths (start + 1 + 1) (ends_depths most) (1 ∷ []) at_behind.1.1).0 in
      let place : exit ≡ start + 1 + 1 + 2 * most = omega (arith, same_stmts_length index exit 0 0 0 0 0 b) in
      let at_exit = subst (λ (n : ℕ). At depths n 1) (sym place) at_return in
      let exits : Exits depths exit most = λ live le.
      let there : start + 1 + 1 + 2 * (most - live) ≡ exit - 2 * live = omega (arith, place) in
      subst (λ (n : ℕ). At depths n 1) there (ends_at depths most live (start + 1 + 1) le at_ends at_return) in
      let first = flow.local depths (at_front depths 0 flow.made behind at) at_behind.0 exits in
      let ending = ends_local image function depths 0 most (start + 1 + 1) (omega arith) at_ends at_return in
      let final : AreLocal image function depths (start + 1 + 1 + length ends) (returns ∷ []) (1 ∷ []) =
      ((does.Return, returns_is, record { enough = omega arith; shallow = omega arith; ours = tt; onto = λ next follows. absurd follows }), tt) in
      let tail : AreLocal image function depths start (exit_code exit most) behind = (
        (does.Push (pos 0), push_is 0 (omega arith), record { enough = omega arith; shallow = omega arith; ours = tt; onto = λ next follows. subst (λ (n : ℕ). At depths n 1) (sym follows) at_behind.1.0 }),
        (
          (does.Jump exit, jump_is exit, record { enough = omega arith; shallow = omega arith; ours = tt; onto = λ next follows. subst (λ (n : ℕ). At depths n 1) (sym follows) at_exit }),
          local_append image function depths (start + 1 + 1) ends (returns ∷ []) (ends_depths most) (1 ∷ []) ending.1 final,
        ),
      ) in
      record {
        no_regions = refl;
        depths = depths;
        starts = first.0;
        local = local_append image function depths 0 code (exit_code exit most) flow.made behind first.1 tail;
      }

  pub body_valid : IsValidFunction image function
  body_valid = is_valid_function image function body_has

  pub body_droppers : All (λ (i : Instruction). HasDropper image (operation_of i)) function.code
  body_droppers = droppers image function body_has

-- ---- `main`, which calls it

module _ (image : Image) (body : Function) (is_body : slice_get image.functions 1 ≡ Some body) (no_parameters : body.parameters ≡ 0) (gives : body.result ≡ true) where
  main_has : HasPlacesAt image main_function
  main_has =
      let there = slice_get_within image.functions 1 body is_body in
      let given : depth_after image main_function (does.Call 1 0) 0 ≡ 1 = rw (is_body, gives) refl in
      let depths = 0 ∷ 1 ∷ [] in
      record {
        no_regions = refl;
        depths = depths;
        starts = refl;
        local = (
          (does.Call 1 0, call_is 1, record { enough = omega arith; shallow = omega arith; ours = (there, rw is_body no_parameters); onto = λ next follows. subst (λ (n : ℕ). At depths next n) (sym given) (subst (λ (n : ℕ). At depths n 1) (sym follows) refl) }),
          ((does.Return, returns_is, record { enough = omega arith; shallow = omega arith; ours = tt; onto = λ next follows. absurd follows }), tt),
        );
      }

  pub main_valid : IsValidFunction image main_function
  main_valid = is_valid_function image main_function main_has

  pub main_droppers : All (λ (i : Instruction). HasDropper image (operation_of i)) main_function.code
  main_droppers = droppers image main_function main_has
