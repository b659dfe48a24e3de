-- Variables have the slots of their depth: those of each scope are consecutive, from behind those of the scopes around it.
use Rattle.std.proofs.Common.{◌≡◌, ℕ, zero, suc, ◌+◌, ◌*◌, ◌≤◌, List, [], ◌∷◌, length, inl, refl, sym, ap, subst, ◌∙◌, arith}
use Rattle.cx_code.specs.declared.image.Image.{Image}
use Rattle.cx_code.specs.Operation.{operation_of}
use Rattle.cx_emit.specs.Scopes.{IsOther, IsUnused, StandsEnds, StandsExit}
use Rattle.cx_lower.specs.Code.{get, ends_code}
use Rattle.cx_lower.proofs.Operations.{get_is, end_is}
use Rattle.cx_lower.proofs.Parts.{HasCode}

-- so many slots from `base` on, the latest first
abbrev pub segment : (base count : ℕ) → List ℕ
segment base zero = []
segment base (suc n) = (base + n) ∷ segment base n

-- so many variables are visible in these scopes, the innermost first
abbrev pub AreSegments : (live : ℕ) → List (List ℕ) → Type 0
AreSegments live [] = live ≡ 0
AreSegments live (now ∷ scopes) = (base count : ℕ) × (now ≡ segment base count) × (live ≡ base + count) × AreSegments base scopes

-- ---- the next slot is a new one

is_other : (slot base count : ℕ) → base + count ≤ slot → IsOther slot (segment base count)
is_other slot base zero le = tt
is_other slot base (suc n) le = (omega arith, is_other slot base n (omega arith))

pub is_unused : (slot live : ℕ) (scopes : List (List ℕ)) → live ≤ slot → AreSegments live scopes → IsUnused slot scopes
is_unused slot live [] le are = tt
is_unused slot live (now ∷ scopes) le are =
    let base = are.0 in
    let count = are.1 in
    (subst (IsOther slot) (sym are.2) (is_other slot base count (omega arith)), is_unused slot base scopes (omega arith) are.4)

-- ---- the code that ends objects

module _ (image : Image) (function : ℕ) where
  pub ends_stand : (base count from : ℕ) → HasCode image function from (ends_code base count) → StandsEnds image function (segment base count) from (from + 2 * count)
  unfolding ends_code
  ends_stand base zero from h = omega arith
  ends_stand base (suc n) from h =
      let to : from + 1 + 1 + 2 * n ≡ from + 2 * suc n = omega arith in (
        from + 1,
        from + 1 + 1,
        record { here = h.0 ∙ get_is (base + n); next = refl },
        record { here = h.1.0 ∙ end_is; next = refl },
        subst (λ (k : ℕ). StandsEnds image function (segment base n) (from + 1 + 1) k) to (ends_stand base n (from + 1 + 1) h.1.1),
      )

  -- what ends all objects ends the latest ones first
  one_more : (base n from : ℕ) → HasCode image function from (ends_code 0 (base + suc n)) → HasCode image function from (ends_code 0 (suc (base + n)))
  one_more base n from h = let e : base + suc n ≡ suc (base + n) = omega arith in subst (λ (k : ℕ). HasCode image function from (ends_code 0 k)) e h

  latest : (base count from : ℕ) → HasCode image function from (ends_code 0 (base + count)) → HasCode image function from (ends_code base count)
  unfolding ends_code
  latest base zero from h = tt
  latest base (suc n) from h =
      let more = one_more base n from h in
      let slot : 0 + (base + n) ≡ base + n = omega arith in
      (more.0 ∙ ap (λ (k : ℕ). operation_of (get k)) slot, (more.1.0, latest base n (from + 1 + 1) more.1.1))

  pub earlier : (base count from : ℕ) → HasCode image function from (ends_code 0 (base + count)) → HasCode image function (from + 2 * count) (ends_code 0 base)
  unfolding ends_code
  earlier base zero from h =
      let here : from ≡ from + 2 * 0 = omega arith in
      let all : base + 0 ≡ base = omega arith in
      subst (λ (k : ℕ). HasCode image function k (ends_code 0 base)) here (subst (λ (k : ℕ). HasCode image function from (ends_code 0 k)) all h)
  earlier base (suc n) from h =
      let there : from + 1 + 1 + 2 * n ≡ from + 2 * suc n = omega arith in
      subst (λ (k : ℕ). HasCode image function k (ends_code 0 base)) there (earlier base n (from + 1 + 1) (one_more base n from h).1.1)

  -- the objects of all scopes end
  pub exit_stands : (scopes : List (List ℕ)) (live from : ℕ) → AreSegments live scopes → HasCode image function from (ends_code 0 live) → StandsExit image function (length scopes) scopes from (from + 2 * live)
  exit_stands [] live from are h = inl (omega arith)
  exit_stands (now ∷ scopes) live from are h =
      let base = are.0 in
      let count = are.1 in
      let whole = subst (λ (k : ℕ). HasCode image function from (ends_code 0 k)) are.3 h in
      let p = from + 2 * count in
      let to : p + 2 * base ≡ from + 2 * live = omega arith in (
        p,
        subst (λ (slots : List ℕ). StandsEnds image function slots from p) (sym are.2) (ends_stand base count from (latest base count from whole)),
        subst (λ (k : ℕ). StandsExit image function (length scopes) scopes p k) to (exit_stands scopes base p are.4 (earlier base count from whole)),
      )
