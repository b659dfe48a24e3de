-- The lowest number of two properties is the lesser of their lowest.
use Rattle.std.proofs.Common.{◌≡◌, ◌⊎◌, ℕ, ◌+◌, ◌<◌, ◌≤◌, ◌∙◌, min, ap, subst, sym, List, length, get_or, slice_get, Option, Some, None, arith, inl, inr}
use Rattle.std.proofs.lemmas.Bool.{cases_lt}
use Rattle.std.proofs.lemmas.Option.{slice_get_within, slice_get-get_or}
use Rattle.cx_code.specs.declared.image.Image.{Image}
use Rattle.cx_code.specs.declared.image.Function.{Function}
use Rattle.cx_rules.specs.Tables.{IsLowest, lesser_of, IsLostAt, IsLostBefore, IsLostIn, IsLostInFirst, IsLost}

pub record IsEither (P Q R : ℕ → Type 0) : Type 0 where
  pub left : (n : ℕ) → P n → R n
  pub right : (n : ℕ) → Q n → R n
  pub either : (n : ℕ) → R n → P n ⊎ Q n

pub lowest_of_either : (P Q R : ℕ → Type 0) → IsEither P Q R → (a b : Option ℕ) → IsLowest P a → IsLowest Q b → IsLowest R (lesser_of a b)
lowest_of_either P Q R is None None p q = λ n r. elim (is.either n r) [ inl holds ↦ p n holds | inr holds ↦ q n holds ]
lowest_of_either P Q R is None (Some b) p (q, low) = (is.right b q, λ m r. elim (is.either m r) [ inl holds ↦ absurd (p m holds) | inr holds ↦ low m holds ])
lowest_of_either P Q R is (Some a) None (p, low) q = (is.left a p, λ m r. elim (is.either m r) [ inl holds ↦ low m holds | inr holds ↦ absurd (q m holds) ])
lowest_of_either P Q R is (Some a) (Some b) (p, low) (q, too) = (
  (elim (cases_lt a b) [
    | inl less ↦ let same : min a b ≡ a = omega (arith, less) in subst R (sym same) (is.left a p)
    | inr not_less ↦ let same : min a b ≡ b = omega (arith, not_less) in subst R (sym same) (is.right b q)
  ]),
  λ m r. elim (is.either m r) [
    | inl holds ↦ let few = low m holds in omega (arith, few)
    | inr holds ↦ let few = too m holds in omega (arith, few)
  ],
)

pub lowest_of_same : (P Q : ℕ → Type 0) → ((n : ℕ) → P n → Q n) → ((n : ℕ) → Q n → P n) → (a : Option ℕ) → IsLowest P a → IsLowest Q a
lowest_of_same P Q to from None p = λ n q. p n (from n q)
lowest_of_same P Q to from (Some a) (p, low) = (to a p, λ m q. low m (from m q))

pub at_place : (image : Image) (function : Function) (place : ℕ) → IsEither (IsLostBefore image function place) (IsLostAt image function place) (IsLostBefore image function (place + 1))
at_place image function place = record {
  left = λ n (p, less, at). (p, omega (arith, less), at);
  right = λ n at. (place, omega arith, at);
  either = λ n (p, less, at). elim (cases_lt p place) [
    | inl before ↦ inl (p, before, at)
    | inr not_before ↦ inr (subst (λ (q : ℕ). IsLostAt image function q n) (omega (arith, less, not_before)) at)
  ];
}

pub in_code : (image : Image) (function : Function) (place : ℕ) (a : Option ℕ) → length function.code ≤ place → IsLowest (IsLostBefore image function place) a → IsLowest (IsLostIn image function) a
in_code image function place a past low =
    lowest_of_same (IsLostBefore image function place) (IsLostIn image function) (λ n (p, less, at). (p, at))
    (λ n (p, (none, (instruction, e, throws))). let within = slice_get_within function.code p instruction e in (p, omega (arith, within, past), (none, (instruction, e, throws)))) a low

pub at_function : (image : Image) (index : ℕ) (function : Function) → slice_get image.functions index ≡ Some function → IsEither (IsLostInFirst image index) (IsLostIn image function) (IsLostInFirst image (index + 1))
at_function image index function stands = record {
  left = λ n (i, f, less, at, lost). (i, f, omega (arith, less), at, lost);
  right = λ n lost. (index, function, omega arith, stands, lost);
  either = λ n (i, f, less, at, lost). elim (cases_lt i index) [
    | inl before ↦ inl (i, f, before, at, lost)
    | inr not_before ↦
        let here : i ≡ index = omega (arith, less, not_before) in
        let same : f ≡ function = cc in
        inr (subst (λ (g : Function). IsLostIn image g n) same lost)
  ];
}

pub in_functions : (image : Image) (index : ℕ) (a : Option ℕ) → length image.functions ≤ index → IsLowest (IsLostInFirst image index) a → IsLowest (IsLost image) a
in_functions image index a past low =
    lowest_of_same (IsLostInFirst image index) (IsLost image) (λ n (i, f, less, at, (place, (none, (instruction, e, throws)))). (none, (i, f, place, instruction, at, e, throws)))
    (λ n (none, (i, f, place, instruction, at, e, throws)). let within = slice_get_within image.functions i f at in (i, f, omega (arith, within, past), at, (place, (none, (instruction, e, throws))))) a low

pub read_at : {X : Type 0} (read xs : List X) (place : ℕ) (x : X) → read ≡ xs → place < length read → x ≡ get_or read place x → slice_get xs place ≡ Some x
read_at read xs place x same within is = subst (λ ys. slice_get ys place ≡ Some x) same (slice_get-get_or read place x within ∙ ap Some (sym is))
