-- The value of a number, digit by digit.
use Rattle.std.proofs.Common.{◌≡◌, Bool, ℕ, zero, suc, ◌+◌, ◌*◌, ◌<◌, ◌≤◌, List, [], ◌∷◌, length, get_or, drop, cond, refl, sym, ◌∙◌, ap, arith, fold}
use Rattle.std.specs.List.{filter}
use Rattle.std.proofs.lemmas.Bool.{cond_both, cond-true, cond-false}
use Rattle.std.proofs.lemmas.List.{at_drop_more}
use Rattle.std.proofs.Math.Nat.{mul-le-mul_left}
use Rattle.cx_lexer.specs.Number.{is_digit, digit_value, base_of, value_of, ends}

-- the value of digits behind some that have a value already
abbrev pub grown : ℕ → ℕ → List ℕ → ℕ
grown base value digits = fold (λ v b. v * base + digit_value b) value (filter (is_digit base) digits)

pub value_is : (base : ℕ) (number : List ℕ) → base ≡ base_of number → value_of number ≡ grown base 0 number
unfolding value_of
value_is base number is = ap (λ b. grown b 0 number) (sym is)

-- digits never make it smaller
pub grown_grows : (base value : ℕ) (digits : List ℕ) → 0 < base → value ≤ grown base value digits
grown_grows base value [] some = omega arith
grown_grows base value (b ∷ digits) some =
    cond_both (is_digit base b) (b ∷ filter (is_digit base) digits) (filter (is_digit base) digits) (λ xs. value ≤ fold (λ v c. v * base + digit_value c) value xs)
    (λ _.
    let more = grown_grows base (value * base + digit_value b) digits some in
    let product = mul-le-mul_left value some in
    omega arith)
    (λ _. grown_grows base value digits some)

grown_cons : (base value b : ℕ) (digits : List ℕ) → grown base value (b ∷ digits) ≡ cond (is_digit base b) (grown base (value * base + digit_value b) digits) (grown base value digits)
grown_cons base value b digits =
    cond_both (is_digit base b) (b ∷ filter (is_digit base) digits) (filter (is_digit base) digits)
    (λ xs. fold (λ v c. v * base + digit_value c) value xs ≡ cond (is_digit base b) (grown base (value * base + digit_value b) digits) (grown base value digits))
    (λ e. sym (cond-true _ _ _ e)) (λ e. sym (cond-false _ _ _ e))

-- at a place of a number
pub grown_at : (base value : ℕ) (number : List ℕ) (i : ℕ) → i < length number → grown base value (drop i number) ≡ cond (is_digit base (get_or number i 0)) (grown base (value * base + digit_value (get_or number i 0)) (drop (i + 1) number)) (grown base value (drop (i + 1) number))
grown_at base value number i inside = at_drop_more (grown base value) number i 0 inside ∙ grown_cons base value (get_or number i 0) (drop (i + 1) number)

-- the last byte
pub ends_at : (test : ℕ → Bool) (xs : List ℕ) (k : ℕ) → suc k ≡ length xs → ends test xs ≡ test (get_or xs k 0)
ends_at test [] k last = absurd (omega arith)
ends_at test (b ∷ []) zero last = refl
ends_at test (b ∷ []) (suc k) last = absurd (omega arith)
ends_at test (b ∷ c ∷ xs) zero last = absurd (omega arith)
ends_at test (b ∷ c ∷ xs) (suc k) last = ends_at test (c ∷ xs) k (omega arith)
