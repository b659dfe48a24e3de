-- The longest front of a text that passes a test.
use Rattle.std.proofs.Common.{◌≡◌, ◌&&◌, Bool, true, false, ℕ, zero, suc, ◌<◌, ◌≤◌, List, [], length, take, cond, leb, refl, sym, ◌∙◌, ap, arith}
use Rattle.std.proofs.lemmas.Bool.{and_parts, le-leb, leb-true}
use Rattle.cx_lexer.specs.Scan.{longest_of_three}

-- no longer front passes, if none with a first byte does
pub behind : (test : List ℕ → Bool) (xs : List ℕ) (n : ℕ) → ((m : ℕ) → n < suc m → suc m ≤ length xs → test (take (suc m) xs) ≡ false) → (m : ℕ) → n < m → m ≤ length xs → test (take m xs) ≡ false
behind test xs n f zero above within = absurd (omega arith)
behind test xs n f (suc m) above within = f m above within

abbrev three : Bool → Bool → Bool → ℕ
three a b c = cond a 3 (cond b 2 (cond c 1 0))

three_cases : (P : ℕ → Type 0) (a b c : Bool) → (a ≡ true → P 3) → (b ≡ true → P 2) → (c ≡ true → P 1) → P 0 → P (three a b c)
three_cases P true b c at_three at_two at_one at_none = at_three refl
three_cases P false true c at_three at_two at_one at_none = at_two refl
three_cases P false false true at_three at_two at_one at_none = at_one refl
three_cases P false false false at_three at_two at_one at_none = at_none

below_three : (a b c : Bool) → three a b c < 3 → a ≡ false
below_three true b c h = absurd (omega arith)
below_three false b c h = refl

below_two : (a b c : Bool) → three a b c < 2 → b ≡ false
below_two true b c h = absurd (omega arith)
below_two false true c h = absurd (omega arith)
below_two false false c h = refl

below_one : (a b c : Bool) → three a b c < 1 → c ≡ false
below_one true b c h = absurd (omega arith)
below_one false true c h = absurd (omega arith)
below_one false false true h = absurd (omega arith)
below_one false false false h = refl

tested : (n m : ℕ) (t : Bool) → n ≤ m → (leb n m && t) ≡ false → t ≡ false
tested n m t h e = sym (ap (λ b. b && t) (le-leb n m h)) ∙ e

module _ (test : List ℕ → Bool) where
  pub three_within : (xs : List ℕ) → longest_of_three test xs ≤ length xs
  three_within xs =
      three_cases (λ n. n ≤ length xs) (leb 3 (length xs) && test (take 3 xs)) (leb 2 (length xs) && test (take 2 xs)) (leb 1 (length xs) && test (take 1 xs))
      (λ e. leb-true _ _ (and_parts _ _ e).0) (λ e. leb-true _ _ (and_parts _ _ e).0) (λ e. leb-true _ _ (and_parts _ _ e).0) (omega arith)

  pub three_passes : (xs : List ℕ) → 0 < longest_of_three test xs → test (take (longest_of_three test xs) xs) ≡ true
  three_passes xs =
      three_cases (λ n. 0 < n → test (take n xs) ≡ true) (leb 3 (length xs) && test (take 3 xs)) (leb 2 (length xs) && test (take 2 xs)) (leb 1 (length xs) && test (take 1 xs))
      (λ e _. (and_parts _ _ e).1) (λ e _. (and_parts _ _ e).1) (λ e _. (and_parts _ _ e).1) (λ h. absurd (omega arith))

  -- where no list of more than three bytes passes
  pub three_longest : (xs : List ℕ) (m : ℕ) → ((n : ℕ) → 3 < n → n ≤ length xs → test (take n xs) ≡ false) → longest_of_three test xs < m → m ≤ length xs → test (take m xs) ≡ false
  three_longest xs zero short above within = absurd (omega arith)
  three_longest xs (suc zero) short above within = tested 1 (length xs) _ within (below_one _ _ _ above)
  three_longest xs (suc (suc zero)) short above within = tested 2 (length xs) _ within (below_two _ _ _ above)
  three_longest xs (suc (suc (suc zero))) short above within = tested 3 (length xs) _ within (below_three _ _ _ above)
  three_longest xs (suc (suc (suc (suc m)))) short above within = short _ (omega arith) within

  pub three_passes_or_none : (xs : List ℕ) → test [] ≡ true → test (take (longest_of_three test xs) xs) ≡ true
  three_passes_or_none xs none =
      three_cases (λ n. test (take n xs) ≡ true) (leb 3 (length xs) && test (take 3 xs)) (leb 2 (length xs) && test (take 2 xs)) (leb 1 (length xs) && test (take 1 xs))
      (λ e. (and_parts _ _ e).1) (λ e. (and_parts _ _ e).1) (λ e. (and_parts _ _ e).1) none
