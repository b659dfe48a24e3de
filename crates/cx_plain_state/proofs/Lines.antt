-- What is written of a text, and what several units of the budget are.
use Rattle.std.proofs.Common.{◌≡◌, ℕ, zero, suc, ◌-◌, ◌+◌, List, [], ◌∷◌, nat_eq, false, refl, arith, length, not}
use Rattle.std.proofs.lemmas.Bool.Decides.{nat_tests}
use Rattle.std.specs.List.{prefix_len}
use Rattle.cx_core.specs.Outcome.{◌>>◌, spend, spend_all}
use Rattle.cx_core.specs.Library.{write_bytes}
use Rattle.cx_plain_state.specs.Library.{write_line, write_byte}

pub line_ends : write_line [] ≡ write_bytes (10 ∷ [])
unfolding write_line
line_ends = refl

pub line_stops : (rest : List ℕ) → write_line (0 ∷ rest) ≡ write_bytes (10 ∷ [])
unfolding write_line
line_stops rest = refl

pub line_goes_on : (b : ℕ) (rest : List ℕ) → nat_eq 0 b ≡ false → write_line (b ∷ rest) ≡ write_byte b >> write_line rest
unfolding write_line
line_goes_on b rest h =
    let e : 1 + prefix_len (λ x. not (nat_eq 0 x)) rest ≡ suc (prefix_len (λ x. not (nat_eq 0 x)) rest) = omega arith in rw (h, e) refl

pub spends_more : (n : ℕ) → (n ≡ 0 → ⊥) → spend_all n ≡ spend >> spend_all (n - 1)
spends_more zero h = absurd (h refl)
spends_more (suc n) h = let e : suc n - 1 ≡ n = omega arith in rw e refl

pub no_items : (xs : List ℕ) → length xs ≡ 0 → xs ≡ []
no_items [] h = refl
no_items (x ∷ xs) h = absurd (omega arith)

pub not_zero : (b : ℕ) → (b ≡ 0 → ⊥) → nat_eq 0 b ≡ false
not_zero b h = grind (arith, nat_tests)
