-- Values of literals.
use Rattle.std.proofs.Common.{◌≡◌, ℕ, ◌+◌, ◌-◌, ◌*◌, ◌<◌, ◌≤◌, List, [], ◌∷◌, ◌==◌, length, get_or, drop, true, false, cond, sym, ap, ◌∙◌, arith}
use Rattle.std.specs.Prelude.{nat_le}
use Rattle.std.proofs.lemmas.Bool.{lt-leb}
use Rattle.std.proofs.lemmas.List.{drop_more}
use Rattle.cx_front.specs.Literal.{value_behind, decimal_value}

grows : (value : ℕ) (bytes : List ℕ) → value ≤ value_behind value bytes
grows value [] = omega arith
grows value (b ∷ bs) =
    elim (b == 39) as (λ v. value ≤ value_behind (cond v value (value * 10 + (b - 48))) bs)
    [ true ↦ grows value bs | false ↦ omega (arith, grows (value * 10 + (b - 48)) bs) ]

-- a front whose value is too large begins no literal of type int
pub too_large : (value at next : ℕ) (bytes : List ℕ) → at < length bytes → value_behind value (drop at bytes) ≡ decimal_value bytes
    → next ≡ cond (get_or bytes at 0 == 39) value (value * 10 + (get_or bytes at 0 - 48)) → 2147483647 < next → nat_le (decimal_value bytes) 2147483647 ≡ false
too_large value at next bytes lt e step large =
    let more : value_behind next (drop (at + 1) bytes) ≡ decimal_value bytes = ap (λ (v : ℕ). value_behind v (drop (at + 1) bytes)) step ∙ sym (ap (value_behind value) (drop_more bytes at 0 lt)) ∙ e in
    lt-leb (decimal_value bytes) 2147483647 (omega (arith, grows next (drop (at + 1) bytes), more))
