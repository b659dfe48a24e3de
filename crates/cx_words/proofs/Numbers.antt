-- Which words are numbers.
use Rattle.std.proofs.Common.{◌≡◌, ℕ, ◌<◌, List, [], ◌∷◌, ◌==◌, ◌&&◌, true, false, None, inl, inr, refl, sym, arith, ne_eqb}
use Rattle.std.specs.Prelude.{nat_le, not, ◌^◌}
use Rattle.std.specs.List.{list_all}
use Rattle.std.specs.Char.{digit_value}
use Rattle.std.specs.Str.Parse.{AllDigits, IsNumeral, digits_value, without_leading_plus}
use Rattle.std.proofs.lemmas.Bool.{cases_Bool, and_parts, true≢false, leb-true}
use Rattle.std.proofs.lemmas.Str.{digit_value_digit}
use Rattle.cx_words.specs.Value.{is_decimal, number_in}

digit_below : (byte : ℕ) → (nat_le 48 byte && nat_le byte 57) ≡ true → digit_value byte < 10
digit_below byte digit =
    let parts = and_parts (nat_le 48 byte) (nat_le byte 57) digit in
    let low = leb-true 48 byte parts.0 in
    let high = leb-true byte 57 parts.1 in
    omega (arith, digit_value_digit byte (low, high))

all_digits : (word : List ℕ) → list_all (λ byte. nat_le 48 byte && nat_le byte 57) word ≡ true → AllDigits 10 word
all_digits [] h = tt
all_digits (byte ∷ word) h =
    let parts = and_parts (nat_le 48 byte && nat_le byte 57) (list_all (λ b. nat_le 48 b && nat_le b 57) word) h in
    (digit_below byte parts.0, all_digits word parts.1)

-- digits are no `+`
no_plus : (byte : ℕ) (word : List ℕ) → (nat_le 48 byte && nat_le byte 57) ≡ true → without_leading_plus (byte ∷ word) ≡ byte ∷ word
no_plus byte word digit =
    let low = leb-true 48 byte (and_parts (nat_le 48 byte) (nat_le byte 57) digit).0 in
    let other : (byte == 43) ≡ false = ne_eqb byte 43 (λ e. omega (arith, low, e)) in
    rw other refl

-- so what the digits spell is too large where no number is read
pub not_a_number : (most : ℕ) (word : List ℕ) → most < 2 ^ 32 → is_decimal word ≡ true → (IsNumeral 10 (without_leading_plus word) × (digits_value 10 (without_leading_plus word) < 2 ^ 32) → ⊥) → None ≡ number_in most word
not_a_number most [] few decimal none = absurd (true≢false (sym decimal))
not_a_number most (byte ∷ word) few decimal none =
    let digits = (and_parts (not (byte == 48)) (list_all (λ b. nat_le 48 b && nat_le b 57) (byte ∷ word)) decimal).1 in
    let first = (and_parts (nat_le 48 byte && nat_le byte 57) (list_all (λ b. nat_le 48 b && nat_le b 57) word) digits).0 in
    let same = no_plus byte word first in
    elim (cases_Bool (nat_le (digits_value 10 (byte ∷ word)) most)) [
      | inl small ↦
          let least = leb-true (digits_value 10 (byte ∷ word)) most small in
          absurd (none (rw same ((omega arith, all_digits (byte ∷ word) digits), omega (arith, least))))
      | inr large ↦ rw (decimal, large) refl
    ]
