-- A set of numbers of 32 bits that was made of a list has the numbers of the list.
use Rattle.std.proofs.Common.{◌≡◌, ℕ, suc, ◌<◌, ◌≤◌, ◌^◌, false, ◌&&◌, ◌||◌, nat_lt, ◌==◌, List, [], ◌∷◌, get_or, refl, sym, ◌∙◌, ⊎_elim, arith}
use Rattle.std.proofs.lemmas.Bool.{cases_Bool}
use Rattle.std.specs.Ordering.{nat_cmp, eq_by_cmp}
use Rattle.std.specs.Cmp.{unsigned_ties}
use Rattle.std.specs.BTreeSet.{BTreeSet, contains}
use Rattle.std.specs.Set.{is_member}
use Rattle.cx_outside.specs.MemoryObjects.{is_listed}

member-listed : (numbers : List ℕ) (number : ℕ) → is_member (eq_by_cmp nat_cmp) numbers number ≡ is_listed numbers number
member-listed [] number = refl
member-listed (n ∷ numbers) number = (λ i. sym (unsigned_ties number n) i || member-listed numbers number i)

none_large : (numbers : List ℕ) (number : ℕ) → ((i : ℕ) → get_or numbers i 0 < 2 ^ 32) → 2 ^ 32 ≤ number → is_listed numbers number ≡ false
none_large [] number fits large = refl
none_large (n ∷ numbers) number fits large =
    let here : n < 2 ^ 32 = fits 0 in
    let rest = none_large numbers number (λ i. fits (suc i)) large in
    let other : (number == n) ≡ false = grind arith in
    (λ i. other i || rest i)

pub all_listed : (numbers : List ℕ) (set : BTreeSet ℕ) → ((i : ℕ) → get_or numbers i 0 < 2 ^ 32)
    → ((number : ℕ) → contains nat_cmp set number ≡ is_member (eq_by_cmp nat_cmp) numbers number)
    → (number : ℕ) → (nat_lt number (2 ^ 32) && contains nat_cmp set number) ≡ is_listed numbers number
all_listed numbers set fits made number =
    ⊎_elim
    (λ small. (λ i. small i && contains nat_cmp set number) ∙ made number ∙ member-listed numbers number)
    (λ large. (λ i. large i && contains nat_cmp set number) ∙ sym (none_large numbers number fits (grind arith)))
    (cases_Bool (nat_lt number (2 ^ 32)))
