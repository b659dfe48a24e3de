-- What is found at a number, in a list whose items stand for others.
use Rattle.std.proofs.Common.{◌≡◌, ℕ, ◌<◌, ◌≤◌, List, map, Option, Some, None, true, false, refl, ap, ◌∙◌, Bor, get_or, length, nat_lt, arith}
use Rattle.std.specs.Prelude.{slice_get, is_some, MatchOption}
use Rattle.std.specs.Bool.{⊤}
use Rattle.std.specs.Option.{option_map}
use Rattle.std.proofs.lemmas.Option.{slice_get-map, slice_get_past, slice_get_read}
use Rattle.std.proofs.lemmas.Bool.Decides.{nat_tests}

within : (i n : ℕ) → true ≡ nat_lt i n → i < n
within i n h = grind (arith, nat_tests)

past : (i n : ℕ) → false ≡ nat_lt i n → n ≤ i
past i n h = grind (arith, nat_tests)

pub found : {A B : Type 0} (f : A → B) (xs : List A) (i : ℕ) (r : Option (Bor A)) →
    is_some r ≡ nat_lt i (length xs) → MatchOption r ⊤ (λ x. x.now ≡ get_or xs i x.now) → slice_get (map f xs) i ≡ option_map (λ x. f x.now) r
found f xs i None h q = slice_get-map f xs i ∙ ap (option_map f) (slice_get_past xs i (past i (length xs) h))
found f xs i (Some x) h q = slice_get-map f xs i ∙ ap (option_map f) (slice_get_read xs (length xs) i x.now refl (within i (length xs) h) q)
