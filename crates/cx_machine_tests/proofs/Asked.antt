-- What tests of Bool say.
use Rattle.std.proofs.Common.{◌≡◌, ℕ, ◌<◌, ◌≤◌, ◌==◌, ◌&&◌, ◌||◌, not, nat_lt, nat_le, Bool, true, false, List, [], ◌∷◌, map, refl, arith, ◌⊎◌, inl, inr}
use Rattle.std.specs.List.{All, list_all, list_any}
use Rattle.std.proofs.lemmas.Bool.Decides.{nat_tests}
use Rattle.std.proofs.lemmas.List.Elements.{All-nil, All-cons, All-head, All-tail}

pub lt_when : (a b : ℕ) → nat_lt a b ≡ true → a < b
lt_when a b e = grind (arith, nat_tests)

pub le_when : (a b : ℕ) → nat_le a b ≡ true → a ≤ b
le_when a b e = grind (arith, nat_tests)

pub eq_when : (a b : ℕ) → (a == b) ≡ true → a ≡ b
eq_when a b e = grind (arith, nat_tests)

pub eq_is : (a b : ℕ) → a ≡ b → (a == b) ≡ true
eq_is a b e = grind (arith, nat_tests)

pub le_is : (a b : ℕ) → a ≤ b → nat_le a b ≡ true
le_is a b e = grind (arith, nat_tests)

pub lt_is : (a b : ℕ) → a < b → nat_lt a b ≡ true
lt_is a b e = grind (arith, nat_tests)

pub and_left : (a b : Bool) → (a && b) ≡ true → a ≡ true
and_left true b e = refl
and_left false b e = e

pub and_right : (a b : Bool) → (a && b) ≡ true → b ≡ true
and_right true b e = e
and_right false b e = absurd (cc)

pub and_is : (a b : Bool) → a ≡ true → b ≡ true → (a && b) ≡ true
and_is a b e f = rw (e, f) refl

pub or_cases : (a b : Bool) → (a || b) ≡ true → (a ≡ true) ⊎ (b ≡ true)
or_cases true b e = inl refl
or_cases false b e = inr e

pub or_left : (a b : Bool) → a ≡ true → (a || b) ≡ true
or_left a b e = rw e refl

pub or_right : (a b : Bool) → b ≡ true → (a || b) ≡ true
or_right true b e = refl
or_right false b e = e

-- from `not a || b`
pub implied : (a b : Bool) → (not a || b) ≡ true → a ≡ true → b ≡ true
implied true b e h = e
implied false b e h = absurd (cc)

pub not_true : (a : Bool) → not a ≡ true → a ≡ true → ⊥
not_true true e h = cc
not_true false e h = cc

pub all_when : {X : Type 0} (p : X → Bool) (P : X → Type 0) → ((x : X) → p x ≡ true → P x) → (xs : List X) → list_all p xs ≡ true → All P xs
all_when p P each [] e = All-nil P
all_when p P each (x ∷ xs) e = All-cons P x xs (each x (and_left (p x) (list_all p xs) e)) (all_when p P each xs (and_right (p x) (list_all p xs) e))

-- of the items that a list is made from
pub all_map : {X Y : Type 0} (p : Y → Bool) (f : X → Y) (xs : List X) → list_all p (map f xs) ≡ true → list_all (λ x. p (f x)) xs ≡ true
all_map p f [] e = refl
all_map p f (x ∷ xs) e = and_is (p (f x)) (list_all (λ x. p (f x)) xs) (and_left (p (f x)) (list_all p (map f xs)) e) (all_map p f xs (and_right (p (f x)) (list_all p (map f xs)) e))

pub any_when : {X : Type 0} (p : X → Bool) (P : X → Type 0) (Q : Type 0) → ((x : X) → p x ≡ true → P x → Q) → (xs : List X) → list_any p xs ≡ true → All P xs → Q
any_when p P Q each [] e all = absurd (cc)
any_when p P Q each (x ∷ xs) e all = elim (or_cases (p x) (list_any p xs) e) [
  | inl here ↦ each x here (All-head P x xs all)
  | inr there ↦ any_when p P Q each xs there (All-tail P x xs all)
]

pub true_or_false : (b : Bool) → (b ≡ true) ⊎ (b ≡ false)
true_or_false true = inl refl
true_or_false false = inr refl
