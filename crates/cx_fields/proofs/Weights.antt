-- What holds of each value of a list, and of the sum of their weights.
use Rattle.std.proofs.Common.{ℕ, ◌-◌, ◌<◌, ◌≤◌, List, [], ◌∷◌, arith}
use Rattle.std.specs.List.{All, AllByRecursion, sum_by}
use Rattle.std.proofs.lemmas.List.Elements.{All-from_recursion, recursion_from_All, All-weaker}
use Rattle.std.proofs.lemmas.List.Sums.{sum_by-cons}
use Rattle.cx_fields.proofs.Format.{HoldsEach}

pub all_of : {A : Type 0} (P Q : A → Type 0) → ((x : A) → P x → Q x) → (xs : List A) → AllByRecursion P xs → All Q xs
all_of P Q f xs h = All-weaker P Q f xs (All-from_recursion P xs h)

pub each_of : {A : Type 0} (P Q : A → Type 0) → ((x : A) → P x → Q x) → (xs : List A) → All P xs → AllByRecursion Q xs
each_of P Q f xs h = recursion_from_All Q xs (All-weaker P Q f xs h)

pub each_of_both : {A : Type 0} (P Q R : A → Type 0) → ((x : A) → P x → Q x → R x) → (xs : List A) → All P xs → All Q xs → AllByRecursion R xs
each_of_both P Q R f xs p q = recursion_from_All R xs (λ k d lt. f _ (p k d lt) (q k d lt))

pub each_looser : {A : Type 0} (P Q : A → Type 0) → ((x : A) → P x → Q x) → (xs : List A) → AllByRecursion P xs → AllByRecursion Q xs
each_looser P Q f [] h = tt
each_looser P Q f (x ∷ xs) h = (f x h.0, each_looser P Q f xs h.1)

pub weights_fit : {A : Type 0} (weight : A → ℕ) (P : ℕ → A → Type 0) → ((room : ℕ) (x : A) → 0 < room → P room x → weight x < room) → (room : ℕ) (xs : List A) → 0 < room → HoldsEach weight P room xs → sum_by weight xs < room
weights_fit weight P f room [] some h = some
weights_fit weight P f room (x ∷ xs) some h =
    let one = f room x some h.0 in
    rw sum_by-cons (omega (arith, one, weights_fit weight P f (room - weight x) xs (omega arith) h.1))

pub all_of_weighed : {A : Type 0} (weight : A → ℕ) (P : ℕ → A → Type 0) (Q : A → Type 0) (most : ℕ) → ((room : ℕ) (x : A) → room ≤ most → P room x → Q x) → (room : ℕ) (xs : List A) → room ≤ most → HoldsEach weight P room xs → AllByRecursion Q xs
all_of_weighed weight P Q most f room [] le h = tt
all_of_weighed weight P Q most f room (x ∷ xs) le h = (f room x le h.0, all_of_weighed weight P Q most f (room - weight x) xs (omega arith) h.1)

pub weighed_of : {A : Type 0} (weight : A → ℕ) (P : ℕ → A → Type 0) (Q : A → Type 0) (most : ℕ) → ((room : ℕ) (x : A) → room ≤ most → weight x < room → Q x → P room x) → (room : ℕ) (xs : List A) → room ≤ most → sum_by weight xs < room → AllByRecursion Q xs
    → HoldsEach weight P room xs
weighed_of weight P Q most f room [] le fit h = tt
weighed_of weight P Q most f room (x ∷ xs) le fit h =
    let sum = sum_by-cons weight x xs in
    (f room x le (omega (arith, sum, fit)) h.0, weighed_of weight P Q most f (room - weight x) xs (omega arith) (omega (arith, sum, fit)) h.1)

pub weighed_looser : {A : Type 0} (weight : A → ℕ) (P Q : ℕ → A → Type 0) → ((room : ℕ) (x : A) → P room x → Q room x) → (room : ℕ) (xs : List A) → HoldsEach weight P room xs → HoldsEach weight Q room xs
weighed_looser weight P Q f room [] h = tt
weighed_looser weight P Q f room (x ∷ xs) h = (f room x h.0, weighed_looser weight P Q f (room - weight x) xs h.1)
