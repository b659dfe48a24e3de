-- Lists that contracts see with the last item first.
use Rattle.std.proofs.Common.{◌≡◌, ℕ, ◌+◌, ◌-◌, ◌≤◌, replicate, append_assoc, List, [], ◌∷◌, ◌++◌, length, take, drop, reverse, sym, ap, ◌∙◌, arith}
use Rattle.std.proofs.lemmas.List.{reverse-append, reverse-reverse, length-reverse, length-drop, length-take-le, take-take, drop-take, take-append-drop, drop-append-le, replicate-append-replicate}
use Rattle.std.proofs.Math.Seq.{drop-length}

drop_front : {X : Type 0} (n : ℕ) (xs ys : List X) → length xs ≡ n → drop n (xs ++ ys) ≡ ys
drop_front n xs ys e =
    let le : n ≤ length xs = omega arith in
    drop-append-le n xs ys le ∙ ap (λ k. drop k xs ++ ys) (sym e) ∙ ap (λ front. front ++ ys) (drop-length xs)

-- the lowest items, so many
pub drop-reverse : {X : Type 0} (n : ℕ) (xs : List X) → drop (length xs - n) (reverse xs) ≡ reverse (take n xs)
drop-reverse n xs =
    let whole = ap reverse (sym (take-append-drop n xs)) ∙ reverse-append (take n xs) (drop n xs) in
    let size : length (reverse (drop n xs)) ≡ length xs - n = length-reverse (drop n xs) ∙ length-drop n xs in
    ap (drop (length xs - n)) whole ∙ drop_front (length xs - n) (reverse (drop n xs)) (reverse (take n xs)) size

-- the lowest of the first items, so many
pub low_of : {X : Type 0} (depth top : ℕ) (xs : List X) → depth ≤ top → reverse (take depth xs) ≡ drop (length (reverse (take top xs)) - depth) (reverse (take top xs))
low_of depth top xs le =
    let front = take top xs in
    sym (ap (λ n. drop (n - depth) (reverse front)) (length-reverse front) ∙ drop-reverse depth front ∙ ap reverse (take-take depth top xs le))

-- the last items, so many, in their own order
last-reverse : {X : Type 0} (n : ℕ) (xs : List X) → n ≤ length xs → drop (length xs - n) xs ≡ reverse (take n (reverse xs))
last-reverse n xs le =
    let e = drop-reverse n (reverse xs) in
    rw (reverse-reverse, length-reverse) at e

-- the last of the first items, so many, in their own order
pub last_of : {X : Type 0} (n top : ℕ) (xs ys : List X) → ys ≡ xs → top ≤ length xs → n ≤ top → take (top - (top - n)) (drop (top - n) ys) ≡ reverse (take n (reverse (take top xs)))
last_of {X} n top xs ys same within le =
    let size : length (take top xs) ≡ top = length-take-le top xs within in
    let whole : (top - n) + (top - (top - n)) ≡ top = omega arith in
    let here : take (top - (top - n)) (drop (top - n) xs) ≡ drop (top - n) (take top xs) = sym (drop-take (top - n) (top - (top - n)) xs) ∙ ap (λ k. drop (top - n) (take k xs)) whole in
    ap (λ (l : List X). take (top - (top - n)) (drop (top - n) l)) same ∙ here ∙ ap (λ k. drop (k - n) (take top xs)) (sym size) ∙ last-reverse n (take top xs) (omega (arith, size, le))

-- the first items but for the last, so many
pub rest_of : {X : Type 0} (n top : ℕ) (xs : List X) → top ≤ length xs → n ≤ top → reverse (take (top - n) xs) ≡ drop n (reverse (take top xs))
rest_of n top xs within le =
    let size : length (take top xs) ≡ top = length-take-le top xs within in
    let e : length (take top xs) - (top - n) ≡ n = omega (arith, size, le) in
    sym (drop-reverse (top - n) (take top xs) ∙ ap reverse (take-take (top - n) top xs (omega arith))) ∙ ap (λ k. drop k (reverse (take top xs))) e

-- one more of the same after a list
pub replicate_more : {X : Type 0} (front next : List X) (x : X) (n i : ℕ) → n ≤ i → next ≡ (front ++ replicate (i - n) x) ++ x ∷ []
    → next ≡ front ++ replicate (i + 1 - n) x
replicate_more front next x n i le is =
    let e : i - n + 1 ≡ i + 1 - n = omega arith in
    is ∙ append_assoc front (replicate (i - n) x) (x ∷ []) ∙ ap (λ rest. front ++ rest) (replicate-append-replicate (i - n) 1 x ∙ ap (λ k. replicate k x) e)
