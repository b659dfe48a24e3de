-- Which places make a name a class name, and that names with one number are equal.
use Rattle.std.proofs.Common.{◌≡◌, ◌⊎◌, ◌↔◌, ℕ, zero, suc, ◌+◌, ◌<◌, ◌≤◌, ◌&&◌, ◌||◌, Bool, true, false, cond, IsTrue, List, [], ◌∷◌, Some, get_or, slice_get, length, refl, sym, ap, ◌∙◌, arith, bytes_eq, inl, inr, ⊎_elim}
use Rattle.std.specs.Prelude.{codes}
use Rattle.std.proofs.lemmas.Bool.{and_parts, false≢true}
use Rattle.std.proofs.lemmas.Grind.{common_steps}
use Rattle.std.proofs.lemmas.Slice.Eq.{bytes_eq-Decides}
use Rattle.cx_marks.specs.declared.spelled.Spelled.{Spelled}
use Rattle.cx_marks.specs.Marks.{Tokens, declares_at, first_place, has_at, is_after_key, is_class_name, is_name, number, some_below}
use Rattle.cx_marks.proofs.Steps.{no_token, token_at}
use Rattle.cx_marks.proofs.Names.{first_at_most, first_holds}

pub some_from : (test : ℕ → Bool) (i j : ℕ) → j < i → test j ≡ true → some_below i test ≡ true
unfolding some_below
some_from test zero j h e = absurd (omega arith)
some_from test (suc i) j h e =
    elim (test i) as (λ b. test i ≡ b → (b || some_below i test) ≡ true) [
      | true ↦ λ y. refl
      | false ↦ λ y. some_from test i j (below i j h (λ s. false≢true (sym y ∙ (ap test (sym s) ∙ e)))) e
    ] refl
  where
    below : (i j : ℕ) → j < suc i → (j ≡ i → ⊥) → j < i
    below i j h ne = omega (arith, ne)

pub some_at : (test : ℕ → Bool) (i : ℕ) → some_below i test ≡ true → (j : ℕ) × (j < i) × (test j ≡ true)
unfolding some_below
some_at test zero e = absurd (false≢true e)
some_at test (suc i) e =
    elim (test i) as (λ b. test i ≡ b → (b || some_below i test) ≡ true → (j : ℕ) × (j < suc i) × (test j ≡ true)) [
      | true ↦ λ y s. (i, omega arith, y)
      | false ↦ λ y s. let r = some_at test i s in (r.0, omega (arith, r.1), r.2)
    ] refl e

both : {a b : Bool} → IsTrue a → IsTrue b → (a && b) ≡ true
both {a} {b} h k = grind (arith, common_steps, h, k)

-- a place that passes a test is within the list
has_within : (test : Spelled → Bool) (ts : Tokens) (i : ℕ) → IsTrue (has_at test (slice_get ts i)) → i < length ts
has_within test [] i h = absurd (false≢true h)
has_within test (t ∷ ts) zero h = omega arith
has_within test (t ∷ ts) (suc i) h = let r = has_within test ts i h in omega (arith, r)

-- a name is a class name exactly where some place up to it holds it directly after `class` or `struct`
pub class_name_is : (ts : Tokens) (name : List ℕ) (i : ℕ) → IsTrue (is_class_name ts name i) ↔ ((j : ℕ) × (j ≤ i) × IsTrue (has_at (is_name name) (slice_get ts j)) × IsTrue (is_after_key ts j))
unfolding declares_at
class_name_is ts name i = (
  (λ h. let r = some_at (declares_at ts name) (suc i) (true_is h) in let p = and_parts (is_after_key ts r.0) (has_at (is_name name) (slice_get ts r.0)) r.2 in (r.0, omega (arith, r.1), is_true p.1, is_true p.0)),
  (λ (j, l, h, k). is_true (some_from (declares_at ts name) (suc i) j (omega (arith, l)) (both k h))),
)
  where
    true_is : {b : Bool} → IsTrue b → b ≡ true
    true_is {b} h = grind (arith, common_steps, h)

    is_true : {b : Bool} → b ≡ true → IsTrue b
    is_true {b} h = grind (arith, common_steps, h)

-- which number a name has
abbrev HasNumber : Tokens → List ℕ → ℕ → Type 0
HasNumber ts a n = ((a ≡ codes "contracts") × (n ≡ 0)) ⊎ (((a ≡ codes "pre") × (n ≡ 1)) ⊎ (((a ≡ codes "post") × (n ≡ 2)) ⊎ (n ≡ 3 + first_place ts a)))

chosen : (b : Bool) (x y n : ℕ) → n ≡ cond b x y → ((b ≡ true) × (n ≡ x)) ⊎ ((b ≡ false) × (n ≡ y))
chosen true x y n h = inl (refl, h)
chosen false x y n h = inr (refl, h)

named : (b a : List ℕ) → bytes_eq b a ≡ true → a ≡ b
named b a e = sym ((bytes_eq-Decides b a).0 e)

number_is : (ts : Tokens) (a : List ℕ) → HasNumber ts a (number ts a)
unfolding number
number_is ts a =
    ⊎_elim (λ h. inl (named _ a h.0, h.1))
    (λ h. inr (⊎_elim (λ g. inl (named _ a g.0, g.1)) (λ g. inr (⊎_elim (λ f. inl (named _ a f.0, f.1)) (λ f. inr f.1) (chosen (bytes_eq (codes "post") a) 2 (3 + first_place ts a) _ g.1))) (chosen (bytes_eq (codes "pre") a) 1 _ _ h.1)))
    (chosen (bytes_eq (codes "contracts") a) 0 _ (number ts a) refl)

-- names with one first place are equal
one_place : (ts : Tokens) (a b : List ℕ) (t : Spelled) (i : ℕ) → slice_get ts i ≡ Some t → first_place ts a ≡ i → first_place ts b ≡ i → a ≡ b
one_place ts a b t i at p q =
    let x = and_parts _ (bytes_eq a t.bytes.now) (first_holds ts a i t at p) in
    let y = and_parts _ (bytes_eq b t.bytes.now) (first_holds ts b i t at q) in
    (bytes_eq-Decides a t.bytes.now).0 x.1 ∙ sym ((bytes_eq-Decides b t.bytes.now).0 y.1)

-- names of a list with one number are equal
pub one_number : (ts : Tokens) (a b : List ℕ) (i : ℕ) → IsTrue (has_at (is_name a) (slice_get ts i)) → number ts a ≡ number ts b → a ≡ b
one_number ts a b i here e = by (number_is ts a) (number_is ts b)
  where
    first : first_place ts a ≤ i
    first = first_at_most ts a i (grind (arith, common_steps, here))

    within : i < length ts
    within = has_within (is_name a) ts i here

    by : HasNumber ts a (number ts a) → HasNumber ts b (number ts b) → a ≡ b
    by (inl x) (inl y) = x.0 ∙ sym y.0
    by (inr (inl x)) (inr (inl y)) = x.0 ∙ sym y.0
    by (inr (inr (inl x))) (inr (inr (inl y))) = x.0 ∙ sym y.0
    by (inr (inr (inr x))) (inr (inr (inr y))) = one_place ts a b (get_or ts (first_place ts a) no_token) (first_place ts a) (token_at ts (first_place ts a) (omega (arith, first, within))) refl (omega (arith, x, y, e))
    by (inl x) (inr (inl y)) = absurd (omega (arith, x.1, y.1, e))
    by (inl x) (inr (inr (inl y))) = absurd (omega (arith, x.1, y.1, e))
    by (inl x) (inr (inr (inr y))) = absurd (omega (arith, x.1, y, e))
    by (inr (inl x)) (inl y) = absurd (omega (arith, x.1, y.1, e))
    by (inr (inl x)) (inr (inr (inl y))) = absurd (omega (arith, x.1, y.1, e))
    by (inr (inl x)) (inr (inr (inr y))) = absurd (omega (arith, x.1, y, e))
    by (inr (inr (inl x))) (inl y) = absurd (omega (arith, x.1, y.1, e))
    by (inr (inr (inl x))) (inr (inl y)) = absurd (omega (arith, x.1, y.1, e))
    by (inr (inr (inl x))) (inr (inr (inr y))) = absurd (omega (arith, x.1, y, e))
    by (inr (inr (inr x))) (inl y) = absurd (omega (arith, x, y.1, e))
    by (inr (inr (inr x))) (inr (inl y)) = absurd (omega (arith, x, y.1, e))
    by (inr (inr (inr x))) (inr (inr (inl y))) = absurd (omega (arith, x, y.1, e))
