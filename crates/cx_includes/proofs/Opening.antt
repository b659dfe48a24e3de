-- Counting open tokens, one token after the other.
use Rattle.std.proofs.Common.{◌≡◌, true, false, ℕ, zero, suc, ◌+◌, ◌<◌, List, [], ◌∷◌, length, map, drop, max, sum, refl, sym, ◌∙◌, ap, arith}
use Rattle.std.specs.Prelude.{slice_get, IfSome}
use Rattle.std.proofs.Common.{add-one}
use Rattle.cx_includes.specs.declared.shape.Shape.{Shape}
use Rattle.cx_includes.specs.declared.shape.Shape.TheVariants.{OpenBrace, CloseBrace, OpenParen, CloseParen, Semicolon, Else, Other}
use Rattle.cx_includes.specs.declared.counts.Counting.{Counting}
use Rattle.cx_includes.specs.declared.assembled.Assembled.{Assembled}
use Rattle.cx_includes.specs.Assembled.{bytes_of_placed}
use Rattle.cx_includes.specs.OpenTokens.{Counts, open_now, with_one, behind, most_from, shape_of}
use Rattle.cx_includes.specs.Counting.{counts_of, is_else_next, shapes_of}

first_of_rest : {A : Type 0} (bytes_of : A → List ℕ) (xs : List A) (at : ℕ) (bytes : List ℕ) → at < length xs → IfSome (slice_get xs at) (λ x. bytes ≡ bytes_of x) → drop at (map (λ x. shape_of (bytes_of x)) xs) ≡ shape_of bytes ∷ drop (suc at) (map (λ x. shape_of (bytes_of x)) xs)
first_of_rest bytes_of [] at bytes inside is = absurd (omega arith)
first_of_rest bytes_of (x ∷ xs) zero bytes inside is = ap (λ b. shape_of b ∷ map (λ y. shape_of (bytes_of y)) xs) (sym is)
first_of_rest bytes_of (x ∷ xs) (suc at) bytes inside is = first_of_rest bytes_of xs at bytes (omega arith) is

-- the next token's shape
pub next_shape : (unit : Assembled) (at : ℕ) (bytes : List ℕ) (shape : Shape) → at < length unit.placed → IfSome (slice_get unit.placed at) (λ placed. bytes ≡ bytes_of_placed unit placed) → shape ≡ shape_of bytes
    → drop at (shapes_of unit) ≡ shape ∷ drop (at + 1) (shapes_of unit)
next_shape unit at bytes shape inside is shaped =
    let behind : drop at (shapes_of unit) ≡ shape_of bytes ∷ drop (at + 1) (shapes_of unit) = rw add-one (first_of_rest (λ placed. bytes_of_placed unit placed) unit.placed at bytes inside is) in
    behind ∙ ap (λ s. s ∷ drop (at + 1) (shapes_of unit)) (sym shaped)

no_else : (shape : Shape) (next : List Shape) → (shape ≡ Else → ⊥) → is_else_next (shape ∷ next) ≡ false
no_else OpenBrace next other = refl
no_else CloseBrace next other = refl
no_else OpenParen next other = refl
no_else CloseParen next other = refl
no_else Semicolon next other = refl
no_else Else next other = absurd (other refl)
no_else Other next other = refl

pub else_first : (shapes next : List Shape) (shape : Shape) → shapes ≡ shape ∷ next → shape ≡ Else → is_else_next shapes ≡ true
else_first shapes next shape is same = ap is_else_next is ∙ ap (λ s. is_else_next (s ∷ next)) same

pub no_else_first : (shapes next : List Shape) (shape : Shape) → shapes ≡ shape ∷ next → (shape ≡ Else → ⊥) → is_else_next shapes ≡ false
no_else_first shapes next shape is other = ap is_else_next is ∙ no_else shape next other

-- a token is counted, and the greatest sum is still that of the whole list
pub counted : (most next_most : ℕ) (now : Counting) (after : Counts) (shape : Shape) (next shapes : List Shape) (whole : ℕ)
    → max most (most_from (counts_of now) shapes) ≡ whole → shapes ≡ shape ∷ next → after ≡ behind shape next (with_one (counts_of now)) → now.total ≡ now.innermost + sum now.outer → next_most ≡ max most (now.total + 1)
    → max next_most (most_from after next) ≡ whole
counted most next_most now after shape next shapes whole before is passed summed more =
    let one : open_now (with_one (counts_of now)) ≡ now.total + 1 = omega arith in
    let step : max most (max (open_now (with_one (counts_of now))) (most_from (behind shape next (with_one (counts_of now))) next)) ≡ whole = ap (λ s. max most (most_from (counts_of now) s)) (sym is) ∙ before in
    let same : most_from after next ≡ most_from (behind shape next (with_one (counts_of now))) next = ap (λ a. most_from a next) passed in
    omega arith
