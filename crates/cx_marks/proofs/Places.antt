-- The place over tokens is the one over their marks, where tokens complete the front.
use Rattle.std.proofs.Common.{◌≡◌, ◌⊎◌, inl, inr, ℕ, ◌<◌, ◌≤◌, ◌++◌, length, take, sym, subst, arith}
use Rattle.std.proofs.lemmas.Bool.{cases_lt}
use Rattle.cx_syntax.specs.Place.{Begins, Grammatical, IsPlace}
use Rattle.cx_marks.specs.Marks.{Tokens, marks, marks_from}
use Rattle.cx_marks.specs.Place.{IsTokensPlace, TokensBegin}
use Rattle.cx_marks.proofs.Fronts.{marks_take, marks_then}
use Rattle.cx_marks.proofs.Steps.{marks_length}

-- what begins a grammatical list of tokens has marks that begin a grammatical list
pub marks_begin : (ts : Tokens) → TokensBegin ts → Begins (marks ts)
marks_begin ts h = (marks_from (ts ++ h.0) (length ts) h.0, subst Grammatical (marks_then ts h.0) h.2)

pub tokens_place : (ts : Tokens) (p : ℕ) → IsPlace (marks ts) p → TokensBegin (take p ts) → IsTokensPlace ts p
tokens_place ts p h begun =
    let size = marks_length ts ts 0 in
    (h.0, omega (arith, h.1, size), begun, λ n a b y. h.3 n a (omega (arith, b, size)) (subst Begins (sym (marks_take ts n)) (marks_begin (take n ts) y)))

pub one_tokens_place : (ts : Tokens) (p q : ℕ) → IsTokensPlace ts p → IsTokensPlace ts q → p ≡ q
one_tokens_place ts p q h k = by (cases_lt p q) (cases_lt q p)
  where
    by : (p < q) ⊎ (q ≤ p) → (q < p) ⊎ (p ≤ q) → p ≡ q
    by (inl a) y = absurd (h.3 q a k.1 k.2)
    by (inr a) (inl b) = absurd (k.3 p b h.1 h.2)
    by (inr a) (inr b) = omega (arith, a, b)
