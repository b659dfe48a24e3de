-- The first end of a block comment, from a place on.
use Rattle.std.proofs.Common.{◌≡◌, ◌&&◌, true, false, ℕ, suc, ◌+◌, ◌<◌, ◌≤◌, List, [], ◌∷◌, length, get_or, drop, cond, eqb, refl, ◌∙◌, ap, arith, Option, Some, None, length-drop}
use Rattle.std.specs.Prelude.{option_map}
use Rattle.std.proofs.lemmas.Bool.{cond-true, cond-false, and_right}
use Rattle.std.proofs.lemmas.List.{at_drop_more}
use Rattle.cx_lexer.specs.Bytes.{begins, star, slash}
use Rattle.cx_lexer.specs.Comment.{length_to_end}

-- so many bytes more
abbrev pub moved : ℕ → Option ℕ → Option ℕ
moved n None = None
moved n (Some m) = Some (n + m)

-- the first end of a rest is the first one from a place on
pub record EndsBehind (rest : List ℕ) (at : ℕ) : Type 0 where
  pub within : at ≤ length rest
  pub same : length_to_end rest ≡ moved at (length_to_end (drop at rest))

pub begins_behind : (rest : List ℕ) → EndsBehind rest 0
begins_behind rest = record { within = omega arith; same = none_moved (length_to_end rest) }
  where
    none_moved : (o : Option ℕ) → o ≡ moved 0 o
    none_moved None = refl
    none_moved (Some m) = ap Some (omega arith)

suc_moved : (at : ℕ) (o : Option ℕ) → moved at (option_map suc o) ≡ moved (at + 1) o
suc_moved at None = refl
suc_moved at (Some m) = ap Some (omega arith)

-- the two bytes at a place
end_at : (rest : List ℕ) (at : ℕ) → at + 1 < length rest → length_to_end (drop at rest) ≡ cond (eqb (get_or rest at 0) star && eqb (get_or rest (at + 1) 0) slash) (Some 2) (option_map suc (length_to_end (drop (at + 1) rest)))
unfolding length_to_end
end_at rest at inside =
    at_drop_more length_to_end rest at 0 (omega arith)
    ∙ ap (λ t. cond (eqb (get_or rest at 0) star && t) (Some 2) (option_map suc (length_to_end (drop (at + 1) rest)))) (at_drop_more (begins (λ b. eqb b slash)) rest (at + 1) 0 inside)

pub ends_here : (rest : List ℕ) (at : ℕ) → EndsBehind rest at → at + 1 < length rest → (eqb (get_or rest at 0) star && eqb (get_or rest (at + 1) 0) slash) ≡ true → length_to_end rest ≡ Some (at + 2)
ends_here rest at behind inside here = behind.same ∙ ap (moved at) (end_at rest at inside ∙ cond-true _ _ _ here)

pub ends_later : (rest : List ℕ) (at : ℕ) → EndsBehind rest at → at + 1 < length rest → (eqb (get_or rest at 0) star && eqb (get_or rest (at + 1) 0) slash) ≡ false → EndsBehind rest (at + 1)
ends_later rest at behind inside other = record {
  within = omega arith;
  same = behind.same ∙ (ap (moved at) (end_at rest at inside ∙ cond-false _ _ _ other) ∙ suc_moved at (length_to_end (drop (at + 1) rest)));
}

no_end : (xs : List ℕ) → length xs ≤ 1 → length_to_end xs ≡ None
unfolding length_to_end
no_end [] short = refl
no_end (a ∷ []) short = cond-false _ _ _ (and_right _ _ refl)
no_end (a ∷ b ∷ xs) short = absurd (omega arith)

pub ends_nowhere : (rest : List ℕ) (at : ℕ) → EndsBehind rest at → length rest ≤ at + 1 → length_to_end rest ≡ None
ends_nowhere rest at behind over = behind.same ∙ ap (moved at) (no_end (drop at rest) (omega (arith, length-drop at rest)))
