-- The tokens of an expression, each behind a space.
use Rattle.std.proofs.Common.{◌≡◌, ℕ, List, [], ◌∷◌, ◌++◌, refl, ap, ◌∙◌, append_assoc}
use Rattle.std.specs.List.{join_with_byte}
use Rattle.std.specs.Prelude.{drop}
use Rattle.cx_front.specs.Made.{spelled}

pub spelled_append : (text : List ℕ) (a b : List (List ℕ)) → spelled text (a ++ b) ≡ spelled (spelled text a) b
spelled_append text [] b = refl
spelled_append text (word ∷ words) b = spelled_append (text ++ 32 ∷ word) words b

joined : (text word : List ℕ) (words : List (List ℕ)) → spelled text (word ∷ words) ≡ text ++ (32 ∷ join_with_byte 32 (word ∷ words))
joined text word [] = refl
joined text word (next ∷ words) =
    let e : (text ++ 32 ∷ word) ++ (32 ∷ join_with_byte 32 (next ∷ words)) ≡ text ++ (32 ∷ join_with_byte 32 (word ∷ next ∷ words)) = rw append_assoc refl in
    joined (text ++ 32 ∷ word) next words ∙ e

-- without the first space
pub comment_from : (words : List (List ℕ)) → drop 1 (spelled [] words) ≡ join_with_byte 32 words
comment_from [] = refl
comment_from (word ∷ words) = ap (drop 1) (joined [] word words)
