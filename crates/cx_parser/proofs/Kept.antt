-- What a move is to keep of the promise, and choices by one token.
use Rattle.std.proofs.Common.{◌≡◌, ℕ, Bool, true, false, cond, List, ◌∷◌, ◌++◌, Option, Some, None, refl, subst}
use Rattle.cx_syntax.specs.declared.mark.Punct.{Punct}
use Rattle.cx_syntax.specs.declared.mark.Word.{Word}
use Rattle.cx_syntax.specs.declared.mark.Mark.{Mark}
use Rattle.cx_syntax.specs.declared.mark.Mark.TheVariants as M
use Rattle.cx_table.specs.declared.symbol.Symbol.{Symbol}
use Rattle.cx_parser.proofs.Same.{punct_same, word_same}
use Rattle.cx_parser.proofs.Typed.{Fn, Typed}
use Rattle.cx_values.specs.Values.{Values, mark_val}
use Rattle.cx_syntax.specs.Same.{same_punct, same_word}
use Rattle.cx_syntax.specs.Spell.{sign, spot, word}
use Rattle.cx_table.specs.Moves.{Move, eat, push}
use Rattle.cx_table.specs.Sorts.{is_mark, is_word}

abbrev pub Kept : Move → List Symbol → Option Mark → Values → Fn → Type 0
Kept (push b) k o vs c = Typed (b ++ k) o vs c
Kept (eat b) k (Some m) vs c = (i : ℕ) (o : Option Mark) → Typed (b ++ k) o (mark_val m i ∷ vs) (λ w. c (spot m i ∷ w))
Kept _ k o vs c = Unit {0}

-- a choice by a punctuator
pub kept_sign : (p : Punct) (a : List Symbol) (v : Move) (k : List Symbol) (o : Option Mark) (vs : Values) (c : Fn)
    → ((i : ℕ) (o : Option Mark) → Typed (a ++ k) o (mark_val (M.Punct p) i ∷ vs) (λ w. c (sign p i w)))
    → Kept v k o vs c
    → Kept (cond (is_mark p o) (eat a) v) k o vs c
kept_sign p a v k (Some (M.Punct q)) vs c f g = go (same_punct p q) refl
  where
    go : (b : Bool) → same_punct p q ≡ b → Kept (cond b (eat a) v) k (Some (M.Punct q)) vs c
    go true h = subst (λ x. (i : ℕ) (o : Option Mark) → Typed (a ++ k) o (mark_val (M.Punct x) i ∷ vs) (λ w. c (sign x i w))) (punct_same p q h) f
    go false h = g
kept_sign p a v k (Some _) vs c f g = g
kept_sign p a v k None vs c f g = g

-- a choice by a keyword
pub kept_word : (j : Word) (a : List Symbol) (v : Move) (k : List Symbol) (o : Option Mark) (vs : Values) (c : Fn)
    → (is_word j o ≡ true → (i : ℕ) (o : Option Mark) → Typed (a ++ k) o (mark_val (M.Word j) i ∷ vs) (λ w. c (word j i w)))
    → (is_word j o ≡ false → Kept v k o vs c)
    → Kept (cond (is_word j o) (eat a) v) k o vs c
kept_word j a v k (Some (M.Word q)) vs c f g = go (same_word j q) refl
  where
    go : (b : Bool) → same_word j q ≡ b → Kept (cond b (eat a) v) k (Some (M.Word q)) vs c
    go true h = subst (λ x. (i : ℕ) (o : Option Mark) → Typed (a ++ k) o (mark_val (M.Word x) i ∷ vs) (λ w. c (word x i w))) (word_same j q h) (f h)
    go false h = g h
kept_word j a v k (Some _) vs c f g = g refl
kept_word j a v k None vs c f g = g refl

-- a choice without a token
pub kept_either : (b : Bool) (v z : Move) (k : List Symbol) (o : Option Mark) (vs : Values) (c : Fn) → Kept v k o vs c → Kept z k o vs c → Kept (cond b v z) k o vs c
kept_either true v z k o vs c f g = f
kept_either false v z k o vs c f g = g
