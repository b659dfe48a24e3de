-- What reads take, one after the other.
use Rattle.std.proofs.Common.{ℕ, List, [], ◌++◌, Option, Some, None, refl, sym, ap, ◌∙◌, append_assoc}
use Rattle.std.proofs.lemmas.List.{append-nil}
use Rattle.std.specs.Io.KnownBytes.{Keeps, Consumes, IsAtEnd}
use Rattle.cx_machine.specs.Outcome.{TakesAll}

pub Consumes-nothing : (a : Option (List ℕ)) → Consumes a a []
Consumes-nothing None = tt
Consumes-nothing (Some xs) = refl

pub Consumes-then : (a b c : Option (List ℕ)) (x y : List ℕ) → Consumes a b x → Consumes b c y → Consumes a c (x ++ y)
Consumes-then None b c x y p q = tt
Consumes-then (Some xs) None c x y p q = absurd p
Consumes-then (Some xs) (Some ys) None x y p q = absurd q
Consumes-then (Some xs) (Some ys) (Some zs) x y p q = p ∙ ap (λ (t : List ℕ). x ++ t) q ∙ sym (append_assoc x y zs)

-- the end was met after these bytes
pub TakesAll-from_end : (a b c : Option (List ℕ)) (x : List ℕ) → Consumes a b x → IsAtEnd b → Keeps b c → TakesAll a c x
TakesAll-from_end None b c x p e k = tt
TakesAll-from_end (Some xs) None c x p e k = absurd p
TakesAll-from_end (Some xs) (Some ys) None x p e k = absurd k
TakesAll-from_end (Some xs) (Some ys) (Some zs) x p e k = (p ∙ ap (λ (t : List ℕ). x ++ t) e ∙ append-nil x, k ∙ e)
