-- The parts of a file one after the other: whether one of them says that the file is taken once.
use Rattle.std.proofs.Common.{◌≡◌, ℕ, ◌+◌, ◌<◌, List, length, take, get_or, sym, subst, ⊎_elim}
use Rattle.std.specs.Prelude.{Contains}
use Rattle.std.proofs.lemmas.List.{take_more}
use Rattle.std.proofs.lemmas.List.Elements.{Contains-get_or, Contains-push_cases}
use Rattle.cx_includes.specs.declared.part.Directive.TheVariants.{Once}
use Rattle.cx_includes.specs.declared.part.Part.{Part}
use Rattle.cx_includes.specs.declared.part.Part.TheVariants.{Line}
use Rattle.cx_includes.specs.Taking.{HasOnce}

pub once_here : (all : List Part) (i : ℕ) (d : Part) (line : ℕ) → i < length all → get_or all i d ≡ Line Once line → HasOnce all
once_here all i d line inside is = (line, subst (Contains all) is (Contains-get_or all i d inside))

pub not_once_yet : (all : List Part) (i : ℕ) (d : Part) → i < length all → ((line : ℕ) → Contains (take i all) (Line Once line) → ⊥) → ((line : ℕ) → get_or all i d ≡ Line Once line → ⊥) → (line : ℕ) → Contains (take (i + 1) all) (Line Once line) → ⊥
not_once_yet all i d inside before here line has =
    ⊎_elim (before line) (here line) (Contains-push_cases (take i all) (get_or all i d) (Line Once line) (subst (λ (l : List Part). Contains l (Line Once line)) (take_more all i d inside) has))

pub never_once : (all : List Part) (i : ℕ) → take i all ≡ all → ((line : ℕ) → Contains (take i all) (Line Once line) → ⊥) → HasOnce all → ⊥
never_once all i whole before has = before has.0 (subst (λ (l : List Part). Contains l (Line Once has.0)) (sym whole) has.1)
