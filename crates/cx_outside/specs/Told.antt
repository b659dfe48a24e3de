-- Laws of what an object tells from one moment to the next, for the crates above: what was told, then appended to, then counted. This project's own.
use Rattle.std.specs.Prelude.{ℕ, ◌+◌, ◌-◌, ◌^◌, ◌≤◌, List, [], ◌++◌, Option, Some, None, refl}
use Rattle.std.proofs.Common.{sym, ap, ◌∙◌, append_assoc, lit≤}
use Rattle.std.proofs.lemmas.List.{append-nil}
use Rattle.std.proofs.Math.Nat.{le_trans, le-min, min-le_left, min-le_right, add-le-add}
use Rattle.std.specs.Io.KnownBytes.{Keeps, Appends}
use Rattle.cx_outside.specs.Fault.{Rose}
use Rattle.cx_outside.specs.Folder.{BothTold}

-- nothing was appended where nothing was done
pub Appends-nothing : (a : Option (List ℕ)) → Appends a a []
Appends-nothing None = tt
Appends-nothing (Some xs) = sym (append-nil xs)

-- what two calls appended, one after the other
pub Appends-then : (a b c : Option (List ℕ)) (x y : List ℕ) → Appends a b x → Appends b c y → Appends a c (x ++ y)
Appends-then None b c x y p q = tt
Appends-then (Some xs) None c x y p q = absurd p
Appends-then (Some xs) (Some ys) None x y p q = absurd q
Appends-then (Some xs) (Some ys) (Some zs) x y p q = q ∙ ap (λ (t : List ℕ). t ++ y) p ∙ append_assoc xs x y

-- a call that appended nothing, after one that appended x
pub Appends-kept : (a b c : Option (List ℕ)) (x : List ℕ) → Appends a b x → Keeps b c → Appends a c x
Appends-kept None b c x p q = tt
Appends-kept (Some xs) None c x p q = absurd p
Appends-kept (Some xs) (Some ys) None x p q = absurd q
Appends-kept (Some xs) (Some ys) (Some zs) x p q = q ∙ p

-- what is told stays where nothing was done
pub Keeps-same : (a : Option (List ℕ)) → Keeps a a
Keeps-same None = tt
Keeps-same (Some xs) = refl

-- what two calls kept
pub Keeps-then : (a b c : Option (List ℕ)) → Keeps a b → Keeps b c → Keeps a c
Keeps-then None b c p q = tt
Keeps-then (Some xs) None c p q = absurd p
Keeps-then (Some xs) (Some ys) None p q = absurd q
Keeps-then (Some xs) (Some ys) (Some zs) p q = q ∙ p

-- what two calls did to a content that is told
pub BothTold-then : {C : Type 0} (P Q R : C → C → Type 0) → ((x y z : C) → P x y → Q y z → R x z) → (a b c : Option C) → BothTold a b P → BothTold b c Q → BothTold a c R
BothTold-then P Q R both None b c p q = tt
BothTold-then P Q R both (Some x) None c p q = absurd p
BothTold-then P Q R both (Some x) (Some y) None p q = absurd q
BothTold-then P Q R both (Some x) (Some y) (Some z) p q = both x y z p q

-- what holds between any two contents that P relates
pub BothTold-so : {C : Type 0} (P R : C → C → Type 0) → ((x y : C) → P x y → R x y) → (a b : Option C) → BothTold a b P → BothTold a b R
BothTold-so P R so None b p = tt
BothTold-so P R so (Some x) None p = absurd p
BothTold-so P R so (Some x) (Some y) p = so x y p

-- a content that stays is related to itself
pub BothTold-same : {C : Type 0} (R : C → C → Type 0) → ((x : C) → R x x) → (a : Option C) → BothTold a a R
BothTold-same R same None = tt
BothTold-same R same (Some x) = same x

-- a fault since a later moment is one since an earlier moment
pub Rose-earlier : (first later now : ℕ) → first ≤ later → Rose later now → Rose first now
Rose-earlier first later now le rose = le_trans (le-min (le_trans (min-le_left (first + 1) (2 ^ 64 - 1)) (add-le-add le (lit≤ tt))) (min-le_right (first + 1) (2 ^ 64 - 1))) rose

-- a fault before an earlier moment is one before a later moment
pub Rose-later : (first now later : ℕ) → now ≤ later → Rose first now → Rose first later
Rose-later first now later le rose = le_trans rose le
