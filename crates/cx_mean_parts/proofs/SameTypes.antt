-- Types are the same where as many pointers lead to the same.
use Rattle.std.proofs.Common.{◌≡◌, ◌≢◌, refl, ap, sym, ◌∙◌, ℕ, zero, suc, false, nat_eq}
use Rattle.std.proofs.lemmas.Bool.{ne_eqb}
use Rattle.cx_types.specs.declared.value_type.Base.{Base}
use Rattle.cx_types.specs.declared.value_type.Base.TheVariants as bases
use Rattle.cx_core.specs.Tree.{ObjectType, pointer}
use Rattle.cx_core.specs.Statements.{same_type}
use Rattle.cx_core.specs.View.{base_type, pointer_to}

base_is_no_pointer : (x : Base) (t : ObjectType) → same_type (base_type x) (pointer t) ≡ false
base_is_no_pointer (bases.Scalar s) t = refl
base_is_no_pointer (bases.Class c) t = refl
base_is_no_pointer (bases.Function f) t = refl
base_is_no_pointer bases.Violation t = refl
base_is_no_pointer bases.Void t = refl

pointer_is_no_base : (t : ObjectType) (x : Base) → same_type (pointer t) (base_type x) ≡ false
pointer_is_no_base t (bases.Scalar s) = refl
pointer_is_no_base t (bases.Class c) = refl
pointer_is_no_base t (bases.Function f) = refl
pointer_is_no_base t bases.Violation = refl
pointer_is_no_base t bases.Void = refl

same_under : (n : ℕ) (x y : Base) → same_type (pointer_to n (base_type x)) (pointer_to n (base_type y)) ≡ same_type (base_type x) (base_type y)
same_under zero x y = refl
same_under (suc n) x y = same_under n x y

pub as_many : (m n : ℕ) (x y : Base) → m ≡ n → same_type (pointer_to m (base_type x)) (pointer_to n (base_type y)) ≡ same_type (base_type x) (base_type y)
as_many m n x y e = rw e (same_under n x y)

differs : (m n : ℕ) (x y : Base) → m ≢ n → same_type (pointer_to m (base_type x)) (pointer_to n (base_type y)) ≡ false
differs zero zero x y d = absurd (d refl)
differs zero (suc n) x y d = base_is_no_pointer x (pointer_to n (base_type y))
differs (suc m) zero x y d = pointer_is_no_base (pointer_to m (base_type x)) y
differs (suc m) (suc n) x y d = differs m n x y (λ e. d (ap suc e))

pub not_as_many : (m n : ℕ) (x y : Base) → m ≢ n → nat_eq m n ≡ same_type (pointer_to m (base_type x)) (pointer_to n (base_type y))
not_as_many m n x y d = ne_eqb m n d ∙ sym (differs m n x y d)
