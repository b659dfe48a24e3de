-- Types that are found equal are equal, and what a list of leaves begins with stands at its places.
use Rattle.std.proofs.Common.{◌≡◌, refl, sym, ap, ◌∙◌, subst, zero-add, suc-add, ℕ, zero, suc, ◌+◌, Bool, true, false, ◌&&◌, if◌then◌else◌, nat_eq, List, [], ◌∷◌, drop, Some, inl, inr}
use Rattle.std.specs.Prelude.{slice_get}
use Rattle.std.proofs.lemmas.Bool.Decides.{eqb_tells}
use Rattle.cx_types.specs.declared.value_type.Scalar.{Scalar}
use Rattle.cx_types.specs.declared.value_type.Scalar.TheVariants as scalars
use Rattle.cx_core.specs.declared.number.IntegerType.{IntegerType}
use Rattle.cx_core.specs.declared.number.IntegerType.TheVariants as types
use Rattle.cx_core.specs.Tree.{ObjectType, scalar, pointer, function_pointer, class}
use Rattle.cx_soundness.specs.Types.{LeafType, number_leaf, pointer_leaf, function_leaf, no_value, Parameter, object, report, Result, no_result, scalar_result, class_result, reference_result, status, Signature}
use Rattle.cx_soundness.specs.Given.{integer_code, same_integer, scalar_code, same_object, same_leaf, same_parameter, same_parameters, same_result, same_signature, begins, common}

-- ---- tests

pub both_left : (a b : Bool) → (a && b) ≡ true → a ≡ true
both_left true b h = refl
both_left false b h = absurd cc

pub both_right : (a b : Bool) → (a && b) ≡ true → b ≡ true
both_right true b h = h
both_right false b h = absurd cc

pub equal_numbers : (a b : ℕ) → nat_eq a b ≡ true → a ≡ b
equal_numbers a b h = elim (eqb_tells a b) [ inl e ↦ e.1 | inr e ↦ absurd (different e.0 h) ]
  where
    different : nat_eq a b ≡ false → nat_eq a b ≡ true → ⊥
    different p q = cc

-- ---- types by their codes

abbrev integers : List IntegerType
integers = types.Bool ∷ types.Bool ∷ types.Char ∷ types.Int ∷ types.Unsigned ∷ types.LongLong ∷ types.UnsignedLongLong ∷ []

integer_by_code : (type : IntegerType) → slice_get integers (integer_code type) ≡ Some type
integer_by_code types.Bool = refl
integer_by_code types.Char = refl
integer_by_code types.Int = refl
integer_by_code types.Unsigned = refl
integer_by_code types.LongLong = refl
integer_by_code types.UnsignedLongLong = refl

abbrev all_scalars : List Scalar
all_scalars =
    scalars.Bool ∷ scalars.Bool ∷ scalars.Char ∷ scalars.Int ∷ scalars.Unsigned ∷ scalars.LongLong ∷ scalars.UnsignedLongLong
    ∷ scalars.AssertionKind ∷ scalars.EvaluationSemantic ∷ scalars.DetectionMode ∷ scalars.Null ∷ scalars.Literal ∷ scalars.Location ∷ []

scalar_by_code : (s : Scalar) → slice_get all_scalars (scalar_code s) ≡ Some s
scalar_by_code scalars.Bool = refl
scalar_by_code scalars.Char = refl
scalar_by_code scalars.Int = refl
scalar_by_code scalars.Unsigned = refl
scalar_by_code scalars.LongLong = refl
scalar_by_code scalars.UnsignedLongLong = refl
scalar_by_code scalars.AssertionKind = refl
scalar_by_code scalars.EvaluationSemantic = refl
scalar_by_code scalars.DetectionMode = refl
scalar_by_code scalars.Null = refl
scalar_by_code scalars.Literal = refl
scalar_by_code scalars.Location = refl

found_alike : {A : Type 0} (a b : A) → Some a ≡ Some b → a ≡ b
found_alike a b e = cc

pub equal_integers : (a b : IntegerType) → same_integer a b ≡ true → a ≡ b
equal_integers a b h = found_alike a b (sym (integer_by_code a) ∙ ap (slice_get integers) (equal_numbers (integer_code a) (integer_code b) h) ∙ integer_by_code b)

pub equal_scalars : (a b : Scalar) → nat_eq (scalar_code a) (scalar_code b) ≡ true → a ≡ b
equal_scalars a b h = found_alike a b (sym (scalar_by_code a) ∙ ap (slice_get all_scalars) (equal_numbers (scalar_code a) (scalar_code b) h) ∙ scalar_by_code b)

pub equal_objects : (a b : ObjectType) → same_object a b ≡ true → a ≡ b
equal_objects (scalar a) (scalar b) h = ap scalar (equal_scalars a b h)
equal_objects (pointer a) (pointer b) h = ap pointer (equal_objects a b h)
equal_objects (function_pointer a) (function_pointer b) h = ap function_pointer (equal_numbers a b h)
equal_objects (class a) (class b) h = ap class (equal_numbers a b h)
equal_objects _ _ h = absurd cc

pub equal_leaves : (a b : LeafType) → same_leaf a b ≡ true → a ≡ b
equal_leaves (number_leaf a) (number_leaf b) h = ap number_leaf (equal_scalars a b h)
equal_leaves (pointer_leaf a) (pointer_leaf b) h = ap pointer_leaf (equal_objects a b h)
equal_leaves (function_leaf a) (function_leaf b) h = ap function_leaf (equal_numbers a b h)
equal_leaves no_value no_value h = refl
equal_leaves _ _ h = absurd cc

equal_parameter : (a b : Parameter) → same_parameter a b ≡ true → a ≡ b
equal_parameter (object a) (object b) h = ap object (equal_objects a b h)
equal_parameter report report h = refl
equal_parameter _ _ h = absurd cc

equal_parameters : (a b : List Parameter) → same_parameters a b ≡ true → a ≡ b
equal_parameters [] [] h = refl
equal_parameters (a ∷ more) (b ∷ others) h =
    let first = equal_parameter a b (both_left _ _ h) in
    let rest = equal_parameters more others (both_right (same_parameter a b) _ h) in
    cc
equal_parameters [] (b ∷ others) h = absurd cc
equal_parameters (a ∷ more) [] h = absurd cc

equal_results : (a b : Result) → same_result a b ≡ true → a ≡ b
equal_results no_result no_result h = refl
equal_results (scalar_result a) (scalar_result b) h = ap scalar_result (equal_objects a b h)
equal_results (class_result a) (class_result b) h = ap class_result (equal_numbers a b h)
equal_results (reference_result a) (reference_result b) h = ap reference_result (equal_objects a b h)
equal_results status status h = refl
equal_results _ _ h = absurd cc

abbrev signature_with : List Parameter → Result → Signature
signature_with parameters result = record { parameters = parameters; result = result }

pub equal_signatures : (a b : Signature) → same_signature a b ≡ true → a ≡ b
equal_signatures a b h =
    let parameters = equal_parameters a.parameters b.parameters (both_left _ _ h) in
    let result = equal_results a.result b.result (both_right (same_parameters a.parameters b.parameters) _ h) in
    ap (λ (p : List Parameter). signature_with p a.result) parameters ∙ ap (λ (r : Result). signature_with b.parameters r) result

-- ---- what a list of leaves begins with

pub at_start : (ts us : List LeafType) → begins ts us ≡ true → (i : ℕ) (t : LeafType) → slice_get ts i ≡ Some t → slice_get us i ≡ Some t
at_start [] us h i t e = absurd cc
at_start (a ∷ ts) [] h i t e = absurd cc
at_start (a ∷ ts) (b ∷ us) h zero t e = subst (λ x. Some x ≡ Some t) (equal_leaves a b (both_left _ _ h)) e
at_start (a ∷ ts) (b ∷ us) h (suc i) t e = at_start ts us (both_right (same_leaf a b) _ h) i t e

pub of_common_left : (ts us : List LeafType) (i : ℕ) (t : LeafType) → slice_get (common ts us) i ≡ Some t → slice_get ts i ≡ Some t
of_common_left [] us i t e = absurd cc
of_common_left (a ∷ ts) [] i t e = absurd cc
of_common_left (a ∷ ts) (b ∷ us) i t e = by_test (same_leaf a b) i e (λ k. of_common_left ts us k t)
  where
    by_test : (same : Bool) (k : ℕ) → slice_get (if same then (a ∷ common ts us) else []) k ≡ Some t → ((j : ℕ) → slice_get (common ts us) j ≡ Some t → slice_get ts j ≡ Some t) → slice_get (a ∷ ts) k ≡ Some t
    by_test true zero h f = h
    by_test true (suc k) h f = f k h
    by_test false k h f = absurd cc

pub of_common_right : (ts us : List LeafType) (i : ℕ) (t : LeafType) → slice_get (common ts us) i ≡ Some t → slice_get us i ≡ Some t
of_common_right [] us i t e = absurd cc
of_common_right (a ∷ ts) [] i t e = absurd cc
of_common_right (a ∷ ts) (b ∷ us) i t e = by_test (same_leaf a b) refl i e (λ k. of_common_right ts us k t)
  where
    by_test : (same : Bool) → same_leaf a b ≡ same → (k : ℕ) → slice_get (if same then (a ∷ common ts us) else []) k ≡ Some t → ((j : ℕ) → slice_get (common ts us) j ≡ Some t → slice_get us j ≡ Some t) → slice_get (b ∷ us) k ≡ Some t
    by_test true found zero h f = subst (λ x. Some x ≡ Some t) (equal_leaves a b found) h
    by_test true found (suc k) h f = f k h
    by_test false found k h f = absurd cc

pub behind_dropped : (n : ℕ) (ts : List LeafType) (i : ℕ) → slice_get (drop n ts) i ≡ slice_get ts (n + i)
behind_dropped zero ts i = rw zero-add refl
behind_dropped (suc n) [] i = refl
behind_dropped (suc n) (t ∷ ts) i = rw suc-add (behind_dropped n ts i)

pub both_true : (a b : Bool) → a ≡ true → b ≡ true → (a && b) ≡ true
both_true a b p q = rw (p, q) refl

pub begins_through : (ts us vs : List LeafType) → begins ts us ≡ true → begins us vs ≡ true → begins ts vs ≡ true
begins_through [] us vs h k = refl
begins_through (t ∷ ts) [] vs h k = absurd cc
begins_through (t ∷ ts) (u ∷ us) [] h k = absurd cc
begins_through (t ∷ ts) (u ∷ us) (v ∷ vs) h k =
    both_true (same_leaf t v) (begins ts vs) (subst (λ x. same_leaf x v ≡ true) (sym (equal_leaves t u (both_left _ _ h))) (both_left _ _ k))
    (begins_through ts us vs (both_right (same_leaf t u) _ h) (both_right (same_leaf u v) _ k))

pub begins_dropped : (n : ℕ) (ts us : List LeafType) → begins ts us ≡ true → begins (drop n ts) (drop n us) ≡ true
begins_dropped zero ts us h = h
begins_dropped (suc n) [] us h = refl
begins_dropped (suc n) (t ∷ ts) [] h = absurd cc
begins_dropped (suc n) (t ∷ ts) (u ∷ us) h = begins_dropped n ts us (both_right (same_leaf t u) _ h)
