-- Types that are equal, begin alike or denote one another do so under other numbers of functions, types of functions, classes and globals, if the declarations agree.
use Rattle.std.proofs.Common.{◌≡◌, refl, sym, ap, ◌∙◌, subst, Bool, true, false, ◌&&◌, if◌then◌else◌, List, [], ◌∷◌, map, Option, Some, None}
use Rattle.std.specs.Prelude.{slice_get}
use Rattle.cx_core.specs.Tree.{ObjectType, scalar, pointer, function_pointer, class}
use Rattle.cx_core.specs.Renamed.{Names, renamed_type}
use Rattle.cx_soundness.specs.Types.{LeafType, number_leaf, pointer_leaf, function_leaf, no_value, Parameter, object, report, Result, no_result, scalar_result, class_result, reference_result, status, Signature, Declared, Given, numbers, refers, null_reference, functions, a_report}
use Rattle.cx_soundness.specs.Given.{same_object, same_leaf, same_parameter, same_parameters, same_result, same_signature, begins, common, then_given, where_given, given_if, functions_of, is_signature, denotes, leaf_types, is_whole, leaf_given, holds, accepts, parameter_given}
use Rattle.cx_soundness.specs.Expressions.{both_given}
use Rattle.cx_soundness.specs.Units.{renamed_leaf, renamed_parameter, renamed_result, renamed_signature, renamed_signature_or_none, renamed_given, renamed_given_or_none, Agrees}

module _ (names : Names) (unit program : Declared) (agrees : Agrees names unit program) where
  abbrev rl : LeafType → LeafType
  rl t = renamed_leaf names t

  abbrev rg : Given → Given
  rg v = renamed_given names v

  abbrev ro : Option Given → Option Given
  ro v = renamed_given_or_none names v

  abbrev rt : ObjectType → ObjectType
  rt type = renamed_type names type

  abbrev rs : Signature → Signature
  rs s = renamed_signature names s

  -- ---- equal types

  objects_same : (a b : ObjectType) → same_object (rt a) (rt b) ≡ same_object a b
  objects_same (class a) (class b) = agrees.classes_apart a b
  objects_same (pointer a) (pointer b) = objects_same a b
  objects_same (scalar a) (scalar b) = refl
  objects_same (scalar a) (pointer b) = refl
  objects_same (scalar a) (function_pointer b) = refl
  objects_same (scalar a) (class b) = refl
  objects_same (pointer a) (scalar b) = refl
  objects_same (pointer a) (function_pointer b) = refl
  objects_same (pointer a) (class b) = refl
  objects_same (function_pointer a) (scalar b) = refl
  objects_same (function_pointer a) (pointer b) = refl
  objects_same (function_pointer a) (function_pointer b) = agrees.function_types_apart a b
  objects_same (function_pointer a) (class b) = refl
  objects_same (class a) (scalar b) = refl
  objects_same (class a) (pointer b) = refl
  objects_same (class a) (function_pointer b) = refl

  leaves_same : (t u : LeafType) → same_leaf (rl t) (rl u) ≡ same_leaf t u
  leaves_same (pointer_leaf a) (pointer_leaf b) = objects_same a b
  leaves_same (number_leaf a) (number_leaf b) = refl
  leaves_same (number_leaf a) (pointer_leaf b) = refl
  leaves_same (number_leaf a) (function_leaf b) = refl
  leaves_same (number_leaf a) no_value = refl
  leaves_same (pointer_leaf a) (number_leaf b) = refl
  leaves_same (pointer_leaf a) (function_leaf b) = refl
  leaves_same (pointer_leaf a) no_value = refl
  leaves_same (function_leaf a) (number_leaf b) = refl
  leaves_same (function_leaf a) (pointer_leaf b) = refl
  leaves_same (function_leaf a) (function_leaf b) = agrees.function_types_apart a b
  leaves_same (function_leaf a) no_value = refl
  leaves_same no_value (number_leaf b) = refl
  leaves_same no_value (pointer_leaf b) = refl
  leaves_same no_value (function_leaf b) = refl
  leaves_same no_value no_value = refl

  pub begins_same : (ts us : List LeafType) → begins (map rl ts) (map rl us) ≡ begins ts us
  begins_same [] us = refl
  begins_same (t ∷ ts) [] = refl
  begins_same (t ∷ ts) (u ∷ us) = rw (leaves_same t u, begins_same ts us) refl

  pub common_same : (ts us : List LeafType) → common (map rl ts) (map rl us) ≡ map rl (common ts us)
  common_same [] us = refl
  common_same (t ∷ ts) [] = refl
  common_same (t ∷ ts) (u ∷ us) = rw (leaves_same t u, common_same ts us) (by_test (same_leaf t u))
    where
      by_test : (b : Bool) → (if b then (rl t ∷ map rl (common ts us)) else []) ≡ map rl (if b then (t ∷ common ts us) else [])
      by_test true = refl
      by_test false = refl

  parameter_same : (a b : Parameter) → same_parameter (renamed_parameter names a) (renamed_parameter names b) ≡ same_parameter a b
  parameter_same (object a) (object b) = objects_same a b
  parameter_same (object a) report = refl
  parameter_same report (object b) = refl
  parameter_same report report = refl

  parameters_same : (a b : List Parameter) → same_parameters (map (renamed_parameter names) a) (map (renamed_parameter names) b) ≡ same_parameters a b
  parameters_same [] [] = refl
  parameters_same [] (p ∷ b) = refl
  parameters_same (p ∷ a) [] = refl
  parameters_same (p ∷ a) (q ∷ b) = rw (parameter_same p q, parameters_same a b) refl

  results_same : (a b : Result) → same_result (renamed_result names a) (renamed_result names b) ≡ same_result a b
  results_same (scalar_result a) (scalar_result b) = objects_same a b
  results_same (class_result a) (class_result b) = agrees.classes_apart a b
  results_same (reference_result a) (reference_result b) = objects_same a b
  results_same no_result no_result = refl
  results_same no_result (scalar_result b) = refl
  results_same no_result (class_result b) = refl
  results_same no_result (reference_result b) = refl
  results_same no_result status = refl
  results_same (scalar_result a) no_result = refl
  results_same (scalar_result a) (class_result b) = refl
  results_same (scalar_result a) (reference_result b) = refl
  results_same (scalar_result a) status = refl
  results_same (class_result a) no_result = refl
  results_same (class_result a) (scalar_result b) = refl
  results_same (class_result a) (reference_result b) = refl
  results_same (class_result a) status = refl
  results_same (reference_result a) no_result = refl
  results_same (reference_result a) (scalar_result b) = refl
  results_same (reference_result a) (class_result b) = refl
  results_same (reference_result a) status = refl
  results_same status no_result = refl
  results_same status (scalar_result b) = refl
  results_same status (class_result b) = refl
  results_same status (reference_result b) = refl
  results_same status status = refl

  pub signatures_same : (a b : Signature) → same_signature (rs a) (rs b) ≡ same_signature a b
  signatures_same a b = rw (parameters_same a.parameters b.parameters, results_same a.result b.result) refl

  is_signature_same : (o : Option Signature) (s : Signature) → is_signature (renamed_signature_or_none names o) (rs s) ≡ is_signature o s
  is_signature_same None s = refl
  is_signature_same (Some a) s = signatures_same a s

  -- ---- objects and leaves

  pub types_same : (type : ObjectType) → leaf_types program (rt type) ≡ map rl (leaf_types unit type)
  types_same (scalar s) = refl
  types_same (pointer to) = refl
  types_same (function_pointer k) = refl
  types_same (class c) = agrees.leaves_agree c

  pub whole_same : (type : ObjectType) → is_whole program (rt type) ≡ is_whole unit type
  whole_same (scalar s) = refl
  whole_same (pointer to) = refl
  whole_same (function_pointer k) = refl
  whole_same (class c) = agrees.whole_agree c

  pub begins_types : (type : ObjectType) (ts : List LeafType) → begins (leaf_types program (rt type)) (map rl ts) ≡ begins (leaf_types unit type) ts
  begins_types type ts = rw (types_same type) (begins_same (leaf_types unit type) ts)

  pub begins_both : (a b : ObjectType) → begins (leaf_types program (rt a)) (leaf_types program (rt b)) ≡ begins (leaf_types unit a) (leaf_types unit b)
  begins_both a b = rw (types_same a, types_same b) (begins_same (leaf_types unit a) (leaf_types unit b))

  pub functions_same : (o : Option Signature) → functions_of (renamed_signature_or_none names o) ≡ ro (functions_of o)
  functions_same None = refl
  functions_same (Some s) = refl

  pub leaf_same : (t : LeafType) → leaf_given program (rl t) ≡ ro (leaf_given unit t)
  leaf_same (number_leaf s) = refl
  leaf_same (pointer_leaf to) = ap (λ ts. Some (refers ts)) (types_same to)
  leaf_same (function_leaf k) = subst (λ o. functions_of o ≡ ro (functions_of (slice_get unit.function_types k))) (sym (agrees.function_types_agree k)) (functions_same (slice_get unit.function_types k))
  leaf_same no_value = refl

  pub holds_same : (t : LeafType) (v : Given) → holds program (rl t) (rg v) ≡ holds unit t v
  holds_same (number_leaf s) (numbers f) = refl
  holds_same (number_leaf s) (refers ts) = refl
  holds_same (number_leaf s) null_reference = refl
  holds_same (number_leaf s) (functions f) = refl
  holds_same (number_leaf s) a_report = refl
  holds_same (pointer_leaf to) (refers ts) = begins_types to ts
  holds_same (pointer_leaf to) (numbers f) = refl
  holds_same (pointer_leaf to) null_reference = refl
  holds_same (pointer_leaf to) (functions f) = refl
  holds_same (pointer_leaf to) a_report = refl
  holds_same (function_leaf k) (functions s) = subst (λ o. is_signature o (rs s) ≡ is_signature (slice_get unit.function_types k) s) (sym (agrees.function_types_agree k)) (is_signature_same (slice_get unit.function_types k) s)
  holds_same (function_leaf k) (numbers f) = refl
  holds_same (function_leaf k) (refers ts) = refl
  holds_same (function_leaf k) null_reference = refl
  holds_same (function_leaf k) a_report = refl
  holds_same no_value v = refl

  pub accepts_same : (type : ObjectType) (v : Given) → accepts program (rt type) (rg v) ≡ accepts unit type v
  accepts_same (scalar s) v = holds_same (number_leaf s) v
  accepts_same (pointer to) v = holds_same (pointer_leaf to) v
  accepts_same (function_pointer k) v = holds_same (function_leaf k) v
  accepts_same (class c) v = refl

  pub parameter_given_same : (p : Parameter) → parameter_given program (renamed_parameter names p) ≡ rg (parameter_given unit p)
  parameter_given_same (object type) = ap refers (types_same type)
  parameter_given_same report = refl

  pub denotes_same : (a b : Given) → denotes (rg a) (rg b) ≡ denotes a b
  denotes_same (refers ts) (refers us) = begins_same ts us
  denotes_same (numbers a) (numbers b) = refl
  denotes_same (numbers a) (refers b) = refl
  denotes_same (numbers a) null_reference = refl
  denotes_same (numbers a) (functions b) = refl
  denotes_same (numbers a) a_report = refl
  denotes_same (refers a) (numbers b) = refl
  denotes_same (refers a) null_reference = refl
  denotes_same (refers a) (functions b) = refl
  denotes_same (refers a) a_report = refl
  denotes_same null_reference (numbers b) = refl
  denotes_same null_reference (refers b) = refl
  denotes_same null_reference null_reference = refl
  denotes_same null_reference (functions b) = refl
  denotes_same null_reference a_report = refl
  denotes_same (functions a) (numbers b) = refl
  denotes_same (functions a) (refers b) = refl
  denotes_same (functions a) null_reference = refl
  denotes_same (functions a) (functions b) = refl
  denotes_same (functions a) a_report = refl
  denotes_same a_report (numbers b) = refl
  denotes_same a_report (refers b) = refl
  denotes_same a_report null_reference = refl
  denotes_same a_report (functions b) = refl
  denotes_same a_report a_report = refl

  pub denotes_parameter : (p : Parameter) (v : Given) → denotes (parameter_given program (renamed_parameter names p)) (rg v) ≡ denotes (parameter_given unit p) v
  denotes_parameter p v = rw (parameter_given_same p) (denotes_same (parameter_given unit p) v)

  -- ---- given types, one after another

  pub if_same : (b : Bool) (v : Option Given) → given_if b (ro v) ≡ ro (given_if b v)
  if_same true v = refl
  if_same false v = refl

  pub if_equal : (a b : Bool) (v w : Option Given) → a ≡ b → v ≡ ro w → given_if a v ≡ ro (given_if b w)
  if_equal a b v w p q = ap (λ x. given_if x v) p ∙ ap (λ x. given_if b x) q ∙ if_same b w

  then_same : (v : Option Given) (f g : Given → Option Given) → ((u : Given) → g (rg u) ≡ ro (f u)) → then_given (ro v) g ≡ ro (then_given v f)
  then_same None f g h = refl
  then_same (Some u) f g h = h u

  pub then_equal : (v w : Option Given) (f g : Given → Option Given) → w ≡ ro v → ((u : Given) → g (rg u) ≡ ro (f u)) → then_given w g ≡ ro (then_given v f)
  then_equal v w f g e h = ap (λ x. then_given x g) e ∙ then_same v f g h

  pub both_equal : (a b c d : Option Given) (f g : Given → Given → Option Given) → c ≡ ro a → d ≡ ro b → ((u v : Given) → g (rg u) (rg v) ≡ ro (f u v)) → both_given c d g ≡ ro (both_given a b f)
  both_equal a b c d f g p q h = then_equal a c (λ v. then_given b (f v)) (λ v. then_given d (g v)) p (λ u. then_equal b d (f u) (g (rg u)) q (λ v. h u v))

  pub where_same : (v w : Option Given) (f g : Given → Bool) → w ≡ ro v → ((u : Given) → g (rg u) ≡ f u) → where_given w g ≡ where_given v f
  where_same None w f g e h = ap (λ x. where_given x g) e
  where_same (Some u) w f g e h = ap (λ x. where_given x g) e ∙ h u

  pub and_same : (a b c d : Bool) → a ≡ c → b ≡ d → (a && b) ≡ (c && d)
  and_same a b c d p q = rw (p, q) refl
