-- Operators give the same types under other numbers of functions, types of functions, classes and globals, if the declarations agree.
use Rattle.std.proofs.Common.{◌≡◌, refl, ap, ℕ, zero, suc, Bool, true, false, ◌&&◌, if◌then◌else◌, List, [], ◌∷◌, map, drop, Option, Some, None}
use Rattle.cx_core.specs.declared.number.IntegerType.{IntegerType}
use Rattle.cx_core.specs.declared.number.IntegerType.TheVariants as integers
use Rattle.cx_core.specs.declared.number.BinaryOperator.{BinaryOperator}
use Rattle.cx_core.specs.declared.number.UnaryOperator.{UnaryOperator}
use Rattle.cx_core.specs.declared.number.Query.{Query}
use Rattle.cx_core.specs.declared.number.Query.TheVariants as queries
use Rattle.cx_core.specs.Tree.{ObjectType, scalar, pointer, function_pointer, class}
use Rattle.cx_core.specs.Renamed.{Names, renamed_type, renamed_type_or_none}
use Rattle.cx_soundness.specs.Types.{LeafType, number_leaf, pointer_leaf, function_leaf, no_value, Signature, Declared, Given, numbers, refers, null_reference, functions, a_report}
use Rattle.cx_soundness.specs.Given.{is_comparison, only, truths, pointer_converted, converted_given, is_truth, unary_given, is_equality, operated_given, are_compared, binary_given, logical_given, joined, conditional_given, keeps_leaf, keeps, is_right, compound_given, steps, prefix_given, postfix_given, indirection_given, member_given, putchar_given, comment_given, told_given, query_given, read_leaf_given, read_given, assigned_given}
use Rattle.cx_soundness.specs.Units.{renamed_leaf, renamed_signature, renamed_given, renamed_given_or_none, Agrees}
use Rattle.cx_soundness.proofs.RenamedTypes.{begins_same, common_same, signatures_same, leaf_same, holds_same, if_same, if_equal, and_same}

module _ (names : Names) (unit program : Declared) (agrees : Agrees names unit program) where
  abbrev rl : LeafType → LeafType
  rl t = renamed_leaf names t

  abbrev rg : Given → Given
  rg v = renamed_given names v

  abbrev ro : Option Given → Option Given
  ro v = renamed_given_or_none names v

  abbrev rt : ObjectType → ObjectType
  rt type = renamed_type names type

  abbrev rs : Signature → Signature
  rs s = renamed_signature names s

  -- ---- operators

  pointer_same : (type : IntegerType) → pointer_converted type ≡ ro (pointer_converted type)
  pointer_same integers.Bool = refl
  pointer_same integers.Char = refl
  pointer_same integers.Int = refl
  pointer_same integers.Unsigned = refl
  pointer_same integers.LongLong = refl
  pointer_same integers.UnsignedLongLong = refl

  pub converted_same : (to : Option IntegerType) (v : Given) → converted_given to (rg v) ≡ ro (converted_given to v)
  converted_same None v = refl
  converted_same (Some type) (numbers f) = refl
  converted_same (Some type) (refers ts) = pointer_same type
  converted_same (Some type) null_reference = pointer_same type
  converted_same (Some type) (functions s) = pointer_same type
  converted_same (Some type) a_report = refl

  read_leaf_same : (t : LeafType) (v : Given) → read_leaf_given program (rl t) (rg v) ≡ ro (read_leaf_given unit t v)
  read_leaf_same t (refers ts) = if_equal names unit program agrees _ _ _ _ (begins_same names unit program agrees (t ∷ []) ts) (leaf_same names unit program agrees t)
  read_leaf_same t null_reference = leaf_same names unit program agrees t
  read_leaf_same t (numbers f) = refl
  read_leaf_same t (functions s) = refl
  read_leaf_same t a_report = refl

  pub read_same : (type : Option ObjectType) (v : Given) → read_given program (renamed_type_or_none names type) (rg v) ≡ ro (read_given unit type v)
  read_same None v = refl
  read_same (Some (scalar s)) v = read_leaf_same (number_leaf s) v
  read_same (Some (pointer to)) v = read_leaf_same (pointer_leaf to) v
  read_same (Some (function_pointer k)) v = read_leaf_same (function_leaf k) v
  read_same (Some (class c)) v = refl

  pub truth_same : (v : Given) → is_truth (rg v) ≡ is_truth v
  truth_same (numbers f) = refl
  truth_same (refers ts) = refl
  truth_same null_reference = refl
  truth_same (functions s) = refl
  truth_same a_report = refl

  pub unary_same : (operator : UnaryOperator) (type : IntegerType) (v : Given) → unary_given operator type (rg v) ≡ ro (unary_given operator type v)
  unary_same operator type (numbers f) = if_same names unit program agrees (f type) (Some (only type))
  unary_same operator type (refers ts) = refl
  unary_same operator type null_reference = refl
  unary_same operator type (functions s) = refl
  unary_same operator type a_report = refl

  operated_same : (operator : BinaryOperator) (type : IntegerType) → Some (operated_given operator type) ≡ ro (Some (operated_given operator type))
  operated_same operator type = by_test (is_comparison operator)
    where
      by_test : (b : Bool) → Some (if b then truths else only type) ≡ ro (Some (if b then truths else only type))
      by_test true = refl
      by_test false = refl

  compared_same : (a b : Given) → are_compared (rg a) (rg b) ≡ are_compared a b
  compared_same (numbers f) b = refl
  compared_same (refers ts) (numbers f) = refl
  compared_same (refers ts) (refers us) = refl
  compared_same (refers ts) null_reference = refl
  compared_same (refers ts) (functions s) = refl
  compared_same (refers ts) a_report = refl
  compared_same null_reference (numbers f) = refl
  compared_same null_reference (refers us) = refl
  compared_same null_reference null_reference = refl
  compared_same null_reference (functions s) = refl
  compared_same null_reference a_report = refl
  compared_same (functions f) (numbers g) = refl
  compared_same (functions f) (refers us) = refl
  compared_same (functions f) null_reference = refl
  compared_same (functions f) (functions s) = refl
  compared_same (functions f) a_report = refl
  compared_same a_report b = refl

  pub binary_same : (operator : BinaryOperator) (type : IntegerType) (a b : Given) → binary_given operator type (rg a) (rg b) ≡ ro (binary_given operator type a b)
  binary_same operator type (numbers f) (numbers g) = if_equal names unit program agrees _ _ _ (Some (operated_given operator type)) refl (operated_same operator type)
  binary_same operator type (numbers f) (refers ts) = refl
  binary_same operator type (numbers f) null_reference = refl
  binary_same operator type (numbers f) (functions s) = refl
  binary_same operator type (numbers f) a_report = refl
  binary_same operator type (refers ts) b = if_equal names unit program agrees _ _ _ (Some truths) (ap (λ x. is_equality operator && x) (compared_same (refers ts) b)) refl
  binary_same operator type null_reference b = if_equal names unit program agrees _ _ _ (Some truths) (ap (λ x. is_equality operator && x) (compared_same null_reference b)) refl
  binary_same operator type (functions s) b = if_equal names unit program agrees _ _ _ (Some truths) (ap (λ x. is_equality operator && x) (compared_same (functions s) b)) refl
  binary_same operator type a_report b = refl

  pub logical_same : (a b : Given) → logical_given (rg a) (rg b) ≡ ro (logical_given a b)
  logical_same a b = if_equal names unit program agrees _ _ _ (Some truths) (and_same names unit program agrees _ _ _ _ (truth_same a) (truth_same b)) refl

  joined_same : (a b : Given) → joined (rg a) (rg b) ≡ ro (joined a b)
  joined_same (refers ts) (refers us) = ap (λ x. Some (refers x)) (common_same names unit program agrees ts us)
  joined_same (functions s) (functions t) = if_equal names unit program agrees _ _ _ (Some (functions s)) (signatures_same names unit program agrees s t) refl
  joined_same (numbers a) (numbers b) = refl
  joined_same (numbers a) (refers b) = refl
  joined_same (numbers a) null_reference = refl
  joined_same (numbers a) (functions b) = refl
  joined_same (numbers a) a_report = refl
  joined_same (refers a) (numbers b) = refl
  joined_same (refers a) null_reference = refl
  joined_same (refers a) (functions b) = refl
  joined_same (refers a) a_report = refl
  joined_same null_reference (numbers b) = refl
  joined_same null_reference (refers b) = refl
  joined_same null_reference null_reference = refl
  joined_same null_reference (functions b) = refl
  joined_same null_reference a_report = refl
  joined_same (functions a) (numbers b) = refl
  joined_same (functions a) (refers b) = refl
  joined_same (functions a) null_reference = refl
  joined_same (functions a) a_report = refl
  joined_same a_report (numbers b) = refl
  joined_same a_report (refers b) = refl
  joined_same a_report null_reference = refl
  joined_same a_report (functions b) = refl
  joined_same a_report a_report = refl

  pub conditional_same : (d a b : Given) → conditional_given (rg d) (rg a) (rg b) ≡ ro (conditional_given d a b)
  conditional_same d a b = if_equal names unit program agrees _ _ _ (joined a b) (truth_same d) (joined_same a b)

  pub assigned_same : (p v : Given) → assigned_given program (rg p) (rg v) ≡ ro (assigned_given unit p v)
  assigned_same (refers []) v = refl
  assigned_same (refers (t ∷ ts)) v = if_equal names unit program agrees _ _ _ (Some (refers (t ∷ ts))) (holds_same names unit program agrees t v) refl
  assigned_same null_reference v = refl
  assigned_same (numbers f) v = refl
  assigned_same (functions s) v = refl
  assigned_same a_report v = refl

  keeps_leaf_same : (type : IntegerType) (ts : List LeafType) → keeps_leaf type (map rl ts) ≡ keeps_leaf type ts
  keeps_leaf_same type [] = refl
  keeps_leaf_same type (number_leaf s ∷ ts) = refl
  keeps_leaf_same type (pointer_leaf to ∷ ts) = refl
  keeps_leaf_same type (function_leaf k ∷ ts) = refl
  keeps_leaf_same type (no_value ∷ ts) = refl

  keeps_same : (type : IntegerType) (p : Given) → keeps type (rg p) ≡ keeps type p
  keeps_same type (refers ts) = keeps_leaf_same type ts
  keeps_same type (numbers f) = refl
  keeps_same type null_reference = refl
  keeps_same type (functions s) = refl
  keeps_same type a_report = refl

  right_same : (operator : BinaryOperator) (type : IntegerType) (v : Given) → is_right operator type (rg v) ≡ is_right operator type v
  right_same operator type (numbers f) = refl
  right_same operator type (refers ts) = refl
  right_same operator type null_reference = refl
  right_same operator type (functions s) = refl
  right_same operator type a_report = refl

  pub compound_same : (operator : BinaryOperator) (computed kept : IntegerType) (p v : Given) → compound_given operator computed kept (rg p) (rg v) ≡ ro (compound_given operator computed kept p v)
  compound_same operator computed kept p v = if_equal names unit program agrees _ _ _ (Some p) (and_same names unit program agrees _ _ _ _ (keeps_same kept p) (right_same operator computed v)) refl

  steps_same : (operator : BinaryOperator) (type : IntegerType) (p : Given) → steps operator type (rg p) ≡ steps operator type p
  steps_same operator type p = and_same names unit program agrees _ _ _ _ (keeps_same type p) refl

  pub prefix_same : (operator : BinaryOperator) (type : IntegerType) (p : Given) → prefix_given operator type (rg p) ≡ ro (prefix_given operator type p)
  prefix_same operator type p = if_equal names unit program agrees _ _ _ (Some p) (steps_same operator type p) refl

  pub postfix_same : (operator : BinaryOperator) (type : IntegerType) (p : Given) → postfix_given operator type (rg p) ≡ ro (postfix_given operator type p)
  postfix_same operator type p = if_equal names unit program agrees _ _ _ (Some (only type)) (steps_same operator type p) refl

  pub indirection_same : (v : Given) → indirection_given (rg v) ≡ ro (indirection_given v)
  indirection_same (refers ts) = refl
  indirection_same (numbers f) = refl
  indirection_same null_reference = refl
  indirection_same (functions s) = refl
  indirection_same a_report = refl

  pub dropped_same : (n : ℕ) (ts : List LeafType) → drop n (map rl ts) ≡ map rl (drop n ts)
  dropped_same zero ts = refl
  dropped_same (suc n) [] = refl
  dropped_same (suc n) (t ∷ ts) = dropped_same n ts

  pub member_same : (leaf : ℕ) (v : Given) → member_given leaf (rg v) ≡ ro (member_given leaf v)
  member_same leaf (refers ts) = ap (λ x. Some (refers x)) (dropped_same leaf ts)
  member_same leaf (numbers f) = refl
  member_same leaf null_reference = refl
  member_same leaf (functions s) = refl
  member_same leaf a_report = refl

  pub putchar_same : (v : Given) → putchar_given (rg v) ≡ ro (putchar_given v)
  putchar_same (numbers f) = refl
  putchar_same (refers ts) = refl
  putchar_same null_reference = refl
  putchar_same (functions s) = refl
  putchar_same a_report = refl

  pub comment_same : (v : Given) → comment_given (rg v) ≡ ro (comment_given v)
  comment_same (numbers f) = refl
  comment_same (refers ts) = refl
  comment_same null_reference = refl
  comment_same (functions s) = refl
  comment_same a_report = refl

  told_same : (q : Query) → told_given q ≡ rg (told_given q)
  told_same queries.Kind = refl
  told_same queries.Semantic = refl
  told_same queries.DetectionMode = refl
  told_same queries.Line = refl
  told_same queries.Column = refl

  pub query_same : (q : Query) (v : Given) → query_given q (rg v) ≡ ro (query_given q v)
  query_same q (numbers f) = refl
  query_same q (refers ts) = refl
  query_same q null_reference = refl
  query_same q (functions s) = refl
  query_same q a_report = ap Some (told_same q)
