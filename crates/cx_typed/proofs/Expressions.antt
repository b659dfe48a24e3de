-- A typed expression gives a number in the range of its type, and leaves a typed state typed.
use Rattle.std.proofs.Common.{◌≡◌, refl, sym, subst, ℕ, ℤ, pos, Bool, true, false, if◌then◌else◌, Option, Some, None, Result, Ok, Err}
use Rattle.std.specs.Prelude.{slice_get}
use Rattle.cx_types.specs.declared.value_type.Scalar.{Scalar}
use Rattle.cx_core.specs.declared.number.IntegerType.{IntegerType}
use Rattle.cx_core.specs.declared.number.IntegerType.TheVariants as integers
use Rattle.cx_core.specs.declared.number.BinaryOperator.{BinaryOperator}
use Rattle.cx_core.specs.declared.number.UnaryOperator.{UnaryOperator}
use Rattle.cx_core.specs.Words.{Kind, Mixed, Undefined}
use Rattle.cx_core.specs.Number.{in_range, converted_number, unary_number, binary_number}
use Rattle.cx_core.specs.Tree as tree
use Rattle.cx_core.specs.Tree.{ObjectType, scalar, Expr, literal, variable, unary, binary, Operand, operand}
use Rattle.cx_core.specs.Store.{Value, number, address, null, function, violation}
use Rattle.cx_core.specs.Event.{ended}
use Rattle.cx_core.specs.Outcome.{Does, ◌>>=◌, throws, spend, gives, some, undefined, place_of}
use Rattle.cx_core.specs.Program.{Program}
use Rattle.cx_core.specs.Leaving.{Calls}
use Rattle.cx_core.specs.Check.{truth}
use Rattle.cx_core.specs.Operators.{integer_of, fits_integer, fits, fitting, read_as, converted_to, number_given, of_type, operands_fit, operated, unary_operation, binary_operation}
use Rattle.cx_core.specs.Meaning.{expr, used}
use Rattle.cx_typed.specs.Typed.{Slots, binary_type, IsRead, IsConverted, HasType, Gives}
use Rattle.cx_typed.proofs.Comes.{IsProper, Comes, With, Always, then_comes, gives_comes, ends_come, spend_comes}
use Rattle.cx_typed.proofs.Ranges.{GivesIn, converted_in_range, unary_in_range, operands_in_range_fit, typed_in_range}
use Rattle.cx_typed.proofs.Objects.{Types, IsIn, IsPlace}
use Rattle.cx_typed.proofs.States.{TypedBy, typed_by, named_comes, read_comes}

module _ (types : Types) (slots : Slots) where
  -- the part keeps the state typed, and gives a value of the property
  abbrev pub Keeps : {A : Type 0} → (A → Type 0) → Does A → Type 0
  Keeps P m = Comes (TypedBy types slots) (With P (TypedBy types slots)) m

  pub then_keeps : {A B : Type 0} {P : B → Type 0} {m : Does A} {next : A → Does B} (Q : A → Type 0) → Keeps Q m → ((a : A) → Q a → Keeps P (next a)) → Keeps P (m >>= next)
  then_keeps Q h k = then_comes (TypedBy types slots) Q throws h k

  pub gives_keeps : {A : Type 0} (P : A → Type 0) (a : A) → P a → Keeps P (gives a)
  gives_keeps P a h = gives_comes (TypedBy types slots) P a h

  pub undefined_keeps : {A : Type 0} (P : A → Type 0) (kind : Kind) → IsProper kind → Keeps P (undefined kind)
  undefined_keeps P kind h = ends_come (TypedBy types slots) (With P (TypedBy types slots)) (ended (Undefined kind)) h

  pub spend_keeps : Keeps Always spend
  spend_keeps = spend_comes (TypedBy types slots) (typed_by types slots).of_objects

  -- ---- conversions

  given_keeps : (type : IntegerType) (n : ℤ) → in_range type n ≡ true → Keeps (IsIn type) (some (Some n) >>= (λ m. gives (number m)))
  given_keeps type n h = then_keeps (λ m. in_range type m ≡ true) (gives_keeps (λ m. in_range type m ≡ true) n h) (λ m k. gives_keeps (IsIn type) (number m) k)

  converted_to_keeps : (from : IntegerType) (to : Option IntegerType) (type : IntegerType) (v : Value) → IsConverted to from type → IsIn from v → Keeps (IsIn type) (converted_to to v)
  converted_to_keeps from None type v same h = gives_keeps (IsIn type) v (subst (λ t. IsIn t v) (sym same) h)
  converted_to_keeps from (Some to) type (number n) same h = given_keeps type (converted_number to n) (subst (λ t. in_range t (converted_number to n) ≡ true) (sym same) (converted_in_range to n))
  converted_to_keeps from (Some to) type (address a) same h = absurd h
  converted_to_keeps from (Some to) type null same h = absurd h
  converted_to_keeps from (Some to) type (function v) same h = absurd h
  converted_to_keeps from (Some to) type (violation v) same h = absurd h

  pub place_keeps : (type : IntegerType) (v : Value) → IsPlace types type v → Keeps (λ a. types a.object ≡ type) (place_of v)
  place_keeps type (address a) h = gives_keeps (λ a. types a.object ≡ type) a h
  place_keeps type (number n) h = absurd h
  place_keeps type null h = absurd h
  place_keeps type (function v) h = absurd h
  place_keeps type (violation v) h = absurd h

  fitting_keeps : (s : Scalar) (type : IntegerType) (v : Value) → integer_of s ≡ Some type → IsIn type v → Keeps (IsIn type) (fitting (scalar s) v)
  fitting_keeps s type (number n) e h = where_fitting (fits (scalar s) (number n)) (subst (λ o. fits_integer o n ≡ true) (sym e) h)
    where
      where_fitting : (fit : Bool) → fit ≡ true → Keeps (IsIn type) (if fit then gives (number n) else undefined Mixed)
      where_fitting true e = gives_keeps (IsIn type) (number n) h
      where_fitting false e = absurd cc
  fitting_keeps s type (address a) e h = absurd h
  fitting_keeps s type null e h = absurd h
  fitting_keeps s type (function v) e h = absurd h
  fitting_keeps s type (violation v) e h = absurd h

  read_as_keeps : (s : Scalar) (type : IntegerType) (v : Value) → integer_of s ≡ Some type → IsPlace types type v → Keeps (IsIn type) (read_as (Some (scalar s)) v)
  read_as_keeps s type v e h =
      then_keeps (IsIn type) (then_keeps (λ a. types a.object ≡ type) (place_keeps type v h) (λ a is. read_comes types slots type a is)) (λ x is. fitting_keeps s type x e is)

  -- ---- operators

  number_keeps : (type : IntegerType) (result : Result ℤ Kind) → GivesIn type result → Keeps (IsIn type) (number_given result)
  number_keeps type (Ok n) h = given_keeps type n h
  number_keeps type (Err kind) h = then_keeps (λ m. in_range type m ≡ true) (undefined_keeps (λ m. in_range type m ≡ true) kind h) (λ m k. gives_keeps (IsIn type) (number m) k)

  -- a number of the type is taken as it is
  taken : (type : IntegerType) (n : ℤ) (is_in : Bool) → is_in ≡ true → Keeps Always (if is_in then gives n else undefined Mixed)
  taken type n true e = gives_keeps Always n (tt {0})
  taken type n false e = absurd cc

  of_type_keeps : (type : IntegerType) (v : Value) → IsIn type v → Keeps Always (of_type type v)
  of_type_keeps type (number n) h = then_keeps (λ m. m ≡ n) (gives_keeps (λ m. m ≡ n) n refl) (λ m e. subst (λ x. Keeps Always (if in_range type x then gives x else undefined Mixed)) (sym e) (taken type n (in_range type n) h))
  of_type_keeps type (address a) h = absurd h
  of_type_keeps type null h = absurd h
  of_type_keeps type (function v) h = absurd h
  of_type_keeps type (violation v) h = absurd h

  unary_keeps : (operator : UnaryOperator) (type : IntegerType) (m : Does Value) → Keeps (IsIn type) m → Keeps (IsIn type) (unary_operation operator type m)
  unary_keeps operator type m h =
      then_keeps (IsIn type) h
      (λ x is. then_keeps Always spend_keeps (λ _ _. then_keeps Always (of_type_keeps type x is) (λ n _. number_keeps type (unary_number operator type n) (unary_in_range operator type n))))

  operated_if_keeps : (type : IntegerType) (result : Result ℤ Kind) (fit : Bool) → fit ≡ true → GivesIn type result → Keeps (IsIn type) (if fit then number_given result else undefined Mixed)
  operated_if_keeps type result true e h = number_keeps type result h
  operated_if_keeps type result false e h = absurd cc

  operated_keeps : (operator : BinaryOperator) (x y : Value) → IsIn integers.Int x → IsIn integers.Int y → Keeps (IsIn (binary_type operator)) (operated operator integers.Int x y)
  operated_keeps operator (number x) (number y) h k =
      operated_if_keeps (binary_type operator) (binary_number operator integers.Int x y) (operands_fit operator integers.Int x y) (operands_in_range_fit integers.Int x y h k operator) (typed_in_range operator x y h k)
  operated_keeps operator (number x) (address b) h k = absurd k
  operated_keeps operator (number x) null h k = absurd k
  operated_keeps operator (number x) (function b) h k = absurd k
  operated_keeps operator (number x) (violation b) h k = absurd k
  operated_keeps operator (address a) y h k = absurd h
  operated_keeps operator null y h k = absurd h
  operated_keeps operator (function a) y h k = absurd h
  operated_keeps operator (violation a) y h k = absurd h

  binary_keeps : (operator : BinaryOperator) (left right : Does Value) → Keeps (IsIn integers.Int) left → Keeps (IsIn integers.Int) right → Keeps (IsIn (binary_type operator)) (binary_operation operator integers.Int left right)
  binary_keeps operator left right h k =
      then_keeps (IsIn integers.Int) h (λ x is_x. then_keeps (IsIn integers.Int) k (λ y is_y. then_keeps Always spend_keeps (λ _ _. operated_keeps operator x y is_x is_y)))

  -- each number has a truth
  pub truth_keeps : (type : IntegerType) (v : Value) → IsIn type v → Keeps Always (truth v)
  truth_keeps type (number n) h = gives_keeps Always _ (tt {0})
  truth_keeps type (address a) h = absurd h
  truth_keeps type null h = absurd h
  truth_keeps type (function v) h = absurd h
  truth_keeps type (violation v) h = absurd h

  -- ---- expressions

  module _ (program : Program) (calls : Calls) where
    pub variable_keeps : (slot : ℕ) (type : IntegerType) → slice_get slots slot ≡ Some type → Keeps (IsPlace types type) (expr program calls (variable slot))
    unfolding expr
    variable_keeps slot type e = then_keeps Always spend_keeps (λ _ _. named_comes types slots type slot e)

    read_keeps : (object : ObjectType) (e : Expr) (type : IntegerType) → IsRead slots object e type → Keeps (IsIn type) (expr program calls e >>= read_as (Some object))
    read_keeps (scalar s) (variable slot) type h = then_keeps (IsPlace types type) (variable_keeps slot type h.1) (λ v is. read_as_keeps s type v h.0 is)
    read_keeps object e type h = absurd h

    mutual
      unfolding expr HasType

      pub expr_keeps : (e : Expr) (type : IntegerType) → HasType slots e type → Keeps (IsIn type) (expr program calls e)
      expr_keeps (literal (tree.number (pos n))) type h = then_keeps Always spend_keeps (λ _ _. gives_keeps (IsIn type) (number (pos n)) h.1)
      expr_keeps (unary operator computed a) type h = subst (λ t. Keeps (IsIn t) (unary_operation operator computed (used program calls a))) (sym h.1) (unary_keeps operator computed _ (used_keeps a computed h.2))
      expr_keeps (binary operator computed a b) type h =
          let is_int : (c : Operand) → Keeps (IsIn computed) (used program calls c) → Keeps (IsIn integers.Int) (used program calls c) = λ c. subst (λ t. Keeps (IsIn t) (used program calls c)) h.0 in
          subst (λ t. Keeps (IsIn t) (binary_operation operator computed (used program calls a) (used program calls b))) (sym h.1)
          (subst (λ t. Keeps (IsIn (binary_type operator)) (binary_operation operator t (used program calls a) (used program calls b))) (sym h.0)
          (binary_keeps operator _ _ (is_int a (used_keeps a computed h.2)) (is_int b (used_keeps b computed h.3))))
      expr_keeps other type h = absurd h

      pub used_keeps : (a : Operand) (type : IntegerType) → Gives slots a type → Keeps (IsIn type) (used program calls a)
      used_keeps (operand None to e) type h = then_keeps (IsIn h.0) (then_keeps (IsIn h.0) (expr_keeps e h.0 h.1) (λ v is. gives_keeps (IsIn h.0) v is)) (λ v is. converted_to_keeps h.0 to type v h.2 is)
      used_keeps (operand (Some object) to e) type h = then_keeps (IsIn h.0) (read_keeps object e h.0 h.1) (λ v is. converted_to_keeps h.0 to type v h.2 is)
