-- What operators do with typed values keeps a state typed and gives a typed value, or is undefined behaviour of a kind that a well made program may have.
use Rattle.std.proofs.Common.{◌≡◌, refl, subst, ℤ, Bool, true, false, if◌then◌else◌, List, [], ◌∷◌, Option, Some, None, Result, Ok, Err}
use Rattle.std.specs.Prelude.{slice_get}
use Rattle.cx_types.specs.declared.value_type.Scalar.{Scalar}
use Rattle.cx_core.specs.declared.number.IntegerType.{IntegerType}
use Rattle.cx_core.specs.declared.number.IntegerType.TheVariants as integers
use Rattle.cx_core.specs.declared.number.BinaryOperator.{BinaryOperator}
use Rattle.cx_core.specs.declared.number.UnaryOperator.{UnaryOperator}
use Rattle.cx_core.specs.Words.{Kind, Mixed, Undefined, Violation}
use Rattle.cx_core.specs.Number.{in_range, converted_number, binary_number, unary_number}
use Rattle.cx_core.specs.Tree.{ObjectType, scalar, pointer, function_pointer, class}
use Rattle.cx_core.specs.Store.{Address, Value, number, address, null, function, violation}
use Rattle.cx_core.specs.Event.{ended}
use Rattle.cx_core.specs.Outcome.{State, Does, ◌>>=◌, gives, some, undefined, spend, place_of, read}
use Rattle.cx_core.specs.Check.{truth}
use Rattle.cx_core.specs.Operators.{integer_of, fits_integer, fits, fitting, read_as, converted_to, number_given, operands_fit, numbers_operated, of_type, unary_operated, truth_value}
use Rattle.cx_soundness.specs.Types.{LeafType, number_leaf, pointer_leaf, function_leaf, no_value, Signature, Declared, Given, numbers, refers, null_reference, functions, a_report, Context}
use Rattle.cx_soundness.specs.Given.{same_integer, begins, only, truths, given_if, leaf_of, leaf_given, read_leaf_given, read_given, pointer_converted, converted_given, is_truth, unary_given, numbers_operate, operated_given}
use Rattle.cx_soundness.proofs.Ranges.{GivesAs, of_type_alone, unary_gives, operands_fit_where, binary_gives, converted_in_range, truth_in_range}
use Rattle.cx_soundness.proofs.Worlds.{World, IsAt, IsNumber, IsReference, IsFunction, IsNull, IsGiven, IsFunctionOf, IsHeld}
use Rattle.cx_soundness.proofs.Comes.{IsProper, Always, Stays, then_stays, gives_stays, ends_stays}
use Rattle.cx_soundness.proofs.States.{Around, Now, spending, placing, reading}
use Rattle.cx_soundness.proofs.Values.{IsGivenIf, held_given, reference_less, null_refers}

module _ (declared : Declared) (W : World) (around : Around) (context : Context) where
  abbrev pub Here : State → Type 0
  Here = Now declared W around context

  abbrev pub Keeps : {A : Type 0} → (A → Type 0) → Does A → Type 0
  Keeps P m = Stays Here Here P m

  pub then_keeps : {A B : Type 0} {P : B → Type 0} {m : Does A} {next : A → Does B} (Q : A → Type 0) → Keeps Q m → ((a : A) → Q a → Keeps P (next a)) → Keeps P (m >>= next)
  then_keeps Q h k = then_stays Here Q h k

  pub gives_keeps : {A : Type 0} (P : A → Type 0) (a : A) → P a → Keeps P (gives a)
  gives_keeps P a h = gives_stays Here P a h

  pub undefined_keeps : {A : Type 0} (P : A → Type 0) (kind : Kind) → IsProper kind → Keeps P (undefined kind)
  undefined_keeps P kind h = ends_stays Here Here P (ended (Undefined kind)) h

  pub spends : Keeps Always spend
  spends = spending declared W around context

  abbrev pub Is : Given → Value → Type 0
  Is v x = IsGiven declared W v x

  -- the part gives a value of the type, where there is one
  abbrev pub Gives : Option Given → Does Value → Type 0
  Gives None m = Unit {0}
  Gives (Some v) m = Keeps (Is v) m

  pub gives_where : (b : Bool) (v : Option Given) (m : Does Value) → (b ≡ true → Gives v m) → Gives (given_if b v) m
  gives_where true v m h = h refl
  gives_where false v m h = tt {0}

  gives_given : (v : Option Given) (m : Does Value) → Keeps (IsGivenIf declared W v) m → Gives v m
  gives_given None m h = tt {0}
  gives_given (Some v) m h = h

  if_true : {A : Type 0} (P : A → Type 0) (b : Bool) (m n : Does A) → b ≡ true → Keeps P m → Keeps P (if b then m else n)
  if_true P true m n e h = h
  if_true P false m n e h = absurd cc

  -- ---- truths

  truth_of_report : (v : Given) (r : Violation) → is_truth v ≡ true → Is v (violation r) → Keeps Always (truth (violation r))
  truth_of_report a_report r e h = absurd cc
  truth_of_report (numbers fits) r e h = absurd h
  truth_of_report (refers ts) r e h = absurd h
  truth_of_report null_reference r e h = absurd h
  truth_of_report (functions signature) r e h = absurd h

  pub truth_keeps : (v : Given) (x : Value) → is_truth v ≡ true → Is v x → Keeps Always (truth x)
  truth_keeps v (number n) e h = gives_keeps Always _ (tt {0})
  truth_keeps v (address a) e h = gives_keeps Always _ (tt {0})
  truth_keeps v null e h = gives_keeps Always _ (tt {0})
  truth_keeps v (function f) e h = gives_keeps Always _ (tt {0})
  truth_keeps v (violation r) e h = truth_of_report v r e h

  pub truth_is : (b : Bool) → Is truths (truth_value b)
  truth_is b = λ t _. truth_in_range t b

  -- ---- reads

  no_function_there : (o : Option Signature) (a : Address) → IsFunctionOf declared o (address a) → ⊥
  no_function_there None a h = h
  no_function_there (Some signature) a h = h

  fits_it : (type : ObjectType) (t : LeafType) (y : Value) → leaf_of type ≡ Some t → IsHeld declared W t y → fits type y ≡ true
  fits_it (scalar s) (number_leaf r) (number n) e h = subst (λ u. fits_integer (integer_of u) n ≡ true) (same r s e) h
    where
      same : (a b : Scalar) → Some (number_leaf b) ≡ Some (number_leaf a) → a ≡ b
      same a b e = cc
  fits_it (scalar s) (number_leaf r) (address a) e h = absurd h
  fits_it (scalar s) (number_leaf r) null e h = absurd h
  fits_it (scalar s) (number_leaf r) (function f) e h = absurd h
  fits_it (scalar s) (number_leaf r) (violation v) e h = absurd h
  fits_it (scalar s) (pointer_leaf to) y e h = absurd cc
  fits_it (scalar s) (function_leaf k) y e h = absurd cc
  fits_it (scalar s) no_value y e h = absurd h
  fits_it (pointer to) (pointer_leaf u) (address a) e h = refl
  fits_it (pointer to) (pointer_leaf u) null e h = refl
  fits_it (pointer to) (pointer_leaf u) (number n) e h = absurd h
  fits_it (pointer to) (pointer_leaf u) (function f) e h = absurd h
  fits_it (pointer to) (pointer_leaf u) (violation v) e h = absurd h
  fits_it (pointer to) (number_leaf s) y e h = absurd cc
  fits_it (pointer to) (function_leaf k) y e h = absurd cc
  fits_it (pointer to) no_value y e h = absurd h
  fits_it (function_pointer k) (function_leaf j) y e h = function_fits (slice_get declared.function_types j) y h
    where
      function_fits : (o : Option Signature) (x : Value) → IsFunctionOf declared o x → fits (function_pointer k) x ≡ true
      function_fits o (function f) h = refl
      function_fits o null h = refl
      function_fits None (number n) h = absurd h
      function_fits (Some signature) (number n) h = absurd h
      function_fits None (address a) h = absurd h
      function_fits (Some signature) (address a) h = absurd h
      function_fits None (violation v) h = absurd h
      function_fits (Some signature) (violation v) h = absurd h
  fits_it (function_pointer k) (number_leaf s) y e h = absurd cc
  fits_it (function_pointer k) (pointer_leaf to) y e h = absurd cc
  fits_it (function_pointer k) no_value y e h = absurd h
  fits_it (class c) t y e h = absurd cc

  leaf_gives : (type : ObjectType) (t : LeafType) (x : Value) → leaf_of type ≡ Some t → IsReference declared W (t ∷ []) x → Gives (leaf_given declared t) (place_of x >>= read >>= fitting type)
  leaf_gives type t x e h =
      gives_given (leaf_given declared t) _
      (then_keeps (IsHeld declared W t)
      (then_keeps (λ a. IsAt W a (t ∷ [])) (placing declared W around context (t ∷ []) x h) (λ a at. reading declared W around context a t [] at))
      (λ y held. if_true (IsGivenIf declared W (leaf_given declared t)) (fits type y) (gives y) (undefined Mixed) (fits_it type t y e held) (gives_keeps (IsGivenIf declared W (leaf_given declared t)) y (held_given declared W t y held))))

  read_leaf_gives : (type : ObjectType) (t : LeafType) (v : Given) (x : Value) → leaf_of type ≡ Some t → Is v x → Gives (read_leaf_given declared t v) (place_of x >>= read >>= fitting type)
  read_leaf_gives type t (refers ts) x e h = gives_where (begins (t ∷ []) ts) (leaf_given declared t) _ (λ b. leaf_gives type t x e (reference_less declared W (t ∷ []) ts x b h))
  read_leaf_gives type t null_reference x e h = leaf_gives type t x e (null_refers declared W (t ∷ []) x h)
  read_leaf_gives type t (numbers fits) x e h = tt {0}
  read_leaf_gives type t (functions signature) x e h = tt {0}
  read_leaf_gives type t a_report x e h = tt {0}

  pub read_gives : (type : Option ObjectType) (v : Given) (x : Value) → Is v x → Gives (read_given declared type v) (read_as type x)
  read_gives None v x h = gives_keeps (Is v) x h
  read_gives (Some (scalar s)) v x h = read_leaf_gives (scalar s) (number_leaf s) v x refl h
  read_gives (Some (pointer to)) v x h = read_leaf_gives (pointer to) (pointer_leaf to) v x refl h
  read_gives (Some (function_pointer k)) v x h = read_leaf_gives (function_pointer k) (function_leaf k) v x refl h
  read_gives (Some (class c)) v x h = tt {0}

  -- ---- conversions

  converted_is : (type : IntegerType) (n : ℤ) → in_range type n ≡ true → Keeps (Is (only type)) (some (Some n) >>= (λ m. gives (number m)))
  converted_is type n h = then_keeps (λ m. in_range type m ≡ true) (gives_keeps (λ m. in_range type m ≡ true) n h) (λ m k. gives_keeps (Is (only type)) (number m) (of_type_alone type m k))

  pub converted_number_gives : (type : IntegerType) (fits : IntegerType → Bool) (x : Value) → Is (numbers fits) x → Keeps (Is (only type)) (converted_to (Some type) x)
  converted_number_gives type fits (number n) h = converted_is type (converted_number type n) (converted_in_range type n)
  converted_number_gives type fits (address a) h = absurd h
  converted_number_gives type fits null h = absurd h
  converted_number_gives type fits (function f) h = absurd h
  converted_number_gives type fits (violation v) h = absurd h

  -- what may be asked for being null
  abbrev IsPointing : Value → Type 0
  IsPointing (address a) = Unit {0}
  IsPointing null = Unit {0}
  IsPointing (function f) = Unit {0}
  IsPointing (number n) = ⊥
  IsPointing (violation v) = ⊥

  to_bool : (x : Value) → IsPointing x → Keeps (Is (only integers.Bool)) (converted_to (Some integers.Bool) x)
  to_bool (address a) h = converted_is integers.Bool _ (truth_in_range integers.Bool true)
  to_bool null h = converted_is integers.Bool _ (truth_in_range integers.Bool false)
  to_bool (function f) h = converted_is integers.Bool _ (truth_in_range integers.Bool true)
  to_bool (number n) h = absurd h
  to_bool (violation v) h = absurd h

  pointer_gives : (type : IntegerType) (x : Value) → IsPointing x → Gives (pointer_converted type) (converted_to (Some type) x)
  pointer_gives integers.Bool x h = to_bool x h
  pointer_gives integers.Char x h = tt {0}
  pointer_gives integers.Int x h = tt {0}
  pointer_gives integers.Unsigned x h = tt {0}
  pointer_gives integers.LongLong x h = tt {0}
  pointer_gives integers.UnsignedLongLong x h = tt {0}

  reference_points : (ts : List LeafType) (x : Value) → IsReference declared W ts x → IsPointing x
  reference_points ts (address a) h = tt {0}
  reference_points ts null h = tt {0}
  reference_points ts (number n) h = h
  reference_points ts (function f) h = absurd h
  reference_points ts (violation v) h = h

  null_points : (x : Value) → IsNull declared x → IsPointing x
  null_points null h = tt {0}
  null_points (address a) h = absurd h
  null_points (number n) h = h
  null_points (function f) h = absurd h
  null_points (violation v) h = h

  function_points : (signature : Signature) (x : Value) → IsFunction declared signature x → IsPointing x
  function_points signature (function f) h = tt {0}
  function_points signature null h = tt {0}
  function_points signature (address a) h = absurd h
  function_points signature (number n) h = h
  function_points signature (violation v) h = h

  pub converted_gives : (to : Option IntegerType) (v : Given) (x : Value) → Is v x → Gives (converted_given to v) (converted_to to x)
  converted_gives None v x h = gives_keeps (Is v) x h
  converted_gives (Some type) (numbers fits) x h = converted_number_gives type fits x h
  converted_gives (Some type) (refers ts) x h = pointer_gives type x (reference_points ts x h)
  converted_gives (Some type) null_reference x h = pointer_gives type x (null_points x h)
  converted_gives (Some type) (functions signature) x h = pointer_gives type x (function_points signature x h)
  converted_gives (Some type) a_report x h = tt {0}

  -- ---- numbers

  pub given_number : (fits : IntegerType → Bool) (r : Result ℤ Kind) → GivesAs (numbers fits) r → Keeps (Is (numbers fits)) (number_given r)
  given_number fits (Ok n) h = then_keeps (IsNumber fits) (gives_keeps (IsNumber fits) n h) (λ m k. gives_keeps (Is (numbers fits)) (number m) k)
  given_number fits (Err kind) h = then_keeps (IsNumber fits) (undefined_keeps (IsNumber fits) kind h) (λ m k. gives_keeps (Is (numbers fits)) (number m) k)

  -- a number of the type is taken as it is
  pub of_type_keeps : (type : IntegerType) (fits : IntegerType → Bool) (x : Value) → fits type ≡ true → Is (numbers fits) x → Keeps (λ n. in_range type n ≡ true) (of_type type x)
  of_type_keeps type fits (number n) e h =
      then_keeps (λ m. in_range type m ≡ true) (gives_keeps (λ m. in_range type m ≡ true) n (h type e))
      (λ m k. if_true (λ i. in_range type i ≡ true) (in_range type m) (gives m) (undefined Mixed) k (gives_keeps (λ i. in_range type i ≡ true) m k))
  of_type_keeps type fits (address a) e h = absurd h
  of_type_keeps type fits null e h = absurd h
  of_type_keeps type fits (function f) e h = absurd h
  of_type_keeps type fits (violation v) e h = absurd h

  pub unary_keeps : (operator : UnaryOperator) (type : IntegerType) (v : Given) (x : Value) → Is v x → Gives (unary_given operator type v) (unary_operated operator type x)
  unary_keeps operator type (numbers fits) x h =
      gives_where (fits type) (Some (only type)) _
      (λ e. then_keeps (λ n. in_range type n ≡ true) (of_type_keeps type fits x e h) (λ n _. given_number (same_integer type) (unary_number operator type n) (unary_gives operator type n)))
  unary_keeps operator type (refers ts) x h = tt {0}
  unary_keeps operator type null_reference x h = tt {0}
  unary_keeps operator type (functions signature) x h = tt {0}
  unary_keeps operator type a_report x h = tt {0}

  given_by : (v : Given) (r : Result ℤ Kind) → GivesAs v r → Keeps (Is v) (number_given r)
  given_by (numbers fits) r h = given_number fits r h
  given_by (refers ts) (Ok n) h = absurd h
  given_by (refers ts) (Err kind) h = absurd h
  given_by null_reference (Ok n) h = absurd h
  given_by null_reference (Err kind) h = absurd h
  given_by (functions signature) (Ok n) h = absurd h
  given_by (functions signature) (Err kind) h = absurd h
  given_by a_report (Ok n) h = absurd h
  given_by a_report (Err kind) h = absurd h

  pub numbers_keep : (operator : BinaryOperator) (type : IntegerType) (left right : IntegerType → Bool) (x y : ℤ) → numbers_operate operator type left right ≡ true → IsNumber left x → IsNumber right y
      → Keeps (Is (operated_given operator type)) (numbers_operated operator type x y)
  numbers_keep operator type left right x y e h k =
      if_true (Is (operated_given operator type)) (operands_fit operator type x y) (number_given (binary_number operator type x y)) (undefined Mixed) (operands_fit_where type left right x y h k operator e)
      (given_by (operated_given operator type) (binary_number operator type x y) (binary_gives type left right x y h k operator e))
