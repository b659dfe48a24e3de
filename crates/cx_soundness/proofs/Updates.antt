-- Comparisons of pointers, operators with two operands, assignments, steps and places of typed values.
use Rattle.std.proofs.Common.{◌≡◌, refl, sym, subst, zero, suc, ℕ, ℤ, Bool, true, false, not, ◌&&◌, if◌then◌else◌, List, [], ◌∷◌, drop, Option, Some, None, Result, Ok, Err}
use Rattle.cx_types.specs.declared.value_type.Scalar.{Scalar}
use Rattle.cx_core.specs.declared.number.IntegerType.{IntegerType}
use Rattle.cx_core.specs.declared.number.BinaryOperator.{BinaryOperator}
use Rattle.cx_core.specs.declared.number.BinaryOperator.TheVariants as operators
use Rattle.cx_core.specs.Words.{Kind}
use Rattle.cx_core.specs.Number.{in_range, truth_number}
use Rattle.cx_core.specs.Store.{Address, Value, number, address, null, function, violation, Leaf, leaf_in, leaf_at, leaves_of, place_in}
use Rattle.cx_core.specs.Outcome.{Does, either, ◌>>=◌, ◌>>◌, gives, some, defined, current_store, place_of, read_leaf}
use Rattle.cx_core.specs.Operators.{integer_of, pointers_compared, operated, stored, updated}
use Rattle.cx_soundness.specs.Types.{LeafType, number_leaf, pointer_leaf, function_leaf, no_value, Signature, Declared, Given, numbers, refers, null_reference, functions, a_report, Context}
use Rattle.cx_soundness.specs.Given.{same_integer, only, truths, is_integer, accepts_number, given_if, holds, is_comparison, is_equality, numbers_operate, operated_given, binary_given, keeps_leaf, keeps, is_right, assigned_leaf, assigned_given, indirection_given, member_given}
use Rattle.cx_soundness.proofs.Same.{both_left, both_right, equal_integers}
use Rattle.cx_soundness.proofs.Ranges.{of_type_alone, truth_in_range}
use Rattle.cx_soundness.proofs.Worlds.{World, IsAt, at_member, IsReference, IsFunction, IsANumber, IsNull, IsGiven, IsHeld}
use Rattle.cx_soundness.proofs.Comes.{IsProper, Always}
use Rattle.cx_soundness.proofs.States.{Around, placing, reading, writing}
use Rattle.cx_soundness.proofs.Values.{held_given, given_held}
use Rattle.cx_soundness.proofs.Operators.{Keeps, then_keeps, gives_keeps, undefined_keeps, Gives, gives_where, converted_number_gives, of_type_keeps, numbers_keep}

module _ (declared : Declared) (W : World) (around : Around) (context : Context) where
  abbrev Kept : {A : Type 0} → (A → Type 0) → Does A → Type 0
  Kept P m = Keeps declared W around context P m

  abbrev GivesOf : Option Given → Does Value → Type 0
  GivesOf v m = Gives declared W around context v m

  abbrev Has : Given → Value → Type 0
  Has v x = IsGiven declared W v x

  next : {A B : Type 0} {P : B → Type 0} {m : Does A} {f : A → Does B} (Q : A → Type 0) → Kept Q m → ((a : A) → Q a → Kept P (f a)) → Kept P (m >>= f)
  next Q h k = then_keeps declared W around context Q h k

  given : {A : Type 0} (P : A → Type 0) (a : A) → P a → Kept P (gives a)
  given P a h = gives_keeps declared W around context P a h

  -- ---- pointers

  compared_keeps : (operator : BinaryOperator) (b : Bool) → is_equality operator ≡ true → Kept (Has truths) (some (pointers_compared operator b) >>= (λ n. gives (number n)))
  compared_keeps operators.Equal b e = next (λ n. n ≡ truth_number b) (given (λ n. n ≡ truth_number b) (truth_number b) refl) (λ n k. given (Has truths) (number n) (λ t _. subst (λ m. in_range t m ≡ true) (sym k) (truth_in_range t b)))
  compared_keeps operators.NotEqual b e = next (λ n. n ≡ truth_number (not b)) (given (λ n. n ≡ truth_number (not b)) (truth_number (not b)) refl) (λ n k. given (Has truths) (number n) (λ t _. subst (λ m. in_range t m ≡ true) (sym k) (truth_in_range t (not b))))
  compared_keeps operators.Multiply b e = absurd cc
  compared_keeps operators.Divide b e = absurd cc
  compared_keeps operators.Remainder b e = absurd cc
  compared_keeps operators.Add b e = absurd cc
  compared_keeps operators.Subtract b e = absurd cc
  compared_keeps operators.ShiftLeft b e = absurd cc
  compared_keeps operators.ShiftRight b e = absurd cc
  compared_keeps operators.Less b e = absurd cc
  compared_keeps operators.Greater b e = absurd cc
  compared_keeps operators.LessEqual b e = absurd cc
  compared_keeps operators.GreaterEqual b e = absurd cc
  compared_keeps operators.BitAnd b e = absurd cc
  compared_keeps operators.BitXor b e = absurd cc
  compared_keeps operators.BitOr b e = absurd cc

  found_keeps : (operator : BinaryOperator) (b : Bool) → is_equality operator ≡ true → Kept (Has truths) (some (Some b) >>= (λ same. some (pointers_compared operator same) >>= (λ n. gives (number n))))
  found_keeps operator b e = next Always (given Always b (tt {0})) (λ same _. compared_keeps operator same e)

  abbrev IsAddress : Value → Type 0
  IsAddress (address a) = Unit {0}
  IsAddress null = Unit {0}
  IsAddress (number n) = ⊥
  IsAddress (function f) = ⊥
  IsAddress (violation v) = ⊥

  abbrev IsCode : Value → Type 0
  IsCode (function f) = Unit {0}
  IsCode null = Unit {0}
  IsCode (number n) = ⊥
  IsCode (address a) = ⊥
  IsCode (violation v) = ⊥

  is_address : (ts : List LeafType) (x : Value) → IsReference declared W ts x → IsAddress x
  is_address ts (address a) h = tt {0}
  is_address ts null h = tt {0}
  is_address ts (number n) h = h
  is_address ts (function f) h = h
  is_address ts (violation v) h = h

  null_address : (x : Value) → IsNull declared x → IsAddress x
  null_address null h = tt {0}
  null_address (address a) h = absurd h
  null_address (number n) h = h
  null_address (function f) h = h
  null_address (violation v) h = h

  null_code : (x : Value) → IsNull declared x → IsCode x
  null_code null h = tt {0}
  null_code (address a) h = h
  null_code (number n) h = h
  null_code (function f) h = absurd h
  null_code (violation v) h = h

  is_code : (signature : Signature) (x : Value) → IsFunction declared signature x → IsCode x
  is_code signature (function f) h = tt {0}
  is_code signature null h = tt {0}
  is_code signature (number n) h = h
  is_code signature (address a) h = h
  is_code signature (violation v) h = h

  addresses_keep : (operator : BinaryOperator) (type : IntegerType) (x y : Value) → is_equality operator ≡ true → IsAddress x → IsAddress y → Kept (Has truths) (operated operator type x y)
  addresses_keep operator type (address a) (address b) e h k = found_keeps operator _ e
  addresses_keep operator type (address a) null e h k = found_keeps operator _ e
  addresses_keep operator type null (address b) e h k = found_keeps operator _ e
  addresses_keep operator type null null e h k = found_keeps operator _ e
  addresses_keep operator type (address a) (number n) e h k = absurd k
  addresses_keep operator type (address a) (function f) e h k = absurd k
  addresses_keep operator type (address a) (violation v) e h k = absurd k
  addresses_keep operator type null (number n) e h k = absurd k
  addresses_keep operator type null (function f) e h k = absurd k
  addresses_keep operator type null (violation v) e h k = absurd k
  addresses_keep operator type (number n) y e h k = absurd h
  addresses_keep operator type (function f) y e h k = absurd h
  addresses_keep operator type (violation v) y e h k = absurd h

  codes_keep : (operator : BinaryOperator) (type : IntegerType) (x y : Value) → is_equality operator ≡ true → IsCode x → IsCode y → Kept (Has truths) (operated operator type x y)
  codes_keep operator type (function a) (function b) e h k = found_keeps operator _ e
  codes_keep operator type (function a) null e h k = found_keeps operator _ e
  codes_keep operator type null (function b) e h k = found_keeps operator _ e
  codes_keep operator type null null e h k = found_keeps operator _ e
  codes_keep operator type (function a) (number n) e h k = absurd k
  codes_keep operator type (function a) (address b) e h k = absurd k
  codes_keep operator type (function a) (violation v) e h k = absurd k
  codes_keep operator type null (number n) e h k = absurd k
  codes_keep operator type null (address b) e h k = absurd k
  codes_keep operator type null (violation v) e h k = absurd k
  codes_keep operator type (number n) y e h k = absurd h
  codes_keep operator type (address b) y e h k = absurd h
  codes_keep operator type (violation v) y e h k = absurd h

  where_equality : (operator : BinaryOperator) (compared : Bool) (m : Does Value) → (is_equality operator ≡ true → compared ≡ true → Kept (Has truths) m) → GivesOf (given_if (is_equality operator && compared) (Some truths)) m
  where_equality operator compared m f = gives_where declared W around context (is_equality operator && compared) (Some truths) m (λ b. f (both_left _ _ b) (both_right (is_equality operator) _ b))

  two_numbers_keep : (operator : BinaryOperator) (type : IntegerType) (left right : IntegerType → Bool) (x y : Value) → Has (numbers left) x → Has (numbers right) y
      → numbers_operate operator type left right ≡ true → Kept (Has (operated_given operator type)) (operated operator type x y)
  two_numbers_keep operator type left right (number x) (number y) h k e = numbers_keep declared W around context operator type left right x y e h k
  two_numbers_keep operator type left right (number x) (address b) h k e = absurd k
  two_numbers_keep operator type left right (number x) null h k e = absurd k
  two_numbers_keep operator type left right (number x) (function f) h k e = absurd k
  two_numbers_keep operator type left right (number x) (violation v) h k e = absurd k
  two_numbers_keep operator type left right (address a) y h k e = absurd h
  two_numbers_keep operator type left right null y h k e = absurd h
  two_numbers_keep operator type left right (function f) y h k e = absurd h
  two_numbers_keep operator type left right (violation v) y h k e = absurd h

  -- the operator of two operands
  pub binary_keeps : (operator : BinaryOperator) (type : IntegerType) (a b : Given) (x y : Value) → Has a x → Has b y → GivesOf (binary_given operator type a b) (operated operator type x y)
  binary_keeps operator type (numbers left) (numbers right) x y h k = gives_where declared W around context (numbers_operate operator type left right) (Some (operated_given operator type)) _ (two_numbers_keep operator type left right x y h k)
  binary_keeps operator type (numbers left) (refers ts) x y h k = tt {0}
  binary_keeps operator type (numbers left) null_reference x y h k = tt {0}
  binary_keeps operator type (numbers left) (functions s) x y h k = tt {0}
  binary_keeps operator type (numbers left) a_report x y h k = tt {0}
  binary_keeps operator type (refers ts) (refers us) x y h k = where_equality operator _ _ (λ e _. addresses_keep operator type x y e (is_address ts x h) (is_address us y k))
  binary_keeps operator type (refers ts) null_reference x y h k = where_equality operator _ _ (λ e _. addresses_keep operator type x y e (is_address ts x h) (null_address y k))
  binary_keeps operator type (refers ts) (numbers f) x y h k = where_equality operator _ _ (λ e c. absurd cc)
  binary_keeps operator type (refers ts) (functions s) x y h k = where_equality operator _ _ (λ e c. absurd cc)
  binary_keeps operator type (refers ts) a_report x y h k = where_equality operator _ _ (λ e c. absurd cc)
  binary_keeps operator type null_reference (refers us) x y h k = where_equality operator _ _ (λ e _. addresses_keep operator type x y e (null_address x h) (is_address us y k))
  binary_keeps operator type null_reference null_reference x y h k = where_equality operator _ _ (λ e _. addresses_keep operator type x y e (null_address x h) (null_address y k))
  binary_keeps operator type null_reference (functions s) x y h k = where_equality operator _ _ (λ e _. codes_keep operator type x y e (null_code x h) (is_code s y k))
  binary_keeps operator type null_reference (numbers f) x y h k = where_equality operator _ _ (λ e c. absurd cc)
  binary_keeps operator type null_reference a_report x y h k = where_equality operator _ _ (λ e c. absurd cc)
  binary_keeps operator type (functions s) (functions t) x y h k = where_equality operator _ _ (λ e _. codes_keep operator type x y e (is_code s x h) (is_code t y k))
  binary_keeps operator type (functions s) null_reference x y h k = where_equality operator _ _ (λ e _. codes_keep operator type x y e (is_code s x h) (null_code y k))
  binary_keeps operator type (functions s) (refers us) x y h k = where_equality operator _ _ (λ e c. absurd cc)
  binary_keeps operator type (functions s) (numbers f) x y h k = where_equality operator _ _ (λ e c. absurd cc)
  binary_keeps operator type (functions s) a_report x y h k = where_equality operator _ _ (λ e c. absurd cc)
  binary_keeps operator type a_report b x y h k = tt {0}

  -- ---- places

  null_place : (x : Value) → IsNull declared x → Kept (λ a. ⊥) (place_of x)
  null_place null h = undefined_keeps declared W around context (λ a. ⊥) _ (tt {0})
  null_place (address a) h = absurd h
  null_place (number n) h = absurd h
  null_place (function f) h = absurd h
  null_place (violation v) h = absurd h

  pub placed : (ts : List LeafType) (x : Value) → IsReference declared W ts x → Kept (λ a. IsAt W a ts) (place_of x)
  placed ts x h = placing declared W around context ts x h

  -- ---- assignments

  pub stored_keeps : (t : LeafType) (rest : List LeafType) (place x : Value) → IsReference declared W (t ∷ rest) place → IsHeld declared W t x → Kept Always (stored place x)
  stored_keeps t rest place x h is = next (λ a. IsAt W a (t ∷ rest)) (placed (t ∷ rest) place h) (λ a at. writing declared W around context a t rest (Some x) at is)

  assigned_leaf_keeps : (ts : List LeafType) (v : Given) (place x : Value) → IsReference declared W ts place → Has v x → GivesOf (assigned_leaf declared ts v) (stored place x >> gives place)
  assigned_leaf_keeps [] v place x h k = tt {0}
  assigned_leaf_keeps (t ∷ rest) v place x h k =
      gives_where declared W around context (holds declared t v) (Some (refers (t ∷ rest))) _
      (λ e. next Always (stored_keeps t rest place x h (given_held declared W t v x e k)) (λ _ _. given (Has (refers (t ∷ rest))) place h))

  pub assigned_keeps : (p v : Given) (place x : Value) → Has p place → Has v x → GivesOf (assigned_given declared p v) (stored place x >> gives place)
  assigned_keeps (refers ts) v place x h k = assigned_leaf_keeps ts v place x h k
  assigned_keeps null_reference v place x h k = next Always (next (λ a. ⊥) (null_place place h) (λ a f. absurd f)) (λ _ _. given (Has null_reference) place h)
  assigned_keeps (numbers f) v place x h k = tt {0}
  assigned_keeps (functions s) v place x h k = tt {0}
  assigned_keeps a_report v place x h k = tt {0}

  -- ---- what is updated

  kept_alike : (o : Option IntegerType) (kept : IntegerType) → is_integer o kept ≡ true → accepts_number o (same_integer kept) ≡ true
  kept_alike None kept e = refl
  kept_alike (Some a) kept e =
      let same = equal_integers a kept e in
      subst (λ t. same_integer t a ≡ true) same (subst (λ t. same_integer a t ≡ true) (sym same) e)

  is_a_number : (b : Bool) (type : IntegerType) (x : Value) → Has (if b then truths else only type) x → IsANumber declared (λ t. false) x
  is_a_number true type (number n) h = λ t e. absurd cc
  is_a_number false type (number n) h = λ t e. absurd cc
  is_a_number true type (address a) h = h
  is_a_number false type (address a) h = h
  is_a_number true type null h = h
  is_a_number false type null h = h
  is_a_number true type (function f) h = h
  is_a_number false type (function f) h = h
  is_a_number true type (violation v) h = h
  is_a_number false type (violation v) h = h

  right_numbers : (operator : BinaryOperator) (computed : IntegerType) (v : Given) (x y : Value) → is_right operator computed v ≡ true → Has (only computed) x → Has v y
      → Kept (Has (operated_given operator computed)) (operated operator computed x y)
  right_numbers operator computed (numbers right) x y e h k = two_numbers_keep operator computed (same_integer computed) right x y h k e
  right_numbers operator computed (refers ts) x y e h k = absurd cc
  right_numbers operator computed null_reference x y e h k = absurd cc
  right_numbers operator computed (functions s) x y e h k = absurd cc
  right_numbers operator computed a_report x y e h k = absurd cc

  abbrev IsOld : IntegerType → ℤ → Type 0
  IsOld kept n = in_range kept n ≡ true

  module _ (operator : BinaryOperator) (computed kept : IntegerType) (v : Given) (y : Value) (right : is_right operator computed v ≡ true) (k : Has v y) where
    leaf_updated : (s : Scalar) (rest : List LeafType) (place : Value) → is_integer (integer_of s) kept ≡ true → IsReference declared W (number_leaf s ∷ rest) place
        → Kept (Has (only kept)) (updated operator computed kept place y)
    leaf_updated s rest place e h =
        next (λ a. IsAt W a (number_leaf s ∷ rest)) (placed (number_leaf s ∷ rest) place h)
        (λ a at. next (IsOld kept)
        (next (IsHeld declared W (number_leaf s)) (reading declared W around context a (number_leaf s) rest at)
        (λ old held. of_type_keeps declared W around context kept (is_integer (integer_of s)) old e (held_given declared W (number_leaf s) old held)))
        (λ old is_old. next (Has (only computed)) (converted_number_gives declared W around context computed (same_integer kept) (number old) (of_type_alone kept old is_old))
        (λ x is. next (Has (operated_given operator computed)) (right_numbers operator computed v x y right is k)
        (λ z is_z. next (Has (only kept)) (converted_number_gives declared W around context kept (λ t. false) z (is_a_number (is_comparison operator) computed z is_z))
        (λ w is_w. next Always (writing declared W around context a (number_leaf s) rest (Some w) at (given_held declared W (number_leaf s) (only kept) w (kept_alike (integer_of s) kept e) is_w))
        (λ _ _. given (Has (only kept)) (number old) (of_type_alone kept old is_old)))))))

    refers_updated : (ts : List LeafType) (place : Value) → keeps_leaf kept ts ≡ true → IsReference declared W ts place → Kept (Has (only kept)) (updated operator computed kept place y)
    refers_updated (number_leaf s ∷ rest) place e h = leaf_updated s rest place e h
    refers_updated [] place e h = absurd cc
    refers_updated (pointer_leaf to ∷ rest) place e h = absurd cc
    refers_updated (function_leaf type ∷ rest) place e h = absurd cc
    refers_updated (no_value ∷ rest) place e h = absurd cc

    pub updated_keeps : (p : Given) (place : Value) → keeps kept p ≡ true → Has p place → Kept (Has (only kept)) (updated operator computed kept place y)
    updated_keeps (refers ts) place e h = refers_updated ts place e h
    updated_keeps null_reference place e h = next (λ a. ⊥) (null_place place h) (λ a f. absurd f)
    updated_keeps (numbers f) place e h = absurd cc
    updated_keeps (functions s) place e h = absurd cc
    updated_keeps a_report place e h = absurd cc

  -- ---- `*` and `.`

  pub indirection_keeps : (v : Given) (x : Value) → Has v x → GivesOf (indirection_given v) (place_of x >>= (λ a. gives (address a)))
  indirection_keeps (refers ts) x h = next (λ a. IsAt W a ts) (placed ts x h) (λ a at. given (Has (refers ts)) (address a) at)
  indirection_keeps null_reference x h = next (λ a. ⊥) (null_place x h) (λ a f. absurd f)
  indirection_keeps (numbers f) x h = tt {0}
  indirection_keeps (functions s) x h = tt {0}
  indirection_keeps a_report x h = tt {0}

  abbrev IsReadProper : Result Leaf Kind → Type 0
  IsReadProper (Ok leaf) = Unit {0}
  IsReadProper (Err kind) = IsProper kind

  at_any_place : (leaves : List Leaf) (i : ℕ) → IsReadProper (leaf_in (Some leaves) i)
  at_any_place [] i = tt {0}
  at_any_place (leaf ∷ leaves) zero = tt {0}
  at_any_place (leaf ∷ leaves) (suc i) = at_any_place leaves i

  in_any : (found : Option (List Leaf)) (i : ℕ) → IsReadProper (leaf_in found i)
  in_any None i = tt {0}
  in_any (Some leaves) i = at_any_place leaves i

  any_defined : (r : Result Leaf Kind) → IsReadProper r → Kept Always (defined r)
  any_defined (Ok leaf) h = given Always leaf (tt {0})
  any_defined (Err kind) h = undefined_keeps declared W around context Always kind h

  pub any_leaf_read : (a : Address) → Kept Always (read_leaf a)
  unfolding either current_store
  any_leaf_read a = record { stays = λ s i. (any_defined (leaf_at s.store a) (in_any (leaves_of s.store a.object) a.leaf)).stays s i }

  pub member_keeps : (leaf : ℕ) (v : Given) (x : Value) → Has v x → GivesOf (member_given leaf v) (place_of x >>= (λ a. read_leaf a >> gives (address (place_in a leaf))))
  member_keeps leaf (refers ts) x h =
      next (λ a. IsAt W a ts) (placed ts x h) (λ a at. next Always (any_leaf_read a) (λ _ _. given (Has (refers (drop leaf ts))) (address (place_in a leaf)) (at_member W a leaf ts at)))
  member_keeps leaf null_reference x h = next (λ a. ⊥) (null_place x h) (λ a f. absurd f)
  member_keeps leaf (numbers f) x h = tt {0}
  member_keeps leaf (functions s) x h = tt {0}
  member_keeps leaf a_report x h = tt {0}
