-- Expressions of each form keep a state typed and give what their types say, given that their operands do.
use Rattle.std.proofs.Common.{◌≡◌, refl, ℕ, pos, Bool, true, false, ◌&&◌, Option, Some, None}
use Rattle.cx_core.specs.declared.number.IntegerType.{IntegerType}
use Rattle.cx_core.specs.declared.number.BinaryOperator.{BinaryOperator}
use Rattle.cx_core.specs.declared.number.UnaryOperator.{UnaryOperator}
use Rattle.cx_core.specs.Number.{promoted}
use Rattle.cx_core.specs.Tree as tree
use Rattle.cx_core.specs.Tree.{ObjectType, Constant}
use Rattle.cx_core.specs.Program.{Program}
use Rattle.cx_core.specs.Store.{Value, number, address, place_in}
use Rattle.cx_core.specs.Outcome.{Does, ◌>>=◌, ◌>>◌, gives, spend, place_of, read_leaf}
use Rattle.cx_core.specs.Operators.{converted, read_as, converted_to, unary_operated, operated, unary_operation, binary_operation, cast_operation, stored, assignment, updated, compound_assignment, step, prefix_operation, postfix_operation, indirection_of, member_of}
use Rattle.cx_soundness.specs.Types.{Declared, Given, Context}
use Rattle.cx_soundness.specs.Given.{only, then_given, given_if, read_given, converted_given, operand_given, constant_given, unary_given, binary_given, assigned_given, compound_given, prefix_given, postfix_given, keeps, is_right, steps, indirection_given, member_given}
use Rattle.cx_soundness.specs.Expressions.{both_given}
use Rattle.cx_soundness.proofs.Same.{both_left, both_right}
use Rattle.cx_soundness.proofs.Worlds.{World, IsGiven, given_more}
use Rattle.cx_soundness.proofs.Comes.{Always, Stays, StaysTo, then_stays, gives_stays, ends_stays, append_stays, spend_all_stays, Family}
use Rattle.cx_soundness.proofs.Comes as parts
use Rattle.cx_soundness.proofs.States.{Around, IsException, Typed}
use Rattle.cx_soundness.proofs.Operators.{Gives, then_keeps, gives_keeps, spends, read_gives, converted_gives, unary_keeps}
use Rattle.cx_soundness.proofs.Updates.{binary_keeps, assigned_keeps, updated_keeps, indirection_keeps, member_keeps}
use Rattle.cx_soundness.proofs.Lives.{Keeps, most}

-- the type of the exception object that initialises a catch parameter is that of the innermost one that is held
abbrev pub Covers : Option ObjectType → Option ObjectType → Type 0
Covers None innermost = Unit {0}
Covers (Some type) innermost = innermost ≡ Some type

module _ (declared : Declared) (program : Program) (context : Context) where
  -- where temporaries are kept for a full-expression
  abbrev pub full : ℕ → Option ObjectType → Around
  full living innermost = record { living = living; temporaries = most declared program; innermost = innermost }

  -- the part gives a value of the type, where there is one
  abbrev pub Sound : Option Given → Does Value → Type 0
  Sound None m = Unit {0}
  Sound (Some v) m = (living : ℕ) (innermost : Option ObjectType) → Covers context.caught innermost → (W : World) → Keeps declared (full living innermost) context W (λ V x. IsGiven declared V v x) m

  -- a value of the type is taken further, whatever lies around
  abbrev pub Takes : Given → Option Given → (Value → Does Value) → Type 0
  Takes v r f = (around : Around) (W : World) (x : Value) → IsGiven declared W v x → Gives declared W around context r (f x)

  pub then_gives : (v : Given) (r : Option Given) (m : Does Value) (f : Value → Does Value) → Sound (Some v) m → Takes v r f → Sound r (m >>= f)
  then_gives v None m f h k = tt {0}
  then_gives v (Some w) m f h k = λ living innermost c W.
      parts.then_comes (IsException declared) (Typed declared (full living innermost) context) (λ V x. IsGiven declared V v x) (h living innermost c W)
      (λ V e x p. parts.stays_comes (IsException declared) V _ _ _ (λ U y. IsGiven declared U w y) (f x) (k (full living innermost) V x p))

  pub one_gives : (v : Option Given) (next : Given → Option Given) (m : Does Value) (f : Value → Does Value) → Sound v m → ((u : Given) → Takes u (next u) f) → Sound (then_given v next) (m >>= f)
  one_gives None next m f h k = tt {0}
  one_gives (Some v) next m f h k = then_gives v (next v) m f h (k v)

  pub two_give : (a b : Option Given) (next : Given → Given → Option Given) (m n : Does Value) (f : Value → Value → Does Value) → Sound a m → Sound b n
      → ((u v : Given) (around : Around) (W : World) (x y : Value) → IsGiven declared W u x → IsGiven declared W v y → Gives declared W around context (next u v) (f x y))
      → Sound (both_given a b next) (m >>= (λ x. n >>= f x))
  two_give None b next m n f h k l = tt {0}
  two_give (Some u) None next m n f h k l = tt {0}
  two_give (Some u) (Some v) next m n f h k l = with_result (next u v) (l u v)
    where
      with_result : (r : Option Given) → ((around : Around) (W : World) (x y : Value) → IsGiven declared W u x → IsGiven declared W v y → Gives declared W around context r (f x y)) → Sound r (m >>= (λ x. n >>= f x))
      with_result None l = tt {0}
      with_result (Some w) l = λ living innermost c W.
          parts.then_comes (IsException declared) (Typed declared (full living innermost) context) (λ V x. IsGiven declared V u x) (h living innermost c W)
          (λ V e x p. parts.then_comes (IsException declared) (Typed declared (full living innermost) context) (λ U y. IsGiven declared U v y) (k living innermost c V)
          (λ U g y q. parts.stays_comes (IsException declared) U _ _ _ (λ X z. IsGiven declared X w z) (f x y) (l (full living innermost) U x y (given_more declared V U u x g p) q)))

  -- the right side is evaluated first
  pub two_give_back : (a b : Option Given) (next : Given → Given → Option Given) (m n : Does Value) (f : Value → Value → Does Value) → Sound a m → Sound b n
      → ((u v : Given) (around : Around) (W : World) (x y : Value) → IsGiven declared W u x → IsGiven declared W v y → Gives declared W around context (next u v) (f x y))
      → Sound (both_given a b next) (n >>= (λ y. m >>= (λ x. f x y)))
  two_give_back None b next m n f h k l = tt {0}
  two_give_back (Some u) None next m n f h k l = tt {0}
  two_give_back (Some u) (Some v) next m n f h k l = with_result (next u v) (l u v)
    where
      with_result : (r : Option Given) → ((around : Around) (W : World) (x y : Value) → IsGiven declared W u x → IsGiven declared W v y → Gives declared W around context r (f x y)) → Sound r (n >>= (λ y. m >>= (λ x. f x y)))
      with_result None l = tt {0}
      with_result (Some w) l = λ living innermost c W.
          parts.then_comes (IsException declared) (Typed declared (full living innermost) context) (λ V y. IsGiven declared V v y) (k living innermost c W)
          (λ V e y q. parts.then_comes (IsException declared) (Typed declared (full living innermost) context) (λ U x. IsGiven declared U u x) (h living innermost c V)
          (λ U g x p. parts.stays_comes (IsException declared) U _ _ _ (λ X z. IsGiven declared X w z) (f x y) (l (full living innermost) U x y p (given_more declared V U v y g q))))

  spend_first : (around : Around) (W : World) (r : Option Given) (m : Does Value) → Gives declared W around context r m → Gives declared W around context r (spend >> m)
  spend_first around W None m h = tt {0}
  spend_first around W (Some v) m h = then_keeps declared W around context Always (spends declared W around context) (λ _ _. h)

  gives_where : (around : Around) (W : World) (b : Bool) (v : Option Given) (m : Does Value) → (b ≡ true → Gives declared W around context v m) → Gives declared W around context (given_if b v) m
  gives_where around W true v m h = h refl
  gives_where around W false v m h = tt {0}

  -- ---- operands and operators

  pub used_sound : (read : Option ObjectType) (to : Option IntegerType) (v : Option Given) (m : Does Value) → Sound v m → Sound (operand_given declared read to v) (converted read to m)
  used_sound read to v m h =
      one_gives (then_given v (read_given declared read)) (converted_given to) (m >>= read_as read) (converted_to to)
      (one_gives v (read_given declared read) m (read_as read) h (λ u around W x p. read_gives declared W around context read u x p))
      (λ u around W x p. converted_gives declared W around context to u x p)

  pub unary_sound : (operator : UnaryOperator) (type : IntegerType) (v : Option Given) (m : Does Value) → Sound v m → Sound (then_given v (unary_given operator type)) (unary_operation operator type m)
  unary_sound operator type v m h =
      one_gives v (unary_given operator type) m (λ x. spend >> unary_operated operator type x) h
      (λ u around W x p. spend_first around W (unary_given operator type u) (unary_operated operator type x) (unary_keeps declared W around context operator type u x p))

  pub binary_sound : (operator : BinaryOperator) (type : IntegerType) (a b : Option Given) (m n : Does Value) → Sound a m → Sound b n → Sound (both_given a b (binary_given operator type)) (binary_operation operator type m n)
  binary_sound operator type a b m n h k =
      two_give a b (binary_given operator type) m n (λ x y. spend >> operated operator type x y) h k
      (λ u v around W x y p q. spend_first around W (binary_given operator type u v) (operated operator type x y) (binary_keeps declared W around context operator type u v x y p q))

  pub cast_sound : (v : Option Given) (m : Does Value) → Sound v m → Sound v (cast_operation m)
  cast_sound None m h = tt {0}
  cast_sound (Some v) m h =
      then_gives v (Some v) m (λ x. spend >> gives x) h
      (λ around W x p. spend_first around W (Some v) (gives x) (gives_keeps declared W around context (IsGiven declared W v) x p))

  pub assignment_sound : (a b : Option Given) (m n : Does Value) → Sound a m → Sound b n → Sound (both_given a b (assigned_given declared)) (assignment m n)
  assignment_sound a b m n h k =
      two_give_back a b (assigned_given declared) m n (λ place x. spend >> (stored place x >> gives place)) h k
      (λ u v around W place x p q. spend_first around W (assigned_given declared u v) (stored place x >> gives place) (assigned_keeps declared W around context u v place x p q))

  pub compound_sound : (operator : BinaryOperator) (computed kept : IntegerType) (a b : Option Given) (m n : Does Value) → Sound a m → Sound b n
      → Sound (both_given a b (compound_given operator computed kept)) (compound_assignment operator computed kept m n)
  compound_sound operator computed kept a b m n h k =
      two_give_back a b (compound_given operator computed kept) m n (λ place x. spend >> (updated operator computed kept place x >> gives place)) h k
      (λ u v around W place x p q. spend_first around W (compound_given operator computed kept u v) _
      (gives_where around W (keeps kept u && is_right operator computed v) (Some u) _
      (λ e. then_keeps declared W around context (IsGiven declared W (only kept)) (updated_keeps declared W around context operator computed kept v x (both_right (keeps kept u) _ e) q u place (both_left _ _ e) p)
      (λ _ _. gives_keeps declared W around context (IsGiven declared W u) place p))))

  one : Given
  one = constant_given (tree.number (pos 1))

  stepped : (operator : BinaryOperator) (type : IntegerType) (around : Around) (W : World) (u : Given) (place : Value) → steps operator type u ≡ true → IsGiven declared W u place
      → Stays (Typed declared around context W) (Typed declared around context W) (IsGiven declared W (only type)) (step operator type place)
  stepped operator type around W u place e p =
      updated_keeps declared W around context operator (promoted type) type (constant_given (tree.number (pos 1))) (number (pos 1)) (both_right (keeps type u) _ e) (λ t f. f) u place (both_left _ _ e) p

  pub prefix_sound : (operator : BinaryOperator) (type : IntegerType) (v : Option Given) (m : Does Value) → Sound v m → Sound (then_given v (prefix_given operator type)) (prefix_operation operator type m)
  prefix_sound operator type v m h =
      one_gives v (prefix_given operator type) m (λ place. spend >> (step operator type place >> gives place)) h
      (λ u around W place p. spend_first around W (prefix_given operator type u) _
      (gives_where around W (steps operator type u) (Some u) _
      (λ e. then_keeps declared W around context (IsGiven declared W (only type)) (stepped operator type around W u place e p) (λ _ _. gives_keeps declared W around context (IsGiven declared W u) place p))))

  pub postfix_sound : (operator : BinaryOperator) (type : IntegerType) (v : Option Given) (m : Does Value) → Sound v m → Sound (then_given v (postfix_given operator type)) (postfix_operation operator type m)
  postfix_sound operator type v m h =
      one_gives v (postfix_given operator type) m (λ place. spend >> step operator type place) h
      (λ u around W place p. spend_first around W (postfix_given operator type u) _ (gives_where around W (steps operator type u) (Some (only type)) _ (λ e. stepped operator type around W u place e p)))

  pub indirection_sound : (v : Option Given) (m : Does Value) → Sound v m → Sound (then_given v indirection_given) (indirection_of m)
  indirection_sound v m h =
      one_gives v indirection_given m (λ x. spend >> (place_of x >>= (λ a. gives (address a)))) h
      (λ u around W x p. spend_first around W (indirection_given u) _ (indirection_keeps declared W around context u x p))

  pub member_sound : (leaf : ℕ) (v : Option Given) (m : Does Value) → Sound v m → Sound (then_given v (member_given leaf)) (member_of leaf m)
  member_sound leaf v m h =
      one_gives v (member_given leaf) m (λ x. spend >> (place_of x >>= (λ a. read_leaf a >> gives (address (place_in a leaf))))) h
      (λ u around W x p. spend_first around W (member_given leaf u) _ (member_keeps declared W around context leaf u x p))
