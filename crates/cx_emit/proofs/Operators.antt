-- One instruction does what an operator means.
use Rattle.std.proofs.Common.{◌≡◌, ◌≢◌, ℕ, ◌^◌, ℤ, pos, ◌+ℤ◌, ◌-ℤ◌, ◌*ℤ◌, neg_ℤ, List, ◌∷◌, Option, Some, None, Bool, true, false, not, if◌then◌else◌, refl, sym, ap, ◌∙◌, subst}
use Rattle.std.specs.Prelude.{int_lt, int_le, int_div, int_rem, unsigned_abs}
use Rattle.std.specs.Int.{int_shr, int_div_euclid}
use Rattle.std.specs.Ordering.{int_eq}
use Rattle.cx_code.specs.declared.image.Image.{Image}
use Rattle.cx_code.specs.declared.operation.Operation.{Operation}
use Rattle.cx_code.specs.declared.operation.Operation.TheVariants as does
use Rattle.cx_code.specs.declared.operation.Scalar.{Scalar}
use Rattle.cx_code.specs.declared.run.Value.{Value}
use Rattle.cx_code.specs.declared.run.Value.TheVariants as values
use Rattle.cx_code.specs.Arithmetic.{Computed, Gives as Computes, truth, equal_values, negated, logical_not, complement, sum, difference, product, quotient, remainder, shifted_left, shifted_right, both_bits, either_bits, different_bits, number_as}
use Rattle.cx_code.specs.State.{State}
use Rattle.cx_code.specs.Act.{act, next, on_computed, on_some, mixed}
use Rattle.cx_core.specs.declared.number.IntegerType.{IntegerType}
use Rattle.cx_core.specs.declared.number.IntegerType.TheVariants as types
use Rattle.cx_core.specs.declared.number.BinaryOperator.{BinaryOperator}
use Rattle.cx_core.specs.declared.number.BinaryOperator.TheVariants as binary
use Rattle.cx_core.specs.declared.number.UnaryOperator.{UnaryOperator}
use Rattle.cx_core.specs.declared.number.UnaryOperator.TheVariants as unary
use Rattle.cx_core.specs.Words.{Mixed}
use Rattle.cx_core.specs.Number.{in_range, modulo, arithmetic, unary_number, binary_number, truth_number}
use Rattle.cx_core.specs.Store as store
use Rattle.cx_core.specs.Store.{Address, number, address, null, violation}
use Rattle.cx_core.specs.Outcome as source
use Rattle.cx_core.specs.Outcome.{on, over, Does, either, gives, throws, ends, some, undefined, ◌>>=◌}
use Rattle.cx_core.specs.Operators.{number_given, unary_operated, operands_fit, numbers_operated, same_pointer, pointers_compared, pointers_operated, operated}
use Rattle.cx_simulation.specs.ImageMachine.{progress, image_step}
use Rattle.cx_emit.specs.Values.{IsValue}
use Rattle.cx_emit.specs.Configuration.{running_at, Has, Agrees}
use Rattle.cx_emit.specs.Operations.{scalar_of, computing, unary_operation, binary_operation}
use Rattle.cx_emit.proofs.Numbers.{as_result, same_arithmetic, same_modulo, one_fits, two_fit, same_division, same_shift, same_right_shift, same_minus, same_complement}
use Rattle.cx_emit.proofs.Bits.{same_and, same_xor, same_or}
use Rattle.cx_emit.proofs.Places.{at_place, puts, PutsValue, computed_steps}

computing_is : (type : IntegerType) (operation o : Operation) → computing type operation ≡ Some o → (o ≡ operation) × (type ≢ types.Bool)
computing_is types.Bool operation o e = absurd (cc)
computing_is types.Char operation o e = (cc, λ f. cc)
computing_is types.Int operation o e = (cc, λ f. cc)
computing_is types.Unsigned operation o e = (cc, λ f. cc)
computing_is types.LongLong operation o e = (cc, λ f. cc)
computing_is types.UnsignedLongLong operation o e = (cc, λ f. cc)

some_is : (operation o : Operation) → Some operation ≡ Some o → o ≡ operation
some_is operation o e = cc

-- ---- operators with one operand

abbrev computed_of_one : UnaryOperator → Scalar → ℤ → Computed
computed_of_one unary.Minus scalar x = negated scalar x
computed_of_one unary.Not scalar x = logical_not scalar x
computed_of_one unary.Complement scalar x = complement scalar x

same_unary : (operator : UnaryOperator) (type : IntegerType) (o : Operation) (x : ℤ) → unary_operation operator type ≡ Some o → in_range type x ≡ true → as_result (computed_of_one operator (scalar_of type) x) ≡ unary_number operator type x
same_unary unary.Minus type o x e h =
    ap as_result (one_fits type x _ h) ∙ same_arithmetic type (neg_ℤ x) (computing_is type (does.Negate (scalar_of type)) o e).1 ∙ ap (λ (n : ℤ). arithmetic type n) (same_minus x)
same_unary unary.Not type o x e h = ap as_result (one_fits type x _ h)
same_unary unary.Complement type o x e h = ap as_result (one_fits type x _ h) ∙ same_complement type x (computing_is type (does.Complement (scalar_of type)) o e).1 h

module _ (image : Image) where
  unary_acts : (operator : UnaryOperator) (type : IntegerType) (o : Operation) (m : State) (from : ℕ) (x : ℤ) (operands : List Value) → unary_operation operator type ≡ Some o
      → act image o (running_at m from (values.Number x ∷ operands)) ≡ on_computed (computed_of_one operator (scalar_of type) x) (λ z. next (running_at m from (values.Number x ∷ operands)) (values.Number z ∷ operands))
  unary_acts unary.Minus type o m from x operands e = ap (λ p. act image p (running_at m from (values.Number x ∷ operands))) (computing_is type (does.Negate (scalar_of type)) o e).0
  unary_acts unary.Not type o m from x operands e = ap (λ p. act image p (running_at m from (values.Number x ∷ operands))) (some_is (does.Not (scalar_of type)) o e)
  unary_acts unary.Complement type o m from x operands e = ap (λ p. act image p (running_at m from (values.Number x ∷ operands))) (computing_is type (does.Complement (scalar_of type)) o e).0

module _ (image : Image) (function : ℕ) (Fly : source.State → State → source.Exception → State → source.State → Type 0) where
  pub unary_steps : (operator : UnaryOperator) (type : IntegerType) (o : Operation) (s : source.State) (m : State) (budget from to : ℕ) (operands : List Value) (v : store.Value) (w : Value)
      → Agrees function s m → Has image function from o to → unary_operation operator type ≡ Some o → IsValue v w
      → PutsValue image function Fly s m budget from to (w ∷ operands) operands (unary_operated operator type v (record s { budget = budget }))
  unfolding either gives ends throws
  unary_steps operator type o s m budget from to operands (number x) w a h e is =
      subst (λ w. PutsValue image function Fly s m budget from to (w ∷ operands) operands (unary_operated operator type (number x) (record s { budget = budget }))) (sym is) (by_range (in_range type x) refl)
    where
      before : List Value
      before = values.Number x ∷ operands

      by_range : (b : Bool) → in_range type x ≡ b
          → PutsValue image function Fly s m budget from to (values.Number x ∷ operands) operands ((either (if b then gives x else undefined Mixed) (λ y. number_given (unary_number operator type y)) throws) (record s { budget = budget }))
      by_range true f =
          computed_steps image function Fly s m budget from to (values.Number x ∷ operands) operands (computed_of_one operator (scalar_of type) x) (unary_number operator type x) a h.next (same_unary operator type o x e f)
          (at_place image function Fly s m from to (values.Number x ∷ operands) o a h ∙ ap (λ t. progress image t) (unary_acts image operator type o m from x operands e))
      by_range false f = λ other. absurd (other refl)
  unary_steps operator type o s m budget from to operands (address x) w a h e is = λ other. absurd (other refl)
  unary_steps operator type o s m budget from to operands null w a h e is = λ other. absurd (other refl)
  unary_steps operator type o s m budget from to operands (store.function x) w a h e is = λ other. absurd (other refl)
  unary_steps operator type o s m budget from to operands (violation x) w a h e is = λ other. absurd (other refl)

-- ---- operators with two operands

abbrev computed_of_two : BinaryOperator → Scalar → ℤ → ℤ → Computed
computed_of_two binary.Multiply scalar x y = product scalar x y
computed_of_two binary.Divide scalar x y = quotient scalar x y
computed_of_two binary.Remainder scalar x y = remainder scalar x y
computed_of_two binary.Add scalar x y = sum scalar x y
computed_of_two binary.Subtract scalar x y = difference scalar x y
computed_of_two binary.ShiftLeft scalar x y = shifted_left scalar x y
computed_of_two binary.ShiftRight scalar x y = shifted_right scalar x y
computed_of_two binary.Less scalar x y = Computes (truth (int_lt x y))
computed_of_two binary.Greater scalar x y = Computes (truth (int_lt y x))
computed_of_two binary.LessEqual scalar x y = Computes (truth (int_le x y))
computed_of_two binary.GreaterEqual scalar x y = Computes (truth (int_le y x))
computed_of_two binary.Equal scalar x y = Computes (truth (int_eq x y))
computed_of_two binary.NotEqual scalar x y = Computes (truth (not (int_eq x y)))
computed_of_two binary.BitAnd scalar x y = both_bits scalar x y
computed_of_two binary.BitXor scalar x y = different_bits scalar x y
computed_of_two binary.BitOr scalar x y = either_bits scalar x y

same_binary : (operator : BinaryOperator) (type : IntegerType) (o : Operation) (x y : ℤ) → binary_operation operator type ≡ Some o → operands_fit operator type x y ≡ true
    → as_result (computed_of_two operator (scalar_of type) x y) ≡ binary_number operator type x y
same_binary binary.Multiply type o x y e h = ap as_result (two_fit type x y _ h) ∙ same_arithmetic type (x *ℤ y) (computing_is type (does.Multiply (scalar_of type)) o e).1
same_binary binary.Divide type o x y e h = ap as_result (two_fit type x y _ h) ∙ same_division type x y (int_div x y) (computing_is type (does.Divide (scalar_of type)) o e).1 h
same_binary binary.Remainder type o x y e h = ap as_result (two_fit type x y _ h) ∙ same_division type x y (int_rem x y) (computing_is type (does.Remainder (scalar_of type)) o e).1 h
same_binary binary.Add type o x y e h = ap as_result (two_fit type x y _ h) ∙ same_arithmetic type (x +ℤ y) (computing_is type (does.Add (scalar_of type)) o e).1
same_binary binary.Subtract type o x y e h = ap as_result (two_fit type x y _ h) ∙ same_arithmetic type (x -ℤ y) (computing_is type (does.Subtract (scalar_of type)) o e).1
same_binary binary.ShiftLeft type o x y e h =
    ap as_result (one_fits type x _ h)
    ∙ same_shift type y (number_as (scalar_of type) (x *ℤ pos (2 ^ unsigned_abs y))) (λ n. modulo type (x *ℤ pos (2 ^ n))) (sym (same_modulo type (x *ℤ pos (2 ^ unsigned_abs y)) (computing_is type (does.ShiftLeft (scalar_of type)) o e).1))
same_binary binary.ShiftRight type o x y e h =
    ap as_result (one_fits type x _ h) ∙ same_shift type y (int_shr x (unsigned_abs y)) (λ n. int_div_euclid x (pos (2 ^ n))) (same_right_shift x (unsigned_abs y))
same_binary binary.Less type o x y e h = refl
same_binary binary.Greater type o x y e h = refl
same_binary binary.LessEqual type o x y e h = refl
same_binary binary.GreaterEqual type o x y e h = refl
same_binary binary.Equal type o x y e h = refl
same_binary binary.NotEqual type o x y e h = refl
same_binary binary.BitAnd type o x y e h = ap as_result (two_fit type x y _ h) ∙ same_and type x y (computing_is type (does.BitAnd (scalar_of type)) o e).1 h
same_binary binary.BitXor type o x y e h = ap as_result (two_fit type x y _ h) ∙ same_xor type x y (computing_is type (does.BitXor (scalar_of type)) o e).1 h
same_binary binary.BitOr type o x y e h = ap as_result (two_fit type x y _ h) ∙ same_or type x y (computing_is type (does.BitOr (scalar_of type)) o e).1 h

module _ (image : Image) (type : IntegerType) (o : Operation) (m : State) (from : ℕ) (x y : ℤ) (operands : List Value) where
  abbrev DoesTwo : BinaryOperator → Operation → Type 0
  DoesTwo operator p =
      let d = running_at m from (values.Number y ∷ values.Number x ∷ operands) in
      act image p d ≡ on_computed (computed_of_two operator (scalar_of type) x y) (λ z. next d (values.Number z ∷ operands))

  typed_acts : (operator : BinaryOperator) (p : Operation) → computing type p ≡ Some o → DoesTwo operator p → DoesTwo operator o
  typed_acts operator p e h = subst (DoesTwo operator) (sym (computing_is type p o e).0) h

  untyped_acts : (operator : BinaryOperator) (p : Operation) → Some p ≡ Some o → DoesTwo operator p → DoesTwo operator o
  untyped_acts operator p e h = subst (DoesTwo operator) (sym (some_is p o e)) h

  binary_acts : (operator : BinaryOperator) → binary_operation operator type ≡ Some o → DoesTwo operator o
  binary_acts binary.Multiply e = typed_acts binary.Multiply (does.Multiply (scalar_of type)) e refl
  binary_acts binary.Divide e = typed_acts binary.Divide (does.Divide (scalar_of type)) e refl
  binary_acts binary.Remainder e = typed_acts binary.Remainder (does.Remainder (scalar_of type)) e refl
  binary_acts binary.Add e = typed_acts binary.Add (does.Add (scalar_of type)) e refl
  binary_acts binary.Subtract e = typed_acts binary.Subtract (does.Subtract (scalar_of type)) e refl
  binary_acts binary.ShiftLeft e = typed_acts binary.ShiftLeft (does.ShiftLeft (scalar_of type)) e refl
  binary_acts binary.ShiftRight e = typed_acts binary.ShiftRight (does.ShiftRight (scalar_of type)) e refl
  binary_acts binary.Less e = untyped_acts binary.Less does.Less e refl
  binary_acts binary.Greater e = untyped_acts binary.Greater does.Greater e refl
  binary_acts binary.LessEqual e = untyped_acts binary.LessEqual does.LessOrEqual e refl
  binary_acts binary.GreaterEqual e = untyped_acts binary.GreaterEqual does.GreaterOrEqual e refl
  binary_acts binary.Equal e = untyped_acts binary.Equal does.Equal e refl
  binary_acts binary.NotEqual e = untyped_acts binary.NotEqual does.NotEqual e refl
  binary_acts binary.BitAnd e = typed_acts binary.BitAnd (does.BitAnd (scalar_of type)) e refl
  binary_acts binary.BitXor e = typed_acts binary.BitXor (does.BitXor (scalar_of type)) e refl
  binary_acts binary.BitOr e = typed_acts binary.BitOr (does.BitOr (scalar_of type)) e refl

-- pointers are equal alike
equal_pointers : (x y : store.Value) (v w : Value) (same : Bool) → IsValue x v → IsValue y w → same_pointer x y ≡ Some same → equal_values v w ≡ Some same
equal_pointers (address a) (address b) v w same p q e = ap (λ (v : Value). equal_values v w) p ∙ ap (λ (w : Value). equal_values (values.Address a.object a.leaf) w) q ∙ e
equal_pointers (address a) null v w same p q e = ap (λ (v : Value). equal_values v w) p ∙ ap (λ (w : Value). equal_values (values.Address a.object a.leaf) w) q ∙ e
equal_pointers null (address b) v w same p q e = ap (λ (v : Value). equal_values v w) p ∙ ap (λ (w : Value). equal_values values.Null w) q ∙ e
equal_pointers null null v w same p q e = ap (λ (v : Value). equal_values v w) p ∙ ap (λ (w : Value). equal_values values.Null w) q ∙ e
equal_pointers (number x) y v w same p q e = absurd (cc)
equal_pointers (store.function x) y v w same p q e = absurd p
equal_pointers (violation x) y v w same p q e = absurd p
equal_pointers (address a) (number y) v w same p q e = absurd (cc)
equal_pointers (address a) (store.function y) v w same p q e = absurd q
equal_pointers (address a) (violation y) v w same p q e = absurd q
equal_pointers null (number y) v w same p q e = absurd (cc)
equal_pointers null (store.function y) v w same p q e = absurd q
equal_pointers null (violation y) v w same p q e = absurd q

module _ (image : Image) (function : ℕ) (Fly : source.State → State → source.Exception → State → source.State → Type 0) where
  module _ (o : Operation) (s : source.State) (m : State) (budget from to : ℕ) (operands : List Value) (a : Agrees function s m) (h : Has image function from o to) where
    numbers_step : (operator : BinaryOperator) (type : IntegerType) (x y : ℤ) → binary_operation operator type ≡ Some o
        → PutsValue image function Fly s m budget from to (values.Number y ∷ values.Number x ∷ operands) operands (numbers_operated operator type x y (record s { budget = budget }))
    unfolding ends
    numbers_step operator type x y e = by_fit (operands_fit operator type x y) refl
      where
        by_fit : (b : Bool) → operands_fit operator type x y ≡ b
            → PutsValue image function Fly s m budget from to (values.Number y ∷ values.Number x ∷ operands) operands ((if b then number_given (binary_number operator type x y) else undefined Mixed) (record s { budget = budget }))
        by_fit true f =
            computed_steps image function Fly s m budget from to (values.Number y ∷ values.Number x ∷ operands) operands (computed_of_two operator (scalar_of type) x y) (binary_number operator type x y) a h.next (same_binary operator type o x y e f)
            (at_place image function Fly s m from to (values.Number y ∷ values.Number x ∷ operands) o a h ∙ ap (λ t. progress image t) (binary_acts image type o m from x y operands operator e))
        by_fit false f = λ other. absurd (other refl)

    -- the number that a comparison of equality puts there
    puts_truth : (v w : Value) (same b : Bool) → (f : Bool → Bool) → equal_values v w ≡ Some same → f same ≡ b
        → image_step image (running_at m from (w ∷ v ∷ operands)) ≡ progress image (on_some (equal_values v w) mixed (λ equal. next (running_at m from (w ∷ v ∷ operands)) (values.Number (truth (f equal)) ∷ operands)))
        → PutsValue image function Fly s m budget from to (w ∷ v ∷ operands) operands (on (number (truth_number b)) (record s { budget = budget }))
    puts_truth v w same b f e g k =
        puts image function Fly s m budget from to (w ∷ v ∷ operands) operands (number (truth_number b)) (values.Number (truth b)) a refl h.next
        (k ∙ ap (λ r. progress image (on_some r mixed (λ equal. next (running_at m from (w ∷ v ∷ operands)) (values.Number (truth (f equal)) ∷ operands)))) e
        ∙ ap (λ c. progress image (next (running_at m from (w ∷ v ∷ operands)) (values.Number (truth c) ∷ operands))) g)

    pointers_step : (operator : BinaryOperator) (type : IntegerType) (x y : store.Value) (v w : Value) → IsValue x v → IsValue y w → binary_operation operator type ≡ Some o
        → PutsValue image function Fly s m budget from to (w ∷ v ∷ operands) operands (pointers_operated operator x y (record s { budget = budget }))
    unfolding either gives ends throws
    pointers_step operator type x y v w p q e = by_same (same_pointer x y) refl
      where
        compared : (operator : BinaryOperator) (same : Bool) → binary_operation operator type ≡ Some o → equal_values v w ≡ Some same
            → PutsValue image function Fly s m budget from to (w ∷ v ∷ operands) operands (either (some (pointers_compared operator same)) (λ n. gives (number n)) throws (record s { budget = budget }))
        compared binary.Equal same e f =
            puts_truth v w same same (λ c. c) f refl
            (at_place image function Fly s m from to (w ∷ v ∷ operands) o a h ∙ ap (λ p. progress image (act image p (running_at m from (w ∷ v ∷ operands)))) (some_is does.Equal o e))
        compared binary.NotEqual same e f =
            puts_truth v w same (not same) not f refl
            (at_place image function Fly s m from to (w ∷ v ∷ operands) o a h ∙ ap (λ p. progress image (act image p (running_at m from (w ∷ v ∷ operands)))) (some_is does.NotEqual o e))
        compared operator same e f = λ other. absurd (other refl)

        by_same : (r : Option Bool) → same_pointer x y ≡ r
            → PutsValue image function Fly s m budget from to (w ∷ v ∷ operands) operands (either (some r) (λ same. either (some (pointers_compared operator same)) (λ n. gives (number n)) throws) throws (record s { budget = budget }))
        by_same None f = λ other. absurd (other refl)
        by_same (Some same) f = compared operator same e (equal_pointers x y v w same p q f)

    pub binary_steps : (operator : BinaryOperator) (type : IntegerType) (x y : store.Value) (v w : Value) → IsValue x v → IsValue y w → binary_operation operator type ≡ Some o
        → PutsValue image function Fly s m budget from to (w ∷ v ∷ operands) operands (operated operator type x y (record s { budget = budget }))
    binary_steps operator type (number x) (number y) v w p q e =
        subst (λ w. PutsValue image function Fly s m budget from to (w ∷ v ∷ operands) operands (numbers_operated operator type x y (record s { budget = budget }))) (sym q)
        (subst (λ v. PutsValue image function Fly s m budget from to (values.Number y ∷ v ∷ operands) operands (numbers_operated operator type x y (record s { budget = budget }))) (sym p) (numbers_step operator type x y e))
    binary_steps operator type (number x) y v w p q e = pointers_step operator type (number x) y v w p q e
    binary_steps operator type x y v w p q e = pointers_step operator type x y v w p q e
