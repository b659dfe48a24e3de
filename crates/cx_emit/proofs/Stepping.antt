-- The machine adds 1 to what an object holds, or subtracts it, as the meaning does.
use Rattle.std.proofs.Common.{◌≡◌, ℕ, ◌-◌, ℤ, pos, List, [], ◌∷◌, Some, None, Bool, true, false, if◌then◌else◌, refl, sym, ap, ◌∙◌, subst, arith}
use Rattle.std.specs.Prelude.{Result, Ok, Err}
use Rattle.cx_types.specs.declared.value_type.Scalar.{Scalar}
use Rattle.cx_types.specs.declared.value_type.Scalar.TheVariants as scalars
use Rattle.cx_code.specs.declared.image.Image.{Image}
use Rattle.cx_code.specs.declared.operation.Operation.TheVariants as does
use Rattle.cx_code.specs.declared.run.Value.{Value}
use Rattle.cx_code.specs.declared.run.Value.TheVariants as values
use Rattle.cx_code.specs.State.{State}
use Rattle.cx_core.specs.declared.number.IntegerType.{IntegerType}
use Rattle.cx_core.specs.declared.number.IntegerType.TheVariants as types
use Rattle.cx_core.specs.declared.number.BinaryOperator.{BinaryOperator}
use Rattle.cx_core.specs.Words.{Kind, Mixed}
use Rattle.cx_core.specs.Number.{in_range, promoted}
use Rattle.cx_core.specs.Tree.{scalar, Expr}
use Rattle.cx_core.specs.Program.{Program}
use Rattle.cx_core.specs.Store as store
use Rattle.cx_core.specs.Store.{Address, number, address, null, violation, leaf_at, value_of}
use Rattle.cx_core.specs.Outcome as source
use Rattle.cx_core.specs.Outcome.{Outcome, on, over, Does, Nothing, nothing, after, either, gives, throws, ends, some, undefined, spend, write, read, current_store, defined}
use Rattle.cx_core.specs.Leaving.{Calls}
use Rattle.cx_core.specs.Operators.{integer_of, fits_integer, fitting, read_as, number_of, of_type, converted_to, operated, step, prefix_operation, postfix_operation}
use Rattle.cx_core.specs.Meaning.{expr}
use Rattle.cx_simulation.specs.Machine.{goes, begins_ahead}
use Rattle.cx_simulation.specs.ImageMachine.{image_step}
use Rattle.cx_simulation.specs.Parts.{Account, Follows}
use Rattle.cx_simulation.proofs.Parts.{follows_one, follows_step, told_on}
use Rattle.cx_simulation.proofs.Changes.{follows_changes}
use Rattle.cx_emit.specs.Values.{IsValue}
use Rattle.cx_emit.specs.Configuration.{running_at, operation_at, Gives}
use Rattle.cx_emit.specs.Operations.{binary_operation}
use Rattle.cx_emit.specs.Stands.{StandsExpr, StandsNumberLoad}
use Rattle.cx_emit.specs.Statements.{StandsStep}
use Rattle.cx_emit.specs.Laws.{of_expression}
use Rattle.cx_emit.proofs.Places.{has_some}
use Rattle.cx_emit.proofs.Operators.{binary_steps}
use Rattle.cx_emit.proofs.Operands.{read_follows, conversion_follows}
use Rattle.cx_emit.proofs.Valuing.{account, unit_then}
use Rattle.cx_emit.proofs.Expressions.{expr_follows}
use Rattle.cx_emit.proofs.Asserting.{Never, never_on, at}
use Rattle.cx_emit.proofs.Scopes.{IsReady, kept_ready}
use Rattle.cx_emit.proofs.Ending.{of_completion}
use Rattle.cx_emit.proofs.Storing.{Written, written_on, write_steps, stores_then}

-- an object of an integer type
abbrev object_scalar : IntegerType → Scalar
object_scalar types.Bool = scalars.Bool
object_scalar types.Char = scalars.Char
object_scalar types.Int = scalars.Int
object_scalar types.Unsigned = scalars.Unsigned
object_scalar types.LongLong = scalars.LongLong
object_scalar types.UnsignedLongLong = scalars.UnsignedLongLong

is_of : (type : IntegerType) → integer_of (object_scalar type) ≡ Some type
is_of types.Bool = refl
is_of types.Char = refl
is_of types.Int = refl
is_of types.Unsigned = refl
is_of types.LongLong = refl
is_of types.UnsignedLongLong = refl

-- what a step reads, an operand would read
same_read : {B : Type 0} (type : IntegerType) (a : Address) (next : ℤ → Does B) (s : source.State)
    → either (either (read a) (of_type type) throws) next throws s ≡ either (read_as (Some (scalar (object_scalar type))) (address a)) (λ v. either (some (number_of v)) next throws) throws s
unfolding either gives throws ends current_store
same_read {B} type a next s = by_value (value_of (leaf_at s.store a))
  where
    by_range : (n : ℤ) (b c : Bool) → c ≡ b
        → after ((if b then gives n else undefined Mixed) s) next throws ≡ after ((if c then gives (number n) else undefined Mixed) s) (λ v. either (some (number_of v)) next throws) throws
    by_range n b c e = subst (λ c. after ((if b then gives n else undefined Mixed) s) next throws ≡ after ((if c then gives (number n) else undefined Mixed) s) (λ v. either (some (number_of v)) next throws) throws) (sym e) (same b)
      where
        same : (b : Bool) → after ((if b then gives n else undefined Mixed) s) next throws ≡ after ((if b then gives (number n) else undefined Mixed) s) (λ v. either (some (number_of v)) next throws) throws
        same true = refl
        same false = refl

    by_value : (r : Result store.Value Kind)
        → after (after (defined r s) (of_type type) throws) next throws ≡ after (after (defined r s) (fitting (scalar (object_scalar type))) throws) (λ v. either (some (number_of v)) next throws) throws
    by_value (Err kind) = refl
    by_value (Ok (number n)) = by_range n (in_range type n) (fits_integer (integer_of (object_scalar type)) n) (ap (λ t. fits_integer t n) (is_of type))
    by_value (Ok (address x)) = refl
    by_value (Ok null) = refl
    by_value (Ok (store.function x)) = refl
    by_value (Ok (violation x)) = refl

first_load : (image : Image) (function from to : ℕ) (type : IntegerType) → StandsNumberLoad image function (Some type) from to → operation_at image function from ≡ Some does.Load
first_load image function from to types.UnsignedLongLong st = st.1.here
first_load image function from to type st = st.here

-- from the place twice on the operands
module _ (image : Image) (function : ℕ) (operator : BinaryOperator) (type : IntegerType) (from to : ℕ) (st : StandsStep image function operator type from to) where
  reads : StandsNumberLoad image function (integer_of (object_scalar type)) st.0 st.1
  reads = subst (λ t. StandsNumberLoad image function t st.0 st.1) (sym (is_of type)) st.7

  module _ (a : Address) where
    abbrev place : Value
    place = values.Address a.object a.leaf

    abbrev Stores : {B : Type 0} → Account → ℕ → List Value → Does B → Type 0
    Stores {B} account at operands part =
        (n : ℕ) (s : source.State) (m : State) → IsReady image function s m → s.begins ≡ begins_ahead (image_step image) n (running_at m at operands)
        → Follows (image_step image) n s (running_at m at operands) account (λ (_ : B) d t. Written image function to s m d t) (Never s m) (part s)

    -- what is done with the number that stood there
    abbrev writes : ℤ → store.Value → Does store.Value
    writes old z = either (write a (Some z)) (λ _. gives (number old)) throws

    abbrev converts : ℤ → store.Value → Does store.Value
    converts old y = either (converted_to (Some type) y) (writes old) throws

    abbrev operates : ℤ → store.Value → Does store.Value
    operates old x = either (operated operator (promoted type) x (number (pos 1))) (converts old) throws

    abbrev replaces : ℤ → Does store.Value
    replaces old = either (converted_to (Some (promoted type)) (number old)) (operates old) throws

    write_follows : (old : ℤ) (z : store.Value) (x : Value) → IsValue z x → Stores (account 0 1 1) st.5 (x ∷ place ∷ []) (writes old z)
    unfolding either gives throws
    write_follows old z x is n s m r told =
        follows_one (image_step image) n s (running_at m st.5 (x ∷ place ∷ [])) (account 0 1 1) (λ (_ : store.Value) d t. Written image function to s m d t) (Never s m) (writes old z s) (omega arith) (omega arith) told
        (write_steps image function (number old) (λ o. after o (λ _. gives (number old)) throws) (λ t. refl) (λ answer trace. refl) s m r s.budget st.5 to st.12 z x is a)

    converts_follows : (old : ℤ) (y : store.Value) (x : Value) → IsValue y x → Stores (account 0 2 2) st.4 (x ∷ place ∷ []) (converts old y)
    converts_follows old y x is n s m r told =
        stores_then image function (account 0 1 1) (account 0 1 1) (account 0 2 2) (converted_to (Some type) y) (writes old) st.4 st.5 to (x ∷ place ∷ []) (place ∷ [])
        (record { goes_on = omega arith; left_first = omega arith; left_second = omega arith; in_hand = omega arith }) n s m r
        (conversion_follows image function Never (Some type) st.4 st.5 (place ∷ []) st.11 y x is n s m r.agrees told) (λ z w is k t d r told. write_follows old z w is k t d r told)

    operates_follows : (old : ℤ) (x : store.Value) (w : Value) → IsValue x w → Stores (account 0 4 4) st.2 (w ∷ place ∷ []) (operates old x)
    operates_follows old x w is n s m r told =
        let goes_so : image_step image (running_at m st.2 (w ∷ place ∷ [])) ≡ goes (running_at m st.3 (values.Number (pos 1) ∷ w ∷ place ∷ [])) None =
        at image function s m st.2 (w ∷ place ∷ []) (does.Push (pos 1)) r.agrees (st.9).here ∙ ap (λ p. goes (running_at m p (values.Number (pos 1) ∷ w ∷ place ∷ [])) None) (sym (st.9).next) in
        let o = has_some image function st.3 st.4 (binary_operation operator (promoted type)) st.10 in
        let later : s.begins ≡ begins_ahead (image_step image) (n - 1) (running_at m st.3 (values.Number (pos 1) ∷ w ∷ place ∷ [])) =
        told_on (image_step image) n (running_at m st.2 (w ∷ place ∷ [])) (running_at m st.3 (values.Number (pos 1) ∷ w ∷ place ∷ [])) None s.begins s.begins goes_so told refl in
        follows_step (image_step image) n s (running_at m st.2 (w ∷ place ∷ [])) (running_at m st.3 (values.Number (pos 1) ∷ w ∷ place ∷ [])) (account 0 3 3) (account 0 4 4) (λ (_ : store.Value) d t. Written image function to s m d t) (Never s m) (operates old x s)
        goes_so (omega arith) (omega arith) (omega arith)
        (stores_then image function (account 0 1 1) (account 0 2 2) (account 0 3 3) (operated operator (promoted type) x (number (pos 1))) (converts old) st.3 st.4 to (values.Number (pos 1) ∷ w ∷ place ∷ []) (place ∷ [])
        (record { goes_on = omega arith; left_first = omega arith; left_second = omega arith; in_hand = omega arith }) (n - 1) s m r
        (follows_one (image_step image) (n - 1) s (running_at m st.3 (values.Number (pos 1) ∷ w ∷ place ∷ [])) (account 0 1 1) (Gives function st.4 (place ∷ []) s m) (Never s m) (operated operator (promoted type) x (number (pos 1)) s) (omega arith) (omega arith) later
        (binary_steps image function Never o.0 s m s.budget st.3 st.4 (place ∷ []) r.agrees o.2 operator (promoted type) x (number (pos 1)) w (values.Number (pos 1)) is refl o.1))
        (λ y z is k t d r told. converts_follows old y z is k t d r told))

    replaces_follows : (old : ℤ) → Stores (account 0 5 5) st.1 (values.Number old ∷ place ∷ []) (replaces old)
    replaces_follows old n s m r told =
        stores_then image function (account 0 1 1) (account 0 4 4) (account 0 5 5) (converted_to (Some (promoted type)) (number old)) (operates old) st.1 st.2 to (values.Number old ∷ place ∷ []) (place ∷ [])
        (record { goes_on = omega arith; left_first = omega arith; left_second = omega arith; in_hand = omega arith }) n s m r
        (conversion_follows image function Never (Some (promoted type)) st.1 st.2 (place ∷ []) st.8 (number old) (values.Number old) refl n s m r.agrees told) (λ x w is k t d r told. operates_follows old x w is k t d r told)

    -- a number was read, or nothing is asked
    number_follows : (v : store.Value) (w : Value) → IsValue v w → Stores (account 0 5 5) st.1 (w ∷ place ∷ []) (either (some (number_of v)) replaces throws)
    unfolding either gives throws ends
    number_follows (number old) w is n s m r told =
        subst (λ w. Follows (image_step image) n s (running_at m st.1 (w ∷ place ∷ [])) (account 0 5 5) (λ (_ : store.Value) d t. Written image function to s m d t) (Never s m) (replaces old s)) (sym is)
        (replaces_follows old n s m r (told ∙ ap (λ w. begins_ahead (image_step image) n (running_at m st.1 (w ∷ place ∷ []))) is))
    number_follows (address x) w is n s m r told = record { comes = λ other. absurd (other refl) }
    number_follows null w is n s m r told = record { comes = λ other. absurd (other refl) }
    number_follows (store.function x) w is n s m r told = absurd is
    number_follows (violation x) w is n s m r told = absurd is

    address_follows : Stores (account 0 7 7) st.0 (place ∷ place ∷ []) (step operator type (address a))
    unfolding either gives
    address_follows n s m r told =
        subst (λ o. Follows (image_step image) n s (running_at m st.0 (place ∷ place ∷ [])) (account 0 7 7) (λ (_ : store.Value) d t. Written image function to s m d t) (Never s m) o) (sym (same_read type a replaces s))
        (stores_then image function (account 0 2 2) (account 0 5 5) (account 0 7 7) (read_as (Some (scalar (object_scalar type))) (address a)) (λ v. either (some (number_of v)) replaces throws) st.0 st.1 to (place ∷ place ∷ []) (place ∷ [])
        (record { goes_on = omega arith; left_first = omega arith; left_second = omega arith; in_hand = omega arith }) n s m r
        (read_follows image function Never (Some (scalar (object_scalar type))) st.0 st.1 (place ∷ []) reads (address a) place refl n s m r.agrees told) number_follows)

  pub step_follows : (v : store.Value) (w : Value) → IsValue v w → (n : ℕ) (s : source.State) (m : State) → IsReady image function s m → s.begins ≡ begins_ahead (image_step image) n (running_at m st.0 (w ∷ w ∷ []))
      → Follows (image_step image) n s (running_at m st.0 (w ∷ w ∷ [])) (account 0 7 7) (λ (_ : store.Value) d t. Written image function to s m d t) (Never s m) (step operator type v s)
  unfolding either ends throws
  step_follows (address a) w is n s m r told =
      subst (λ w. Follows (image_step image) n s (running_at m st.0 (w ∷ w ∷ [])) (account 0 7 7) (λ (_ : store.Value) d t. Written image function to s m d t) (Never s m) (step operator type (address a) s)) (sym is)
      (address_follows a n s m r (told ∙ ap (λ w. begins_ahead (image_step image) n (running_at m st.0 (w ∷ w ∷ []))) is))
  step_follows null w is n s m r told =
      follows_one (image_step image) n s (running_at m st.0 (w ∷ w ∷ [])) (account 0 7 7) (λ (_ : store.Value) d t. Written image function to s m d t) (Never s m) (step operator type null s) (omega arith) (omega arith) told
      (λ other. record {
        event = None;
        halts_so = ap (λ w. image_step image (running_at m st.0 (w ∷ w ∷ []))) is ∙ at image function s m st.0 (values.Null ∷ values.Null ∷ []) does.Load r.agrees (first_load image function st.0 st.1 type st.7);
        noted_so = refl;
      })
  step_follows (number k) w is n s m r told = record { comes = λ other. absurd (other refl) }
  step_follows (store.function k) w is n s m r told = absurd is
  step_follows (violation k) w is n s m r told = absurd is

  -- a part that does so, from the place
  module _ (program : Program) (calls : Calls) (part : store.Value → Does store.Value)
      (does_so : (v : store.Value) (w : Value) → IsValue v w → (n : ℕ) (s : source.State) (m : State) → IsReady image function s m → s.begins ≡ begins_ahead (image_step image) n (running_at m st.0 (w ∷ w ∷ []))
      → Follows (image_step image) n s (running_at m st.0 (w ∷ w ∷ [])) (account 0 7 7) (λ (_ : store.Value) d t. Written image function to s m d t) (Never s m) (part v s)) where
    unit_follows : (v : store.Value) (w : Value) → IsValue v w → (n : ℕ) (s : source.State) (m : State) → IsReady image function s m → s.begins ≡ begins_ahead (image_step image) n (running_at m from (w ∷ []))
        → Follows (image_step image) n s (running_at m from (w ∷ [])) (account 24 0 0) (λ (_ : store.Value) d t. Written image function to s m d t) (Never s m) (either spend (λ _. part v) throws s)
    unit_follows v w is n s m r told =
        unit_then image function Never never_on (λ s m (_ : store.Value) d t. Written image function to s m d t) (λ s t m d kept _ e u b. written_on image function to s t u m d e kept b) (account 0 7 7) (account 24 0 0) (part v) from st.0 (w ∷ []) (w ∷ w ∷ [])
        (record { goes_on = omega arith; left_first = omega arith; left_second = omega arith; in_hand = omega arith }) n s m r.agrees told
        (at image function s m from (w ∷ []) does.Duplicate r.agrees (st.6).here ∙ ap (λ p. goes (running_at m p (w ∷ w ∷ [])) None) (sym (st.6).next))
        (λ k t agrees kept told. does_so v w is k t m (kept_ready image function s t m m r kept agrees) told)

    pub stepped_follows : (a : Expr) (start : ℕ) → StandsExpr image function a start from → (n : ℕ) (s : source.State) (m : State) → IsReady image function s m → s.begins ≡ begins_ahead (image_step image) n (running_at m start [])
        → Follows (image_step image) n s (running_at m start []) of_completion (λ (_ : store.Value) d t. Written image function to s m d t) (Never s m) (either (expr program calls a) (λ v. either spend (λ _. part v) throws) throws s)
    stepped_follows a start stands n s m r told =
        stores_then image function of_expression (account 24 0 0) of_completion (expr program calls a) (λ v. either spend (λ _. part v) throws) start from to [] []
        (record { goes_on = omega arith; left_first = omega arith; left_second = omega arith; in_hand = omega arith }) n s m r
        (expr_follows image function Never never_on program calls a start from stands n [] s m r.agrees told) unit_follows

  -- `++` and `--`, whose value is not wanted
  module _ (program : Program) (calls : Calls) (a : Expr) (start : ℕ) (stands : StandsExpr image function a start from) (n : ℕ) (s : source.State) (m : State) (r : IsReady image function s m) (told : s.begins ≡ begins_ahead (image_step image) n (running_at m start [])) where
    pub postfix_follows : Follows (image_step image) n s (running_at m start []) of_completion (λ (_ : store.Value) d t. Written image function to s m d t) (Never s m) (postfix_operation operator type (expr program calls a) s)
    postfix_follows = stepped_follows program calls (step operator type) step_follows a start stands n s m r told

    pub prefix_follows : Follows (image_step image) n s (running_at m start []) of_completion (λ (_ : store.Value) d t. Written image function to s m d t) (Never s m) (prefix_operation operator type (expr program calls a) s)
    unfolding either gives
    prefix_follows =
        stepped_follows program calls (λ v. either (step operator type v) (λ _. gives v) throws)
        (λ v w is n s m r told. follows_changes (image_step image) n s (running_at m st.0 (w ∷ w ∷ [])) (account 0 7 7) (λ (_ : store.Value) d t. Written image function to s m d t) (λ (_ : store.Value) d t. Written image function to s m d t)
        (λ o. after o (λ _. gives v) throws) (step operator type v s) (λ answer trace. refl) (λ _ t d g. (v, t, refl, refl, refl, refl, g)) (step_follows v w is n s m r told))
        a start stands n s m r told
