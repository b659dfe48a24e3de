-- Where code stands for an expression the machine follows it: by recursion on the tree.
use Rattle.std.proofs.Common.{◌≡◌, ℕ, ◌+◌, pos, List, [], ◌∷◌, Option, Some, None, inl, inr, refl, sym, ap, ◌∙◌, arith}
use Rattle.cx_code.specs.declared.image.Image.{Image}
use Rattle.cx_code.specs.declared.operation.Operation.TheVariants as does
use Rattle.cx_code.specs.declared.run.Value.{Value}
use Rattle.cx_code.specs.declared.run.Value.TheVariants as values
use Rattle.cx_code.specs.State.{State}
use Rattle.cx_code.specs.Act.{next, on_slot}
use Rattle.cx_core.specs.declared.number.IntegerType.{IntegerType}
use Rattle.cx_core.specs.declared.number.BinaryOperator.{BinaryOperator}
use Rattle.cx_core.specs.declared.number.UnaryOperator.{UnaryOperator}
use Rattle.cx_core.specs.Tree.{ObjectType, Constant, Expr, literal, variable, global, unary, binary, logical_and, logical_or, conditional, cast, indirection, putchar, getchar, Operand, operand}
use Rattle.cx_core.specs.Tree as tree
use Rattle.cx_core.specs.Program.{Program}
use Rattle.cx_core.specs.Store as store
use Rattle.cx_core.specs.Store.{number, address, null, violation}
use Rattle.cx_core.specs.Outcome as source
use Rattle.cx_core.specs.Outcome.{on, over, Does, either, gives, throws, spend, ends, some, undefined, current_frame}
use Rattle.cx_core.specs.Leaving.{Calls}
use Rattle.cx_core.specs.Operators.{constant, denoted, named, operated, unary_operated, number_of, read_as, converted_to}
use Rattle.cx_core.specs.Library.{byte_of, write_bytes, putchar_call, next_byte}
use Rattle.cx_core.specs.Meaning.{expr, used, object_place}
use Rattle.cx_simulation.specs.ImageMachine.{progress}
use Rattle.cx_emit.specs.Configuration.{running_at, operation_at, Has, Agrees, AreKept, Gives}
use Rattle.cx_emit.specs.Operations.{unary_operation, binary_operation}
use Rattle.cx_emit.specs.Stands.{HasSome, StandsConstant, StandsRead, StandsConversion, StandsExpr, StandsOperand}
use Rattle.cx_emit.specs.Laws.{of_expression, of_operand}
use Rattle.cx_emit.proofs.Places.{gives_on, has_some, at_place, puts, PutsValue, Valued}
use Rattle.cx_emit.proofs.Valuing.{account, value_then, unit_follows, alone_follows}
use Rattle.cx_emit.proofs.Operators.{unary_steps, binary_steps}
use Rattle.cx_emit.proofs.Pointing.{indirection_follows}
use Rattle.cx_emit.proofs.Deciding.{and_follows, or_follows, conditional_follows, cast_follows}
use Rattle.cx_emit.proofs.Output.{writes, read_steps}
use Rattle.cx_emit.proofs.Operands.{read_follows, conversion_follows}

module _ (image : Image) (function : ℕ) (Fly : source.State → State → source.Exception → State → source.State → Type 0)
    (fly_on : (s t : source.State) (m d : State) → AreKept s m t d → (x : source.Exception) (e : State) (u : source.State) → Fly t d x e u → Fly s m x e u) where
  -- ---- literals

  literal_steps : (c : Constant) (s : source.State) (m : State) (budget from to : ℕ) (operands : List Value) → Agrees function s m → StandsConstant image function c from to
      → PutsValue image function Fly s m budget from to operands operands (gives (constant c) (record s { budget = budget }))
  unfolding gives
  literal_steps (tree.number x) s m budget from to operands a (inl h) = puts image function Fly s m budget from to operands operands (number x) (values.Number x) a refl h.next (at_place image function Fly s m from to operands (does.Push x) a h)
  literal_steps (tree.number x) s m budget from to operands a (inr h) =
      puts image function Fly s m budget from to operands operands (number x) (values.Number (pos h.0)) a (ap values.Number (sym h.1)) (h.2).next (at_place image function Fly s m from to operands (does.PushBig h.0) a h.2)
  literal_steps tree.nullptr s m budget from to operands a h = puts image function Fly s m budget from to operands operands null values.Null a refl h.next (at_place image function Fly s m from to operands does.PushNull a h)

  -- the place of a global
  global_steps : (index : ℕ) (s : source.State) (m : State) (budget from to : ℕ) (operands : List Value) → Agrees function s m → Has image function from (does.Global index) to
      → PutsValue image function Fly s m budget from to operands operands (gives (object_place (index + 1)) (record s { budget = budget }))
  unfolding gives
  global_steps index s m budget from to operands a h =
      puts image function Fly s m budget from to operands operands (object_place (index + 1)) (values.Address (index + 1) 0) a refl h.next (at_place image function Fly s m from to operands (does.Global index) a h)

  -- what a name denotes stands in its slot
  variable_steps : (slot : ℕ) (s : source.State) (m : State) (budget from to : ℕ) (operands : List Value) → Agrees function s m → Has image function from (does.Get slot) to
      → PutsValue image function Fly s m budget from to operands operands (named slot (record s { budget = budget }))
  unfolding either gives ends throws current_frame
  variable_steps slot s m budget from to operands a h = by_name (denoted s.frame.variables slot) refl
    where
      by_name : (r : Option store.Value) → denoted s.frame.variables slot ≡ r → PutsValue image function Fly s m budget from to operands operands (some r (record s { budget = budget }))
      by_name None e = λ other. absurd (other refl)
      by_name (Some v) e =
          let w = a.same_names slot v e in
          puts image function Fly s m budget from to operands operands v w.0 a w.2 h.next
          (at_place image function Fly s m from to operands (does.Get slot) a h ∙ ap (λ r. progress image (on_slot r (λ value. next (running_at m from operands) (value ∷ operands)))) w.1)

  unary_follows : (operator : UnaryOperator) (type : IntegerType) (part : Does store.Value) (from mid to : ℕ) → HasSome image function mid (unary_operation operator type) to → Valued image function Fly of_operand part from mid
      → Valued image function Fly of_expression (either part (λ x. either spend (λ _. unary_operated operator type x) throws) throws) from to
  unary_follows operator type part from mid to h follows n operands =
      let o = has_some image function mid to (unary_operation operator type) h in
      value_then image function Fly fly_on of_operand (account 31 0 0) of_expression part (λ x. either spend (λ _. unary_operated operator type x) throws) from mid (λ s m. Gives function to operands s m)
      (record { goes_on = omega arith; left_first = omega arith; left_second = omega arith; in_hand = omega arith })
      (gives_on function to operands) follows operands
      (λ v w is k s m a told. unit_follows image function Fly fly_on (unary_operated operator type v) mid to (w ∷ operands) operands k s m told
      (λ budget. unary_steps image function Fly operator type o.0 s m budget mid to operands v w a o.2 o.1 is)) n

  binary_follows : (operator : BinaryOperator) (type : IntegerType) (left right : Does store.Value) (from p q to : ℕ) → HasSome image function q (binary_operation operator type) to
      → Valued image function Fly of_operand left from p → Valued image function Fly of_operand right p q
      → Valued image function Fly of_expression (either left (λ x. either right (λ y. either spend (λ _. operated operator type x y) throws) throws) throws) from to
  binary_follows operator type left right from p q to h first second n operands =
      let o = has_some image function q to (binary_operation operator type) h in
      value_then image function Fly fly_on of_operand (account 40 0 0) of_expression left (λ x. either right (λ y. either spend (λ _. operated operator type x y) throws) throws) from p (λ s m. Gives function to operands s m)
      (record { goes_on = omega arith; left_first = omega arith; left_second = omega arith; in_hand = omega arith })
      (gives_on function to operands) first operands
      (λ x v same_x. value_then image function Fly fly_on of_operand (account 31 0 0) (account 40 0 0) right (λ y. either spend (λ _. operated operator type x y) throws) p q (λ s m. Gives function to operands s m)
      (record { goes_on = omega arith; left_first = omega arith; left_second = omega arith; in_hand = omega arith })
      (gives_on function to operands) second (v ∷ operands)
      (λ y w same_y k s m a told. unit_follows image function Fly fly_on (operated operator type x y) q to (w ∷ v ∷ operands) operands k s m told
      (λ budget. binary_steps image function Fly o.0 s m budget q to operands a o.2 operator type x y v w same_x same_y o.1))) n

  putchar_follows : (part : Does store.Value) (from p q to : ℕ) → operation_at image function p ≡ Some (does.Jump q) → Has image function q does.Out to → Valued image function Fly of_operand part from p
      → Valued image function Fly of_expression (putchar_call part) from to
  putchar_follows part from p q to jumps outs follows n operands =
      value_then image function Fly fly_on of_operand (account 31 0 1) of_expression part (λ v. either (some (number_of v)) (λ n. either spend (λ _. either (write_bytes (byte_of n ∷ [])) (λ _. gives (number (pos (byte_of n)))) throws) throws) throws) from p (λ s m. Gives function to operands s m)
      (record { goes_on = omega arith; left_first = omega arith; left_second = omega arith; in_hand = omega arith })
      (gives_on function to operands) follows operands (writes image function Fly p q to jumps outs operands) n

  converted_follows : (read : Option ObjectType) (conversion : Option IntegerType) (part : Does store.Value) (from p q to : ℕ) → StandsRead image function read p q → StandsConversion image function conversion q to
      → Valued image function Fly of_expression part from p
      → Valued image function Fly of_operand (either (either part (read_as read) throws) (converted_to conversion) throws) from to
  converted_follows read conversion part from p q to reads converts follows n operands =
      value_then image function Fly fly_on (account 14 0 0) (account 0 1 1) of_operand (either part (read_as read) throws) (converted_to conversion) from q (λ s m. Gives function to operands s m)
      (record { goes_on = omega arith; left_first = omega arith; left_second = omega arith; in_hand = omega arith })
      (gives_on function to operands)
      (λ k below. value_then image function Fly fly_on of_expression (account 0 2 2) (account 14 0 0) part (read_as read) from p (λ s m. Gives function q below s m)
      (record { goes_on = omega arith; left_first = omega arith; left_second = omega arith; in_hand = omega arith })
      (gives_on function q below) follows below (read_follows image function Fly read p q below reads) k)
      operands (conversion_follows image function Fly conversion q to operands converts) n

  module _ (program : Program) (calls : Calls) where
    mutual
      unfolding expr StandsExpr

      pub expr_follows : (e : Expr) (from to : ℕ) → StandsExpr image function e from to → Valued image function Fly of_expression (expr program calls e) from to
      expr_follows (literal c) from to st = alone_follows image function Fly fly_on (gives (constant c)) from to (λ s m operands a budget. literal_steps c s m budget from to operands a st)
      expr_follows (variable slot) from to st = alone_follows image function Fly fly_on (named slot) from to (λ s m operands a budget. variable_steps slot s m budget from to operands a st)
      expr_follows (global index) from to st = alone_follows image function Fly fly_on (gives (object_place (index + 1))) from to (λ s m operands a budget. global_steps index s m budget from to operands a st)
      expr_follows (unary operator type a) from to st = unary_follows operator type (used program calls a) from st.0 to st.2 (used_follows a from st.0 st.1)
      expr_follows (binary operator type a b) from to st =
          binary_follows operator type (used program calls a) (used program calls b) from st.0 st.1 to st.4 (used_follows a from st.0 st.2) (used_follows b st.0 st.1 st.3)
      expr_follows (logical_and a b) from to st =
          and_follows image function Fly fly_on (used program calls a) (used program calls b) from st.0 st.1 st.2 st.3 st.4 st.5 to (used_follows a from st.0 st.6) st.7 (used_follows b st.2 st.3 st.9) st.10 st.11 st.8 st.12
      expr_follows (logical_or a b) from to st =
          or_follows image function Fly fly_on (used program calls a) (used program calls b) from st.0 st.1 st.2 st.3 st.4 st.5 to (used_follows a from st.0 st.6) st.7 (used_follows b st.2 st.3 st.9) st.10 st.11 st.8 st.12
      expr_follows (conditional a b c) from to st =
          conditional_follows image function Fly fly_on (used program calls a) (used program calls b) (used program calls c) from st.0 st.1 st.2 st.3 st.4 to
          (used_follows a from st.0 st.5) st.6 st.7 (used_follows b st.2 st.3 st.8) st.9 (used_follows c st.4 to st.10)
      expr_follows (cast a) from to st = cast_follows image function Fly fly_on (used program calls a) from st.0 to (used_follows a from st.0 st.1) st.2
      expr_follows (indirection a) from to st = indirection_follows image function Fly fly_on st.0 st.1 st.2 st.3 to st.5 st.6 st.7 st.8 (used program calls a) from (used_follows a from st.0 st.4)
      expr_follows (putchar a) from to st = putchar_follows (used program calls a) from st.0 st.1 to st.3 st.4 (used_follows a from st.0 st.2)
      expr_follows getchar from to st = alone_follows image function Fly fly_on next_byte from to (λ s m operands a budget. read_steps image function Fly s m budget from to operands a st)
      expr_follows e from to st = absurd st

      pub used_follows : (a : Operand) (from to : ℕ) → StandsOperand image function a from to → Valued image function Fly of_operand (used program calls a) from to
      used_follows (operand read conversion e) from to st =
          converted_follows read conversion (expr program calls e) from st.0 st.1 to st.3 st.4 (expr_follows e from st.0 st.2)
