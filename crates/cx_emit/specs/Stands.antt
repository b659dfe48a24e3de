-- Which code stands for an expression: a relation between a tree and the places where its code begins and where it goes on, by recursion on the tree. This is this project's own.
use Rattle.std.specs.Prelude.{◌≡◌, ◌⊎◌, ℕ, pos, Option, Some, None}
use Rattle.cx_code.specs.declared.image.Image.{Image}
use Rattle.cx_code.specs.declared.operation.Operation.{Operation}
use Rattle.cx_code.specs.declared.operation.Operation.TheVariants as does
use Rattle.cx_code.specs.declared.operation.Scalar.TheVariants as scalars
use Rattle.cx_core.specs.declared.number.IntegerType.{IntegerType}
use Rattle.cx_core.specs.declared.number.IntegerType.TheVariants as types
use Rattle.cx_core.specs.Operators.{integer_of}
use Rattle.cx_core.specs.Tree.{ObjectType, scalar, pointer, function_pointer, class, Constant, number, nullptr, Expr, literal, variable, global, unary, binary, logical_and, logical_or, conditional, cast, indirection, putchar, getchar, Operand, operand}
use Rattle.cx_emit.specs.Configuration.{operation_at, Has}
use Rattle.cx_emit.specs.Operations.{scalar_of, unary_operation, binary_operation}

module _ (image : Image) (function : ℕ) where
  -- the instruction that there is for it
  abbrev pub HasSome : ℕ → Option Operation → ℕ → Type 0
  HasSome from None to = ⊥
  HasSome from (Some operation) to = Has image function from operation to

  -- a number of 2^63 or more has an instruction of its own
  abbrev pub StandsConstant : Constant → ℕ → ℕ → Type 0
  StandsConstant (number n) from to = Has image function from (does.Push n) to ⊎ ((k : ℕ) × (n ≡ pos k) × Has image function from (does.PushBig k) to)
  StandsConstant nullptr from to = Has image function from does.PushNull to

  -- a number of the greatest type may stand in a leaf less 2^64; an object of an enumeration is read by a handler alone
  abbrev pub StandsNumberLoad : Option IntegerType → ℕ → ℕ → Type 0
  StandsNumberLoad None from to = ⊥
  StandsNumberLoad (Some types.UnsignedLongLong) from to = (mid : ℕ) × Has image function from does.Load mid × Has image function mid (does.Convert scalars.UnsignedLongLong) to
  StandsNumberLoad (Some type) from to = Has image function from does.Load to

  abbrev pub StandsLoad : ObjectType → ℕ → ℕ → Type 0
  StandsLoad (scalar s) from to = StandsNumberLoad (integer_of s) from to
  StandsLoad (pointer t) from to = Has image function from does.Load to
  StandsLoad (function_pointer t) from to = ⊥
  StandsLoad (class index) from to = ⊥

  abbrev pub StandsRead : Option ObjectType → ℕ → ℕ → Type 0
  StandsRead None from to = to ≡ from
  StandsRead (Some type) from to = StandsLoad type from to

  abbrev pub StandsConversion : Option IntegerType → ℕ → ℕ → Type 0
  StandsConversion None from to = to ≡ from
  StandsConversion (Some type) from to = Has image function from (does.Convert (scalar_of type)) to

  unfoldable mutual
    -- from the one place the code evaluates the expression, and goes on at the other; none does for a form that isn't here
    pub StandsExpr : Expr → ℕ → ℕ → Type 0
    StandsExpr (literal c) from to = StandsConstant c from to
    StandsExpr (variable slot) from to = Has image function from (does.Get slot) to
    StandsExpr (global index) from to = Has image function from (does.Global index) to
    StandsExpr (unary operator type a) from to = (p : ℕ) × StandsOperand a from p × HasSome p (unary_operation operator type) to
    StandsExpr (binary operator type a b) from to = (p q : ℕ) × StandsOperand a from p × StandsOperand b p q × HasSome q (binary_operation operator type) to
    -- the jump by the left operand's truth stands for the unit
    StandsExpr (logical_and a b) from to =
        (p q r s t other : ℕ) × StandsOperand a from p × Has image function p (does.Convert scalars.Bool) q × Has image function q (does.JumpZero other) r
        × StandsOperand b r s × Has image function s (does.Convert scalars.Bool) t × (operation_at image function t ≡ Some (does.Jump to)) × Has image function other (does.Push (pos 0)) to
    StandsExpr (logical_or a b) from to =
        (p q r s t other : ℕ) × StandsOperand a from p × Has image function p (does.Convert scalars.Bool) q × Has image function q (does.JumpNonzero other) r
        × StandsOperand b r s × Has image function s (does.Convert scalars.Bool) t × (operation_at image function t ≡ Some (does.Jump to)) × Has image function other (does.Push (pos 1)) to
    StandsExpr (conditional a b c) from to =
        (p q r s other : ℕ) × StandsOperand a from p × Has image function p (does.Convert scalars.Bool) q × Has image function q (does.JumpZero other) r
        × StandsOperand b r s × (operation_at image function s ≡ Some (does.Jump to)) × StandsOperand c other to
    -- a jump to the next place stands for the unit
    StandsExpr (cast a) from to = (p : ℕ) × StandsOperand a from p × (operation_at image function p ≡ Some (does.Jump to))
    -- the place that a pointer points to; a null pointer is read, which is undefined
    StandsExpr (indirection a) from to =
        (p q r s : ℕ) × StandsOperand a from p × Has image function p does.Duplicate q × Has image function q (does.Convert scalars.Bool) r × Has image function r (does.JumpNonzero to) s
        × (operation_at image function s ≡ Some does.Load)
    -- two units, of which the jump to the next place stands for the one
    StandsExpr (putchar a) from to = (p q : ℕ) × StandsOperand a from p × (operation_at image function p ≡ Some (does.Jump q)) × Has image function q does.Out to
    StandsExpr getchar from to = Has image function from does.In to
    StandsExpr other from to = ⊥

    pub StandsOperand : Operand → ℕ → ℕ → Type 0
    StandsOperand (operand read conversion e) from to = (p q : ℕ) × StandsExpr e from p × StandsRead read p q × StandsConversion conversion q to
