-- The instructions that stand for the operators of the source and its conversions: this project's own.
use Rattle.std.specs.Prelude.{Option, Some, None}
use Rattle.cx_code.specs.declared.operation.Operation.{Operation}
use Rattle.cx_code.specs.declared.operation.Operation.TheVariants as does
use Rattle.cx_code.specs.declared.operation.Scalar.{Scalar}
use Rattle.cx_code.specs.declared.operation.Scalar.TheVariants as scalars
use Rattle.cx_core.specs.declared.number.IntegerType.{IntegerType}
use Rattle.cx_core.specs.declared.number.IntegerType.TheVariants as types
use Rattle.cx_core.specs.declared.number.BinaryOperator.{BinaryOperator}
use Rattle.cx_core.specs.declared.number.BinaryOperator.TheVariants as binary
use Rattle.cx_core.specs.declared.number.UnaryOperator.{UnaryOperator}
use Rattle.cx_core.specs.declared.number.UnaryOperator.TheVariants as unary

-- the machine's type for a type of the source
abbrev pub scalar_of : IntegerType → Scalar
scalar_of types.Bool = scalars.Bool
scalar_of types.Char = scalars.Char
scalar_of types.Int = scalars.Int
scalar_of types.Unsigned = scalars.Unsigned
scalar_of types.LongLong = scalars.LongLong
scalar_of types.UnsignedLongLong = scalars.UnsignedLongLong

-- nothing is computed in `bool`, which integral promotion makes `int`
abbrev pub computing : IntegerType → Operation → Option Operation
computing types.Bool operation = None
computing type operation = Some operation

abbrev pub unary_operation : UnaryOperator → IntegerType → Option Operation
unary_operation unary.Minus type = computing type (does.Negate (scalar_of type))
unary_operation unary.Not type = Some (does.Not (scalar_of type))
unary_operation unary.Complement type = computing type (does.Complement (scalar_of type))

-- a comparison is of any two numbers, and of equality also of two pointers
abbrev pub binary_operation : BinaryOperator → IntegerType → Option Operation
binary_operation binary.Multiply type = computing type (does.Multiply (scalar_of type))
binary_operation binary.Divide type = computing type (does.Divide (scalar_of type))
binary_operation binary.Remainder type = computing type (does.Remainder (scalar_of type))
binary_operation binary.Add type = computing type (does.Add (scalar_of type))
binary_operation binary.Subtract type = computing type (does.Subtract (scalar_of type))
binary_operation binary.ShiftLeft type = computing type (does.ShiftLeft (scalar_of type))
binary_operation binary.ShiftRight type = computing type (does.ShiftRight (scalar_of type))
binary_operation binary.Less type = Some does.Less
binary_operation binary.Greater type = Some does.Greater
binary_operation binary.LessEqual type = Some does.LessOrEqual
binary_operation binary.GreaterEqual type = Some does.GreaterOrEqual
binary_operation binary.Equal type = Some does.Equal
binary_operation binary.NotEqual type = Some does.NotEqual
binary_operation binary.BitAnd type = computing type (does.BitAnd (scalar_of type))
binary_operation binary.BitXor type = computing type (does.BitXor (scalar_of type))
binary_operation binary.BitOr type = computing type (does.BitOr (scalar_of type))
