-- How the scalar types are written where a text names them, their tokens with one space between: this project's own, after the names of [basic.fundamental] and [contracts.syn].
use Rattle.std.specs.Prelude.{ℕ, List, Bool, codes, bytes_eq}
use Rattle.cx_types.specs.declared.value_type.Scalar.{Scalar}
use Rattle.cx_types.specs.declared.value_type.Scalar.TheVariants as scalars

abbrev pub scalar_name : Scalar → List ℕ
scalar_name scalars.Bool = codes "bool"
scalar_name scalars.Char = codes "char"
scalar_name scalars.Int = codes "int"
scalar_name scalars.Unsigned = codes "unsigned"
scalar_name scalars.LongLong = codes "long long"
scalar_name scalars.UnsignedLongLong = codes "unsigned long long"
scalar_name scalars.AssertionKind = codes "std :: contracts :: assertion_kind"
scalar_name scalars.EvaluationSemantic = codes "std :: contracts :: evaluation_semantic"
scalar_name scalars.DetectionMode = codes "std :: contracts :: detection_mode"
scalar_name scalars.Null = codes "nullptr"
scalar_name scalars.Literal = codes "literal"
scalar_name scalars.Location = codes "location"

-- no two scalar types are written alike
abbrev pub same_scalar : Scalar → Scalar → Bool
same_scalar a b = bytes_eq (scalar_name a) (scalar_name b)
