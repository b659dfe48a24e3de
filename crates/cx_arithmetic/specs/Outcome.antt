-- This defines how a result of Rust says what an operator of the machine gives; it is this project's own.
use Rattle.std.specs.Prelude.{ℤ, Result, Ok, Err}
use Rattle.cx_code.specs.declared.run.Kind.{Kind}
use Rattle.cx_code.specs.Arithmetic.{Computed, Gives, Fails}

abbrev pub outcome : Result ℤ Kind → Computed
outcome (Ok number) = Gives number
outcome (Err kind) = Fails kind
