-- What the library functions do with a value, beside the evaluation of their operand; the rest of each definition is cx_core's.
use Rattle.std.specs.Prelude.{ℕ, List, [], ◌∷◌, ◌++◌, ℤ, pos, nat_eq}
use Rattle.std.specs.List.{before_first}
use Rattle.cx_core.specs.declared.number.Query.{Query}
use Rattle.cx_core.specs.Words.{Violation}
use Rattle.cx_core.specs.Store.{Value, Address, number}
use Rattle.cx_core.specs.declared.number.IntegerType.{IntegerType}
use Rattle.cx_core.specs.Event.{out}
use Rattle.cx_core.specs.Outcome.{Does, Nothing, ◌>>=◌, ◌>>◌, gives, some, append, spend, spend_all, read}
use Rattle.cx_core.specs.Operators.{number_of, of_type}
use Rattle.cx_core.specs.Library.{write_bytes, byte_of, query_units, told_number, violation_in, puts_bytes}

abbrev pub write_byte : ℕ → Does Nothing
write_byte b = spend >> append (out b)

abbrev pub number_in : Value → Does ℤ
number_in v = some (number_of v)

abbrev pub putchar_of : Value → Does Value
putchar_of v = do
  n ← some (number_of v)
  spend
  write_bytes (byte_of n ∷ [])
  gives (number (pos (byte_of n)))

-- the bytes before the first 0, and a newline
unfoldable pub write_line : List ℕ → Does Nothing
write_line text = write_bytes (before_first (nat_eq 0) text ++ 10 ∷ [])

abbrev pub violation_or_mixed : Value → Does Violation
violation_or_mixed v = some (violation_in v)

abbrev pub query_of : Query → Value → Does Value
query_of query report = do
  v ← some (violation_in report)
  spend_all (query_units query)
  gives (number (pos (told_number query v)))

abbrev pub puts_comment_of : Value → Does Value
puts_comment_of report = do
  v ← some (violation_in report)
  spend_all 2
  puts_bytes v.comment

-- the number of the type that stands at a place
abbrev pub number_at : IntegerType → Address → Does ℤ
number_at type a = read a >>= of_type type
