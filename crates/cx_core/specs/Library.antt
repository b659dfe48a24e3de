-- The library functions that the profile has, and what a handler asks of its violation: [cstdio.syn] and [support.contract.violation], with this project's own bytes, numbers and value of `puts`.
use Rattle.std.specs.Prelude.{ℕ, List, [], ◌∷◌, ◌++◌, Option, Some, None, ℤ, pos, negsuc, nat_eq, unsigned_abs}
use Rattle.std.specs.Int.{int_rem_euclid}
use Rattle.std.specs.List.{before_first}
use Rattle.cx_core.specs.declared.number.Query.{Query}
use Rattle.cx_core.specs.declared.number.Query.TheVariants as queries
use Rattle.cx_core.specs.Words.{AssertionKind, Pre, Post, Assert, DetectionMode, PredicateFalse, EvaluationException, Violation}
use Rattle.cx_core.specs.Store.{Value, number, violation}
use Rattle.cx_core.specs.Event.{out, input, input_end, semantic_number}
use Rattle.cx_core.specs.Outcome.{State, Outcome, on, Does, Nothing, ◌>>=◌, ◌>>◌, gives, skip, some, append, spend, spend_all}
use Rattle.cx_core.specs.Operators.{number_of}

abbrev pub write_bytes : List ℕ → Does Nothing
write_bytes [] = skip
write_bytes (b ∷ bytes) = spend >> append (out b) >> write_bytes bytes

abbrev pub byte_of : ℤ → ℕ
byte_of n = unsigned_abs (int_rem_euclid n (pos 256))

abbrev pub putchar_call : Does Value → Does Value
putchar_call m = do
  v ← m
  n ← some (number_of v)
  spend
  write_bytes (byte_of n ∷ [])
  gives (number (pos (byte_of n)))

abbrev pub read_byte : List ℕ → State → Outcome Value
read_byte [] s = on (number (negsuc 0)) (record s { trace = input_end ∷ s.trace })
read_byte (b ∷ bytes) s = on (number (pos b)) (record s { input = bytes; trace = input b ∷ s.trace })

unfoldable pub next_byte : Does Value
next_byte = λ s. read_byte s.input s

abbrev pub getchar_call : Does Value
getchar_call = spend >> next_byte

-- the bytes before the first 0, then a newline
abbrev pub puts_bytes : List ℕ → Does Value
puts_bytes text = do
  spend
  write_bytes (before_first (nat_eq 0) text ++ 10 ∷ [])
  gives (number (pos 0))

-- the text is a literal
abbrev pub puts_call : List ℕ → Does Value
puts_call text = spend >> puts_bytes text

-- ---- of a violation

abbrev pub kind_number : AssertionKind → ℕ
kind_number Pre = 1
kind_number Post = 2
kind_number Assert = 3

abbrev pub mode_number : DetectionMode → ℕ
mode_number PredicateFalse = 1
mode_number EvaluationException = 2

abbrev pub told_number : Query → Violation → ℕ
told_number queries.Kind v = kind_number v.kind
told_number queries.Semantic v = semantic_number v.semantic
told_number queries.DetectionMode v = mode_number v.mode
told_number queries.Line v = v.line
told_number queries.Column v = v.column

-- an operator `.` and a call each, and two of each behind `location()`
abbrev pub query_units : Query → ℕ
query_units queries.Kind = 2
query_units queries.Semantic = 2
query_units queries.DetectionMode = 2
query_units queries.Line = 4
query_units queries.Column = 4

abbrev pub violation_in : Value → Option Violation
violation_in (violation v) = Some v
violation_in other = None

abbrev pub query_call : Query → Does Value → Does Value
query_call query m = do
  report ← m
  v ← some (violation_in report)
  spend_all (query_units query)
  gives (number (pos (told_number query v)))

-- `puts(v.comment())`
abbrev pub puts_comment_call : Does Value → Does Value
puts_comment_call m = do
  report ← m
  v ← some (violation_in report)
  spend_all 2
  puts_bytes v.comment
