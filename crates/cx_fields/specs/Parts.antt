-- The parts that image files and object files share, in the order of their fields; the formats are this project's own.
use Rattle.std.specs.Prelude.{ℕ, zero, suc, ◌+◌, ◌^◌, ◌==◌, ◌||◌, List, if◌then◌else◌, Result}
use Rattle.cx_code.specs.declared.code.Instruction.{Instruction}
use Rattle.cx_code.specs.declared.code.Region.{Region}
use Rattle.cx_code.specs.declared.image.Initial.{Initial}
use Rattle.cx_code.specs.declared.image.Initial.TheVariants as initials
use Rattle.cx_code.specs.declared.image.Assertion.{Assertion}
use Rattle.cx_code.specs.declared.image.AssertionKind.{AssertionKind}
use Rattle.cx_code.specs.declared.image.AssertionKind.TheVariants as kinds
use Rattle.cx_fields.specs.declared.bounds.Bounds.{Bounds}
use Rattle.cx_fields.specs.declared.fault.BytesFault.{BytesFault}
use Rattle.cx_fields.specs.declared.fault.Why.TheVariants.{Limit, Range, Index}
use Rattle.cx_fields.specs.Reading.{Reading, continued, ◌>>=◌, give, ended, from_start, byte_at, number_at, byte_in, number_in, zero_at, many_at}

-- every number of 32 bits is within
abbrev pub unbounded : Bounds
unbounded = record {
  texts = 2 ^ 32;
  texts_or_none = 2 ^ 32;
  types = 2 ^ 32;
  types_or_none = 2 ^ 32;
  globals = 2 ^ 32;
  functions = 2 ^ 32;
  functions_or_none = 2 ^ 32;
  assertions = 2 ^ 32;
}

-- the indices of tables of these lengths; where there may be none, the index is by 1 more
abbrev pub bounds_of : (texts types globals functions assertions : ℕ) → Bounds
bounds_of texts types globals functions assertions = record {
  texts = texts;
  texts_or_none = texts + 1;
  types = types;
  types_or_none = types + 1;
  globals = globals;
  functions = functions;
  functions_or_none = functions + 1;
  assertions = assertions;
}

-- what an instruction's first number must be below, where it is an index: of `call`, `global`, `text_at`, `begin`, `verdict`, `violate`, `throw`, `destroyed`
abbrev pub operand_end : Bounds → ℕ → ℕ
operand_end bounds code =
    if code == 38 then bounds.functions else
    if code == 40 then bounds.globals else
    if code == 43 then bounds.texts_or_none else
    if code == 44 || code == 45 || code == 46 then bounds.assertions else
    if code == 49 || code == 54 then bounds.types else 2 ^ 32

unfoldable pub instruction_at : Bounds → Reading Instruction
instruction_at bounds = do
  code ← byte_at
  a ← number_in 0 (operand_end bounds code) Index
  b ← number_at
  give (record { code = code; a = a; b = b })

-- the instructions of a function; room is the first count of them that passes the limit of the file
unfoldable pub code_at : Bounds → ℕ → Reading (List Instruction)
code_at bounds room = do
  count ← number_in 0 room Limit
  many_at (instruction_at bounds) count

-- the end of the types that a region may catch
abbrev pub caught_end : Bounds → ℕ → ℕ
caught_end bounds kind = if kind == 2 then bounds.types_or_none else 2 ^ 32

unfoldable pub region_at : Bounds → Reading Region
region_at bounds = do
  start ← number_at
  end ← number_at
  kind ← byte_in 1 5 Range
  of ← number_in 0 (caught_end bounds kind) Index
  target ← number_at
  depth ← number_at
  give (record { start = start; end = end; kind = kind; of = of; target = target; depth = depth })

unfoldable pub value_at : ℕ → Reading Initial
value_at zero = do
  high ← number_at
  low ← number_at
  give (initials.Number high low)
value_at (suc sort) = do
  high ← zero_at
  low ← zero_at
  give initials.Null

unfoldable pub initial_at : Reading Initial
initial_at = do
  sort ← byte_in 0 2 Range
  value_at sort

abbrev pub kind_of : ℕ → AssertionKind
kind_of code = if code == 1 then kinds.Pre else if code == 2 then kinds.Post else kinds.Assert

unfoldable pub assertion_at : Bounds → Reading Assertion
assertion_at bounds = do
  function ← number_in 0 bounds.functions Index
  kind ← byte_in 1 4 Range
  ordinal ← number_in 1 (2 ^ 32) Range
  file ← number_in 0 bounds.texts Index
  comment ← number_in 0 bounds.texts Index
  line ← number_at
  column ← number_at
  give (record { function = function; kind = kind_of kind; ordinal = ordinal; file = file; comment = comment; line = line; column = column })

unfoldable pub assertions_at : Bounds → Reading (List Assertion)
assertions_at bounds = do
  count ← number_in 0 4097 Limit
  many_at (assertion_at bounds) count

-- A whole file. Indices are judged after the last field, at the first such field: so the file is read with no bounds, and then again with those of the tables that were read.
unfoldable pub whole_of : {A : Type 0} → (Bounds → Reading A) → (A → Bounds) → List ℕ → Result A BytesFault
whole_of file tables bytes = ended (continued (file unbounded (from_start bytes)) (λ value rest. file (tables value) (from_start bytes)))
