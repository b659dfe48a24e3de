-- An object file as it is read from the left: the fields in their order, with the first fault; the format is this project's own.
use Rattle.std.specs.Prelude.{ℕ, zero, suc, List, length, Result}
use Rattle.cx_code.specs.declared.object.Object.{Object}
use Rattle.cx_code.specs.declared.object.UnitType.{UnitType}
use Rattle.cx_code.specs.declared.object.UnitGlobal.{UnitGlobal}
use Rattle.cx_code.specs.declared.object.GlobalState.{GlobalState}
use Rattle.cx_code.specs.declared.object.GlobalState.TheVariants as states
use Rattle.cx_code.specs.declared.object.UnitFunction.{UnitFunction}
use Rattle.cx_code.specs.declared.object.FunctionForm.{FunctionForm}
use Rattle.cx_code.specs.declared.object.FunctionForm.TheVariants as forms
use Rattle.cx_code.specs.declared.object.FunctionBody.{FunctionBody}
use Rattle.cx_code.specs.ObjectStorable.{instruction_count}
use Rattle.cx_fields.specs.declared.bounds.Bounds.{Bounds}
use Rattle.cx_fields.specs.declared.fault.BytesFault.{BytesFault}
use Rattle.cx_fields.specs.declared.fault.Why.TheVariants.{Limit, Range, Index}
use Rattle.cx_fields.specs.Reading.{Reading, ◌>>=◌, give, byte_in, number_in, zero_at, flag_at, text_at, head_at, each_at, list_at}
use Rattle.cx_fields.specs.Parts.{bounds_of, code_at, region_at, initial_at, assertions_at, whole_of}

unfoldable pub type_at : Bounds → Reading UnitType
type_at bounds = do
  name ← text_at
  definition ← text_at
  leaves ← number_in 1 257 Range
  dropper ← number_in 0 bounds.functions_or_none Index
  give (record { name = name; definition = definition; leaves = leaves; dropper = dropper })

-- the sort and the halves of a global that the unit doesn't define
unfoldable pub no_value_at : Reading ℕ
no_value_at = do
  sort ← byte_in 0 1 Range
  high ← zero_at
  zero_at

unfoldable pub state_at : ℕ → Reading GlobalState
state_at zero = do
  nothing ← no_value_at
  give states.Named
state_at (suc zero) = do
  value ← initial_at
  give (states.Defined value)
state_at (suc (suc defined)) = do
  nothing ← no_value_at
  give states.Declared

unfoldable pub global_at : Reading UnitGlobal
global_at = do
  name ← text_at
  type_name ← text_at
  defined ← byte_in 0 3 Range
  state ← state_at defined
  give (record { name = name; type_name = type_name; state = state })

-- room is the first count of instructions that passes the limit of the file
unfoldable pub body_at : Bounds → ℕ → Reading FunctionBody
body_at bounds room = do
  counted ← flag_at
  parameters ← number_in 0 8193 Range
  slots ← number_in parameters 8193 Range
  result ← flag_at
  code ← code_at bounds room
  regions ← list_at (region_at bounds)
  give (record { counted = counted; parameters = parameters; slots = slots; result = result; code = code; regions = regions })

-- the same fields of a function that has no body: each is zero
unfoldable pub no_body_at : Reading ℕ
no_body_at = do
  counted ← byte_in 0 1 Range
  parameters ← zero_at
  slots ← zero_at
  result ← byte_in 0 1 Range
  code ← zero_at
  zero_at

-- from the body text on, by the sort; a body text that must be empty has its length alone
unfoldable pub form_at : Bounds → ℕ → ℕ → Reading FunctionForm
form_at bounds room zero = do
  tokens ← zero_at
  nothing ← no_body_at
  give forms.Needed
form_at bounds room (suc zero) = do
  tokens ← zero_at
  body ← body_at bounds room
  give (forms.Defined body)
form_at bounds room (suc (suc zero)) = do
  tokens ← text_at
  body ← body_at bounds room
  give (forms.Inline tokens body)
form_at bounds room (suc (suc (suc zero))) = do
  tokens ← zero_at
  body ← body_at bounds room
  give (forms.Helper body)
form_at bounds room (suc (suc (suc (suc sort)))) = do
  tokens ← zero_at
  nothing ← no_body_at
  give forms.Declared

unfoldable pub function_at : Bounds → ℕ → Reading UnitFunction
function_at bounds room = do
  name ← text_at
  sort ← byte_in 0 5 Range
  signature ← text_at
  specifiers ← text_at
  form ← form_at bounds room sort
  give (record { name = name; signature = signature; specifiers = specifiers; form = form })

abbrev pub code_length : UnitFunction → ℕ
code_length function = instruction_count function.form

unfoldable pub functions_at : Bounds → Reading (List UnitFunction)
functions_at bounds = do
  count ← number_in 0 262145 Limit
  each_at code_length (function_at bounds) 8388609 count

-- the word of the format is `CXOB`
unfoldable pub object_at : Bounds → Reading Object
object_at bounds = do
  version ← head_at 1129860930
  unit ← text_at
  texts ← list_at text_at
  types ← list_at (type_at bounds)
  globals ← list_at global_at
  functions ← functions_at bounds
  assertions ← assertions_at bounds
  give (record { unit = unit; texts = texts; types = types; globals = globals; functions = functions; assertions = assertions })

abbrev pub tables_of : Object → Bounds
tables_of object = bounds_of (length object.texts) (length object.types) (length object.globals) (length object.functions) (length object.assertions)

-- the object that the bytes of a file are, or the first fault
abbrev pub read_object : List ℕ → Result Object BytesFault
read_object bytes = whole_of object_at tables_of bytes
