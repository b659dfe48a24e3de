-- An image file as it is read from the left: the fields in their order, with the first fault; the format is this project's own.
use Rattle.std.specs.Prelude.{ℕ, List, length, Result}
use Rattle.cx_code.specs.declared.image.Image.{Image}
use Rattle.cx_code.specs.declared.image.TypeEntry.{TypeEntry}
use Rattle.cx_code.specs.declared.image.GlobalEntry.{GlobalEntry}
use Rattle.cx_code.specs.declared.image.Function.{Function}
use Rattle.cx_fields.specs.declared.bounds.Bounds.{Bounds}
use Rattle.cx_fields.specs.declared.fault.BytesFault.{BytesFault}
use Rattle.cx_fields.specs.declared.fault.Why.TheVariants.{Limit, Range, Index}
use Rattle.cx_fields.specs.Reading.{Reading, ◌>>=◌, give, number_in, flag_at, text_at, head_at, each_at, list_at}
use Rattle.cx_fields.specs.Parts.{unbounded, bounds_of, code_at, region_at, initial_at, assertions_at, whole_of}

unfoldable pub type_at : Bounds → Reading TypeEntry
type_at bounds = do
  name ← text_at
  leaves ← number_in 1 257 Range
  dropper ← number_in 0 bounds.functions_or_none Index
  give (record { name = name; leaves = leaves; dropper = dropper })

unfoldable pub global_at : Reading GlobalEntry
global_at = do
  name ← text_at
  initial ← initial_at
  give (record { name = name; initial = initial })

-- room is the first count of instructions that passes the limit of the file; the rules of the machine, and not the format, judge the indices in code and regions
unfoldable pub function_at : ℕ → Reading Function
function_at room = do
  name ← text_at
  counted ← flag_at
  parameters ← number_in 0 8193 Range
  slots ← number_in parameters 8193 Range
  result ← flag_at
  code ← code_at unbounded room
  regions ← list_at (region_at unbounded)
  give (record { name = name; counted = counted; parameters = parameters; slots = slots; result = result; code = code; regions = regions })

abbrev pub code_length : Function → ℕ
code_length function = length function.code

unfoldable pub functions_at : Reading (List Function)
functions_at = do
  count ← number_in 0 262145 Limit
  each_at code_length function_at 8388609 count

-- the word of the format is `CXIM`
unfoldable pub image_at : Bounds → Reading Image
image_at bounds = do
  version ← head_at 1129859405
  texts ← list_at text_at
  types ← list_at (type_at bounds)
  globals ← list_at global_at
  functions ← functions_at
  assertions ← assertions_at bounds
  main ← number_in 0 bounds.functions Index
  handler ← number_in 0 bounds.functions_or_none Index
  give (record { texts = texts; types = types; globals = globals; functions = functions; assertions = assertions; main = main; handler = handler })

abbrev pub tables_of : Image → Bounds
tables_of image = bounds_of (length image.texts) (length image.types) (length image.globals) (length image.functions) (length image.assertions)

-- the image that the bytes of a file are, or the first fault
abbrev pub read_image : List ℕ → Result Image BytesFault
read_image bytes = whole_of image_at tables_of bytes
