-- The image of a unit of `main` alone: its texts, its assertions and its two functions. This is this project's own.
use Rattle.std.specs.Prelude.{ℕ, ◌+◌, List, [], ◌∷◌, ◌++◌, map, length, true, false, codes, if◌then◌else◌}
use Rattle.std.specs.Str.{bytes_eq}
use Rattle.cx_code.specs.declared.image.Image.{Image}
use Rattle.cx_code.specs.declared.code.Instruction.{Instruction}
use Rattle.cx_code.specs.declared.image.Function.{Function}
use Rattle.cx_code.specs.declared.image.Assertion as entry
use Rattle.cx_code.specs.declared.image.AssertionKind.TheVariants as kinds
use Rattle.cx_core.specs.declared.unit.CoreUnit.{CoreUnit}
use Rattle.cx_core.specs.declared.unit.Assertion.{Assertion}
use Rattle.cx_core.specs.Tree.{Operand, Check, Stmts}
use Rattle.cx_core.specs.Linked.{number_in}
use Rattle.cx_lower.specs.Code.{call, returns, check_code, stmts_most, body_code}

-- ---- texts

abbrev pub comments_of : List Assertion → List (List ℕ)
comments_of assertions = map (λ (a : Assertion). a.comment) assertions

-- the names of the files of assertions that stand in an included file
abbrev pub other_files : (name : List ℕ) → List Assertion → List (List ℕ)
other_files name [] = []
other_files name (a ∷ assertions) = if bytes_eq a.file name then other_files name assertions else a.file ∷ other_files name assertions

-- the unit's name, the assertions' comments, and the names of other files
abbrev pub texts_of : (name : List ℕ) → List Assertion → List (List ℕ)
texts_of name assertions = name ∷ (comments_of assertions ++ other_files name assertions)

-- ---- assertions

-- an assertion of `main`, by the text that names its file and its ordinal, which is that of its comment too
abbrev pub entry_of : (file ordinal : ℕ) → Assertion → entry.Assertion
entry_of file ordinal a = record { function = 0; kind = kinds.Assert; ordinal = ordinal; file = file; comment = ordinal; line = a.line; column = a.column }

-- those from this ordinal on; `other` is the text that has the next name of another file
abbrev pub entries_of : (name : List ℕ) → (other ordinal : ℕ) → List Assertion → List entry.Assertion
entries_of name other ordinal [] = []
entries_of name other ordinal (a ∷ assertions) =
    if bytes_eq a.file name then entry_of 0 ordinal a ∷ entries_of name other (ordinal + 1) assertions
    else entry_of other ordinal a ∷ entries_of name (other + 1) (ordinal + 1) assertions

-- the place of an assertion, by its name
abbrev pub index_of : List Assertion → List ℕ → ℕ
index_of assertions name = number_in (map (λ (a : Assertion). a.name) assertions) name

-- ---- functions

-- `main`, which counts for the depth of calls, calls the function with its body
abbrev pub main_function : Function
main_function = record { name = codes "main"; counted = true; parameters = 0; slots = 0; result = true; code = call 1 ∷ returns ∷ []; regions = [] }

abbrev pub body_function : {A : Type 0} → (asserted : ℕ → A → Operand → List Instruction) → Stmts A → Function
body_function asserted b = record { name = codes "main!"; counted = false; parameters = 0; slots = stmts_most 0 b; result = true; code = body_code asserted b; regions = [] }

-- with this code of assertions
unfoldable pub image_with : {A : Type 0} → (asserted : ℕ → A → Operand → List Instruction) → CoreUnit → Stmts A → Image
image_with asserted unit b = record {
  texts = texts_of unit.name unit.assertions;
  types = [];
  globals = [];
  functions = main_function ∷ body_function asserted b ∷ [];
  assertions = entries_of unit.name (length unit.assertions + 1) 1 unit.assertions;
  main = 0;
  handler = 0;
}

-- the image that stands for statements of the unit's program
abbrev pub image_of : CoreUnit → Stmts Check → Image
image_of unit b = image_with (check_code (index_of unit.assertions)) unit b
