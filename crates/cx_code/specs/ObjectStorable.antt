-- This defines which objects a file can hold, by the ranges of their fields, the limits of the format and the indices into the object's tables; the format is this project's own.
use Rattle.std.specs.Prelude.{◌≡◌, ℕ, zero, suc, ◌+◌, ◌<◌, ◌≤◌, ◌^◌, ◌==◌, ◌||◌, if◌then◌else◌, List, [], length, sum_by, Option, Some, None, IfSome, ⊤}
use Rattle.std.specs.List.{All}
use Rattle.cx_code.specs.declared.code.Instruction.{Instruction}
use Rattle.cx_code.specs.declared.code.Region.{Region}
use Rattle.cx_code.specs.declared.image.Assertion.{Assertion}
use Rattle.cx_code.specs.declared.object.Object.{Object}
use Rattle.cx_code.specs.declared.object.UnitType.{UnitType}
use Rattle.cx_code.specs.declared.object.UnitGlobal.{UnitGlobal}
use Rattle.cx_code.specs.declared.object.UnitFunction.{UnitFunction}
use Rattle.cx_code.specs.declared.object.FunctionForm.{FunctionForm}
use Rattle.cx_code.specs.declared.object.FunctionForm.TheVariants as forms
use Rattle.cx_code.specs.declared.object.FunctionBody.{FunctionBody}
use Rattle.cx_code.specs.Storable.{IsShort, IsStorableRegion}
use Rattle.cx_code.specs.ObjectSpelling.{definition_text, object_spelling}

-- the code that the unit gives for a function
abbrev pub body_of : FunctionForm → Option FunctionBody
body_of forms.Needed = None
body_of (forms.Defined body) = Some body
body_of (forms.Inline tokens body) = Some body
body_of (forms.Helper body) = Some body
body_of forms.Declared = None

abbrev pub instruction_count : FunctionForm → ℕ
instruction_count forms.Needed = 0
instruction_count (forms.Defined body) = length body.code
instruction_count (forms.Inline tokens body) = length body.code
instruction_count (forms.Helper body) = length body.code
instruction_count forms.Declared = 0

-- what an instruction's first number must be below where it is an index into a table of the object: of `call`, `global`, `text_at` of a text by its index plus 1, `begin`, `verdict`, `violate`, `throw`, `destroyed`
abbrev pub index_bound : Object → ℕ → Option ℕ
index_bound object code =
    if code == 38 then Some (length object.functions) else
    if code == 40 then Some (length object.globals) else
    if code == 43 then Some (length object.texts + 1) else
    if code == 44 || code == 45 || code == 46 then Some (length object.assertions) else
    if code == 49 || code == 54 then Some (length object.types) else None

abbrev pub HasIndex : Object → Instruction → Type 0
HasIndex object i = IfSome (index_bound object i.code) (λ bound. i.a < bound)

-- a Catch region's type, by its index plus 1, or 0
abbrev pub HasCaught : Object → Region → Type 0
HasCaught object region = region.kind ≡ 2 → region.of ≤ length object.types

pub record IsStorableUnitType (object : Object) (entry : UnitType) : Type 0 where
  pub name : IsShort entry.name
  pub definition : IsShort entry.definition
  pub some_leaf : 1 ≤ entry.leaves
  pub leaves : entry.leaves ≤ 256
  pub dropper : entry.dropper ≤ length object.functions

pub record IsStorableUnitGlobal (entry : UnitGlobal) : Type 0 where
  pub name : IsShort entry.name
  pub type_name : IsShort entry.type_name

pub record IsStorableBody (object : Object) (body : FunctionBody) : Type 0 where
  pub parameters : body.parameters ≤ body.slots
  pub slots : body.slots ≤ 8192
  pub regions : length body.regions < 2 ^ 32
  pub each_region : All IsStorableRegion body.regions
  pub indices : All (HasIndex object) body.code
  pub caught : All (HasCaught object) body.regions

pub record IsStorableUnitFunction (object : Object) (function : UnitFunction) : Type 0 where
  pub name : IsShort function.name
  pub signature : IsShort function.signature
  pub specifiers : IsShort function.specifiers
  pub definition : IsShort (definition_text function.form)
  pub body : IfSome (body_of function.form) (IsStorableBody object)

pub record IsStorableUnitAssertion (object : Object) (assertion : Assertion) : Type 0 where
  pub function : assertion.function < length object.functions
  pub ordinal : 1 ≤ assertion.ordinal
  pub file : assertion.file < length object.texts
  pub comment : assertion.comment < length object.texts

-- each field has a value that its row allows, no limit is passed, and each index is in its table
pub record IsStorableObject (object : Object) : Type 0 where
  pub unit : IsShort object.unit
  pub texts : length object.texts < 2 ^ 32
  pub each_text : All IsShort object.texts
  pub types : length object.types < 2 ^ 32
  pub each_type : All (IsStorableUnitType object) object.types
  pub globals : length object.globals < 2 ^ 32
  pub each_global : All IsStorableUnitGlobal object.globals
  pub functions : length object.functions ≤ 262144
  pub each_function : All (IsStorableUnitFunction object) object.functions
  pub instructions : sum_by (λ (f : UnitFunction). instruction_count f.form) object.functions ≤ 8388608
  pub assertions : length object.assertions ≤ 4096
  pub each_assertion : All (IsStorableUnitAssertion object) object.assertions
  pub bytes : IsShort (object_spelling object)
