-- This defines the bytes of an object file, field by field, with the high byte of each number first; the format is this project's own and shares its fields with that of images.
use Rattle.std.specs.Prelude.{ℕ, List, [], ◌∷◌, ◌++◌, false, codes}
use Rattle.cx_code.specs.declared.object.Object.{Object}
use Rattle.cx_code.specs.declared.object.UnitType.{UnitType}
use Rattle.cx_code.specs.declared.object.UnitGlobal.{UnitGlobal}
use Rattle.cx_code.specs.declared.object.GlobalState.{GlobalState}
use Rattle.cx_code.specs.declared.object.GlobalState.TheVariants as states
use Rattle.cx_code.specs.declared.object.UnitFunction.{UnitFunction}
use Rattle.cx_code.specs.declared.object.FunctionForm.{FunctionForm}
use Rattle.cx_code.specs.declared.object.FunctionForm.TheVariants as forms
use Rattle.cx_code.specs.declared.object.FunctionBody.{FunctionBody}
use Rattle.cx_code.specs.Spelling.{number, flag, text, list, instruction, region, initial, assertion}

abbrev pub unit_type : UnitType → List ℕ
unit_type t = text t.name ++ text t.definition ++ number t.leaves ++ number t.dropper

-- whether the unit defines it, and what it holds at first; zeros where it doesn't
abbrev pub global_state : GlobalState → List ℕ
global_state states.Named = (0 ∷ []) ++ (0 ∷ []) ++ number 0 ++ number 0
global_state (states.Defined value) = (1 ∷ []) ++ initial value
global_state states.Declared = (2 ∷ []) ++ (0 ∷ []) ++ number 0 ++ number 0

abbrev pub unit_global : UnitGlobal → List ℕ
unit_global g = text g.name ++ text g.type_name ++ global_state g.state

abbrev pub form_code : FunctionForm → ℕ
form_code forms.Needed = 0
form_code (forms.Defined body) = 1
form_code (forms.Inline tokens body) = 2
form_code (forms.Helper body) = 3
form_code forms.Declared = 4

-- the tokens of an inline definition, and nothing for another function
abbrev pub definition_text : FunctionForm → List ℕ
definition_text (forms.Inline tokens body) = tokens
definition_text form = []

abbrev pub function_body : FunctionBody → List ℕ
function_body b = flag b.counted ++ number b.parameters ++ number b.slots ++ flag b.result ++ list instruction b.code ++ list region b.regions

abbrev pub no_body : List ℕ
no_body = flag false ++ number 0 ++ number 0 ++ flag false ++ number 0 ++ number 0

abbrev pub form_body : FunctionForm → List ℕ
form_body forms.Needed = no_body
form_body (forms.Defined body) = function_body body
form_body (forms.Inline tokens body) = function_body body
form_body (forms.Helper body) = function_body body
form_body forms.Declared = no_body

abbrev pub unit_function : UnitFunction → List ℕ
unit_function f =
    text f.name ++ (form_code f.form ∷ []) ++ text f.signature ++ text f.specifiers ++ text (definition_text f.form) ++ form_body f.form

unfoldable pub object_spelling : Object → List ℕ
object_spelling object =
    codes "CXOB" ++ (1 ∷ []) ++ text object.unit ++ list text object.texts ++ list unit_type object.types ++ list unit_global object.globals
    ++ list unit_function object.functions ++ list assertion object.assertions
