-- The numbers of an object that no limit bounds are of 32 bits, as each number of the program is; a clause that speaks of every object of ghost numbers has this as its premise.
use Rattle.std.specs.Prelude.{IfSome, ⊤}
use Rattle.std.specs.List.{All}
use Rattle.cx_code.specs.declared.object.Object.{Object}
use Rattle.cx_code.specs.declared.object.UnitGlobal.{UnitGlobal}
use Rattle.cx_code.specs.declared.object.GlobalState.{GlobalState}
use Rattle.cx_code.specs.declared.object.GlobalState.TheVariants as states
use Rattle.cx_code.specs.declared.object.UnitFunction.{UnitFunction}
use Rattle.cx_code.specs.declared.object.FunctionBody.{FunctionBody}
use Rattle.cx_code.specs.ObjectStorable.{body_of}
use Rattle.cx_fields.specs.Numbers.{OfWords, OfPlaces, OfHalves, OfPosition}

abbrev pub StateOfWords : GlobalState → Type 0
StateOfWords states.Named = ⊤
StateOfWords (states.Defined value) = OfHalves value
StateOfWords states.Declared = ⊤

abbrev pub GlobalOfWords : UnitGlobal → Type 0
GlobalOfWords entry = StateOfWords entry.state

pub record BodyOfWords (body : FunctionBody) : Type 0 where
  pub code : All OfWords body.code
  pub regions : All OfPlaces body.regions

abbrev pub FunctionOfWords : UnitFunction → Type 0
FunctionOfWords function = IfSome (body_of function.form) BodyOfWords

pub record ObjectOfWords (object : Object) : Type 0 where
  pub globals : All GlobalOfWords object.globals
  pub functions : All FunctionOfWords object.functions
  pub assertions : All OfPosition object.assertions
