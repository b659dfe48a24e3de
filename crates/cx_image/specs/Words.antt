-- The numbers of an image that no limit bounds are of 32 bits, as each number of the program is; a clause that speaks of every image of ghost numbers has this as its premise.
use Rattle.std.specs.List.{All}
use Rattle.cx_code.specs.declared.image.Image.{Image}
use Rattle.cx_code.specs.declared.image.GlobalEntry.{GlobalEntry}
use Rattle.cx_code.specs.declared.image.Function.{Function}
use Rattle.cx_fields.specs.Numbers.{OfWords, OfPlaces, OfHalves, OfPosition}

abbrev pub GlobalOfWords : GlobalEntry → Type 0
GlobalOfWords entry = OfHalves entry.initial

pub record FunctionOfWords (function : Function) : Type 0 where
  pub code : All OfWords function.code
  pub regions : All OfPlaces function.regions

pub record ImageOfWords (image : Image) : Type 0 where
  pub globals : All GlobalOfWords image.globals
  pub functions : All FunctionOfWords image.functions
  pub assertions : All OfPosition image.assertions
