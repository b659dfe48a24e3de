-- What is declared of the functions, classes and globals of a unit or a program, and the types of what expressions give: [basic.types], [dcl.fct] and [class.mem] of the C++ draft, const aside; that a class is the list of its leaves' types is this project's own.
use Rattle.std.specs.Prelude.{ℕ, Bool, List, Option}
use Rattle.cx_types.specs.declared.value_type.Scalar.{Scalar}
use Rattle.cx_core.specs.declared.number.IntegerType.{IntegerType}
use Rattle.cx_core.specs.Tree.{ObjectType}

-- what a leaf may hold; the one leaf of a class without fields holds no value
pub data LeafType : Type 0 where
  number_leaf : Scalar → LeafType
  pointer_leaf : (to : ObjectType) → LeafType
  function_leaf : (type : ℕ) → LeafType
  no_value : LeafType

-- what a parameter denotes: an object, its own or one that it refers to, or the violation that a handler is called with
pub data Parameter : Type 0 where
  object : ObjectType → Parameter
  report : Parameter

-- what a function gives
pub data Result : Type 0 where
  no_result : Result
  -- a scalar, a pointer or a pointer to a function
  scalar_result : ObjectType → Result
  class_result : (class : ℕ) → Result
  reference_result : (to : ObjectType) → Result
  -- that of `main`
  status : Result

-- of a function, `this` first, or of what a pointer to functions holds
pub record Signature : Type 0 where
  pub parameters : List Parameter
  pub result : Result

-- what is known of a class: nothing of one that isn't defined; the types of its leaves; and where its objects are made, copied and destroyed
pub data Layout : Type 0 where
  unknown_class : Layout
  known_class : List LeafType → Layout
  made_class : List LeafType → Layout

pub record Declared : Type 0 where
  -- none for a function that no code calls or names: it may have no definition
  pub functions : List (Option Signature)
  -- the types of the functions that pointers hold
  pub function_types : List Signature
  -- none for a global that no code names: it may have no definition
  pub globals : List (Option ObjectType)
  pub layouts : List Layout
  -- a number for each class that is greater than those of its fields' classes
  pub heights : List ℕ

-- the type of what an expression gives
pub data Given : Type 0 where
  -- a number in the range of each of these integer types
  numbers : (fits : IntegerType → Bool) → Given
  -- an address, from which on the leaves are of these types, or null: a place, a reference or a pointer
  refers : List LeafType → Given
  null_reference : Given
  -- a function of this signature, or null
  functions : Signature → Given
  a_report : Given

-- what the result name of a postcondition denotes: nothing; an object, where a pointer called the function, that no name names; or what is given
pub data ResultName : Type 0 where
  no_name : ResultName
  unnamed : Given → ResultName
  named : Given → ResultName

-- what is visible at a place of the code
pub record Context : Type 0 where
  -- what the variables and parameters denote, by slot
  pub slots : List Given
  pub result : ResultName
  -- the type of the exception object that initialises a catch parameter
  pub caught : Option ObjectType
