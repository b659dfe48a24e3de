-- A program with its plan: the functions, classes and globals of its units, each under one number, and the checks that each unit makes as Caller; this project's own form of what P2900R14 calls the choice of evaluation semantics and of repetitions.
use Rattle.std.specs.Prelude.{ℕ, Bool, true, false, List, Option}
use Rattle.cx_core.specs.Tree.{ObjectType, Constant, Init, Check, Specifier, Stmts}

-- the checks before a function's body and after it
pub record Checks : Type 0 where
  pub preconditions : List (Specifier Check)
  pub postconditions : List (Specifier Check)

-- a field of the class whose constructor this is, by its leaf, with its initialiser
pub record FieldInit : Type 0 where
  pub leaf : ℕ
  pub type : ObjectType
  pub init : Init

-- what a call does between its checks, where an A stands for an assertion; `this` is the first parameter of the last five, and of member functions
pub data Body (A : Type 0) : Type 0 where
  function : Stmts A → Body A
  constructor : List FieldInit → Stmts A → Body A
  destructor : (class : ℕ) → Stmts A → Body A
  implicit_constructor : (class : ℕ) → Body A
  implicit_copy_constructor : (class : ℕ) → Body A
  implicit_destructor : (class : ℕ) → Body A

-- what a call gives
pub data ResultKind : Type 0 where
  void : ResultKind
  scalar_value : ResultKind
  -- of a function with a postcondition
  scalar_object : ResultKind
  class_object : (class : ℕ) → ResultKind
  reference : ResultKind
  -- that of `main`, whose end need not be reached by `return`
  exit_status : ResultKind

pub record Function : Type 0 where
  -- the unit whose definition it is
  pub definer : ℕ
  pub noexcept : Bool
  pub result : ResultKind
  -- those that the Definer makes
  pub checks : Checks
  pub body : Body Check

-- a leaf of a class object, as zero-initialisation [dcl.init.general] sees it
pub data LeafKind : Type 0 where
  number_leaf pointer_leaf : LeafKind
  -- that of a class without fields
  empty_leaf : LeafKind

pub record Field : Type 0 where
  pub leaf : ℕ
  pub type : ObjectType

pub record Class : Type 0 where
  pub name : List ℕ
  pub fields : List Field
  pub leaves : List LeafKind
  -- the class objects in it, itself included
  pub objects : ℕ
  -- declared or implicit; the first is the constructor without parameters
  pub default_constructor : Option ℕ
  pub copy_constructor : ℕ
  pub destructor : ℕ

pub record Program : Type 0 where
  pub functions : List Function
  pub classes : List Class
  pub globals : List Constant
  -- for each unit and function, the checks that the unit makes as Caller
  pub callers : List (List Checks)
  pub main : ℕ
  pub handler : Option ℕ

-- the depth of calls counts what the source defines
abbrev pub is_counted : {A : Type 0} → Body A → Bool
is_counted (implicit_constructor class) = false
is_counted (implicit_copy_constructor class) = false
is_counted (implicit_destructor class) = false
is_counted body = true
