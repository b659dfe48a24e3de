-- A unit whose names, types and contracts are checked, as far as its meaning takes part in that of a program: plain trees and tables, in which functions, classes, globals and assertions go by their index. This is this project's own.
use Rattle.std.specs.Prelude.{ℕ, Bool, true, false, List, Option, Some, None}
use Rattle.cx_core.specs.declared.unit.CallSite.{CallSite}
use Rattle.cx_core.specs.Tree.{ObjectType, Constant, Assertion, Specifier}
use Rattle.cx_core.specs.Program.{Body, ResultKind, Class}

-- what the type of a function says of its result or of a parameter
pub data PartType : Type 0 where
  void : PartType
  -- an object of its own
  object : ObjectType → PartType
  reference : (to : ObjectType) → PartType
  -- what a violation handler is called with
  violation : PartType

-- the type of a function [dcl.fct], `this` and `noexcept` aside; its name is how it is written, which is the same for the same type in all units
pub record FunctionType : Type 0 where
  pub name : List ℕ
  pub result : PartType
  pub parameters : List PartType

-- a function with its first declaration in the unit, and its definition there, if there is one
pub record UnitFunction : Type 0 where
  pub name : List ℕ
  -- its type, by the unit's table
  pub type : ℕ
  -- code of the unit calls or names it; one that no code needs may be defined nowhere
  pub is_needed : Bool
  pub noexcept : Bool
  pub named_parameters : ℕ
  pub result : ResultKind
  pub preconditions : List (Specifier ℕ)
  pub postconditions : List (Specifier ℕ)
  pub body : Option (Body ℕ)

pub record UnitClass : Type 0 where
  pub name : List ℕ
  pub definition : Option Class

pub record UnitGlobal : Type 0 where
  pub name : List ℕ
  pub type : ObjectType
  -- code of the unit names it; one that no code names may be defined nowhere
  pub is_named : Bool
  -- where it is defined
  pub value : Option Constant

pub record TranslationUnit : Type 0 where
  pub name : List ℕ
  pub classes : List UnitClass
  pub globals : List UnitGlobal
  pub functions : List UnitFunction
  pub function_types : List FunctionType
  -- the functions that it defines, in order of place
  pub definitions : List ℕ
  pub assertions : List Assertion
  -- the direct calls that stand in it, in order of place
  pub calls : List CallSite
  pub tokens : ℕ

abbrev pub is_defined : {A : Type 0} → Option A → Bool
is_defined None = false
is_defined (Some definition) = true
