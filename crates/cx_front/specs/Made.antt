-- What is known of the parts that are made of a tree: this project's own.
use Rattle.std.specs.Prelude.{◌≡◌, ℕ, false, List, [], ◌∷◌, ◌++◌, Option, Some, None, codes, length, not, slice_get}
use Rattle.std.specs.Option.{option_map}
use Rattle.std.specs.List.{All}
use Rattle.cx_syntax.specs.Tree as grammar
use Rattle.cx_syntax.specs.Tree.{local}
use Rattle.cx_includes.specs.declared.assembled.Assembled.{Assembled}
use Rattle.cx_core.specs.declared.unit.CoreUnit.{CoreUnit}
use Rattle.cx_core.specs.declared.statement.Statement.{Statement}
use Rattle.cx_core.specs.Tree as core
use Rattle.cx_core.specs.View.{stmts_of}
use Rattle.cx_core.specs.declared.unit.Function.{Function}
use Rattle.cx_core.specs.declared.unit.ResultKind.TheVariants as results
use Rattle.cx_typed.specs.Unit.{HasStatements, IsMainAlone}
use Rattle.cx_front.specs.Front.{Names, DeclaresMain, all_assertions_in, both, body_in, bytes_of, expr_in, is_declaration, main_type, name_of_file, only_if, return_of, asserted_at, statements_in, stmt_in, stmts_in, table_in, type_in, with_typed_name}

-- a part that is made, or none, stands for what is wanted
abbrev pub StandsFor : {A T : Type 0} → (A → T) → Option T → Option A → Type 0
StandsFor view wanted told = option_map view told ≡ wanted

-- tokens behind a text, each with a space in front
abbrev pub spelled : List ℕ → List (List ℕ) → List ℕ
spelled text [] = text
spelled text (word ∷ words) = spelled (text ++ 32 ∷ word) words

-- an assertion statement whose word is the token at a place
abbrev pub is_asserted : Assembled → (ordinal : ℕ) → Names → (i : ℕ) → grammar.Expr → Option (core.Stmt ℕ)
is_asserted list ordinal names i e = both (asserted_at ordinal) (slice_get list.placed i) (expr_in list names e)

-- `return` with a value, where it has one
abbrev pub returned_in : Assembled → Names → Option grammar.Expr → Option (core.Stmt ℕ)
returned_in list names None = None
returned_in list names (Some e) = option_map return_of (expr_in list names e)

-- what is visible behind a declaration
abbrev pub names_with : Names → grammar.Local → Names
names_with names (local type name i init) = with_typed_name names name (type_in type)

-- a branch of `if`, or the body of a loop
abbrev pub branch_in : Assembled → (ordinal : ℕ) → Names → grammar.Stmt → Option (core.Stmt ℕ)
branch_in list ordinal names s = only_if (not (is_declaration s)) (stmt_in list ordinal (length names) names s)

-- a definition of `main` with these statements
pub record IsMain (statements : List Statement) (main : Function) : Type 0 where
  pub is_named : main.name ≡ codes "main"
  pub may_throw : main.noexcept ≡ false
  pub gives_status : main.result ≡ results.ExitStatus
  pub no_preconditions : main.preconditions ≡ []
  pub no_postconditions : main.postconditions ≡ []
  pub is_defined : HasStatements main.body statements

-- the unit of a list that defines `main` with these statements, and nothing else
pub record IsUnitWith (list : Assembled) (statements : List Statement) (unit : CoreUnit) : Type 0 where
  pub alone : IsMainAlone unit statements
  pub declares : All (DeclaresMain list) unit.functions
  pub function_types : unit.function_types ≡ main_type ∷ []
  pub definitions : unit.definitions ≡ 0 ∷ []
  pub name : unit.name ≡ name_of_file list 0
  pub no_calls : unit.calls ≡ []
  pub tokens : unit.tokens ≡ length list.placed
  pub bytes : unit.bytes ≡ bytes_of list

-- the unit of a list whose `main` has the statements of a tree
pub record MadeOf (list : Assembled) (tree : grammar.Stmts) (unit : CoreUnit) : Type 0 where
  pub statements : List Statement
  pub is : IsUnitWith list statements unit
  pub body : stmts_in list 1 0 [] tree ≡ Some (stmts_of statements)
  pub assertions : unit.assertions ≡ all_assertions_in list 1 tree

-- the unit is that of the tree
pub record MadeUnit (list : Assembled) (tree : grammar.UnitTree) (unit : CoreUnit) : Type 0 where
  pub statements : List Statement
  pub is : IsUnitWith list statements unit
  pub body : body_in list (statements_in list tree) ≡ Some (stmts_of statements)
  pub assertions : unit.assertions ≡ table_in list (statements_in list tree)
