-- The program of one unit under one evaluation semantic, and the units of `main` alone: this project's own, for [basic.start.main] of the C++ draft.
use Rattle.std.specs.Prelude.{◌≡◌, ℕ, ◌+◌, false, List, [], ◌∷◌, ◌++◌, Option, Some, codes}
use Rattle.std.specs.Fmt.{decimal}
use Rattle.cx_code.specs.declared.image.AssertionKind.TheVariants as kinds
use Rattle.cx_core.specs.declared.choice.Calls.TheVariants as calls
use Rattle.cx_core.specs.declared.unit.CoreUnit.{CoreUnit}
use Rattle.cx_core.specs.declared.unit.Function.{Function}
use Rattle.cx_core.specs.declared.unit.Assertion.{Assertion}
use Rattle.cx_core.specs.declared.unit.Body.{Body}
use Rattle.cx_core.specs.declared.unit.Body.TheVariants as bodies
use Rattle.cx_core.specs.declared.unit.ResultKind.TheVariants as results
use Rattle.cx_core.specs.declared.statement.Statement.{Statement}
use Rattle.cx_core.specs.Words.{Semantic, Definer}
use Rattle.cx_core.specs.Tree.{Check, Stmts}
use Rattle.cx_core.specs.Program.{Program}
use Rattle.cx_core.specs.View.{unit_of, stmts_of}
use Rattle.cx_core.specs.Renamed.{Names, renamed_stmts}
use Rattle.cx_core.specs.Numbers.{Planned, block_numbers}
use Rattle.cx_core.specs.Linked.{linked, names_of, check_at}

-- each assertion of the unit has the one semantic, the definer evaluates it, and once where it is evaluated
abbrev pub planned : Semantic → CoreUnit → Planned
planned semantic unit = record { unit = unit_of unit; choice = record { semantic = semantic; calls = calls.Nothing; repeat = 0 }; semantic = λ name. semantic }

abbrev pub program_of : Semantic → CoreUnit → Program
program_of semantic unit = linked (planned semantic unit ∷ [])

-- the names of the unit's trees in that program, and what stands there for its assertions
abbrev pub unit_names : Semantic → CoreUnit → Names
unit_names semantic unit = names_of (planned semantic unit ∷ []) (planned semantic unit)

abbrev pub unit_check : Semantic → CoreUnit → ℕ → Check
unit_check semantic unit a = check_at (planned semantic unit) (block_numbers (planned semantic unit ∷ []) 0 Definer) a

abbrev pub body_of : Semantic → CoreUnit → List Statement → Stmts Check
body_of semantic unit statements = renamed_stmts (unit_names semantic unit) (unit_check semantic unit) (stmts_of statements)

-- a function's definition has these statements
abbrev pub HasStatements : Option Body → List Statement → Type 0
HasStatements (Some (bodies.Function b)) statements = b.items ≡ statements
HasStatements other statements = ⊥

-- the unit defines `main` with these statements, and nothing else
pub record IsMainAlone (unit : CoreUnit) (statements : List Statement) : Type 0 where
  pub no_classes : unit.classes ≡ []
  pub no_globals : unit.globals ≡ []
  pub main : Function
  pub alone : unit.functions ≡ main ∷ []
  pub is_named : main.name ≡ codes "main"
  pub may_throw : main.noexcept ≡ false
  pub gives_status : main.result ≡ results.ExitStatus
  pub no_preconditions : main.preconditions ≡ []
  pub no_postconditions : main.postconditions ≡ []
  pub is_defined : HasStatements main.body statements

-- the assertions of `main` are named by their ordinal, from this one on
abbrev pub AreNumbered : (ordinal : ℕ) → List Assertion → Type 0
AreNumbered ordinal [] = Unit {0}
AreNumbered ordinal (a ∷ assertions) = (a.kind ≡ kinds.Assert) × (a.name ≡ codes "main#assert" ++ decimal ordinal) × AreNumbered (ordinal + 1) assertions
