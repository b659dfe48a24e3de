-- Which image stands for a program of one function, `main`: this project's own.
use Rattle.std.specs.Prelude.{◌≡◌, ℕ, pos, Bool, true, false, [], Some, slice_get, ◌+◌, length}
use Rattle.cx_code.specs.declared.image.Image.{Image}
use Rattle.cx_code.specs.declared.image.Function.{Function}
use Rattle.cx_code.specs.declared.operation.Operation.TheVariants as does
use Rattle.cx_code.specs.Store.{nothing_made}
use Rattle.cx_code.specs.State.{with_globals}
use Rattle.cx_core.specs.Tree.{Check, Stmts}
use Rattle.cx_core.specs.Program.{Program, Checks, exit_status}
use Rattle.cx_core.specs.Program as source
use Rattle.cx_core.specs.Meaning.{globals_from}
use Rattle.cx_core.specs.Runs.{IsFaithful}
use Rattle.cx_simulation.specs.ImageMachine.{image_run}
use Rattle.cx_simulation.specs.Parts.{IsWellMade}
use Rattle.cx_emit.specs.Values.{IsStore}
use Rattle.cx_emit.specs.Configuration.{operation_at, Has}
use Rattle.cx_emit.specs.Checks.{GoesOn, HaveDefaultHandler}
use Rattle.cx_emit.specs.Scopes.{around_body}
use Rattle.cx_emit.specs.Statements.{StandsStmts}

abbrev pub no_checks : Checks
no_checks = record { preconditions = []; postconditions = [] }

-- `main` is a function with this body, and has no preconditions and postconditions
pub record IsMain (program : Program) (b : Stmts Check) : Type 0 where
  pub definer : ℕ
  pub noexcept : Bool
  pub is_defined : slice_get program.functions program.main ≡ Some (record { definer = definer; noexcept = noexcept; result = exit_status; checks = no_checks; body = source.function b })

-- the image's first function, which counts for the depth of calls, calls another one, which has the code of the body;
-- where the end of the body is reached, 0 is returned [basic.start.main]
pub record StandsMain (image : Image) (b : Stmts Check) : Type 0 where
  pub shell : Function
  pub is_first : slice_get image.functions image.main ≡ Some shell
  pub gives_value : shell.result ≡ true
  pub body : ℕ
  pub calls_body : operation_at image image.main 0 ≡ Some (does.Call body 0)
  pub returns : operation_at image image.main 1 ≡ Some does.Return
  pub code : Function
  pub is_body : slice_get image.functions body ≡ Some code
  pub is_uncounted : code.counted ≡ false
  pub body_gives_value : code.result ≡ true
  pub end : ℕ
  pub behind : ℕ
  pub exit : ℕ
  pub stands : StandsStmts image body (around_body exit) [] b 0 end
  pub ends_with_zero : Has image body end (does.Push (pos 0)) behind
  pub then_exits : GoesOn image body behind exit
  pub exits : operation_at image body exit ≡ Some does.Return

-- the globals begin alike
pub record HaveGlobals (image : Image) (program : Program) : Type 0 where
  pub same_store : IsStore (globals_from 1 program.globals) (with_globals nothing_made image.globals)
  pub same_next : (with_globals nothing_made image.globals).next ≡ length program.globals + 1

-- an image that stands for a well made program of `main` alone, whose contract assertions are evaluated once each or not at
-- all, has only runs that the program permits
abbrev pub ImagesOfMainAreFaithful : Type 0
ImagesOfMainAreFaithful =
    (image : Image) (program : Program) (b : Stmts Check) → IsWellMade program → HaveDefaultHandler image program → IsMain program b → StandsMain image b → HaveGlobals image program
    → IsFaithful (image_run image) program
