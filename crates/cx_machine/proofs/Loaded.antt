-- What was found out of the functions of an image.
use Rattle.std.proofs.Common.{◌≡◌, ℕ, ◌<◌, List, map, length, get_or, Option, Some, None, IfSome, option_and_then, option_map, slice_get, refl, sym, ap, ◌∙◌, arith}
use Rattle.std.proofs.lemmas.List.{length-map}
use Rattle.std.proofs.lemmas.Option.{slice_get-map, slice_get_read}
use Rattle.cx_code.specs.declared.image.Image.{Image}
use Rattle.cx_code.specs.declared.image.Function.{Function}
use Rattle.cx_code.specs.declared.code.Instruction.{Instruction}
use Rattle.cx_code.specs.declared.operation.Operation.{Operation}
use Rattle.cx_code.specs.Operation.{operation_of}
use Rattle.cx_code.specs.Run.{code_of}
use Rattle.cx_machine.specs.declared.loading.Routine.{Routine}
use Rattle.cx_machine.specs.declared.loading.Program.{Program}
use Rattle.cx_machine.specs.Loading.{Meaning, meaning_of, known_of, IsLoaded}

as_many : (image : Image) (program : Program) → IsLoaded image program → length program.routines.items ≡ length image.functions
as_many image program loaded = simp length-map at (ap length loaded)

pub known_at : (image : Image) (program : Program) (index : ℕ) (routine : Routine) → IsLoaded image program → index < length image.functions → routine ≡ get_or program.routines.items index routine
    → option_map meaning_of (slice_get image.functions index) ≡ Some (known_of routine)
known_at image program index routine loaded lt is =
    let size : index < length program.routines.items = omega (arith, as_many image program loaded) in
    let here = slice_get_read program.routines.items (length program.routines.items) index routine refl size is in
    sym (slice_get-map meaning_of image.functions index) ∙ ap (λ (all : List Meaning). slice_get all index) (sym loaded) ∙ slice_get-map known_of program.routines.items index ∙ ap (option_map known_of) here

pub regions_at : (function : Option Function) (its : Function) (routine : Routine) → function ≡ Some its → option_map meaning_of function ≡ Some (known_of routine) → its.regions ≡ routine.regions
regions_at function its routine is known =
    let same : Some (meaning_of its) ≡ Some (known_of routine) = ap (option_map meaning_of) (sym is) ∙ known in
    let meaning : meaning_of its ≡ known_of routine = cc in
    ap (λ (m : Meaning). m.regions) meaning

operation_from : (i : Option Instruction) (operation : Operation) → option_map operation_of i ≡ Some (Some operation) → option_and_then operation_of i ≡ Some operation
operation_from None operation e = absurd cc
operation_from (Some i) operation e = cc

operations_at : (its : Function) (routine : Routine) → meaning_of its ≡ known_of routine → map operation_of its.code ≡ map Some routine.operations.items
operations_at its routine same = ap (λ (m : Meaning). m.operations) same

pub meaning_at : (function : Option Function) (its : Function) (routine : Routine) → function ≡ Some its → option_map meaning_of function ≡ Some (known_of routine) → meaning_of its ≡ known_of routine
meaning_at function its routine is known =
    let same : Some (meaning_of its) ≡ Some (known_of routine) = ap (option_map meaning_of) (sym is) ∙ known in
    cc

-- as many operations as instructions
pub operation_within : (function : Option Function) (routine : Routine) (place : ℕ) → option_map meaning_of function ≡ Some (known_of routine) → IfSome function (λ (its : Function). place < length its.code)
    → place < length routine.operations.items
operation_within None routine place known within = absurd cc
operation_within (Some its) routine place known within =
    let size : length its.code ≡ length routine.operations.items = simp length-map at (ap length (operations_at its routine (meaning_at (Some its) its routine refl known))) in
    omega (arith, size, within)

pub operation_is : (function : Option Function) (routine : Routine) (place : ℕ) (operation : Operation) → option_map meaning_of function ≡ Some (known_of routine)
    → slice_get routine.operations.items place ≡ Some operation → option_and_then operation_of (slice_get (code_of function) place) ≡ Some operation
operation_is None routine place operation known is = absurd cc
operation_is (Some its) routine place operation known is =
    let all = operations_at its routine (meaning_at (Some its) its routine refl known) in
    operation_from (slice_get its.code place) operation
    (sym (slice_get-map operation_of its.code place) ∙ ap (λ (l : List (Option Operation)). slice_get l place) all ∙ slice_get-map Some routine.operations.items place ∙ ap (option_map Some) is)
