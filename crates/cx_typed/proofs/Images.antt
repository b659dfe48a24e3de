-- Images that stand for units of `main` alone with typed statements are faithful.
use Rattle.std.proofs.Common.{◌≡◌, sym, ap, ◌∙◌, subst, List, [], length, ◌+◌}
use Rattle.cx_code.specs.declared.image.Image.{Image}
use Rattle.cx_code.specs.declared.image.GlobalEntry.{GlobalEntry}
use Rattle.cx_code.specs.Store.{nothing_made}
use Rattle.cx_code.specs.State.{with_globals}
use Rattle.cx_core.specs.Tree.{Constant}
use Rattle.cx_core.specs.Program.{Program}
use Rattle.cx_core.specs.Meaning.{globals_from}
use Rattle.cx_emit.specs.Values.{IsStore}
use Rattle.cx_emit.specs.Units.{HaveGlobals, ImagesOfMainAreFaithful}
use Rattle.cx_typed.specs.Unit.{program_of, body_of}
use Rattle.cx_typed.specs.Laws.{ImagesOfTypedUnitsAreFaithful}
use Rattle.cx_typed.proofs.Renaming.{body_typed}
use Rattle.cx_typed.proofs.Units.{have_program}
use Rattle.cx_typed.proofs.Whole.{well_made}

no_globals : (image : Image) (program : Program) → image.globals ≡ [] → program.globals ≡ [] → HaveGlobals image program
no_globals image program e f = record {
  same_store = subst (λ (globals : List Constant). IsStore (globals_from 1 globals) (with_globals nothing_made image.globals)) (sym f)
      (subst (λ (entries : List GlobalEntry). IsStore [] (with_globals nothing_made entries)) (sym e) (λ n. tt {0}));
  same_next = ap (λ (entries : List GlobalEntry). (with_globals nothing_made entries).next) e ∙ sym (ap (λ (globals : List Constant). length globals + 1) f);
}

pub images_of_typed_units : ImagesOfMainAreFaithful → ImagesOfTypedUnitsAreFaithful
images_of_typed_units faithful image semantic unit statements alone are_typed no_handler none stands =
    let has = have_program semantic unit statements alone in
    faithful image (program_of semantic unit) (body_of semantic unit statements) (well_made (program_of semantic unit) unit.assertions (body_of semantic unit statements) has.0 has.1 has.2 (body_typed semantic unit statements are_typed))
    (record { in_image = no_handler; in_program = has.1 }) has.0 stands (no_globals image (program_of semantic unit) none has.2)
