use Rattle.std.proofs.Common.{◌≡◌, ℕ, ◌≤◌, List, [], refl, sym, subst}
use Rattle.cx_core.specs.declared.unit.CoreUnit.{CoreUnit}
use Rattle.cx_core.specs.Tree.{Stmts, Check}
use Rattle.cx_core.specs.declared.statement.Statement.{Statement}
use Rattle.cx_core.specs.Words.{Semantic}
use Rattle.cx_core.specs.View.{stmts_of}
use Rattle.cx_typed.specs.Built.{most_weight}
use Rattle.cx_typed.specs.Weight.{stmts_weight}
use Rattle.cx_typed.specs.Unit.{body_of}
use Rattle.cx_typed.proofs.Renaming.{body_typed, body_weight}
use Rattle.cx_lower.specs.Tables.{image_of, image_with}
use Rattle.cx_lower.proofs.Main.{body_stands}
use Rattle.cx_lower.proofs.Valid.{image_is_valid}
use Rattle.cx_lower.proofs.Unread.{reads_nothing}
use Rattle.cx_lower.proofs.lowering.lower.Goals as goal

no_handler : (unit : CoreUnit) (b : Stmts Check) → (image_of unit b).handler ≡ 0
unfolding image_with
no_handler unit b = refl

no_globals : (unit : CoreUnit) (b : Stmts Check) → (image_of unit b).globals ≡ []
unfolding image_with
no_globals unit b = refl

light : (semantic : Semantic) (unit : CoreUnit) (statements : List Statement) → stmts_weight (stmts_of statements) ≤ most_weight → stmts_weight (body_of semantic unit statements) ≤ most_weight
light semantic unit statements h = subst (λ (n : ℕ). n ≤ most_weight) (sym (body_weight semantic unit statements)) h

pub returns-clause-valid : goal.returns-clause-valid
returns-clause-valid c =
    let built = c.requires.built.1 in
    let body = body_of c.args.semantic c.args.unit.now c.requires.built.0 in
    rw (c.in_ok-image.ensures.image c.requires.built.0 built.alone)
    (image_is_valid c.args.unit.now body (body_typed c.args.semantic c.args.unit.now c.requires.built.0 built.typed) built.numbered (light c.args.semantic c.args.unit.now c.requires.built.0 built.light) built.few_assertions built.short_comments built.short_files built.short_name)

pub returns-clause-no_handler : goal.returns-clause-no_handler
returns-clause-no_handler c =
    let body = body_of c.args.semantic c.args.unit.now c.requires.built.0 in
    rw (c.in_ok-image.ensures.image c.requires.built.0 c.requires.built.1.alone) (no_handler c.args.unit.now body)

pub returns-clause-reads : goal.returns-clause-reads
returns-clause-reads c =
    let body = body_of c.args.semantic c.args.unit.now c.requires.built.0 in
    rw (c.in_ok-image.ensures.image c.requires.built.0 c.requires.built.1.alone) (reads_nothing c.args.unit.now body)

pub returns-clause-stands : goal.returns-clause-stands
returns-clause-stands c =
    let unit = c.args.unit.now in
    let statements = c.requires.built.0 in
    let built = c.requires.built.1 in
    let body = body_of c.args.semantic unit statements in
    (statements, built.alone, rw (c.in_ok-image.ensures.image statements built.alone) (body_stands unit body (body_typed c.args.semantic unit c.requires.built.0 built.typed) built.numbered built.few_assertions))

pub returns-clause-faithful : goal.returns-clause-faithful
returns-clause-faithful c =
    let unit = c.args.unit.now in
    let built = c.requires.built.1 in
    let body = body_of c.args.semantic unit c.requires.built.0 in
    rw (c.in_ok-image.ensures.image c.requires.built.0 built.alone)
    (c.images_of_typed_units_are_faithful.ensures (image_of unit body) c.args.semantic unit c.requires.built.0 built.alone built.typed (no_handler unit body) (no_globals unit body)
    (body_stands unit body (body_typed c.args.semantic unit c.requires.built.0 built.typed) built.numbered built.few_assertions))
