use Rattle.std.proofs.Common.{◌≡◌, length, arith, ap, sym, subst}
use Rattle.cx_includes.specs.Taking.{Adds}
use Rattle.cx_includes.proofs.Soundness.{sound_pushed}
use Rattle.cx_includes.proofs.taking.Taking.open_first.Goals as goal

pub returns-clause-sound : goal.returns-clause-sound
returns-clause-sound g c =
    let old = c.args.self.now in
    let last : c.in_ok-file.file ≡ length old.sources.items = omega (arith, c.in_ok-file.ensures, c.len.ensures) in
    let added = subst (λ n. Adds c.args.name.now n old.names c.add.new.self) last c.in_ok-add.ensures in
    let adds = subst (Adds c.args.name.now (length old.sources.items) old.names) (sym c.in_ok-keep.ensures.names) added in
    sound_pushed old _ c.in_ok-source.source c.args.name.now c.requires.sound c.in_ok-keep.ensures.ok adds c.requires.unknown c.in_ok-source.ensures.name c.in_ok-source.ensures.source
    (omega (arith, c.in_ok-keep.ensures.bytes, c.in_ok-text.ensures.fits, ap length c.bytes.ensures)) c.in_ok-keep.ensures.placed
