use Rattle.std.proofs.Common.{ap}
use Rattle.cx_includes.specs.declared.part.Part.TheVariants.{Line}
use Rattle.cx_includes.specs.Taking.{PartTakes, taken, source_at}
use Rattle.cx_includes.proofs.Takings.{part_is, took}
use Rattle.cx_includes.proofs.taking.Taking.pass_line.Goals as goal

pub returns-in-Once-clause-passed : goal.returns-in-Once-clause-passed
returns-in-Once-clause-passed g c = λ folder agrees.
    part_is folder (source_at c.args.self.now c.args.file).file.name (source_at c.args.self.now c.args.file).file.text (taken c.args.self.now) (taken c.args.self.now) _ _ (ap (λ d. Line d c.args.line) c.in-Once.is) PartTakes.once

pub returns-in-Contracts-clause-passed : goal.returns-in-Contracts-clause-passed
returns-in-Contracts-clause-passed g c = λ folder agrees.
    took folder (source_at c.args.self.now c.args.file).file.name (source_at c.args.self.now c.args.file).file.text (taken c.args.self.now) _ _ _ c.note_contracts.ensures.taken
    (part_is folder (source_at c.args.self.now c.args.file).file.name (source_at c.args.self.now c.args.file).file.text (taken c.args.self.now) _ _ _ (ap (λ d. Line d c.args.line) c.in-Contracts.is) PartTakes.contracts)

pub returns-in-Cstdio-clause-passed : goal.returns-in-Cstdio-clause-passed
returns-in-Cstdio-clause-passed g c = λ folder agrees.
    took folder (source_at c.args.self.now c.args.file).file.name (source_at c.args.self.now c.args.file).file.text (taken c.args.self.now) _ _ _ c.note_cstdio.ensures.taken
    (part_is folder (source_at c.args.self.now c.args.file).file.name (source_at c.args.self.now c.args.file).file.text (taken c.args.self.now) _ _ _ (ap (λ d. Line d c.args.line) c.in-Cstdio.is) PartTakes.cstdio)
