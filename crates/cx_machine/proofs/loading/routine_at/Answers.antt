use Rattle.cx_machine.proofs.Loaded.{known_at}
use Rattle.cx_machine.proofs.loading.routine_at.Goals as goal

pub returns : goal.returns
returns c = known_at c.args.image.now c.args.program.now c.args.index c.index.result.now c.requires.loaded c.requires.within c.index.ensures
