use Rattle.ox_memory.proofs.Placing.{grows}
use Rattle.ox_memory.proofs.replay.make_image.Goals as goal

pub returns-in-NoneKept-clause-no_longer : goal.returns-in-NoneKept-clause-no_longer
returns-in-NoneKept-clause-no_longer c = grows _ c.args.calls.now c.requires.fits
