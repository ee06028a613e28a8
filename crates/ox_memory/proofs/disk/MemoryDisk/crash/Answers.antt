use Rattle.ox_memory.proofs.Moments.{image_left}
use Rattle.ox_memory.proofs.disk.MemoryDisk.crash.Goals as goal

pub returns-clause-left : goal.returns-clause-left
returns-clause-left c = image_left _ _ c.args.self.now.calls _ c.note.ensures.items c.args.self.now.fits
