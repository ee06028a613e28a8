use Rattle.std.proofs.Common.{ap, Err}
use Rattle.ox_wal.proofs.wal.Wal.replay.Goals as goal

pub returns-in-Err-clause-damaged : goal.returns-in-Err-clause-damaged
returns-in-Err-clause-damaged g c = λ half at is. c.in-Err.ensures.damaged half at (ap Err is)
