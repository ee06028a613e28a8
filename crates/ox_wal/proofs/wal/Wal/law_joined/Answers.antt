use Rattle.ox_journal.specs.ChainLaws.{joined}
use Rattle.ox_wal.specs.Files.{StandsAs}
use Rattle.ox_wal.proofs.wal.Wal.law_joined.Goals as goal

pub returns : goal.returns
returns g c = λ steps more first mid last front rest. joined g.D.Disk.shows StandsAs steps more first mid last front rest
