use Rattle.ox_journal.specs.Chain.{FilesHold}
use Rattle.ox_journal.specs.ChainLaws.{joined}
use Rattle.ox_journal.proofs.journal.Journal.law_joined.Goals as goal

pub returns : goal.returns
returns g c = λ steps more first mid last front rest. joined g.D.Disk.shows FilesHold steps more first mid last front rest
