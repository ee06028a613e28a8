use Rattle.ox_wire.proofs.Ruled.{append_is, append_from}
use Rattle.ox_wire.proofs.law.law_append.Goals as goal

pub returns : goal.returns
returns c = λ term from commit entries. (append_is term from commit entries, append_from term from commit entries)
