use Rattle.ox_index.specs.PairLaws.{told_by_entries}
use Rattle.ox_index.proofs.laws.indexes_are_told_by_their_entries.Goals as goal

pub returns : goal.returns
returns c = told_by_entries
