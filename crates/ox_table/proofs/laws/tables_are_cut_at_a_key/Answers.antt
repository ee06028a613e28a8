use Rattle.ox_table.specs.TableLaws.{split-pairs, having-pairs, removed-pairs}
use Rattle.ox_table.proofs.laws.tables_are_cut_at_a_key.Goals as goal

pub returns-clause-cut : goal.returns-clause-cut
returns-clause-cut g c = split-pairs

pub returns-clause-found : goal.returns-clause-found
returns-clause-found g c = having-pairs

pub returns-clause-removed : goal.returns-clause-removed
returns-clause-removed g c = removed-pairs
