use Rattle.ox_table.specs.TableLaws.{sum_by-inserted, sum_by-removed, sum_by-within}
use Rattle.ox_table.proofs.laws.edits_move_sums.Goals as goal

pub returns-clause-inserted : goal.returns-clause-inserted
returns-clause-inserted g c = sum_by-inserted

pub returns-clause-removed : goal.returns-clause-removed
returns-clause-removed g c = sum_by-removed

pub returns-clause-within : goal.returns-clause-within
returns-clause-within g c = sum_by-within
