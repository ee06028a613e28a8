use Rattle.ox_table.specs.TableLaws.{IsRising-inserted, IsRising-filter}
use Rattle.ox_table.proofs.laws.edits_keep_the_order.Goals as goal

pub returns-clause-inserted : goal.returns-clause-inserted
returns-clause-inserted g c = IsRising-inserted

pub returns-clause-removed : goal.returns-clause-removed
returns-clause-removed g c = λ pairs key. IsRising-filter _ pairs

pub returns-clause-within : goal.returns-clause-within
returns-clause-within g c = λ range pairs. IsRising-filter _ pairs

pub returns-clause-without : goal.returns-clause-without
returns-clause-without g c = λ range pairs. IsRising-filter _ pairs
